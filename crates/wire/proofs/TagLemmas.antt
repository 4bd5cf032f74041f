-- What stands behind the tags of a text.
use Rattle.std.proofs.Common.{◌≡◌, ◌⊎◌, ℕ, zero, suc, ◌+◌, ◌-◌, ◌<◌, ◌≤◌, Bool, true, false, ◌&&◌, ◌||◌, leb, nat_eq, List, [], ◌∷◌, ◌++◌, length, take, drop, refl, sym, ap, ◌∙◌, append_assoc, arith, inl, inr}
use Rattle.std.specs.List.{concat, AllByRecursion}
use Rattle.std.proofs.lemmas.Bool.{cases_Bool, cond-true, cond-false, and_parts, leb-true, le-leb}
use Rattle.std.proofs.lemmas.List.{length-append, length-take, take-append-drop, take-take, take_at}
use lib.Pointwise.{pointwise}
use Rattle.wire.specs.Tag.{SkipsTags, without_tags, has_outer_tag, IsOuterTag}

-- one tag more
pub without_tags-more : (n : ℕ) (t : List ℕ) → 0 < n → has_outer_tag t ≡ true → without_tags n t ≡ without_tags (n - 1) (drop 4 t)
without_tags-more zero t h e = absurd (omega arith)
without_tags-more (suc n) t h e =
    let less : suc n - 1 ≡ n = omega arith in
    cond-true (has_outer_tag t) (without_tags n (drop 4 t)) t e ∙ ap (λ (m : ℕ). without_tags m (drop 4 t)) (sym less)

-- no tag is there
pub without_tags-none : (n : ℕ) (t : List ℕ) → has_outer_tag t ≡ false → without_tags n t ≡ t
without_tags-none zero t e = refl
without_tags-none (suc n) t e = cond-false (has_outer_tag t) (without_tags n (drop 4 t)) t e

-- ---- the longest front of tags, in words and as a function

-- the test for a tag, of the two octets in front and of whether four are there
abbrev tag_test : List ℕ → Bool → Bool
tag_test front whole = (pointwise nat_eq (0x81 ∷ 0x00 ∷ []) front || pointwise nat_eq (0x88 ∷ 0xA8 ∷ []) front) && whole

four-long : (t : List ℕ) → has_outer_tag t ≡ true → 4 ≤ length t
four-long t e = leb-true 4 (length t) (and_parts _ _ e).1

IsOuterTag-take : (t : List ℕ) → has_outer_tag t ≡ true → IsOuterTag (take 4 t)
IsOuterTag-take t e =
    let long = four-long t e in
    let four : length (take 4 t) ≡ 4 = omega (arith, length-take 4 t) in
    let same : take 2 (take 4 t) ≡ take 2 t = take-take 2 4 t (omega arith) in
    let short : leb 4 (length (take 4 t)) ≡ leb 4 (length t) = le-leb 4 (length (take 4 t)) (omega arith) ∙ sym (le-leb 4 (length t) long) in
    (four, ap (λ (front : List ℕ). tag_test front (leb 4 (length (take 4 t)))) same ∙ ap (tag_test (take 2 t)) short ∙ e)

record Front (n : ℕ) (t : List ℕ) : Type 0 where
  list : List (List ℕ)
  are_tags : AllByRecursion IsOuterTag list
  at_most : length list ≤ n
  whole : t ≡ concat list ++ without_tags n t
  longest : (length list ≡ n) ⊎ (has_outer_tag (without_tags n t) ≡ false)

one_more : (n : ℕ) (t : List ℕ) → has_outer_tag t ≡ true → Front n (drop 4 t) → Front (suc n) t
one_more n t has f =
    let rest : without_tags n (drop 4 t) ≡ without_tags (suc n) t = sym (cond-true (has_outer_tag t) (without_tags n (drop 4 t)) t has) in
    record {
      list = take 4 t ∷ f.list;
      are_tags = (IsOuterTag-take t has, f.are_tags);
      at_most = omega (arith, f.at_most);
      whole = sym (take-append-drop 4 t) ∙ ap (λ (z : List ℕ). take 4 t ++ z) f.whole ∙ sym (append_assoc (take 4 t) (concat f.list) (without_tags n (drop 4 t))) ∙ ap (λ (z : List ℕ). concat (take 4 t ∷ f.list) ++ z) rest;
      longest = elim f.longest [ inl full ↦ inl (ap suc full) | inr none_there ↦ inr (ap has_outer_tag (sym rest) ∙ none_there) ];
    }

front : (n : ℕ) (t : List ℕ) → Front n t
front zero t = record { list = []; are_tags = tt; at_most = omega arith; whole = refl; longest = inl refl }
front (suc n) t = elim (cases_Bool (has_outer_tag t)) [
  | inl has ↦ one_more n t has (front n (drop 4 t))
  | inr none_there ↦ let same = without_tags-none (suc n) t none_there in
      record { list = []; are_tags = tt; at_most = omega arith; whole = sym same; longest = inr (ap has_outer_tag same ∙ none_there) }
]

pub SkipsTags-without_tags : (n : ℕ) (t : List ℕ) → SkipsTags n t (take (length t - length (without_tags n t)) t) (without_tags n t)
SkipsTags-without_tags n t =
    let f = front n t in
    let rest = without_tags n t in
    let lengths : length t ≡ length (concat f.list) + length rest = ap length f.whole ∙ length-append (concat f.list) rest in
    let count : length t - length rest ≡ length (concat f.list) = omega arith in
    let tags : take (length t - length rest) t ≡ concat f.list = ap (λ (k : ℕ). take k t) count ∙ ap (take (length (concat f.list))) f.whole ∙ take_at (concat f.list) rest (length (concat f.list)) refl in
    record {
      list = f.list;
      are_tags = f.are_tags;
      at_most = f.at_most;
      tags_are = tags;
      whole = f.whole ∙ ap (λ (z : List ℕ). z ++ rest) (sym tags);
      longest = f.longest;
    }
