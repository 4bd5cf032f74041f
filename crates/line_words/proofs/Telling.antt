-- The lines of a text, one after another, and what is read of each.
use Rattle.std.proofs.Common.{◌≡◌, ◌≢◌, ◌∙◌, ap, sym, refl, ℕ, zero, suc, ◌+◌, ◌<◌, All, Bool, true, false, cond, eqb, List, [], ◌∷◌, ◌++◌, length, take, drop, get_or, append-nil, append_assoc, Option, Some, subst, arith, length-take}
use Rattle.std.specs.List.{AllByRecursion, cons_option, count_by, filter_map, flat_map, slice_split}
use Rattle.std.proofs.Math.Seq.{split_at}
use Rattle.std.proofs.lemmas.Bool.{ne_eqb}
use Rattle.std.proofs.lemmas.List.{get_or-take}
use Rattle.std.proofs.lemmas.List.Elements.{All-from_get_or, All-get_or}
use Rattle.std.proofs.lemmas.List.Splits.{length-slice_split, slice_split_at, slice_split_none}
use Rattle.line_words.specs.Lines.{all_but_last, whole_lines}
use Rattle.line_words.proofs.Decimals.{lacks}
use Rattle.line_words.proofs.Splits.{IsNot}

-- ---- a line, and those behind it

abbrev is_feed : ℕ → Bool
is_feed c = eqb c 10

pub lines_none : (text : List ℕ) → All (IsNot 10) text → whole_lines text ≡ []
lines_none text none = ap all_but_last (slice_split_none is_feed text (All-from_get_or (λ c. is_feed c ≡ false) text 0 (λ k lt. ne_eqb (get_or text k 0) 10 (All-get_or (IsNot 10) text k 0 lt none))))

-- at least one part stands behind a line
behind_line : (line : List ℕ) (text : List ℕ) → all_but_last (line ∷ slice_split is_feed text) ≡ line ∷ whole_lines text
behind_line line text = by (slice_split is_feed text) (length-slice_split is_feed text)
  where
    by : (parts : List (List ℕ)) → length parts ≡ count_by is_feed text + 1 → all_but_last (line ∷ parts) ≡ line ∷ all_but_last parts
    by [] is = absurd (omega (arith, is))
    by (part ∷ more) is = refl

no_feed : (text : List ℕ) → lacks 10 text ≡ true → (k : ℕ) → k < length text → is_feed (get_or text k 0) ≡ false
no_feed [] h k lt = absurd (omega arith)
no_feed (c ∷ cs) h k lt = by (eqb c 10) refl h (no_feed cs) k lt
  where
    by : (q : Bool) → eqb c 10 ≡ q → cond q false (lacks 10 cs) ≡ true → (lacks 10 cs ≡ true → (k : ℕ) → k < length cs → is_feed (get_or cs k 0) ≡ false)
        → (k : ℕ) → k < length (c ∷ cs) → is_feed (get_or (c ∷ cs) k 0) ≡ false
    by true e h more k lt = absurd cc
    by false e h more zero lt = e
    by false e h more (suc k) lt = more h k (omega arith)

lines_front : (body rest : List ℕ) → All (λ c. is_feed c ≡ false) body → whole_lines (body ++ 10 ∷ rest) ≡ body ∷ whole_lines rest
lines_front body rest none = ap all_but_last (slice_split_at is_feed body 10 rest none refl) ∙ behind_line body rest

pub lines_at : (text : List ℕ) (i : ℕ) → i < length text → get_or text i 0 ≡ 10 → ((k : ℕ) → k < i → get_or text k 0 ≢ 10)
    → whole_lines text ≡ take i text ∷ whole_lines (drop (i + 1) text)
lines_at text i inside here before =
    let before_it = All-from_get_or (λ c. is_feed c ≡ false) (take i text) 0 (λ k lt. by k (omega (arith, lt, length-take i text))) in
    ap whole_lines (split_at text i 0 inside ∙ ap (λ c. take i text ++ c ∷ drop (suc i) text) here)
    ∙ lines_front (take i text) (drop (suc i) text) before_it
    ∙ ap (λ k. take i text ∷ whole_lines (drop k text)) next
  where
    next : suc i ≡ i + 1
    next = omega arith

    by : (k : ℕ) → k < i → is_feed (get_or (take i text) k 0) ≡ false
    by k lt = ne_eqb (get_or (take i text) k 0) 10 (λ e. before k lt (sym (get_or-take i text k 0 lt) ∙ e))

-- whatever stands behind a text, these are what is read of its lines
pub record Tells {R : Type 0} (read : List ℕ → Option R) (text : List ℕ) (rows : List R) : Type 0 where
  pub before : (rest : List ℕ) → filter_map read (whole_lines (text ++ rest)) ≡ rows ++ filter_map read (whole_lines rest)

module _ {R : Type 0} {read : List ℕ → Option R} where
  pub tells_none : Tells read [] []
  tells_none = record { before = λ rest. refl }

  pub tells_line : (body : List ℕ) (row : R) → lacks 10 body ≡ true → read body ≡ Some row → Tells read (body ++ 10 ∷ []) (row ∷ [])
  tells_line body row whole is = record {
    before = λ rest.
        ap (λ l. filter_map read (whole_lines l)) (append_assoc body (10 ∷ []) rest) ∙ ap (filter_map read) (lines_front body rest (All-from_get_or (λ c. is_feed c ≡ false) body 0 (no_feed body whole)))
        ∙ ap (λ (o : Option R). cons_option o (filter_map read (whole_lines rest))) is;
  }

  -- the same, where the text is such a line
  pub tells_as : (text body : List ℕ) (row : R) → text ≡ body ++ 10 ∷ [] → lacks 10 body ≡ true → read body ≡ Some row → Tells read text (row ∷ [])
  tells_as text body row is whole told = subst (λ l. Tells read l (row ∷ [])) (sym is) (tells_line body row whole told)

  pub tells_more : (a b : List ℕ) (xs ys : List R) → Tells read a xs → Tells read b ys → Tells read (a ++ b) (xs ++ ys)
  tells_more a b xs ys first second = record {
    before = λ rest.
        ap (λ l. filter_map read (whole_lines l)) (append_assoc a b rest) ∙ first.before (b ++ rest) ∙ ap (λ (l : List R). xs ++ l) (second.before rest)
        ∙ sym (append_assoc xs ys (filter_map read (whole_lines rest)));
  }

  pub tells_each : {K : Type 0} (P : K → Type 0) (f : K → List ℕ) (g : K → List R) → ((k : K) → P k → Tells read (f k) (g k)) → (ks : List K)
      → AllByRecursion P ks → Tells read (flat_map f ks) (flat_map g ks)
  tells_each P f g one [] all = tells_none
  tells_each P f g one (k ∷ ks) all = tells_more (f k) (flat_map f ks) (g k) (flat_map g ks) (one k all.0) (tells_each P f g one ks all.1)

  -- all of the text
  pub tells_all : (text : List ℕ) (rows : List R) → Tells read text rows → filter_map read (whole_lines text) ≡ rows
  tells_all text rows tells = ap (λ l. filter_map read (whole_lines l)) (sym (append-nil text)) ∙ tells.before [] ∙ append-nil rows
