-- What is left of a frame behind its addresses, tags and type.
use Rattle.std.proofs.Common.{◌≡◌, ℕ, zero, suc, ◌+◌, ◌*◌, ◌≤◌, ◌⊎◌, inl, inr, leb, true, List, [], ◌∷◌, length, drop, refl, ap, ◌∙◌, arith}
use Rattle.std.specs.List.{concat, AllByRecursion}
use Rattle.std.proofs.lemmas.Bool.{le-leb}
use Rattle.std.proofs.lemmas.List.{length-append, drop-drop, drop_at}
use Rattle.wire.specs.Tag.{SkipsTags, IsOuterTag}
use Rattle.wire.proofs.TagLemmas.{SkipsTags-without_tags}
use Rattle.wire.specs.Datagram.{behind_tags, tags_text}
use Rattle.packet_layers.specs.declared.kind.HeadKind.TheVariants.{Ether}
use Rattle.packet_layers.specs.Apart.{Apart, put}
use Rattle.packet_layers.specs.Dissection.{tag_off, type_off, ether_off}

-- tags side by side
length-tags : (tags : List (List ℕ)) → AllByRecursion IsOuterTag tags → length (concat tags) ≡ 4 * length tags
length-tags [] h = refl
length-tags (tag ∷ tags) h = omega (arith, length-append tag (concat tags), h.0.0, length-tags tags h.1)

-- none, one or two
pub record HasTags (t rest behind : List ℕ) : Type 0 where
  pub count : (length t ≡ 0) ⊎ ((length t ≡ 4) ⊎ (length t ≡ 8))
  pub rest_is : drop (length t) behind ≡ rest
  pub fits : length t + length rest ≡ length behind

count_of : (n m : ℕ) → n ≡ 4 * m → m ≤ 2 → (n ≡ 0) ⊎ ((n ≡ 4) ⊎ (n ≡ 8))
count_of n zero e h = inl (omega arith)
count_of n (suc zero) e h = inr (inl (omega arith))
count_of n (suc (suc m)) e h = inr (inr (omega arith))

pub HasTags-from : (t rest behind : List ℕ) → SkipsTags 2 behind t rest → HasTags t rest behind
HasTags-from t rest behind tags =
    let len : length t ≡ 4 * length tags.list = ap length tags.tags_are ∙ length-tags tags.list tags.are_tags in
    record {
      count = count_of (length t) (length tags.list) len tags.at_most;
      rest_is = ap (drop (length t)) tags.whole ∙ drop_at t rest (length t) refl;
      fits = omega (arith, ap length tags.whole, length-append t rest);
    }

pub tags_in : (b : List ℕ) → HasTags (tags_text b) (behind_tags b) (drop 12 b)
tags_in b = HasTags-from (tags_text b) (behind_tags b) (drop 12 b) (SkipsTags-without_tags 2 (drop 12 b))

-- so many octets of tags taken off behind the addresses
abbrev pub tags_off : ℕ → Apart → Apart
tags_off n a = tag_off (leb 8 n) (tag_off (leb 4 n) (put Ether 12 a))

pub left-tags : (n : ℕ) (a : Apart) → (n ≡ 0) ⊎ ((n ≡ 4) ⊎ (n ≡ 8)) → (tags_off n a).payload.octets ≡ drop n (drop 12 a.payload.octets)
left-tags n a (inl e) = rw e refl
left-tags n a (inr (inl e)) = rw e refl
left-tags n a (inr (inr e)) = rw e (drop-drop 4 4 (drop 12 a.payload.octets))

-- and behind the type
pub left-type : (a : Apart) (t : List ℕ) → a.payload.octets ≡ t → 2 ≤ length t → (type_off a).payload.octets ≡ drop 2 t
left-type a t e h =
    let there : leb 2 (length a.payload.octets) ≡ true = le-leb 2 (length a.payload.octets) (omega (arith, ap length e)) in
    rw there (ap (drop 2) e)

pub left-ether : (b : List ℕ) (a : Apart) → a.payload.octets ≡ b → 2 ≤ length (behind_tags b) → (ether_off b a).payload.octets ≡ drop 2 (behind_tags b)
left-ether b a e h =
    let n = length (tags_text b) in
    let t = tags_in b in
    left-type (tags_off n a) (behind_tags b) (left-tags n a t.count ∙ ap (λ (x : List ℕ). drop n (drop 12 x)) e ∙ t.rest_is) h
