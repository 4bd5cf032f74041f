-- Lists whose elements are joined with those of another, one after another.
use Rattle.std.proofs.Common.{◌≡◌, ◌≢◌, ◌∙◌, ap, sym, ℕ, ◌+◌, ◌<◌, ◌≤◌, List, length, slice_index_or, slice_set, arith, inl, inr, ◌⊎◌}
use Rattle.std.proofs.lemmas.Bool.{cases_eq, cases_lt}
use Rattle.std.proofs.lemmas.List.{get_or-set_other, get_or-set_same, get_or_past}

module _ {X : Type 0} (join : X → X → X) (none : X) (old others : List X) where
  -- the elements in front of this one are joined
  abbrev pub IsJoined : List X → ℕ → Type 0
  IsJoined now i = (k : ℕ) → k < i → slice_index_or now k none ≡ join (slice_index_or old k none) (slice_index_or others k none)

  -- this one and those behind it are as they were
  abbrev pub IsLeft : List X → ℕ → Type 0
  IsLeft now i = (k : ℕ) → i ≤ k → slice_index_or now k none ≡ slice_index_or old k none

  -- one more is
  pub joined_more : (now : List X) (i : ℕ) (v : X) → length now ≡ length old → i < length old → v ≡ join (slice_index_or now i none) (slice_index_or others i none)
      → IsJoined now i → IsLeft now i → IsJoined (slice_set now i v) (i + 1)
  joined_more now i v same inside is far behind k below = by (cases_eq k i)
    where
      by : (k ≡ i) ⊎ (k ≢ i) → slice_index_or (slice_set now i v) k none ≡ join (slice_index_or old k none) (slice_index_or others k none)
      by (inl at) = rw at (get_or-set_same now i v none (omega (arith, same, inside)) ∙ is ∙ ap (λ (x : X). join x (slice_index_or others i none)) (behind i (omega arith)))
      by (inr not) = get_or-set_other now i k v none not ∙ far k (omega (arith, below, not))

  pub left_more : (now : List X) (i : ℕ) (v : X) → IsLeft now i → IsLeft (slice_set now i v) (i + 1)
  left_more now i v behind k above =
      let not : k ≢ i = λ at. absurd (omega (arith, above, at)) in
      get_or-set_other now i k v none not ∙ behind k (omega (arith, above))

  -- all are, where two that are none join to none
  pub joined_all : (now : List X) (i : ℕ) → length now ≡ length old → length old ≡ length others → length old ≤ i → join none none ≡ none → IsJoined now i
      → (k : ℕ) → slice_index_or now k none ≡ join (slice_index_or old k none) (slice_index_or others k none)
  joined_all now i same alike all nothing far k = by (cases_lt k i)
    where
      by : (k < i) ⊎ (i ≤ k) → slice_index_or now k none ≡ join (slice_index_or old k none) (slice_index_or others k none)
      by (inl below) = far k below
      by (inr past) =
          get_or_past now k none (omega (arith, same, all, past))
          ∙ sym (ap (λ (x : X). join x (slice_index_or others k none)) (get_or_past old k none (omega (arith, all, past)))
          ∙ ap (join none) (get_or_past others k none (omega (arith, alike, all, past))) ∙ nothing)
