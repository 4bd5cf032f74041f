-- Which octets of a run of sixteen are one that is looked for, as the bits of a number.
use Rattle.std.proofs.Common.{◌≡◌, ◌≢◌, ℕ, zero, suc, ◌+◌, ◌-◌, ◌*◌, ◌/◌, ◌^◌, ◌<◌, ◌≤◌, Bool, true, false, cond, eqb, not, List, [], ◌∷◌, length, take, drop, map, get_or, sym, ap, ◌∙◌, arith, inl, inr}
use Rattle.std.proofs.Math.Nat.{div-div-eq-div-mul, pow-succ', zero-div}
use Rattle.std.proofs.lemmas.Bool.{cases_lt, cond-false, eqb-false, ne_eqb}
use Rattle.std.proofs.lemmas.Bool.Decides.{eqb_tells}
use Rattle.std.proofs.lemmas.List.{drop-drop, drop-map, drop-take}
use Rattle.std.proofs.lemmas.Simd.{first_set_mask_l, length-chunk, none_from_empty_mask, run_in_chunk_fails, run_in_chunk_stops}
use Rattle.std.specs.List.{prefix_len}
use Rattle.std.specs.Int.Count.{count_trailing_zeros}
use Rattle.std.specs.Simd.Lanes.{chunk, mask_l}
use Rattle.line_words.specs.Places.{IsFirst}

-- ---- bits that are shifted out

half : (b : Bool) (m : ℕ) → (cond b 1 0 + 2 * m) / 2 ≡ m
half true m = omega arith
half false m = omega arith

shifted : (s : ℕ) (bs : List Bool) → mask_l bs / 2 ^ s ≡ mask_l (drop s bs)
shifted zero bs = omega arith
shifted (suc s) [] = zero-div (2 ^ suc s)
shifted (suc s) (b ∷ bs) =
    ap (λ n. mask_l (b ∷ bs) / n) (pow-succ' 2 s) ∙ sym (div-div-eq-div-mul (mask_l (b ∷ bs)) 2 (2 ^ s))
    ∙ ap (λ n. n / 2 ^ s) (half b (mask_l bs)) ∙ shifted s bs

-- ---- the first of them

-- where a bit is set an octet is found
inside : (p : ℕ → Bool) (xs : List ℕ) → 0 < mask_l (map p xs) → prefix_len (λ x. not (p x)) xs < length xs
inside p [] some = absurd (omega arith)
inside p (x ∷ xs) some = by (p x) (inside p xs) some
  where
    by : (b : Bool) → (0 < mask_l (map p xs) → prefix_len (λ y. not (p y)) xs < length xs) → 0 < cond b 1 0 + 2 * mask_l (map p xs)
        → cond (not b) (1 + prefix_len (λ y. not (p y)) xs) 0 < suc (length xs)
    by true more some = omega arith
    by false more some = omega (arith, more (omega arith))

true_is : (a b : ℕ) → eqb a b ≡ true → a ≡ b
true_is a b e = elim (eqb_tells a b) [ inl h ↦ h.1 | inr h ↦ absurd cc ]

-- the marks of sixteen octets from start on, without those before at: n are left
module _ (octet : ℕ) (text : List ℕ) (start at n marks : ℕ) (room : start + 16 ≤ length text) (low : start ≤ at) (left : at + n ≡ start + 16)
    (are : marks ≡ mask_l (map (λ c. eqb c octet) (chunk start 16 text))) where
  abbrev m : ℕ
  m = marks / 2 ^ (at - start)

  rest : drop (at - start) (chunk start 16 text) ≡ chunk at n text
  rest =
      let parts : 16 ≡ at - start + n = omega arith in
      let there : start + (at - start) ≡ at = omega arith in
      ap (λ k. drop (at - start) (take k (drop start text))) parts ∙ drop-take (at - start) n (drop start text)
      ∙ ap (take n) (drop-drop (at - start) start text) ∙ ap (λ k. take n (drop k text)) there

  marked : m ≡ mask_l (map (λ c. eqb c octet) (chunk at n text))
  marked =
      ap (λ k. k / 2 ^ (at - start)) are ∙ shifted (at - start) (map (λ c. eqb c octet) (chunk start 16 text))
      ∙ ap mask_l (drop-map (λ c. eqb c octet) (at - start) (chunk start 16 text)) ∙ ap (λ l. mask_l (map (λ c. eqb c octet) l)) rest

  long : length (chunk at n text) ≡ n
  long = length-chunk at n text (omega arith)

  pub none_marked : m ≡ 0 → (k : ℕ) → at ≤ k → k < start + 16 → get_or text k 0 ≢ octet
  none_marked none k from to =
      eqb-false (get_or text k 0) octet (none_from_empty_mask (λ c. eqb c octet) text at n 0 (omega arith) (sym marked ∙ none) k from (omega arith))

  counted : m ≢ 0 → count_trailing_zeros 64 m ≡ prefix_len (λ c. not (eqb c octet)) (chunk at n text)
  counted some =
      let first = first_set_mask_l (λ c. eqb c octet) (chunk at n text) n long (omega arith) in
      sym (cond-false _ _ _ (ne_eqb m 0 some)) ∙ ap (λ k. cond (eqb k 0) n (count_trailing_zeros 64 k)) marked ∙ first

  near : m ≢ 0 → count_trailing_zeros 64 m < n
  near some =
      let h = inside (λ c. eqb c octet) (chunk at n text) (omega (arith, marked, some)) in
      omega (arith, counted some, long, h)

  pub first_marked : m ≢ 0 → IsFirst octet text at (at + count_trailing_zeros 64 m)
  first_marked some = record {
    low = omega arith;
    inside = omega (arith, near some);
    here = true_is _ _ (run_in_chunk_stops (λ c. eqb c octet) text at n (count_trailing_zeros 64 m) 0 (omega arith) (counted some) (near some));
    before = λ k from to. eqb-false (get_or text k 0) octet (run_in_chunk_fails (λ c. eqb c octet) text at n (count_trailing_zeros 64 m) 0 (omega arith) (counted some) k from to);
  }

-- what wasn't there before isn't either
pub later : (octet : ℕ) (text : List ℕ) (from at found : ℕ) → from ≤ at → ((k : ℕ) → from ≤ k → k < at → get_or text k 0 ≢ octet) → IsFirst octet text at found → IsFirst octet text from found
later octet text from at found low none first = record {
  low = omega (arith, first.low, low);
  inside = first.inside;
  here = first.here;
  before = λ k begin to. elim (cases_lt k at) [ inl early ↦ none k begin early | inr late ↦ first.before k late to ];
}
