-- The words of a schedule four at a time, and the rounds with them.
use Rattle.std.proofs.Common.{◌≡◌, ℕ, ◌+◌, ◌-◌, ◌<◌, ◌≤◌, List, [], ◌∷◌, ◌++◌, map, take, drop, get_or, slice_index, refl, sym, ◌∙◌, arith}
use Rattle.std.specs.Simd.Lanes.{zip2}
use Rattle.sha2.specs.Sha256.{add32, round, round_constants, rounds, schedule, small_sigma0, small_sigma1}
use Rattle.sha2.proofs.Schedule256.{rounds_next, slice_index-schedule_next}
use Rattle.octet_sums.specs.Lanes.{four, four_keyed}
use Rattle.octet_sums.proofs.LaneLemmas.{chunk_four}
use Rattle.octet_sums.proofs.Sums.{four_added, none_added}

-- one round more
pub one_more : (h words v next : List ℕ) (t : ℕ) → v ≡ rounds h words t
    → next ≡ round v (slice_index round_constants t) (slice_index words t) → next ≡ rounds h words (t + 1)
one_more h words v next t held e = e ∙ rw held (sym (rounds_next h words t))

-- the same words at the same place
pub at_place : (words x : List ℕ) (t n : ℕ) → t ≡ n → x ≡ four words t → x ≡ four words n
at_place words x t n same e = rw (← same) e

pub keyed_at_place : (words x : List ℕ) (t n : ℕ) → t ≡ n → x ≡ four_keyed words t → x ≡ four_keyed words n
keyed_at_place words x t n same e = rw (← same) e

pub keyed_words : (words w : List ℕ) (t n : ℕ) → t + 4 ≤ 64 → n ≡ 64 - t → w ≡ four words t
    → zip2 add32 w (take 4 (take n (drop t round_constants))) ≡ four_keyed words t
keyed_words words w t n most e held = rw (held, chunk_four round_constants t n most (omega arith)) refl

module _ (b : List ℕ) where
  abbrev word : ℕ → ℕ
  word = slice_index (schedule b 48)

  word_next : (i : ℕ) → i + 16 < 64
      → add32 (add32 (add32 (word i) (word (i + 9))) (small_sigma0 (word (i + 1)))) (small_sigma1 (word (i + 14))) ≡ word (i + 16)
  word_next i less =
      let e14 : i + 16 - 2 ≡ i + 14 = omega arith in
      let e9 : i + 16 - 7 ≡ i + 9 = omega arith in
      let e1 : i + 16 - 15 ≡ i + 1 = omega arith in
      let e0 : i + 16 - 16 ≡ i = omega arith in
      four_added (word i) (word (i + 9)) (small_sigma0 (word (i + 1))) (small_sigma1 (word (i + 14)))
      ∙ sym (rw (e14, e9, e1, e0) at (slice_index-schedule_next b 48 (i + 16) (omega arith) (omega arith)))

  -- the same with its places spelled another way
  lane : (i p q r n : ℕ) → p ≡ i + 9 → q ≡ i + 1 → r ≡ i + 14 → n ≡ i + 16 → n < 64
      → add32 (add32 (add32 (word i) (word p)) (small_sigma0 (word q))) (small_sigma1 (word r)) ≡ word n
  lane i p q r n ep eq er en less = rw (ep, eq, er, en) (word_next i (omega arith))

  module _ (t : ℕ) (most : t + 20 ≤ 64) where
    -- the first two and what the last two lack a small sigma of
    abbrev first : ℕ
    first = add32 (add32 (add32 (word t) (word (t + 8 + 1))) (small_sigma0 (word (t + 1)))) (small_sigma1 (word (t + 12 + 2)))

    abbrev second : ℕ
    second = add32 (add32 (add32 (word (t + 1)) (word (t + 8 + 2))) (small_sigma0 (word (t + 2)))) (small_sigma1 (word (t + 12 + 3)))

    abbrev third : ℕ
    third = add32 (add32 (word (t + 2)) (word (t + 8 + 3))) (small_sigma0 (word (t + 3)))

    abbrev fourth : ℕ
    fourth = add32 (add32 (word (t + 3)) (word (t + 12))) (small_sigma0 (word (t + 4)))

    pub next_four : add32 first 0 ∷ add32 second 0 ∷ add32 (add32 third 0) (small_sigma1 first) ∷ add32 (add32 fourth 0) (small_sigma1 second) ∷ []
        ≡ four (schedule b 48) (t + 16)
    next_four =
        let f : first ≡ word (t + 16) = lane t (t + 8 + 1) (t + 1) (t + 12 + 2) (t + 16) (omega arith) refl (omega arith) refl (omega arith) in
        let s : second ≡ word (t + 16 + 1) = lane (t + 1) (t + 8 + 2) (t + 2) (t + 12 + 3) (t + 16 + 1) (omega arith) (omega arith) (omega arith) (omega arith) (omega arith) in
        let f0 : add32 first 0 ≡ word (t + 16) = none_added _ _ ∙ f in
        let s0 : add32 second 0 ≡ word (t + 16 + 1) = none_added _ _ ∙ s in
        let t0 : add32 (add32 third 0) (small_sigma1 first) ≡ word (t + 16 + 2) =
        rw (none_added (add32 (word (t + 2)) (word (t + 8 + 3))) (small_sigma0 (word (t + 3))), f)
        (lane (t + 2) (t + 8 + 3) (t + 3) (t + 16) (t + 16 + 2) (omega arith) (omega arith) (omega arith) (omega arith) (omega arith)) in
        let u0 : add32 (add32 fourth 0) (small_sigma1 second) ≡ word (t + 16 + 3) =
        rw (none_added (add32 (word (t + 3)) (word (t + 12))) (small_sigma0 (word (t + 4))), s)
        (lane (t + 3) (t + 12) (t + 4) (t + 16 + 1) (t + 16 + 3) (omega arith) (omega arith) (omega arith) (omega arith) (omega arith)) in
        rw (t0, u0, f0, s0) refl

    -- the four words behind the first one of two vectors
    abbrev inner : List ℕ → List ℕ → List ℕ
    inner x y = get_or (x ++ y) 1 0 ∷ get_or (x ++ y) 2 0 ∷ get_or (x ++ y) 3 0 ∷ get_or (x ++ y) 4 0 ∷ []

    abbrev half_done : List ℕ → List ℕ → List ℕ → List ℕ → List ℕ → List ℕ
    half_done w0 w2 w3 s0 s1 = zip2 add32 (zip2 add32 (zip2 add32 w0 (inner w2 w3)) s0) s1

    pub next_is : (w0 w1 w2 w3 s0 s1 s2 : List ℕ) → w0 ≡ four (schedule b 48) t → w1 ≡ four (schedule b 48) (t + 4)
        → w2 ≡ four (schedule b 48) (t + 8) → w3 ≡ four (schedule b 48) (t + 12) → s0 ≡ map small_sigma0 (inner w0 w1)
        → ((p q r s : ℕ) → w3 ≡ p ∷ q ∷ r ∷ s ∷ [] → s1 ≡ small_sigma1 r ∷ small_sigma1 s ∷ 0 ∷ 0 ∷ [])
        → ((p q r s : ℕ) → half_done w0 w2 w3 s0 s1 ≡ p ∷ q ∷ r ∷ s ∷ [] → s2 ≡ 0 ∷ 0 ∷ small_sigma1 p ∷ small_sigma1 q ∷ [])
        → zip2 add32 (half_done w0 w2 w3 s0 s1) s2 ≡ four (schedule b 48) (t + 16)
    next_is w0 w1 w2 w3 s0 s1 s2 e0 e1 e2 e3 f0 f1 f2 =
        let g0 = rw (e0, e1) at f0 in
        let g1 = f1 _ _ _ _ e3 in
        let half : half_done w0 w2 w3 s0 s1 ≡ first ∷ second ∷ add32 third 0 ∷ add32 fourth 0 ∷ [] = rw (g0, g1, e0, e2, e3) refl in
        rw (f2 _ _ _ _ half, half) next_four
