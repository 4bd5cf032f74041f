-- What is told of a table.
use Rattle.std.proofs.Common.{◌≡◌, ◌<◌, ◌≤◌, ℕ, ◌+◌, ◌-◌, ◌*◌, ◌/◌, ◌^◌, min, List, [], ◌∷◌, length, map, refl, sym, ap, ◌∙◌, subst, arith}
use Rattle.record_match.specs.Delays.{Delays, IsOf, IsRanked, IsSummary, median_rank, nearly_all_rank, rounded, row_at, step_of}
use Rattle.record_match.specs.declared.tables.delays.DelaySummary.{DelaySummary}
use Rattle.record_match.proofs.Ranking.{ranked, whole}

-- a table that counts none is of none
pub none_of : (within : ℕ) (t : Delays) (ds : List ℕ) → IsOf within t ds → t.count ≡ 0 → ds ≡ []
none_of within t [] is none = refl
none_of within t (d ∷ ds) is none = absurd (omega (arith, is.count, none))

-- ranks, as they are reckoned
half : (n : ℕ) → n - n / 2 ≡ (n + 1) / 2
half n = omega arith

nearly_all : (n : ℕ) → n - n / 100 ≡ (99 * n + 99) / 100
nearly_all n = omega arith

half_bounds : (n : ℕ) → 0 < n → (0 < (n + 1) / 2) × ((n + 1) / 2 ≤ n)
half_bounds n some = (omega (arith, some), omega (arith, some))

nearly_all_bounds : (n : ℕ) → 0 < n → (0 < (99 * n + 99) / 100) × ((99 * n + 99) / 100 ≤ n)
nearly_all_bounds n some = (omega (arith, some), omega (arith, some))

-- all that is told
pub summary_of : (within : ℕ) (t : Delays) (ds : List ℕ) (s : DelaySummary) → IsOf within t ds → length ds < 2 ^ 64 → 0 < t.count
    → s.count ≡ t.count → s.least ≡ t.least
    → s.median ≡ min (row_at (t.count - t.count / 2) t.rows) 4194303 * t.step
    → s.nearly_all ≡ min (row_at (t.count - t.count / 100) t.rows) 4194303 * t.step
    → s.greatest ≡ t.greatest → s.step ≡ t.step → IsSummary within ds s
summary_of within t ds s is few some count least median nearly_all_is greatest step =
    let all : t.count ≡ length ds = is.count ∙ whole (length ds) (length ds) (omega arith) few in
    let positive : 0 < length ds = omega (arith, all, some) in
    let value : ℕ → ℕ = λ rank. min (row_at rank t.rows) 4194303 * t.step in
    let median_is : s.median ≡ value (median_rank (length ds)) = median ∙ ap value (ap (λ (n : ℕ). n - n / 2) all ∙ half (length ds)) in
    let most_is : s.nearly_all ≡ value (nearly_all_rank (length ds)) = nearly_all_is ∙ ap value (ap (λ (n : ℕ). n - n / 100) all ∙ nearly_all (length ds)) in
    let halves = half_bounds (length ds) positive in
    let most = nearly_all_bounds (length ds) positive in
    record {
      count = count ∙ all;
      least = least ∙ is.least;
      median = subst (λ (m : ℕ). IsRanked (median_rank (length ds)) (map (rounded (step_of within)) ds) m) (sym median_is)
          (ranked within t ds (median_rank (length ds)) is few halves.0 halves.1);
      nearly_all = subst (λ (m : ℕ). IsRanked (nearly_all_rank (length ds)) (map (rounded (step_of within)) ds) m) (sym most_is)
          (ranked within t ds (nearly_all_rank (length ds)) is few most.0 most.1);
      greatest = greatest ∙ is.greatest;
      step = step ∙ is.step;
    }
