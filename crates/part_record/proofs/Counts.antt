-- Counts of nothing.
use Rattle.std.proofs.Common.{◌≡◌, refl, ℕ, zero, suc, replicate, slice_index_or}

pub none_counted : (n k : ℕ) → let nothing : ℕ = 0 in slice_index_or (replicate n nothing) k nothing ≡ nothing
none_counted zero k = refl
none_counted (suc n) zero = refl
none_counted (suc n) (suc k) = none_counted n k
