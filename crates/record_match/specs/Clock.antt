-- The moments of two captures, where the clock of what was received is ahead or behind. It states no standard.
use Rattle.std.specs.Prelude.{◌≤◌, ℕ, ◌+◌, Bool, true, false, IsTrue, ◌↔◌}

-- two moments are at most so far apart, where the second's clock is so much behind, or ahead
abbrev pub AreNear : ℕ → ℕ → Bool → ℕ → ℕ → Type 0
AreNear within shift true s r = (s ≤ r + shift + within) × (r + shift ≤ s + within)
AreNear within shift false s r = (s + shift ≤ r + within) × (r ≤ s + shift + within)

-- a test tells whether they are
abbrev pub IsNear : ℕ → ℕ → Bool → ℕ → ℕ → Bool → Type 0
IsNear within shift is_behind s r test = IsTrue test ↔ AreNear within shift is_behind s r
