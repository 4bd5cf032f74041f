-- Counts that go round at 2^64, so that one more is always another number. It states no standard.
use Rattle.std.specs.Prelude.{◌≡◌, ℕ, ◌+◌, ◌%◌, ◌^◌, ◌==◌, ◌&&◌, nat_lt, Result, MatchBool, MatchResult}

-- the count went on by n
abbrev pub GoesOnBy : ℕ → ℕ → ℕ → Type 0
GoesOnBy n old new = new % 2 ^ 64 ≡ (old + n) % 2 ^ 64

-- a fault counts as one failure, and nothing else does
abbrev pub CountsFaults : {T E : Type 0} → ℕ → ℕ → Result T E → Type 0
CountsFaults old new result = MatchResult result (λ _. new ≡ old) (λ _. GoesOnBy 1 old new)

-- a fault counts as one failure, and so does taking none of some octets
abbrev pub CountsRefusals : {E : Type 0} → ℕ → ℕ → Result ℕ E → ℕ → Type 0
CountsRefusals old new result size =
    MatchResult result (λ n. MatchBool (n == 0 && nat_lt 0 size) (GoesOnBy 1 old new) (new ≡ old)) (λ _. GoesOnBy 1 old new)
