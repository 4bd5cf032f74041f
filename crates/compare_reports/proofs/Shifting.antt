-- Words for a shift, and the clocks that they ask for.
use Rattle.std.proofs.Common.{◌≡◌, subst, ℕ, ◌+◌, Bool, true, false, List, ◌∷◌, Option, Some, None}
use Rattle.std.specs.Prelude.{IsSomeAnd, MatchOption}
use Rattle.record_match.specs.Clock.{IsNear}
use Rattle.record_match.specs.Match.{is_within}
use Rattle.record_match.specs.declared.clock.Clock.{Clock}
use Rattle.compare_reports.specs.Times.{IsBounded, IsNoShift, IsNoTime, IsShifted, IsUnsigned}

-- a record is received in time on a clock exactly where it is near
abbrev pub IsOn : ℕ → Bool → Clock → ℕ → Type 0
IsOn within is_behind clock shift = (s r : ℕ) → IsNear within shift is_behind s r (is_within clock.within (s + clock.sent_delay) (r + clock.received_delay))

same-rest : (text rest other : List ℕ) → text ≡ 45 ∷ rest → text ≡ 45 ∷ other → rest ≡ other
same-rest text rest other e f = cc

-- behind
pub shifted-back : (text rest : List ℕ) (within : ℕ) (o : Option ℕ) (r : Option Clock) → text ≡ 45 ∷ rest → MatchOption o (IsNoTime rest) (λ t. IsBounded rest t)
    → MatchOption r (o ≡ None) (λ clock. IsSomeAnd o (IsOn within true clock)) → MatchOption r (IsNoShift text) (λ clock. IsShifted text within clock)
shifted-back text rest within None None is none near = (λ other e. subst IsNoTime (same-rest text rest other is e) none, λ no. absurd (no rest is))
shifted-back text rest within None (Some clock) is none near = absurd near
shifted-back text rest within (Some t) None is bounded near = absurd cc
shifted-back text rest within (Some t) (Some clock) is bounded near = (true, t, (rest, is, bounded), near)

-- ahead
pub shifted-on : (text : List ℕ) (within : ℕ) (o : Option ℕ) (r : Option Clock) → IsUnsigned text → MatchOption o (IsNoTime text) (λ t. IsBounded text t)
    → MatchOption r (o ≡ None) (λ clock. IsSomeAnd o (IsOn within false clock)) → MatchOption r (IsNoShift text) (λ clock. IsShifted text within clock)
shifted-on text within None None is none near = (λ other e. absurd (is other e), λ no. none)
shifted-on text within None (Some clock) is none near = absurd near
shifted-on text within (Some t) None is bounded near = absurd cc
shifted-on text within (Some t) (Some clock) is bounded near = (false, t, (is, bounded), near)
