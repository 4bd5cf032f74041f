-- What a step leaves, told by the state before it.
use Rattle.std.proofs.Common.{◌≡◌, ℕ, ◌≤◌, Result, ap, ◌∙◌}
use Rattle.std.proofs.Math.Nat.{le_refl}
use Rattle.wire.specs.declared.ether.reason.Refused.{Refused}
use Rattle.endpoint_core.specs.Held.{Held, state_at}
use Rattle.endpoint_core.specs.State.{State as Bridges, aged}
use Rattle.endpoint_core.proofs.LaterLemmas.{held-later}
use Rattle.endpoint_core.specs.Arrival.{Arrival}
use Rattle.endpoint_core.specs.Cells.{Cells, count_in}
use Rattle.endpoint_core.specs.Counts.{counted}
use Rattle.endpoint_core.specs.Decision.{Decision}
use Rattle.endpoint_core.specs.Step.{State, decided, after_came}

-- of the bridges as they were at an earlier moment
pub told-earlier : {A : Type 0} (f : Bridges → A) (held : Held) (t now : ℕ) (a : A) → t ≤ now → a ≡ f (state_at now held) → a ≡ f (aged now (state_at t held))
told-earlier f held t now a h is = is ∙ ap f (held-later held t now h)

-- what is left is left of the bridges as they were at an earlier moment, and has nothing that is dead
pub left-earlier : (f : Bridges → Bridges) (held new : Held) (t now : ℕ) → t ≤ now → state_at now new ≡ f (state_at now held) → state_at now new ≡ aged now (f (aged now (state_at t held)))
left-earlier f held new t now h is = held-later new now now (le_refl now) ∙ ap (aged now) (told-earlier f held t now (state_at now new) h is)

-- a decision, and the state after it
pub decided-then : (held new : Held) (cells left : Cells) (t now : ℕ) (d : Decision) (came told : Result Arrival Refused) → t ≤ now → came ≡ told → d ≡ decided now (state_at now held) came →
    state_at now new ≡ after_came now (state_at now held) came → count_in left ≡ counted (count_in cells) d →
    (d ≡ decided now (aged now (state_at t held)) told)
    × (◌≡◌ {A = State} (record { bridges = state_at now new; counts = count_in left; moment = now })
    (record { bridges = aged now (after_came now (aged now (state_at t held)) told); counts = counted (count_in cells) (decided now (aged now (state_at t held)) told); moment = now }))
decided-then held new cells left t now d came told h same decision after counts =
    let is : d ≡ decided now (aged now (state_at t held)) told =
    told-earlier (λ (B : Bridges). decided now B came) held t now d h decision ∙ ap (decided now (aged now (state_at t held))) same in
    let bridges : state_at now new ≡ aged now (after_came now (aged now (state_at t held)) told) =
    left-earlier (λ (B : Bridges). after_came now B came) held new t now h after ∙ ap (λ (r : Result Arrival Refused). aged now (after_came now (aged now (state_at t held)) r)) same in
    let counted_so : count_in left ≡ counted (count_in cells) (decided now (aged now (state_at t held)) told) = counts ∙ ap (counted (count_in cells)) is in
    (is, λ i. record { bridges = bridges i; counts = counted_so i; moment = now })
