-- Laws of refusals.
use Rattle.std.proofs.Common.{◌≡◌, ℕ, Option, Some, None, Result, Ok, refl}
use Rattle.wire.specs.First.{unless}
use Rattle.wire.specs.Refusal.{as_refused}
use Rattle.wire.specs.declared.ether.reason.Reason.{Reason}
use Rattle.wire.specs.declared.ether.reason.Refused.{Refused}

-- where something is told, there is no reason
pub refused-ok : {A : Type 0} (vid : Option ℕ) (o : Option Reason) (r : Result A Refused) (x : A) → unless (as_refused vid o) r ≡ Ok x → (o ≡ None) × (r ≡ Ok x)
refused-ok vid (Some reason) r x h = absurd cc
refused-ok vid None r x h = (refl, h)
