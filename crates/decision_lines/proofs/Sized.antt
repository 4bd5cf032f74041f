-- What leaves, told by its length alone.
use Rattle.std.proofs.Common.{◌≡◌, refl, ℕ, List, Result, Ok, Err}
use Rattle.wire.specs.declared.ether.reason.Reason.{Reason}
use Rattle.encapsulate.specs.Remote.{sizes}
use Rattle.endpoint_core.specs.Text.{sent_text}
use Rattle.decision_lines.specs.Outcomes.{count_text}

pub sized : (sent : Result (List ℕ) Reason) → count_text (sizes sent) ≡ sent_text sent
sized (Ok octets) = refl
sized (Err reason) = refl
