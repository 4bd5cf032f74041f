use Rattle.std.proofs.Common.{ℕ, subst}
use Rattle.std.specs.Prelude.{MatchOption}
use Rattle.command_line.specs.Time.{IsTime}
use Rattle.command_line.proofs.Times.{none_of}
use Rattle.command_line.proofs.time.time_of.Goals as goal

pub returns : goal.returns
returns c =
    subst (λ text. MatchOption c.time_in-4.result ((t : ℕ) → IsTime text t → ⊥) (λ t. IsTime text t)) c.as_bytes-text.ensures.value
    (none_of c.as_bytes-text.result.now c.time_in-4.result c.in_default.ensures c.in_default-time_in.ensures c.in_default-time_in-2.ensures c.time_in-4.ensures)
