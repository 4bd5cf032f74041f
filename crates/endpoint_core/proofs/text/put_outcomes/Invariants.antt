use Rattle.std.proofs.Common.{◌≡◌, ◌++◌, drop, cond, map}
use Rattle.std.specs.String.{string_bytes}
use Rattle.endpoint_core.specs.Decision.{sent_of}
use Rattle.endpoint_core.specs.Text.{outcomes_text, further_text}
use Rattle.endpoint_core.proofs.text.put_outcomes.Given as goal

abbrev pub invariant-loop-outcome : goal.invariant-loop-outcome
invariant-loop-outcome l =
    let rest = map sent_of (drop l.outcome-index l.outcomes) in
    string_bytes l.text ++ cond l.parted (further_text l.two_tunnels rest) (outcomes_text l.two_tunnels rest) ≡ string_bytes l.fn.text ++ outcomes_text l.two_tunnels (map sent_of l.outcomes)
