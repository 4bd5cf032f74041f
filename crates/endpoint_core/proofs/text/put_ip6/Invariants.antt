use Rattle.std.proofs.Common.{◌≡◌, ◌++◌, drop, cond, length}
use Rattle.std.specs.String.{string_bytes}
use Rattle.endpoint_core.specs.Text.{grouped}
use Rattle.endpoint_core.proofs.text.put_ip6.Given as goal

abbrev pub invariant-loop-rest : goal.invariant-loop-rest
invariant-loop-rest l = string_bytes l.text ++ cond l.parted (grouped l.rest) (drop 1 (grouped l.rest)) ≡ string_bytes l.fn.text ++ drop 1 (grouped l.octets)

abbrev pub decreases-loop-rest : goal.decreases-loop-rest
decreases-loop-rest l = length l.rest
