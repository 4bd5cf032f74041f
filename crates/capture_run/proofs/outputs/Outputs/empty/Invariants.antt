use Rattle.std.proofs.Common.{◌≡◌, map, replicate}
use Rattle.pcap.specs.Written.{written_header}
use Rattle.capture_run.proofs.outputs.Outputs.empty.Given as goal

-- each capture so far has a header
abbrev pub invariant-loop-port : goal.invariant-loop-port
invariant-loop-port l = map (λ v. v.items) l.captures.items ≡ replicate l._port written_header
