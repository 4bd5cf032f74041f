use Rattle.std.proofs.Common.{◌-◌, ◌<◌, ◌∙◌, ap, not, sym, length, arith}
use Rattle.pcap.specs.Source.{holds_next}
use Rattle.part_merge.proofs.Waits.{lacks_port, takes_port}
use Rattle.part_merge.proofs.records.port_takes_read.Goals as goal

pub returns-clause-unless : goal.returns-clause-unless
returns-clause-unless g c = λ underlay is takes.
    let there : c.from-number.result - 1 < length c.args.ports.now = omega (arith, c.from-number.ensures, c.if-number-eq0.false, c.if-number-ports.false) in
    lacks_port c.args.ports.now underlay c.index-ports-number.result (c.from-number.result - 1) c.args.port (omega (arith, c.from-number.ensures, c.if-number-eq0.false)) there (ap not (sym (c.holds_next.ensures ∙ ap holds_next c.index-ports-number.is)) ∙ is) takes

pub returns-clause-only : goal.returns-clause-only
returns-clause-only g c = λ underlay is.
    let there : c.from-number.result - 1 < length c.args.ports.now = omega (arith, c.from-number.ensures, c.if-number-eq0.false, c.if-number-ports.false) in
    takes_port c.args.ports.now underlay c.index-ports-number.result (c.from-number.result - 1) c.args.port (omega (arith, c.from-number.ensures, c.if-number-eq0.false)) there (ap not (sym (c.holds_next.ensures ∙ ap holds_next c.index-ports-number.is)) ∙ is)
