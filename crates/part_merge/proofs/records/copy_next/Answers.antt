use Rattle.std.proofs.Common.{◌≡◌, ◌++◌, rules, true, false, length, refl, arith, ap, sym, subst, List, Err}
use Rattle.std.proofs.lemmas.List.{with_items_is, places}
use Rattle.pcap.specs.Source.{Stream}
use Rattle.part_merge.specs.Blame.{CapturesRead, MatchRead}
use Rattle.part_merge.specs.Left.{AreLeft, IsTap}
use Rattle.part_merge.specs.Waiting.{TakesRead}
use Rattle.part_merge.specs.Merged.{at_tap}
use Rattle.part_merge.proofs.Blaming.{no_read, writes_behind}
use Rattle.part_merge.proofs.Numbering.{always}
use Rattle.part_merge.proofs.Waits.{copy_waits, kept_moves, none_waits}
use Rattle.part_merge.proofs.records.copy_next.Goals as goal

pub returns-in-Err-clause-copied : goal.returns-in-Err-clause-copied
returns-in-Err-clause-copied g c = λ text rest at written left. c.in-Err.ensures.kept

pub returns-in-Err-clause-reads : goal.returns-in-Err-clause-reads
returns-in-Err-clause-reads g c = no_read {T = Unit {0}} _ _ (Err c.in-Err.fault) c.in-Err.ensures.no_read refl

pub returns-in-Err-clause-waits : goal.returns-in-Err-clause-waits
returns-in-Err-clause-waits g c = none_waits {T = Unit {0}} _ (Err c.in-Err.fault) c.in-Err.ensures.no_read

pub returns-clause-ports : goal.returns-clause-ports
returns-clause-ports g c =
    rw (with_items_is c.args.captures.now.ports c.copy_at.new.ports (search (rules, places)))
    (omega (arith, c.copy_at.auto.ports, ap length c.as_mut_slice.ensures.value))

pub returns-clause-copied : goal.returns-clause-copied
returns-clause-copied g c = λ text rest at written left.
    let many : length c.hand_on_before.new.port_sinks ≡ length c.args.port_sinks.now = omega (arith, c.hand_on_before.auto.port_sinks) in
    let at_here = subst (λ (l : List Stream). IsTap (length l) c.args.tap) (sym c.as_mut_slice.ensures.value) at in
    let left_here = subst (λ (l : List Stream). AreLeft (λ t. at_tap t c.args.tap text ++ rest t) l c.args.captures.now.underlay) (sym c.as_mut_slice.ensures.value) left in
    rw (with_items_is c.args.captures.now.ports c.copy_at.new.ports (search (rules, places)))
    (kept_moves rest (λ t. at_tap t c.args.tap text) c.copy_at.new.ports c.copy_at.new.underlay c.args.port_sinks.now c.hand_on_before.new.port_sinks c.copy_at.new.port_sinks
    c.args.underlay_sink.now c.hand_on_before.new.underlay_sink c.copy_at.new.underlay_sink c.copy_at.result many c.in_default.ensures.kept.0 (c.copy_at.ensures.copied text rest at_here written left_here))

pub returns-clause-reads : goal.returns-clause-reads
returns-clause-reads g c =
    rw (with_items_is c.args.captures.now.ports c.copy_at.new.ports (search (rules, places)))
    (subst (λ (l : List Stream). CapturesRead c.args.part l c.args.captures.now.underlay c.copy_at.new.ports c.copy_at.new.underlay c.copy_at.result) c.as_mut_slice.ensures.value c.copy_at.ensures.reads)

pub returns-clause-kept : goal.returns-clause-kept
returns-clause-kept g c = always _ c.copy_at.result c.in_default.ensures.kept.1

pub returns-clause-writes : goal.returns-clause-writes
returns-clause-writes g c =
    let failures = g.W.Output.failures c.hand_on_before.new.decisions in
    writes_behind c.args.port_sinks.now c.args.underlay_sink.now (g.W.Output.failures c.args.decisions.now) c.hand_on_before.new.port_sinks c.hand_on_before.new.underlay_sink failures
    c.copy_at.new.port_sinks c.copy_at.new.underlay_sink failures c.copy_at.result c.in_default.ensures.writes (c.copy_at.ensures.writes failures)

pub returns-clause-waits : goal.returns-clause-waits
returns-clause-waits g c =
    let underlay = c.args.captures.now.underlay in
    let tap = c.args.tap in
    let unless = subst (λ (l : List Stream). c.may_wait_for-waits.result ≡ false → c.args.may_wait ≡ true → TakesRead l underlay tap → ⊥)
    c.as_slice.ensures.value c.may_wait_for-waits.ensures.unless in
    let read = subst (λ (l : List Stream). MatchRead c.copy_at.result (λ blamed. TakesRead l underlay tap
    × (c.copy_at.new.port_sinks ≡ c.hand_on_before.new.port_sinks) × (c.copy_at.new.underlay_sink ≡ c.hand_on_before.new.underlay_sink)) (Unit {0}))
    c.as_mut_slice.ensures.value c.copy_at.ensures.waits in
    copy_waits c.may_wait_for-waits.result c.args.may_wait c.args.captures.now.ports.items underlay tap c.hand_on_before.new.port_sinks
    c.copy_at.new.port_sinks c.hand_on_before.new.underlay_sink c.copy_at.new.underlay_sink
    (g.W.Output.held c.hand_on_before.new.decisions) c.copy_at.result unless c.in_default.ensures.out read
