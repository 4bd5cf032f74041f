use Rattle.std.proofs.Common.{◌≡◌, ◌≢◌, ◌∙◌, ◌+◌, ◌<◌, refl, ap, length, map, inl, inr, slice_index_or, arith, Ok, Err}
use Rattle.std.proofs.lemmas.Bool.{cases_lt}
use Rattle.std.proofs.lemmas.List.{get_or-set_other, get_or-set_same, get_or_default}
use Rattle.pcap.specs.Written.{written_header}
use Rattle.pcap.specs.declared.stream.fault.WriteFault.{WriteFault}
use Rattle.timeline.specs.declared.source.Tap.TheVariants.{Port, Underlay}
use Rattle.part_merge.specs.Blame.{sink_health}
use Rattle.part_merge.specs.declared.fault.MergeFault.TheVariants as faults
use Rattle.part_merge.specs.declared.fault.Target.TheVariants as targets
use Rattle.part_merge.proofs.Blaming.{health, healths, ports_writes, put_writes, same_set, underlay_writes, writes_behind}
use Rattle.part_merge.proofs.Copying.{put_is_added}
use Rattle.part_merge.proofs.merge.begin_all.Goals as goal

pub loop-i-preserved : goal.loop-i-preserved
loop-i-preserved g c =
    let sinks = c.loop-i.port_sinks in
    let i = c.loop-i.i in
    let there : i < length sinks = omega (arith, c.loop-i-test.true, c.loop-i.auto.port_sinks) in
    let old = slice_index_or sinks i c.index-port_sinks-i.result in
    record {
      begun = λ d k lt. elim (cases_lt k i) [
        | inl below ↦
            let apart : k ≢ i = λ e. omega (arith, e, below) in
            rw (get_or-set_other sinks i k c.begin.new.self d apart) (c.loop-i.invariant.begun d k below)
        | inr ge ↦
            let same : k ≡ i = omega (arith, lt, ge) in
            rw (same, get_or-set_same sinks i c.begin.new.self d there, ← c.loop-i.invariant.others d i (omega arith), get_or_default sinks i d c.index-port_sinks-i.result there)
            (put_is_added WriteFault old c.begin.new.self written_header c.in_default.field-0 c.in_default.ensures)
      ];
      others = λ d k le.
          let apart : k ≢ i = λ e. omega (arith, e, le) in
          get_or-set_other sinks i k c.begin.new.self d apart ∙ c.loop-i.invariant.others d k (omega (arith, le));
      writes = same_set sink_health sinks i c.begin.new.self c.index-port_sinks-i.result there (put_writes {E = WriteFault} old c.begin.new.self written_header (Ok c.in_default.field-0) c.in_default.ensures) ∙ c.loop-i.invariant.writes;
    }

pub returns-in-Err-clause-writes : goal.returns-in-Err-clause-writes
returns-in-Err-clause-writes g c = λ failures.
    let there : c.loop-i.i < length c.loop-i.port_sinks = omega (arith, c.loop-i-test.true, c.loop-i.auto.port_sinks) in
    ports_writes {T = Unit {0}} c.args.port_sinks.now c.loop-i.port_sinks c.args.underlay_sink.now c.begin.new.self c.index-port_sinks-i.result failures c.loop-i.i (Err (faults.Write (targets.Capture (Port (c.loop-i.i + 1))))) c.loop-i.invariant.writes there
    (refl, put_writes {T = Unit {0}} (slice_index_or c.loop-i.port_sinks c.loop-i.i c.index-port_sinks-i.result) c.begin.new.self written_header (Err c.in-Err.field-0) c.in-Err.ensures)

pub returns-in-Ok-clause-writes : goal.returns-in-Ok-clause-writes
returns-in-Ok-clause-writes g c = λ failures.
    ap (λ l. health failures (healths l (sink_health c.begin-2.new.self))) c.loop-i.invariant.writes
    ∙ ap (λ u. health failures (healths (map sink_health c.args.port_sinks.now) u)) (put_writes {E = WriteFault} c.args.underlay_sink.now c.begin-2.new.self written_header (Ok c.in-Ok.field-0) c.in-Ok.ensures)

pub returns-in-Err-begin-clause-writes : goal.returns-in-Err-begin-clause-writes
returns-in-Err-begin-clause-writes g c = λ failures.
    let sinks = c.loop-i.port_sinks in
    let underlay = c.args.underlay_sink.now in
    writes_behind {T = Unit {0}} c.args.port_sinks.now underlay failures sinks underlay failures sinks c.begin-2.new.self failures (Err (faults.Write (targets.Capture Underlay)))
    (ap (λ l. health failures (healths l (sink_health underlay))) c.loop-i.invariant.writes)
    (underlay_writes {T = Unit {0}} sinks underlay c.begin-2.new.self failures (Err (faults.Write (targets.Capture Underlay)))
    (refl, put_writes {T = Unit {0}} underlay c.begin-2.new.self written_header (Err c.in-Err-begin.field-0) c.in-Err-begin.ensures))
