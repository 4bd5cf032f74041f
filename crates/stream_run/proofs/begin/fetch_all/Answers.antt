use Rattle.std.proofs.Common.{◌∙◌, arith, refl, subst, sym, Err}
use Rattle.stream_run.specs.Begun.{OnlyReads}
use Rattle.stream_run.specs.Steps.{IsAt}
use Rattle.stream_run.specs.declared.fault.StreamFault.{StreamFault}
use Rattle.stream_run.proofs.Begun.{all_fetched, asked_first, fault_only_reads, faults_told, fetch_stops, none_fetched, one_fetched}
use Rattle.stream_run.proofs.Reading.{fault_from}
use Rattle.stream_run.proofs.Readying.{fetched_to}
use Rattle.stream_run.proofs.begin.fetch_all.Goals as goal

pub loop-index-init : goal.loop-index-init
loop-index-init g c = record { so_far = none_fetched c.args.changes.now c.args.captures.now.ports.items c.args.captures.now.underlay c.args.turns.now c.requires.open; still = refl }

pub fetch_at-requires-clause-open : goal.fetch_at-requires-clause-open
fetch_at-requires-clause-open g c place at = c.loop-index.invariant.so_far.open_ place c.loop-index.index (omega arith) (subst (λ n. IsAt n c.loop-index.index place) c.loop-index.invariant.so_far.many at)

pub at-requires : goal.at-requires
at-requires g c = (asked_first c.args.changes.now c.loop-index.index c.loop-index.captures.ports.items c.loop-index.captures.underlay c.fetch_at.new.captures.ports.items c.fetch_at.new.captures.underlay _ c.loop-index.invariant.so_far.first c.in_default.ensures.fetched).moment

pub loop-index-preserved : goal.loop-index-preserved
loop-index-preserved g c = record {
  so_far = one_fetched c.args.changes.now c.loop-index.index c.args.captures.now.ports.items c.args.captures.now.underlay c.args.turns.now c.loop-index.captures.ports.items c.loop-index.captures.underlay c.loop-index.turns c.loop-index.invariant.so_far c.fetch_at.new.captures.ports.items c.fetch_at.new.captures.underlay _ (omega (arith, c.loop-index-test.true, c.loop-index.invariant.so_far.size)) (fetched_to c.args.changes.now c.loop-index.index 0 0 c.loop-index.captures.ports.items c.loop-index.captures.underlay c.fetch_at.new.captures.ports.items c.fetch_at.new.captures.underlay c.fetch_at.new.when c.at.result c.at.ensures c.in_default.ensures.fetched);
  still = c.in_default.ensures.may_wait ∙ c.loop-index.invariant.still;
}

pub returns-in-Err-clause-reads : goal.returns-in-Err-clause-reads
returns-in-Err-clause-reads g c = fetch_stops c.args.changes.now c.loop-index.index c.args.captures.now.ports.items c.args.captures.now.underlay c.args.turns.now c.loop-index.captures.ports.items c.loop-index.captures.underlay c.loop-index.turns c.loop-index.invariant.so_far c.fetch_at.new.captures.ports.items c.fetch_at.new.captures.underlay c.fault_at.result (fault_from c.args.changes.now c.loop-index.index 0 0 c.loop-index.captures.ports.items c.loop-index.captures.underlay c.fetch_at.new.captures.ports.items c.fetch_at.new.captures.underlay c.fetch_at.new.when c.in-Err.fault c.tap_at.result c.fault_at.result _ c.fault_at.ensures c.tap_at.ensures (omega (arith, c.loop-index.invariant.so_far.size, c.loop-index.invariant.so_far.many, c.requires.size)) c.in-Err.ensures.fetched)

pub returns-in-Err-clause-only_reads : goal.returns-in-Err-clause-only_reads
returns-in-Err-clause-only_reads g c = subst (λ (f : StreamFault). OnlyReads (Err f)) (sym c.fault_at.ensures) (fault_only_reads c.tap_at.result 1 c.in-Err.fault)

pub returns-clause-ready : goal.returns-clause-ready
returns-clause-ready g c = c.loop-index.invariant.so_far.ready

pub returns-clause-reads : goal.returns-clause-reads
returns-clause-reads g c = c.loop-index.invariant.so_far.quiet

pub returns-in-Err-clause-told : goal.returns-in-Err-clause-told
returns-in-Err-clause-told g c = faults_told c.args.changes.now c.loop-index.index c.args.captures.now.ports.items c.args.captures.now.underlay c.args.turns.now c.loop-index.captures.ports.items c.loop-index.captures.underlay c.loop-index.turns c.loop-index.invariant.so_far c.fetch_at.new.captures.ports.items c.fetch_at.new.captures.underlay c.fault_at.result c.loop-index.turns (fault_from c.args.changes.now c.loop-index.index 0 0 c.loop-index.captures.ports.items c.loop-index.captures.underlay c.fetch_at.new.captures.ports.items c.fetch_at.new.captures.underlay c.fetch_at.new.when c.in-Err.fault c.tap_at.result c.fault_at.result _ c.fault_at.ensures c.tap_at.ensures (omega (arith, c.loop-index.invariant.so_far.size, c.loop-index.invariant.so_far.many, c.requires.size)) c.in-Err.ensures.fetched)

pub returns-clause-told : goal.returns-clause-told
returns-clause-told g c =
    all_fetched c.args.changes.now c.loop-index.index c.args.captures.now.ports.items c.args.captures.now.underlay c.args.turns.now c.loop-index.captures.ports.items c.loop-index.captures.underlay c.loop-index.turns c.loop-index.invariant.so_far
    (omega (arith, c.loop-index-test.false, c.loop-index.auto.index-end, c.requires.size))

pub fetch_at-requires-clause-out : goal.fetch_at-requires-clause-out
fetch_at-requires-clause-out g c waits takes = c.requires.out (sym c.loop-index.invariant.still ∙ waits)

pub returns-clause-may_wait : goal.returns-clause-may_wait
returns-clause-may_wait g c = c.loop-index.invariant.still

pub returns-in-Err-clause-may_wait : goal.returns-in-Err-clause-may_wait
returns-in-Err-clause-may_wait g c = c.in-Err.ensures.may_wait ∙ c.loop-index.invariant.still
