use Rattle.std.proofs.Common.{◌≡◌, ◌∙◌, ℕ, List, [], None, Err, true, false, refl, sym, subst, length, slice_index_or, arith}
use Rattle.std.proofs.lemmas.Result.{on_ok_weaker}
use Rattle.pcap.specs.Source.{New, Stream}
use Rattle.part_merge.specs.Coming.{OpenPart}
use Rattle.part_merge.specs.Left.{AreKept}
use Rattle.part_merge.specs.Merged.{capture_at, merged}
use Rattle.part_merge.specs.Whole.{HaveAll}
use Rattle.part_merge.specs.declared.coming.Coming.TheVariants as coming
use Rattle.part_merge.proofs.Blaming.{behind_blames_none, no_read, no_write, reads_behind, writes_behind}
use Rattle.part_merge.proofs.Handing.{added_kept}
use Rattle.part_merge.proofs.Merging.{MergedSoFar, above_last, all_merged, counts_set, next_missing, next_piece, none_merged_yet, one_merged}
use Rattle.part_merge.proofs.Missing.{device_stops, unless_missing}
use Rattle.part_merge.specs.Numbered.{AddsEvents, AddsLine, HaveNoEvent}
use Rattle.part_merge.specs.declared.coming.Coming.{Coming}
use Rattle.part_merge.proofs.Numbering.{always, no_events, one_event}
use Rattle.part_merge.proofs.Waits.{none_waits}
use Rattle.part_merge.proofs.merge.put_events.Goals.{then-may_wait, else-may_wait}
use Rattle.part_merge.proofs.merge.put_events.Goals as goal

-- a part of nothing, for places where there is none
fresh : OpenPart
fresh = record { reader = record { line = []; ahead = []; rest = None; failures = 0 }; ports = []; underlay = nothing; coming = coming.Nothing }
  where
    nothing : Stream
    nothing = record { standing = New; supply = record { rest = None; calls = 0; failures = 0; ends = 0; reads = 0 }; ahead = [] }

pub loop-first-init : goal.loop-first-init
loop-first-init g c = record {
  counts = c.requires;
  sinks = refl;
  fits = omega arith;
  events = λ pieces cuts holds rise above. none_merged_yet (length c.args.port_sinks.now) pieces cuts c.args.parts.now c.args.port_sinks.now c.args.underlay_sink.now (g.W.Output.written c.args.decisions.now) holds rise above;
  numbered = no_events (g.W.Output.written c.args.decisions.now);
  reads = refl;
  writes = refl;
}

pub returns-then-first-last-clause-events : goal.returns-then-first-last-clause-events
returns-then-first-last-clause-events g c = λ pieces cuts holds rise above.
    let so_far = c.loop-first.invariant.events pieces cuts holds rise above in
    let next = next_piece (length c.args.port_sinks.now) so_far.left cuts c.loop-first.parts c.in-Some.first fresh so_far.holds so_far.rise c.in-Some.ensures in
    absurd (omega (arith, c.if-first-last.true, (above_last (length c.args.port_sinks.now) so_far.left cuts c.loop-first.parts c.in-Some.first c.loop-first.last next so_far.above).0))

pub returns-then-first-next-clause-events : goal.returns-then-first-next-clause-events
returns-then-first-next-clause-events g c = λ pieces cuts holds rise above.
    let so_far = c.loop-first.invariant.events pieces cuts holds rise above in
    let next = next_piece (length c.args.port_sinks.now) so_far.left cuts c.loop-first.parts c.in-Some.first fresh so_far.holds so_far.rise c.in-Some.ensures in
    next_missing (length c.args.port_sinks.now) (merged pieces) cuts c.loop-first.last c.loop-first.parts c.in-Some.first c.args.port_sinks.now c.args.underlay_sink.now (g.W.Output.written c.args.decisions.now)
    c.loop-first.port_sinks c.loop-first.underlay_sink (g.W.Output.written c.loop-first.decisions) so_far next (omega (arith, c.if-first-next.true))

pub put_at-requires-clause-there : goal.put_at-requires-clause-there
put_at-requires-clause-there g c = c.in-Some.ensures.there

pub put_at-requires-clause-count : goal.put_at-requires-clause-count
put_at-requires-clause-count g c = λ s. c.loop-first.invariant.sinks ∙ sym (c.loop-first.invariant.counts s c.in-Some.first.index c.in-Some.ensures.there)

pub returns-in-Err-clause-counts : goal.returns-in-Err-clause-counts
returns-in-Err-clause-counts g c =
    let put = c.in-Err.ensures.put fresh in
    subst (HaveAll (length c.args.port_sinks.now)) (sym put.changed)
    (counts_set (length c.args.port_sinks.now) c.loop-first.parts c.in-Some.first.index put.behind_it c.in-Some.ensures.there c.loop-first.invariant.counts
    (put.count ∙ c.loop-first.invariant.counts fresh c.in-Some.first.index c.in-Some.ensures.there))

pub returns-in-Err-clause-events : goal.returns-in-Err-clause-events
returns-in-Err-clause-events g c = λ pieces cuts holds rise above.
    let so_far = c.loop-first.invariant.events pieces cuts holds rise above in
    let next = next_piece (length c.args.port_sinks.now) so_far.left cuts c.loop-first.parts c.in-Some.first fresh so_far.holds so_far.rise c.in-Some.ensures in
    let put = c.in-Err.ensures.put fresh in
    device_stops (merged pieces) _ (put.event (length c.args.port_sinks.now) next.p next.behind (slice_index_or cuts c.in-Some.first.index []) (next.holds fresh))

pub loop-first-preserved : goal.loop-first-preserved
loop-first-preserved g c =
    let put = c.in_default-put_at.ensures.put fresh in
    record {
      counts = subst (HaveAll (length c.args.port_sinks.now)) (sym put.changed)
          (counts_set (length c.args.port_sinks.now) c.loop-first.parts c.in-Some.first.index put.behind_it c.in-Some.ensures.there c.loop-first.invariant.counts
          (put.count ∙ c.loop-first.invariant.counts fresh c.in-Some.first.index c.in-Some.ensures.there));
      sinks = omega (arith, c.loop-first.invariant.sinks, c.put_at.auto.port_sinks);
      fits = omega arith;
      events = λ pieces cuts holds rise above.
          let so_far = c.loop-first.invariant.events pieces cuts holds rise above in
          let next = next_piece (length c.args.port_sinks.now) so_far.left cuts c.loop-first.parts c.in-Some.first fresh so_far.holds so_far.rise c.in-Some.ensures in
          let above = above_last (length c.args.port_sinks.now) so_far.left cuts c.loop-first.parts c.in-Some.first c.loop-first.last next so_far.above in
          let done = put.event (length c.args.port_sinks.now) next.p next.behind (slice_index_or cuts c.in-Some.first.index []) (next.holds fresh) in
          subst (λ (l : List OpenPart). MergedSoFar (length c.args.port_sinks.now) (merged pieces) cuts c.in-Some.first.number l c.args.port_sinks.now c.args.underlay_sink.now (g.W.Output.written c.args.decisions.now) c.put_at.new.port_sinks c.put_at.new.underlay_sink (g.W.Output.written c.put_at.new.decisions)) (sym put.changed)
          (one_merged (length c.args.port_sinks.now) (merged pieces) cuts c.loop-first.last c.loop-first.parts c.in-Some.first put.behind_it c.args.port_sinks.now c.args.underlay_sink.now (g.W.Output.written c.args.decisions.now)
          c.loop-first.port_sinks c.loop-first.underlay_sink (g.W.Output.written c.loop-first.decisions) c.put_at.new.port_sinks c.put_at.new.underlay_sink (g.W.Output.written c.put_at.new.decisions)
          so_far next c.in-Some.ensures.there (omega (arith, above.0, c.if-first-next.false)) c.loop-first.invariant.sinks done.0 done.1 done.2);
      numbered = one_event c.loop-first.last c.in-Some.first.number (g.W.Output.written c.args.decisions.now) (g.W.Output.written c.loop-first.decisions) (g.W.Output.written c.put_at.new.decisions) c.loop-first.invariant.numbered
          (omega (arith, c.if-first-last.false, c.if-first-next.false))
          (subst (λ (k : Coming). AddsLine k (g.W.Output.written c.loop-first.decisions) (g.W.Output.written c.put_at.new.decisions)) (c.in-Some.ensures.next fresh) (c.in_default-put_at.ensures.line fresh));
      reads = c.in_default-put_at.ensures.reads ∙ c.loop-first.invariant.reads;
      writes = c.in_default-put_at.ensures.writes ∙ c.loop-first.invariant.writes;
    }

pub returns-clause-events : goal.returns-clause-events
returns-clause-events g c = λ pieces cuts holds rise above.
    let so_far = c.loop-first.invariant.events pieces cuts holds rise above in
    let put = all_merged (length c.args.port_sinks.now) (merged pieces) cuts c.loop-first.last c.loop-first.parts fresh c.args.port_sinks.now c.args.underlay_sink.now (g.W.Output.written c.args.decisions.now) c.loop-first.port_sinks c.loop-first.underlay_sink
    (g.W.Output.written c.loop-first.decisions) so_far c.in_default.ensures in
    unless_missing (merged pieces) (AreKept c.loop-first.port_sinks c.loop-first.underlay_sink c.hand_on_captures_before.new.port_sinks c.hand_on_captures_before.new.underlay_sink) _ c.hand_on_captures_before.result put.0
    (λ kept. record {
      hold = put.1.hold;
      added = added_kept (λ tap. capture_at tap (merged pieces)) c.args.port_sinks.now c.loop-first.port_sinks c.hand_on_captures_before.new.port_sinks c.args.underlay_sink.now c.loop-first.underlay_sink
          c.hand_on_captures_before.new.underlay_sink c.loop-first.invariant.sinks put.1.added kept;
      lines = put.1.lines;
    })
    c.hand_on_captures_before.ensures.kept

pub returns-then-first-last-clause-reads : goal.returns-then-first-last-clause-reads
returns-then-first-last-clause-reads g c = no_read {T = Unit {0}} _ _ (Err c.behind.result) (rw c.behind.ensures (behind_blames_none c.loop-first.last c.in-Some.first.index c.in-Some.first.number).0) c.loop-first.invariant.reads

pub returns-then-first-last-clause-writes : goal.returns-then-first-last-clause-writes
returns-then-first-last-clause-writes g c = no_write {T = Unit {0}} _ _ (Err c.behind.result) (rw c.behind.ensures (behind_blames_none c.loop-first.last c.in-Some.first.index c.in-Some.first.number).1) c.loop-first.invariant.writes

pub returns-then-first-next-clause-reads : goal.returns-then-first-next-clause-reads
returns-then-first-next-clause-reads g c = c.loop-first.invariant.reads

pub returns-then-first-next-clause-writes : goal.returns-then-first-next-clause-writes
returns-then-first-next-clause-writes g c = c.loop-first.invariant.writes

pub returns-in-Err-clause-reads : goal.returns-in-Err-clause-reads
returns-in-Err-clause-reads g c = reads_behind {T = Unit {0}} c.args.parts.now c.loop-first.parts c.put_at.new.parts (Err c.in-Err.fault) c.loop-first.invariant.reads c.in-Err.ensures.reads

pub returns-in-Err-clause-writes : goal.returns-in-Err-clause-writes
returns-in-Err-clause-writes g c =
    writes_behind {T = Unit {0}} c.args.port_sinks.now c.args.underlay_sink.now (g.W.Output.failures c.args.decisions.now) c.loop-first.port_sinks c.loop-first.underlay_sink (g.W.Output.failures c.loop-first.decisions)
    c.put_at.new.port_sinks c.put_at.new.underlay_sink (g.W.Output.failures c.put_at.new.decisions) (Err c.in-Err.fault) c.loop-first.invariant.writes c.in-Err.ensures.writes

pub returns-clause-reads : goal.returns-clause-reads
returns-clause-reads g c = no_read _ _ c.hand_on_captures_before.result c.hand_on_captures_before.ensures.no_read c.loop-first.invariant.reads

pub returns-clause-writes : goal.returns-clause-writes
returns-clause-writes g c =
    let failures = g.W.Output.failures c.loop-first.decisions in
    writes_behind c.args.port_sinks.now c.args.underlay_sink.now (g.W.Output.failures c.args.decisions.now) c.loop-first.port_sinks c.loop-first.underlay_sink failures
    c.hand_on_captures_before.new.port_sinks c.hand_on_captures_before.new.underlay_sink failures c.hand_on_captures_before.result c.loop-first.invariant.writes (c.hand_on_captures_before.ensures.writes failures)

pub returns-clause-numbered : goal.returns-clause-numbered
returns-clause-numbered g c =
    always ((count : ℕ) × AddsEvents count (g.W.Output.written c.args.decisions.now) (g.W.Output.written c.loop-first.decisions)) c.hand_on_captures_before.result (c.loop-first.last, c.loop-first.invariant.numbered)

pub returns-clause-over : goal.returns-clause-over
returns-clause-over g c = always (HaveNoEvent c.loop-first.parts) c.hand_on_captures_before.result c.in_default.ensures

pub returns-clause-waits : goal.returns-clause-waits
returns-clause-waits g c = none_waits _ c.hand_on_captures_before.result c.hand_on_captures_before.ensures.no_read

pub returns-clause-out : goal.returns-clause-out
returns-clause-out g c = elim c.if-may_wait.branch [
  | then-may_wait w ↦ on_ok_weaker c.hand_on_captures_before.result (λ out may. out (w.hand_on_captures_before-is ∙ may)) c.hand_on_captures_before.ensures.out
  | else-may_wait w ↦ on_ok_weaker c.hand_on_captures_before.result (λ out may. let never : true ≡ false = sym may ∙ w.if-may_wait.false in absurd cc) c.hand_on_captures_before.ensures.out
]

pub returns-then-first-last-clause-waits : goal.returns-then-first-last-clause-waits
returns-then-first-last-clause-waits g c = none_waits {T = Unit {0}} _ (Err c.behind.result) (rw c.behind.ensures (behind_blames_none c.loop-first.last c.in-Some.first.index c.in-Some.first.number).0)
