use Rattle.std.proofs.Common.{rules, ◌≡◌, ◌∙◌, ap, refl, subst, sym, ℕ, length, arith, Err}
use Rattle.std.proofs.lemmas.List.{places, with_items_is}
use Rattle.std.specs.Io.KnownBytes.{Appends}
use Rattle.std.specs.List.{concat}
use Rattle.timeline.specs.Drains.{Drains}
use Rattle.part_merge.specs.Merged.{merged, side_by_side}
use Rattle.part_merge.specs.Whole.{AllHold, OnlyCuts, cut_lines}
use Rattle.part_merge.proofs.Blaming.{no_read, no_write, reads_behind, writes_behind}
use Rattle.part_merge.proofs.Missing.{device_stops, unless_missing}
use Rattle.part_merge.proofs.WholeTexts.{adds_all}
use Rattle.std.proofs.lemmas.Result.{on_ok_weaker}
use Rattle.part_merge.proofs.Numbering.{all_lines}
use Rattle.part_merge.proofs.Waits.{both_waits, none_waits}
use Rattle.part_merge.proofs.merge.merge_streams.Given.{Over}
use Rattle.part_merge.proofs.merge.merge_streams.Goals.{After-as_mut_slice-ports}
use Rattle.part_merge.proofs.merge.merge_streams.Goals as goal

-- as many captures are lent as the outputs have
as_many : (g : Over) (c : After-as_mut_slice-ports g) → length c.as_mut_slice-ports.result.now ≡ length c.args.outputs.now.ports
as_many g c = ap length c.as_mut_slice-ports.ensures.value ∙ ap (λ (d : Drains). length d.ports) c.outputs.view_is

pub begin_all-requires : goal.begin_all-requires
begin_all-requires g c = omega (arith, c.requires.few, as_many g (goal.at.begin_all-requires g c).After-as_mut_slice-ports)

pub finish_all-requires-clause-few : goal.finish_all-requires-clause-few
finish_all-requires-clause-few g c =
    omega (arith, c.requires.few, c.begin_all.auto.port_sinks, c.put_events.auto.port_sinks, as_many g (goal.at.finish_all-requires-clause-few g c).After-as_mut_slice-ports)

pub returns-in-Err-clause-merged : goal.returns-in-Err-clause-merged
returns-in-Err-clause-merged g c = λ pieces cuts are. absurd (c.in-Err.ensures.other (λ s k lt. (are.hold.each s k lt).many ∙ sym (as_many g (goal.at.returns-in-Err-clause-merged g c).After-as_mut_slice-ports)))

pub returns-in-Err-begin_all-clause-merged : goal.returns-in-Err-begin_all-clause-merged
returns-in-Err-begin_all-clause-merged g c = λ pieces cuts are. device_stops (merged pieces) _ c.in-Err-begin_all.ensures.begun

pub put_events-requires : goal.put_events-requires
put_events-requires g c = λ s k lt. omega (arith, c.in_default.ensures.all s k lt, c.begin_all.auto.port_sinks)

pub returns-in-Err-put_events-clause-merged : goal.returns-in-Err-put_events-clause-merged
returns-in-Err-put_events-clause-merged g c = λ pieces cuts are.
    let many = as_many g (goal.at.returns-in-Err-put_events-clause-merged g c).After-as_mut_slice-ports in
    let same : length c.args.outputs.now.ports ≡ length c.begin_all.new.port_sinks = omega (arith, many, c.begin_all.auto.port_sinks) in
    c.in-Err-put_events.ensures.events pieces (cut_lines cuts) (subst (λ (n : ℕ). AllHold n pieces (cut_lines cuts) c.args.parts.now) same are.hold) are.rise are.apart

pub finish_all-requires-clause-counts : goal.finish_all-requires-clause-counts
finish_all-requires-clause-counts g c = λ s k lt. omega (arith, c.in_default-put_events.ensures.counts s k lt, c.put_events.auto.port_sinks)

pub returns-clause-merged : goal.returns-clause-merged
returns-clause-merged g c =
    rw (with_items_is c.outputs.inside.ports c.put_events.new.port_sinks (search (rules, places)), ← c.outputs.view_is, ← c.as_mut_slice-ports.ensures.value)
    (λ pieces cuts are.
    let same : length c.as_mut_slice-ports.result.now ≡ length c.begin_all.new.port_sinks = omega (arith, c.begin_all.auto.port_sinks) in
    let also : length c.begin_all.new.port_sinks ≡ length c.put_events.new.port_sinks = omega (arith, c.put_events.auto.port_sinks) in
    let put = c.in_default-put_events.ensures.events pieces (cut_lines cuts) (subst (λ (n : ℕ). AllHold n pieces (cut_lines cuts) c.args.parts.now) same are.hold) are.rise are.apart in
    let only = subst (λ (n : ℕ). OnlyCuts n (cut_lines cuts) c.put_events.new.parts) also put.1.hold in
    unless_missing (merged pieces) (Appends (g.W.Output.written c.put_events.new.decisions) (g.W.Output.written c.finish_all.new.decisions) (concat (side_by_side (cut_lines cuts)))) _ c.finish_all.result put.0
    (λ cut. adds_all (length c.as_mut_slice-ports.result.now) (merged pieces) cuts c.as_mut_slice-ports.result.now c.outputs.inside.underlay c.begin_all.new.port_sinks c.begin_all.new.underlay_sink c.put_events.new.port_sinks c.put_events.new.underlay_sink
    (g.W.Output.written c.outputs.inside.decisions) (g.W.Output.written c.put_events.new.decisions) (g.W.Output.written c.finish_all.new.decisions) refl (omega (arith, same)) (omega (arith, same, also)) c.in_default-begin_all.ensures.begun put.1.added put.1.lines cut)
    (c.finish_all.ensures.cuts (cut_lines cuts) only))

pub returns-in-Err-clause-reads : goal.returns-in-Err-clause-reads
returns-in-Err-clause-reads g c = no_read {T = Unit {0}} _ _ (Err c.in-Err.fault) c.in-Err.ensures.no_read refl

pub returns-in-Err-clause-writes : goal.returns-in-Err-clause-writes
returns-in-Err-clause-writes g c =
    rw (with_items_is c.outputs.inside.ports c.as_mut_slice-ports.result.now (search (rules, places)), ← c.outputs.view_is, ← c.as_mut_slice-ports.ensures.value)
    (no_write {T = Unit {0}} _ _ (Err c.in-Err.fault) c.in-Err.ensures.no_write refl)

pub returns-in-Err-begin_all-clause-reads : goal.returns-in-Err-begin_all-clause-reads
returns-in-Err-begin_all-clause-reads g c = no_read {T = Unit {0}} _ _ (Err c.in-Err-begin_all.fault) c.in-Err-begin_all.ensures.no_read refl

pub returns-in-Err-begin_all-clause-writes : goal.returns-in-Err-begin_all-clause-writes
returns-in-Err-begin_all-clause-writes g c =
    rw (with_items_is c.outputs.inside.ports c.begin_all.new.port_sinks (search (rules, places)), ← c.outputs.view_is, ← c.as_mut_slice-ports.ensures.value)
    (c.in-Err-begin_all.ensures.writes (g.W.Output.failures c.outputs.inside.decisions))

pub returns-in-Err-put_events-clause-reads : goal.returns-in-Err-put_events-clause-reads
returns-in-Err-put_events-clause-reads g c = c.in-Err-put_events.ensures.reads

pub returns-in-Err-put_events-clause-writes : goal.returns-in-Err-put_events-clause-writes
returns-in-Err-put_events-clause-writes g c =
    rw (with_items_is c.outputs.inside.ports c.put_events.new.port_sinks (search (rules, places)), ← c.outputs.view_is, ← c.as_mut_slice-ports.ensures.value)
    (let failures = g.W.Output.failures c.outputs.inside.decisions in
    writes_behind {T = Unit {0}} c.as_mut_slice-ports.result.now c.outputs.inside.underlay failures c.begin_all.new.port_sinks c.begin_all.new.underlay_sink failures c.put_events.new.port_sinks c.put_events.new.underlay_sink (g.W.Output.failures c.put_events.new.decisions)
    (Err c.in-Err-put_events.fault) (c.in_default-begin_all.ensures.writes failures) c.in-Err-put_events.ensures.writes)

pub returns-clause-reads : goal.returns-clause-reads
returns-clause-reads g c = reads_behind c.args.parts.now c.put_events.new.parts c.finish_all.new.parts c.finish_all.result c.in_default-put_events.ensures.reads c.finish_all.ensures.reads

pub returns-clause-writes : goal.returns-clause-writes
returns-clause-writes g c =
    rw (with_items_is c.outputs.inside.ports c.put_events.new.port_sinks (search (rules, places)), ← c.outputs.view_is, ← c.as_mut_slice-ports.ensures.value)
    (let failures = g.W.Output.failures c.outputs.inside.decisions in
    writes_behind c.as_mut_slice-ports.result.now c.outputs.inside.underlay failures c.put_events.new.port_sinks c.put_events.new.underlay_sink (g.W.Output.failures c.put_events.new.decisions) c.put_events.new.port_sinks c.put_events.new.underlay_sink
    (g.W.Output.failures c.finish_all.new.decisions) c.finish_all.result (c.in_default-put_events.ensures.writes ∙ c.in_default-begin_all.ensures.writes failures) (c.finish_all.ensures.writes c.put_events.new.port_sinks c.put_events.new.underlay_sink))

pub returns-clause-numbered : goal.returns-clause-numbered
returns-clause-numbered g c =
    rw (← c.outputs.view_is)
    (let events = c.in_default-put_events.ensures.numbered in
    on_ok_weaker c.finish_all.result (all_lines events.0 (g.W.Output.written c.outputs.inside.decisions) (g.W.Output.written c.put_events.new.decisions) (g.W.Output.written c.finish_all.new.decisions) events.1) c.finish_all.ensures.put)

pub returns-clause-read : goal.returns-clause-read
returns-clause-read g c = on_ok_weaker c.finish_all.result (λ over. over c.in_default-put_events.ensures.over) c.finish_all.ensures.over

pub returns-in-Err-clause-waits : goal.returns-in-Err-clause-waits
returns-in-Err-clause-waits g c = none_waits {T = Unit {0}} _ (Err c.in-Err.fault) c.in-Err.ensures.no_read

pub returns-in-Err-begin_all-clause-waits : goal.returns-in-Err-begin_all-clause-waits
returns-in-Err-begin_all-clause-waits g c = none_waits {T = Unit {0}} _ (Err c.in-Err-begin_all.fault) c.in-Err-begin_all.ensures.no_read

pub returns-clause-waits : goal.returns-clause-waits
returns-clause-waits g c =
    rw (with_items_is c.outputs.inside.ports c.put_events.new.port_sinks (search (rules, places)))
    (both_waits c.args.may_wait c.put_events.new.port_sinks c.put_events.new.underlay_sink (g.W.Output.held c.finish_all.new.decisions) c.finish_all.result c.in_default-put_events.ensures.out c.finish_all.ensures.waits)

pub returns-in-Err-put_events-clause-waits : goal.returns-in-Err-put_events-clause-waits
returns-in-Err-put_events-clause-waits g c = rw (with_items_is c.outputs.inside.ports c.put_events.new.port_sinks (search (rules, places))) c.in-Err-put_events.ensures.waits
