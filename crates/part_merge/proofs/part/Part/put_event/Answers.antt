use Rattle.std.proofs.Common.{◌≡◌, ◌∙◌, sym, ap, subst, ℕ, length, arith, Err}
use Rattle.std.specs.Io.KnownBytes.{Appends}
use Rattle.std.specs.Prelude.{OnOk}
use Rattle.line_stream.specs.Lines.{Reader, holds_line}
use Rattle.part_lines.specs.Facts.{facts_of}
use Rattle.part_merge.specs.Merged.{capture_at, records_at}
use Rattle.part_merge.specs.Moved.{AreRecords}
use Rattle.part_merge.proofs.Blaming.{no_read, part_behind, writes_behind}
use Rattle.part_merge.proofs.Handing.{added_kept, unless_then}
use Rattle.part_merge.proofs.Lining.{behind_event, holds_on}
use Rattle.part_merge.proofs.Waits.{kept_appends, kept_line, line_waits, none_waits}
use Rattle.part_merge.specs.Numbered.{AddsLine}
use Rattle.part_merge.specs.declared.coming.Coming.{Coming}
use Rattle.part_merge.proofs.part.Part.put_event.Goals as goal

pub returns-in-Err-clause-event : goal.returns-in-Err-clause-event
returns-in-Err-clause-event g c = λ count p ps cuts holds.
    c.in-Err.ensures.copied p.number p.records (λ t. capture_at t ps) (ap facts_of holds.next.line ∙ holds.texts.of_events.0.told)
    (subst (λ (n : ℕ). AreRecords n p.records) (sym holds.many) holds.texts.of_events.0.records) holds.left

pub returns-clause-event : goal.returns-clause-event
returns-clause-event g c = λ count p ps cuts holds.
    let moved = c.in_default.ensures.copied p.number p.records (λ t. capture_at t ps) (ap facts_of holds.next.line ∙ holds.texts.of_events.0.told)
    (subst (λ (n : ℕ). AreRecords n p.records) (sym holds.many) holds.texts.of_events.0.records) holds.left in
    let old = c.args.self.now in
    let mid = c.copy_records.new.self in
    let stand = behind_event count p ps cuts old mid holds c.in_default.ensures.reader c.in_default.ensures.coming in
    let line = ap (λ (r : Reader). r.line) c.in_default.ensures.reader ∙ holds.next.line in
    let many : length c.copy_records.new.port_sinks ≡ length c.args.port_sinks.now = omega (arith, c.copy_records.auto.port_sinks) in
    unless_then c.put_next_line.result _ _ (c.put_next_line.ensures.line count ps cuts stand)
    (λ h. (
      holds_on count ps cuts mid c.put_next_line.new.self stand.texts holds.few (c.in_default.ensures.ports ∙ holds.many) moved.0 c.put_next_line.ensures.ports c.put_next_line.ensures.underlay h.0,
      added_kept (λ t. records_at t p.records) c.args.port_sinks.now c.copy_records.new.port_sinks c.hand_on_captures_before.new.port_sinks c.args.underlay_sink.now c.copy_records.new.underlay_sink
          c.hand_on_captures_before.new.underlay_sink many moved.1 c.in_default-hand_on_captures_before.ensures.kept,
      kept_appends (g.W.Output.written c.args.decisions.now) (g.W.Output.written c.copy_records.new.decisions) (g.W.Output.written c.put_next_line.new.decisions) p.line c.in_default.ensures.kept
          (subst (Appends (g.W.Output.written c.copy_records.new.decisions) (g.W.Output.written c.put_next_line.new.decisions)) line h.1),
    ))

pub returns-in-Err-hand_on_captures_before-clause-event : goal.returns-in-Err-hand_on_captures_before-clause-event
returns-in-Err-hand_on_captures_before-clause-event g c = λ count p ps cuts holds. c.in-Err-hand_on_captures_before.ensures.kept

pub returns-in-Err-clause-reads : goal.returns-in-Err-clause-reads
returns-in-Err-clause-reads g c = c.in-Err.ensures.reads

pub returns-in-Err-clause-writes : goal.returns-in-Err-clause-writes
returns-in-Err-clause-writes g c = c.in-Err.ensures.writes

pub returns-in-Err-hand_on_captures_before-clause-reads : goal.returns-in-Err-hand_on_captures_before-clause-reads
returns-in-Err-hand_on_captures_before-clause-reads g c =
    no_read {T = Unit {0}} _ _ (Err c.in-Err-hand_on_captures_before.fault) c.in-Err-hand_on_captures_before.ensures.no_read c.in_default.ensures.reads

pub returns-in-Err-hand_on_captures_before-clause-writes : goal.returns-in-Err-hand_on_captures_before-clause-writes
returns-in-Err-hand_on_captures_before-clause-writes g c =
    let failures = g.W.Output.failures c.copy_records.new.decisions in
    writes_behind {T = Unit {0}} c.args.port_sinks.now c.args.underlay_sink.now (g.W.Output.failures c.args.decisions.now) c.copy_records.new.port_sinks c.copy_records.new.underlay_sink failures
    c.hand_on_captures_before.new.port_sinks c.hand_on_captures_before.new.underlay_sink failures (Err c.in-Err-hand_on_captures_before.fault) c.in_default.ensures.writes
    (c.in-Err-hand_on_captures_before.ensures.writes failures)

pub returns-in-Err-hand_on_captures_before-clause-waits : goal.returns-in-Err-hand_on_captures_before-clause-waits
returns-in-Err-hand_on_captures_before-clause-waits g c =
    none_waits {T = Unit {0}} _ (Err c.in-Err-hand_on_captures_before.fault) c.in-Err-hand_on_captures_before.ensures.no_read

pub returns-clause-reads : goal.returns-clause-reads
returns-clause-reads g c = part_behind c.args.part c.args.self.now c.copy_records.new.self c.put_next_line.new.self c.put_next_line.result c.in_default.ensures.reads c.put_next_line.ensures.reads

pub returns-clause-writes : goal.returns-clause-writes
returns-clause-writes g c =
    let failures = g.W.Output.failures c.copy_records.new.decisions in
    let sinks = c.hand_on_captures_before.new.port_sinks in
    let underlay_sink = c.hand_on_captures_before.new.underlay_sink in
    writes_behind c.args.port_sinks.now c.args.underlay_sink.now (g.W.Output.failures c.args.decisions.now) sinks underlay_sink failures sinks underlay_sink
    (g.W.Output.failures c.put_next_line.new.decisions) c.put_next_line.result (c.in_default-hand_on_captures_before.ensures.writes failures ∙ c.in_default.ensures.writes)
    (c.put_next_line.ensures.writes sinks underlay_sink)

pub returns-clause-put : goal.returns-clause-put
returns-clause-put g c =
    kept_line c.args.self.now.coming (g.W.Output.written c.args.decisions.now) (g.W.Output.written c.copy_records.new.decisions) (g.W.Output.written c.put_next_line.new.decisions) c.put_next_line.result c.in_default.ensures.kept
    (subst (λ (k : Coming). OnOk c.put_next_line.result (AddsLine k (g.W.Output.written c.copy_records.new.decisions) (g.W.Output.written c.put_next_line.new.decisions))) c.in_default.ensures.coming c.put_next_line.ensures.put)

pub returns-clause-waits : goal.returns-clause-waits
returns-clause-waits g c =
    line_waits c.may_wait_for_line-waits.result c.args.may_wait (holds_line c.copy_records.new.self.reader) c.hand_on_captures_before.new.port_sinks c.hand_on_captures_before.new.underlay_sink
    (g.W.Output.held c.put_next_line.new.decisions) c.put_next_line.result c.may_wait_for_line-waits.ensures.unless c.in_default-hand_on_captures_before.ensures.out c.put_next_line.ensures.lacked
    c.put_next_line.ensures.waits
