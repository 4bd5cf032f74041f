use Rattle.std.proofs.Common.{◌≡◌, ◌∙◌, ◌++◌, refl, sym, ap, subst, false, length, Some, Ok, Err}
use Rattle.pcap.specs.Record.{Record}
use Rattle.pcap.specs.Written.{whole_frame, written_record}
use Rattle.pcap.specs.Sink.{IsPut}
use Rattle.pcap.specs.declared.stream.fault.WriteFault.{WriteFault}
use Rattle.pcap.specs.Source.{MatchRead as MatchSource, Stream, holds_next, lent}
use Rattle.part_merge.specs.Copied.{IsDeviceStop}
use Rattle.part_merge.specs.Left.{IsAdded, IsLeft}
use Rattle.part_merge.proofs.Blaming.{filled_reads, put_writes, stop_writes, unfilled_reads}
use Rattle.part_merge.proofs.Copying.{err_stop, filled, lends, put_is_added, sound_written}
use Rattle.part_merge.proofs.Waits.{stop_waits}
use Rattle.part_merge.proofs.capture.PartCapture.copy.Goals as goal
use Rattle.part_merge.proofs.capture.PartCapture.copy.Goals.{in-Ok, in-Err-put}

pub returns-in-Err-clause-copied : goal.returns-in-Err-clause-copied
returns-in-Err-clause-copied g c = λ text rest written left.
    let before = subst (IsLeft (text ++ rest)) (sym c.self.view_is) left in
    subst IsDeviceStop (sym c.stop_by.ensures)
    (err_stop (text ++ rest) c.fill.new.self c.in-Err.fault (sound_written text rest written) (filled (text ++ rest) c.self.inside.source c.fill.new.self (Err c.in-Err.fault) before c.in-Err.ensures.filled) c.in-Err.ensures.answer)

pub returns-in_default-head-clause-copied : goal.returns-in_default-head-clause-copied
returns-in_default-head-clause-copied g c = λ text rest written left.
    let before = subst (IsLeft (text ++ rest)) (sym c.self.view_is) left in
    let lent_ = lends text rest written c.fill.new.self (filled (text ++ rest) c.self.inside.source c.fill.new.self (Ok c.in_default.field-0) before c.in_default.ensures.filled) in
    let some = c.head.ensures.record ∙ ap lent lent_.stands in
    let none = c.in_default-head.is in
    absurd cc

pub returns-then-record-clause-copied : goal.returns-then-record-clause-copied
returns-then-record-clause-copied g c = λ text rest written left.
    let before = subst (IsLeft (text ++ rest)) (sym c.self.view_is) left in
    let lent_ = lends text rest written c.fill.new.self (filled (text ++ rest) c.self.inside.source c.fill.new.self (Ok c.in_default.field-0) before c.in_default.ensures.filled) in
    let some = sym c.in-Some.is ∙ c.head.ensures.record ∙ ap lent lent_.stands in
    let same : c.in-Some.record ≡ whole_frame written.moment written.octets = cc in
    let view = c.record.view_is ∙ same in
    c.if-record.true (ap (λ (r : Record). length r.octets) view ∙ sym (ap (λ (r : Record). r.original) view))

pub returns-clause-copied : goal.returns-clause-copied
returns-clause-copied g c = λ text rest written left.
    let before = subst (IsLeft (text ++ rest)) (sym c.self.view_is) left in
    let lent_ = lends text rest written c.fill.new.self (filled (text ++ rest) c.self.inside.source c.fill.new.self (Ok c.in_default.field-0) before c.in_default.ensures.filled) in
    let some = sym c.in-Some.is ∙ c.head.ensures.record ∙ ap lent lent_.stands in
    let same : c.in-Some.record ≡ whole_frame written.moment written.octets = cc in
    let view = c.record.view_is ∙ same in
    elim c.match-put.branch [
      | in-Ok w ↦ rw w.result-is (
        record { last = Some (whole_frame written.moment written.octets); stands = lent_.stands; rest = lent_.rest },
        subst (λ l. IsAdded l c.args.sink.now c.put.new.self) (sym written.is)
            (put_is_added WriteFault c.args.sink.now c.put.new.self (written_record (whole_frame written.moment written.octets)) w.in-Ok.field-0
            (subst (λ (r : Record). IsPut {T = Unit {0}} {E = WriteFault} c.args.sink.now c.put.new.self (written_record (whole_frame r.moment r.octets)) (Ok w.in-Ok.field-0)) view w.in-Ok.ensures)),
      )
      | in-Err-put w ↦ rw w.result-is tt
    ]

pub returns-in-Err-clause-reads : goal.returns-in-Err-clause-reads
returns-in-Err-clause-reads g c =
    unfilled_reads c.args.self.now c.self.inside.source c.fill.new.self c.in-Err.fault c.stop_by.result c.self.view_is c.stop_by.ensures c.in-Err.ensures.filled c.in-Err.ensures.answer

pub returns-in-Err-clause-writes : goal.returns-in-Err-clause-writes
returns-in-Err-clause-writes g c = rw c.stop_by.ensures (stop_writes c.args.sink.now c.in-Err.fault)

pub returns-in_default-head-clause-reads : goal.returns-in_default-head-clause-reads
returns-in_default-head-clause-reads g c = filled_reads c.args.self.now c.self.inside.source c.fill.new.self c.in_default.field-0 c.self.view_is c.in_default.ensures.filled c.in_default.ensures.answer

pub returns-then-record-clause-reads : goal.returns-then-record-clause-reads
returns-then-record-clause-reads g c = filled_reads c.args.self.now c.self.inside.source c.fill.new.self c.in_default.field-0 c.self.view_is c.in_default.ensures.filled c.in_default.ensures.answer

pub returns-clause-reads : goal.returns-clause-reads
returns-clause-reads g c =
    let reads = filled_reads c.args.self.now c.self.inside.source c.fill.new.self c.in_default.field-0 c.self.view_is c.in_default.ensures.filled c.in_default.ensures.answer in
    elim c.match-put.branch [
      | in-Ok w ↦ rw w.result-is reads
      | in-Err-put w ↦ rw w.result-is reads
    ]

pub returns-clause-writes : goal.returns-clause-writes
returns-clause-writes g c =
    elim c.match-put.branch [
      | in-Ok w ↦ rw w.result-is (put_writes {T = Unit {0}} {E = WriteFault} c.args.sink.now c.put.new.self _ (Ok w.in-Ok.field-0) w.in-Ok.ensures)
      | in-Err-put w ↦ rw w.result-is (put_writes {T = Unit {0}} {E = WriteFault} c.args.sink.now c.put.new.self _ (Err w.in-Err-put.field-0) w.in-Err-put.ensures)
    ]

pub returns-in-Err-clause-waits : goal.returns-in-Err-clause-waits
returns-in-Err-clause-waits g c =
    let lacked = subst (λ (s : Stream). MatchSource {T = Unit {0}} (Err c.in-Err.fault) (holds_next s ≡ false) (Unit {0})) c.self.view_is c.in-Err.ensures.lacked in
    rw c.stop_by.ensures (stop_waits c.in-Err.fault (holds_next c.args.self.now ≡ false) (c.args.sink.now ≡ c.args.sink.now) lacked refl)

pub returns-clause-waits : goal.returns-clause-waits
returns-clause-waits g c =
    elim c.match-put.branch [
      | in-Ok w ↦ rw w.result-is tt
      | in-Err-put w ↦ rw w.result-is tt
    ]
