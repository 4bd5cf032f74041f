use Rattle.std.proofs.Common.{◌≡◌, ◌∙◌, Bool, false, ap, sym, subst, Ok, Err}
use Rattle.line_stream.specs.Lines.{IsFetched, Reader, holds_line}
use Rattle.part_merge.specs.Blame.{BlamesNoWrite, LinesRead}
use Rattle.part_merge.specs.Coming.{OpenPart, StandBehind, coming_in, is_cut}
use Rattle.part_merge.specs.Left.{IsDeviceFault}
use Rattle.part_merge.specs.declared.fault.MergeFault.{MergeFault}
use Rattle.part_merge.proofs.Blaming.{lines_no_write, lines_reads, no_read}
use Rattle.part_merge.proofs.Lining.{comes_next, never_wrong, stop_device}
use Rattle.part_merge.proofs.Numbering.{behind_cut}
use Rattle.part_merge.proofs.Waits.{lines_lacked, none_waits}
use Rattle.part_merge.proofs.part.Part.next.Goals as goal

pub returns-in-Err-clause-next : goal.returns-in-Err-clause-next
returns-in-Err-clause-next g c = λ count pieces cuts stand.
    let before = subst (StandBehind count pieces cuts) (sym c.self.view_is) stand in
    subst IsDeviceFault (sym c.stopped_by.ensures) (stop_device c.args.part count pieces cuts c.self.inside.lines c.fetch.new.self c.in-Err.fault before.texts before.rest c.in-Err.ensures.fetched)

pub returns-in-Ok-clause-next : goal.returns-in-Ok-clause-next
returns-in-Ok-clause-next g c = λ count pieces cuts stand.
    let before = subst (StandBehind count pieces cuts) (sym c.self.view_is) stand in
    comes_next c.args.part count pieces cuts _ c.fetch.new.self c.self.inside.captures.ports.items c.self.inside.captures.underlay c.is_cut-was_cut.result c.line.result.now c.in-Ok.told.coming c.in_default.field-0 before c.in_default.ensures.fetched c.is_cut-was_cut.ensures c.line.ensures.line c.in-Ok.ensures.coming

pub returns-in-Err-coming_of-clause-next : goal.returns-in-Err-coming_of-clause-next
returns-in-Err-coming_of-clause-next g c = λ count pieces cuts stand.
    let before = subst (StandBehind count pieces cuts) (sym c.self.view_is) stand in
    absurd (never_wrong c.args.part count pieces cuts _ c.fetch.new.self c.is_cut-was_cut.result c.line.result.now c.in-Err-coming_of.fault c.in_default.field-0 before c.in_default.ensures.fetched c.is_cut-was_cut.ensures c.line.ensures.line c.in-Err-coming_of.ensures.coming)

pub returns-in-Err-clause-reads : goal.returns-in-Err-clause-reads
returns-in-Err-clause-reads g c =
    let fetched = subst (λ (r : Reader). IsFetched r c.fetch.new.self (Err c.in-Err.fault)) (ap (λ (s : OpenPart). s.reader) c.self.view_is) c.in-Err.ensures.fetched in
    subst (λ (f : MergeFault). LinesRead {T = Unit {0}} c.args.part c.args.self.now.reader c.fetch.new.self (Err f)) (sym c.stopped_by.ensures) (lines_reads c.args.part c.args.self.now.reader c.fetch.new.self c.in-Err.fault fetched)

pub returns-in-Err-clause-no_write : goal.returns-in-Err-clause-no_write
returns-in-Err-clause-no_write g c = subst (λ (f : MergeFault). BlamesNoWrite {T = Unit {0}} (Err f)) (sym c.stopped_by.ensures) (lines_no_write c.args.part c.in-Err.fault)

pub returns-in-Ok-clause-reads : goal.returns-in-Ok-clause-reads
returns-in-Ok-clause-reads g c = c.in_default.ensures.fetched.0 ∙ ap (λ (s : OpenPart). s.reader.failures) c.self.view_is

pub returns-in-Err-coming_of-clause-reads : goal.returns-in-Err-coming_of-clause-reads
returns-in-Err-coming_of-clause-reads g c =
    no_read {T = Unit {0}} _ _ (Err c.in-Err-coming_of.fault) c.in-Err-coming_of.ensures.no_read (c.in_default.ensures.fetched.0 ∙ ap (λ (s : OpenPart). s.reader.failures) c.self.view_is)

pub returns-in-Err-coming_of-clause-no_write : goal.returns-in-Err-coming_of-clause-no_write
returns-in-Err-coming_of-clause-no_write g c = c.in-Err-coming_of.ensures.no_write

pub returns-in-Ok-clause-behind_cut : goal.returns-in-Ok-clause-behind_cut
returns-in-Ok-clause-behind_cut g c = λ cut.
    let was = c.is_cut-was_cut.ensures ∙ ap (λ (s : OpenPart). is_cut s.coming) c.self.view_is ∙ cut in
    behind_cut c.args.part c.line.result.now c.in-Ok.told.coming (subst (λ (b : Bool). Ok c.in-Ok.told.coming ≡ coming_in c.args.part b c.line.result.now) was c.in-Ok.ensures.coming)

pub returns-in-Err-clause-lacked : goal.returns-in-Err-clause-lacked
returns-in-Err-clause-lacked g c =
    let lacked = subst (λ (s : OpenPart). holds_line s.reader ≡ false) c.self.view_is c.in-Err.ensures.lacked in
    rw c.stopped_by.ensures (lines_lacked c.args.part c.in-Err.fault (holds_line c.args.self.now.reader ≡ false) lacked)

pub returns-in-Err-coming_of-clause-lacked : goal.returns-in-Err-coming_of-clause-lacked
returns-in-Err-coming_of-clause-lacked g c = none_waits {T = Unit {0}} _ (Err c.in-Err-coming_of.fault) c.in-Err-coming_of.ensures.no_read
