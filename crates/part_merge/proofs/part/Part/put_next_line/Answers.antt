use Rattle.std.proofs.Common.{◌∙◌, refl, subst, Err}
use Rattle.std.proofs.KnownBytes.{Appends-kept}
use Rattle.std.specs.Io.KnownBytes.{Appends}
use Rattle.part_merge.proofs.Blaming.{lines_alone, lines_part, lines_writes, no_read, no_write}
use Rattle.part_merge.proofs.Handing.{unless_then}
use Rattle.part_merge.proofs.Numbering.{always}
use Rattle.line_stream.specs.Lines.{holds_line}
use Rattle.part_merge.proofs.Waits.{next_waits, none_waits}
use Rattle.part_merge.specs.Numbered.{AddsLine}
use Rattle.part_merge.proofs.part.Part.put_next_line.Goals as goal

pub returns-clause-line : goal.returns-clause-line
returns-clause-line g c = λ count pieces cuts stand.
    let put = subst (Appends (g.W.Output.written c.args.decisions.now) (g.W.Output.written c.put_line.new.decisions)) c.line.ensures.line c.in_default.ensures.put in
    let added = Appends-kept (g.W.Output.written c.args.decisions.now) (g.W.Output.written c.put_line.new.decisions) (g.W.Output.written c.hand_on_lines_before.new.decisions) c.args.self.now.reader.line put c.in_default-hand_on_lines_before.ensures.kept in
    unless_then c.next.result _ _ (c.next.ensures.next count pieces cuts stand) (λ next. (next, added))

pub returns-in-Err-clause-reads : goal.returns-in-Err-clause-reads
returns-in-Err-clause-reads g c = no_read {T = Unit {0}} _ _ (Err c.in-Err.fault) c.in-Err.ensures.no_read refl

pub returns-in-Err-clause-writes : goal.returns-in-Err-clause-writes
returns-in-Err-clause-writes g c = c.in-Err.ensures.writes

pub returns-clause-reads : goal.returns-clause-reads
returns-clause-reads g c = lines_part c.args.part c.args.self.now c.next.new.self c.next.result c.next.ensures.ports c.next.ensures.underlay c.next.ensures.reads

pub returns-clause-writes : goal.returns-clause-writes
returns-clause-writes g c = λ sinks underlay_sink. no_write _ _ c.next.result c.next.ensures.no_write (c.in_default-hand_on_lines_before.ensures.writes sinks underlay_sink ∙ c.in_default.ensures.writes sinks underlay_sink)

pub returns-clause-put : goal.returns-clause-put
returns-clause-put g c =
    let put = subst (Appends (g.W.Output.written c.args.decisions.now) (g.W.Output.written c.put_line.new.decisions)) c.line.ensures.line c.in_default.ensures.put in
    let added = Appends-kept (g.W.Output.written c.args.decisions.now) (g.W.Output.written c.put_line.new.decisions) (g.W.Output.written c.hand_on_lines_before.new.decisions) c.args.self.now.reader.line put c.in_default-hand_on_lines_before.ensures.kept in
    always (AddsLine c.args.self.now.coming (g.W.Output.written c.args.decisions.now) (g.W.Output.written c.hand_on_lines_before.new.decisions)) c.next.result (record { line = c.args.self.now.reader.line; is = c.line.ensures.is_of; added = added })

pub returns-in-Err-clause-lacked : goal.returns-in-Err-clause-lacked
returns-in-Err-clause-lacked g c = none_waits {T = Unit {0}} _ (Err c.in-Err.fault) c.in-Err.ensures.no_read

pub returns-in-Err-clause-waits : goal.returns-in-Err-clause-waits
returns-in-Err-clause-waits g c = none_waits {T = Unit {0}} _ (Err c.in-Err.fault) c.in-Err.ensures.no_read

pub returns-in-Err-hand_on_lines_before-clause-line : goal.returns-in-Err-hand_on_lines_before-clause-line
returns-in-Err-hand_on_lines_before-clause-line g c = λ count pieces cuts stand. c.in-Err-hand_on_lines_before.ensures.kept

pub returns-in-Err-hand_on_lines_before-clause-reads : goal.returns-in-Err-hand_on_lines_before-clause-reads
returns-in-Err-hand_on_lines_before-clause-reads g c = no_read {T = Unit {0}} _ _ (Err c.in-Err-hand_on_lines_before.fault) c.in-Err-hand_on_lines_before.ensures.no_read refl

pub returns-in-Err-hand_on_lines_before-clause-writes : goal.returns-in-Err-hand_on_lines_before-clause-writes
returns-in-Err-hand_on_lines_before-clause-writes g c =
    lines_writes {T = Unit {0}} _ _ _ (Err c.in-Err-hand_on_lines_before.fault) (lines_alone _ _ c.in_default.ensures.writes) c.in-Err-hand_on_lines_before.ensures.writes

pub returns-in-Err-hand_on_lines_before-clause-lacked : goal.returns-in-Err-hand_on_lines_before-clause-lacked
returns-in-Err-hand_on_lines_before-clause-lacked g c = none_waits {T = Unit {0}} _ (Err c.in-Err-hand_on_lines_before.fault) c.in-Err-hand_on_lines_before.ensures.no_read

pub returns-in-Err-hand_on_lines_before-clause-waits : goal.returns-in-Err-hand_on_lines_before-clause-waits
returns-in-Err-hand_on_lines_before-clause-waits g c = none_waits {T = Unit {0}} _ (Err c.in-Err-hand_on_lines_before.fault) c.in-Err-hand_on_lines_before.ensures.no_read

pub returns-clause-lacked : goal.returns-clause-lacked
returns-clause-lacked g c = c.next.ensures.lacked

pub returns-clause-waits : goal.returns-clause-waits
returns-clause-waits g c =
    next_waits c.may_wait_for_line-waits.result c.args.may_wait (holds_line c.args.self.now.reader) (g.W.Output.held c.hand_on_lines_before.new.decisions) c.next.result c.may_wait_for_line-waits.ensures.unless
    c.in_default-hand_on_lines_before.ensures.out c.next.ensures.lacked
