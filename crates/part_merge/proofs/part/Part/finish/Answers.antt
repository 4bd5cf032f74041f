use Rattle.std.proofs.Common.{◌≡◌, ◌∙◌, Err}
use Rattle.std.proofs.KnownBytes.{Appends-kept}
use Rattle.std.specs.List.{concat}
use Rattle.part_merge.specs.Firsts.{IsNone}
use Rattle.part_merge.specs.Numbered.{AddsCuts}
use Rattle.part_merge.specs.declared.coming.Coming.TheVariants as coming
use Rattle.part_merge.proofs.Blaming.{lines_alone, lines_writes, no_read, no_write, part_behind}
use Rattle.part_merge.proofs.Handing.{unless_then}
use Rattle.part_merge.proofs.Numbering.{always}
use Rattle.part_merge.proofs.Waits.{end_waits, kept_cuts, none_waits}
use Rattle.part_merge.proofs.part.Part.finish.Goals as goal

pub returns-clause-reads : goal.returns-clause-reads
returns-clause-reads g c = part_behind c.args.part c.args.self.now c.put_cuts.new.self c.end.new.self c.end.result c.in_default.ensures.reads c.end.ensures.reads

pub returns-clause-writes : goal.returns-clause-writes
returns-clause-writes g c = λ sinks underlay_sink. no_write _ _ c.end.result c.end.ensures.no_write (c.in_default-hand_on_lines_before.ensures.writes sinks underlay_sink ∙ c.in_default.ensures.writes sinks underlay_sink)

pub returns-clause-put : goal.returns-clause-put
returns-clause-put g c =
    always (AddsCuts (g.W.Output.written c.args.decisions.now) (g.W.Output.written c.hand_on_lines_before.new.decisions)) c.end.result
    (kept_cuts (g.W.Output.written c.args.decisions.now) (g.W.Output.written c.put_cuts.new.decisions) (g.W.Output.written c.hand_on_lines_before.new.decisions) c.in_default.ensures.put c.in_default-hand_on_lines_before.ensures.kept)

pub returns-clause-over : goal.returns-clause-over
returns-clause-over g c = always (IsNone c.args.self.now.coming → c.end.new.self.coming ≡ coming.Nothing) c.end.result (λ none. c.end.ensures.coming ∙ c.in_default.ensures.over none)

pub returns-in-Err-hand_on_lines_before-clause-cuts : goal.returns-in-Err-hand_on_lines_before-clause-cuts
returns-in-Err-hand_on_lines_before-clause-cuts g c = λ count cuts holds. c.in-Err-hand_on_lines_before.ensures.kept

pub returns-in-Err-hand_on_lines_before-clause-reads : goal.returns-in-Err-hand_on_lines_before-clause-reads
returns-in-Err-hand_on_lines_before-clause-reads g c =
    no_read {T = Unit {0}} _ _ (Err c.in-Err-hand_on_lines_before.fault) c.in-Err-hand_on_lines_before.ensures.no_read c.in_default.ensures.reads

pub returns-in-Err-hand_on_lines_before-clause-writes : goal.returns-in-Err-hand_on_lines_before-clause-writes
returns-in-Err-hand_on_lines_before-clause-writes g c =
    lines_writes {T = Unit {0}} _ _ _ (Err c.in-Err-hand_on_lines_before.fault) (lines_alone _ _ c.in_default.ensures.writes) c.in-Err-hand_on_lines_before.ensures.writes

pub returns-in-Err-hand_on_lines_before-clause-waits : goal.returns-in-Err-hand_on_lines_before-clause-waits
returns-in-Err-hand_on_lines_before-clause-waits g c = none_waits {T = Unit {0}} _ (Err c.in-Err-hand_on_lines_before.fault) c.in-Err-hand_on_lines_before.ensures.no_read

pub returns-clause-cuts : goal.returns-clause-cuts
returns-clause-cuts g c = λ count cuts holds.
    let put = c.in_default.ensures.cuts count cuts holds in
    unless_then c.end.result _ _ (c.end.ensures.ended count put.0)
    (λ h. Appends-kept (g.W.Output.written c.args.decisions.now) (g.W.Output.written c.put_cuts.new.decisions) (g.W.Output.written c.hand_on_lines_before.new.decisions) (concat cuts) put.1 c.in_default-hand_on_lines_before.ensures.kept)

pub returns-clause-waits : goal.returns-clause-waits
returns-clause-waits g c = end_waits c.args.may_wait (g.W.Output.held c.hand_on_lines_before.new.decisions) c.end.result c.in_default-hand_on_lines_before.ensures.out
