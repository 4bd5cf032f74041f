use Rattle.std.proofs.Common.{◌∙◌, sym, ap}
use Rattle.std.proofs.lemmas.Bool.{not-false, not-true}
use Rattle.line_stream.specs.Lines.{holds_line}
use Rattle.part_merge.specs.Coming.{OpenPart}
use Rattle.part_merge.proofs.part.Part.may_wait_for_line.Goals as goal

pub returns-clause-unless : goal.returns-clause-unless
returns-clause-unless g c = λ is may. ap (λ (s : OpenPart). holds_line s.reader) (sym c.self.view_is) ∙ sym c.holds_next.ensures ∙ not-false _ is

pub returns-clause-only : goal.returns-clause-only
returns-clause-only g c = λ is. (c.if-not-may_wait.false, ap (λ (s : OpenPart). holds_line s.reader) (sym c.self.view_is) ∙ sym c.holds_next.ensures ∙ not-true _ is)
