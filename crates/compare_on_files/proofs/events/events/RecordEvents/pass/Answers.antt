use Rattle.std.proofs.Common.{◌∙◌, ◌+◌, ap, sym, refl}
use Rattle.compare_on_files.specs.Finding.{Standing, step_by}
use Rattle.compare_on_files.proofs.Faults.{stopped, went-on}
use Rattle.compare_on_files.proofs.events.events.RecordEvents.pass.Goals as goal

pub returns-in-Err-step_by-clause-passed : goal.returns-in-Err-step_by-clause-passed
returns-in-Err-step_by-clause-passed g c = λ text stand.
    let step = ap (λ (s : Standing). step_by s.tap s.number c.line.result.now) (sym c.self.view_is) ∙ sym c.in-Err-step_by.ensures.value in
    stopped text c.args.self.now c.args.self.now c.self.inside.lines c.fetch.new.self c.line.result.now c.in-Err-step_by.fault stand
    (ap (λ (s : Standing). s.rest) c.self.view_is) c.in_default.ensures.fetched c.line.ensures.line step

pub returns-clause-passed : goal.returns-clause-passed
returns-clause-passed g c = λ text stand.
    let step = ap (λ (s : Standing). step_by s.tap s.number c.line.result.now) (sym c.self.view_is) ∙ sym c.in-Ok.ensures.value in
    went-on text c.args.self.now _ c.self.inside.lines c.fetch.new.self c.line.result.now c.in-Ok.step stand
    (ap (λ (s : Standing). s.rest) c.self.view_is) c.in_default.ensures.fetched c.line.ensures.line step
    (ap (λ (s : Standing). s.tap) c.self.view_is) (ap (λ (s : Standing). s.passed + s.count) c.self.view_is) refl refl refl
