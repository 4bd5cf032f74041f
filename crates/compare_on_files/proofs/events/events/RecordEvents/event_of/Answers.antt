use Rattle.std.proofs.Common.{◌≡◌, ◌∙◌, ◌+◌, ◌-◌, ◌≤◌, ◌<◌, Ok, ap, arith, refl, sym}
use Rattle.compare_on_files.specs.Events.{event_in}
use Rattle.compare_on_files.specs.Finding.{Standing}
use Rattle.compare_on_files.proofs.Faults.{found-by, found-here}
use Rattle.compare_on_files.proofs.events.events.RecordEvents.event_of.Goals as goal

pub loop-self-init : goal.loop-self-init
loop-self-init g c = record {
  tap = refl;
  passed = omega (arith, c.if-k-self.false, ap (λ (s : Standing). s.passed) c.self.view_is);
  reads = refl;
  stands = λ text stand. stand;
}

pub returns-in-Err-clause-found : goal.returns-in-Err-clause-found
returns-in-Err-clause-found g c = λ text stand.
    let at = c.self-in-loop-self.view_is in
    let far : c.loop-self.self.passed + c.loop-self.self.count < c.args.k =
    omega (arith, c.loop-self-test.true, c.loop-self.invariant.passed, ap (λ (s : Standing). s.passed) at, ap (λ (s : Standing). s.count) at) in
    found-by text c.args.self.now c.loop-self.self c.pass.new.self c.args.k c.in-Err.fault c.loop-self.invariant.tap far
    (c.in-Err.ensures.passed text (c.loop-self.invariant.stands text stand))

pub loop-self-preserved : goal.loop-self-preserved
loop-self-preserved g c =
    let at = c.self-in-loop-self.view_is in
    let far : c.loop-self.self.passed + c.loop-self.self.count < c.args.k =
    omega (arith, c.loop-self-test.true, c.loop-self.invariant.passed, ap (λ (s : Standing). s.passed) at, ap (λ (s : Standing). s.count) at) in
    record {
      tap = c.in_default.ensures.place ∙ c.loop-self.invariant.tap;
      passed = omega (arith, c.in_default.ensures.count, far);
      reads = c.in_default.ensures.reads ∙ c.loop-self.invariant.reads;
      stands = λ text stand. c.in_default.ensures.passed text (c.loop-self.invariant.stands text stand);
    }

pub returns-clause-found : goal.returns-clause-found
returns-clause-found g c = λ text stand.
    let at = c.self-in-loop-self.view_is in
    let inside : c.args.k ≤ c.loop-self.self.passed + c.loop-self.self.count =
    omega (arith, c.loop-self-test.false, c.loop-self.invariant.passed, ap (λ (s : Standing). s.passed) at, ap (λ (s : Standing). s.count) at) in
    let here : event_in c.args.self.now.tap (c.args.k - 1) text ≡ Ok c.loop-self.self.number =
    found-here text c.args.self.now c.loop-self.self c.args.k c.loop-self.invariant.tap c.loop-self.invariant.passed inside
    (c.loop-self.invariant.stands text stand) in
    here ∙ ap (λ (s : Standing). Ok s.number) (sym c.self-2.view_is)
