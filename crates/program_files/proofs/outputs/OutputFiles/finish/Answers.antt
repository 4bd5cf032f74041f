use Rattle.std.proofs.Common.{List, Option, ℕ, subst}
use Rattle.std.specs.Io.KnownBytes.{Keeps}
use Rattle.program_files.proofs.outputs.OutputFiles.finish.Goals as goal

pub returns-in-Some-clause-underlay : goal.returns-in-Some-clause-underlay
returns-in-Some-clause-underlay g c = c.hand_on-underlay_stands.ensures.all c.if-not-underlay_stands.false

pub returns-in-Some-clause-decisions : goal.returns-in-Some-clause-decisions
returns-in-Some-clause-decisions g c = c.hand_on_lines-decisions_stand.ensures.all c.if-not-decisions_stand.false

pub returns-in-Some-clause-kept : goal.returns-in-Some-clause-kept
returns-in-Some-clause-kept g c = rw (← c.files.view_is) (record {
  ports = c.in-Some.ensures.kept;
  underlay = subst (λ (old : Option (List ℕ)). Keeps old c.hand_on-underlay_stands.new.written.written) c.into_inner-underlay.ensures.written (c.hand_on-underlay_stands.ensures.kept c.if-not-underlay_stands.false);
  decisions = c.hand_on_lines-decisions_stand.ensures.kept c.if-not-decisions_stand.false;
})

pub returns-in-Some-clause-count : goal.returns-in-Some-clause-count
returns-in-Some-clause-count g c = rw (← c.files.view_is) c.in-Some.ensures.count
