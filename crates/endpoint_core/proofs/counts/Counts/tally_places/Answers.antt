use Rattle.std.proofs.Common.{ap, map, Some}
use Rattle.endpoint_core.specs.Held.{settings_of}
use Rattle.endpoint_core.specs.Counts.{Counts, counted_all, marks_all}
use Rattle.endpoint_core.specs.Step.{sent_at}
use Rattle.endpoint_core.proofs.CountsLemmas.{counted-next, counted-end}
use Rattle.endpoint_core.proofs.counts.Counts.tally_places.Goals as goal

pub loop-place-init : goal.loop-place-init
loop-place-init c = record {
  there = c.reach.ensures.there;
  left = ap (λ (counts : Counts). counted_all counts (marks_all (Some c.args.vid) (map (sent_at (settings_of c.args.state.now) c.args.vid c.args.frame.now) c.args.places.now))) c.reach.ensures.same;
}

pub loop-place-preserved : goal.loop-place-preserved
loop-place-preserved c = record {
  there = c.add_there.ensures.there;
  left = counted-next (sent_at (settings_of c.args.state.now) c.args.vid c.args.frame.now) _ _ _ (Some c.args.vid) c.args.places.now c.loop-place.place-index _ _ c.loop-place-test.true c.number_at.ensures.value c.add_there.ensures.more c.loop-place.invariant.left;
}

pub returns : goal.returns
returns c = counted-end (sent_at (settings_of c.args.state.now) c.args.vid c.args.frame.now) _ _ (Some c.args.vid) c.args.places.now c.loop-place.place-index c.loop-place-test.false c.loop-place.invariant.left
