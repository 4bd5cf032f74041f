use Rattle.std.proofs.Common.{◌≡◌, take, map, length}
use Rattle.std.specs.Prelude.{All}
use Rattle.endpoint_core.specs.Held.{settings_of}
use Rattle.endpoint_core.specs.Decision.{sent_of, IsShort}
use Rattle.endpoint_core.specs.Step.{sent_at, outcome_at}
use Rattle.endpoint_core.proofs.decision.Decision.forwarded.Given as goal

abbrev pub invariant-loop-place : goal.invariant-loop-place
invariant-loop-place l = record {
  count : length l.outcomes.items ≡ l.place-index;
  sent : map sent_of l.outcomes.items ≡ map (sent_at (settings_of l.state) l.came.vid l.came.frame) (take l.place-index l.places);
  parts : l.outcomes.items ≡ map (outcome_at (settings_of l.state) l.came.vid l.came.frame) (take l.place-index l.places);
  short : All IsShort l.outcomes.items;
}
