use Rattle.std.proofs.Common.{◌≡◌, ◌++◌, ℕ, List, map, take}
use Rattle.std.specs.List.{filter_map}
use Rattle.timeline.specs.declared.source.Tap.{Tap}
use Rattle.endpoint_core.specs.Kept.{state_of}
use Rattle.endpoint_core.specs.Step.{sent_at}
use Rattle.run_counts.specs.Keeping.{flow_in}
use Rattle.run_counts.specs.Totals.{flow_of, size_to}
use Rattle.run_counts.proofs.run_counts.add_leaving.Given as goal

-- what left at the places so far
abbrev pub invariant-loop-place : goal.invariant-loop-place
invariant-loop-place l =
    (tap : Tap) (sizes : List ℕ) → flow_in l.fn.flows tap ≡ flow_of sizes
    → flow_in l.flows tap ≡ flow_of (sizes ++ filter_map (size_to tap) (map (sent_at (state_of l.endpoint).bridges.settings l.came.vid l.came.frame) (take l.place-index l.places)))
