use Rattle.std.proofs.Common.{◌≡◌, drop}
use Rattle.std.specs.FinMap.{empty}
use Rattle.overlay_config.specs.Underlay.{exceptions}
use Rattle.overlay_config.proofs.underlay_table.exceptions.Given as goal

abbrev pub invariant-loop-hop : goal.invariant-loop-hop
invariant-loop-hop l = exceptions l.kept (drop l.hop-index l.hops) ≡ exceptions empty l.hops
