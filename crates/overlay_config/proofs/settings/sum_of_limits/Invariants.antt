use Rattle.std.proofs.Common.{◌≡◌, ◌*◌, ◌≤◌, take}
use Rattle.overlay.specs.Settings.{sum_of_limits}
use Rattle.overlay_config.proofs.settings.sum_of_limits.Given as goal

abbrev pub invariant-loop-segment : goal.invariant-loop-segment
invariant-loop-segment l = record { value : l.total ≡ sum_of_limits (take l.segment-index l.segments); small : l.total ≤ 4294967295 * l.segment-index }
