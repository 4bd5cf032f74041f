use Rattle.std.proofs.Common.{◌≡◌, take}
use Rattle.std.specs.List.{filter_map, range_with_len}
use Rattle.endpoint_core.specs.Held.{moment_of, settings_of}
use Rattle.endpoint_core.specs.Opened.{settings_told}
use Rattle.check_on_files.specs.Foreseen.{refusal_at, settings_behind}
use Rattle.check_on_files.proofs.foreseen.foreseen.foresee.Given as goal

abbrev pub invariant-loop-index : goal.invariant-loop-index
invariant-loop-index l = record {
  moment : moment_of l.state ≡ 0;
  settings : settings_of l.state ≡ settings_behind (settings_told l.fn.settings) (take l.index l.changes);
  told : l.list.items ≡ filter_map (refusal_at (settings_told l.fn.settings) l.changes) (range_with_len 0 l.index);
}
