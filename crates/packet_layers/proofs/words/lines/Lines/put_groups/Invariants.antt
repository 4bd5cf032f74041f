use Rattle.std.proofs.Common.{◌≡◌, ◌≤◌, ◌+◌, ◌*◌, ◌++◌, length, drop}
use Rattle.std.specs.Prelude.{codes}
use Rattle.std.specs.List.{flat_map}
use Rattle.std.specs.Net.Text.{hex, groups_text}
use Rattle.packet_layers.proofs.words.lines.Lines.put_groups.Given as goal

-- with what is left put too, it is all
abbrev pub invariant-loop-segment : goal.invariant-loop-segment
invariant-loop-segment l = record {
  text : l.self ++ flat_map (λ t. codes ":" ++ hex t) (drop l.segment-index l.others) ≡ l.fn.self ++ groups_text l.segments;
  room : length l.self ≤ length l.fn.self + 5 * l.segment-index + 4;
  others : length l.others + 1 ≡ length l.segments;
}
