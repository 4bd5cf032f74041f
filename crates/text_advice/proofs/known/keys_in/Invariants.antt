use Rattle.std.proofs.Common.{◌≡◌, map, drop}
use Rattle.text_advice.specs.Known.{row_of, keys_in}
use Rattle.text_advice.proofs.known.keys_in.Given as goal

abbrev pub invariant-loop-row : goal.invariant-loop-row
invariant-loop-row l = keys_in (map row_of (drop l.row-index l.rows)) l.path l.variant ≡ keys_in (map row_of l.rows) l.path l.variant
