-- The segments that a change is about. It states no standard.
use Rattle.std.specs.Prelude.{ℕ, ◌==◌, Bool, true, Option, Some, None}
use Rattle.std.specs.Option.{option_map_or}
use Rattle.overlay.specs.declared.settings.change.Change.{Change}
use Rattle.overlay.specs.declared.settings.change.Change.TheVariants.{AddFlood, RemoveFlood, Fix, Unfix, SetAgeing}
use Rattle.overlay.specs.declared.settings.change.Change.TheVariants.{SetLearning, SetMember, PortUp, PortDown}
use Rattle.overlay.specs.declared.settings.change.Change.TheVariants.{Flush, AddSegment, RemoveSegment, SetLimit}

-- the VID of the segment that a change names; a change of a port names none
abbrev pub named : Change → Option ℕ
named (AddFlood vid addr tunnel) = Some vid
named (RemoveFlood vid addr tunnel) = Some vid
named (Fix vid mac target) = Some vid
named (Unfix vid mac) = Some vid
named (SetAgeing vid seconds) = Some vid
named (SetLearning vid on) = Some vid
named (SetMember vid port egress) = Some vid
named (PortUp port) = None
named (PortDown port) = None
named (Flush vid) = Some vid
named (AddSegment rule) = Some rule.vid
named (RemoveSegment vid) = Some vid
named (SetLimit vid limit) = Some vid

-- it names the segment of this VID, or it is of a port and thereby about every segment
abbrev pub is_about : ℕ → Change → Bool
is_about vid c = option_map_or (λ own. vid == own) (named c) true
