-- How many calls of the tables a change makes at most, whatever stands in them. It states no standard.
use Rattle.std.specs.Prelude.{ℕ}
use Rattle.filter_db.specs.Work.{most_compared}
use Rattle.overlay.specs.declared.settings.change.Change.{Change}
use Rattle.overlay.specs.declared.settings.change.Change.TheVariants.{AddFlood, Fix, Unfix, SetLearning, PortUp, PortDown}

-- none of a change that changes no table, one for each VID where a port goes down, and else one, of the table of its segment
abbrev pub most_calls : Change → ℕ
most_calls (AddFlood vid addr tunnel) = 0
most_calls (SetLearning vid on) = 0
most_calls (PortUp port) = 0
most_calls (PortDown port) = 4094
most_calls _ = 1

-- how often it compares an address at most: a fixed entry that comes or goes is looked up
abbrev pub most_compared_by : Change → ℕ
most_compared_by (Fix vid mac target) = most_compared
most_compared_by (Unfix vid mac) = most_compared
most_compared_by _ = 0
