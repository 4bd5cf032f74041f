-- No frame leaves twice at one place. It states no standard.
use Rattle.std.specs.Prelude.{◌≢◌, List, IfOk}
use Rattle.std.specs.List.{AllPairs}
use Rattle.wire.specs.Frame.{Frame}
use Rattle.filter_db.specs.declared.place.Place.{Place}
use Rattle.filter_db.specs.Table.{Table}
use Rattle.tunnel_learning.specs.Bridge.{Config, Target, outlets}

-- no two of the places are one
abbrev pub AreDistinct : List Place → Type 0
AreDistinct places = AllPairs (λ (x : Place) (y : Place). x ≢ y) places

-- a law: the outlets are distinct, where the flood list names no remote twice
abbrev pub LeavesOnceAtEachPlace : Type 0
LeavesOnceAtEachPlace = (c : Config) (from : Place) (f : Frame) (m : Table)
    → AllPairs (λ (x : Target) (y : Target). x ≢ y) c.flood → IfOk (outlets c from f m) AreDistinct
