-- The faults of changes. It states no standard.
use Rattle.std.specs.Prelude.{ℕ, List, codes}
use Rattle.overlay.specs.declared.flood.fault.FloodFault.{FloodFault}
use Rattle.overlay.specs.declared.flood.fault.FloodFault.TheVariants as flood
use Rattle.endpoint_core.specs.declared.state.fault.ChangeFault.{ChangeFault}
use Rattle.endpoint_core.specs.declared.state.fault.ChangeFault.TheVariants.{NoSegment, NoPort, AlreadyThere, NotThere}
use Rattle.endpoint_core.specs.declared.state.fault.ChangeFault.TheVariants.{FloodFull, TableFull, GroupAddress, OutOfRange}
use Rattle.endpoint_core.specs.declared.state.fault.ChangeFault.TheVariants.{NoFamily, OwnAddress, SegmentThere, PoolFull}
use Rattle.endpoint_core.specs.declared.state.fault.ChangeFault.TheVariants.{SegmentsFull, NoTunnel}

-- the number of a fault in decision lines
abbrev pub number_of : ChangeFault → ℕ
number_of NoSegment = 1
number_of NoPort = 2
number_of AlreadyThere = 3
number_of NotThere = 4
number_of FloodFull = 5
number_of TableFull = 6
number_of GroupAddress = 7
number_of OutOfRange = 8
number_of NoFamily = 9
number_of OwnAddress = 10
number_of SegmentThere = 11
number_of PoolFull = 12
number_of SegmentsFull = 13
number_of NoTunnel = 14

-- the name of a fault in decision lines
abbrev pub name_of : ChangeFault → List ℕ
name_of NoSegment = codes "NoSegment"
name_of NoPort = codes "NoPort"
name_of AlreadyThere = codes "AlreadyThere"
name_of NotThere = codes "NotThere"
name_of FloodFull = codes "FloodFull"
name_of TableFull = codes "TableFull"
name_of GroupAddress = codes "GroupAddress"
name_of OutOfRange = codes "OutOfRange"
name_of NoFamily = codes "NoFamily"
name_of OwnAddress = codes "OwnAddress"
name_of SegmentThere = codes "SegmentThere"
name_of PoolFull = codes "PoolFull"
name_of SegmentsFull = codes "SegmentsFull"
name_of NoTunnel = codes "NoTunnel"

-- the fault of a flood list, as that of a change
abbrev pub of_flood : FloodFault → ChangeFault
of_flood flood.OutOfRange = OutOfRange
of_flood flood.NoFamily = NoFamily
of_flood flood.OwnAddress = OwnAddress
of_flood flood.AlreadyThere = AlreadyThere
of_flood flood.FloodFull = FloodFull
