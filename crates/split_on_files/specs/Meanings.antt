-- What a block can mean where all interfaces are asked for, by whose packet it holds. It serves proofs.
use Rattle.std.specs.Prelude.{◌≡◌, ◌<◌, true, List, length, Result, Ok, Err, ⊤}
use Rattle.pcapng_input.specs.Meaning.{most_interfaces}
use Rattle.pcapng_input.specs.declared.fault.BlockFault.{BlockFault}
use Rattle.pcapng_input.specs.declared.interface.Interface.{Interface}
use Rattle.pcapng_input.specs.declared.meaning.BlockMeaning.{BlockMeaning}
use Rattle.pcapng_input.specs.declared.meaning.BlockMeaning.TheVariants.{Described, Nothing, Outbound, Packet, Section}

-- a block that holds no packet of an interface that was described tells no packet
abbrev pub IsPlain : Result BlockMeaning BlockFault → Type 0
IsPlain (Err fault) = ⊤
IsPlain (Ok Section) = ⊤
IsPlain (Ok (Described i)) = ⊤
IsPlain (Ok (Packet r)) = ⊥
IsPlain (Ok Outbound) = ⊥
IsPlain (Ok Nothing) = ⊤

-- one that does isn't read as anything else
abbrev pub IsOfPacket : Result BlockMeaning BlockFault → Type 0
IsOfPacket (Err fault) = ⊤
IsOfPacket (Ok Section) = ⊥
IsOfPacket (Ok (Described i)) = ⊥
IsOfPacket (Ok (Packet r)) = ⊤
IsOfPacket (Ok Outbound) = ⊤
IsOfPacket (Ok Nothing) = ⊤

-- there was room for an interface that is described, and it is taken
abbrev pub IsDescribedIn : List Interface → Result BlockMeaning BlockFault → Type 0
IsDescribedIn is (Err fault) = ⊤
IsDescribedIn is (Ok Section) = ⊤
IsDescribedIn is (Ok (Described i)) = (length is < most_interfaces) × (i.is_selected ≡ true)
IsDescribedIn is (Ok (Packet r)) = ⊤
IsDescribedIn is (Ok Outbound) = ⊤
IsDescribedIn is (Ok Nothing) = ⊤
