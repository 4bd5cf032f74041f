-- The reasons of a drop, with their numbers and names. It states no standard.
use Rattle.std.specs.Prelude.{ℕ, List, codes}
use Rattle.wire.specs.declared.ether.reason.Reason.{Reason}
use Rattle.wire.specs.declared.ether.reason.Reason.TheVariants.{TooLong, Sliced, Runt, PortDown, BadSource, Reserved, CutTag}
use Rattle.wire.specs.declared.ether.reason.Reason.TheVariants.{BadVid, FrameType, NoSegment, NotMember, NotIp, BadIp}
use Rattle.wire.specs.declared.ether.reason.Reason.TheVariants.{BadIpSum, BadOuterSource, NotForUs, Fragment, NotUdp, BadUdp}
use Rattle.wire.specs.declared.ether.reason.Reason.TheVariants.{NotTunnel, ZeroSum, BadUdpSum, ShortTunnel, NoVniFlag}
use Rattle.wire.specs.declared.ether.reason.Reason.TheVariants.{BadVersion, Control, NotEthernet, BadOptions, CriticalOption}
use Rattle.wire.specs.declared.ether.reason.Reason.TheVariants.{UnknownVni, WrongGroup, UnknownPeer, InnerRunt, InnerTag}
use Rattle.wire.specs.declared.ether.reason.Reason.TheVariants.{SamePlace, Horizon, Unreachable, NoOutlet, TooBig, InnerTagOut}

-- its number, from 1
abbrev pub number_of : Reason → ℕ
number_of TooLong = 1
number_of Sliced = 2
number_of Runt = 3
number_of PortDown = 4
number_of BadSource = 5
number_of Reserved = 6
number_of CutTag = 7
number_of BadVid = 8
number_of FrameType = 9
number_of NoSegment = 10
number_of NotMember = 11
number_of NotIp = 12
number_of BadIp = 13
number_of BadIpSum = 14
number_of BadOuterSource = 15
number_of NotForUs = 16
number_of Fragment = 17
number_of NotUdp = 18
number_of BadUdp = 19
number_of NotTunnel = 20
number_of ZeroSum = 21
number_of BadUdpSum = 22
number_of ShortTunnel = 23
number_of NoVniFlag = 24
number_of BadVersion = 25
number_of Control = 26
number_of NotEthernet = 27
number_of BadOptions = 28
number_of CriticalOption = 29
number_of UnknownVni = 30
number_of WrongGroup = 31
number_of UnknownPeer = 32
number_of InnerRunt = 33
number_of InnerTag = 34
number_of SamePlace = 35
number_of Horizon = 36
number_of Unreachable = 37
number_of NoOutlet = 38
number_of TooBig = 39
number_of InnerTagOut = 40

-- its name
abbrev pub name_of : Reason → List ℕ
name_of TooLong = codes "TooLong"
name_of Sliced = codes "Sliced"
name_of Runt = codes "Runt"
name_of PortDown = codes "PortDown"
name_of BadSource = codes "BadSource"
name_of Reserved = codes "Reserved"
name_of CutTag = codes "CutTag"
name_of BadVid = codes "BadVid"
name_of FrameType = codes "FrameType"
name_of NoSegment = codes "NoSegment"
name_of NotMember = codes "NotMember"
name_of NotIp = codes "NotIp"
name_of BadIp = codes "BadIp"
name_of BadIpSum = codes "BadIpSum"
name_of BadOuterSource = codes "BadOuterSource"
name_of NotForUs = codes "NotForUs"
name_of Fragment = codes "Fragment"
name_of NotUdp = codes "NotUdp"
name_of BadUdp = codes "BadUdp"
name_of NotTunnel = codes "NotTunnel"
name_of ZeroSum = codes "ZeroSum"
name_of BadUdpSum = codes "BadUdpSum"
name_of ShortTunnel = codes "ShortTunnel"
name_of NoVniFlag = codes "NoVniFlag"
name_of BadVersion = codes "BadVersion"
name_of Control = codes "Control"
name_of NotEthernet = codes "NotEthernet"
name_of BadOptions = codes "BadOptions"
name_of CriticalOption = codes "CriticalOption"
name_of UnknownVni = codes "UnknownVni"
name_of WrongGroup = codes "WrongGroup"
name_of UnknownPeer = codes "UnknownPeer"
name_of InnerRunt = codes "InnerRunt"
name_of InnerTag = codes "InnerTag"
name_of SamePlace = codes "SamePlace"
name_of Horizon = codes "Horizon"
name_of Unreachable = codes "Unreachable"
name_of NoOutlet = codes "NoOutlet"
name_of TooBig = codes "TooBig"
name_of InnerTagOut = codes "InnerTagOut"
