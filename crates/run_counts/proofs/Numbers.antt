-- Reasons and causes by their numbers.
use Rattle.std.proofs.Common.{◌≡◌, ◌∙◌, ap, sym, refl, ℕ, ◌-◌, get_or}
use Rattle.wire.specs.Reason.{number_of as reason_number}
use Rattle.wire.specs.declared.ether.reason.Reason.{Reason}
use Rattle.wire.specs.declared.ether.reason.Reason.TheVariants.{TooLong, Sliced, Runt, PortDown, BadSource, Reserved, CutTag, BadVid, FrameType, NoSegment, NotMember, NotIp, BadIp, BadIpSum, BadOuterSource, NotForUs, Fragment, NotUdp, BadUdp, NotTunnel, ZeroSum, BadUdpSum, ShortTunnel, NoVniFlag, BadVersion, Control, NotEthernet, BadOptions, CriticalOption, UnknownVni, WrongGroup, UnknownPeer, InnerRunt, InnerTag, SamePlace, Horizon, Unreachable, NoOutlet, TooBig, InnerTagOut}
use Rattle.endpoint_core.specs.Fault.{number_of as fault_number}
use Rattle.endpoint_core.specs.declared.state.fault.ChangeFault.{ChangeFault}
use Rattle.endpoint_core.specs.declared.state.fault.ChangeFault.TheVariants as faults
use Rattle.run_counts.specs.Summary.{causes, reasons}

pub reason_at : (reason : Reason) → get_or reasons (reason_number reason - 1) reason ≡ reason
reason_at TooLong = refl
reason_at Sliced = refl
reason_at Runt = refl
reason_at PortDown = refl
reason_at BadSource = refl
reason_at Reserved = refl
reason_at CutTag = refl
reason_at BadVid = refl
reason_at FrameType = refl
reason_at NoSegment = refl
reason_at NotMember = refl
reason_at NotIp = refl
reason_at BadIp = refl
reason_at BadIpSum = refl
reason_at BadOuterSource = refl
reason_at NotForUs = refl
reason_at Fragment = refl
reason_at NotUdp = refl
reason_at BadUdp = refl
reason_at NotTunnel = refl
reason_at ZeroSum = refl
reason_at BadUdpSum = refl
reason_at ShortTunnel = refl
reason_at NoVniFlag = refl
reason_at BadVersion = refl
reason_at Control = refl
reason_at NotEthernet = refl
reason_at BadOptions = refl
reason_at CriticalOption = refl
reason_at UnknownVni = refl
reason_at WrongGroup = refl
reason_at UnknownPeer = refl
reason_at InnerRunt = refl
reason_at InnerTag = refl
reason_at SamePlace = refl
reason_at Horizon = refl
reason_at Unreachable = refl
reason_at NoOutlet = refl
reason_at TooBig = refl
reason_at InnerTagOut = refl

pub fault_at : (fault other : ChangeFault) → get_or causes (fault_number fault - 1) other ≡ fault
fault_at faults.NoSegment other = refl
fault_at faults.NoPort other = refl
fault_at faults.AlreadyThere other = refl
fault_at faults.NotThere other = refl
fault_at faults.FloodFull other = refl
fault_at faults.TableFull other = refl
fault_at faults.GroupAddress other = refl
fault_at faults.OutOfRange other = refl
fault_at faults.NoFamily other = refl
fault_at faults.OwnAddress other = refl
fault_at faults.SegmentThere other = refl
fault_at faults.PoolFull other = refl
fault_at faults.SegmentsFull other = refl
fault_at faults.NoTunnel other = refl

-- two causes with one number are one
pub same_cause : (f g : ChangeFault) → fault_number f ≡ fault_number g → f ≡ g
same_cause f g is = sym (fault_at f f) ∙ ap (λ (n : ℕ). get_or causes (n - 1) f) is ∙ fault_at g f
