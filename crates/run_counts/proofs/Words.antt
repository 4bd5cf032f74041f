-- The words of a summary's lines.
use Rattle.std.proofs.Common.{◌≡◌, ◌∙◌, ap, sym, refl, ℕ, ◌^◌, ◌<◌, Bool, true, false, Option, Some, None, arith, le-leb, lit<}
use Rattle.std.specs.Prelude.{codes}
use Rattle.std.specs.Fmt.{decimal}
use Rattle.std.specs.Option.{option_and_then}
use Rattle.std.proofs.lemmas.Bool.{cond-true, cond-false}
use Rattle.wire.specs.Octets.{is_same}
use Rattle.wire.proofs.OctetsLemmas.{is_same-true}
use Rattle.wire.specs.Reason.{name_of, number_of as reason_number}
use Rattle.wire.specs.declared.ether.reason.Reason.{Reason}
use Rattle.wire.specs.declared.ether.reason.Reason.TheVariants.{TooLong, Sliced, Runt, PortDown, BadSource, Reserved, CutTag, BadVid, FrameType, NoSegment, NotMember, NotIp, BadIp, BadIpSum, BadOuterSource, NotForUs, Fragment, NotUdp, BadUdp, NotTunnel, ZeroSum, BadUdpSum, ShortTunnel, NoVniFlag, BadVersion, Control, NotEthernet, BadOptions, CriticalOption, UnknownVni, WrongGroup, UnknownPeer, InnerRunt, InnerTag, SamePlace, Horizon, Unreachable, NoOutlet, TooBig, InnerTagOut}
use Rattle.timeline.specs.Words.{tap_word}
use Rattle.timeline.specs.declared.source.Tap.{Tap}
use Rattle.timeline.specs.declared.source.Tap.TheVariants.{Port, Underlay}
use Rattle.endpoint_core.specs.Fault.{name_of as fault_name, number_of as fault_number}
use Rattle.endpoint_core.specs.declared.state.fault.ChangeFault.{ChangeFault}
use Rattle.endpoint_core.specs.declared.state.fault.ChangeFault.TheVariants as faults
use Rattle.line_words.specs.Numbers.{number_of}
use Rattle.line_words.proofs.Decimals.{IsWord, lacks_more, number_decimal, number_word, octet_decimal}
use Rattle.run_counts.specs.Summary.{segment_word}
use Rattle.run_counts.specs.Told.{IsPlace, IsSegment}
use Rattle.run_counts.specs.Rows.{segment_of, tap_of, vid_of}
use Rattle.run_counts.proofs.Tests.{both}

-- ---- places

pub place_word : (ports : ℕ) (tap : Tap) → ports < 256 → IsPlace ports tap → IsWord (tap_word tap)
place_word ports (Port port) low is =
    let fits : port < 2 ^ 64 = omega (arith, low, is.1) in
    let digits = number_word port fits in
    record { line = lacks_more 10 (codes "p") (decimal port) refl digits.line; space = lacks_more 32 (codes "p") (decimal port) refl digits.space }
place_word ports Underlay low is = record { line = refl; space = refl }

pub place_back : (ports : ℕ) (tap : Tap) → ports < 256 → IsPlace ports tap → tap_of (tap_word tap) ≡ Some tap
place_back ports (Port port) low is = ap (option_and_then (λ p. Some (Port p))) (octet_decimal port (omega (arith, low, is.1)))
place_back ports Underlay low is = refl

-- ---- segments

pub segment_is_word : (segment : Option ℕ) → IsSegment segment → IsWord (segment_word segment)
segment_is_word (Some vid) is = number_word vid (omega (arith, is.1))
segment_is_word None is = record { line = refl; space = refl }

not_none : (n : ℕ) → n < 2 ^ 64 → is_same (decimal n) (codes "none") ≡ false
not_none n fits = by (is_same (decimal n) (codes "none")) refl
  where
    by : (q : Bool) → is_same (decimal n) (codes "none") ≡ q → q ≡ false
    by false h = refl
    by true h = let none : None ≡ Some n = ap number_of (sym (is_same-true (decimal n) (codes "none") h)) ∙ number_decimal n fits in absurd cc

pub segment_back : (segment : Option ℕ) → IsSegment segment → segment_of (segment_word segment) ≡ Some segment
segment_back (Some vid) is =
    let fits : vid < 2 ^ 64 = omega (arith, is.1) in
    cond-false _ _ _ (not_none vid fits)
    ∙ ap (option_and_then (λ number. option_and_then (λ v. Some (Some v)) (vid_of number))) (number_decimal vid fits)
    ∙ ap (option_and_then (λ v. Some (Some v))) (cond-true _ _ _ (both _ _ (le-leb 1 vid is.0) (le-leb vid 4094 is.1)))
segment_back None is = refl

-- ---- names

pub reason_word : (reason : Reason) → IsWord (name_of reason)
reason_word TooLong = record { line = refl; space = refl }
reason_word Sliced = record { line = refl; space = refl }
reason_word Runt = record { line = refl; space = refl }
reason_word PortDown = record { line = refl; space = refl }
reason_word BadSource = record { line = refl; space = refl }
reason_word Reserved = record { line = refl; space = refl }
reason_word CutTag = record { line = refl; space = refl }
reason_word BadVid = record { line = refl; space = refl }
reason_word FrameType = record { line = refl; space = refl }
reason_word NoSegment = record { line = refl; space = refl }
reason_word NotMember = record { line = refl; space = refl }
reason_word NotIp = record { line = refl; space = refl }
reason_word BadIp = record { line = refl; space = refl }
reason_word BadIpSum = record { line = refl; space = refl }
reason_word BadOuterSource = record { line = refl; space = refl }
reason_word NotForUs = record { line = refl; space = refl }
reason_word Fragment = record { line = refl; space = refl }
reason_word NotUdp = record { line = refl; space = refl }
reason_word BadUdp = record { line = refl; space = refl }
reason_word NotTunnel = record { line = refl; space = refl }
reason_word ZeroSum = record { line = refl; space = refl }
reason_word BadUdpSum = record { line = refl; space = refl }
reason_word ShortTunnel = record { line = refl; space = refl }
reason_word NoVniFlag = record { line = refl; space = refl }
reason_word BadVersion = record { line = refl; space = refl }
reason_word Control = record { line = refl; space = refl }
reason_word NotEthernet = record { line = refl; space = refl }
reason_word BadOptions = record { line = refl; space = refl }
reason_word CriticalOption = record { line = refl; space = refl }
reason_word UnknownVni = record { line = refl; space = refl }
reason_word WrongGroup = record { line = refl; space = refl }
reason_word UnknownPeer = record { line = refl; space = refl }
reason_word InnerRunt = record { line = refl; space = refl }
reason_word InnerTag = record { line = refl; space = refl }
reason_word SamePlace = record { line = refl; space = refl }
reason_word Horizon = record { line = refl; space = refl }
reason_word Unreachable = record { line = refl; space = refl }
reason_word NoOutlet = record { line = refl; space = refl }
reason_word TooBig = record { line = refl; space = refl }
reason_word InnerTagOut = record { line = refl; space = refl }

pub fault_word : (fault : ChangeFault) → IsWord (fault_name fault)
fault_word faults.NoSegment = record { line = refl; space = refl }
fault_word faults.NoPort = record { line = refl; space = refl }
fault_word faults.AlreadyThere = record { line = refl; space = refl }
fault_word faults.NotThere = record { line = refl; space = refl }
fault_word faults.FloodFull = record { line = refl; space = refl }
fault_word faults.TableFull = record { line = refl; space = refl }
fault_word faults.GroupAddress = record { line = refl; space = refl }
fault_word faults.OutOfRange = record { line = refl; space = refl }
fault_word faults.NoFamily = record { line = refl; space = refl }
fault_word faults.OwnAddress = record { line = refl; space = refl }
fault_word faults.SegmentThere = record { line = refl; space = refl }
fault_word faults.PoolFull = record { line = refl; space = refl }
fault_word faults.SegmentsFull = record { line = refl; space = refl }
fault_word faults.NoTunnel = record { line = refl; space = refl }

-- ---- numbers

pub reason_small : (reason : Reason) → (0 < reason_number reason) × (reason_number reason < 41)
reason_small TooLong = (lit< tt, lit< tt)
reason_small Sliced = (lit< tt, lit< tt)
reason_small Runt = (lit< tt, lit< tt)
reason_small PortDown = (lit< tt, lit< tt)
reason_small BadSource = (lit< tt, lit< tt)
reason_small Reserved = (lit< tt, lit< tt)
reason_small CutTag = (lit< tt, lit< tt)
reason_small BadVid = (lit< tt, lit< tt)
reason_small FrameType = (lit< tt, lit< tt)
reason_small NoSegment = (lit< tt, lit< tt)
reason_small NotMember = (lit< tt, lit< tt)
reason_small NotIp = (lit< tt, lit< tt)
reason_small BadIp = (lit< tt, lit< tt)
reason_small BadIpSum = (lit< tt, lit< tt)
reason_small BadOuterSource = (lit< tt, lit< tt)
reason_small NotForUs = (lit< tt, lit< tt)
reason_small Fragment = (lit< tt, lit< tt)
reason_small NotUdp = (lit< tt, lit< tt)
reason_small BadUdp = (lit< tt, lit< tt)
reason_small NotTunnel = (lit< tt, lit< tt)
reason_small ZeroSum = (lit< tt, lit< tt)
reason_small BadUdpSum = (lit< tt, lit< tt)
reason_small ShortTunnel = (lit< tt, lit< tt)
reason_small NoVniFlag = (lit< tt, lit< tt)
reason_small BadVersion = (lit< tt, lit< tt)
reason_small Control = (lit< tt, lit< tt)
reason_small NotEthernet = (lit< tt, lit< tt)
reason_small BadOptions = (lit< tt, lit< tt)
reason_small CriticalOption = (lit< tt, lit< tt)
reason_small UnknownVni = (lit< tt, lit< tt)
reason_small WrongGroup = (lit< tt, lit< tt)
reason_small UnknownPeer = (lit< tt, lit< tt)
reason_small InnerRunt = (lit< tt, lit< tt)
reason_small InnerTag = (lit< tt, lit< tt)
reason_small SamePlace = (lit< tt, lit< tt)
reason_small Horizon = (lit< tt, lit< tt)
reason_small Unreachable = (lit< tt, lit< tt)
reason_small NoOutlet = (lit< tt, lit< tt)
reason_small TooBig = (lit< tt, lit< tt)
reason_small InnerTagOut = (lit< tt, lit< tt)

pub fault_small : (fault : ChangeFault) → (0 < fault_number fault) × (fault_number fault < 15)
fault_small faults.NoSegment = (lit< tt, lit< tt)
fault_small faults.NoPort = (lit< tt, lit< tt)
fault_small faults.AlreadyThere = (lit< tt, lit< tt)
fault_small faults.NotThere = (lit< tt, lit< tt)
fault_small faults.FloodFull = (lit< tt, lit< tt)
fault_small faults.TableFull = (lit< tt, lit< tt)
fault_small faults.GroupAddress = (lit< tt, lit< tt)
fault_small faults.OutOfRange = (lit< tt, lit< tt)
fault_small faults.NoFamily = (lit< tt, lit< tt)
fault_small faults.OwnAddress = (lit< tt, lit< tt)
fault_small faults.SegmentThere = (lit< tt, lit< tt)
fault_small faults.PoolFull = (lit< tt, lit< tt)
fault_small faults.SegmentsFull = (lit< tt, lit< tt)
fault_small faults.NoTunnel = (lit< tt, lit< tt)
