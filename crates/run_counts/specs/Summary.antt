-- The summary of a run: one fact a line, its words with one space between them, as `segment 10 sent 812`,
-- `segment none dropped 10 NoSegment 1`, `change refused 2 NoPort 1`, `place p1 in 400 25600`, `checksum partial 40` and
-- `cut p2 7`. It states no standard.
use Rattle.std.specs.Prelude.{ℕ, ◌==◌, if◌then◌else◌, List, [], ◌∷◌, ◌++◌, codes, decimal, Option, Some, None}
use Rattle.std.specs.List.{flat_map, range_with_len}
use Rattle.wire.specs.Reason.{name_of, number_of}
use Rattle.wire.specs.declared.ether.reason.Reason.{Reason}
use Rattle.wire.specs.declared.ether.reason.Reason.TheVariants.{TooLong, Sliced, Runt, PortDown, BadSource, Reserved, CutTag}
use Rattle.wire.specs.declared.ether.reason.Reason.TheVariants.{BadVid, FrameType, NoSegment, NotMember, NotIp, BadIp}
use Rattle.wire.specs.declared.ether.reason.Reason.TheVariants.{BadIpSum, BadOuterSource, NotForUs, Fragment, NotUdp, BadUdp}
use Rattle.wire.specs.declared.ether.reason.Reason.TheVariants.{NotTunnel, ZeroSum, BadUdpSum, ShortTunnel, NoVniFlag}
use Rattle.wire.specs.declared.ether.reason.Reason.TheVariants.{BadVersion, Control, NotEthernet, BadOptions, CriticalOption}
use Rattle.wire.specs.declared.ether.reason.Reason.TheVariants.{UnknownVni, WrongGroup, UnknownPeer, InnerRunt, InnerTag}
use Rattle.wire.specs.declared.ether.reason.Reason.TheVariants.{SamePlace, Horizon, Unreachable, NoOutlet, TooBig, InnerTagOut}
use Rattle.timeline.specs.Words.{tap_word}
use Rattle.timeline.specs.declared.source.Tap.{Tap}
use Rattle.timeline.specs.declared.source.Tap.TheVariants.{Port, Underlay}
use Rattle.timeline.specs.declared.timeline.Cut.{Cut}
use Rattle.endpoint_core.specs.Fault.{name_of as fault_name, number_of as fault_number}
use Rattle.endpoint_core.specs.declared.state.fault.ChangeFault.{ChangeFault}
use Rattle.endpoint_core.specs.declared.state.fault.ChangeFault.TheVariants as faults
use Rattle.endpoint_core.specs.Counts.{Counts}
use Rattle.decision_lines.specs.Lines.{cut_line}
use Rattle.run_counts.specs.Totals.{Totals}
use Rattle.run_counts.specs.declared.flow.Flow.{Flow}

-- ---- lines

-- some words, a count and the end of the line; nothing where the count is 0
unfoldable pub count_line : List ℕ → ℕ → List ℕ
count_line words count = if count == 0 then [] else words ++ codes " " ++ decimal count ++ 10 ∷ []

-- ---- segments

-- the VID of a segment, or none
abbrev pub segment_word : Option ℕ → List ℕ
segment_word (Some vid) = decimal vid
segment_word None = codes "none"

-- the reasons of drops, their numbers rising
abbrev pub reasons : List Reason
reasons =
    TooLong ∷ Sliced ∷ Runt ∷ PortDown ∷ BadSource ∷ Reserved ∷ CutTag ∷ BadVid ∷ FrameType ∷ NoSegment
    ∷ NotMember ∷ NotIp ∷ BadIp ∷ BadIpSum ∷ BadOuterSource ∷ NotForUs ∷ Fragment ∷ NotUdp ∷ BadUdp ∷ NotTunnel
    ∷ ZeroSum ∷ BadUdpSum ∷ ShortTunnel ∷ NoVniFlag ∷ BadVersion
    ∷ Control ∷ NotEthernet ∷ BadOptions ∷ CriticalOption ∷ UnknownVni
    ∷ WrongGroup ∷ UnknownPeer ∷ InnerRunt ∷ InnerTag ∷ SamePlace
    ∷ Horizon ∷ Unreachable ∷ NoOutlet ∷ TooBig ∷ InnerTagOut ∷ []

-- what was sent in a segment, or in none
unfoldable pub sent_line : Counts → Option ℕ → List ℕ
sent_line counts segment = count_line (codes "segment " ++ segment_word segment ++ codes " sent") (counts segment 0)

-- what was dropped there for a reason, or not sent for it
unfoldable pub dropped_line : Counts → Option ℕ → Reason → List ℕ
dropped_line counts segment reason =
    count_line (codes "segment " ++ segment_word segment ++ codes " dropped " ++ decimal (number_of reason) ++ codes " " ++ name_of reason)
    (counts segment (number_of reason))

-- the lines of a segment, or of none
abbrev pub segment_lines : Counts → Option ℕ → List ℕ
segment_lines counts segment = sent_line counts segment ++ flat_map (dropped_line counts segment) reasons

-- the VIDs that a segment may have (IEEE 802.1Q, 9.6)
unfoldable pub vids : List ℕ
vids = range_with_len 1 4094

-- those of all segments, their VIDs rising, and then those of none
abbrev pub segments_text : Counts → List ℕ
segments_text counts = flat_map (λ vid. segment_lines counts (Some vid)) vids ++ segment_lines counts None

-- ---- changes

-- the causes for which changes are refused, their numbers rising
abbrev pub causes : List ChangeFault
causes =
    faults.NoSegment ∷ faults.NoPort ∷ faults.AlreadyThere ∷ faults.NotThere
    ∷ faults.FloodFull ∷ faults.TableFull ∷ faults.GroupAddress
    ∷ faults.OutOfRange ∷ faults.NoFamily ∷ faults.OwnAddress ∷ faults.SegmentThere
    ∷ faults.PoolFull ∷ faults.SegmentsFull ∷ faults.NoTunnel ∷ []

-- the changes that were refused for a cause
unfoldable pub refused_line : (ChangeFault → ℕ) → ChangeFault → List ℕ
refused_line refused fault =
    count_line (codes "change refused " ++ decimal (fault_number fault) ++ codes " " ++ fault_name fault) (refused fault)

-- the lines of all causes
abbrev pub changes_text : (ChangeFault → ℕ) → List ℕ
changes_text refused = flat_map (refused_line refused) causes

-- ---- places

-- what passed at a place in one direction: frames or packets, and their octets together
unfoldable pub flow_line : Tap → List ℕ → Flow → List ℕ
flow_line tap direction flow =
    codes "place " ++ tap_word tap ++ codes " " ++ direction ++ codes " "
    ++ decimal flow.frames ++ codes " " ++ decimal flow.octets ++ 10 ∷ []

-- what came from a place, and what left there
abbrev pub place_lines : Totals → Tap → List ℕ
place_lines totals tap = flow_line tap (codes "in") (totals.came tap) ++ flow_line tap (codes "out") (totals.left tap)

-- those of so many ports, rising, and then those of the underlay
abbrev pub places_text : Totals → ℕ → List ℕ
places_text totals ports = flat_map (λ port. place_lines totals (Port port)) (range_with_len 1 ports) ++ place_lines totals Underlay

-- ---- checksums

-- so many packets from the underlay had UDP checksums that their senders left to their network cards
unfoldable pub partial_line : ℕ → List ℕ
partial_line count = count_line (codes "checksum partial") count

-- ---- all of it

-- but for the cut captures
abbrev pub counts_text : Counts → ℕ → Totals → List ℕ
counts_text counts ports totals =
    segments_text counts ++ changes_text totals.refused ++ places_text totals ports ++ partial_line totals.partial

-- the capture of a place is cut behind the records that came from there
abbrev pub cut_at : Totals → Tap → Cut
cut_at totals tap = record { tap = tap; whole = (totals.came tap).frames }

-- the lines of cut captures
abbrev pub cuts_text : Totals → List Tap → List ℕ
cuts_text totals cut = flat_map (λ tap. cut_line (cut_at totals tap)) cut

-- the whole summary, on so many ports, where these captures are cut
abbrev pub summary_text : Counts → ℕ → Totals → List Tap → List ℕ
summary_text counts ports totals cut = counts_text counts ports totals ++ cuts_text totals cut
