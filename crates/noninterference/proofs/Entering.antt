-- A frame that enters a segment is read by what that segment sees of the ports.
use Rattle.std.proofs.Common.{◌≡◌, ℕ, Bool, true, false, cond, not, ◌==◌, List, [], ◌∷◌, ◌++◌, Option, Some, Result, Ok, Err, is_none, is_some, refl, sym, ap, ◌∙◌}
use Rattle.std.specs.List.{AllByRecursion}
use Rattle.std.specs.Option.{option_and_then}
use Rattle.std.specs.FinMap.{empty, get}
use Rattle.std.proofs.lemmas.Bool.{false≢true, eqb-true}
use Rattle.overlay.specs.Frame.{first, Frame}
use Rattle.overlay.specs.Ports.{Ports, Members, port_at, has_segment, members_at, egress_at}
use Rattle.overlay.specs.Ingress.{text_reasons, segment_vid, tag_vid, vid_at, accepts, frame_in, nowhere, within, enters}
use Rattle.overlay.specs.declared.ports.member.Egress.{Egress}
use Rattle.overlay.specs.declared.ports.port.PortRule.{PortRule}
use Rattle.wire.specs.declared.ether.reason.Refused.{Refused}
use Rattle.wire.specs.First.{unless}
use Rattle.wire.specs.declared.ether.reason.Reason.TheVariants.{BadVid, FrameType, NoSegment, NotMember}
use Rattle.noninterference.specs.Alone.{is_segment}

-- ---- what the ports alone say

abbrev pub with_ports : List PortRule → Ports
with_ports ports = record { ports = ports; segments = empty }

-- the VID that a text is for
abbrev vid_for : List PortRule → ℕ → List ℕ → ℕ
vid_for ports port b = vid_at (with_ports ports) port b

abbrev vid_rows : Ports → ℕ → ℕ → Bool → Option Egress → List (Refused × Bool)
vid_rows P port w stands egress =
    (nowhere BadVid, w == 4095)
    ∷ (nowhere FrameType, not (accepts (port_at P port).accept w))
    ∷ (nowhere NoSegment, not stands)
    ∷ (within (segment_vid (port_at P port).pvid w) NotMember, is_none egress)
    ∷ []

-- what enters, by whether the segment stands and how its frames leave at the port
unfoldable pub entering : List PortRule → Bool → Option Egress → ℕ → List ℕ → Result (ℕ × Frame) Refused
entering ports stands egress port b =
    unless (first (text_reasons (with_ports ports) port b ++ vid_rows (with_ports ports) port (tag_vid b) stands egress)) (Ok (vid_for ports port b, frame_in b))

enters-is : (P : Ports) (port : ℕ) (b : List ℕ) → enters P port b ≡ entering P.ports (has_segment P (vid_for P.ports port b)) (egress_at P (vid_for P.ports port b) port) port b
unfolding entering
enters-is P port b = refl

-- ---- the segment of what enters

abbrev pub segment_entered : Result (ℕ × Frame) Refused → Option ℕ
segment_entered (Ok found) = Some found.0
segment_entered (Err refused) = refused.segment

-- no row is of the segment, nor is the frame
out_of : (vid : ℕ) (found : ℕ × Frame) (rows : List (Refused × Bool)) → (vid == found.0) ≡ false → AllByRecursion (λ row. is_segment vid row.0.segment ≡ false) rows → is_segment vid (segment_entered (unless (first rows) (Ok found))) ≡ false
out_of vid found [] other all = other
out_of vid found (row ∷ rows) other all = by row.1 (out_of vid found rows other all.1)
  where
    by : (b : Bool) → is_segment vid (segment_entered (unless (first rows) (Ok found))) ≡ false → is_segment vid (segment_entered (unless (cond b (Some row.0) (first rows)) (Ok found))) ≡ false
    by true rest = all.0
    by false rest = rest

-- a text for another VID
pub not_entering : (vid : ℕ) (ports : List PortRule) (stands : Bool) (egress : Option Egress) (port : ℕ) (b : List ℕ) → (vid == vid_for ports port b) ≡ false → is_segment vid (segment_entered (entering ports stands egress port b)) ≡ false
unfolding entering
not_entering vid ports stands egress port b other =
    out_of vid (vid_for ports port b, frame_in b) (text_reasons (with_ports ports) port b ++ vid_rows (with_ports ports) port (tag_vid b) stands egress) other
    (refl, (refl, (refl, (refl, (refl, (refl, (refl, (refl, (other, tt)))))))))

-- what enters in the segment or is refused in it
pub enters-same : (vid : ℕ) (P Q : Ports) → P.ports ≡ Q.ports → members_at P vid ≡ members_at Q vid → (port : ℕ) (b : List ℕ) → is_segment vid (segment_entered (enters P port b)) ≡ true → enters Q port b ≡ enters P port b
enters-same vid P Q ports members port b own = by (vid == k) refl
  where
    k : ℕ
    k = vid_for P.ports port b

    stands : vid ≡ k → has_segment P k ≡ has_segment Q k
    stands same = sym (ap (λ (v : ℕ). has_segment P v) same) ∙ ap is_some members ∙ ap (λ (v : ℕ). has_segment Q v) same

    egress : vid ≡ k → egress_at P k port ≡ egress_at Q k port
    egress same =
        sym (ap (λ (v : ℕ). egress_at P v port) same)
        ∙ ap (λ (o : Option Members). option_and_then (λ m. get m port) o) members
        ∙ ap (λ (v : ℕ). egress_at Q v port) same

    by : (c : Bool) → (vid == k) ≡ c → enters Q port b ≡ enters P port b
    by true same =
        enters-is Q port b
        ∙ ap (λ (l : List PortRule). entering l (has_segment Q (vid_for l port b)) (egress_at Q (vid_for l port b) port) port b) (sym ports)
        ∙ (λ i. entering P.ports (sym (stands (eqb-true vid k same)) i) (sym (egress (eqb-true vid k same)) i) port b)
        ∙ sym (enters-is P port b)
    by false other =
        absurd (false≢true (sym (not_entering vid P.ports (has_segment P k) (egress_at P k port) port b other) ∙ sym (ap (λ (r : Result (ℕ × Frame) Refused). is_segment vid (segment_entered r)) (enters-is P port b)) ∙ own))
