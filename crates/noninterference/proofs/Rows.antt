-- Which events concern a segment, in some cases.
use Rattle.std.proofs.Common.{◌≡◌, ℕ, true, false, List, [], ◌∷◌, Some, refl, ap, ◌∙◌}
use Rattle.std.specs.Prelude.{is_some}
use Rattle.std.specs.Option.{option_and_then}
use Rattle.std.specs.FinMap.{empty, get, insert}
use Rattle.overlay.specs.Ports.{Ports, Members, has_segment, egress_at}
use Rattle.overlay.specs.declared.ports.member.Egress.TheVariants.{Tagged, Untagged}
use Rattle.overlay.specs.declared.ports.port.Accept.TheVariants.{All}
use Rattle.overlay.proofs.PlacesLemmas.{get-insert_same}
use Rattle.endpoint_core.specs.State.{aged}
use Rattle.overlay.specs.declared.settings.change.Change.TheVariants.{SetLearning, SetMember, PortDown, Flush}
use Rattle.endpoint_core.specs.Among.{segment_of}
use Rattle.endpoint_core.specs.Arrival.{came_at, came_by, entered, let_in}
use Rattle.endpoint_core.specs.Event.{Event, frame_at, packet_at, change_at}
use Rattle.endpoint_core.specs.Step.{State, after}
use Rattle.endpoint_core.proofs.LetIn.{let_in-segment}
use Rattle.noninterference.specs.Alone.{is_segment, concerns, only}
use Rattle.noninterference.proofs.Entering.{entering, not_entering}
use Rattle.noninterference.proofs.Coming.{by-entered}
use Rattle.noninterference.proofs.Stepping.{decided-segment}

-- changes that name another segment go, those that name it or are of a port stay
row_changes : (s : State) → only 10 s (change_at 1 (SetLearning 20 false) ∷ change_at 2 (Flush 10) ∷ change_at 3 (SetMember 20 1 (Some Tagged)) ∷ change_at 4 (PortDown 2) ∷ [])
    ≡ change_at 2 (Flush 10) ∷ change_at 4 (PortDown 2) ∷ []
row_changes s = refl

-- frames and packets that are too short for any segment go
row_runts : (s : State) → only 10 s (frame_at 1 1 0 [] ∷ packet_at 2 0 [] ∷ change_at 3 (Flush 10) ∷ []) ≡ change_at 3 (Flush 10) ∷ []
unfolding came_at came_by
row_runts s = refl

-- ---- frames and packets

-- a frame concerns the segment that it comes to, or that it is refused in
pub concerns-frame : (vid : ℕ) (s : State) (t port original : ℕ) (b : List ℕ) → concerns vid s (frame_at t port original b) ≡ is_segment vid (segment_of (came_at s.bridges.settings.ports s.bridges.settings.overlay port original b))
concerns-frame vid s t port original b = ap (is_segment vid) (decided-segment t (aged t s.bridges) (came_at s.bridges.settings.ports s.bridges.settings.overlay port original b))

-- and so does a packet
pub concerns-packet : (vid : ℕ) (s : State) (t original : ℕ) (b : List ℕ) → concerns vid s (packet_at t original b) ≡ is_segment vid (segment_of (came_by s.bridges.settings.overlay original b))
concerns-packet vid s t original b = ap (is_segment vid) (decided-segment t (aged t s.bridges) (came_by s.bridges.settings.overlay original b))

-- port 1 is a member of segment 10, and port 2 of segment 20
two_ports : Ports
two_ports = record {
  ports = record { pvid = 10; accept = All; up = true } ∷ record { pvid = 20; accept = All; up = true } ∷ [];
  segments = insert (insert empty 20 (insert empty 2 Untagged)) 10 (insert empty 1 Untagged);
}

-- to all stations, from 02-00-00-00-00-01
broadcast : List ℕ
broadcast = 0xff ∷ 0xff ∷ 0xff ∷ 0xff ∷ 0xff ∷ 0xff ∷ 0x02 ∷ 0 ∷ 0 ∷ 0 ∷ 0 ∷ 0x01 ∷ 0x08 ∷ 0x00 ∷ []

stands_10 : has_segment two_ports 10 ≡ true
unfolding two_ports
stands_10 = ap is_some (get-insert_same (insert empty 20 (insert empty 2 Untagged)) 10 (insert empty 1 Untagged))

leaves_10 : egress_at two_ports 10 1 ≡ Some Untagged
unfolding two_ports
leaves_10 =
    ap (option_and_then (λ (m : Members). get m 1)) (get-insert_same (insert empty 20 (insert empty 2 Untagged)) 10 (insert empty 1 Untagged))
    ∙ get-insert_same empty 1 Untagged

-- at port 1 it stays
row_own : (s : State) → s.bridges.settings.ports ≡ two_ports → concerns 10 s (frame_at 5 1 14 broadcast) ≡ true
unfolding came_at entering two_ports broadcast
row_own s ports =
    concerns-frame 10 s 5 1 14 broadcast
    ∙ ap (λ (P : Ports). is_segment 10 (segment_of (came_at P s.bridges.settings.overlay 1 14 broadcast))) ports
    ∙ (λ i. is_segment 10 (segment_of (let_in s.bridges.settings.overlay (entered 1 (entering two_ports.ports (stands_10 i) (leaves_10 i) 1 broadcast)))))

-- at port 2 it goes
row_other : (s : State) → s.bridges.settings.ports ≡ two_ports → concerns 10 s (frame_at 5 2 14 broadcast) ≡ false
unfolding came_at entering two_ports broadcast
row_other s ports =
    concerns-frame 10 s 5 2 14 broadcast
    ∙ ap (λ (P : Ports). is_segment 10 (segment_of (came_at P s.bridges.settings.overlay 2 14 broadcast))) ports
    ∙ ap (is_segment 10) (let_in-segment s.bridges.settings.overlay (entered 2 (entering two_ports.ports (has_segment two_ports 20) (egress_at two_ports 20 2) 2 broadcast)))
    ∙ ap (is_segment 10) (by-entered 2 (entering two_ports.ports (has_segment two_ports 20) (egress_at two_ports 20 2) 2 broadcast))
    ∙ not_entering 10 two_ports.ports (has_segment two_ports 20) (egress_at two_ports 20 2) 2 broadcast refl

-- ---- only events of the segment

-- each event concerns the segment
abbrev pub AllConcern : ℕ → State → List Event → Type 0
AllConcern vid s [] = Unit {0}
AllConcern vid s (e ∷ es) = (concerns vid s e ≡ true) × AllConcern vid (after s e) es

-- then none goes
pub only-all : (vid : ℕ) (s : State) (es : List Event) → AllConcern vid s es → only vid s es ≡ es
only-all vid s [] all = refl
only-all vid s (e ∷ es) all = rw (all.0) (ap (λ rest. e ∷ rest) (only-all vid (after s e) es all.1))
