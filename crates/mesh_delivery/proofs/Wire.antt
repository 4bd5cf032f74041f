-- What one endpoint sends is read by another as it was sent, or not at all.
use Rattle.std.proofs.Common.{◌≡◌, ◌≢◌, ℕ, ◌^◌, ◌<◌, ◌≤◌, Bool, true, false, not, ◌||◌, List, [], length, Option, Some, None, Result, Ok, Err, refl, sym, ap, ◌∙◌, subst, arith}
use Rattle.std.specs.Prelude.{IfSome, ◌==◌}
use Rattle.std.specs.Option.{option_map, option_map_or, option_and_then}
use Rattle.std.specs.Cmp.{nat_cmp_total}
use Rattle.std.specs.FinMap.{entries, entries_sorted, get-entries}
use Rattle.std.proofs.lemmas.Bool.{false≢true, eqb-true}
use Rattle.wire.proofs.OctetsLemmas.{is_same-true, is_same-refl}
use Rattle.wire.specs.First.{first}
use Rattle.wire.specs.Frame.{Frame, IsFrame, plain}
use Rattle.wire.specs.declared.ether.reason.Reason.{Reason}
use Rattle.wire.specs.declared.ether.reason.Refused.{Refused}
use Rattle.wire.proofs.FirstLemmas.{NothingHolds-from, same_Ok}
use Rattle.wire.proofs.RefusalLemmas.{refused-ok}
use Rattle.wire.specs.declared.ip_udp.addr.Addr.{Addr}
use Rattle.wire.specs.declared.ip_udp.addr.Addr.TheVariants.{V4, V6}
use Rattle.wire.specs.declared.ip_udp.addr.Tunnel.{Tunnel}
use Rattle.wire.specs.declared.ip_udp.addr.Tunnel.TheVariants.{Vxlan, Geneve}
use Rattle.wire.specs.Addr.{IsAddr, is_group, is_usable}
use Rattle.wire.specs.Udp.{data_of}
use Rattle.wire.specs.Datagram.{Datagram}
use Rattle.wire.proofs.DatagramLemmas.{only-datagram}
use Rattle.wire.specs.Vxlan.{IsVni}
use Rattle.wire.proofs.VxlanReading.{vxlan-sent}
use Rattle.wire.proofs.PacketLemmas.{geneve-sent}
use Rattle.filter_db.specs.declared.place.Place.TheVariants.{Remote}
use Rattle.overlay.specs.Flood.{is_there, own_of}
use Rattle.overlay.specs.declared.underlay.segment.Segment.{Segment}
use Rattle.overlay.specs.declared.underlay.settings.Underlay.{Underlay}
use Rattle.overlay.specs.declared.underlay.tunnels.SegmentTunnel.{SegmentTunnel}
use Rattle.overlay.specs.Overlay.{Overlay, has_tunnel, segment_at, segment_by, tunnel_at, tunnel_of}
use Rattle.overlay.specs.UnderlaySettings.{own, is_own, kind_at, port_of}
use Rattle.overlay.proofs.CountLemmas.{found_where}
use Rattle.decapsulate.specs.declared.arrived.Arrived.{Arrived}
use Rattle.decapsulate.specs.Arrival.{packet_in, kind_to, inner_of, is_bad_source, outer_reasons, inner_reasons, arrival_in, arrival_by, arrival, arrival_of, capture_reasons, IsTunnelled}
use Rattle.decapsulate.proofs.ArrivalLemmas.{Reads, Reads-from, kind_at-port, frame_of-plain}
use Rattle.encapsulate.specs.Flow.{source_port}
use Rattle.encapsulate.specs.Packet.{tunnelled}
use Rattle.encapsulate.specs.Remote.{admits, packet_from, sending, remote_text}
use Rattle.encapsulate.specs.Sender.{IsOwnAddr, IsUnderlay}
use Rattle.encapsulate.proofs.Sending.{source_port-below, Datagram4, Datagram6, fits4, fits6}
use Rattle.encapsulate.proofs.SenderLemmas.{packet-sent}
use Rattle.endpoint_core.specs.Arrival.{Arrival}
use Rattle.endpoint_core.specs.Arrival.{came_by, tunnelled as of_tunnel}

-- ---- small steps

-- an address that an endpoint owns is one
owned-is : (o : Option (List ℕ)) (b : List ℕ) (family : List ℕ → Addr) → IfSome o (λ x. IsOwnAddr (family x)) → is_there o b ≡ true → IsAddr (family b)
owned-is None b family h e = absurd (false≢true e)
owned-is (Some x) b family h e = subst (λ (y : List ℕ). IsAddr (family y)) (is_same-true x b e) h.is_addr

pub own-addr : (U : Underlay) (a : Addr) → IsUnderlay U → is_own U a ≡ true → IsAddr a
own-addr U (V4 b) s e = owned-is U.ip4 b V4 s.ip4 e
own-addr U (V6 b) s e = owned-is U.ip6 b V6 s.ip6 e

length-own : (o : Option (List ℕ)) (family : List ℕ → Addr) (src : List ℕ) → IfSome o (λ x. IsOwnAddr (family x)) → o ≡ Some src → IsAddr (family src)
length-own None family src h e = absurd cc
length-own (Some x) family src h e = let same : x ≡ src = cc in subst (λ (y : List ℕ). IsAddr (family y)) same h.is_addr

-- ---- what is sent

-- a frame with two addresses and a type
pub record IsWhole (f : Frame) : Type 0 where
  pub dst : length f.dst ≡ 6
  pub src : length f.src ≡ 6
  pub body : 2 ≤ length f.body

-- as a tunnel carries it, which has no room for the priority
abbrev bare : Frame → Frame
bare f = record f { pcp = 0; dei = false }

bare-is : (f : Frame) → IsWhole f → IsFrame (bare f)
bare-is f h = record { dst = h.dst; src = h.src; pcp = omega arith; body = h.body }

port-below : (U : Underlay) (kind : Tunnel) → IsUnderlay U → port_of U kind < 2 ^ 16
port-below U Vxlan s = s.vxlan_port
port-below U Geneve s = s.geneve_port

tunnelled-is : (known : List (ℕ × ℕ)) (kind : Tunnel) (vni : ℕ) (f : Frame) → IsVni vni → IsTunnelled known kind (tunnelled kind vni f) vni (plain f)
tunnelled-is known Vxlan vni f h = vxlan-sent vni (plain f) h
tunnelled-is known Geneve vni f h = ([], geneve-sent vni (plain f) h, refl)

-- a text is a datagram from the own address c to the address a, with this data
record Carries (S : Overlay) (kind : Tunnel) (c a : Addr) (d b : List ℕ) : Type 0 where
  from : ℕ
  sum : ℕ
  datagram : Datagram b c a from (port_of S.underlay kind) sum d

carries : (S : Overlay) (vid : ℕ) (kind : Tunnel) (t : SegmentTunnel) (a c : Addr) (src : List ℕ) (f : Frame) (sum : ℕ) → tunnel_at S vid kind ≡ Some t → own_of (own S.underlay) a ≡ Some src
    → Datagram (packet_from S.underlay kind t.vni src a f) c a (source_port f) (port_of S.underlay kind) sum (tunnelled kind t.vni f) → Carries S kind c a (tunnelled kind t.vni f) (remote_text S vid kind a f)
carries S vid kind t a c src f sum there owned datagram =
    subst (Carries S kind c a (tunnelled kind t.vni f)) (sym (packet-sent S vid kind t a src f there owned)) (record { from = source_port f; sum = sum; datagram = datagram })

carries4 : (S : Overlay) (vid : ℕ) (kind : Tunnel) (t : SegmentTunnel) (dst src : List ℕ) (f : Frame) → IsUnderlay S.underlay → IsAddr (V4 dst) → IsFrame f → tunnel_at S vid kind ≡ Some t → S.underlay.ip4 ≡ Some src → admits S vid (V4 dst) f ≡ None
    → Carries S kind (V4 src) (V4 dst) (tunnelled kind t.vni f) (remote_text S vid kind (V4 dst) f)
carries4 S vid kind t dst src f s a h there owned let_out =
    let U = S.underlay in
    carries S vid kind t (V4 dst) (V4 src) src f _ there owned
    (Datagram4 U src dst (source_port f) (port_of U kind) (tunnelled kind t.vni f) s a (length-own U.ip4 V4 src s.ip4 owned).0 (source_port-below f) (port-below U kind s) (fits4 S vid dst f s h let_out kind t.vni))

carries6 : (S : Overlay) (vid : ℕ) (kind : Tunnel) (t : SegmentTunnel) (dst src : List ℕ) (f : Frame) → IsUnderlay S.underlay → IsAddr (V6 dst) → IsFrame f → tunnel_at S vid kind ≡ Some t → S.underlay.ip6 ≡ Some src → admits S vid (V6 dst) f ≡ None
    → Carries S kind (V6 src) (V6 dst) (tunnelled kind t.vni f) (remote_text S vid kind (V6 dst) f)
carries6 S vid kind t dst src f s a h there owned let_out =
    let U = S.underlay in
    carries S vid kind t (V6 dst) (V6 src) src f _ there owned
    (Datagram6 U src dst (source_port f) (port_of U kind) (tunnelled kind t.vni f) s a (length-own U.ip6 V6 src s.ip6 owned).0 (source_port-below f) (port-below U kind s) (fits6 S vid dst f s h let_out kind t.vni))

-- ---- what is read

-- what comes in data d between these addresses: a frame in a segment with this VNI
record Found (R : Overlay) (kind : Tunnel) (c : Addr) (vni : ℕ) (f : Frame) (x : Arrived) : Type 0 where
  another : is_own R.underlay c ≡ false
  vni_is : option_map (λ t. t.vni) (tunnel_at R x.vid kind) ≡ Some vni
  frame : x.frame ≡ f

found-vni : (o : Option SegmentTunnel) (vni : ℕ) → option_map_or (λ t. t.vni == vni) o false ≡ true → option_map (λ t. t.vni) o ≡ Some vni
found-vni None vni h = absurd (false≢true h)
found-vni (Some t) vni h = ap Some (eqb-true t.vni vni h)

found-segment : (R : Overlay) (kind : Tunnel) (vni vid : ℕ) (g : Segment) → segment_by R kind vni ≡ Some (vid, g) → option_map (λ t. t.vni) (tunnel_at R vid kind) ≡ Some vni
found-segment R kind vni vid g is =
    let at = found_where nat_cmp_total (has_tunnel kind vni) (entries R.segments) (vid, g) (entries_sorted R.segments) is in
    let there : segment_at R vid ≡ Some g = get-entries R.segments vid ∙ at.0 in
    ap (λ (o : Option Segment). option_map (λ (t : SegmentTunnel). t.vni) (option_and_then (λ h. tunnel_of h kind) o)) there
    ∙ found-vni (tunnel_of g kind) vni at.1

found-in : (R : Overlay) (o : Option (ℕ × Segment)) (kind : Tunnel) (c a : Addr) (vni : ℕ) (f : Frame) (x : Arrived) → is_own R.underlay c ≡ false → segment_by R kind vni ≡ o → IsFrame f → f ≡ record f { pcp = 0; dei = false }
    → arrival_in o kind c a (plain f) ≡ Ok x → Found R kind c vni f x
found-in R None kind c a vni f x other is h e got = absurd cc
found-in R (Some found) kind c a vni f x other is h e got =
    let same = same_Ok _ x (refused-ok (Some found.0) (first (inner_reasons found.1 kind c a (plain f))) _ x got).1 in
    record {
      another = other;
      vni_is = ap (λ (y : Arrived). option_map (λ (t : SegmentTunnel). t.vni) (tunnel_at R y.vid kind)) (sym same) ∙ found-segment R kind vni found.0 found.1 is;
      frame = sym (ap (λ (y : Arrived). y.frame) same) ∙ frame_of-plain f h ∙ sym e;
    }

-- no address of one's own is the source
not-own : (U : Underlay) (c : Addr) → is_bad_source U c ≡ false → is_own U c ≡ false
not-own U c h = by (not (is_usable c) || is_group c) h
  where
    by : (b : Bool) → b || is_own U c ≡ false → is_own U c ≡ false
    by true e = absurd (false≢true (sym e))
    by false e = e

-- what is read of a datagram with a frame in a tunnel
read : (R : Overlay) (b : List ℕ) (c a : Addr) (from to sum : ℕ) (d : List ℕ) (kind : Tunnel) (vni : ℕ) (f : Frame) (x : Arrived) → R.underlay.vxlan_port ≢ R.underlay.geneve_port → Datagram b c a from to sum d → to ≡ port_of R.underlay kind
    → Reads R.underlay.known kind d vni (plain f) → IsFrame f → f ≡ record f { pcp = 0; dei = false } → arrival R b ≡ Ok x → Found R kind c vni f x
read R b c a from to sum d kind vni f x two k port reads h e got =
    let U = R.underlay in
    let p = packet_in b in
    let parts = (only-datagram b c a from to sum d k).1 in
    let kind_is : kind_to U p ≡ Some kind = ap (kind_at U) (parts.dport_is ∙ port) ∙ kind_at-port U kind two in
    let u = refused-ok None (first (outer_reasons R b)) (arrival_by R (kind_to U p) p.source p.destination (data_of p.payload)) x got in
    let none = NothingHolds-from (outer_reasons R b) u.0 in
    let other : is_own U c ≡ false = not-own U c (sym (ap (is_bad_source U) parts.source_is) ∙ none.1.1.1.1.0) in
    let way : arrival_by R (kind_to U p) p.source p.destination (data_of p.payload) ≡ arrival_in (segment_by R kind vni) kind c a (plain f) =
    ap (λ (o : Option Tunnel). arrival_by R o p.source p.destination (data_of p.payload)) kind_is
    ∙ ap (λ (y : Addr). arrival_by R (Some kind) y p.destination (data_of p.payload)) parts.source_is
    ∙ ap (λ (y : Addr). arrival_by R (Some kind) c y (data_of p.payload)) parts.destination_is
    ∙ ap (λ (y : List ℕ). arrival_by R (Some kind) c a y) parts.data_is
    ∙ ap (λ (n : ℕ). arrival_in (segment_by R kind n) kind c a (inner_of kind d)) reads.vni_is
    ∙ ap (λ (y : List ℕ). arrival_in (segment_by R kind vni) kind c a y) reads.inner_is in
    found-in R (segment_by R kind vni) kind c a vni f x other refl h e (sym way ∙ u.1)

-- nothing is read of nothing
read-nothing : (R : Overlay) (x : Arrived) → arrival R [] ≡ Ok x → ⊥
read-nothing R x got =
    let p = packet_in [] in
    let u = refused-ok None (first (outer_reasons R [])) (arrival_by R (kind_to R.underlay p) p.source p.destination (data_of p.payload)) x got in
    false≢true (sym (NothingHolds-from (outer_reasons R []) u.0).0)

-- ---- one to another

-- the destination, the source and the body of f, in a segment with the VNI that it was sent with; and the reader isn't the
-- sender
pub record IsReadAs (S R : Overlay) (vid : ℕ) (kind : Tunnel) (f : Frame) (u : ℕ) (g : Frame) : Type 0 where
  pub dst : g.dst ≡ f.dst
  pub src : g.src ≡ f.src
  pub body : g.body ≡ f.body
  pub vni : ℕ
  pub sent_with : option_map (λ t. t.vni) (tunnel_at S vid kind) ≡ Some vni
  pub read_with : option_map (λ t. t.vni) (tunnel_at R u kind) ≡ Some vni
  pub another : R.underlay ≡ S.underlay → ⊥

read-as : (S R : Overlay) (vid : ℕ) (kind : Tunnel) (t : SegmentTunnel) (c : Addr) (f : Frame) (x : Arrived) → tunnel_at S vid kind ≡ Some t → is_own S.underlay c ≡ true → Found R kind c t.vni (bare f) x → IsReadAs S R vid kind f x.vid x.frame
read-as S R vid kind t c f x there owned found = record {
  dst = ap (λ (g : Frame). g.dst) found.frame;
  src = ap (λ (g : Frame). g.src) found.frame;
  body = ap (λ (g : Frame). g.body) found.frame;
  vni = t.vni;
  sent_with = ap (option_map (λ (y : SegmentTunnel). y.vni)) there;
  read_with = found.vni_is;
  another = λ same. false≢true (sym found.another ∙ ap (λ (U : Underlay). is_own U c) same ∙ owned);
}

own-there : (o : Option (List ℕ)) (src : List ℕ) → o ≡ Some src → is_there o src ≡ true
own-there o src e = ap (λ (p : Option (List ℕ)). is_there p src) e ∙ is_same-refl src

abbrev text_by : Underlay → Tunnel → Addr → Frame → Option SegmentTunnel → Option (List ℕ) → List ℕ
text_by U kind a f o q = elim o as (λ _. List ℕ) [ Some t ↦ option_map_or (λ src. packet_from U kind t.vni src a f) q [] | None ↦ [] ]

module _ (S R : Overlay) (vid : ℕ) (kind : Tunnel) (f : Frame) (x : Arrived) (s : IsUnderlay S.underlay) (r : IsUnderlay R.underlay) (h : IsWhole f) (ports : port_of S.underlay kind ≡ port_of R.underlay kind) where
  taken : (a c : Addr) (t : SegmentTunnel) → tunnel_at S vid kind ≡ Some t → IsVni t.vni → is_own S.underlay c ≡ true → Carries S kind c a (tunnelled kind t.vni (bare f)) (remote_text S vid kind a (bare f)) → arrival R (remote_text S vid kind a (bare f)) ≡ Ok x → IsReadAs S R vid kind f x.vid x.frame
  taken a c t there vni owned carries got =
      read-as S R vid kind t c f x there owned
      (read R (remote_text S vid kind a (bare f)) c a carries.from (port_of S.underlay kind) carries.sum (tunnelled kind t.vni (bare f)) kind t.vni (bare f) x r.two_ports carries.datagram ports
      (Reads-from R.underlay.known kind (tunnelled kind t.vni (bare f)) t.vni (plain (bare f)) (tunnelled-is R.underlay.known kind t.vni (bare f) vni)) (bare-is f h) refl got)

  by_family : (a : Addr) (t : SegmentTunnel) (src : List ℕ) → IsAddr a → tunnel_at S vid kind ≡ Some t → IsVni t.vni → own_of (own S.underlay) a ≡ Some src → admits S vid a f ≡ None → arrival R (remote_text S vid kind a (bare f)) ≡ Ok x → IsReadAs S R vid kind f x.vid x.frame
  by_family (V4 dst) t src is there vni owned let_out got =
      taken (V4 dst) (V4 src) t there vni (own-there S.underlay.ip4 src owned) (carries4 S vid kind t dst src (bare f) s is (bare-is f h) there owned let_out) got
  by_family (V6 dst) t src is there vni owned let_out got =
      taken (V6 dst) (V6 src) t there vni (own-there S.underlay.ip6 src owned) (carries6 S vid kind t dst src (bare f) s is (bare-is f h) there owned let_out) got

  -- without a tunnel of the kind or an own address of the family, nothing is sent
  by_parts : (a : Addr) (o : Option SegmentTunnel) (q : Option (List ℕ)) → IsAddr a → tunnel_at S vid kind ≡ o → own_of (own S.underlay) a ≡ q → ((t : SegmentTunnel) → tunnel_at S vid kind ≡ Some t → IsVni t.vni) → admits S vid a f ≡ None
      → arrival R (remote_text S vid kind a (bare f)) ≡ Ok x → IsReadAs S R vid kind f x.vid x.frame
  by_parts a None q is there owned vnis let_out got =
      absurd (read-nothing R x (sym (ap (λ (o : Option SegmentTunnel). arrival R (text_by S.underlay kind a (bare f) o (own_of (own S.underlay) a))) there) ∙ got))
  by_parts a (Some t) None is there owned vnis let_out got =
      absurd (read-nothing R x (sym (ap (λ (o : Option SegmentTunnel). arrival R (text_by S.underlay kind a (bare f) o (own_of (own S.underlay) a))) there ∙ ap (λ (q : Option (List ℕ)). arrival R (text_by S.underlay kind a (bare f) (Some t) q)) owned) ∙ got))
  by_parts a (Some t) (Some src) is there owned vnis let_out got = by_family a t src is there (vnis t there) owned let_out got

-- ---- as an endpoint takes it

pub record IsArrived (x : Arrival) (y : Arrived) : Type 0 where
  pub vid : x.vid ≡ y.vid
  pub from : x.from ≡ Remote y.from.0 y.from.1
  pub frame : x.frame ≡ y.frame

of-arrived : (r : Result Arrived Refused) (x : Arrival) → of_tunnel r ≡ Ok x → (y : Arrived) × (r ≡ Ok y) × IsArrived x y
of-arrived (Err refused) x h = absurd cc
of-arrived (Ok y) x h =
    let same = same_Ok _ x h in
    (y, refl, record { vid = sym (ap (λ (z : Arrival). z.vid) same); from = sym (ap (λ (z : Arrival). z.from) same); frame = sym (ap (λ (z : Arrival). z.frame) same) })

pub came_by-arrived : (R : Overlay) (original : ℕ) (b : List ℕ) (x : Arrival) → came_by R original b ≡ Ok x → (y : Arrived) × (arrival R b ≡ Ok y) × IsArrived x y
unfolding came_by
came_by-arrived R original b x h =
    let a = of-arrived (arrival_of R original b) x h in
    (a.0, (refused-ok None (first (capture_reasons original b)) (arrival R b) a.0 a.1).1, a.2)

sent-by : (o : Option Reason) (text b : List ℕ) → elim o as (λ _. Result (List ℕ) Reason) [ Some reason ↦ Err reason | None ↦ Ok text ] ≡ Ok b → (o ≡ None) × (text ≡ b)
sent-by None text b h = (refl, same_Ok text b h)
sent-by (Some reason) text b h = absurd cc

pub sent-text : (S : Overlay) (vid : ℕ) (kind : Tunnel) (a : Addr) (f : Frame) (b : List ℕ) → sending S vid kind a f ≡ Ok b → (admits S vid a f ≡ None) × (remote_text S vid kind a f ≡ b)
sent-text S vid kind a f b h = sent-by (admits S vid a f) (remote_text S vid kind a f) b h

-- what S sends in a segment to an address that R owns, R reads as it was sent, or not at all
pub delivered-as : (S R : Overlay) (vid : ℕ) (kind : Tunnel) (a : Addr) (f : Frame) (b : List ℕ) (original : ℕ) (x : Arrival) → IsUnderlay S.underlay → IsUnderlay R.underlay → IsWhole f → port_of S.underlay kind ≡ port_of R.underlay kind
    → ((t : SegmentTunnel) → tunnel_at S vid kind ≡ Some t → IsVni t.vni) → is_own R.underlay a ≡ true → sending S vid kind a f ≡ Ok b → came_by R original b ≡ Ok x → IsReadAs S R vid kind f x.vid x.frame
delivered-as S R vid kind a f b original x s r h ports vnis owned sent came =
    let parts = sent-text S vid kind a f b sent in
    let y = came_by-arrived R original b x came in
    let read_so : IsReadAs S R vid kind f y.0.vid y.0.frame =
    by_parts S R vid kind f y.0 s r h ports a (tunnel_at S vid kind) (own_of (own S.underlay) a) (own-addr R.underlay a r owned) refl refl vnis parts.0 (ap (arrival R) parts.1 ∙ y.1) in
    subst (λ (u : ℕ). IsReadAs S R vid kind f u x.frame) (sym y.2.vid) (subst (λ (g : Frame). IsReadAs S R vid kind f y.0.vid g) (sym y.2.frame) read_so)
