-- What comes to a segment: frames of a bounded length, from places with addresses.
use Rattle.std.proofs.Common.{◌≡◌, ◌≢◌, refl, sym, ap, subst, ℕ, ◌≤◌, arith, List, ◌∷◌, ◌++◌, length, length-append, drop, None, Result, Ok, Err}
use Rattle.std.specs.List.{concat}
use Rattle.std.proofs.lemmas.Bool.{ltb-false}
use Rattle.std.proofs.lemmas.List.{length-drop, length-take}
use Rattle.wire.specs.Octets.{IsText, octets}
use Rattle.wire.proofs.OctetsLemmas.{IsText-drop, IsText-take}
use Rattle.wire.specs.First.{first}
use Rattle.wire.specs.Frame.{Frame, IsFrame, plain}
use Rattle.wire.specs.declared.ether.reason.Refused.{Refused}
use Rattle.wire.proofs.FirstLemmas.{NothingHolds-from, unless-ok}
use Rattle.wire.proofs.RefusalLemmas.{refused-ok}
use Rattle.wire.specs.Addr.{IsAddr}
use Rattle.wire.specs.Datagram.{ether_type}
use Rattle.wire.specs.Ip.{Family, Ip4, Ip6, IsHeader, source}
use Rattle.wire.specs.Udp.{udp_header}
use Rattle.wire.specs.declared.ip_udp.addr.Tunnel.{Tunnel}
use Rattle.wire.specs.declared.ip_udp.addr.Tunnel.TheVariants.{Geneve, Vxlan}
use Rattle.filter_db.specs.declared.place.Place.TheVariants.{Local, Remote}
use Rattle.overlay.specs.Ports.{Ports}
use Rattle.overlay.specs.Ingress.{enters}
use Rattle.overlay.specs.Overlay.{Overlay}
use Rattle.overlay.specs.UnderlaySettings.{port_of}
use Rattle.decapsulate.specs.Arrival as arrival
use Rattle.decapsulate.specs.Arrival.{Arrives, IsTunnelled}
use Rattle.decapsulate.specs.declared.arrived.Arrived.{Arrived}
use Rattle.decapsulate.proofs.ArrivesLemmas.{brings_what_arrives}
use Rattle.endpoint_core.specs.Arrival.{Arrival}
use Rattle.endpoint_core.specs.Arrival.{came_at, came_by, capture_reasons, entered, let_in, tunnelled}
use Rattle.endpoint_core.proofs.ComingLemmas.{entered-short}
use Rattle.endpoint_core.proofs.LetIn.{let_in-ok}
use Rattle.mesh_delivery.proofs.Entering.{came_at-entered}
use Rattle.part_files.proofs.Coming.{text-behind, text-front}
use Rattle.part_files.proofs.Remotes.{IsFar}

-- a frame of no more octets than a packet has, from a place with an address
pub record IsCome (x : Arrival) : Type 0 where
  pub from : IsFar x.from
  pub dst : length x.frame.dst ≡ 6
  pub src : length x.frame.src ≡ 6
  pub body : length x.frame.body ≤ 65549

-- ---- by a tunnel

source-addr : (f : Family) (h : List ℕ) (n : ℕ) → IsHeader f h n → IsText h → IsAddr (source f h)
source-addr Ip4 h n is t = (omega (arith, length-take 4 (drop 12 h), length-drop 12 h, is.shortest, is.octets), IsText-take 4 (drop 12 h) (IsText-drop 12 h t))
source-addr Ip6 h n is t = (omega (arith, length-take 16 (drop 8 h), length-drop 8 h, is.octets), IsText-take 16 (drop 8 h) (IsText-drop 8 h t))

-- the inner text is a part of the data
inner-short : (known : List (ℕ × ℕ)) (kind : Tunnel) (d : List ℕ) (vni : ℕ) (e : List ℕ) → IsTunnelled known kind d vni e → length e ≤ length d
inner-short known Vxlan d vni e is =
    omega (arith, ap length is.whole, length-append is.reserved (octets 3 vni ++ is.last ∷ e), length-append (octets 3 vni) (is.last ∷ e))
inner-short known Geneve d vni e is =
    let g = is.1 in
    omega (arith, ap length g.whole, length-append (octets 3 vni) (g.last ∷ g.option_texts ++ e), length-append g.option_texts e)

record IsArrived (b : List ℕ) (x : Arrived) : Type 0 where
  addr : IsAddr x.from.1
  frame : IsFrame x.frame
  body : length x.frame.body ≤ length b

arrived : (O : Overlay) (b : List ℕ) (x : Arrived) → IsText b → Arrives O b x → IsArrived b x
arrived O b x t is =
    let g = is.datagram in
    let carrier = g.is_carrier in
    let udp = udp_header is.sport (port_of O.underlay x.from.0) is.sum is.data_text in
    let carried = udp ++ (is.data_text ++ g.tail) in
    let packet = g.head ++ (carried ++ g.trailer) in
    let typed = ether_type g.family ++ packet in
    let tagged = concat g.tags ++ typed in
    let whole : IsText (g.addresses ++ tagged) = subst IsText g.whole t in
    let head : IsText g.head = text-front g.head (carried ++ g.trailer) (text-behind (ether_type g.family) packet (text-behind (concat g.tags) typed (text-behind g.addresses tagged whole))) in
    let f : Frame = x.frame in
    let long = inner-short O.underlay.known x.from.0 is.data_text is.vni (plain f) is.tunnel in
    record {
      addr = subst IsAddr (sym carrier.src_is) (source-addr g.family g.head _ carrier.header head);
      frame = is.is_frame;
      body = omega (
        arith,
        long,
        length-append f.dst (f.src ++ f.body),
        length-append f.src f.body,
        ap length g.whole,
        length-append g.addresses tagged,
        length-append (concat g.tags) typed,
        length-append (ether_type g.family) packet,
        length-append g.head (carried ++ g.trailer),
        length-append carried g.trailer,
        length-append udp (is.data_text ++ g.tail),
        length-append is.data_text g.tail,
      );
    }

tunnelled-came : Arrived → Arrival
tunnelled-came y = record { vid = y.vid; from = Remote y.from.0 y.from.1; frame = y.frame }

of-tunnel : (r : Result Arrived Refused) (x : Arrival) → ((y : Arrived) → r ≡ Ok y → (IsAddr y.from.1) × (IsFrame y.frame) × (length y.frame.body ≤ 65549)) → tunnelled r ≡ Ok x → IsCome x
unfolding tunnelled-came
of-tunnel (Err refused) x each h = absurd cc
of-tunnel (Ok y) x each h =
    let same : tunnelled-came y ≡ x = cc in
    let own = each y refl in
    subst IsCome same (record { from = own.0; dst = own.1.dst; src = own.1.src; body = own.2 })

pub came_by-come : (O : Overlay) (original : ℕ) (b : List ℕ) (x : Arrival) → O.underlay.vxlan_port ≢ O.underlay.geneve_port → IsText b → came_by O original b ≡ Ok x → IsCome x
unfolding came_by
came_by-come O original b x apart t h = of-tunnel (arrival.arrival_of O original b) x each h
  where
    each : (y : Arrived) → arrival.arrival_of O original b ≡ Ok y → (IsAddr y.from.1) × (IsFrame y.frame) × (length y.frame.body ≤ 65549)
    each y is =
        let passed = refused-ok None (first (arrival.capture_reasons original b)) (arrival.arrival O b) y is in
        let short = ltb-false 65549 (length b) (NothingHolds-from (arrival.capture_reasons original b) passed.0).0 in
        let got = arrived O b y t ((brings_what_arrives O b y apart t).0 passed.1) in
        (got.addr, got.frame, omega (arith, got.body, short))

-- ---- by a local port

entered-frame : ℕ → ℕ × Frame → Arrival
entered-frame port found = record { vid = found.0; from = Local port; frame = found.1 }

entered-body : (port : ℕ) (b : List ℕ) (r : Result (ℕ × Frame) Refused) (x : Arrival) → ((vid : ℕ) (f : Frame) → r ≡ Ok (vid, f) → length f.body ≤ length b) → entered port r ≡ Ok x → length x.frame.body ≤ length b
unfolding entered-frame
entered-body port b (Err refused) x each h = absurd cc
entered-body port b (Ok found) x each h =
    let same : entered-frame port found ≡ x = cc in
    subst (λ (y : Arrival). length y.frame.body ≤ length b) same (each found.0 found.1 refl)

pub came_at-come : (ports : Ports) (overlay : Overlay) (port original : ℕ) (b : List ℕ) (x : Arrival) → came_at ports overlay port original b ≡ Ok x → IsCome x
unfolding came_at
came_at-come ports overlay port original b x h =
    let parts = unless-ok (first (capture_reasons original b)) (let_in overlay (entered port (enters ports port b))) x h in
    let short = ltb-false 65535 (length b) (NothingHolds-from (capture_reasons original b) parts.0).0 in
    let own = came_at-entered ports overlay port original b x h in
    let body = entered-body port b (enters ports port b) x (λ vid f is. entered-short ports port b vid f is) (let_in-ok overlay (entered port (enters ports port b)) x parts.1).0 in
    record { from = subst IsFar (sym own.from) tt; dst = own.whole.dst; src = own.whole.src; body = omega (arith, body, short) }
