-- A datagram with a tunnel's header is read as what it carries.
use Rattle.std.proofs.Common.{◌≡◌, ◌≢◌, ◌∙◌, ℕ, ◌*◌, ◌%◌, Bool, false, not, eqb, List, [], ◌∷◌, ◌++◌, drop, take, Option, Some, None, refl, sym, ap, arith}
use Rattle.std.specs.Prelude.{if◌then◌else◌, is_some, option_map}
use Rattle.std.proofs.lemmas.Bool.{cond-true, cond-false, eq-eqb, ne_eqb}
use Rattle.std.proofs.lemmas.List.{drop-take, take_at}
use Rattle.wire.specs.Octets.{octets, part}
use Rattle.wire.specs.First.{first}
use Rattle.wire.specs.declared.ether.reason.Reason.TheVariants.{Fragment, NotUdp, BadUdp}
use Rattle.wire.proofs.FirstLemmas.{first-none, first-skip}
use Rattle.wire.specs.declared.ip_udp.addr.Addr.{Addr}
use Rattle.wire.specs.declared.ip_udp.addr.Tunnel.{Tunnel}
use Rattle.wire.specs.declared.ip_udp.addr.Tunnel.TheVariants.{Vxlan, Geneve}
use Rattle.wire.specs.Datagram.{Datagram, HasParts}
use Rattle.wire.specs.Udp.{data_of, dport, is_bad_udp, sum_state, udp_header}
use Rattle.wire.proofs.DatagramLemmas.{only-datagram}
use Rattle.wire.specs.VxlanReading.{reason_of as vxlan_reason, vxlan_faults}
use Rattle.wire.proofs.VxlanReading.{vxlan-only}
use Rattle.wire.specs.Geneve.{IsGeneve}
use Rattle.wire.specs.GeneveOptions.{TunnelOption}
use Rattle.wire.specs.GeneveReading.{geneve_faults, head_length, options_length, reason_of as geneve_reason}
use Rattle.wire.specs.declared.geneve.view.GeneveFault.{GeneveFault}
use Rattle.wire.proofs.PacketLemmas.{geneve-only}
use Rattle.decapsulate.specs.Arrival.{Packet, frame_reasons, inner_of, packet_in, tunnel_reasons, vni_of}
use Rattle.decapsulate.proofs.PacketLemmas.{first-as_reasons}
use Rattle.capture_compare.specs.CarriedLaws.{GeneveIsCarried, IsSumTaken, VxlanIsCarried}
use Rattle.capture_compare.specs.Tunnelled.{Tunnelled, carried_at, carried_by, has_no_datagram, is_taken, kind_at, options_of, tunnelled}
use Rattle.capture_compare.specs.declared.carried.tunnels.Tunnels.{Tunnels}

-- where none of all holds, none of those in front does, nor of those behind
both-none : {A : Type 0} (rows others : List (A × Bool)) → first (rows ++ others) ≡ None → (first rows ≡ None) × (first others ≡ None)
both-none [] others h = (refl, h)
both-none (a ∷ rows) others h =
    let p = first-none a.0 a.1 (rows ++ others) h in
    let q = both-none rows others p.1 in
    (first-skip a.0 a.1 rows p.0 ∙ q.0, q.1)

-- ---- the datagram

has-datagram : (p : Packet) → first ((Fragment, p.is_fragment) ∷ (NotUdp, not (eqb p.protocol 17)) ∷ (BadUdp, is_bad_udp p.payload) ∷ []) ≡ None → has_no_datagram p ≡ false
has-datagram p h =
    let fragment = first-none Fragment p.is_fragment ((NotUdp, not (eqb p.protocol 17)) ∷ (BadUdp, is_bad_udp p.payload) ∷ []) h in
    let udp = first-none NotUdp (not (eqb p.protocol 17)) ((BadUdp, is_bad_udp p.payload) ∷ []) fragment.1 in
    let bad = first-none BadUdp (is_bad_udp p.payload) [] udp.1 in
    rw (fragment.0, udp.0, bad.0) refl

-- what a datagram carries
pub read-at : (T : Tunnels) (b : List ℕ) (source destination : Addr) (from to sum : ℕ) (d : List ℕ) → Datagram b source destination from to sum d → IsSumTaken T source destination from to sum d
    → tunnelled T b ≡ carried_at T.known (kind_at T to) source destination d
read-at T b source destination from to sum d k right =
    let told = only-datagram b source destination from to sum d k in
    let p = packet_in b in
    let none = both-none (frame_reasons b) ((Fragment, p.is_fragment) ∷ (NotUdp, not (eqb p.protocol 17)) ∷ (BadUdp, is_bad_udp p.payload) ∷ []) told.0 in
    let parts : HasParts b source destination from to sum d = told.1 in
    cond-false _ _ _ (ap is_some none.0)
    ∙ cond-false _ _ _ (has-datagram p none.1)
    ∙ ap (λ (t : List ℕ). carried_at T.known (if is_taken T (sum_state p.source p.destination t) then kind_at T (dport p.payload) else None) p.source p.destination (data_of p.payload)) parts.datagram_is
    ∙ ap (λ (a : Addr). carried_at T.known (if is_taken T (sum_state a p.destination (udp_header from to sum d ++ d)) then kind_at T (dport p.payload) else None) a p.destination (data_of p.payload)) parts.source_is
    ∙ ap (λ (a : Addr). carried_at T.known (if is_taken T (sum_state source a (udp_header from to sum d ++ d)) then kind_at T (dport p.payload) else None) source a (data_of p.payload)) parts.destination_is
    ∙ ap (λ (o : Option Tunnel). carried_at T.known o source destination (data_of p.payload)) (cond-true _ _ _ right)
    ∙ ap (λ (n : ℕ). carried_at T.known (kind_at T n) source destination (data_of p.payload)) parts.dport_is
    ∙ ap (λ (t : List ℕ). carried_at T.known (kind_at T to) source destination t) parts.data_is

at-vxlan : (T : Tunnels) → kind_at T T.vxlan_port ≡ Some Vxlan
at-vxlan T = cond-true _ _ _ (eq-eqb T.vxlan_port T.vxlan_port refl)

at-geneve : (T : Tunnels) → T.geneve_port ≢ T.vxlan_port → kind_at T T.geneve_port ≡ Some Geneve
at-geneve T other = cond-false _ _ _ (ne_eqb T.geneve_port T.vxlan_port other) ∙ cond-true _ _ _ (eq-eqb T.geneve_port T.geneve_port refl)

-- ---- the tunnel's header

carried-by : (known : List (ℕ × ℕ)) (kind : Tunnel) (source destination : Addr) (d : List ℕ) (vni : ℕ) (options inner : List ℕ) → first (tunnel_reasons known kind d) ≡ None → vni_of kind d ≡ vni → options_of kind d ≡ options → inner_of kind d ≡ inner
    → carried_by known kind source destination d ≡ Some (record { kind = kind; source = source; destination = destination; vni = vni; options = options; inner = inner })
carried-by known kind source destination d vni options inner none v o i = cond-false _ _ _ (ap is_some none) ∙ same (vni_of kind d) vni (options_of kind d) options (inner_of kind d) inner v o i
  where
    same : (a b : ℕ) (c e f g : List ℕ) → a ≡ b → c ≡ e → f ≡ g
        → ◌≡◌ {A = Option Tunnelled} (Some (record { kind = kind; source = source; destination = destination; vni = a; options = c; inner = f }))
        (Some (record { kind = kind; source = source; destination = destination; vni = b; options = e; inner = g }))
    same a b c e f g h i j = cc

pub vxlan-carried : VxlanIsCarried
vxlan-carried T b source destination port sum d vni inner k right v =
    let told = vxlan-only d vni inner v in
    read-at T b source destination port T.vxlan_port sum d k right
    ∙ ap (λ (o : Option Tunnel). carried_at T.known o source destination d) (at-vxlan T)
    ∙ carried-by T.known Vxlan source destination d vni [] inner (first-as_reasons vxlan_reason (vxlan_faults d) ∙ ap (option_map vxlan_reason) told.0) told.1 refl told.2

-- the options in a header
options-are : (d : List ℕ) (vni : ℕ) (options : List TunnelOption) (inner : List ℕ) (g : IsGeneve d vni options inner) → options_of Geneve d ≡ g.option_texts
options-are d vni options inner g =
    let n = g.opt_len in
    let texts = g.option_texts in
    let x = n ∷ g.flags ∷ 0x65 ∷ 0x58 ∷ octets 3 vni ++ (g.last ∷ texts ++ inner) in
    let version = g.version_0 in
    let room = g.room in
    let low : n % 64 ≡ n = omega arith in
    let size : options_length x ≡ 4 * n = ap (λ (w : ℕ). 4 * w) low in
    let here : part 8 (options_length x) x ≡ texts = take_at texts inner (options_length x) (omega arith) in
    ap (λ (t : List ℕ). part 8 (options_length t) t) g.whole ∙ here

pub geneve-carried : GeneveIsCarried
geneve-carried T b source destination port sum d vni options inner other k right g taken =
    let told = geneve-only T.known d vni options inner g in
    let none : first (geneve_faults T.known d) ≡ None = told.0 ∙ cond-true _ _ _ taken in
    read-at T b source destination port T.geneve_port sum d k right
    ∙ ap (λ (o : Option Tunnel). carried_at T.known o source destination d) (at-geneve T other)
    ∙ carried-by T.known Geneve source destination d vni g.option_texts inner (first-as_reasons geneve_reason (geneve_faults T.known d) ∙ ap (option_map geneve_reason) none) told.1
    (options-are d vni options inner g) told.3

-- ---- what is read of a Geneve packet

-- nothing where it has a fault
pub geneve-refused : (source destination : Addr) (d : List ℕ) (known : List (ℕ × ℕ)) (fault : GeneveFault) → Some fault ≡ first (geneve_faults known d) → None ≡ carried_by known Geneve source destination d
geneve-refused source destination d known fault h =
    sym (cond-true _ _ _ (ap is_some (first-as_reasons geneve_reason (geneve_faults known d) ∙ ap (option_map geneve_reason) (sym h))))

-- the options in its header
options-behind : (d head : List ℕ) → head ≡ take (head_length d) d → drop 8 head ≡ options_of Geneve d
options-behind d head is = ap (drop 8) is ∙ drop-take 8 (options_length d) d

pub geneve-taken : (source destination : Addr) (d : List ℕ) (known : List (ℕ × ℕ)) (vni : ℕ) (list : List TunnelOption) (head options inner : List ℕ) → None ≡ first (geneve_faults known d)
    → IsGeneve d vni list inner → head ≡ take (head_length d) d → options ≡ drop 8 head
    → Some (record { kind = Geneve; source = source; destination = destination; vni = vni; options = options; inner = inner }) ≡ carried_by known Geneve source destination d
geneve-taken source destination d known vni list head options inner h g head_is options_is =
    let says = geneve-only known d vni list inner g in
    sym (carried-by known Geneve source destination d vni options inner (first-as_reasons geneve_reason (geneve_faults known d) ∙ ap (option_map geneve_reason) (sym h)) says.1
    (sym (options_is ∙ options-behind d head head_is)) says.3)
