-- Laws of what packets carry, and of their keys.
use Rattle.std.specs.Prelude.{◌≡◌, ◌≢◌, ℕ, IsTrue, List, [], ◌∷◌, ◌++◌, Some}
use Rattle.wire.specs.Octets.{octets}
use Rattle.wire.specs.Addr.{address}
use Rattle.wire.specs.Datagram.{Datagram}
use Rattle.wire.specs.declared.ip_udp.addr.Addr.{Addr}
use Rattle.wire.specs.declared.ip_udp.addr.Tunnel.TheVariants.{Vxlan, Geneve}
use Rattle.wire.specs.Vxlan.{IsVxlan}
use Rattle.wire.specs.Geneve.{IsGeneve}
use Rattle.wire.specs.GeneveOptions.{TunnelOption, allowed}
use Rattle.capture_compare.specs.Key.{carried_text}
use Rattle.wire.specs.Udp.{sum_state, udp_header}
use Rattle.capture_compare.specs.Tunnelled.{Tunnelled, is_taken, tunnelled}
use Rattle.capture_compare.specs.declared.carried.tunnels.Tunnels.{Tunnels}

-- the checksum of a datagram with these data, ports and addresses is taken
abbrev pub IsSumTaken : Tunnels → Addr → Addr → ℕ → ℕ → ℕ → List ℕ → Type 0
IsSumTaken T source destination from to sum d =
    IsTrue (is_taken T (sum_state source destination (udp_header from to sum d ++ d)))

-- a datagram to VXLAN's port with a VXLAN header (RFC 7348, 5), in whole texts, whose checksum is taken, carries its VNI and inner
-- text between its addresses: whatever its addresses of Ethernet, its tags, the other fields of IP and its source port are
abbrev pub VxlanIsCarried : Type 0
VxlanIsCarried =
    (T : Tunnels) (b : List ℕ) (source destination : Addr) (port sum : ℕ) (d : List ℕ) (vni : ℕ) (inner : List ℕ)
    → Datagram b source destination port T.vxlan_port sum d → IsSumTaken T source destination port T.vxlan_port sum d
    → IsVxlan d vni inner
    → tunnelled T b ≡ Some (record { kind = Vxlan; source = source; destination = destination; vni = vni; options = []; inner = inner })

-- the same of Geneve (RFC 8926, 3.3 and 3.4), at another port, with its options, of which those that are critical are known
abbrev pub GeneveIsCarried : Type 0
GeneveIsCarried =
    (T : Tunnels) (b : List ℕ) (source destination : Addr) (port sum : ℕ) (d : List ℕ) (vni : ℕ) (options : List TunnelOption)
    (inner : List ℕ)
    → T.geneve_port ≢ T.vxlan_port
    → Datagram b source destination port T.geneve_port sum d → IsSumTaken T source destination port T.geneve_port sum d
    → (g : IsGeneve d vni options inner) → IsTrue (allowed T.known options)
    → tunnelled T b ≡ Some (record {
      kind = Geneve;
      source = source;
      destination = destination;
      vni = vni;
      options = g.option_texts;
      inner = inner;
    })

-- two tunnels carry the same between the same addresses
pub record AreSame (s t : Tunnelled) : Type 0 where
  pub kind_is : s.kind ≡ t.kind
  pub source_is : address s.source ≡ address t.source
  pub destination_is : address s.destination ≡ address t.destination
  pub vni_is : octets 3 s.vni ≡ octets 3 t.vni
  pub options_are : s.options ≡ t.options
  pub inner_is : s.inner ≡ t.inner

-- they do where their keys are the same
abbrev pub KeyTells : Type 0
KeyTells = (s t : Tunnelled) → carried_text s ≡ carried_text t → AreSame s t

-- and no packet of a tunnel has the key of what is none
abbrev pub KeyTellsApart : Type 0
KeyTellsApart = (t : Tunnelled) (b : List ℕ) → carried_text t ≡ 0 ∷ b → ⊥
