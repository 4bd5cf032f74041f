-- An endpoint's reasons, layer by layer.
use Rattle.std.proofs.Common.{◌≡◌, ℕ, Bool, List, [], ◌∷◌, ◌++◌, Option, Some, None, refl, ap}
use Rattle.std.specs.Prelude.{is_none}
use Rattle.wire.specs.First.{first}
use Rattle.wire.specs.declared.ether.reason.Reason.{Reason}
use Rattle.wire.specs.declared.ether.reason.Reason.TheVariants.{Runt, NotIp, BadIpSum, Fragment, BadUdp, NotTunnel, ZeroSum, CriticalOption}
use Rattle.wire.specs.declared.ip_udp.addr.Tunnel.{Tunnel}
use Rattle.wire.specs.declared.ip_udp.addr.Tunnel.TheVariants.{Vxlan, Geneve}
use Rattle.wire.specs.Udp.{data_of}
use Rattle.wire.specs.Datagram.{behind_tags}
use Rattle.overlay.specs.Overlay.{Overlay}
use Rattle.decapsulate.specs.Arrival.{packet_in, kind_to, frame_reasons, data_reasons}
use Rattle.packet_layers.specs.Dissection.{rows, refusal}
use Rattle.decapsulate.specs.Arrival.{typed_reasons}
use Rattle.packet_layers.specs.Code.{udp_reasons, sum_reasons}

-- the table of a tunnel header has none of the reasons of the layers before it, and no other reasons than those of its own layer
record OfTunnel (table : List (Reason × Bool)) : Type 0 where
  no_runt : first (rows Runt Runt table) ≡ None
  no_ip : first (rows NotIp BadIpSum table) ≡ None
  no_udp : first (rows Fragment BadUdp table) ≡ None
  no_port : first (rows NotTunnel NotTunnel table) ≡ None
  all : rows ZeroSum CriticalOption table ≡ table

of_tunnel : (known : List (ℕ × ℕ)) (k : Option Tunnel) (d : List ℕ) → OfTunnel (data_reasons known k d)
of_tunnel known None d = record { no_runt = refl; no_ip = refl; no_udp = refl; no_port = refl; all = refl }
of_tunnel known (Some Vxlan) d = record { no_runt = refl; no_ip = refl; no_udp = refl; no_port = refl; all = refl }
of_tunnel known (Some Geneve) d = record { no_runt = refl; no_ip = refl; no_udp = refl; no_port = refl; all = refl }

abbrev pub data_rows : Overlay → List ℕ → List (Reason × Bool)
data_rows S b = data_reasons S.underlay.known (kind_to S.underlay (packet_in b)) (data_of (packet_in b).payload)

of_packet : (S : Overlay) (b : List ℕ) → OfTunnel (data_reasons S.underlay.known (kind_to S.underlay (packet_in b)) (data_of (packet_in b).payload))
of_packet S b = of_tunnel S.underlay.known (kind_to S.underlay (packet_in b)) (data_of (packet_in b).payload)

-- ---- what the reasons of each layer are

pub refusal-runt : (S : Overlay) (b : List ℕ) → refusal S Runt Runt b ≡ first (rows Runt Runt (frame_reasons b))
unfolding refusal
refusal-runt S b = rw (of_packet S b).no_runt refl

pub refusal-ip : (S : Overlay) (b : List ℕ) → refusal S NotIp BadIpSum b ≡ first (typed_reasons (behind_tags b))
unfolding refusal
refusal-ip S b = rw (of_packet S b).no_ip refl

pub refusal-udp : (S : Overlay) (b : List ℕ) → refusal S Fragment BadUdp b ≡ first (udp_reasons (packet_in b))
unfolding refusal
refusal-udp S b = rw (of_packet S b).no_udp refl

pub refusal-port : (S : Overlay) (b : List ℕ) → refusal S NotTunnel NotTunnel b ≡ first ((NotTunnel, is_none (kind_to S.underlay (packet_in b))) ∷ [])
unfolding refusal
refusal-port S b = rw (of_packet S b).no_port refl

pub refusal-tunnel : (S : Overlay) (b : List ℕ) → refusal S ZeroSum CriticalOption b ≡ first (sum_reasons S.underlay (packet_in b) ++ data_rows S b)
unfolding refusal
refusal-tunnel S b =
    ap (λ (t : List (Reason × Bool)). first (sum_reasons S.underlay (packet_in b) ++ t))
    (of_packet S b).all
