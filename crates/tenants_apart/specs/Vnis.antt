-- Whose a VNI is, where no two segments have it. It states no standard.
use Rattle.std.specs.Prelude.{◌≡◌, ℕ, true}
use Rattle.wire.specs.declared.ip_udp.addr.Tunnel.{Tunnel}
use Rattle.overlay.specs.Index.{has_at}
use Rattle.overlay.specs.Overlay.{Overlay}

-- no two segments have tunnels of one kind with one VNI
abbrev pub AreVnisApart : Overlay → Type 0
AreVnisApart S = (v w : ℕ) (kind : Tunnel) (vni : ℕ) → has_at kind S.segments vni v ≡ true → has_at kind S.segments vni w ≡ true → w ≡ v
