-- A full mesh: each endpoint sends straight to each other, and hands no packet on (the split horizon of RFC 4762, 4.4).
use Rattle.std.specs.Prelude.{◌≡◌, ℕ, ◌≤◌, ◌==◌, IsTrue, not, List, [], ◌∷◌, Some}
use Rattle.std.specs.List.{list_all, count_by}
use Rattle.wire.specs.Addr.{is_group}
use Rattle.overlay.specs.declared.underlay.settings.Underlay.{Underlay}
use Rattle.overlay.specs.declared.underlay.tunnels.SegmentTunnel.{SegmentTunnel}
use Rattle.overlay.specs.UnderlaySettings.{is_own}
use Rattle.overlay.specs.Rules.{MeetsRules}
use Rattle.overlay.specs.Settings.{Settings as Told}
use Rattle.endpoint_core.specs.Settings.{SegmentSettings, segment_at}
use Rattle.mesh_delivery.specs.Mesh.{Mesh, Happening, settings_at, mesh_after}

-- endpoints with settings that keep to the rules, and with the same two tunnel ports. Two may own one address: a packet
-- is delivered to one of them
pub record IsMesh (told : ℕ → Told) : Type 0 where
  pub rules : (n : ℕ) → MeetsRules (told n)
  pub vxlan_port : (n k : ℕ) → (told n).underlay.vxlan_port ≡ (told k).underlay.vxlan_port
  pub geneve_port : (n k : ℕ) → (told n).underlay.geneve_port ≡ (told k).underlay.geneve_port

-- all tunnels of a segment are of one horizon group
abbrev pub AreOneGroup : List SegmentTunnel → Type 0
AreOneGroup tunnels = (group : ℕ) × IsTrue (list_all (λ t. t.group == group) tunnels)

-- a segment that floods to no group, whose packets would have to be delivered to all that listen to it, and that has at
-- most one entry of each endpoint; all remotes are in one horizon group
pub record IsFull (underlays : ℕ → Underlay) (s : SegmentSettings) : Type 0 where
  pub unicast : IsTrue (list_all (λ r. not (is_group r.addr)) s.flood)
  pub once : (n : ℕ) → count_by (λ r. is_own (underlays n) r.addr) s.flood ≤ 1
  pub one_group : AreOneGroup s.tunnels

-- each segment of each endpoint is so
abbrev pub AreFull : Mesh → Type 0
AreFull m = (endpoint vid : ℕ) (s : SegmentSettings) → segment_at (settings_at m endpoint) vid ≡ Some s
    → IsFull (λ n. (settings_at m n).overlay.underlay) s

-- before each of these happenings
abbrev pub Throughout : Mesh → List Happening → Type 0
Throughout m [] = Unit {0}
Throughout m (h ∷ hs) = AreFull m × Throughout (mesh_after m h) hs
