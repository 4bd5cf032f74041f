-- The tunnels of a segment and its flood list: in version 1 the keys `vni`, `tunnel` and `flood` of `segment.k`, in version 2 the tables
-- of `segment.k.tunnel`. It states no standard.
use Rattle.std.specs.Prelude.{ℕ, ◌-◌, List, [], ◌∷◌, length, map, slice_get, Option, Ok, codes}
use Rattle.std.specs.List.{list_any}
use Rattle.std.specs.Option.{option_map_or}
use Rattle.toml.specs.Data.{Data}
use Rattle.wire.specs.Addr.{same_kind}
use Rattle.wire.specs.declared.ip_udp.addr.Tunnel.{Tunnel}
use Rattle.wire.specs.declared.ip_udp.addr.Tunnel.TheVariants.{Vxlan, Geneve}
use Rattle.overlay.specs.declared.flood.own.Own.{Own}
use Rattle.overlay.specs.Flood.{Entries}
use Rattle.overlay.specs.declared.underlay.tunnels.SegmentTunnel.{SegmentTunnel}
use Rattle.config_text.specs.declared.fault.SettingsFault.TheVariants.{BadValue}
use Rattle.config_text.specs.Fault.{Meaning, ◌>>=◌}
use Rattle.config_text.specs.Column.{range, one_of}
use Rattle.config_text.specs.Table.{Place, path, only, required, defaulted, listed, required_items, row_place, each, refuse_if}
use Rattle.overlay_config.specs.declared.tunnel.TunnelTable.{TunnelTable}
use Rattle.overlay_config.specs.Flood.{put_remote}

-- the words of the kinds of tunnels
abbrev pub tunnel_words : List (List ℕ × Tunnel)
tunnel_words = (codes "vxlan", Vxlan) ∷ (codes "geneve", Geneve) ∷ []

-- a VNI has 24 bits
abbrev pub vni_number : Data → Option ℕ
vni_number d = range 0 16777215 d

-- a horizon group
abbrev pub group_number : Data → Option ℕ
group_number d = range 0 255 d

-- the tunnels in order, and the flood list
abbrev pub TunnelRules : Type 0
TunnelRules = List SegmentTunnel × Entries

-- ---- version 1

-- the one tunnel, which is of horizon group 0
unfoldable pub tunnel_of : Place → Meaning SegmentTunnel
tunnel_of at = do
  vni ← required at (codes "vni") vni_number
  kind ← required at (codes "tunnel") (one_of tunnel_words)
  Ok (record { kind = kind; vni = vni; group = 0 })

-- the flood list, beside the endpoint's own addresses, the most remotes and the kind of the tunnel
abbrev pub flood_of : Own → ℕ → Tunnel → Place → Meaning Entries
flood_of own most kind at = listed at (codes "flood") most (put_remote own most kind) []

-- ---- version 2

-- the keys of a tunnel
abbrev pub tunnel_keys : List (List ℕ)
tunnel_keys = codes "kind" ∷ codes "vni" ∷ codes "group" ∷ codes "flood" ∷ []

-- the flood list that these tables tell
abbrev pub flood_behind : List TunnelTable → Entries
flood_behind earlier = option_map_or (λ t. t.flood) (slice_get earlier (length earlier - 1)) []

-- a tunnel of a kind that no table before this one has, and the flood list up to it, which has so many remotes at most
unfoldable pub tunnel_table_of : Own → ℕ → List TunnelTable → Place → Meaning TunnelTable
tunnel_table_of own most earlier at = do
  known ← only at tunnel_keys
  kind ← required at (codes "kind") (one_of tunnel_words)
  other ← refuse_if (list_any (λ t. same_kind t.tunnel.kind kind) earlier) (BadValue (path at (codes "kind")))
  vni ← required at (codes "vni") vni_number
  group ← defaulted at (codes "group") group_number 0
  flood ← listed at (codes "flood") (most - length (flood_behind earlier)) (put_remote own most kind) (flood_behind earlier)
  Ok (record { tunnel = record { kind = kind; vni = vni; group = group }; flood = flood })

-- the table of a number in a list of this name
abbrev pub tunnel_item_of : Own → ℕ → List TunnelTable → List ℕ → ℕ → Data → Meaning TunnelTable
tunnel_item_of own most earlier name k d = row_place name k d >>= tunnel_table_of own most earlier

-- the one or two tunnels in order, and the flood list, the first tunnel's remotes before the second's
unfoldable pub tunnels_of : Own → ℕ → Place → Meaning TunnelRules
tunnels_of own most at = do
  items ← required_items at (codes "tunnel") 2
  tables ← each (tunnel_table_of own most) (path at (codes "tunnel")) [] items
  Ok (map (λ t. t.tunnel) tables, flood_behind tables)
