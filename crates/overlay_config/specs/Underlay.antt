-- The keys of `underlay` and of `underlay.hop.k`. It states no standard.
use Rattle.std.specs.Prelude.{ℕ, List, [], ◌∷◌, ◌++◌, length, Bool, true, false, ◌==◌, ◌&&◌, nat_lt}
use Rattle.std.specs.Prelude.{if◌then◌else◌, Option, Some, None, is_none, option_map, option_and_then, Ok, codes}
use Rattle.std.specs.List.{list_any}
use Rattle.std.specs.FinMap.{empty, get, insert}
use Rattle.toml.specs.Data.{Data, Items, no_items, item, as_array}
use Rattle.wire.specs.declared.ip_udp.addr.Addr.{Addr}
use Rattle.wire.specs.Addr.{address, same_addr}
use Rattle.wire.specs.GeneveOptions.{holds}
use Rattle.overlay.specs.declared.underlay.limits.Limits.{Limits}
use Rattle.overlay.specs.declared.underlay.settings.Underlay.{Underlay}
use Rattle.config_text.specs.declared.fault.SettingsFault.TheVariants.{Missing, BadValue}
use Rattle.config_text.specs.Fault.{Meaning, ◌>>=◌}
use Rattle.config_text.specs.Column.{range, truth, individual_mac, endpoint_addr, own_ip4, own_ip6}
use Rattle.overlay.specs.Settings.{Exceptions}
use Rattle.overlay_config.specs.declared.version.Version.TheVariants.{One, Two, Three}
use Rattle.overlay_config.specs.Version.{Version}
use Rattle.config_text.specs.Table.{Place, path, only, required, defaulted, optional, listed, limited_items, each, refuse_if}

-- the keys of the underlay that version 3 adds
abbrev pub keys_added : Version → List (List ℕ)
keys_added One = []
keys_added Two = []
keys_added Three = codes "partial" ∷ []

-- all keys of the underlay
abbrev pub underlay_keys : Version → List (List ℕ)
underlay_keys version =
    codes "mac" ∷ codes "next_hop" ∷ codes "ip4" ∷ codes "ip6" ∷ codes "mtu" ∷ codes "ttl"
    ∷ codes "vxlan_port" ∷ codes "geneve_port" ∷ codes "sum4" ∷ codes "sum6" ∷ codes "zero6"
    ∷ keys_added version ++ codes "known" ∷ codes "hop" ∷ []

-- whether checksums left to the card are taken, which versions before the third can't ask for
abbrev pub partial_of : Version → Place → Meaning Bool
partial_of One at = Ok false
partial_of Two at = Ok false
partial_of Three at = defaulted at (codes "partial") truth false

-- the endpoint's own addresses, of which there is one at least
unfoldable pub own_addrs_of : Place → Meaning (Option (List ℕ) × Option (List ℕ))
own_addrs_of at = do
  ip4 ← optional at (codes "ip4") own_ip4
  ip6 ← optional at (codes "ip6") own_ip6
  family ← refuse_if (is_none ip4 && is_none ip6) (Missing (path at (codes "ip4")))
  Ok (ip4, ip6)

-- the UDP ports of VXLAN and of Geneve, which differ
unfoldable pub tunnel_ports_of : Place → Meaning (ℕ × ℕ)
tunnel_ports_of at = do
  vxlan_port ← defaulted at (codes "vxlan_port") (range 1 65535) 4789
  geneve_port ← defaulted at (codes "geneve_port") (range 1 65535) 6081
  apart ← refuse_if (geneve_port == vxlan_port) (BadValue (path at (codes "geneve_port")))
  Ok (vxlan_port, geneve_port)

-- a pair of two numbers, an option's class and type
abbrev pub pair_in : Items → Option (ℕ × ℕ)
pair_in (item c (item k no_items)) = option_and_then (λ class. option_map (λ kind. (class, kind)) (range 0 255 k)) (range 0 65535 c)
pair_in _ = None

-- an option that is known: its class and type
abbrev pub known_option : Data → Option (ℕ × ℕ)
known_option d = option_and_then pair_in (as_array d)

-- options with one more, which isn't among them
abbrev pub with_known : List (ℕ × ℕ) → ℕ × ℕ → Option (List (ℕ × ℕ))
with_known options o = if holds options o.0 o.1 then None else (if nat_lt (length options) 16 then Some (options ++ o ∷ []) else None)

-- a list with the option that a value tells
abbrev pub put_known : List (ℕ × ℕ) → Data → Option (List (ℕ × ℕ))
put_known options d = option_and_then (with_known options) (known_option d)

-- the keys of an exception from the next hop
abbrev pub hop_keys : List (List ℕ)
hop_keys = codes "addr" ∷ codes "mac" ∷ []

-- the next hop to one endpoint, to which no earlier one leads
unfoldable pub hop_of : List (Addr × List ℕ) → Place → Meaning (Addr × List ℕ)
hop_of earlier at = do
  known ← only at hop_keys
  addr ← required at (codes "addr") endpoint_addr
  new ← refuse_if (list_any (λ h. same_addr h.0 addr) earlier) (BadValue (path at (codes "addr")))
  mac ← required at (codes "mac") individual_mac
  Ok (addr, mac)

-- with one more, where there is none for its address
abbrev pub with_exception : Exceptions → Addr × List ℕ → Exceptions
with_exception hops h = if is_none (get hops (address h.0)) then insert hops (address h.0) h.1 else hops

-- the exceptions of a list, one after another
abbrev pub exceptions : Exceptions → List (Addr × List ℕ) → Exceptions
exceptions hops [] = hops
exceptions hops (h ∷ hs) = exceptions (with_exception hops h) hs

-- what the exceptions of the underlay mean, of which there are so many at most
unfoldable pub hops_of : ℕ → Place → Meaning Exceptions
hops_of most at = do
  tables ← limited_items at (codes "hop") most
  hops ← each hop_of (codes "underlay.hop") [] tables
  Ok (exceptions empty hops)

-- what the table of the underlay means, in settings of a version, beside the limits in force
unfoldable pub underlay_of : Version → Limits → Place → Meaning Underlay
underlay_of version limits at = do
  known_keys ← only at (underlay_keys version)
  mac ← required at (codes "mac") individual_mac
  next_hop ← required at (codes "next_hop") individual_mac
  own ← own_addrs_of at
  mtu ← defaulted at (codes "mtu") (range 1280 65535) 1550
  ttl ← defaulted at (codes "ttl") (range 1 255) 64
  ports ← tunnel_ports_of at
  sum4 ← defaulted at (codes "sum4") truth false
  sum6 ← defaulted at (codes "sum6") truth true
  zero6 ← defaulted at (codes "zero6") truth true
  partial ← partial_of version at
  known ← listed at (codes "known") 16 put_known []
  hops ← hops_of limits.hops at
  Ok (record {
    mac = mac;
    next_hop = next_hop;
    ip4 = own.0;
    ip6 = own.1;
    mtu = mtu;
    ttl = ttl;
    vxlan_port = ports.0;
    geneve_port = ports.1;
    sum4 = sum4;
    sum6 = sum6;
    zero6 = zero6;
    partial = partial;
    known = known;
    hops = hops;
    limits = limits;
  })
