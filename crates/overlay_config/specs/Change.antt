-- What a changes text means. It states no standard.
use Rattle.std.specs.Prelude.{ℕ, ◌+◌, ◌-◌, nat_lt, true, List, [], ◌∷◌, length, slice_get, Option, Some, None, Ok, Err, codes}
use Rattle.std.specs.Option.{option_map_or}
use Rattle.toml.specs.Data.{Data, Members}
use Rattle.wire.specs.declared.ip_udp.addr.Addr.{Addr}
use Rattle.wire.specs.declared.ip_udp.addr.Tunnel.{Tunnel}
use Rattle.wire.specs.declared.ip_udp.addr.Tunnel.TheVariants.{Vxlan, Geneve}
use Rattle.overlay.specs.declared.underlay.tunnels.SegmentTunnel.{SegmentTunnel}
use Rattle.overlay.specs.declared.ports.member.Egress.{Egress}
use Rattle.overlay.specs.declared.ports.member.Egress.TheVariants.{Tagged, Untagged}
use Rattle.config_text.specs.declared.fault.SettingsFault.TheVariants.{Missing, BadValue, NotRising}
use Rattle.config_text.specs.Fault.{Meaning, ◌>>=◌}
use Rattle.config_text.specs.Column.{range, truth, one_of, any_mac, any_addr}
use Rattle.config_text.specs.Table.{Place, top, path, only, required, optional, defaulted, absent, limited_items, each, numbered, refuse_if}
use Rattle.overlay.specs.declared.settings.change.Target.{Target}
use Rattle.overlay.specs.declared.settings.change.Target.TheVariants.{Local, Remote}
use Rattle.overlay.specs.declared.settings.change.Change.{Change}
use Rattle.overlay.specs.declared.settings.change.Change.TheVariants as changes
use Rattle.overlay.specs.declared.settings.change.NewSegment.{NewSegment}
use Rattle.overlay.specs.declared.settings.change.TimedChange.{TimedChange}
use Rattle.overlay_config.specs.declared.kind.Kind.{Kind}
use Rattle.overlay_config.specs.declared.kind.Kind.TheVariants as kinds
use Rattle.overlay_config.specs.CommonRules.{common_of}
use Rattle.overlay_config.specs.Document.{document}
use Rattle.overlay_config.specs.Tunnel.{tunnel_of, tunnel_words, vni_number, group_number}
use Rattle.overlay.specs.Rules.{IsWithin}

-- the words of the kinds of changes
abbrev pub kind_words : List (List ℕ × Kind)
kind_words =
    (codes "add_flood", kinds.AddFlood) ∷ (codes "remove_flood", kinds.RemoveFlood)
    ∷ (codes "fix", kinds.Fix) ∷ (codes "unfix", kinds.Unfix) ∷ (codes "set_ageing", kinds.SetAgeing)
    ∷ (codes "set_learning", kinds.SetLearning) ∷ (codes "set_member", kinds.SetMember)
    ∷ (codes "port_up", kinds.PortUp) ∷ (codes "port_down", kinds.PortDown) ∷ (codes "flush", kinds.Flush)
    ∷ (codes "add_segment", kinds.AddSegment) ∷ (codes "remove_segment", kinds.RemoveSegment)
    ∷ (codes "set_limit", kinds.SetLimit) ∷ []

-- the words of how frames leave at a port
abbrev pub egress_words : List (List ℕ × Option Egress)
egress_words = (codes "tagged", Some Tagged) ∷ (codes "untagged", Some Untagged) ∷ (codes "none", None) ∷ []

-- every change has a kind and a moment
abbrev pub keys_with : List (List ℕ) → List (List ℕ)
keys_with keys = codes "kind" ∷ codes "at" ∷ keys

-- the keys of each kind
abbrev pub keys_of : Kind → List (List ℕ)
keys_of kinds.AddFlood = keys_with (codes "vid" ∷ codes "addr" ∷ codes "tunnel" ∷ [])
keys_of kinds.RemoveFlood = keys_with (codes "vid" ∷ codes "addr" ∷ codes "tunnel" ∷ [])
keys_of kinds.Fix = keys_with (codes "vid" ∷ codes "mac" ∷ codes "port" ∷ codes "remote" ∷ codes "tunnel" ∷ [])
keys_of kinds.Unfix = keys_with (codes "vid" ∷ codes "mac" ∷ [])
keys_of kinds.SetAgeing = keys_with (codes "vid" ∷ codes "seconds" ∷ [])
keys_of kinds.SetLearning = keys_with (codes "vid" ∷ codes "on" ∷ [])
keys_of kinds.SetMember = keys_with (codes "vid" ∷ codes "port" ∷ codes "egress" ∷ [])
keys_of kinds.PortUp = keys_with (codes "port" ∷ [])
keys_of kinds.PortDown = keys_with (codes "port" ∷ [])
keys_of kinds.Flush = keys_with (codes "vid" ∷ [])
keys_of kinds.AddSegment =
    keys_with (codes "vid" ∷ codes "vni" ∷ codes "tunnel" ∷ codes "group" ∷ codes "vni2" ∷ codes "group2"
    ∷ codes "limit" ∷ codes "ageing" ∷ codes "learn" ∷ codes "peers" ∷ codes "tags" ∷ [])
keys_of kinds.RemoveSegment = keys_with (codes "vid" ∷ [])
keys_of kinds.SetLimit = keys_with (codes "vid" ∷ codes "limit" ∷ [])

-- the key `vid`
abbrev pub vid_at : Place → Meaning ℕ
vid_at at = required at (codes "vid") (range 1 4094)

-- the key `port`
abbrev pub port_at : Place → Meaning ℕ
port_at at = required at (codes "port") (range 0 255)

-- the key `addr`
abbrev pub addr_at : Place → Meaning Addr
addr_at at = required at (codes "addr") any_addr

-- the key `mac`
abbrev pub mac_at : Place → Meaning (List ℕ)
mac_at at = required at (codes "mac") any_mac

-- the kind of tunnel that is meant, where it is told
abbrev pub tunnel_at : Place → Meaning (Option Tunnel)
tunnel_at at = optional at (codes "tunnel") (one_of tunnel_words)

-- one of a port and a remote; a tunnel goes with a remote alone
abbrev pub target_in : Place → Option ℕ → Option Addr → Meaning Target
target_in at (Some port) None = absent at (codes "tunnel") >>= λ none. Ok (Local port)
target_in at None (Some remote) = tunnel_at at >>= λ tunnel. Ok (Remote remote tunnel)
target_in at None None = Err (Missing (path at (codes "port")))
target_in at (Some port) (Some remote) = Err (BadValue (path at (codes "remote")))

-- where an address is fixed: a port or a remote
unfoldable pub target_of : Place → Meaning Target
target_of at = do
  port ← optional at (codes "port") (range 0 255)
  remote ← optional at (codes "remote") any_addr
  target_in at port remote

-- an address of a flood list, in its VLAN
unfoldable pub remote_of : Place → Meaning (ℕ × Addr × Option Tunnel)
remote_of at = do
  vid ← vid_at at
  addr ← addr_at at
  tunnel ← tunnel_at at
  Ok (vid, addr, tunnel)

-- seconds, or a number of entries, whether or not it is in range: that shows when the change is made
abbrev pub any_number : Data → Option ℕ
any_number = range 0 4294967295

-- the kind of tunnel that this one isn't
abbrev pub other_kind : Tunnel → Tunnel
other_kind Vxlan = Geneve
other_kind Geneve = Vxlan

-- the second tunnel, of the other kind, where a VNI of it is told; a horizon group goes with it alone
abbrev pub second_in : Place → Tunnel → Option ℕ → Meaning (List SegmentTunnel)
second_in at kind None = absent at (codes "group2") >>= λ none. Ok []
second_in at kind (Some vni) =
    defaulted at (codes "group2") group_number 0 >>= λ group. Ok (record { kind = other_kind kind; vni = vni; group = group } ∷ [])

-- the tunnels of a segment that comes, of which there are one or two
unfoldable pub new_tunnels_of : Place → Meaning (List SegmentTunnel)
new_tunnels_of at = do
  tunnel ← tunnel_of at
  group ← defaulted at (codes "group") group_number 0
  vni ← optional at (codes "vni2") vni_number
  second ← second_in at tunnel.kind vni
  Ok (record tunnel { group = group } ∷ second)

-- a segment that comes
unfoldable pub new_segment_of : Place → Meaning NewSegment
new_segment_of at = do
  vid ← vid_at at
  tunnels ← new_tunnels_of at
  common ← common_of true 256 any_number any_number at
  Ok (record {
    vid = vid;
    tunnels = tunnels;
    limit = common.limit;
    ageing = common.ageing;
    learning = common.learning;
    peers = common.peers;
    tags = common.tags;
  })

-- the keys of each kind behind `at`, in order
unfoldable pub change_in : Kind → Place → Meaning Change
change_in kinds.AddFlood at = remote_of at >>= λ r. Ok (changes.AddFlood r.0 r.1 r.2)
change_in kinds.RemoveFlood at = remote_of at >>= λ r. Ok (changes.RemoveFlood r.0 r.1 r.2)
change_in kinds.Fix at = do
  vid ← vid_at at
  mac ← mac_at at
  target ← target_of at
  Ok (changes.Fix vid mac target)
change_in kinds.Unfix at = do
  vid ← vid_at at
  mac ← mac_at at
  Ok (changes.Unfix vid mac)
change_in kinds.SetAgeing at = do
  vid ← vid_at at
  seconds ← required at (codes "seconds") any_number
  Ok (changes.SetAgeing vid seconds)
change_in kinds.SetLearning at = do
  vid ← vid_at at
  on ← required at (codes "on") truth
  Ok (changes.SetLearning vid on)
change_in kinds.SetMember at = do
  vid ← vid_at at
  port ← port_at at
  egress ← required at (codes "egress") (one_of egress_words)
  Ok (changes.SetMember vid port egress)
change_in kinds.PortUp at = port_at at >>= λ port. Ok (changes.PortUp port)
change_in kinds.PortDown at = port_at at >>= λ port. Ok (changes.PortDown port)
change_in kinds.Flush at = vid_at at >>= λ vid. Ok (changes.Flush vid)
change_in kinds.AddSegment at = new_segment_of at >>= λ rule. Ok (changes.AddSegment rule)
change_in kinds.RemoveSegment at = vid_at at >>= λ vid. Ok (changes.RemoveSegment vid)
change_in kinds.SetLimit at = do
  vid ← vid_at at
  limit ← required at (codes "limit") any_number
  Ok (changes.SetLimit vid limit)

-- the moment of the last change, or 0
abbrev pub moment_before : List TimedChange → ℕ
moment_before earlier = option_map_or (λ c. c.at) (slice_get earlier (length earlier - 1)) 0

-- beside the changes before this one
unfoldable pub change_of : List TimedChange → Place → Meaning TimedChange
change_of earlier at = do
  kind ← required at (codes "kind") (one_of kind_words)
  known ← only at (keys_of kind)
  moment ← required at (codes "at") (range 0 4294967295999999999)
  change ← change_in kind at
  rising ← refuse_if (nat_lt moment (moment_before earlier)) (NotRising (numbered (codes "change") (length earlier + 1)))
  Ok (record { at = moment; change = change })

-- its moment is not below that of the change before it, nor above the latest that a classic capture has
abbrev pub IsRising : List TimedChange → TimedChange → Type 0
IsRising earlier c = IsWithin (moment_before earlier) 4294967295999999999 c.at

-- how many changes there may be: more in version 2, the only one that a text can tell
abbrev pub most_changes : Option ℕ → ℕ
most_changes None = 10000
most_changes (Some version) = 100000

-- what the table of a text of changes means
unfoldable pub changes_of : Members → Meaning (List TimedChange)
changes_of members = do
  known ← only (top members) (codes "version" ∷ codes "change" ∷ [])
  version ← optional (top members) (codes "version") (range 2 2)
  tables ← limited_items (top members) (codes "change") (most_changes version)
  each change_of (codes "change") [] tables

-- the changes that a text means, or its first fault
abbrev pub changes_in : List ℕ → Meaning (List TimedChange)
changes_in text = document text >>= changes_of
