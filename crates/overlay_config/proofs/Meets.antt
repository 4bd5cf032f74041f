-- Settings that are read keep to the rules.
use Rattle.std.proofs.Common.{◌≡◌, ℕ, min, ◌≤◌, ◌+◌, ◌*◌, ◌++◌, ◌∷◌, [], Bool, true, false, cond, ◌&&◌, ◌||◌, not, nat_lt, List, length, map, Option, Some, None, option_map, is_some, is_none, Ok, codes, refl, sym, subst, lit≤, arith}
use Rattle.std.specs.Prelude.{IsTrue, IsFalse, IfSome, ◌==◌}
use Rattle.std.specs.List.{list_any}
use Rattle.std.proofs.lemmas.Bool.{ltb-false, and_parts, false≢true}
use Rattle.std.proofs.lemmas.List.Sums.{sum_by-cons}
use Rattle.toml.specs.Data.{Data, Members, Items, no_items, item, as_array, as_str}
use Rattle.wire.specs.declared.ip_udp.addr.Addr.{Addr}
use Rattle.wire.specs.declared.ip_udp.addr.Addr.TheVariants.{V4, V6}
use Rattle.wire.specs.Address.{is_group as is_group_mac}
use Rattle.wire.specs.Addr.{IsAddr, is_group, is_usable, same_addr}
use Rattle.std.specs.FinMap.{empty, len}
use Rattle.overlay.specs.declared.flood.own.Own.{Own}
use Rattle.wire.specs.GeneveOptions.{holds}
use Rattle.overlay.specs.declared.ports.port.Accept.TheVariants.{All}
use Rattle.overlay.specs.declared.ports.port.PortRule.{PortRule}
use Rattle.overlay.specs.declared.underlay.segment.PeerRule.TheVariants.{Any}
use Rattle.overlay.specs.declared.underlay.limits.Limits.{Limits}
use Rattle.overlay.specs.declared.underlay.settings.Underlay.{Underlay}
use Rattle.overlay.specs.UnderlaySettings.{own}
use Rattle.config_text.specs.Fault.{Meaning}
use Rattle.config_text.specs.declared.fault.SettingsFault.TheVariants.{Missing, BadValue, TwoSegments, OverLimit}
use Rattle.config_text.specs.Address.{mac_of, ip4_of, ip6_of, addr_of}
use Rattle.config_text.specs.Column.{range, truth, text, one_of, gathered, individual_mac, is_individual, is_endpoint, endpoint_addr, own_ip4, own_ip6}
use Rattle.config_text.specs.Table.{Place, top, path, required, only, defaulted, optional, listed, items, limited_items, required_items, subtable, each, numbered, refuse_if}
use Rattle.config_text.proofs.Addresses.{kept_some, then_some, mac_length, ip4_is, ip6_is}
use Rattle.overlay.specs.declared.settings.segment.SegmentRule.{SegmentRule}
use Rattle.overlay_config.specs.declared.common_rules.CommonRules.{CommonRules}
use Rattle.overlay_config.specs.declared.local_rules.LocalRules.{LocalRules}
use Rattle.overlay_config.specs.CommonRules.{common_of, peer_words, tags_of}
use Rattle.overlay_config.specs.LocalRules.{local_of, members_of}
use Rattle.overlay_config.specs.Port.{port_of, port_keys, accept_words}
use Rattle.overlay.specs.Settings.{Exceptions}
use Rattle.overlay_config.specs.Underlay.{exceptions, underlay_of, underlay_keys, partial_of, own_addrs_of, tunnel_ports_of, pair_in, known_option, with_known, put_known, hop_of, hop_keys, hops_of}
use Rattle.overlay.specs.Settings.{is_member}
use Rattle.overlay_config.specs.Members.{with_member, put_member}
use Rattle.overlay_config.specs.declared.version.Version.{Version}
use Rattle.overlay_config.specs.declared.version.Version.TheVariants.{One, Two, Three}
use Rattle.overlay_config.specs.Tunnel.{TunnelRules, tunnel_of, flood_of, tunnels_of}
use Rattle.overlay_config.specs.Segment.{tables_of, rules_of, segment_of, segment_keys, is_taken}
use Rattle.overlay.specs.Settings.{Settings, sum_of_limits}
use Rattle.overlay_config.specs.Settings.{version_of, given_pool_of, pool_for, segments_of, settings_of, settings_in}
use Rattle.overlay_config.specs.Document.{document}
use Rattle.overlay_config.specs.Limits.{addresses_in, usual_limits, limit_keys, limits_in, limits_of}
use Rattle.overlay.specs.Rules.{IsWithin, EachBehind, IsKnown, IsEndpoint, IsIndividual, IsHop, AreHops, IsUnderlay, IsPort, IsMember, IsSegment, HasEntries, MeetsRules}
use Rattle.overlay_config.proofs.Hops.{all_size, none_size, hops_are}
use Rattle.overlay_config.proofs.Readings.{bind_then, ok_is, fits_ok, refuse_ok, range_meets, required_meets, optional_meets, required_range, defaulted_range, limited_items_ok, required_items_ok, Longer, from_none, each_meets, gathered_meets, listed_meets, some_is, unless_ok, when_ok}
use Rattle.overlay_config.proofs.Steps.{steps_of}
use Rattle.overlay_config.proofs.Tunnels.{addr_meets, AreTunnels, tunnel_meets, one_meets, tunnels_meet}

-- ---- ports

port_meets : (earlier : List PortRule) (at : Place) (p : PortRule) → port_of at ≡ Ok p → IsPort earlier p
unfolding port_of
port_meets earlier at p e =
    bind_then (only at port_keys) _ p e (λ known known-is e0.
    bind_then (required at (codes "pvid") (range 1 4094)) _ p e0 (λ pvid pvid-is e1.
    bind_then (defaulted at (codes "accept") (one_of accept_words) All) _ p e1 (λ accept accept-is e2.
    bind_then (defaulted at (codes "up") truth true) _ p e2 (λ up up-is e3.
    subst (IsPort earlier) (ok_is _ p e3) (required_range at (codes "pvid") 1 4094 pvid pvid-is)))))

-- ---- the underlay

-- what a text tells
written : {A : Type 0} (reading : List ℕ → Option A) (d : Data) (x : A) → text reading d ≡ Some x → (t : List ℕ) × (reading t ≡ Some x)
written reading d x e = let a = then_some reading (as_str d) x e in (a.0, a.2)

not_true : (b : Bool) → not b ≡ true → b ≡ false
not_true true h = absurd (false≢true h)
not_true false h = refl

mac_meets : (d : Data) (x : List ℕ) → individual_mac d ≡ Some x → IsIndividual x
mac_meets d x e =
    let k = kept_some is_individual (text mac_of d) x e in
    let a = written mac_of d x k.0 in
    record { six = mac_length a.0 x a.1; unicast = not_true (is_group_mac x) k.1 }

endpoint_is : (a : Addr) → IsAddr a → is_endpoint a ≡ true → IsEndpoint a
endpoint_is a is e = let both = and_parts (is_usable a) (not (is_group a)) e in record { is_addr = is; usable = both.0; unicast = not_true (is_group a) both.1 }

ip4_meets : (d : Data) (x : List ℕ) → own_ip4 d ≡ Some x → IsEndpoint (V4 x)
ip4_meets d x e =
    let k = kept_some (λ ip. is_endpoint (V4 ip)) (text ip4_of d) x e in
    let a = written ip4_of d x k.0 in
    endpoint_is (V4 x) (ip4_is a.0 x a.1) k.1

ip6_meets : (d : Data) (x : List ℕ) → own_ip6 d ≡ Some x → IsEndpoint (V6 x)
ip6_meets d x e =
    let k = kept_some (λ ip. is_endpoint (V6 ip)) (text ip6_of d) x e in
    let a = written ip6_of d x k.0 in
    endpoint_is (V6 x) (ip6_is a.0 x a.1) k.1

endpoint_meets : (d : Data) (x : Addr) → endpoint_addr d ≡ Some x → IsEndpoint x
endpoint_meets d x e = let k = kept_some is_endpoint (text addr_of d) x e in endpoint_is x (addr_meets d x k.0) k.1

one_family : (a b : Option (List ℕ)) → (is_none a && is_none b) ≡ false → IsTrue (is_some a || is_some b)
one_family None None e = absurd cc
one_family None (Some y) e = refl
one_family (Some x) b e = refl

abbrev HasOwn : Option (List ℕ) × Option (List ℕ) → Type 0
HasOwn own = IfSome own.0 (λ ip. IsEndpoint (V4 ip)) × IfSome own.1 (λ ip. IsEndpoint (V6 ip)) × IsTrue (is_some own.0 || is_some own.1)

own_meets : (at : Place) (own : Option (List ℕ) × Option (List ℕ)) → own_addrs_of at ≡ Ok own → HasOwn own
unfolding own_addrs_of
own_meets at own e =
    bind_then (optional at (codes "ip4") own_ip4) _ own e (λ ip4 ip4-is e0.
    bind_then (optional at (codes "ip6") own_ip6) _ own e0 (λ ip6 ip6-is e1.
    bind_then (refuse_if (is_none ip4 && is_none ip6) (Missing (path at (codes "ip4")))) _ own e1 (λ family family-is e2.
    subst HasOwn (ok_is (ip4, ip6) own e2) (
      optional_meets (λ ip. IsEndpoint (V4 ip)) own_ip4 ip4_meets at (codes "ip4") ip4 ip4-is,
      optional_meets (λ ip. IsEndpoint (V6 ip)) own_ip6 ip6_meets at (codes "ip6") ip6 ip6-is,
      one_family ip4 ip6 (refuse_ok _ _ family family-is),
    ))))

abbrev ArePorts : ℕ × ℕ → Type 0
ArePorts ports = IsWithin 1 65535 ports.0 × IsWithin 1 65535 ports.1 × IsFalse (ports.1 == ports.0)

default_vxlan : IsWithin 1 65535 4789
default_vxlan = (lit≤ tt, lit≤ tt)

default_geneve : IsWithin 1 65535 6081
default_geneve = (lit≤ tt, lit≤ tt)

tunnel_ports_meet : (at : Place) (ports : ℕ × ℕ) → tunnel_ports_of at ≡ Ok ports → ArePorts ports
unfolding tunnel_ports_of
tunnel_ports_meet at ports e =
    bind_then (defaulted at (codes "vxlan_port") (range 1 65535) 4789) _ ports e (λ vxlan vxlan-is e0.
    bind_then (defaulted at (codes "geneve_port") (range 1 65535) 6081) _ ports e0 (λ geneve geneve-is e1.
    bind_then (refuse_if (geneve == vxlan) (BadValue (path at (codes "geneve_port")))) _ ports e1 (λ apart apart-is e2.
    subst ArePorts (ok_is (vxlan, geneve) ports e2) (
      defaulted_range at (codes "vxlan_port") 1 65535 4789 vxlan default_vxlan vxlan-is,
      defaulted_range at (codes "geneve_port") 1 65535 6081 geneve default_geneve geneve-is,
      refuse_ok _ _ apart apart-is,
    ))))

-- an endpoint's address, and the MAC address of the next hop to it
abbrev IsRow : List (Addr × List ℕ) → Addr × List ℕ → Type 0
IsRow earlier h = IsHop h

hop_meets : (earlier : List (Addr × List ℕ)) (at : Place) (h : Addr × List ℕ) → hop_of earlier at ≡ Ok h → IsRow earlier h
unfolding hop_of
hop_meets earlier at h e =
    bind_then (only at hop_keys) _ h e (λ known known-is e0.
    bind_then (required at (codes "addr") endpoint_addr) _ h e0 (λ addr addr-is e1.
    bind_then (refuse_if (list_any (λ x. same_addr x.0 addr) earlier) (BadValue (path at (codes "addr")))) _ h e1 (λ new new-is e2.
    bind_then (required at (codes "mac") individual_mac) _ h e2 (λ mac mac-is e3.
    subst (IsRow earlier) (ok_is (addr, mac) h e3) (
      required_meets IsEndpoint endpoint_addr endpoint_meets at (codes "addr") addr addr-is,
      required_meets IsIndividual individual_mac mac_meets at (codes "mac") mac mac-is,
    )))))

hops_meet : (most : ℕ) (at : Place) (hops : Exceptions) → hops_of most at ≡ Ok hops → (len hops ≤ most) × AreHops hops
unfolding hops_of
hops_meet most at hops e =
    bind_then (limited_items at (codes "hop") most) _ hops e (λ tables tables-is e0.
    bind_then (each hop_of (codes "underlay.hop") [] tables) _ hops e0 (λ rows rows-is e1.
    let a = from_none IsRow (length tables) rows (each_meets IsRow hop_of (codes "underlay.hop") hop_meets [] tables rows rows-is) in
    let few = limited_items_ok at (codes "hop") most tables tables-is in
    subst (λ m. (len m ≤ most) × AreHops m) (ok_is (exceptions empty rows) hops e1)
    (omega (arith, few, a.1, all_size empty rows, none_size), hops_are IsRow (λ earlier h is. is) rows a.0)))

abbrev some_pair : ℕ → ℕ → ℕ × ℕ
some_pair class kind = (class, kind)

pair_of : (class : ℕ) (o : Option ℕ) (x : ℕ × ℕ) → option_map (some_pair class) o ≡ Some x → (k : ℕ) × (o ≡ Some k) × (some_pair class k ≡ x)
pair_of class None x e = absurd cc
pair_of class (Some k) x e = (k, refl, some_is (some_pair class k) x e)

abbrev IsOption : ℕ × ℕ → Type 0
IsOption o = IsWithin 0 65535 o.0 × IsWithin 0 255 o.1

pair_in_meets : (ds : Items) (x : ℕ × ℕ) → pair_in ds ≡ Some x → IsOption x
pair_in_meets no_items x e = absurd cc
pair_in_meets (item c no_items) x e = absurd cc
pair_in_meets (item c (item k no_items)) x e =
    let a = then_some (λ class. option_map (λ kind. (class, kind)) (range 0 255 k)) (range 0 65535 c) x e in
    let b = pair_of a.0 (range 0 255 k) x a.2 in
    subst IsOption b.2 (range_meets 0 65535 c a.0 a.1, range_meets 0 255 k b.0 b.1)
pair_in_meets (item c (item k (item m ds))) x e = absurd cc

known_meets : (earlier : List (ℕ × ℕ)) (d : Data) (longer : List (ℕ × ℕ)) → put_known earlier d ≡ Some longer → Longer IsKnown earlier longer
known_meets earlier d longer e =
    let a = then_some (with_known earlier) (known_option d) longer e in
    let b = then_some pair_in (as_array d) a.0 a.1 in
    let o = pair_in_meets b.0 a.0 b.2 in
    let k = unless_ok (holds earlier a.0.0 a.0.1) (cond (nat_lt (length earlier) 16) (Some (earlier ++ a.0 ∷ [])) None) longer a.2 in
    let m = when_ok (nat_lt (length earlier) 16) (earlier ++ a.0 ∷ []) longer k.1 in
    record { last = a.0; is = sym m.1; meets = (o.0, o.1, k.0) }

record AreLimits (l : Limits) : Type 0 where
  ports : IsWithin 1 255 l.ports
  segments : IsWithin 1 4094 l.segments
  flood : IsWithin 1 512 l.flood
  product : l.segments * l.flood ≤ 1048576
  hops : IsWithin 1 4096 l.hops
  entries : IsWithin 1 131072 l.entries
  addresses : IsWithin 1 1048576 l.addresses

usual_are : AreLimits usual_limits
usual_are = record {
  ports = (lit≤ tt, lit≤ tt);
  segments = (lit≤ tt, lit≤ tt);
  flood = (lit≤ tt, lit≤ tt);
  product = lit≤ tt;
  hops = (lit≤ tt, lit≤ tt);
  entries = (lit≤ tt, lit≤ tt);
  addresses = (lit≤ tt, lit≤ tt);
}

limits_in_meet : (at : Place) (l : Limits) → limits_in at ≡ Ok l → AreLimits l
unfolding limits_in
limits_in_meet at l e =
    bind_then (only at limit_keys) _ l e (λ known known-is e0.
    bind_then (defaulted at (codes "ports") (range 1 255) 16) _ l e0 (λ ports ports-is e1.
    bind_then (defaulted at (codes "segments") (range 1 4094) 256) _ l e1 (λ segments segments-is e2.
    bind_then (defaulted at (codes "flood") (range 1 512) 16) _ l e2 (λ flood flood-is e3.
    bind_then (defaulted at (codes "hops") (range 1 4096) 64) _ l e3 (λ hops hops-is e4.
    bind_then (defaulted at (codes "entries") (range 1 131072) 8192) _ l e4 (λ entries entries-is e5.
    bind_then (defaulted at (codes "addresses") (range 1 1048576) 65536) _ l e5 (λ addresses addresses-is e6.
    bind_then (refuse_if (nat_lt 1048576 (segments * flood)) (OverLimit (path at (codes "flood")))) _ l e6 (λ few few-is e7.
    subst AreLimits (ok_is _ l e7) (record {
      ports = defaulted_range at (codes "ports") 1 255 16 ports usual_are.ports ports-is;
      hops = defaulted_range at (codes "hops") 1 4096 64 hops usual_are.hops hops-is;
      segments = defaulted_range at (codes "segments") 1 4094 256 segments usual_are.segments segments-is;
      flood = defaulted_range at (codes "flood") 1 512 16 flood usual_are.flood flood-is;
      product = ltb-false 1048576 (segments * flood) (refuse_ok _ _ few few-is);
      entries = defaulted_range at (codes "entries") 1 131072 8192 entries usual_are.entries entries-is;
      addresses = defaulted_range at (codes "addresses") 1 1048576 65536 addresses usual_are.addresses addresses-is;
    })))))))))

limits_meet : (version : Version) (at : Place) (l : Limits) → limits_of version at ≡ Ok l → AreLimits l
limits_meet One at l e = subst AreLimits (ok_is usual_limits l e) usual_are
limits_meet Two at l e = subst AreLimits (ok_is usual_limits l e) usual_are
limits_meet Three at l e = bind_then (subtable at (codes "limits")) limits_in l e (λ table table-is e0. limits_in_meet table l e0)

underlay_meets : (version : Version) (limits : Limits) (at : Place) (u : Underlay) → AreLimits limits → underlay_of version limits at ≡ Ok u → IsUnderlay u × (limits ≡ u.limits)
unfolding underlay_of
underlay_meets version limits at u are e =
    bind_then (only at (underlay_keys version)) _ u e (λ keys keys-is e0.
    bind_then (required at (codes "mac") individual_mac) _ u e0 (λ mac mac-is e1.
    bind_then (required at (codes "next_hop") individual_mac) _ u e1 (λ next next-is e2.
    bind_then (own_addrs_of at) _ u e2 (λ own own-is e3.
    bind_then (defaulted at (codes "mtu") (range 1280 65535) 1550) _ u e3 (λ mtu mtu-is e4.
    bind_then (defaulted at (codes "ttl") (range 1 255) 64) _ u e4 (λ ttl ttl-is e5.
    bind_then (tunnel_ports_of at) _ u e5 (λ ports ports-is e6.
    bind_then (defaulted at (codes "sum4") truth false) _ u e6 (λ sum4 sum4-is e7.
    bind_then (defaulted at (codes "sum6") truth true) _ u e7 (λ sum6 sum6-is e8.
    bind_then (defaulted at (codes "zero6") truth true) _ u e8 (λ zero6 zero6-is e9.
    bind_then (partial_of version at) _ u e9 (λ partial partial-is e10.
    bind_then (listed at (codes "known") 16 put_known []) _ u e10 (λ known known-is e11.
    bind_then (hops_of limits.hops at) _ u e11 (λ hops hops-is e12.
    let o = own_meets at own own-is in
    let p = tunnel_ports_meet at ports ports-is in
    let k = listed_meets IsKnown put_known known_meets at (codes "known") 16 known known-is in
    let h = hops_meet limits.hops at hops hops-is in
    subst (λ (x : Underlay). IsUnderlay x × (limits ≡ x.limits)) (ok_is _ u e12) (
      record {
        mac = required_meets IsIndividual individual_mac mac_meets at (codes "mac") mac mac-is;
        next_hop = required_meets IsIndividual individual_mac mac_meets at (codes "next_hop") next next-is;
        ip4 = o.0;
        ip6 = o.1;
        family = o.2;
        mtu = defaulted_range at (codes "mtu") 1280 65535 1550 mtu (lit≤ tt, lit≤ tt) mtu-is;
        ttl = defaulted_range at (codes "ttl") 1 255 64 ttl (lit≤ tt, lit≤ tt) ttl-is;
        vxlan_port = p.0;
        geneve_port = p.1;
        ports_apart = p.2;
        known_count = k.0;
        known = k.1;
        hop_count = h.0;
        hops = h.1;
        port_limit = are.ports;
        limits = are.segments;
        flood_limit = are.flood;
        flood_product = are.product;
        hop_limit = are.hops;
        entries = are.entries;
        addresses = are.addresses;
      },
      refl,
    ))))))))))))))

-- ---- segments

either_false : (a b : Bool) → (a || b) ≡ false → (a ≡ false) × (b ≡ false)
either_false true b e = absurd cc
either_false false b e = (refl, e)

member_meets : (ports : ℕ) (other earlier : List ℕ) (d : Data) (longer : List ℕ) → put_member ports other earlier d ≡ Some longer → Longer (IsMember ports other) earlier longer
member_meets ports other earlier d longer e =
    let a = then_some (with_member other earlier) (range 1 ports d) longer e in
    let k = unless_ok (is_member earlier a.0 || is_member other a.0) (Some (earlier ++ a.0 ∷ [])) longer a.2 in
    let g = either_false (is_member earlier a.0) (is_member other a.0) k.0 in
    record { last = a.0; is = sym (some_is (earlier ++ a.0 ∷ []) longer k.1); meets = (range_meets 1 ports d a.0 a.1, g.0, g.1) }

members_meet : (at : Place) (key : List ℕ) (ports : ℕ) (other all : List ℕ) → members_of at key ports other ≡ Ok all → EachBehind (IsMember ports other) [] all
unfolding members_of
members_meet at key ports other all e =
    bind_then (items at key) _ all e (λ ds ds-is e0.
    (from_none (IsMember ports other) (length ds) all (gathered_meets (IsMember ports other) (put_member ports other) (member_meets ports other) [] ds all (fits_ok (path at key) (gathered (put_member ports other) [] ds) all e0))).0)

default_limit : (entries : ℕ) → 1 ≤ entries → IsWithin 1 entries (min 256 entries)
default_limit entries some = (omega (arith, some), omega arith)

default_ageing : IsWithin 10 1000000 300
default_ageing = (lit≤ tt, lit≤ tt)

-- the limit and the ageing of a segment of settings
abbrev AreCommon : ℕ → CommonRules → Type 0
AreCommon entries x = IsWithin 1 entries x.limit × IsWithin 10 1000000 x.ageing

-- the rules that say nothing of tunnels
record AreLocal (entries ports : ℕ) (x : LocalRules) : Type 0 where
  common : AreCommon entries x.common
  untagged : EachBehind (IsMember ports []) [] x.untagged
  tagged : EachBehind (IsMember ports x.untagged) [] x.tagged

common_meets : (all : Bool) (entries : ℕ) (some : 1 ≤ entries) (at : Place) (x : CommonRules) → common_of all (min 256 entries) (range 1 entries) (range 10 1000000) at ≡ Ok x → AreCommon entries x
unfolding common_of
common_meets all entries some at x e =
    bind_then (defaulted at (codes "limit") (range 1 entries) (min 256 entries)) _ x e (λ limit limit-is e0.
    bind_then (defaulted at (codes "ageing") (range 10 1000000) 300) _ x e0 (λ ageing ageing-is e1.
    bind_then (defaulted at (codes "learn") truth true) _ x e1 (λ learning learning-is e2.
    bind_then (defaulted at (codes "peers") (one_of peer_words) Any) _ x e2 (λ peers peers-is e3.
    bind_then (tags_of all at) _ x e3 (λ tags tags-is e4.
    subst (AreCommon entries) (ok_is _ x e4) (
      defaulted_range at (codes "limit") 1 entries (min 256 entries) limit (default_limit entries some) limit-is,
      defaulted_range at (codes "ageing") 10 1000000 300 ageing default_ageing ageing-is,
    ))))))

local_meets : (third : Bool) (entries ports : ℕ) (some : 1 ≤ entries) (at : Place) (x : LocalRules) → local_of third entries ports at ≡ Ok x → AreLocal entries ports x
unfolding local_of
local_meets third entries ports some at x e =
    bind_then (common_of third (min 256 entries) (range 1 entries) (range 10 1000000) at) _ x e (λ common common-is e0.
    bind_then (members_of at (codes "untagged") ports []) _ x e0 (λ untagged untagged-is e1.
    bind_then (members_of at (codes "tagged") ports untagged) _ x e1 (λ tagged tagged-is e2.
    subst (AreLocal entries ports) (ok_is _ x e2) (record {
      common = common_meets third entries some at common common-is;
      untagged = members_meet at (codes "untagged") ports [] untagged untagged-is;
      tagged = members_meet at (codes "tagged") ports untagged tagged tagged-is;
    }))))

tables_meet : (third : Bool) (own : Own) (limits : Limits) (ports : ℕ) (some : 1 ≤ limits.entries) (at : Place) (x : TunnelRules × LocalRules) → tables_of third own limits ports at ≡ Ok x → AreTunnels own limits.flood x.0 × AreLocal limits.entries ports x.1
tables_meet third own limits ports some at x e =
    bind_then (tunnels_of own limits.flood at) _ x e (λ tunnels tunnels-is e0.
    bind_then (local_of third limits.entries ports at) _ x e0 (λ local local-is e1.
    subst (λ r. AreTunnels own limits.flood r.0 × AreLocal limits.entries ports r.1) (ok_is _ x e1)
    (tunnels_meet own limits.flood at tunnels tunnels-is, local_meets third limits.entries ports some at local local-is)))

rules_meet : (version : Version) (own : Own) (limits : Limits) (ports : ℕ) (some : 1 ≤ limits.entries) (at : Place) (x : TunnelRules × LocalRules) → rules_of version own limits ports at ≡ Ok x → AreTunnels own limits.flood x.0 × AreLocal limits.entries ports x.1
unfolding rules_of
rules_meet One own limits ports some at x e =
    bind_then (tunnel_of at) _ x e (λ tunnel tunnel-is e0.
    bind_then (local_of false limits.entries ports at) _ x e0 (λ local local-is e1.
    bind_then (flood_of own limits.flood tunnel.kind at) _ x e1 (λ flood flood-is e2.
    subst (λ r. AreTunnels own limits.flood r.0 × AreLocal limits.entries ports r.1) (ok_is _ x e2)
    (one_meets own limits.flood at tunnel flood (tunnel_meets at tunnel tunnel-is) flood-is, local_meets false limits.entries ports some at local local-is))))
rules_meet Two own limits ports some at x e = tables_meet false own limits ports some at x e
rules_meet Three own limits ports some at x e = tables_meet true own limits ports some at x e

segment_meets : (version : Version) (own : Own) (limits : Limits) (ports : ℕ) (some : 1 ≤ limits.entries) (earlier : List SegmentRule) (at : Place) (s : SegmentRule) → segment_of version own limits ports earlier at ≡ Ok s
    → IsSegment own limits.flood ports earlier s × HasEntries limits.entries earlier s
unfolding segment_of
segment_meets version own limits ports some earlier at s e =
    bind_then (only at (segment_keys version)) _ s e (λ known known-is e0.
    bind_then (required at (codes "vid") (range 1 4094)) _ s e0 (λ vid vid-is e1.
    bind_then (rules_of version own limits ports at) _ s e1 (λ rules rules-is e2.
    bind_then (refuse_if (is_taken vid rules.0.0 earlier) (TwoSegments (numbered (codes "segment") (length earlier + 1)))) _ s e2 (λ apart apart-is e3.
    let r = rules_meet version own limits ports some at rules rules-is in
    subst (λ x. IsSegment own limits.flood ports earlier x × HasEntries limits.entries earlier x) (ok_is _ s e3) (
      record {
        vid = required_range at (codes "vid") 1 4094 vid vid-is;
        tunnel_count = r.0.tunnel_count;
        tunnels = r.0.tunnels;
        flood_count = r.0.flood_count;
        flood = r.0.flood;
        limit = r.1.common.0.0;
        ageing = r.1.common.1;
        untagged = r.1.untagged;
        tagged = r.1.tagged;
        apart = refuse_ok _ _ apart apart-is;
      },
      r.1.common.0.1,
    )))))

-- ---- all

-- a number of segments, each by its rules and with its limit within the most, and the sum of their limits within the addresses
abbrev AreSegments : Limits → Own → ℕ → List SegmentRule → Type 0
AreSegments limits own ports segments =
    IsWithin 1 limits.segments (length segments) × EachBehind (IsSegment own limits.flood ports) [] segments × EachBehind (HasEntries limits.entries) [] segments × (sum_of_limits segments ≤ limits.addresses)

segments_meet : (version : Version) (limits : Limits) (some : 1 ≤ limits.entries) (own : Own) (ports : ℕ) (at : Place) (segments : List SegmentRule) → segments_of version limits own ports at ≡ Ok segments → AreSegments limits own ports segments
unfolding segments_of
segments_meet version limits some own ports at segments e =
    bind_then (required_items at (codes "segment") limits.segments) _ segments e (λ tables tables-is e0.
    bind_then (each (segment_of version own limits ports) (codes "segment") [] tables) _ segments e0 (λ all all-is e1.
    bind_then (refuse_if (nat_lt limits.addresses (sum_of_limits all)) (OverLimit (codes "limit"))) _ segments e1 (λ total total-is e2.
    let means = segment_meets version own limits ports some in
    let q = from_none (IsSegment own limits.flood ports) (length tables) all (each_meets (IsSegment own limits.flood ports) (segment_of version own limits ports) (codes "segment") (λ earlier at s is. (means earlier at s is).0) [] tables all all-is) in
    let r = from_none (HasEntries limits.entries) (length tables) all (each_meets (HasEntries limits.entries) (segment_of version own limits ports) (codes "segment") (λ earlier at s is. (means earlier at s is).1) [] tables all all-is) in
    let few = required_items_ok at (codes "segment") limits.segments tables tables-is in
    subst (AreSegments limits own ports) (ok_is all segments e2)
    (subst (IsWithin 1 limits.segments) (sym q.1) few, q.0, r.0, ltb-false limits.addresses (sum_of_limits all) (refuse_ok _ _ total total-is)))))

-- segments of which there is one have limits that sum to 1 at least
some_entries : (own : Own) (most ports : ℕ) (segments : List SegmentRule) → 1 ≤ length segments → EachBehind (IsSegment own most ports) [] segments → 1 ≤ sum_of_limits segments
some_entries addrs most ports [] some are = absurd (omega (arith, some))
some_entries addrs most ports (s ∷ segments) some are =
    let sums : sum_of_limits (s ∷ segments) ≡ s.limit + sum_of_limits segments = sum_by-cons (λ (n : ℕ). n) s.limit (map (λ (r : SegmentRule). r.limit) segments) in
    omega (arith, sums, are.0.limit)

pool_meets : (most : ℕ) (given : Option ℕ) (segments : List SegmentRule) (pool : ℕ) → pool_for given segments ≡ Ok pool → IfSome given (IsWithin 1 most)
    → IsWithin 1 most (sum_of_limits segments) → IsWithin 1 most pool × (sum_of_limits segments ≤ pool)
pool_meets most None segments pool e is sums = subst (λ n. IsWithin 1 most n × (sum_of_limits segments ≤ n)) (ok_is (sum_of_limits segments) pool e) (sums, omega arith)
pool_meets most (Some given) segments pool e is sums =
    bind_then (refuse_if (nat_lt given (sum_of_limits segments)) (OverLimit (codes "pool"))) _ pool e (λ enough enough-is e0.
    subst (λ n. IsWithin 1 most n × (sum_of_limits segments ≤ n)) (ok_is given pool e0) (is, ltb-false given (sum_of_limits segments) (refuse_ok _ _ enough enough-is)))

given_meets : (most : ℕ) (at : Place) (given : Option ℕ) → given_pool_of most at ≡ Ok given → IfSome given (IsWithin 1 most)
given_meets most at given e = optional_meets (IsWithin 1 most) (range 1 most) (range_meets 1 most) at (codes "pool") given e

-- settings that are read keep to the rules
pub settings_meet : (members : Members) (s : Settings) → settings_of members ≡ Ok s → MeetsRules s
settings_meet members s e =
    steps_of members s e (λ version version-is given given-is limits limits-is below below-is underlay underlay-is tables tables-is ports ports-is segments segments-is e0.
    bind_then (pool_for given segments) _ s e0 (λ pool pool-is e1.
    let are = limits_meet version (top members) limits limits-is in
    let u = underlay_meets version limits below underlay are underlay-is in
    let p = from_none IsPort (length tables) ports (each_meets IsPort (λ earlier at. port_of at) (codes "port") port_meets [] tables ports ports-is) in
    let few = required_items_ok (top members) (codes "port") limits.ports tables tables-is in
    let q = segments_meet version limits are.entries.0 (own underlay) (length ports) (top members) segments segments-is in
    let below-most : IfSome given (IsWithin 1 limits.addresses) = subst (λ (m : Meaning Limits). IfSome given (IsWithin 1 (addresses_in m))) limits-is (given_meets _ (top members) given given-is) in
    let l = pool_meets limits.addresses given segments pool pool-is below-most (some_entries (own underlay) limits.flood (length ports) segments q.0.0 q.1, q.3) in
    subst MeetsRules (ok_is _ s e1) (record {
      underlay = u.0;
      port_count = subst (λ (l : Limits). IsWithin 1 l.ports (length ports)) u.1 (subst (IsWithin 1 limits.ports) (sym p.1) few);
      ports = p.0;
      segment_count = subst (λ (l : Limits). IsWithin 1 l.segments (length segments)) u.1 q.0;
      segments = subst (λ (l : Limits). EachBehind (IsSegment (own underlay) l.flood (length ports)) [] segments) u.1 q.1;
      entries = subst (λ (l : Limits). EachBehind (HasEntries l.entries) [] segments) u.1 q.2;
      pool = subst (λ (l : Limits). IsWithin 1 l.addresses pool) u.1 l.0;
      limits = l.1;
    })))

pub texts_meet : (text : List ℕ) (s : Settings) → settings_in text ≡ Ok s → MeetsRules s
texts_meet text s e = bind_then (document text) settings_of s e (λ members members-is e0. settings_meet members s e0)
