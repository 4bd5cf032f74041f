-- What an endpoint knows when it is opened.
use Rattle.std.proofs.Common.{refl, sym, subst, ℕ, ◌≤◌, arith, List, [], ◌∷◌, ◌++◌, length, map}
use Rattle.std.specs.List.{AllByRecursion}
use Rattle.std.specs.Ordering.{nat_cmp}
use Rattle.std.specs.FinMap.{from_entries, get-empty}
use Rattle.wire.specs.Addr.{IsAddr}
use Rattle.overlay.specs.Flood.{Entries}
use Rattle.overlay.specs.declared.flood.own.Own.{Own}
use Rattle.overlay.specs.declared.flood.remote.Remote.{Remote as Endpoint}
use Rattle.overlay.specs.Overlay.{flood_in, segment_of}
use Rattle.overlay.specs.declared.underlay.segment.Segment.{Segment}
use Rattle.overlay.specs.declared.underlay.segment.TunnelRule.{TunnelRule}
use Rattle.overlay.specs.declared.underlay.tunnels.SegmentTunnel.{SegmentTunnel}
use Rattle.overlay.specs.Rules.{EachBehind, IsRemote, IsSegment, MeetsRules}
use Rattle.overlay.specs.Settings.{Settings as Rules, tunnel_rule}
use Rattle.overlay.specs.declared.settings.segment.SegmentRule.{SegmentRule}
use Rattle.overlay.specs.UnderlaySettings.{own}
use Rattle.endpoint_core.specs.Opened.{settings_told}
use Rattle.endpoint_core.specs.Step.{opened}
use Rattle.part_files.proofs.Knowing.{IsFloodOf, Knows, no-flood, put-in}
use Rattle.part_files.proofs.Remotes.{IsFar, IsFlood}
use Rattle.part_files.proofs.Stations.{stand-empty}

addrs-told : (o : Own) (most : ℕ) (tunnels : List SegmentTunnel) (earlier flood : Entries) → EachBehind (IsRemote o most tunnels) earlier flood → AllByRecursion (λ (r : Endpoint). IsAddr r.addr) flood
addrs-told o most tunnels earlier [] each = tt
addrs-told o most tunnels earlier (r ∷ flood) each = let first = each.0 in (first.is_addr, addrs-told o most tunnels (earlier ++ r ∷ []) flood each.1)

floods-told : (o : Own) (most n : ℕ) (earlier rules : List SegmentRule) → most ≤ 512 → EachBehind (IsSegment o most n) earlier rules → (w : ℕ)
    → IsFlood (flood_in (from_entries {R = nat_cmp} (map (λ (rule : TunnelRule). (rule.vid, segment_of rule)) (map tunnel_rule rules))) w)
floods-told o most n earlier [] fits each w = subst IsFloodOf (sym (get-empty {X = Segment} nat_cmp w)) no-flood
floods-told o most n earlier (s ∷ rules) fits each w =
    let first = each.0 in
    put-in (from_entries {R = nat_cmp} (map (λ (rule : TunnelRule). (rule.vid, segment_of rule)) (map tunnel_rule rules))) s.vid (segment_of (tunnel_rule s))
    (omega (arith, first.flood_count, fits), addrs-told o most s.tunnels [] s.flood first.flood) (floods-told o most n (earlier ++ s ∷ []) rules fits each.1) w

pub knows-opened : (s : Rules) → MeetsRules s → Knows (length s.ports) s.underlay (opened (settings_told s)).bridges
knows-opened s rules = record {
  settings = record { ports = refl; underlay = refl; flood = floods-told (own s.underlay) s.underlay.limits.flood (length s.ports) [] s.segments rules.underlay.flood_limit.1 rules.segments };
  tables = λ vid. stand-empty IsFar;
}
