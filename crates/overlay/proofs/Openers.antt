-- What settings that keep to the rules give those who open ports, tunnels and tables with them.
use Rattle.std.proofs.Common.{◌≡◌, ℕ, ◌∷◌, [], ◌∙◌, eqb, true, false, nat_le, List, length, map, refl, sym, ap}
use Rattle.std.specs.Prelude.{IsTrue, All, sum}
use Rattle.std.specs.List.{list_any, list_all, sum_by}
use Rattle.std.proofs.lemmas.Bool.{and_from, or_from, or_parts, le-leb, eq-eqb, false≢true}
use Rattle.std.proofs.lemmas.List.Sums.{sum-map}
use Rattle.overlay.specs.declared.flood.own.Own.{Own}
use Rattle.filter_db.specs.declared.tables.TableRule.{TableRule}
use Rattle.filter_db.specs.Segment.{IsRule, AreForDistinctVids}
use Rattle.overlay.specs.Ports.{is_port, are_ports, lists_ports}
use Rattle.overlay.specs.declared.underlay.segment.TunnelRule.{TunnelRule}
use Rattle.overlay.specs.Overlay.{AreApart, clash}
use Rattle.overlay.specs.UnderlaySettings.{own}
use Rattle.overlay.specs.declared.settings.segment.SegmentRule.{SegmentRule}
use Rattle.overlay.specs.Settings.{Settings, tunnel_rule, member_rule, table_rule, sum_of_limits}
use Rattle.overlay.specs.Rules.{IsMember, IsSegment, MeetsRules}
use Rattle.overlay.proofs.Listed.{each_mapped, all_mapped, test_mapped, all_pass, pairs_from}

-- ---- ports

number_is : (ports : ℕ) (other earlier : List ℕ) (p : ℕ) → IsMember ports other earlier p → is_port ports p ≡ true
number_is ports other earlier p is = and_from (nat_le 1 p) (nat_le p ports) (le-leb 1 p is.0.0) (le-leb p ports is.0.1)

lists : (o : Own) (most ports : ℕ) (earlier : List SegmentRule) (s : SegmentRule) → IsSegment o most ports earlier s → lists_ports ports (member_rule s) ≡ true
lists o most ports earlier s is =
    and_from (are_ports ports s.untagged) (are_ports ports s.tagged)
    (all_pass (IsMember ports []) (is_port ports) (number_is ports []) [] s.untagged is.untagged)
    (all_pass (IsMember ports s.untagged) (is_port ports) (number_is ports s.untagged) [] s.tagged is.tagged)

pub ports_listed : (s : Settings) → MeetsRules s → IsTrue (list_all (lists_ports (length s.ports)) (map member_rule s.segments))
ports_listed s rules = test_mapped member_rule (IsSegment (own s.underlay) s.underlay.limits.flood (length s.ports)) (lists_ports (length s.ports)) (lists (own s.underlay) s.underlay.limits.flood (length s.ports)) [] s.segments rules.segments

-- ---- tunnels

-- apart from those before it
abbrev IsApart : List TunnelRule → TunnelRule → Type 0
IsApart earlier r = list_any (λ e. clash e r) earlier ≡ false

tunnels_apart : (s : SegmentRule) (earlier : List SegmentRule) → list_any (λ e. clash (tunnel_rule e) (tunnel_rule s)) earlier ≡ false → IsApart (map tunnel_rule earlier) (tunnel_rule s)
tunnels_apart s [] h = refl
tunnels_apart s (e ∷ earlier) h =
    let both = or_parts (clash (tunnel_rule e) (tunnel_rule s)) (list_any (λ x. clash (tunnel_rule x) (tunnel_rule s)) earlier) h in
    or_from (clash (tunnel_rule e) (tunnel_rule s)) (list_any (λ x. clash x (tunnel_rule s)) (map tunnel_rule earlier)) both.0 (tunnels_apart s earlier both.1)

pub are_apart : (s : Settings) → MeetsRules s → AreApart (map tunnel_rule s.segments)
are_apart s rules =
    pairs_from clash IsApart (λ earlier r is. is) (map tunnel_rule s.segments)
    (each_mapped tunnel_rule (IsSegment (own s.underlay) s.underlay.limits.flood (length s.ports)) IsApart (λ earlier x is. tunnels_apart x earlier is.apart) [] s.segments rules.segments)

-- ---- tables

-- for another VID than those before it
abbrev IsOther : List TableRule → TableRule → Type 0
IsOther earlier r = list_any (λ e. eqb e.vid r.vid) earlier ≡ false

tables_other : (s : SegmentRule) (earlier : List SegmentRule) → list_any (λ e. clash (tunnel_rule e) (tunnel_rule s)) earlier ≡ false → IsOther (map table_rule earlier) (table_rule s)
tables_other s [] h = refl
tables_other s (e ∷ earlier) h =
    let both = or_parts (clash (tunnel_rule e) (tunnel_rule s)) (list_any (λ x. clash (tunnel_rule x) (tunnel_rule s)) earlier) h in
    or_from (eqb e.vid s.vid) (list_any (λ x. eqb x.vid s.vid) (map table_rule earlier)) (or_parts (eqb e.vid s.vid) _ both.0).0 (tables_other s earlier both.1)

pub are_distinct : (s : Settings) → MeetsRules s → AreForDistinctVids (map table_rule s.segments)
are_distinct s rules i j d lt within same =
    let others = each_mapped table_rule (IsSegment (own s.underlay) s.underlay.limits.flood (length s.ports)) IsOther (λ earlier x is. tables_other x earlier is.apart) [] s.segments rules.segments in
    let apart = pairs_from (λ a b. eqb a.vid b.vid) IsOther (λ earlier r is. is) (map table_rule s.segments) others in
    absurd (false≢true (sym (apart i j d lt within) ∙ eq-eqb _ _ same))

pub are_rules : (s : Settings) → MeetsRules s → All IsRule (map table_rule s.segments)
are_rules s rules =
    all_mapped table_rule (IsSegment (own s.underlay) s.underlay.limits.flood (length s.ports)) IsRule (λ earlier x is. record { some_entries = is.limit; long_enough = is.ageing.0; not_too_long = is.ageing.1 }) [] s.segments rules.segments

limits_same : (segments : List SegmentRule) → map (λ (r : TableRule). r.limit) (map table_rule segments) ≡ map (λ (s : SegmentRule). s.limit) segments
limits_same [] = refl
limits_same (s ∷ segments) = ap (λ l. s.limit ∷ l) (limits_same segments)

-- the sum of the tables' limits
pub limits_are : (segments : List SegmentRule) → sum_by (λ (r : TableRule). r.limit) (map table_rule segments) ≡ sum_of_limits segments
limits_are segments = sym (sum-map (λ (r : TableRule). r.limit) (map table_rule segments)) ∙ ap sum (limits_same segments)
