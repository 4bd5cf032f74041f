use Rattle.std.proofs.Common.{◌∙◌, refl, sym, ap, subst, List, length, map, replicate, None, arith}
use Rattle.std.proofs.lemmas.List.{length-map, length-replicate}
use Rattle.std.specs.Prelude.{IsTrue, All}
use Rattle.std.specs.List.{list_all, sum_by}
use Rattle.filter_db.specs.Segment.{IsRule, AreForDistinctVids}
use Rattle.filter_db.specs.declared.tables.TableRule.{TableRule}
use Rattle.shared_tables.specs.Segments.{segments_of}
use Rattle.overlay.specs.Ports.{lists_ports}
use Rattle.overlay.specs.declared.ports.member.MemberRule.{MemberRule}
use Rattle.overlay.specs.declared.ports.port.PortRule.{PortRule}
use Rattle.overlay.specs.Overlay.{AreApart}
use Rattle.overlay.specs.declared.settings.segment.SegmentRule.{SegmentRule}
use Rattle.overlay.specs.Settings.{Settings, member_rule, table_rule, tunnel_rule}
use Rattle.overlay.proofs.Openers.{ports_listed, are_apart, are_distinct, are_rules, limits_are}
use Rattle.endpoint_core.specs.Learning.{tells_learning}
use Rattle.endpoint_core.proofs.OpenLemmas.{told-layers, sound-as, state-as}
use Rattle.endpoint_core.proofs.state.state.EndpointState.open.Goals as goal

pub open-requires-2-clause-distinct : goal.open-requires-2-clause-distinct
open-requires-2-clause-distinct c =
    let same = c.told.view_is ∙ c.into_parts-told.ensures.value in
    let rules = c.as_slice-2.ensures.value ∙ c.in_ok-rules.ensures.tables ∙ ap (λ (s : Settings). map table_rule s.segments) same in
    subst AreForDistinctVids (sym rules) (are_distinct c.args.settings c.into_parts-told.ensures.rules)

pub open-requires-2-clause-in_range : goal.open-requires-2-clause-in_range
open-requires-2-clause-in_range c =
    let same = c.told.view_is ∙ c.into_parts-told.ensures.value in
    let rules = c.as_slice-2.ensures.value ∙ c.in_ok-rules.ensures.tables ∙ ap (λ (s : Settings). map table_rule s.segments) same in
    subst (All IsRule) (sym rules) (are_rules c.args.settings c.into_parts-told.ensures.rules)

pub open-requires-3-clause-listed : goal.open-requires-3-clause-listed
open-requires-3-clause-listed c =
    let same = c.told.view_is ∙ c.into_parts-told.ensures.value in
    let members = c.as_slice-4.ensures.value ∙ c.in_ok-rules.ensures.members ∙ ap (λ (s : Settings). map member_rule s.segments) same in
    let numbered = c.as_slice-3.ensures.value ∙ ap (λ (s : Settings). s.ports) same in
    subst (λ (x : List PortRule). IsTrue (list_all (lists_ports (length x)) c.as_slice-4.result.now)) (sym numbered)
    (subst (λ (x : List MemberRule). IsTrue (list_all (lists_ports (length c.args.settings.ports)) x)) (sym members) (ports_listed c.args.settings c.into_parts-told.ensures.rules))

pub open-requires-3-clause-few : goal.open-requires-3-clause-few
open-requires-3-clause-few c =
    let same = c.told.view_is ∙ c.into_parts-told.ensures.value in
    let numbered = c.as_slice-3.ensures.value ∙ ap (λ (s : Settings). s.ports) same in
    let few = c.into_parts-told.ensures.rules.port_count.1 in
    let most = c.into_parts-told.ensures.rules.underlay.port_limit.1 in
    omega (arith, ap length numbered, few, most)

pub open-requires-4-clause-apart : goal.open-requires-4-clause-apart
open-requires-4-clause-apart c =
    let same = c.told.view_is ∙ c.into_parts-told.ensures.value in
    let tunnels = c.in_ok-rules.ensures.tunnels ∙ ap (λ (s : Settings). map tunnel_rule s.segments) same in
    subst AreApart (sym tunnels) (are_apart c.args.settings c.into_parts-told.ensures.rules)

pub open-requires-4-clause-few : goal.open-requires-4-clause-few
open-requires-4-clause-few c =
    let same = c.told.view_is ∙ c.into_parts-told.ensures.value in
    let tunnels = c.in_ok-rules.ensures.tunnels ∙ ap (λ (s : Settings). map tunnel_rule s.segments) same in
    let few = c.into_parts-told.ensures.rules.segment_count.1 in
    omega (arith, ap length tunnels, length-map c.args.settings.segments tunnel_rule, few, ap (λ (s : Settings). s.underlay.limits.segments) same)

pub invariant_of-result : goal.invariant_of-result
invariant_of-result c =
    let s = c.args.settings in
    let same = c.told.view_is ∙ c.into_parts-told.ensures.value in
    let are = told-layers s _ _ _ _ _ _ c.in_ok-ports.ports c.in_ok-under.under (segments_of c.in_ok-tables.tables) same c.as_slice-3.ensures.value (c.as_slice-4.ensures.value ∙ c.in_ok-rules.ensures.members) refl c.in_ok-rules.ensures.tunnels (c.as_slice-2.ensures.value ∙ c.in_ok-rules.ensures.tables) c.in_ok-ports.ensures c.in_ok-under.ensures c.in_ok-tables.ensures.segments in
    sound-as s c.in_ok-ports.ports c.in_ok-under.under (segments_of c.in_ok-tables.tables) c.into_parts-told.ensures.rules are

pub returns-clause-state : goal.returns-clause-state
returns-clause-state c =
    let s = c.args.settings in
    let same = c.told.view_is ∙ c.into_parts-told.ensures.value in
    let are = told-layers s _ _ _ _ _ _ c.in_ok-ports.ports c.in_ok-under.under (segments_of c.in_ok-tables.tables) same c.as_slice-3.ensures.value (c.as_slice-4.ensures.value ∙ c.in_ok-rules.ensures.members) refl c.in_ok-rules.ensures.tunnels (c.as_slice-2.ensures.value ∙ c.in_ok-rules.ensures.tables) c.in_ok-ports.ensures c.in_ok-under.ensures c.in_ok-tables.ensures.segments in
    let pool = ap length c.in_ok-tables.ensures.slots ∙ length-replicate _ None ∙ ap (λ (s : Settings). s.pool) same in
    λ t. state-as s t c.in_ok-ports.ports c.in_ok-under.under (segments_of c.in_ok-tables.tables) c.in_ok-learning.learning (length c.in_ok-tables.tables.entries) are pool
    (λ vid. c.in_ok-learning.ensures vid ∙ ap (λ (x : List SegmentRule). tells_learning x vid) (c.as_slice.ensures.value ∙ ap (λ (s : Settings). s.segments) same))

pub returns-clause-slots : goal.returns-clause-slots
returns-clause-slots c =
    c.in_ok-tables.ensures.slots ∙ ap (λ (s : Settings). replicate s.pool None) (c.told.view_is ∙ c.into_parts-told.ensures.value)

pub open-requires-2-clause-room : goal.open-requires-2-clause-room
open-requires-2-clause-room c =
    let same = c.told.view_is ∙ c.into_parts-told.ensures.value in
    let rules = c.as_slice-2.ensures.value ∙ c.in_ok-rules.ensures.tables ∙ ap (λ (s : Settings). map table_rule s.segments) same in
    let limits = ap (sum_by (λ (r : TableRule). r.limit)) rules ∙ limits_are c.args.settings.segments in
    let pool = ap (λ (s : Settings). s.pool) same in
    let few = c.into_parts-told.ensures.rules.limits in
    omega (arith, limits, pool, few)

pub open-requires-2-clause-size : goal.open-requires-2-clause-size
open-requires-2-clause-size c =
    let pool = ap (λ (s : Settings). s.pool) (c.told.view_is ∙ c.into_parts-told.ensures.value) in
    let few = c.into_parts-told.ensures.rules.pool.1 in
    let most = c.into_parts-told.ensures.rules.underlay.addresses.1 in
    omega (arith, pool, few, most)
