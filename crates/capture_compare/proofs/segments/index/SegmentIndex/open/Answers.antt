use Rattle.std.proofs.Common.{◌∙◌, sym, ap, subst, length, map, arith}
use Rattle.std.proofs.lemmas.List.{length-map}
use Rattle.overlay.specs.Overlay.{AreApart, Overlay}
use Rattle.overlay.specs.Settings.{Settings, tunnel_rule}
use Rattle.overlay.proofs.Openers.{are_apart}
use Rattle.capture_compare.specs.Segments.{tunnels_of}
use Rattle.capture_compare.proofs.Opening.{opened}
use Rattle.capture_compare.proofs.segments.index.SegmentIndex.open.Goals as goal

pub open-requires-clause-apart : goal.open-requires-clause-apart
open-requires-clause-apart c =
    let same = c.told.view_is ∙ c.into_parts-told.ensures.value in
    let rules = c.in_ok-rules.ensures ∙ ap (λ (s : Settings). map tunnel_rule s.segments) same in
    subst AreApart (sym rules) (are_apart c.args.settings c.into_parts-told.ensures.rules)

pub open-requires-clause-few : goal.open-requires-clause-few
open-requires-clause-few c =
    let same = c.told.view_is ∙ c.into_parts-told.ensures.value in
    let rules = c.in_ok-rules.ensures ∙ ap (λ (s : Settings). map tunnel_rule s.segments) same in
    let few = c.into_parts-told.ensures.rules.segment_count.1 in
    let most = ap (λ (s : Settings). s.underlay.limits.segments) same in
    omega (arith, ap length rules, length-map c.args.settings.segments tunnel_rule, few, most)

pub invariant_of-result : goal.invariant_of-result
invariant_of-result c =
    c.in_ok-tunnels.ensures ∙ ap (λ (o : Overlay). tunnels_of o.underlay) (sym c.in_ok-under.ensures)

pub returns : goal.returns
returns c =
    opened c.args.settings _ _ _ _ _ _ (c.told.view_is ∙ c.into_parts-told.ensures.value) c.in_ok-rules.ensures c.in_ok-under.ensures
