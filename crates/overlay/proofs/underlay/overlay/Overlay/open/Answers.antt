use Rattle.std.proofs.Common.{◌≡◌, ◌∙◌, ◌++◌, ◌∷◌, [], List, Option, not, sym, ap, subst, length, arith, length-append, append_assoc}
use Rattle.std.specs.Prelude.{is_some}
use Rattle.std.specs.FinMap.{len}
use Rattle.std.specs.Vec.Iter.{into_iter_items}
use Rattle.overlay.specs.declared.underlay.segment.Segment.{Segment}
use Rattle.overlay.specs.declared.underlay.segment.TunnelRule.{TunnelRule}
use Rattle.overlay.specs.Overlay.{Overlay, AreApart, are_free, has_segment, with_segment}
use Rattle.overlay.proofs.ToldLemmas.{apart_before, told_absent, told_free, told_size, told_more}
use Rattle.overlay.proofs.underlay.overlay.Overlay.open.Goals as goal

pub add_segment-requires-clause-new : goal.add_segment-requires-clause-new
add_segment-requires-clause-new c =
    let all : c.loop-rule.yielded ++ c.in-Some.rule ∷ into_iter_items c.next.new.self ≡ c.args.rules.items = ap (λ (l : List TunnelRule). c.loop-rule.yielded ++ l) (sym c.in-Some.ensures.steps.0) ∙ c.loop-rule.invariant.3 in
    let apart = apart_before c.loop-rule.yielded c.in-Some.rule (into_iter_items c.next.new.self) (subst AreApart (sym all) c.requires.apart) in
    ap (λ (S : Overlay). not (has_segment S c.in-Some.rule.vid)) c.loop-rule.invariant.2 ∙ ap (λ (x : Option Segment). not (is_some x)) (told_absent c.loop-rule.yielded c.in-Some.rule apart)

pub add_segment-requires-clause-free : goal.add_segment-requires-clause-free
add_segment-requires-clause-free c =
    let all : c.loop-rule.yielded ++ c.in-Some.rule ∷ into_iter_items c.next.new.self ≡ c.args.rules.items = ap (λ (l : List TunnelRule). c.loop-rule.yielded ++ l) (sym c.in-Some.ensures.steps.0) ∙ c.loop-rule.invariant.3 in
    let apart = apart_before c.loop-rule.yielded c.in-Some.rule (into_iter_items c.next.new.self) (subst AreApart (sym all) c.requires.apart) in
    ap (λ (S : Overlay). are_free S c.in-Some.rule.tunnels) c.loop-rule.invariant.2 ∙ told_free c.args.underlay c.loop-rule.yielded c.in-Some.rule apart

pub add_segment-requires-clause-room : goal.add_segment-requires-clause-room
add_segment-requires-clause-room c =
    let all : c.loop-rule.yielded ++ c.in-Some.rule ∷ into_iter_items c.next.new.self ≡ c.args.rules.items = ap (λ (l : List TunnelRule). c.loop-rule.yielded ++ l) (sym c.in-Some.ensures.steps.0) ∙ c.loop-rule.invariant.3 in
    omega (arith, c.requires.few, told_size c.loop-rule.yielded, ap (λ (S : Overlay). len S.segments) c.loop-rule.invariant.2, ap (λ (S : Overlay). S.underlay.limits.segments) c.loop-rule.invariant.2, ap length all, length-append c.loop-rule.yielded (c.in-Some.rule ∷ into_iter_items c.next.new.self))

pub loop-rule-preserved : goal.loop-rule-preserved
loop-rule-preserved c =
    let all : c.loop-rule.yielded ++ c.in-Some.rule ∷ into_iter_items c.next.new.self ≡ c.args.rules.items = ap (λ (l : List TunnelRule). c.loop-rule.yielded ++ l) (sym c.in-Some.ensures.steps.0) ∙ c.loop-rule.invariant.3 in
    let apart = apart_before c.loop-rule.yielded c.in-Some.rule (into_iter_items c.next.new.self) (subst AreApart (sym all) c.requires.apart) in (
      tt,
      tt,
      c.add_segment.ensures ∙ ap (λ (S : Overlay). with_segment S c.in-Some.rule) c.loop-rule.invariant.2 ∙ told_more c.args.underlay c.loop-rule.yielded c.in-Some.rule apart,
      append_assoc c.loop-rule.yielded (c.in-Some.rule ∷ []) (into_iter_items c.next.new.self) ∙ all,
    )
