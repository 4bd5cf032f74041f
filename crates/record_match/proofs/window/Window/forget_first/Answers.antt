use Rattle.std.proofs.Common.{◌≡◌, ◌+◌, drop, get_or, set, sym, ap, ◌∙◌, subst, arith, deque_capacity}
use Rattle.record_match.specs.Kept.{IsLaid, IsSound, ends_without}
use Rattle.record_match.specs.declared.kept.Ends.{Ends}
use Rattle.record_match.proofs.Sound.{sound-drop}
use Rattle.record_match.proofs.window.Window.forget_first.Goals as goal

pub index_mut-ends-requires : goal.index_mut-ends-requires
index_mut-ends-requires c =
    let laid = subst (λ ks. IsLaid c.self.inside.passed ks c.self.inside.row) c.in-Some.ensures.items c.self.invariant.is_laid in
    let few = laid.0.few in
    omega (arith, few, c.self.invariant.buckets, c.self.inside.ends.ok.0)

pub invariant_of-self-2 : goal.invariant_of-self-2
invariant_of-self-2 c =
    let gone = c.self.inside.gone in
    let passed = c.self.inside.passed in
    let row = c.self.inside.row in
    let ends = c.self.inside.ends.items in
    let k = c.in-Some.kept in
    let ks = c.pop_front.new.self.items in
    let more = deque_capacity c.pop_front.new.self in
    let s = subst (λ l. IsSound gone passed l row ends (deque_capacity c.self.inside.kept)) c.in-Some.ensures.items c.self.invariant in
    let x = sound-drop gone passed k ks row ends (deque_capacity c.self.inside.kept) more c.index_mut-ends.result.now s (omega (arith, c.pop_front.ensures.capacity)) in
    let e : c.without.result ≡ ends_without gone (gone + 1) k.next (get_or ends k.bucket c.index_mut-ends.result.now) =
    c.without.ensures ∙ ap (λ (y : Ends). ends_without gone (gone + 1) k.next y) c.index_mut-ends.ensures.value in
    subst (λ r. IsSound (gone + 1) (passed + k.length) ks r (set ends k.bucket c.without.result) more) (sym c.forget.ensures)
    (subst (λ (y : Ends). IsSound (gone + 1) (passed + k.length) ks (drop k.length row) (set ends k.bucket y) more) (sym e) x)
