use Rattle.std.proofs.Common.{◌≡◌, ◌+◌, ◌<◌, true, length, get_or, set, refl, sym, ap, ◌∙◌, subst, arith, length-set, deque_capacity}
use Rattle.record_match.specs.Kept.{IsSound, ends_without, told}
use Rattle.record_match.specs.Match.{Sent, as_sent}
use Rattle.record_match.specs.declared.kept.Ends.{Ends}
use Rattle.record_match.specs.declared.kept.Kept.{Kept}
use Rattle.record_match.proofs.Laying.{bucket-few}
use Rattle.record_match.proofs.Showing.{as-window, count-is, held-is, laid-take, octets-is, one-is, records-is, within-is}
use Rattle.record_match.proofs.Sound.{sound-take}
use Rattle.record_match.proofs.window.Window.take.Goals as goal

pub index_mut-kept-requires : goal.index_mut-kept-requires
index_mut-kept-requires c =
    let n = count-is _ _ _ (held-is c.self.view_is) in
    omega (arith, n, c.self.inside.kept.ok.0, c.requires)

pub overflow_add-number : goal.overflow_add-number
overflow_add-number c =
    let n = count-is _ _ _ (held-is c.self.view_is) in
    omega (arith, n, c.requires, c.self.invariant.records)

pub overflow_add-number-2 : goal.overflow_add-number-2
overflow_add-number-2 c =
    let n = count-is _ _ _ (held-is c.self.view_is) in
    omega (arith, n, c.requires, c.self.invariant.records)

pub index_mut-ends-requires : goal.index_mut-ends-requires
index_mut-ends-requires c =
    let n = count-is _ _ _ (held-is c.self.view_is) in
    let h : c.args.i < length c.self.inside.kept.items = omega (arith, n, c.requires) in
    let few = bucket-few c.self.inside.passed c.self.inside.kept.items c.self.inside.row c.args.i c.index_mut-kept.result.now c.self.invariant.is_laid h in
    omega (arith, few, ap (λ (k : Kept). k.bucket) c.index_mut-kept.ensures.value, c.self.invariant.buckets, c.self.inside.ends.ok.0)

pub without-requires-clause-number : goal.without-requires-clause-number
without-requires-clause-number c =
    let n = count-is _ _ _ (held-is c.self.view_is) in
    omega (arith, n, c.requires, c.self.invariant.records)

pub invariant_of-self : goal.invariant_of-self
invariant_of-self c =
    let n = count-is _ _ _ (held-is c.self.view_is) in
    let h : c.args.i < length c.self.inside.kept.items = omega (arith, n, c.requires) in
    let k = c.index_mut-kept.result.now in
    let x : Kept = record { moment = k.moment; at = k.at; next = k.next; length = k.length; missing = k.missing; bucket = k.bucket; is_taken = true } in
    let s = sound-take c.self.inside.gone c.self.inside.passed c.self.inside.kept.items c.self.inside.row c.self.inside.ends.items (deque_capacity c.self.inside.kept) c.args.i k x c.index_mut-ends.result.now
    c.self.invariant h c.index_mut-kept.ensures.value refl in
    let e : c.without.result ≡ ends_without c.self.inside.gone (c.self.inside.gone + c.args.i + 1) k.next (get_or c.self.inside.ends.items k.bucket c.index_mut-ends.result.now) =
    c.without.ensures ∙ ap (λ (y : Ends). ends_without c.self.inside.gone (c.self.inside.gone + c.args.i + 1) k.next y) c.index_mut-ends.ensures.value in
    subst (λ (y : Ends). IsSound c.self.inside.gone c.self.inside.passed (set c.self.inside.kept.items c.args.i x) c.self.inside.row (set c.self.inside.ends.items k.bucket y) (deque_capacity c.self.inside.kept)) (sym e) s

pub returns-clause-window : goal.returns-clause-window
returns-clause-window c =
    let v = held-is c.self.view_is in
    let h : c.args.i < length c.self.inside.kept.items = omega (arith, count-is _ _ _ v, c.requires) in
    let k = c.index_mut-kept.result.now in
    let x : Kept = record { moment = k.moment; at = k.at; next = k.next; length = k.length; missing = k.missing; bucket = k.bucket; is_taken = true } in
    as-window _ _ _ _ _ (within-is c.self.view_is) (ap (λ n. c.self.inside.gone + n) (length-set c.self.inside.kept.items c.args.i x) ∙ records-is c.self.view_is) (octets-is c.self.view_is)
    (laid-take c.self.inside.passed c.self.inside.kept.items c.self.inside.row c.args.self.now.held c.args.i k x (as_sent (told c.args.received.now)) v c.self.invariant.is_laid h c.index_mut-kept.ensures.value refl)

pub returns-clause-moment : goal.returns-clause-moment
returns-clause-moment c =
    let v = held-is c.self.view_is in
    let h : c.args.i < length c.self.inside.kept.items = omega (arith, count-is _ _ _ v, c.requires) in
    ap (λ (s : Sent). s.moment) (sym (one-is c.self.inside.passed c.self.inside.kept.items c.self.inside.row c.args.self.now.held c.args.i c.index_mut-kept.result.now (as_sent (told c.args.received.now)) v c.self.invariant.is_laid h c.index_mut-kept.ensures.value))
