use Rattle.std.proofs.Common.{◌<◌, length, refl, sym, ap, ◌∙◌, arith, deque_capacity}
use Rattle.echo_window.specs.Echo.{first_met, met_again, origin_of}
use Rattle.echo_window.specs.Laid.{told}
use Rattle.echo_window.specs.declared.kept.Kept.{Kept}
use Rattle.echo_window.proofs.Indexing.{kept-met}
use Rattle.echo_window.proofs.Laying.{laid-met}
use Rattle.echo_window.proofs.Showing.{as-window, came-is, count-is, one-is}
use Rattle.echo_window.proofs.window.Window.mark.Goals as goal

pub index_mut-kept-requires : goal.index_mut-kept-requires
index_mut-kept-requires c =
    let n = count-is _ _ _ (came-is c.self.view_is) in
    omega (arith, n, c.self.inside.frames.ok.0)

pub invariant_of-self : goal.invariant_of-self
invariant_of-self c =
    let h : c.args.i < length c.self.inside.frames.items = omega (arith, count-is _ _ _ (came-is c.self.view_is)) in
    let k = c.index_mut-kept.result.now in
    let more : Kept = record { place = k.place; number = k.number; moment = k.moment; at = k.at; length = k.length; before = k.before; alike = k.alike; awaited = c.remove.new.self } in
    let is = laid-met c.self.inside.frames.items c.self.inside.row c.args.i k more (told c.args.met.now) h c.index_mut-kept.ensures.value refl refl refl refl c.remove.ensures in
    kept-met (deque_capacity c.self.inside.frames) c.self.inside.first c.self.inside.passed c.args.i k more (told c.args.met.now) c.self.inside.frames.items c.self.inside.row c.self.inside.latest.items
    h c.index_mut-kept.ensures.value refl refl refl refl is c.self.invariant

pub returns-clause-origin : goal.returns-clause-origin
returns-clause-origin c =
    let v = came-is c.self.view_is in
    let h : c.args.i < length c.self.inside.frames.items = omega (arith, count-is _ _ _ v) in
    let one = one-is _ _ _ c.args.i c.index_mut-kept.result.now (first_met (told c.args.met.now)) v h c.index_mut-kept.ensures.value in
    sym (ap origin_of one)

pub returns-clause-came : goal.returns-clause-came
returns-clause-came c =
    let v = came-is c.self.view_is in
    let h : c.args.i < length c.self.inside.frames.items = omega (arith, count-is _ _ _ v) in
    let more : Kept = record { place = c.index_mut-kept.result.now.place; number = c.index_mut-kept.result.now.number; moment = c.index_mut-kept.result.now.moment; at = c.index_mut-kept.result.now.at; length = c.index_mut-kept.result.now.length; before = c.index_mut-kept.result.now.before; alike = c.index_mut-kept.result.now.alike; awaited = c.remove.new.self } in
    as-window _ _ c.args.self.now _ _ c.self.view_is
    (laid-met c.self.inside.frames.items c.self.inside.row c.args.i c.index_mut-kept.result.now more (told c.args.met.now) h c.index_mut-kept.ensures.value refl refl refl refl c.remove.ensures
    ∙ ap (λ cs. met_again (told c.args.met.now) cs c.args.i) v)
