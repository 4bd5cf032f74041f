use Rattle.std.proofs.Common.{◌<◌, length, refl, ap, ◌∙◌, arith}
use Rattle.record_match.specs.Kept.{told}
use Rattle.record_match.specs.Match.{as_sent}
use Rattle.record_match.specs.declared.kept.Kept.{Kept}
use Rattle.record_match.proofs.Laying.{begins}
use Rattle.record_match.proofs.Showing.{asked-is, count-is, held-is, within-is}
use Rattle.record_match.proofs.window.Window.is_met.Goals as goal

pub index-kept-requires : goal.index-kept-requires
index-kept-requires c =
    let n = count-is _ _ _ (held-is c.self.view_is) in
    omega (arith, n, c.self.inside.kept.ok.0, c.requires)

pub overflow_sub-begin : goal.overflow_sub-begin
overflow_sub-begin c =
    let n = count-is _ _ _ (held-is c.self.view_is) in
    let h : c.args.i < length c.self.inside.kept.items = omega (arith, n, c.requires) in
    let b = begins c.self.inside.passed c.self.inside.kept.items c.self.inside.row c.args.i c.index-kept.result.now c.self.invariant.is_laid h in
    omega (arith, b.0, ap (λ (k : Kept). k.at) c.index-kept.ensures)

pub part-octets-requires : goal.part-octets-requires
part-octets-requires c =
    let n = count-is _ _ _ (held-is c.self.view_is) in
    let h : c.args.i < length c.self.inside.kept.items = omega (arith, n, c.requires) in
    let b = begins c.self.inside.passed c.self.inside.kept.items c.self.inside.row c.args.i c.index-kept.result.now c.self.invariant.is_laid h in
    omega (arith, b.0, b.1, ap (λ (k : Kept). k.at) c.index-kept.ensures, ap (λ (k : Kept). k.length) c.index-kept.ensures)

pub returns : goal.returns
returns c =
    let v = held-is c.self.view_is in
    let h : c.args.i < length c.self.inside.kept.items = omega (arith, count-is _ _ _ v, c.requires) in
    c.is_met_by.ensures
    ∙ asked-is _ _ (told c.args.received.now) c.self.inside.passed c.self.inside.kept.items c.self.inside.row c.args.self.now.held c.args.i c.index-kept.result.now (as_sent (told c.args.received.now)) _ _ (within-is c.self.view_is) v
    c.self.invariant.is_laid h c.index-kept.ensures refl c.part-octets.ensures.octets
