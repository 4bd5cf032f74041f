use Rattle.std.proofs.Common.{◌∙◌, ◌-◌, ℕ, List, ap, drop, length, sym, take, arith}
use Rattle.std.proofs.lemmas.List.{take_rest}
use Rattle.wire.specs.Octets.{is_same}
use Rattle.octet_row.proofs.Texts.{more-same, same-behind}
use Rattle.octet_row.proofs.same.is_same.Goals as goal

pub loop-at-preserved : goal.loop-at-preserved
loop-at-preserved c = record {
  there = omega (arith, c.loop-at-test.true);
  begin = more-same c.loop-at.at c.args.one.now c.args.other.now (λ i. omega (arith, c.type_inv.one i)) (λ i. omega (arith, c.type_inv.other i)) c.if-one-other.false (omega (arith, c.loop-at-test.true)) c.loop-at.invariant.begin
      (sym c.read_u64.ensures ∙ c.if-read_u64.false ∙ c.read_u64-in-loop-at.ensures);
}

pub returns : goal.returns
returns c =
    let at = c.loop-at.at in
    let one = c.args.one.now in
    let other = c.args.other.now in
    c.eq.ensures ∙ ap (λ (l : List ℕ). is_same l (take (length other - at) (drop at other))) (take_rest one at)
    ∙ ap (λ (l : List ℕ). is_same (drop at one) l) (take_rest other at) ∙ same-behind at one other c.if-one-other.false c.loop-at.invariant.begin
