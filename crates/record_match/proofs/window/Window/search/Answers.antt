use Rattle.std.proofs.Common.{◌≡◌, ℕ, ◌+◌, ◌-◌, ◌<◌, length, sym, ◌∙◌, subst, arith}
use Rattle.record_match.specs.Kept.{NoneBehind, NoneBetween, told}
use Rattle.record_match.specs.Match.{as_sent}
use Rattle.record_match.specs.declared.kept.Ends.{Ends}
use Rattle.record_match.proofs.Showing.{count-is, end-none, held-is, none-held, step-none}
use Rattle.record_match.proofs.window.Window.search.Goals as goal

pub loop-number-init : goal.loop-number-init
loop-number-init c =
    let m = told c.args.received.now in
    let v = held-is c.self.view_is in
    let b = c.bucket_of-bucket.result in
    let e = c.index-ends.result.now in
    let few = c.bucket_of-bucket.ensures.bound in
    let first : NoneBetween c.self.inside.gone c.self.inside.kept.items b 0 e.first =
    subst (λ (y : Ends). NoneBetween c.self.inside.gone c.self.inside.kept.items b 0 y.first) (sym c.index-ends.ensures) (c.self.invariant.is_indexed.first b e (omega (arith, few, c.self.invariant.buckets))) in
    record {
      low = omega (arith, c.max-number.ensures);
      none = λ k lt hi. none-held c.args.self.now.within m c.self.inside.gone c.self.inside.passed c.self.inside.kept.items c.self.inside.row c.args.self.now.held b 0 e.first v c.self.invariant.is_laid c.bucket_of-bucket.ensures.bucket first k (as_sent m) lt
          (omega arith) (omega (arith, hi, c.max-number.ensures));
    }

pub is_met-requires : goal.is_met-requires
is_met-requires c =
    let n = count-is _ _ _ (held-is c.self.view_is) in
    omega (arith, n, c.loop-number-test.true, c.min-last.ensures, c.len.ensures, c.self.inside.kept.ok.0, c.loop-number.invariant.low)

pub returns-then-is_met : goal.returns-then-is_met
returns-then-is_met c =
    let m = told c.args.received.now in
    let n = count-is _ _ _ (held-is c.self.view_is) in
    let i = c.loop-number.number - c.self.inside.gone - 1 in
    let h : i < length c.args.self.now.held = omega (arith, n, c.loop-number-test.true, c.min-last.ensures, c.len.ensures, c.self.inside.kept.ok.0, c.loop-number.invariant.low) in
    record {
      inside = h;
      before = λ k l. c.loop-number.invariant.none k (omega (arith, h, l)) (omega (arith, l, c.loop-number.invariant.low));
      here = sym c.is_met.ensures ∙ c.if-is_met.true;
    }

pub loop-number-preserved : goal.loop-number-preserved
loop-number-preserved c =
    let m = told c.args.received.now in
    let v = held-is c.self.view_is in
    let i = c.loop-number.number - c.self.inside.gone - 1 in
    let h : i < length c.self.inside.kept.items = omega (arith, c.loop-number-test.true, c.min-last.ensures, c.len.ensures, c.self.inside.kept.ok.0, c.loop-number.invariant.low) in
    let at : c.loop-number.number ≡ c.self.inside.gone + i + 1 = omega (arith, c.loop-number.invariant.low) in
    record {
      low = omega (arith, c.behind_in-number.ensures, c.loop-number.invariant.low);
      none = λ k lt hi. step-none c.args.self.now.within m c.self.inside.gone c.self.inside.passed c.self.inside.kept.items c.self.inside.row c.args.self.now.held c.self.inside.ends.items i c.index.result.now c.bucket_of-bucket.result
          c.loop-number.number (as_sent m) v c.self.invariant.is_laid c.self.invariant.is_indexed h c.index.ensures at c.bucket_of-bucket.ensures.bucket c.loop-number.invariant.none (sym c.is_met.ensures ∙ c.if-is_met.false) k lt
          (subst (λ (x : ℕ). c.self.inside.gone + k + 1 < x) c.behind_in-number.ensures hi);
    }

pub returns : goal.returns
returns c =
    let m = told c.args.received.now in
    let v = held-is c.self.view_is in
    let b = c.bucket_of-bucket.result in
    let e = c.index-ends.result.now in
    let few = c.bucket_of-bucket.ensures.bound in
    let last : NoneBehind c.self.inside.gone c.self.inside.kept.items b e.last =
    subst (λ (y : Ends). NoneBehind c.self.inside.gone c.self.inside.kept.items b y.last) (sym c.index-ends.ensures) (c.self.invariant.is_indexed.last b e (omega (arith, few, c.self.invariant.buckets))) in
    end-none c.args.self.now.within m c.self.inside.gone c.self.inside.passed c.self.inside.kept.items c.self.inside.row c.args.self.now.held b c.loop-number.number e.last (as_sent m) v c.self.invariant.is_laid c.bucket_of-bucket.ensures.bucket last
    (omega (arith, c.loop-number-test.false, c.min-last.ensures, c.len.ensures, c.self.inside.kept.ok.0)) c.loop-number.invariant.none
