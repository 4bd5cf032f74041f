use Rattle.std.proofs.Common.{◌≡◌, ◌+◌, ◌∷◌, [], ◌++◌, ap, arith, length, refl, subst, sym, take}
use Rattle.std.proofs.lemmas.List.{length_push}
use Rattle.runs_on_files.specs.Digests.{AreDigestsOf}
use Rattle.runs_on_files.proofs.Digesting.{on_ok, one_more}
use Rattle.runs_on_files.proofs.digests.take_digests.Goals as goal

pub loop-name-preserved : goal.loop-name-preserved
loop-name-preserved g c =
    let files = g.R.File.Read.remaining in
    let input = g.R.Reader.Read.remaining in
    let at = c.loop-name in
    let digests = at.digests.items in
    let digest = c.in-Ok.digest in
    let items = on_ok c.try_push.result (c.try_push.new.self.items ≡ digests ++ digest ∷ []) (c.try_push.ensures.variant.1 (omega (arith, at.invariant.count, c.loop-name-test.true, c.if-ports-gt-MOST_PORTS.false))) c.try_push.ensures.ok in
    record {
      count = omega (arith, ap length items, length_push digests digest, at.invariant.count);
      told = subst (AreDigestsOf files input (take (at.name-index + 1) c.args.ports.now)) (sym items)
          (one_more files input c.args.ports.now digests _ digest at.name-index c.loop-name-test.true (_, refl) c.in-Ok.ensures at.invariant.told);
    }
