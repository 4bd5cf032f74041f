use Rattle.std.proofs.Common.{◌≡◌, ◌+◌, ◌∷◌, [], ◌++◌, ap, arith, length, rules, subst, sym, take}
use Rattle.std.proofs.lemmas.List.{length_push}
use Rattle.part_record.specs.Taken.{AreTakenOf}
use Rattle.part_record.proofs.Taking.{one_more}
use Rattle.part_record.proofs.taken.digests_taken.Goals as goal

pub loop-port-preserved : goal.loop-port-preserved
loop-port-preserved g c =
    let remaining = g.R.Input.remaining in
    let calls = g.R.Input.calls in
    let failures = g.R.Input.failures in
    let at = c.loop-port in
    let digests = at.digests.items in
    let digest = c.in-Some.digest in
    let items : c.try_push.new.self.items ≡ digests ++ digest ∷ [] = search rules in
    record {
      count = omega (arith, ap length items, length_push digests digest, at.invariant.count);
      taken = subst (AreTakenOf remaining calls failures (take (at.port-index + 1) c.args.ports.now)) (sym items)
          (one_more remaining calls failures c.args.ports.now digests _ digest at.port-index c.loop-port-test.true (_, c.port-item.is) c.in-Some.ensures at.invariant.taken);
    }
