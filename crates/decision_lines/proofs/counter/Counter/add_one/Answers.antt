use Rattle.std.proofs.Common.{◌≤◌, ◌<◌, ◌+◌, ◌-◌, ◌^◌, length, ap, refl, arith}
use Rattle.std.proofs.lemmas.Fmt.{decimal_nonempty}
use Rattle.std.proofs.lemmas.List.{length-take}
use Rattle.decision_lines.proofs.LineLemmas.{digits-next}
use Rattle.decision_lines.proofs.counter.Counter.add_one.Goals as goal

pub overflow_sub-last : goal.overflow_sub-last
overflow_sub-last c =
    let fits : c.self.inside.value < 2 ^ 64 = omega (arith, c.requires, c.self.view_is) in
    omega (arith, ap length c.self.invariant.1, length-take c.self.inside.len c.self.inside.digits, decimal_nonempty c.self.inside.value fits)

pub invariant_of-self : goal.invariant_of-self
invariant_of-self c =
    let self = c.self.inside in
    let fits : self.value + 1 < 2 ^ 64 = omega (arith, c.requires, c.self.view_is) in
    let small : self.value < 2 ^ 64 = omega (arith, fits) in
    let long : 1 ≤ self.len = omega (arith, ap length c.self.invariant.1, length-take self.len self.digits, decimal_nonempty self.value small) in (
      c.self.invariant.0,
      digits-next self.digits self.len (self.len - 1) self.value _ (omega (arith, long)) (omega (arith, long, c.self.invariant.0, c.self.told)) c.self.invariant.1 refl c.if-self-last-lt57.true fits,
    )
