use Rattle.std.proofs.Common.{◌≡◌, ◌-◌, length, refl, rules, subst, true}
use Rattle.std.specs.Prelude.{IfSome}
use Rattle.pcapng_input.proofs.Advance.{passes_all}
use Rattle.pcapng_input.specs.Filled.{IsNumberNext, PassesBody}
use Rattle.pcapng_input.proofs.filling.pass_over.Goals as goal

pub returns-clause-passed : goal.returns-clause-passed
returns-clause-passed g c =
    let count = c.args.size - 4 - length c.held.result.now in
    let there : c.in_ok-pass_body.field-0 ≡ true = search rules in
    let passed = subst (PassesBody c.clear.new.self c.pass_body.new.gathered count) there c.in_ok-pass_body.ensures.passed in
    let number = subst (λ o. IfSome o (IsNumberNext c.args.order c.pass_body.new.gathered c.number_next.new.gathered)) c.in-Some.is c.in_ok-second.ensures.number in
    let same : c.in-Some.second ≡ c.args.size = search rules in (
      refl,
      passes_all c.args.gathered.now c.clear.new.self c.pass_body.new.gathered c.number_next.new.gathered c.args.order c.args.size c.in-Some.second count c.held.result.now
          c.held.ensures.octets c.requires c.clear.ensures passed refl number same,
    )
