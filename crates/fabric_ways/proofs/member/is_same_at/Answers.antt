use Rattle.std.proofs.Common.{◌∙◌, sym, arith, rules}
use Rattle.std.proofs.lemmas.Grind.{common_steps}
use Rattle.fabric_ways.proofs.MemberLemmas.{entry-same}
use Rattle.fabric_ways.proofs.member.is_same_at.Goals as goal

pub returns-in-Some-Some : goal.returns-in-Some-Some
returns-in-Some-Some c = λ h.
    let e = entry-same c.in-Some-Some.a c.in-Some-Some.b (sym c.is_same_entry.ensures ∙ h) in
    first_of (cc, grind (arith, common_steps), search rules)
