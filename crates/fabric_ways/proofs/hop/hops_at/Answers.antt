use Rattle.std.proofs.Common.{◌∙◌, sym, rules}
use Rattle.fabric_ways.specs.Hops.{flood, hops_by}
use Rattle.fabric_ways.proofs.HopLemmas.{any_at}
use Rattle.fabric_ways.proofs.hop.hops_at.Goals as goal

pub returns-in-Some : goal.returns-in-Some
returns-in-Some c = λ h.
    any_at (hops_by c.args.x.now c.args.kind c.args.y.now) (flood c.args.x.now) c.args.place c.in-Some.entry (search rules) (sym c.hops_by.ensures ∙ h)
