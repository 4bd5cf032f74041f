use Rattle.std.proofs.Common.{◌≡◌, ◌∙◌, false, sym, ap, subst}
use Rattle.overlay.specs.Flood.{Entries, IsWithoutRepeats, holds}
use Rattle.overlay.proofs.FloodLemmas.{IsWithoutRepeats-push}
use Rattle.overlay.proofs.flood.flood_list.FloodList.add.Goals as goal

pub invariant_of-self : goal.invariant_of-self
invariant_of-self c =
    let tunnel = c.args.tunnel in
    let addr = c.args.addr in
    let lacks : holds c.self.inside.entries tunnel addr ≡ false = ap (λ (flood : Entries). holds flood tunnel addr) c.self.view_is ∙ sym c.holds.ensures ∙ c.if-holds.false in
    subst IsWithoutRepeats (sym c.push.ensures.entries) (IsWithoutRepeats-push c.self.inside.entries tunnel addr c.self.invariant lacks)
