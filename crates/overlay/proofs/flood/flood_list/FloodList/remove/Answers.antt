use Rattle.std.proofs.Common.{◌≡◌, ◌≢◌, ◌∙◌, Some, sym, ap, subst}
use Rattle.std.specs.List.{position}
use Rattle.std.proofs.lemmas.List.Quantifiers.{all_pairs_remove}
use Rattle.overlay.specs.declared.flood.remote.Remote.{Remote}
use Rattle.overlay.specs.Flood.{Entries, IsWithoutRepeats, is_entry, without}
use Rattle.overlay.proofs.FloodLemmas.{holds-found, holds-not_found, remove-without}
use Rattle.overlay.proofs.flood.flood_list.FloodList.remove.Goals as goal

-- where the entry stands among the entries
found : (c : goal.After-remove) → position (is_entry c.args.tunnel c.args.addr) c.self.inside.entries ≡ Some c.in-Some.place
found c = ap (position (is_entry c.args.tunnel c.args.addr)) c.self.view_is ∙ sym c.in-Some.ensures

pub returns-in_default-clause-there : goal.returns-in_default-clause-there
returns-in_default-clause-there c = sym (holds-not_found c.args.self.now c.args.tunnel c.args.addr (sym c.in_default.ensures))

pub invariant_of-self : goal.invariant_of-self
invariant_of-self c =
    let taken = remove-without c.self.inside.entries c.args.tunnel c.args.addr c.in-Some.place c.self.invariant (found c) in
    subst IsWithoutRepeats (sym c.remove.ensures.entries) (all_pairs_remove (λ (a b : Remote). a ≢ b) c.self.inside.entries c.in-Some.place taken.0 c.self.invariant)

pub returns-clause-there : goal.returns-clause-there
returns-clause-there c = sym (holds-found c.args.self.now c.args.tunnel c.args.addr c.in-Some.place (sym c.in-Some.ensures))

pub returns-clause-removed : goal.returns-clause-removed
returns-clause-removed c =
    let taken = remove-without c.self.inside.entries c.args.tunnel c.args.addr c.in-Some.place c.self.invariant (found c) in
    c.remove.ensures.entries ∙ taken.1 ∙ ap (λ (flood : Entries). without flood c.args.tunnel c.args.addr) c.self.view_is
