use Rattle.std.proofs.Common.{rules, ◌<◌, ℕ, List, subst}
use Rattle.std.specs.List.{All}
use Rattle.talkers.proofs.Ranks.{octets_same}
use Rattle.talkers.proofs.rows.rank.has_number_alone.Goals as goal

pub returns : goal.returns
returns c =
    octets_same 6 c.args.mac c.args.other (search rules) (search rules)
    (subst (λ (l : List ℕ). All (λ (x : ℕ). x < 256) l) c.mac.view_is c.octets_fit.ensures)
    (subst (λ (l : List ℕ). All (λ (x : ℕ). x < 256) l) c.other.view_is c.octets_fit-2.ensures)
