use Rattle.std.proofs.Common.{rules}
use Rattle.std.proofs.lemmas.Fn.{always_returns_same}
use Rattle.fabric_ways.specs.Networks.{number_in}
use Rattle.fabric_ways.proofs.networks.Networks.sort.Goals as goal

pub returns-clause-sorted : goal.returns-clause-sorted
returns-clause-sorted c =
    c.in_ok-sort_by_key.ensures.sorted (number_in c.args.self.now.labels) (always_returns_same _ _ _ (λ a r f' k. search rules))

pub returns-clause-stable : goal.returns-clause-stable
returns-clause-stable c = c.sort_by_key.ensures.stable (number_in c.args.self.now.labels) (always_returns_same _ _ _ (λ a r f' k. search rules))
