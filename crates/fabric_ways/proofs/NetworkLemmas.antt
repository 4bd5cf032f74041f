-- Numbers of networks.
use Rattle.std.proofs.Common.{ℕ, List, sym, ◌∙◌, ap}
use Rattle.fabric_ways.specs.Labels.{Links, IsFaithful}
use Rattle.fabric_ways.specs.Networks.{AreNumbers, first_number, links}
use Rattle.fabric_ways.specs.declared.member.Member.{Member}

pub AreNumbers-labels : (members : List Member) (label : ℕ → ℕ) → Links label (links members)
    → ((f : ℕ → ℕ) → Links f (links members) → IsFaithful f label) → AreNumbers members (λ X. label (first_number X))
AreNumbers-labels members label linked faithful X Y =
    (λ e f l. sym (faithful f l (first_number X)) ∙ ap f e ∙ faithful f l (first_number Y), λ joined. joined label linked)
