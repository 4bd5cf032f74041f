use Rattle.std.proofs.Common.{◌≡◌, ℕ, List, ◌∙◌, subst}
use Rattle.fabric_ways.specs.Labels.{Links, IsFaithful, label_in}
use Rattle.fabric_ways.specs.Networks.{links}
use Rattle.fabric_ways.proofs.NetworkLemmas.{AreNumbers-labels}
use Rattle.fabric_ways.proofs.networks.Networks.of.Goals as goal

pub returns : goal.returns
returns c =
    let label = label_in c.in_ok-labels.labels in
    let e : c.as_slice.result.now ≡ links c.args.members.now = c.as_slice.ensures.value ∙ c.in_ok-links.ensures in
    let P : List (ℕ × ℕ) → Type 0 = λ l. Links label l in
    let Q : List (ℕ × ℕ) → Type 0 = λ l. (f : ℕ → ℕ) → Links f l → IsFaithful f label in
    AreNumbers-labels c.args.members.now label (subst P e c.in_ok-labels.ensures.links) (subst Q e c.in_ok-labels.ensures.faithful)
