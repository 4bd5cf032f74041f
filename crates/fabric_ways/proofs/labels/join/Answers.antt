use Rattle.std.proofs.Common.{◌≡◌, ℕ, min, ap, ◌∙◌, arith}
use Rattle.std.proofs.lemmas.Grind.{common_steps}
use Rattle.fabric_ways.proofs.labels.join.Goals as goal

min_is : (f : ℕ → ℕ) (a b v : ℕ) → f a ≡ v → f b ≡ v → f (min a b) ≡ v
min_is f a b v p q = grind arith

pub returns-clause-keeps : goal.returns-clause-keeps
returns-clause-keeps c = λ f e faithful q.
    let z : f (min c.label-a.result c.label-b.result) ≡ f c.args.last =
    min_is f c.label-a.result c.label-b.result (f c.args.last) (ap f c.label-a.ensures ∙ faithful c.args.first ∙ e) (ap f c.label-b.ensures ∙ faithful c.args.last) in
    grind (arith, common_steps, faithful q)
