use Rattle.std.proofs.Common.{ap, subst, ℕ, List, length, ◌+◌}
use Rattle.decision_objects.specs.Writing.{Tells}
use Rattle.run_view.proofs.Lengths.{block_told}
use Rattle.run_view.proofs.teller.Teller.tell_block.Goals as goal

pub returns : goal.returns
returns g c =
    subst (λ (t : List ℕ). Tells c.args.self.now c.tell.new.self t)
    (block_told c.args.kind (12 + length c.text.result.now) c.args.body.now c.put_four.new.line c.block_front.result c.text-2.result.now c.block_front.ensures
    c.put_four.ensures.text c.text-2.ensures.value (ap (λ (t : List ℕ). 12 + length t) c.text.ensures.value))
    c.tell.ensures
