use Rattle.std.proofs.Common.{[], subst}
use Rattle.pcapng_input.specs.Filled.{IsFilled}
use Rattle.split_on_files.proofs.Passing.{passed_cut, passed_unequal}
use Rattle.split_on_files.proofs.capture_split.step.take_next.Goals as goal

pub returns-in-Ok-Cut-clause-tells : goal.returns-in-Ok-Cut-clause-tells
returns-in-Ok-Cut-clause-tells g c =
    let cut = subst (IsFilled c.order.result c.args.gathered.now c.fill.new.gathered) c.in-Ok-Cut.field-0-is c.in-Ok-Cut.ensures.filled in
    passed_cut c.args.lanes.now c.args.gathered.now c.fill.new.gathered [] c.order.result c.order.ensures cut

pub returns-in-Ok-Unequal-clause-tells : goal.returns-in-Ok-Unequal-clause-tells
returns-in-Ok-Unequal-clause-tells g c =
    let unequal = subst (IsFilled c.order.result c.args.gathered.now c.fill.new.gathered) c.in-Ok-Unequal.field-0-is c.in-Ok-Unequal.ensures.filled in
    passed_unequal c.args.lanes.now c.args.gathered.now c.fill.new.gathered [] c.order.result c.fault-fault.result c.order.ensures unequal c.fault-fault.ensures
