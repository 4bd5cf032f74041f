use Rattle.run_view.specs.Blocks.{interface_block}
use Rattle.run_view.proofs.Telling.{interface_is, told_as}
use Rattle.run_view.proofs.output.tell_interface.Goals as goal

pub returns : goal.returns
returns g c =
    let block = interface_block c.args.name.now in
    told_as c.args.teller.now c.tell_block.new.self 1 c.put_interface.new.line block.body block c.put_interface.ensures.body (interface_is c.args.name.now) c.tell_block.ensures
