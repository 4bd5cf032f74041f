use Rattle.run_view.specs.Blocks.{section_block}
use Rattle.run_view.proofs.Telling.{head_told, section_is, told_as}
use Rattle.run_view.proofs.output.tell_head.Goals as goal

pub returns : goal.returns
returns g c =
    head_told c.args.teller.now c.tell_block.new.self c.tell_ports.new.teller c.tell_interface.new.teller c.args.ports
    (told_as c.args.teller.now c.tell_block.new.self 168627466 c.put_section.new.line section_block.body section_block c.put_section.ensures.body section_is c.tell_block.ensures)
    c.tell_ports.ensures c.tell_interface.ensures
