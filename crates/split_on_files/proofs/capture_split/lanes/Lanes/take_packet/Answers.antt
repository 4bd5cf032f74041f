use Rattle.std.proofs.Common.{rules, []}
use Rattle.split_on_files.proofs.Told.{tells_faulty}
use Rattle.split_on_files.proofs.capture_split.lanes.Lanes.take_packet.Goals as goal

pub returns-in-Err-clause-tells : goal.returns-in-Err-clause-tells
returns-in-Err-clause-tells c =
    tells_faulty c.args.self.now c.note-in-Err.new.self c.args.block.now c.args.number c.size_of-in-Err.result c.lane-lane.result c.at_fault.result c.in-Err.fault
    c.fault-met.result [] c.requires.of c.size_of-in-Err.ensures c.lane-lane.ensures.lane (search rules) (search rules) c.fault-met.ensures c.at_fault.ensures
    c.note-in-Err.ensures
