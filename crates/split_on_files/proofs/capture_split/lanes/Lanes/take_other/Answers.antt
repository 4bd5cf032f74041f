use Rattle.std.proofs.Common.{rules, []}
use Rattle.split_on_files.proofs.Told.{tells_refused}
use Rattle.split_on_files.proofs.capture_split.lanes.Lanes.take_other.Goals as goal

pub returns-in-Err-clause-tells : goal.returns-in-Err-clause-tells
returns-in-Err-clause-tells c =
    tells_refused c.args.self.now c.args.self.now c.args.block.now c.in-Err.fault c.fault.result [] c.requires.none (search rules) c.fault.ensures
