use Rattle.std.proofs.Common.{◌≡◌, length, take, min, arith}
use Rattle.report_counts.proofs.Naming.{front_of}
use Rattle.report_counts.proofs.names.PlaceName.of.Goals as goal

pub returns : goal.returns
returns c =
    let size : c.min-len.result ≡ min (length c.args.text.now) 55 = omega arith in
    let is : c.copy_from_slice.new.self ≡ take c.min-len.result c.args.text.now = grind arith in
    front_of c.args.text.now c.copy_from_slice.new.self _ c.min-len.result size is
