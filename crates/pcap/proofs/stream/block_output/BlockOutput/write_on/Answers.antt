use Rattle.std.proofs.Common.{◌≡◌, rules, [], false, length}
use Rattle.pcap.specs.Block.{may_hold}
use Rattle.pcap.proofs.Blocks.{none_is_rest}
use Rattle.pcap.proofs.stream.block_output.BlockOutput.write_on.Goals as goal

pub returns-then-not-may_hold-2-clause-rest : goal.returns-then-not-may_hold-2-clause-rest
returns-then-not-may_hold-2-clause-rest g c =
    let size = length c.args.octets.now in
    let full : may_hold c.args.self.now size ≡ false = search rules in
    let none : c.self-then-not-may_hold.inside.block.held ≡ [] = search rules in
    none_is_rest c.write.result (may_hold c.args.self.now size) c.args.self.now.held c.self-then-not-may_hold.inside.block.held full none
