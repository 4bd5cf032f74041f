use Rattle.std.proofs.Common.{◌≡◌, ◌++◌, rules, ℕ, List, OnErr, subst}
use Rattle.pcap.specs.Block.{told}
use Rattle.pcap.specs.Sink.{AppendsPart}
use Rattle.pcap.proofs.stream.block_output.BlockOutputOutput.write_gathered.Goals as goal

pub returns-in-Some-clause-err : goal.returns-in-Some-clause-err
returns-in-Some-clause-err g c =
    let same : c.in-Some.header.now ≡ c.args.before.now = search rules in
    subst (λ (t : List ℕ). OnErr c.write_gathered_on.result (AppendsPart (told c.args.self.now) (told c.write_gathered_on.new.self)
    (t ++ (c.args.head.now ++ (c.args.addresses.now ++ (c.args.tag.now ++ c.args.body.now)))))) same c.write_gathered_on.ensures.err
