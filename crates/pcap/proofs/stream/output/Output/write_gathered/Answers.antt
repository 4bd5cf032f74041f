use Rattle.std.proofs.Common.{List, ℕ, OnErr, subst, take}
use Rattle.pcap.specs.Sink.{AppendsPart}
use Rattle.pcap.proofs.Parts.{four_behind, part_behind_on, part_more}
use Rattle.pcap.proofs.stream.output.Output.write_gathered.Goals as goal

pub returns-in-Err-clause-err : goal.returns-in-Err-clause-err
returns-in-Err-clause-err g c =
    let front = take c.put_four-end.result c.put_four-end.new.room in
    let old = g.Self.Output.written c.args.self.now in
    let new = g.Self.Output.written c.write_all.new.self in
    let all = four_behind front c.args.before.now c.args.head.now c.args.addresses.now c.args.tag.now c.args.body.now c.put_four-end.ensures.texts in
    subst (λ (t : List ℕ). AppendsPart old new t) all (part_more old new front c.args.body.now c.in-Err.ensures.err)

pub returns-clause-err : goal.returns-clause-err
returns-clause-err g c =
    let front = take c.put_four-end.result c.put_four-end.new.room in
    let old = g.Self.Output.written c.args.self.now in
    let mid = g.Self.Output.written c.write_all.new.self in
    let new = g.Self.Output.written c.write_all-2.new.self in
    let all = four_behind front c.args.before.now c.args.head.now c.args.addresses.now c.args.tag.now c.args.body.now c.put_four-end.ensures.texts in
    subst (λ (t : List ℕ). OnErr c.write_all-2.result (AppendsPart old new t)) all
    (part_behind_on old mid new front c.args.body.now c.write_all-2.result c.in_default.ensures.ok c.write_all-2.ensures.err)
