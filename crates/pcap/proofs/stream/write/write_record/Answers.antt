use Rattle.std.proofs.Common.{arith, refl, rules, ℕ, List, OnErr, OnOk, subst}
use Rattle.std.specs.Io.KnownBytes.{Appends}
use Rattle.pcap.specs.Sink.{AppendsPart}
use Rattle.pcap.proofs.Records.{text_by, text_is}
use Rattle.pcap.proofs.stream.write.write_record.Goals as goal

pub returns-then-head-tag-le-FRONT-clause-ok : goal.returns-then-head-tag-le-FRONT-clause-ok
returns-then-head-tag-le-FRONT-clause-ok g c =
    let is = text_by c.args.moment _ _ c.args.head.now c.in-Some.pair.now c.args.tag.now c.args.body.now c.args.addresses.now (search rules) c.record_header.ensures (omega arith) in
    subst (λ (t : List ℕ). OnOk c.write_gathered.result (Appends (g.W.Output.written c.args.output.now) (g.W.Output.written c.write_gathered.new.self) t)) is c.write_gathered.ensures.ok

pub returns-then-head-tag-le-FRONT-clause-err : goal.returns-then-head-tag-le-FRONT-clause-err
returns-then-head-tag-le-FRONT-clause-err g c =
    let is = text_by c.args.moment _ _ c.args.head.now c.in-Some.pair.now c.args.tag.now c.args.body.now c.args.addresses.now (search rules) c.record_header.ensures (omega arith) in
    subst (λ (t : List ℕ). OnErr c.write_gathered.result (AppendsPart (g.W.Output.written c.args.output.now) (g.W.Output.written c.write_gathered.new.self) t)) is c.write_gathered.ensures.err

pub returns-clause-ok : goal.returns-clause-ok
returns-clause-ok g c =
    let is = text_is c.args.moment _ _ c.args.head.now c.args.addresses.now c.args.tag.now c.args.body.now c.record_header-2.ensures refl in
    subst (λ (t : List ℕ). OnOk c.write_five.result (Appends (g.W.Output.written c.args.output.now) (g.W.Output.written c.write_five.new.output) t)) is c.write_five.ensures.ok

pub returns-clause-err : goal.returns-clause-err
returns-clause-err g c =
    let is = text_is c.args.moment _ _ c.args.head.now c.args.addresses.now c.args.tag.now c.args.body.now c.record_header-2.ensures refl in
    subst (λ (t : List ℕ). OnErr c.write_five.result (AppendsPart (g.W.Output.written c.args.output.now) (g.W.Output.written c.write_five.new.output) t)) is c.write_five.ensures.err
