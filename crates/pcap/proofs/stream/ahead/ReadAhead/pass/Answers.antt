use Rattle.std.proofs.Common.{rules, sym, subst, ◌+◌, ◌≤◌, length, arith}
use Rattle.pcap.specs.Ahead.{left_of}
use Rattle.pcap.specs.Supply.{IsThrifty, Supply, TakesOneEach}
use Rattle.std.specs.Io.KnownBytes.{Consumes, prepend_known}
use Rattle.pcap.proofs.Aheads.{ahead_taken, ahead_whole, one_each_behind, one_each_none, thrifty_behind, thrifty_none}
use Rattle.pcap.proofs.stream.ahead.ReadAhead.pass.Goals as goal
use Rattle.pcap.proofs.stream.ahead.ReadAhead.pass.Goals.{then-held-wanted+in_ok-bring, else-held-wanted}

pub returns-clause-taken : goal.returns-clause-taken
returns-clause-taken g c =
    let mid = c.if-held-wanted.self in
    let whole : Consumes (left_of c.args.self.now).rest mid.input.rest mid.ahead = elim c.if-held-wanted.branch [
      | then-held-wanted+in_ok-bring w ↦ search rules
      | else-held-wanted w ↦ rw w.self-is (ahead_whole c.args.self.now.input.rest c.args.self.now.ahead)
    ] in
    ahead_taken _ mid c.take.new.self _ whole c.take.ensures.input c.take.ensures.taken c.take.ensures.ahead

pub returns-clause-below : goal.returns-clause-below
returns-clause-below g c =
    let old = c.args.self.now in
    let mid = c.if-held-wanted.self in
    let thrift : IsThrifty old.input mid.input = elim c.if-held-wanted.branch [
      | then-held-wanted+in_ok-bring w ↦
          let taken : Consumes (prepend_known old.ahead old.input.rest) mid.input.rest mid.ahead = search rules in
          let few : old.input.reads + length old.ahead ≤ mid.input.reads + length mid.ahead + 1 = search rules in
          thrifty_behind old.ahead mid.ahead old.input mid.input taken few
      | else-held-wanted w ↦ rw w.self-is (thrifty_none old.input)
    ] in
    subst (λ (s : Supply). IsThrifty old.input s) (sym c.take.ensures.input) thrift

pub returns-clause-each : goal.returns-clause-each
returns-clause-each g c full =
    let old = c.args.self.now in
    let mid = c.if-held-wanted.self in
    let there : c.args.wanted ≤ length mid.ahead = search rules in
    let each : TakesOneEach old.input mid.input = elim c.if-held-wanted.branch [
      | then-held-wanted+in_ok-bring w ↦
          let taken : Consumes (prepend_known old.ahead old.input.rest) mid.input.rest mid.ahead = search rules in
          let whole : old.input.reads + length old.ahead ≤ mid.input.reads + c.args.wanted = search rules in
          one_each_behind old.ahead mid.ahead old.input mid.input taken (omega (arith, whole, there))
      | else-held-wanted w ↦ rw w.self-is (one_each_none old.input)
    ] in
    subst (λ (s : Supply). TakesOneEach old.input s) (sym c.take.ensures.input) each
