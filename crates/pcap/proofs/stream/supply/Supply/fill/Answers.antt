use Rattle.std.proofs.Common.{◌∙◌, Err, Ok, OnErr, Result, arith, length-take, rules, take}
use Rattle.pcap.proofs.Aheads.{thrifty_then_failed}
use Rattle.pcap.proofs.Parts.{Spends-trans, front_more}
use Rattle.pcap.proofs.stream.supply.Supply.fill.Goals as goal

pub loop-at-preserved : goal.loop-at-preserved
loop-at-preserved g c =
    let read = c.in_ok-n.ensures in
    let before = c.loop-at.invariant in
    record {
      fits = search rules;
      behind = omega arith;
      same = search rules;
      taken = front_more _ _ _ c.loop-at.octets c.read_between.new.octets c.loop-at.at c.in_ok-n.n read.front before.taken read.taken;
      quiet = search rules;
      no_end = read.no_end c.if-n-eq0.false ∙ before.no_end;
      spent = Spends-trans _ _ _ before.spent read.spent;
      thrift = omega arith;
      whole = omega arith;
      brings = omega arith;
    }

on_err : {T E : Type 0} (P : Type 0) (r : Result T E) → P → OnErr r P
on_err P (Ok x) p = tt
on_err P (Err e) p = p

pub returns-in_err-n-clause-thrift : goal.returns-in_err-n-clause-thrift
returns-in_err-n-clause-thrift g c =
    let failed = c.in_err-n.ensures in
    let before = c.loop-at.invariant in
    let held = length-take c.args.held c.args.octets.now in
    let there = length-take c.loop-at.at c.loop-at.octets in
    on_err _ c.from_residual.result
    (thrifty_then_failed (take c.args.held c.args.octets.now) (take c.loop-at.at c.loop-at.octets) c.args.self.now c.loop-at.self c.read_between.new.self before.taken
    (omega (arith, held, there, before.thrift, before.fits, before.same, c.requires.room)) failed.none failed.one)
