use Rattle.std.proofs.Common.{◌∙◌, sym}
use Rattle.capture_compare.proofs.Sifting.{told-as, told-none}
use Rattle.capture_compare.proofs.take.next_key.Goals as goal

pub returns-then-ignores : goal.returns-then-ignores
returns-then-ignores g c = λ r e.
    sym (told-none c.args.manner.now c.record.view_is (c.in-Some.ensures.record ∙ e) c.ignores.ensures c.if-ignores.true)

pub returns : goal.returns
returns g c = λ r e.
    told-as c.args.manner.now c.record.view_is (c.in-Some.ensures.record ∙ e) c.ignores.ensures c.if-ignores.false c.missing_of-missing.ensures c.put.ensures c.key-octets.ensures
