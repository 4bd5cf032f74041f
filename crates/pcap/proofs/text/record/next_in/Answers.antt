use Rattle.std.proofs.Common.{refl, sym, ◌+◌, arith, length-drop}
use Rattle.std.proofs.lemmas.Grind.{common_steps}
use Rattle.std.proofs.lemmas.List.{take_all}
use Rattle.pcap.proofs.Nexts.{next_of-cut, next_of-faulty, next_of-found}
use Rattle.pcap.proofs.text.record.next_in.Goals as goal

pub returns-in-Err-clause-next : goal.returns-in-Err-clause-next
returns-in-Err-clause-next c =
    sym (next_of-faulty c.args.style c.args.text.now c.in-Err.fault (omega arith) (sym c.in-Err.ensures.value))

pub returns-then-text-end-clause-next : goal.returns-then-text-end-clause-next
returns-then-text-end-clause-next c =
    sym (next_of-cut c.args.style c.args.text.now c.in-Ok.header (omega arith) (sym c.in-Ok.ensures.value) (omega arith))

pub returns-clause-next : goal.returns-clause-next
returns-clause-next c =
    next_of-found c.args.style c.args.text.now c.in-Ok.header _ _ _ _ (omega arith) (sym c.in-Ok.ensures.value) (omega arith)
    c.moment.ensures refl (grind (arith, common_steps)) (take_all _ _ (omega (arith, length-drop (16 + c.in-Ok.header.captured) c.args.text.now)))
