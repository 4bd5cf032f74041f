use Rattle.std.proofs.Common.{◌≡◌, ◌∙◌, ◌≤◌, true, ap, arith, length, refl, rules, subst}
use Rattle.std.proofs.lemmas.Bool.{both_ways}
use Rattle.pcapng_input.proofs.Settling.{settles_cut, settles_faulty, settles_put, settles_refused, settles_short, settles_wanting, settles_whole}
use Rattle.pcapng_input.specs.Block.{next_block, order_at}
use Rattle.pcapng_input.specs.Context.{IsStepError}
use Rattle.pcapng_input.specs.Reading.{step_of}
use Rattle.pcapng_input.specs.State.{wanting_by}
use Rattle.pcapng_input.specs.declared.fault.PcapngError.TheVariants.{Faulty}
use Rattle.pcapng_input.proofs.settle.settle.Goals as goal
use Rattle.pcapng_input.proofs.settle.settle.Goals.{After-order, else-is_more-via-else-is_more, else-is_more-via-then-is_more+else-held-lt-EMPTY_BLOCK}

-- where more may follow, 12 octets are held
long : (c : After-order) → c.args.is_more ≡ true → 12 ≤ length c.args.held.now
long c e = elim c.else-is_more.branch [
  | else-is_more-via-then-is_more+else-held-lt-EMPTY_BLOCK w ↦ omega (arith, w.if-held-lt-EMPTY_BLOCK.false)
  | else-is_more-via-else-is_more w ↦ absurd (both_ways c.args.is_more w.if-is_more.false e)
]

pub returns-then-held-lt-EMPTY_BLOCK : goal.returns-then-held-lt-EMPTY_BLOCK
returns-then-held-lt-EMPTY_BLOCK c =
    settles_short c.args.selection c.args.context.now c.args.held.now c.args.ready.now c.args.is_more c.requires.empty c.if-held-lt-EMPTY_BLOCK.true

pub returns-then-is_more-2 : goal.returns-then-is_more-2
returns-then-is_more-2 c =
    let held = c.args.held.now in
    settles_wanting c.args.selection c.args.context.now held c.args.ready.now c.args.is_more c.args.context.now.order c.unfinished.result refl
    (c.in-CutShort.ensures.next ∙ ap (λ o. next_block o held) c.order.ensures)
    (long (goal.at.returns-then-is_more-2 c).After-order c.if-is_more-2.true)
    c.requires.size c.requires.empty (c.unfinished.ensures ∙ ap (λ o. wanting_by (order_at o held) held) c.order-then-is_more-2.ensures)

pub returns-in-Ok : goal.returns-in-Ok
returns-in-Ok c =
    settles_put c.args.selection c.args.context.now c.take.new.context c.args.held.now c.in-Another.field-1.now c.take.new.ready c.args.is_more c.in-Another.block
    c.order.result c.order.ensures c.in-Another.ensures.next c.requires.part c.in-Ok.ensures.taken c.in-Ok.ensures.blocks c.in-Ok.ensures.offset
    c.in-Another.ensures.shorter

pub returns-in-Err-Faulty : goal.returns-in-Err-Faulty
returns-in-Err-Faulty c =
    let same : c.in-Err-Faulty.field-0 ≡ Faulty c.in-Err-Faulty.fault = search rules in
    let step = subst (IsStepError (step_of c.args.selection c.args.context.now c.in-Another.block) c.args.context.now) same c.in-Err-Faulty.ensures.fault in
    settles_faulty c.args.selection c.args.context.now c.take.new.context c.args.held.now c.in-Another.field-1.now c.take.new.ready c.args.is_more c.in-Another.block c.in-Err-Faulty.fault
    c.order.result c.order.ensures c.in-Another.ensures.next c.requires.part step c.in-Err-Faulty.ensures.ready c.in-Err-Faulty.ensures.context

pub returns-in-AllRead : goal.returns-in-AllRead
returns-in-AllRead c =
    settles_whole c.args.selection c.args.context.now c.args.held.now c.args.ready.now c.args.is_more c.order.result c.order.ensures c.in-AllRead.ensures.next (long (goal.at.returns-in-AllRead c).After-order) c.requires.empty

pub returns-else-is_more-2 : goal.returns-else-is_more-2
returns-else-is_more-2 c =
    settles_cut c.args.selection c.args.context.now c.args.held.now c.put.new.self c.args.is_more c.order.result c.order.ensures c.in-CutShort.ensures.next c.if-is_more-2.false c.put.ensures

pub returns-in-Refused : goal.returns-in-Refused
returns-in-Refused c =
    settles_refused c.args.selection c.args.context.now c.args.held.now c.args.ready.now c.args.is_more c.order.result c.in-Refused.fault c.fault.result c.order.ensures
    c.in-Refused.ensures.next (long (goal.at.returns-in-Refused c).After-order) c.requires.empty c.fault.ensures
