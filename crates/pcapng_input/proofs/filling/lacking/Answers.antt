use Rattle.std.proofs.Common.{◌∙◌, sym, arith}
use Rattle.pcapng_input.proofs.Advance.{lacks_some, long_of, not_cut, stands}
use Rattle.pcapng_input.proofs.Grown.{cut_block}
use Rattle.pcapng_input.specs.Block.{order_at}
use Rattle.pcapng_input.specs.Seen.{block_seen}
use Rattle.pcapng_input.proofs.filling.lacking.Goals as goal

pub returns-in_default : goal.returns-in_default
returns-in_default c =
    λ rest. stands c.args.section c.args.held.now rest (block_seen c.next_block.result) (omega (arith, c.if-held-lt-EMPTY_BLOCK.false)) c.next_block.ensures.next
    (not_cut c.next_block.result c.in_default.not-CutShort)

pub returns-in_default-order_at : goal.returns-in_default-order_at
returns-in_default-order_at c =
    let cut = cut_block c.args.section c.args.held.now (omega (arith, c.if-held-lt-EMPTY_BLOCK.false)) c.in-CutShort.ensures.next in
    absurd (c.in_default-order_at.not-Some cut.0 (c.order_at.ensures ∙ cut.1.told))

pub returns-then-size-gt-LONGEST_BLOCK : goal.returns-then-size-gt-LONGEST_BLOCK
returns-then-size-gt-LONGEST_BLOCK c =
    long_of c.args.section c.args.held.now c.in-Some.order c.told_size-size.result (omega (arith, c.if-held-lt-EMPTY_BLOCK.false)) c.requires c.in-CutShort.ensures.next
    (sym c.order_at.ensures ∙ c.in-Some.is) c.told_size-size.ensures c.if-size-gt-LONGEST_BLOCK.true

pub returns : goal.returns
returns c = (
  lacks_some c.args.section c.args.held.now c.in-Some.order c.told_size-size.result (omega (arith, c.if-held-lt-EMPTY_BLOCK.false)) c.in-CutShort.ensures.next
      (sym c.order_at.ensures ∙ c.in-Some.is) c.told_size-size.ensures,
  omega (arith, c.if-size-gt-LONGEST_BLOCK.false),
)
