use Rattle.std.proofs.Common.{length}
use Rattle.pcapng_input.proofs.Written.{goes_on, more_blocks, more_offset, starts, starts_blocks, starts_offset, stops_cut, stops_faulty, stops_refused, stops_whole}
use Rattle.pcapng_input.proofs.classic.classic_of.Goals as goal

pub loop-block-init : goal.loop-block-init
loop-block-init c = record {
  so_far = starts c.args.selection c.args.text.now c.put_header.new.out.items c.new-out.result.items c.new-context.result c.new-out.ensures.items c.in_ok-put_header.ensures.ok c.new-context.ensures;
  blocks = starts_blocks c.new-context.result c.new-context.ensures;
  offset = starts_offset c.new-context.result c.args.text.now c.new-context.ensures;
}

pub loop-block-preserved : goal.loop-block-preserved
loop-block-preserved c = record {
  so_far = goes_on c.args.selection c.args.text.now c.loop-block.out.items _ c.loop-block.context c.step.new.self c.loop-block.rest.now c.in-Another.behind.now c.in-Another.block c.in-Ok.found
      c.order.result c.order.ensures c.in-Another.ensures.next c.in-Ok.ensures.step c.in_ok-put_found-in-Another.ensures c.loop-block.invariant.so_far;
  blocks = more_blocks c.loop-block.context.blocks c.loop-block.context.offset c.step.new.self.blocks c.step.new.self.offset (length c.in-Another.block.body)
      c.in-Ok.ensures.blocks c.in-Ok.ensures.offset c.loop-block.invariant.blocks;
  offset = more_offset c.loop-block.context.offset c.step.new.self.offset (length c.in-Another.block.body) (length c.loop-block.rest.now) (length c.in-Another.behind.now) (length c.args.text.now)
      c.in-Ok.ensures.offset c.in-Another.ensures.shorter c.loop-block.invariant.offset;
}

pub returns-in-Err-clause-error : goal.returns-in-Err-clause-error
returns-in-Err-clause-error c =
    stops_faulty c.args.selection c.args.text.now c.loop-block.out.items c.loop-block.context c.loop-block.rest.now c.in-Another.behind.now c.in-Another.block c.order.result c.in-Err.error
    c.order.ensures c.in-Another.ensures.next c.in-Err.ensures.fault c.loop-block.invariant.so_far

pub returns-in-AllRead-clause-capture : goal.returns-in-AllRead-clause-capture
returns-in-AllRead-clause-capture c =
    stops_whole c.args.selection c.args.text.now c.loop-block.out.items c.loop-block.context c.loop-block.rest.now c.order.result c.order.ensures
    c.in-AllRead.ensures.next c.loop-block.invariant.so_far

pub returns-in-CutShort-clause-capture : goal.returns-in-CutShort-clause-capture
returns-in-CutShort-clause-capture c =
    stops_cut c.args.selection c.args.text.now c.loop-block.out.items _ c.loop-block.context c.loop-block.rest.now c.order.result c.order.ensures
    c.in-CutShort.ensures.next c.in_ok-push-in-CutShort.ensures.items c.loop-block.invariant.so_far

pub returns-in-Refused-clause-error : goal.returns-in-Refused-clause-error
returns-in-Refused-clause-error c =
    stops_refused c.args.selection c.args.text.now c.loop-block.out.items c.loop-block.context c.loop-block.rest.now c.order.result c.in-Refused.fault c.fault.result
    c.order.ensures c.in-Refused.ensures.next c.fault.ensures c.loop-block.invariant.so_far
