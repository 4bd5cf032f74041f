use Rattle.part_record.proofs.OutputText.{put_more}
use Rattle.part_record.proofs.outputs.put_outputs.Goals as goal

pub loop-place-preserved : goal.loop-place-preserved
loop-place-preserved c = record {
  put = put_more c.args.text.now.items c.loop-place.text.items c.put_word.new.text.items c.put_numbers.new.text.items c.args.outputs.now c.loop-place.place _ c.loop-place-test.true c.loop-place.invariant.put c.in_ok-put_word.ensures c.in_ok-put_numbers.ensures;
}
