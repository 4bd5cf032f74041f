use Rattle.run_reports.proofs.Seeking.{reasons_read}
use Rattle.run_reports.proofs.sought.read_reasons.Goals as goal

pub loop-place-preserved : goal.loop-place-preserved
loop-place-preserved c = reasons_read c.args.names.now c.loop-place.place _ c.loop-place.reasons.items c.put_reasons.new.reasons.items c.reasons_in.result c.loop-place-test.true c.loop-place.invariant c.reasons_in.ensures c.in_ok-put_reasons.ensures
