use Rattle.run_reports.proofs.Seeking.{addresses_read}
use Rattle.run_reports.proofs.sought.read_addresses.Goals as goal

pub loop-place-preserved : goal.loop-place-preserved
loop-place-preserved c = addresses_read c.args.names.now c.loop-place.place _ c.loop-place.addresses.items c.put_addresses.new.addresses.items c.address_in.result c.loop-place-test.true c.loop-place.invariant c.address_in.ensures c.in_ok-put_addresses.ensures
