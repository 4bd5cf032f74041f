use Rattle.std.proofs.Common.{◌∙◌, refl}
use Rattle.stream_run.proofs.Opened.{none_open, one_open, open_stops, open_stops_reads, still_new}
use Rattle.stream_run.proofs.opening.open_all.Goals as goal

pub loop-index-init : goal.loop-index-init
loop-index-init g c = record { so_far = none_open c.args.captures.now.ports.items c.args.captures.now.underlay; still = refl }

pub open_at-requires-clause-new : goal.open_at-requires-clause-new
open_at-requires-clause-new g c = still_new c.loop-index.index c.args.captures.now.ports.items c.args.captures.now.underlay c.loop-index.captures.ports.items c.loop-index.captures.underlay c.loop-index.invariant.so_far c.requires.new_ports c.requires.new_underlay

pub loop-index-preserved : goal.loop-index-preserved
loop-index-preserved g c = record {
  so_far = one_open c.loop-index.index c.args.captures.now.ports.items c.args.captures.now.underlay c.loop-index.captures.ports.items c.loop-index.captures.underlay c.loop-index.invariant.so_far c.open_at.new.captures.ports.items c.open_at.new.captures.underlay c.in_default.ensures.opened;
  still = c.in_default.ensures.may_wait ∙ c.loop-index.invariant.still;
}

pub returns-in-Err-clause-opened : goal.returns-in-Err-clause-opened
returns-in-Err-clause-opened g c = open_stops c.loop-index.index c.args.captures.now.ports.items c.args.captures.now.underlay c.loop-index.captures.ports.items c.loop-index.captures.underlay c.loop-index.invariant.so_far c.open_at.new.captures.ports.items c.open_at.new.captures.underlay c.in-Err.fault c.in-Err.ensures.opened

pub returns-in-Err-clause-reads : goal.returns-in-Err-clause-reads
returns-in-Err-clause-reads g c = open_stops_reads c.loop-index.index c.args.captures.now.ports.items c.args.captures.now.underlay c.loop-index.captures.ports.items c.loop-index.captures.underlay c.loop-index.invariant.so_far c.open_at.new.captures.ports.items c.open_at.new.captures.underlay c.in-Err.fault c.in-Err.ensures.opened

pub returns-clause-reads : goal.returns-clause-reads
returns-clause-reads g c = c.loop-index.invariant.so_far.quiet

pub returns-in-Err-clause-may_wait : goal.returns-in-Err-clause-may_wait
returns-in-Err-clause-may_wait g c = c.in-Err.ensures.may_wait ∙ c.loop-index.invariant.still

pub returns-clause-may_wait : goal.returns-clause-may_wait
returns-clause-may_wait g c = c.loop-index.invariant.still
