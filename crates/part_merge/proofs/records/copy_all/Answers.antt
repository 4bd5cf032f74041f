use Rattle.std.proofs.Common.{◌≡◌, ◌∙◌, ◌++◌, refl, sym, subst, length, arith, Err}
use Rattle.std.proofs.KnownBytes.{Keeps-refl, Keeps-trans}
use Rattle.part_merge.specs.Left.{IsTap}
use Rattle.part_merge.specs.Merged.{records_at}
use Rattle.part_merge.proofs.Blaming.{captures_behind, writes_behind}
use Rattle.part_merge.proofs.CopiedRecords.{all_copied, left_before, next_of, none_copied, one_copied}
use Rattle.part_merge.proofs.records.copy_all.Goals as goal

pub loop-tap-init : goal.loop-tap-init
loop-tap-init g c = record {
  ports = refl;
  sinks = c.requires;
  copied = λ records rest are sound left. none_copied records rest c.args.places c.args.captures.now.ports.items c.args.captures.now.underlay c.args.port_sinks.now c.args.underlay_sink.now are sound left;
  reads = refl;
  lines = Keeps-refl (g.W.Output.written c.args.decisions.now);
  writes = refl;
}

pub returns-in-Err-clause-copied : goal.returns-in-Err-clause-copied
returns-in-Err-clause-copied g c = λ records rest are sound left.
    let so_far = c.loop-tap.invariant.copied records rest are sound left in
    let next = next_of c.in-Some.tap c.loop-tap.places c.next_place.new.self (length c.args.captures.now.ports.items) so_far.others so_far.places_are c.in-Some.ensures so_far.sound in
    c.in-Err.ensures.copied next.text (λ t. records_at t next.behind ++ rest t) (subst (λ n. IsTap n c.in-Some.tap) (sym c.loop-tap.invariant.ports) next.there) next.written
    (left_before c.in-Some.tap next.text so_far.others next.behind rest c.loop-tap.captures.ports.items c.loop-tap.captures.underlay next.is so_far.left)

pub loop-tap-preserved : goal.loop-tap-preserved
loop-tap-preserved g c = record {
  ports = omega (arith, c.loop-tap.invariant.ports, c.in_default-copy_next.ensures.ports);
  sinks = omega (arith, c.loop-tap.invariant.sinks, c.in_default-copy_next.ensures.ports, c.copy_next.auto.port_sinks);
  copied = λ records rest are sound left.
      let so_far = c.loop-tap.invariant.copied records rest are sound left in
      let next = next_of c.in-Some.tap c.loop-tap.places c.next_place.new.self (length c.args.captures.now.ports.items) so_far.others so_far.places_are c.in-Some.ensures so_far.sound in
      let moved = c.in_default-copy_next.ensures.copied next.text (λ t. records_at t next.behind ++ rest t) (subst (λ n. IsTap n c.in-Some.tap) (sym c.loop-tap.invariant.ports) next.there) next.written
      (left_before c.in-Some.tap next.text so_far.others next.behind rest c.loop-tap.captures.ports.items c.loop-tap.captures.underlay next.is so_far.left) in
      let many : length c.loop-tap.port_sinks ≡ length c.args.port_sinks.now = omega (arith, c.loop-tap.auto.port_sinks) in
      one_copied records rest c.in-Some.tap c.loop-tap.places c.next_place.new.self (length c.args.captures.now.ports.items) c.loop-tap.captures.ports.items c.copy_next.new.captures.ports.items c.loop-tap.captures.underlay c.copy_next.new.captures.underlay
      c.args.port_sinks.now c.args.underlay_sink.now c.loop-tap.port_sinks c.loop-tap.underlay_sink c.copy_next.new.port_sinks c.copy_next.new.underlay_sink so_far next many moved.0 moved.1;
  reads = c.in_default-copy_next.ensures.reads ∙ c.loop-tap.invariant.reads;
  lines = Keeps-trans (g.W.Output.written c.args.decisions.now) (g.W.Output.written c.loop-tap.decisions) (g.W.Output.written c.copy_next.new.decisions) c.loop-tap.invariant.lines c.in_default-copy_next.ensures.kept;
  writes = c.in_default-copy_next.ensures.writes ∙ c.loop-tap.invariant.writes;
}

pub returns-clause-copied : goal.returns-clause-copied
returns-clause-copied g c = λ records rest are sound left.
    let so_far = c.loop-tap.invariant.copied records rest are sound left in
    all_copied records rest c.loop-tap.places (length c.args.captures.now.ports.items) c.loop-tap.captures.ports.items c.loop-tap.captures.underlay c.args.port_sinks.now c.args.underlay_sink.now c.loop-tap.port_sinks c.loop-tap.underlay_sink so_far
    c.in_default.ensures.0

pub returns-in-Err-clause-reads : goal.returns-in-Err-clause-reads
returns-in-Err-clause-reads g c =
    captures_behind {T = Unit {0}} c.args.part c.args.captures.now.ports.items c.args.captures.now.underlay c.loop-tap.captures.ports.items c.loop-tap.captures.underlay c.copy_next.new.captures.ports.items c.copy_next.new.captures.underlay (Err c.in-Err.fault) c.loop-tap.invariant.reads c.in-Err.ensures.reads

pub returns-in-Err-clause-writes : goal.returns-in-Err-clause-writes
returns-in-Err-clause-writes g c =
    writes_behind {T = Unit {0}} c.args.port_sinks.now c.args.underlay_sink.now (g.W.Output.failures c.args.decisions.now) c.loop-tap.port_sinks c.loop-tap.underlay_sink (g.W.Output.failures c.loop-tap.decisions)
    c.copy_next.new.port_sinks c.copy_next.new.underlay_sink (g.W.Output.failures c.copy_next.new.decisions) (Err c.in-Err.fault) c.loop-tap.invariant.writes c.in-Err.ensures.writes

pub returns-clause-reads : goal.returns-clause-reads
returns-clause-reads g c = c.loop-tap.invariant.reads

pub returns-clause-writes : goal.returns-clause-writes
returns-clause-writes g c = c.loop-tap.invariant.writes

pub returns-clause-kept : goal.returns-clause-kept
returns-clause-kept g c = c.loop-tap.invariant.lines

pub returns-in-Err-clause-waits : goal.returns-in-Err-clause-waits
returns-in-Err-clause-waits g c = c.in-Err.ensures.waits

pub returns-in-Err-clause-ports : goal.returns-in-Err-clause-ports
returns-in-Err-clause-ports g c = c.in-Err.ensures.ports ∙ c.loop-tap.invariant.ports

pub returns-clause-ports : goal.returns-clause-ports
returns-clause-ports g c = c.loop-tap.invariant.ports
