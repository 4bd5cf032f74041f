use Rattle.std.proofs.Common.{rules, ◌≡◌, ◌∙◌, ◌++◌, ◌-◌, ◌<◌, sym, ap, subst, length, slice_index_or, arith}
use Rattle.std.proofs.lemmas.List.{get_or_default}
use Rattle.timeline.specs.declared.source.Tap.TheVariants.{Port}
use Rattle.part_merge.specs.Left.{IsAdded, IsLeft, UnlessDevice}
use Rattle.part_merge.proofs.Blaming.{place_reads, place_writes}
use Rattle.part_merge.proofs.Moving.{left_here, port_moved}
use Rattle.part_merge.proofs.Waits.{place_waits}
use Rattle.part_merge.proofs.records.copy_port.Goals as goal

pub offset_bounds-port_sinks-index : goal.offset_bounds-port_sinks-index
offset_bounds-port_sinks-index g c =
    let there : c.from-index.result - 1 < length c.args.port_sinks.now = omega (arith, c.if-index-eq0.false, c.if-index-ports.false, c.requires) in search rules

pub returns-clause-copied : goal.returns-clause-copied
returns-clause-copied g c = λ text rest underlay underlay_sink at written left.
    let p = c.args.port in
    let index : c.from-index.result - 1 ≡ p - 1 = ap (λ n. n - 1) c.from-index.ensures in
    let there : c.from-index.result - 1 < length c.args.ports.now = omega (arith, c.from-index.ensures, at.0, at.1) in
    let there_too : c.from-index.result - 1 < length c.args.port_sinks.now = omega (arith, there, c.requires) in
    let source : slice_index_or c.args.ports.now (p - 1) underlay ≡ slice_index_or c.args.ports.now (c.from-index.result - 1) c.index-ports-index.result =
    ap (λ k. slice_index_or c.args.ports.now k underlay) (sym index) ∙ get_or_default c.args.ports.now (c.from-index.result - 1) underlay c.index-ports-index.result there in
    let sink : slice_index_or c.args.port_sinks.now (c.from-index.result - 1) c.index-port_sinks-index.result ≡ slice_index_or c.args.port_sinks.now (p - 1) underlay_sink =
    get_or_default c.args.port_sinks.now (c.from-index.result - 1) c.index-port_sinks-index.result underlay_sink there_too ∙ ap (λ k. slice_index_or c.args.port_sinks.now k underlay_sink) index in
    let here = subst (IsLeft (text ++ rest (Port p))) source (left_here p text (rest (Port p)) _ (left (Port p) at)) in
    rw index
    (port_moved c.args.ports.now underlay c.copy_record.new.capture c.args.port_sinks.now underlay_sink c.copy_record.new.sink p text rest c.copy_record.result at.0 at.1 c.requires left
    (subst (λ d. UnlessDevice c.copy_record.result (IsLeft (rest (Port p)) c.copy_record.new.capture × IsAdded text d c.copy_record.new.sink)) sink (c.copy_record.ensures.copied text (rest (Port p)) written here)))

pub returns-clause-reads : goal.returns-clause-reads
returns-clause-reads g c = λ underlay.
    let there : c.from-index.result - 1 < length c.args.ports.now = omega (arith, c.from-index.ensures, c.if-index-eq0.false, c.if-index-ports.false) in
    place_reads c.args.part c.args.ports.now underlay c.copy_record.new.capture c.index-ports-index.result (c.from-index.result - 1) c.copy_record.result there c.copy_record.ensures.reads

pub returns-clause-writes : goal.returns-clause-writes
returns-clause-writes g c = λ underlay_sink failures.
    let there : c.from-index.result - 1 < length c.args.port_sinks.now = omega (arith, c.from-index.ensures, c.if-index-eq0.false, c.if-index-ports.false, c.requires) in
    place_writes c.args.port_sinks.now underlay_sink c.copy_record.new.sink c.index-port_sinks-index.result failures (c.from-index.result - 1) c.args.port c.copy_record.result there (omega (arith, c.from-index.ensures, c.if-index-eq0.false)) c.copy_record.ensures.writes

pub returns-clause-waits : goal.returns-clause-waits
returns-clause-waits g c = λ underlay.
    let there : c.from-index.result - 1 < length c.args.ports.now = omega (arith, c.from-index.ensures, c.if-index-eq0.false, c.if-index-ports.false) in
    place_waits c.args.ports.now underlay c.index-ports-index.result c.args.port_sinks.now c.copy_record.new.sink c.index-port_sinks-index.result (c.from-index.result - 1) c.args.port c.copy_record.result
    (omega (arith, c.from-index.ensures, c.if-index-eq0.false)) there (omega (arith, there, c.requires)) c.copy_record.ensures.waits
