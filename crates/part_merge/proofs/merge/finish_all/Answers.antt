use Rattle.std.proofs.Common.{◌≢◌, ◌∙◌, ◌<◌, [], false, Err, refl, sym, ap, subst, length, slice_index_or, arith}
use Rattle.std.proofs.lemmas.List.{drop_all, get_or-set_other, length-set}
use Rattle.part_merge.specs.Blame.{outputs_health, part_health}
use Rattle.part_merge.specs.Coming.{Holds, OpenPart}
use Rattle.part_merge.proofs.Blaming.{lines_alone, lines_writes, reads_behind, same_set, set_reads}
use Rattle.part_merge.proofs.Finishing.{all_cuts, more_cuts, no_cuts}
use Rattle.part_merge.specs.Firsts.{IsNone}
use Rattle.part_merge.proofs.Numbering.{finished, more_cut, none_cut}
use Rattle.part_merge.proofs.merge.finish_all.Goals as goal

pub loop-index-init : goal.loop-index-init
loop-index-init g c = record { others = λ s k le. refl; same = refl; added = λ cuts only. no_cuts cuts (g.W.Output.written c.args.decisions.now); put = none_cut (g.W.Output.written c.args.decisions.now); over = λ none s k lt. absurd (omega (arith, lt)); reads = refl; writes = refl }

pub finish-requires : goal.finish-requires
finish-requires g c =
    let there : c.loop-index.index < length c.args.parts.now = omega (arith, c.loop-index-test.true, c.loop-index.invariant.same) in
    let same = c.loop-index.invariant.others c.index-parts-index.result c.loop-index.index (omega arith) in
    let many = c.requires.counts c.index-parts-index.result c.loop-index.index there in
    omega (arith, ap (λ (s : OpenPart). length s.ports) same, ap (λ (s : OpenPart). length s.ports) c.index-parts-index.is, many, c.requires.few)

pub returns-in-Err-clause-cuts : goal.returns-in-Err-clause-cuts
returns-in-Err-clause-cuts g c = λ cuts only.
    let there : c.loop-index.index < length c.args.parts.now = omega (arith, c.loop-index-test.true, c.loop-index.invariant.same) in
    let same = c.loop-index.invariant.others c.index-parts-index.result c.loop-index.index (omega arith) in
    c.in-Err.ensures.cuts c.args.count (slice_index_or cuts c.loop-index.index []) (subst (Holds c.args.count [] (slice_index_or cuts c.loop-index.index [])) (sym same) (only.each c.index-parts-index.result c.loop-index.index there))

pub loop-index-preserved : goal.loop-index-preserved
loop-index-preserved g c = record {
  others = λ s k le.
      let apart : k ≢ c.loop-index.index = λ e. omega (arith, e, le) in
      get_or-set_other c.loop-index.parts c.loop-index.index k c.finish.new.self s apart ∙ c.loop-index.invariant.others s k (omega (arith, le));
  same = length-set c.loop-index.parts c.loop-index.index c.finish.new.self ∙ c.loop-index.invariant.same;
  added = λ cuts only.
      let there : c.loop-index.index < length c.args.parts.now = omega (arith, c.loop-index-test.true, c.loop-index.invariant.same) in
      let same = c.loop-index.invariant.others c.index-parts-index.result c.loop-index.index (omega arith) in
      more_cuts cuts c.loop-index.index (g.W.Output.written c.args.decisions.now) (g.W.Output.written c.loop-index.decisions) (g.W.Output.written c.finish.new.decisions) (omega (arith, there, only.many_cuts)) (c.loop-index.invariant.added cuts only)
      (c.in_default.ensures.cuts c.args.count (slice_index_or cuts c.loop-index.index []) (subst (Holds c.args.count [] (slice_index_or cuts c.loop-index.index [])) (sym same) (only.each c.index-parts-index.result c.loop-index.index there)));
  put = more_cut (g.W.Output.written c.args.decisions.now) (g.W.Output.written c.loop-index.decisions) (g.W.Output.written c.finish.new.decisions) c.loop-index.invariant.put c.in_default.ensures.put;
  over = λ none.
      let there : c.loop-index.index < length c.args.parts.now = omega (arith, c.loop-index-test.true, c.loop-index.invariant.same) in
      let same = c.loop-index.invariant.others c.index-parts-index.result c.loop-index.index (omega arith) in
      finished c.loop-index.parts c.loop-index.index c.finish.new.self (omega (arith, there, c.loop-index.invariant.same)) (c.loop-index.invariant.over none)
      (c.in_default.ensures.over (subst (λ (s : OpenPart). IsNone s.coming) (sym same) (none c.index-parts-index.result c.loop-index.index there)));
  reads = same_set part_health c.loop-index.parts c.loop-index.index c.finish.new.self c.index-parts-index.result (omega (arith, c.loop-index-test.true, c.loop-index.invariant.same)) c.in_default.ensures.reads ∙ c.loop-index.invariant.reads;
  writes = lines_alone _ _ c.in_default.ensures.writes ∙ c.loop-index.invariant.writes;
}

pub returns-clause-cuts : goal.returns-clause-cuts
returns-clause-cuts g c = λ cuts only.
    all_cuts cuts c.loop-index.index (g.W.Output.written c.args.decisions.now) (g.W.Output.written c.loop-index.decisions)
    (drop_all c.loop-index.index cuts (omega (arith, c.loop-index-test.false, c.loop-index.invariant.same, only.many_cuts))) (c.loop-index.invariant.added cuts only)

pub returns-in-Err-clause-reads : goal.returns-in-Err-clause-reads
returns-in-Err-clause-reads g c =
    reads_behind {T = Unit {0}} c.args.parts.now c.loop-index.parts _ (Err c.in-Err.fault) c.loop-index.invariant.reads
    (set_reads {T = Unit {0}} c.loop-index.parts c.loop-index.index c.index-parts-index.result c.finish.new.self (Err c.in-Err.fault) (omega (arith, c.loop-index-test.true, c.loop-index.invariant.same)) c.in-Err.ensures.reads)

pub returns-in-Err-clause-writes : goal.returns-in-Err-clause-writes
returns-in-Err-clause-writes g c = lines_writes {T = Unit {0}} _ _ _ (Err c.in-Err.fault) c.loop-index.invariant.writes c.in-Err.ensures.writes

pub returns-clause-reads : goal.returns-clause-reads
returns-clause-reads g c = c.loop-index.invariant.reads

pub returns-clause-writes : goal.returns-clause-writes
returns-clause-writes g c = λ sinks underlay_sink. ap (outputs_health sinks underlay_sink) c.loop-index.invariant.writes

pub returns-clause-put : goal.returns-clause-put
returns-clause-put g c = c.loop-index.invariant.put

pub returns-clause-over : goal.returns-clause-over
returns-clause-over g c = λ none s k lt. c.loop-index.invariant.over none s k (omega (arith, lt, c.loop-index-test.false, c.loop-index.invariant.same))
