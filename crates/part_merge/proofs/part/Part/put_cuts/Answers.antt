use Rattle.std.proofs.Common.{◌≡◌, ◌∙◌, [], true, false, length, ap, sym, refl, subst, arith, Err}
use Rattle.part_merge.specs.Blame.{outputs_health}
use Rattle.part_merge.specs.Coming.{is_over}
use Rattle.part_merge.proofs.Blaming.{lines_alone, lines_writes, part_behind}
use Rattle.part_merge.proofs.Ending.{all_put, another, never_too_many, none_put, one_put}
use Rattle.part_merge.proofs.Lining.{over_cut, over_none}
use Rattle.part_merge.specs.Numbered.{AddsLine}
use Rattle.part_merge.specs.declared.coming.Coming.{Coming}
use Rattle.part_merge.proofs.Numbering.{cut_comes, none_cut, nothing_comes, one_cut}
use Rattle.part_merge.proofs.part.Part.put_cuts.Goals as goal

pub loop-count-init : goal.loop-count-init
loop-count-init g c = record { ports = refl; cuts = λ count cuts holds. none_put count cuts c.args.self.now (g.W.Output.written c.args.decisions.now) holds; put = none_cut (g.W.Output.written c.args.decisions.now); over = λ none. none; reads = refl; writes = refl }

pub returns-then-is_over-clause-cuts : goal.returns-then-is_over-clause-cuts
returns-then-is_over-clause-cuts g c = λ count cuts holds.
    let so_far = c.loop-count.invariant.cuts count cuts holds in
    let over : is_over c.loop-count.self.coming ≡ true = ap is_over (sym c.coming.ensures) ∙ sym c.is_over.ensures ∙ c.if-is_over.true in
    all_put count cuts c.loop-count._count c.loop-count.self (g.W.Output.written c.args.decisions.now) (g.W.Output.written c.loop-count.decisions) so_far (over_none c.loop-count.self.coming over)

pub returns-in-Err-clause-cuts : goal.returns-in-Err-clause-cuts
returns-in-Err-clause-cuts g c = λ count cuts holds.
    let so_far = c.loop-count.invariant.cuts count cuts holds in
    let over : is_over c.loop-count.self.coming ≡ false = ap is_over (sym c.coming.ensures) ∙ sym c.is_over.ensures ∙ c.if-is_over.false in
    let more = another count so_far.others c.loop-count.self so_far.holds (over_cut c.loop-count.self.coming over) in
    c.in-Err.ensures.line count [] more.behind more.stand

pub loop-count-preserved : goal.loop-count-preserved
loop-count-preserved g c =
    let not_over : is_over c.loop-count.self.coming ≡ false = ap is_over (sym c.coming.ensures) ∙ sym c.is_over.ensures ∙ c.if-is_over.false in record {
      ports = ap length c.in_default.ensures.ports ∙ c.loop-count.invariant.ports;
      cuts = λ count cuts holds.
          let so_far = c.loop-count.invariant.cuts count cuts holds in
          let over : is_over c.loop-count.self.coming ≡ false = ap is_over (sym c.coming.ensures) ∙ sym c.is_over.ensures ∙ c.if-is_over.false in
          let more = another count so_far.others c.loop-count.self so_far.holds (over_cut c.loop-count.self.coming over) in
          let next = c.in_default.ensures.line count [] more.behind more.stand in
          one_put count cuts c.loop-count._count c.loop-count.self c.put_next_line.new.self (g.W.Output.written c.args.decisions.now) (g.W.Output.written c.loop-count.decisions) (g.W.Output.written c.put_next_line.new.decisions)
          so_far more c.in_default.ensures.ports c.in_default.ensures.underlay next.0 next.1;
      put = one_cut (g.W.Output.written c.args.decisions.now) (g.W.Output.written c.loop-count.decisions) (g.W.Output.written c.put_next_line.new.decisions) c.loop-count.invariant.put
          (subst (λ (k : Coming). AddsLine k (g.W.Output.written c.loop-count.decisions) (g.W.Output.written c.put_next_line.new.decisions)) (cut_comes c.loop-count.self.coming not_over) c.in_default.ensures.put);
      over = λ none. c.in_default.ensures.behind_cut (over_cut c.loop-count.self.coming not_over);
      reads = c.in_default.ensures.reads ∙ c.loop-count.invariant.reads;
      writes = lines_alone _ _ c.in_default.ensures.writes ∙ c.loop-count.invariant.writes;
    }

pub returns-clause-cuts : goal.returns-clause-cuts
returns-clause-cuts g c = λ count cuts holds.
    let so_far = c.loop-count.invariant.cuts count cuts holds in
    never_too_many count cuts c.loop-count._count c.loop-count.self (g.W.Output.written c.args.decisions.now) (g.W.Output.written c.loop-count.decisions) so_far holds.few (omega (arith, c.loop-count-test.false, c.loop-count.auto._count-end))

pub returns-then-is_over-clause-reads : goal.returns-then-is_over-clause-reads
returns-then-is_over-clause-reads g c = c.loop-count.invariant.reads

pub returns-then-is_over-clause-writes : goal.returns-then-is_over-clause-writes
returns-then-is_over-clause-writes g c = λ sinks underlay_sink. ap (outputs_health sinks underlay_sink) c.loop-count.invariant.writes

pub returns-in-Err-clause-reads : goal.returns-in-Err-clause-reads
returns-in-Err-clause-reads g c = part_behind {T = Unit {0}} c.args.part c.args.self.now c.loop-count.self c.put_next_line.new.self (Err c.in-Err.fault) c.loop-count.invariant.reads c.in-Err.ensures.reads

pub returns-in-Err-clause-writes : goal.returns-in-Err-clause-writes
returns-in-Err-clause-writes g c = lines_writes {T = Unit {0}} _ _ _ (Err c.in-Err.fault) c.loop-count.invariant.writes c.in-Err.ensures.writes

pub returns-clause-reads : goal.returns-clause-reads
returns-clause-reads g c = c.loop-count.invariant.reads

pub returns-clause-writes : goal.returns-clause-writes
returns-clause-writes g c = λ sinks underlay_sink. ap (outputs_health sinks underlay_sink) c.loop-count.invariant.writes

pub returns-then-is_over-clause-put : goal.returns-then-is_over-clause-put
returns-then-is_over-clause-put g c = c.loop-count.invariant.put

pub returns-then-is_over-clause-over : goal.returns-then-is_over-clause-over
returns-then-is_over-clause-over g c = λ none.
    let over : is_over c.loop-count.self.coming ≡ true = ap is_over (sym c.coming.ensures) ∙ sym c.is_over.ensures ∙ c.if-is_over.true in
    nothing_comes c.loop-count.self.coming over (c.loop-count.invariant.over none)
