use Rattle.std.proofs.Common.{◌∙◌, ℕ, ◌+◌, refl, sym, ap, subst, max, rules}
use Rattle.pcap.specs.Record.{Record}
use Rattle.capture_compare.specs.Turns.{StopsBehind, Waits}
use Rattle.capture_compare.proofs.Fetching.{has_all, has_failed, has_more}
use Rattle.capture_compare.proofs.coming.Coming.fetch.Goals as goal

pub returns-in-Err-clause-fetched : goal.returns-in-Err-clause-fetched
returns-in-Err-clause-fetched g c =
    λ manner start rs lent is.
    subst (λ f. StopsBehind c.args.self.now.side start rs f) (sym c.source_fault.ensures)
    (has_failed c.args.self.now.side start c.args.source.now c.fill.new.self rs c.args.self.now.fetched c.in-Err.fault lent c.in-Err.ensures.filled c.in-Err.ensures.answer)

pub returns-in_default-head-clause-fetched : goal.returns-in_default-head-clause-fetched
returns-in_default-head-clause-fetched g c =
    λ manner start rs lent is.
    record {
      side_is = refl;
      delay_is = refl;
      next = has_all c.args.self.now.side start c.args.source.now c.fill.new.self rs c.args.self.now.fetched lent c.in_default.ensures.filled c.in_default.ensures.answer
          (sym c.in_default-head.ensures.record);
    }

pub returns-clause-fetched : goal.returns-clause-fetched
returns-clause-fetched g c =
    λ manner start rs lent is.
    let f = λ (r : Record). max (r.moment + c.args.self.now.delay) c.args.moment in
    record {
      side_is = refl;
      delay_is = refl;
      next = subst (λ (n : ℕ). Waits manner c.args.self.now.delay start c.fill.new.self rs (c.args.self.now.fetched + 1) n) (sym (c.max.ensures ∙ ap f c.record.view_is))
          (has_more manner c.args.self.now.delay start c.args.source.now c.fill.new.self rs c.args.self.now.fetched c.args.moment c.in-Some.record lent c.in_default.ensures.filled
          (sym c.in-Some.ensures.record) c.in_default.ensures.begun (c.in_default.ensures.lends (search rules)) is);
    }
