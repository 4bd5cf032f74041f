use Rattle.std.proofs.Common.{◌<◌, ◌||◌, ℕ, nat_lt, get_or, sym, ap, ◌∙◌, arith, rules}
use Rattle.std.proofs.lemmas.Bool.{ltb-true, ltb-false}
use Rattle.std.proofs.lemmas.List.Sorted.{IsPartitionPoint-from_clause, IsPartitionedBy-ltb}
use Rattle.run_reports.specs.declared.asked.Asked.{Asked}
use Rattle.run_reports.specs.Reading.{is_its, is_its_at}
use Rattle.run_reports.proofs.Listing.{any_front, any_none, blank, other, other_at, rising_from}
use Rattle.run_reports.proofs.asked.mark_some.Goals as goal

pub loop-at-init : goal.loop-at-init
loop-at-init c =
    let names = c.args.names.now in
    let n = c.args.number in
    let s = c.args.source in
    let at = c.partition_point-at.result in
    let number : Asked → ℕ = λ a. a.name.number in
    let point = IsPartitionPoint-from_clause (λ a. nat_lt (number a) n) names at c.partition_point-at.ensures.partitioned (IsPartitionedBy-ltb number names n c.requires.rising) (λ a r f k. search rules) in
    let low : (k : ℕ) → k < at → number (get_or names k blank) < n = λ k lt. ltb-true (number (get_or names k blank)) n (point.0 k blank (omega arith) lt) in
    record {
      from = λ k le lt. omega (arith, ltb-false (number (get_or names k blank)) n (point.1 k blank le lt));
      within = c.partition_point-at.ensures.bound;
      any = sym (any_none (is_its s n) blank names at c.partition_point-at.ensures.bound (λ k lt. other s n (get_or names k blank) (λ e. absurd (omega (arith, low k lt, e)))));
      each = λ k b. ap (λ x. x || get_or c.args.found.now k b) (sym (any_none (is_its_at s n k) blank names at c.partition_point-at.ensures.bound (λ j lt. other_at s n k (get_or names j blank) (λ e. absurd (omega (arith, low j lt, e))))));
    }

pub returns-else-names-at-clause-any : goal.returns-else-names-at-clause-any
returns-else-names-at-clause-any c =
    let names = c.args.names.now in
    let n = c.args.number in
    let s = c.args.source in
    let at = c.loop-at.at in
    c.loop-at.invariant.any
    ∙ any_front (is_its s n) blank names at (λ k le lt. other s n (get_or names k blank) (λ e. absurd (omega (arith, e, rising_from names at k n c.requires.rising le lt c.loop-at.invariant.from c.if-names-at.false))))

pub returns-else-names-at-clause-each : goal.returns-else-names-at-clause-each
returns-else-names-at-clause-each c =
    let names = c.args.names.now in
    let n = c.args.number in
    let s = c.args.source in
    let at = c.loop-at.at in
    λ k b.
    c.loop-at.invariant.each k b
    ∙ ap (λ x. x || get_or c.args.found.now k b)
    (any_front (is_its_at s n k) blank names at (λ j le lt. other_at s n k (get_or names j blank) (λ e. absurd (omega (arith, e, rising_from names at j n c.requires.rising le lt c.loop-at.invariant.from c.if-names-at.false)))))
