use Rattle.std.proofs.Common.{◌≡◌, ◌∙◌, ap, ◌||◌, ℕ, false, nat_eq, slice_index_or, rules}
use Rattle.wire.specs.Reason.{number_of}
use Rattle.run_reports.proofs.Seeking.{one_marked}
use Rattle.run_reports.proofs.causes.mark.Goals as goal

pub returns : goal.returns
returns c n =
    let same : c.from.result ≡ number_of c.args.reason = search rules in
    one_marked c.args.causes.now c.from.result n (search rules) ∙ ap (λ (k : ℕ). slice_index_or c.args.causes.now n false || nat_eq k n) same
