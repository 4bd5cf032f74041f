use Rattle.std.proofs.Common.{◌≡◌, false, slice_index_or, take}
use Rattle.std.specs.List.{list_any}
use Rattle.run_reports.specs.Sought.{is_new_by, met_by}
use Rattle.run_reports.proofs.Seeking.{marked}
use Rattle.run_reports.proofs.sought.mark_reasons.Given as goal

-- those so far are marked, and whether one is new is known
abbrev pub invariant-loop-k : goal.invariant-loop-k
invariant-loop-k l = record {
  first : l.is_first ≡ list_any (is_new_by (λ n. slice_index_or l.causes n false)) (take l.k-index l.initial.reasons);
  met : l.reasons ≡ marked (met_by (λ n. slice_index_or l.causes n false)) l.k-index l.initial.reasons;
}
