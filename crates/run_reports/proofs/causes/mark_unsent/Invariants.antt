use Rattle.std.proofs.Common.{◌≡◌, ◌||◌, ℕ, false, map, slice_index_or, take}
use Rattle.std.specs.List.{list_any}
use Rattle.endpoint_core.specs.Kept.{state_of}
use Rattle.endpoint_core.specs.Step.{sent_at}
use Rattle.run_reports.specs.Sought.{is_reason, unsent}
use Rattle.run_reports.proofs.causes.mark_unsent.Given as goal

-- the reasons at the places so far are marked
abbrev pub invariant-loop-place : goal.invariant-loop-place
invariant-loop-place l =
    let S = (state_of l.endpoint).bridges.settings in (n : ℕ) → slice_index_or l.causes n false
    ≡ (slice_index_or l.initial.causes n false || list_any (λ o. is_reason n (unsent o.sent)) (map (sent_at S l.came.vid l.came.frame) (take l.place-index l.places)))
