use Rattle.std.proofs.Common.{◌≡◌, ◌<◌, ◌≤◌, ◌-◌, ◌||◌, ℕ, Bool, length, take, slice_index_or}
use Rattle.std.specs.List.{list_any}
use Rattle.run_reports.specs.Reading.{is_its, is_its_at}
use Rattle.run_reports.proofs.Listing.{blank}
use Rattle.run_reports.proofs.asked.mark_some.Given as goal

-- the names so far are marked, and whether there was one is known
abbrev pub invariant-loop-at : goal.invariant-loop-at
invariant-loop-at l = record {
  from : (k : ℕ) → l.at ≤ k → k < length l.names → l.number ≤ (slice_index_or l.names k blank).name.number;
  within : l.at ≤ length l.names;
  any : l.is_there ≡ list_any (is_its l.source l.number) (take l.at l.names);
  each : (k : ℕ) (b : Bool) → slice_index_or l.found k b ≡ (list_any (is_its_at l.source l.number k) (take l.at l.names) || slice_index_or l.fn.found k b);
}

abbrev pub decreases-loop-at : goal.decreases-loop-at
decreases-loop-at l = length l.names - l.at
