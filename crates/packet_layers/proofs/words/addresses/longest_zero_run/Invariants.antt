use Rattle.std.proofs.Common.{◌≡◌, ◌≤◌, ◌+◌, length, drop}
use Rattle.std.specs.Net.Text.{zero_run, longest_zero_run}
use Rattle.packet_layers.proofs.words.addresses.longest_zero_run.Given as goal

-- the runs of the segments from a place on
abbrev pub invariant-loop-at : goal.invariant-loop-at
invariant-loop-at l =
    let behind = drop l.at l.segments in
    record {
      zeros : l.zeros ≡ zero_run behind;
      len : l.longest.len ≡ (longest_zero_run behind).1;
      start : l.longest.start ≡ l.at + (longest_zero_run behind).0;
      first : l.at + l.zeros ≤ length l.segments;
      within : l.longest.start + l.longest.len ≤ length l.segments;
    }

abbrev pub decreases-loop-at : goal.decreases-loop-at
decreases-loop-at l = l.at
