use Rattle.std.proofs.Common.{◌≡◌, ℕ, [], get_or, length, vec_capacity}
use Rattle.endpoint_core.proofs.counts.widen.Given as goal

-- rows of zeros stand up to here, and count as none
abbrev pub invariant-loop-row : goal.invariant-loop-row
invariant-loop-row l = record {
  size : length l.rows.items ≡ l._row;
  same : (vid k : ℕ) → get_or (get_or l.rows.items vid []) k 0 ≡ get_or (get_or l.initial.rows.items vid []) k 0;
  room : vec_capacity l.rows ≡ vec_capacity l.initial.rows;
}
