-- When a line is due, and its numbers. It states no standard.
use Rattle.std.specs.Prelude.{ℕ, ◌+◌, ◌*◌, ◌-◌, ◌/◌, ◌^◌, ◌==◌, min, nat_le, Bool, if◌then◌else◌, Option, Some, None}
use Rattle.run_progress.specs.declared.pace.Pace.{Pace}

-- so many nanoseconds after the start: the first line after a second, another 200 ms behind the last one or later
abbrev pub is_due : Option ℕ → ℕ → Bool
is_due None nanoseconds = nat_le 1_000_000_000 nanoseconds
is_due (Some last) nanoseconds = nat_le (last + 200_000_000) nanoseconds

-- when the last line was due, behind a look so many nanoseconds after the start
abbrev pub last_behind : Pace → ℕ → Option ℕ
last_behind pace nanoseconds = if is_due pace.last nanoseconds then Some nanoseconds else pace.last

-- so many events in so many nanoseconds, in a second
abbrev pub rate_of : ℕ → ℕ → ℕ
rate_of events nanoseconds = if nanoseconds == 0 then 0 else min (events * 1_000_000_000 / nanoseconds) (2 ^ 64 - 1)

-- so many octets of a total, in a hundred
abbrev pub share_of : ℕ → ℕ → ℕ
share_of octets total = if total == 0 then 0 else min (octets * 100 / total) 99
