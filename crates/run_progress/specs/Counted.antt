-- What came so far, and what is shown of it. It states no standard but pcap-savefile(5), for the header of a record.
use Rattle.std.specs.Prelude.{◌≡◌, ℕ, ◌+◌, ◌-◌, ◌^◌, min, length, if◌then◌else◌, Option, None, Some, option_map}
use Rattle.timeline.specs.declared.event.Happening.{Happening}
use Rattle.timeline.specs.declared.event.Happening.TheVariants.{Change, Record}
use Rattle.run_progress.specs.Pace.{is_due, rate_of, share_of}
use Rattle.run_progress.specs.declared.counted.Counted.{Counted}
use Rattle.run_progress.specs.declared.pace.Pace.{Pace}
use Rattle.run_progress.specs.declared.shown.Shown.{Shown}

-- the octets that an event takes in a capture: those of a record with its header, of a change none
abbrev pub octets_of : Happening → ℕ
octets_of (Change index) = 0
octets_of (Record tap captured) = 16 + length captured.octets

-- at the start nothing came, and no line was due
abbrev pub IsBegun : Counted → Pace → Type 0
IsBegun c pace = (c ≡ record { events = 0; octets = 0 }) × (pace.last ≡ None)

-- with one event more; a count that is at its end stays there
abbrev pub counted_with : Counted → Happening → Counted
counted_with c happening = record {
  events = min (c.events + 1) (2 ^ 64 - 1);
  octets = min (c.octets + octets_of happening) (2 ^ 64 - 1);
}

-- what is shown of it: all captures have so many octets, where that is known
abbrev pub line_of : Counted → Option ℕ → ℕ → ℕ → Shown
line_of c total nanoseconds moment = record {
  share = option_map (share_of c.octets) total;
  octets = c.octets;
  events = c.events;
  a_second = rate_of c.events nanoseconds;
  moment = moment;
}

-- what is shown so many nanoseconds after the start, if a line is due then
abbrev pub due_line : Pace → Counted → Option ℕ → ℕ → ℕ → Option Shown
due_line pace c total nanoseconds moment = if is_due pace.last nanoseconds then Some (line_of c total nanoseconds moment) else None
