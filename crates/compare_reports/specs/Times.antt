-- The times that words name, and the clock that they ask for. They state no standard.
--     IsBounded    a text is a time of at most 10^18 nanoseconds, 31 years
--     IsShift      a text is such a time by which a clock is ahead, or behind
--     IsAsked      a clock is the one that words ask for
--     IsRefused    why they ask for none
use Rattle.std.specs.Prelude.{◌≡◌, ◌≢◌, ◌≤◌, ◌<◌, ◌⊎◌, ℕ, ◌+◌, Bool, true, false, ◌∷◌, Option, None, Some}
use Rattle.clap.specs.Words.{Text}
use Rattle.command_line.specs.Time.{IsTime}
use Rattle.record_match.specs.Clock.{IsNear}
use Rattle.record_match.specs.Match.{is_within}
use Rattle.record_match.specs.declared.clock.Clock.{Clock}
use Rattle.compare_reports.specs.declared.times.ClockFault.{ClockFault}
use Rattle.compare_reports.specs.declared.times.ClockFault.TheVariants as faults

-- a text is a time of so many nanoseconds, at most 10^18
abbrev pub IsBounded : Text → ℕ → Type 0
IsBounded text time = IsTime text time × (time ≤ 1000000000000000000)

-- it is no time, or a longer one
abbrev pub IsNoTime : Text → Type 0
IsNoTime text = ((time : ℕ) → IsTime text time → ⊥) ⊎ ((time : ℕ) × IsTime text time × (1000000000000000000 < time))

-- a text has no `-` in front
abbrev pub IsUnsigned : Text → Type 0
IsUnsigned text = (rest : Text) → text ≢ 45 ∷ rest

-- the clock of what was received is so much behind, where `-` stands in front of a time, and else ahead
abbrev pub IsShift : Text → Bool → ℕ → Type 0
IsShift text true shift = (rest : Text) × (text ≡ 45 ∷ rest) × IsBounded rest shift
IsShift text false shift = IsUnsigned text × IsBounded text shift

-- a text names no such time
abbrev pub IsNoShift : Text → Type 0
IsNoShift text = ((rest : Text) → text ≡ 45 ∷ rest → IsNoTime rest) × (IsUnsigned text → IsNoTime text)

-- in how much time a record may be received: a second, where no word names another
abbrev pub IsWithin : Option Text → ℕ → Type 0
IsWithin None time = time ≡ 1000000000
IsWithin (Some text) time = IsBounded text time

-- on a clock a record is received in time exactly where it is at most so far from when it was sent, earlier or later, as one that is
-- ahead or behind tells it
abbrev pub IsShifted : Text → ℕ → Clock → Type 0
IsShifted text time clock =
    (is_behind : Bool) × (shift : ℕ) × IsShift text is_behind shift
    × ((s r : ℕ) → IsNear time shift is_behind s r (is_within clock.within (s + clock.sent_delay) (r + clock.received_delay)))

-- and without a word that shifts it, where it is at most so much later
abbrev pub IsClock : Option Text → ℕ → Clock → Type 0
IsClock None time clock =
    (s r : ℕ) → is_within clock.within (s + clock.sent_delay) (r + clock.received_delay) ≡ is_within time s r
IsClock (Some text) time clock = IsShifted text time clock

-- by the words for the time and for the shift
abbrev pub IsAsked : Option Text → Option Text → Clock → Type 0
IsAsked within shift clock = (time : ℕ) × IsWithin within time × IsClock shift time clock

-- the first of these words that is no such time is named
abbrev pub IsRefused : Option Text → Option Text → ClockFault → Type 0
IsRefused within shift (faults.Within text) = (within ≡ Some text.now) × IsNoTime text.now
IsRefused within shift (faults.Shift text) =
    ((time : ℕ) × IsWithin within time) × (shift ≡ Some text.now) × IsNoShift text.now
