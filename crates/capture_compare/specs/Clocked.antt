-- The records of two captures on one clock, each as the key that decides what is the same. It states no standard.
--     kept         those records that aren't left aside, by their keys
--     on_clock     the records of a capture, at moments that never fall
--     before       those that come before a moment
--     up_to        those that come before it or at it
use Rattle.std.specs.Prelude.{◌≤◌, ◌<◌, ⊤, ℕ, ◌+◌, max, nat_le, nat_lt, if◌then◌else◌, List, [], ◌∷◌, Option, Some, None}
use Rattle.pcap.specs.Record.{Record}
use Rattle.record_match.specs.Match.{Record as Matched}
use Rattle.capture_compare.specs.declared.carried.key.Manner.{Manner}
use Rattle.capture_compare.specs.Key.{Key, told_by}

-- a record of a capture: its moment in nanoseconds, and its key, where it isn't left aside
pub record Seen : Type 0 where
  pub moment : ℕ
  pub key : Option Key

-- what is compared of a record at a moment, by its key
abbrev pub keyed_at : ℕ → Key → Matched
keyed_at moment key = record { moment = moment; octets = key.octets; missing = key.missing }

-- those that aren't left aside
abbrev pub with_key : ℕ → Option Key → List Matched → List Matched
with_key moment None rs = rs
with_key moment (Some key) rs = keyed_at moment key ∷ rs

abbrev pub kept : List Seen → List Matched
kept [] = []
kept (r ∷ rs) = with_key r.moment r.key (kept rs)

-- a record at a moment, by its key
abbrev pub seen_at : Manner → ℕ → Record → Seen
seen_at manner moment r = record { moment = moment; key = told_by manner r }

-- records behind one of this moment, with so many nanoseconds more: each at the greatest moment up to it
abbrev pub timed : Manner → ℕ → ℕ → List Record → List Seen
timed manner delay latest [] = []
timed manner delay latest (r ∷ rs) =
    seen_at manner (max (r.moment + delay) latest) r ∷ timed manner delay (max (r.moment + delay) latest) rs

-- the records of a capture on one clock
abbrev pub on_clock : Manner → ℕ → List Record → List Seen
on_clock manner delay rs = timed manner delay 0 rs

-- the moment of the last of some, behind one of this moment
abbrev pub latest_behind : ℕ → List Seen → ℕ
latest_behind latest [] = latest
latest_behind latest (r ∷ rs) = latest_behind r.moment rs

-- the moment of the last of some, 0 where there are none
abbrev pub latest : List Seen → ℕ
latest rs = latest_behind 0 rs

-- those in front that are earlier than a moment
abbrev pub before : ℕ → List Seen → List Seen
before moment [] = []
before moment (r ∷ rs) = if nat_lt r.moment moment then r ∷ before moment rs else []

-- those in front that are no later than a moment
abbrev pub up_to : ℕ → List Seen → List Seen
up_to moment [] = []
up_to moment (r ∷ rs) = if nat_le r.moment moment then r ∷ up_to moment rs else []

-- of what was sent, that which comes before the last of some that were received: of several at one moment those that were sent
-- come first
abbrev pub sent_by : List Seen → List Seen → List Seen
sent_by [] sent = []
sent_by (r ∷ received) sent = up_to (latest_behind r.moment received) sent

-- of what was received, that which comes before the last of some that were sent
abbrev pub received_by : List Seen → List Seen → List Seen
received_by sent received = before (latest sent) received

-- all of some are earlier than a moment
abbrev pub AreBefore : ℕ → List Seen → Type 0
AreBefore moment [] = ⊤
AreBefore moment (r ∷ rs) = (r.moment < moment) × AreBefore moment rs

-- all of some are no later than a moment
abbrev pub AreUpTo : ℕ → List Seen → Type 0
AreUpTo moment [] = ⊤
AreUpTo moment (r ∷ rs) = (r.moment ≤ moment) × AreUpTo moment rs
