-- Which records of one capture are which of another, over whole lists. It states no standard. The records of one were captured
-- where they were sent, those of the other where they were received; the moments of both are of one clock.
--     is_met_by    a record that is received is one that was sent
--     met          those that were sent, once a record was received
--     matched      the same for all that is received, in a row
--     lonely       those that are received and were not sent
use Rattle.std.specs.Prelude.{ℕ, ◌+◌, ◌==◌, nat_le, ◌&&◌, ◌||◌, not, if◌then◌else◌, Bool, true, false, List, [], ◌∷◌, map}
use Rattle.wire.specs.Octets.{is_same}

-- a record: its moment in nanoseconds, the octets that there are of it, and how many more it had: 0 of a whole one, else it is cut
pub record Record : Type 0 where
  pub moment : ℕ
  pub octets : List ℕ
  pub missing : ℕ

-- a record that was sent, and whether it was received
pub record Sent : Type 0 where
  pub moment : ℕ
  pub octets : List ℕ
  pub missing : ℕ
  pub is_taken : Bool

-- a record that is sent isn't received yet
abbrev pub as_sent : Record → Sent
as_sent r = record { moment = r.moment; octets = r.octets; missing = r.missing; is_taken = false }

-- one is no earlier than another, and at most so many nanoseconds later
abbrev pub is_within : ℕ → ℕ → ℕ → Bool
is_within within before behind = nat_le before behind && nat_le behind (before + within)

-- a record that is received is one that was sent: not received yet, soon after, octet for octet, and with as many octets missing.
-- So none that is cut is one that is whole, or one that was of another length
abbrev pub is_met_by : ℕ → Record → Sent → Bool
is_met_by within r s =
    ((not s.is_taken && is_within within s.moment r.moment) && s.missing == r.missing) && is_same s.octets r.octets

-- whether a record that is received was sent
abbrev pub is_known : ℕ → Record → List Sent → Bool
is_known within r [] = false
is_known within r (s ∷ sent) = is_met_by within r s || is_known within r sent

-- one that was received
abbrev pub taken : Sent → Sent
taken s = record s { is_taken = true }

-- those that were sent, once a record was received: it is the first that it may be
abbrev pub met : ℕ → Record → List Sent → List Sent
met within r [] = []
met within r (s ∷ sent) = if is_met_by within r s then taken s ∷ sent else s ∷ met within r sent

-- and once some were received, one after another
abbrev pub met_all : ℕ → List Sent → List Record → List Sent
met_all within sent [] = sent
met_all within sent (r ∷ rs) = met_all within (met within r sent) rs

-- how many of those that were sent were received
abbrev pub received_count : List Sent → ℕ
received_count [] = 0
received_count (s ∷ sent) = (if s.is_taken then 1 else 0) + received_count sent

-- those that were sent, and which of them were received
abbrev pub matched : ℕ → List Record → List Record → List Sent
matched within sent received = met_all within (map as_sent sent) received

-- of those that are received one after another, those that were not sent
abbrev pub lonely_among : ℕ → List Sent → List Record → List Record
lonely_among within sent [] = []
lonely_among within sent (r ∷ rs) =
    if is_known within r sent then lonely_among within (met within r sent) rs else r ∷ lonely_among within (met within r sent) rs

abbrev pub lonely : ℕ → List Record → List Record → List Record
lonely within sent received = lonely_among within (map as_sent sent) received
