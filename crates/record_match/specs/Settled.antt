-- What becomes of the records of two captures, one after another. It states no standard.
--     Fact                      a pair, or a record of one alone
--     told_from                 what each record that is received is
--     alone_from                those that were sent and not received
--     of_received, of_sent      some facts without those of the other kind: each kind in its order
use Rattle.std.specs.Prelude.{ℕ, ◌+◌, ◌-◌, if◌then◌else◌, Option, Some, None, List, [], ◌∷◌, ◌++◌, length}
use Rattle.std.specs.List.{FoldsTo}
use Rattle.record_match.specs.Match.{Record, Sent, is_met_by, met}
use Rattle.record_match.specs.Window.{Window, is_over}

-- what becomes of a record, with its number in its capture, from 1; of a pair that of the one that was received
pub data Fact : Type 0 where
  Both : (sent_moment : ℕ) (number : ℕ) (received : Record) → Fact
  ReceivedAlone : (number : ℕ) (received : Record) → Fact
  SentAlone : (number : ℕ) (sent : Record) → Fact

-- when the one was sent that a record is, where it is one
abbrev pub sent_moment : ℕ → Record → List Sent → Option ℕ
sent_moment within r [] = None
sent_moment within r (s ∷ sent) = if is_met_by within r s then Some s.moment else sent_moment within r sent

-- what a record that is received is, by that moment
abbrev pub fact_by : ℕ → Record → Option ℕ → Fact
fact_by number r None = ReceivedAlone number r
fact_by number r (Some moment) = Both moment number r

-- what each of some is that are received one after another, the first of this number
abbrev pub told_from : ℕ → ℕ → List Sent → List Record → List Fact
told_from within number sent [] = []
told_from within number sent (r ∷ rs) =
    fact_by number r (sent_moment within r sent) ∷ told_from within (number + 1) (met within r sent) rs

-- a record that was sent, where it wasn't received
abbrev pub alone_of : ℕ → Sent → List Fact
alone_of number s =
    if s.is_taken then [] else SentAlone number (record { moment = s.moment; octets = s.octets; missing = s.missing }) ∷ []

-- those of some that weren't received, the first of this number
abbrev pub alone_from : ℕ → List Sent → List Fact
alone_from number [] = []
alone_from number (s ∷ sent) = alone_of number s ++ alone_from (number + 1) sent

-- the facts of records that are received
abbrev pub of_received : List Fact → List Fact
of_received [] = []
of_received (Both moment number r ∷ facts) = Both moment number r ∷ of_received facts
of_received (ReceivedAlone number r ∷ facts) = ReceivedAlone number r ∷ of_received facts
of_received (SentAlone number r ∷ facts) = of_received facts

-- the facts of records that were sent alone
abbrev pub of_sent : List Fact → List Fact
of_sent [] = []
of_sent (Both moment number r ∷ facts) = of_sent facts
of_sent (ReceivedAlone number r ∷ facts) = of_sent facts
of_sent (SentAlone number r ∷ facts) = SentAlone number r ∷ of_sent facts

-- ---- a window

-- the first of some that were sent last, where it wasn't received; so many were sent in all
abbrev pub first_alone : ℕ → List Sent → List Fact
first_alone records [] = []
first_alone records (s ∷ sent) = alone_of (records - length sent) s

-- those that weren't received
abbrev pub held_alone : ℕ → List Sent → List Fact
held_alone records [] = []
held_alone records (s ∷ sent) = alone_of (records - length sent) s ++ held_alone records sent

-- the same of those in front that are over at a moment
abbrev pub over_alone : ℕ → ℕ → ℕ → List Sent → List Fact
over_alone within now records [] = []
over_alone within now records (s ∷ sent) =
    if is_over within now s then alone_of (records - length sent) s ++ over_alone within now records sent else []

-- the same of a window
abbrev pub gone_alone : ℕ → Window → List Fact
gone_alone now w = over_alone w.within now w.records w.held

-- ---- who looks on

-- whoever looks on was told some facts, of which something is so
pub record Shows {W : Type 0} (sees : W → Fact → W → Type 0) (old new : W) (Holds : List Fact → Type 0) : Type 0 where
  pub facts : List Fact
  pub seen : FoldsTo sees old facts new
  pub so : Holds facts
