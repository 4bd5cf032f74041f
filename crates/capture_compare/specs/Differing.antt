-- What of near records differs, counted. It states no standard.
--     same_kind_of      two pairs of near records are counted together
--     with_pair         what is counted, with one pair more
--     with_fact         what is held and counted, once a fact was told
use Rattle.std.specs.Prelude.{ℕ, ◌==◌, ◌&&◌, ◌||◌, nat_lt, if◌then◌else◌, Bool, true, false, List, [], ◌∷◌, ◌++◌, length}
use Rattle.std.specs.Prelude.{Option, Some, None, option_map}
use Rattle.wire.specs.Addr.{same_addr, same_kind}
use Rattle.record_match.specs.Lengths.{one_more}
use Rattle.record_match.specs.Match.{Record}
use Rattle.record_match.specs.Settled.{Fact, Both, ReceivedAlone, SentAlone}
use Rattle.capture_compare.specs.Difference.{same_vid}
use Rattle.capture_compare.specs.Near.{Alone, held_with, left_at, near_at}
use Rattle.capture_compare.specs.Segment.{segment_by}
use Rattle.capture_compare.specs.declared.lonely.difference.Difference.{Difference}
use Rattle.capture_compare.specs.declared.lonely.difference.Difference.TheVariants.{Vni, Kind, Remote, Tag, Length}
use Rattle.capture_compare.specs.declared.lonely.near.Named.{Named}
use Rattle.capture_compare.specs.declared.lonely.pairs.DifferenceRow.{DifferenceRow}
use Rattle.capture_compare.specs.declared.lonely.pairs.NearPair.{NearPair}
use Rattle.capture_compare.specs.declared.lonely.segment.Reading.{Reading}
use Rattle.capture_compare.specs.declared.lonely.segment.RecordSegment.{RecordSegment}
use Rattle.capture_compare.specs.declared.lonely.segment.RecordSegment.TheVariants as segments

-- ---- which pairs are counted together

abbrev pub same_segment : RecordSegment → RecordSegment → Bool
same_segment segments.Untagged segments.Untagged = true
same_segment (segments.Vlan a) (segments.Vlan b) = a == b
same_segment (segments.Tunnel kind a) (segments.Tunnel other b) = same_kind kind other && a == b
same_segment segments.NoTunnel segments.NoTunnel = true
same_segment a b = false

abbrev pub same_difference : Difference → Difference → Bool
same_difference (Vni a b) (Vni c d) = a == c && b == d
same_difference (Kind a b) (Kind c d) = same_kind a c && same_kind b d
same_difference (Remote a b) (Remote c d) = same_addr a c && same_addr b d
same_difference (Tag a b) (Tag c d) = same_vid a c && same_vid b d
same_difference (Length a b) (Length c d) = a == c && b == d
same_difference d e = false

-- those where the segment of what was sent is the same, and the same differs
abbrev pub is_such : NearPair → NearPair → Bool
is_such a b = same_segment a.segment b.segment && same_difference a.difference b.difference

-- ---- what is counted

-- for each kind of pair the first one and how many there are, in the order of the first ones; and how many pairs there are of kinds
-- that have no row
pub record Counted : Type 0 where
  pub rows : List DifferenceRow
  pub others : ℕ

abbrev pub no_pairs : Counted
no_pairs = record { rows = []; others = 0 }

-- some row is of pairs as this one
abbrev pub has_row : NearPair → List DifferenceRow → Bool
has_row p [] = false
has_row p (row ∷ rows) = is_such row.first p || has_row p rows

-- one more in the first row that is
abbrev pub counted : NearPair → List DifferenceRow → List DifferenceRow
counted p [] = []
counted p (row ∷ rows) = if is_such row.first p then record row { count = one_more row.count } ∷ rows else row ∷ counted p rows

-- behind them a new row
abbrev pub row_of : NearPair → DifferenceRow
row_of p = record { first = p; count = 1 }

abbrev pub with_new : NearPair → Counted → Counted
with_new p c =
    if nat_lt (length c.rows) 1024 then record { rows = c.rows ++ row_of p ∷ []; others = c.others }
    else record { rows = c.rows; others = one_more c.others }

-- with one pair more: of at most 1,024 kinds
abbrev pub with_pair : NearPair → Counted → Counted
with_pair p c = if has_row p c.rows then record { rows = counted p c.rows; others = c.others } else with_new p c

-- ---- what is held and counted, as records are told to be of one capture alone

-- how keys are read, in how much time a record may be received, the records that were received alone and may be near one, and
-- what was counted
pub record Differing : Type 0 where
  pub reading : Reading
  pub within : ℕ
  pub held : List Alone
  pub counted : Counted

-- of no records
abbrev pub nothing_yet : Reading → ℕ → Differing
nothing_yet reading within = record { reading = reading; within = within; held = []; counted = no_pairs }

-- the pair of a record that was sent alone and the one that is near it
abbrev pub pair_of : Reading → ℕ → Record → Named → NearPair
pair_of reading number sent near = record {
  segment = segment_by reading sent.octets;
  difference = near.difference;
  received = near.number;
  sent = number;
}

abbrev pub with_near : Reading → ℕ → Record → Option Named → Counted → Counted
with_near reading number sent None c = c
with_near reading number sent (Some near) c = with_pair (pair_of reading number sent near) c

-- what of the one that is near a record that was sent alone differs from it
abbrev pub difference_of : Record → Differing → Option Difference
difference_of sent d = option_map (λ (near : Named). near.difference) (near_at d.reading d.within sent d.held)

-- once a record was told to be sent alone, with its number
abbrev pub with_sent : ℕ → Record → Differing → Differing
with_sent number sent d = record {
  reading = d.reading;
  within = d.within;
  held = left_at d.reading d.within sent d.held;
  counted = with_near d.reading number sent (near_at d.reading d.within sent d.held) d.counted;
}

-- or to be received alone
abbrev pub with_received : ℕ → Record → Differing → Differing
with_received number r d = record d { held = held_with d.within (record { number = number; seen = r }) d.held }

-- once a fact was told
abbrev pub with_fact : Fact → Differing → Differing
with_fact (Both moment number r) d = d
with_fact (ReceivedAlone number r) d = with_received number r d
with_fact (SentAlone number r) d = with_sent number r d
