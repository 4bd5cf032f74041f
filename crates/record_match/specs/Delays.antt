-- How much later records were received than they were sent. It states no standard. Moments are of one clock, delays are in
-- nanoseconds.
--     with_delay   delays once a fact was told
--     rounded      a delay in whole steps
--     IsRanked     what a rank is among numbers
--     IsTold       what is told of delays
use Rattle.std.specs.Prelude.{◌≡◌, ◌<◌, ◌≤◌, ◌==◌, ℕ, ◌+◌, ◌-◌, ◌*◌, ◌/◌, ◌^◌, min, max, nat_lt, nat_le, if◌then◌else◌}
use Rattle.std.specs.Prelude.{List, [], ◌∷◌, length, map, replicate, set, slice_index_or, Option, Some, None}
use Rattle.record_match.specs.Settled.{Fact, Both, ReceivedAlone, SentAlone}
use Rattle.record_match.specs.Lengths.{one_more}
use Rattle.record_match.specs.declared.tables.delays.DelaySummary.{DelaySummary}

-- delays once a fact was told, the latest in front: of a pair how much later it was received than it was sent
abbrev pub with_delay : Fact → List ℕ → List ℕ
with_delay (Both moment number r) delays = (r.moment - moment) ∷ delays
with_delay (ReceivedAlone number r) delays = delays
with_delay (SentAlone number r) delays = delays

-- and once some facts were told, one after another
abbrev pub delays_behind : List ℕ → List Fact → List ℕ
delays_behind delays [] = delays
delays_behind delays (fact ∷ facts) = delays_behind (with_delay fact delays) facts

-- how many nanoseconds a step is where a record is received at most so much later: 1 where these are fewer than 4,194,304
abbrev pub step_of : ℕ → ℕ
step_of within = within / 4194304 + 1

-- how many whole steps a delay has; those of more than 4,194,303 steps, which no delay in that time has, count as so many
abbrev pub row_of : ℕ → ℕ → ℕ
row_of step delay = min (delay / step) 4194303

-- a delay, rounded down to whole steps
abbrev pub rounded : ℕ → ℕ → ℕ
rounded step delay = row_of step delay * step

-- how many of some numbers are less than one, and how many are at most this one
abbrev pub below : ℕ → List ℕ → ℕ
below n [] = 0
below n (m ∷ ms) = (if nat_lt m n then 1 else 0) + below n ms

abbrev pub up_to : ℕ → List ℕ → ℕ
up_to n [] = 0
up_to n (m ∷ ms) = (if nat_le m n then 1 else 0) + up_to n ms

-- of some numbers, one by its rank, from 1 on: fewer than the rank are less, and at least as many are at most this one
pub record IsRanked (rank : ℕ) (ms : List ℕ) (n : ℕ) : Type 0 where
  pub fewer : below n ms < rank
  pub enough : rank ≤ up_to n ms

-- the least and the greatest of some numbers of 64 bits
abbrev pub least_of : List ℕ → ℕ
least_of [] = 2 ^ 64 - 1
least_of (n ∷ ns) = min (least_of ns) n

abbrev pub greatest_of : List ℕ → ℕ
greatest_of [] = 0
greatest_of (n ∷ ns) = max (greatest_of ns) n

-- the nearest ranks of the median and of 99 in 100, of so many: half of them and 99 hundredths, rounded up
abbrev pub median_rank : ℕ → ℕ
median_rank n = (n + 1) / 2

abbrev pub nearly_all_rank : ℕ → ℕ
nearly_all_rank n = (99 * n + 99) / 100

-- what is told of some delays: how many, the least and the greatest as they are, two by their ranks in whole steps
pub record IsSummary (within : ℕ) (delays : List ℕ) (s : DelaySummary) : Type 0 where
  pub count : s.count ≡ length delays
  pub least : s.least ≡ least_of delays
  pub median : IsRanked (median_rank (length delays)) (map (rounded (step_of within)) delays) s.median
  pub nearly_all : IsRanked (nearly_all_rank (length delays)) (map (rounded (step_of within)) delays) s.nearly_all
  pub greatest : s.greatest ≡ greatest_of delays
  pub step : s.step ≡ step_of within

-- and of none, nothing
abbrev pub IsTold : ℕ → List ℕ → Option DelaySummary → Type 0
IsTold within delays None = delays ≡ []
IsTold within delays (Some s) = IsSummary within delays s

-- ---- a table

-- what it knows: how many nanoseconds a step is, how many delays there are of so many steps, the least, the greatest, and how many
pub record Delays : Type 0 where
  pub step : ℕ
  pub rows : List ℕ
  pub least : ℕ
  pub greatest : ℕ
  pub count : ℕ

-- that of no delay
abbrev pub no_delays : ℕ → Delays
no_delays within = record {
  step = step_of within;
  rows = replicate 4194304 0;
  least = 2 ^ 64 - 1;
  greatest = 0;
  count = 0;
}

-- rows with one more in one of them
abbrev pub rows_with : ℕ → List ℕ → List ℕ
rows_with i rows = set rows i (one_more (slice_index_or rows i 0))

-- a table with one more delay
abbrev pub with_one : ℕ → Delays → Delays
with_one delay t = record {
  step = t.step;
  rows = rows_with (row_of t.step delay) t.rows;
  least = min t.least delay;
  greatest = max t.greatest delay;
  count = one_more t.count;
}

-- and once a fact was told
abbrev pub delays_with : Fact → Delays → Delays
delays_with (Both moment number r) t = with_one (r.moment - moment) t
delays_with (ReceivedAlone number r) t = t
delays_with (SentAlone number r) t = t

-- how many of some delays have so many steps
abbrev pub count_in : ℕ → ℕ → List ℕ → ℕ
count_in step i [] = 0
count_in step i (d ∷ ds) = (if row_of step d == i then 1 else 0) + count_in step i ds

-- a table is of these delays, each of which may be received so much later; a number that can't grow stays
pub record IsOf (within : ℕ) (t : Delays) (delays : List ℕ) : Type 0 where
  pub step : t.step ≡ step_of within
  pub size : length t.rows ≡ 4194304
  pub rows : (i : ℕ) → i < 4194304 → slice_index_or t.rows i 0 ≡ min (count_in (step_of within) i delays) (2 ^ 64 - 1)
  pub least : t.least ≡ least_of delays
  pub greatest : t.greatest ≡ greatest_of delays
  pub count : t.count ≡ min (length delays) (2 ^ 64 - 1)

-- ---- it serves proofs

-- the row that one of this rank is in, by how many are in each row
abbrev pub row_at : ℕ → List ℕ → ℕ
row_at rank [] = 0
row_at rank (n ∷ ns) = if nat_le rank n then 0 else row_at (rank - n) ns + 1
