-- Records by their length. It states no standard.
--     with_fact    a table once a fact was told
--     tally        how many facts of a kind are of records of a length
use Rattle.std.specs.Prelude.{ℕ, ◌+◌, ◌-◌, ◌^◌, min, List, length, set, slice_index_or}
use Rattle.record_match.specs.Settled.{Fact, Both, ReceivedAlone, SentAlone}
use Rattle.record_match.specs.declared.tables.lengths.Kind.{Kind}
use Rattle.record_match.specs.declared.tables.lengths.Kind.TheVariants as kinds
use Rattle.record_match.specs.declared.tables.lengths.LengthRow.{LengthRow}

-- what a fact is of: both captures, or one alone
abbrev pub kind_of : Fact → Kind
kind_of (Both moment number r) = kinds.Both
kind_of (ReceivedAlone number r) = kinds.ReceivedAlone
kind_of (SentAlone number r) = kinds.SentAlone

-- the length of its record
abbrev pub length_of : Fact → ℕ
length_of (Both moment number r) = length r.octets
length_of (ReceivedAlone number r) = length r.octets
length_of (SentAlone number r) = length r.octets

-- one more, up to the greatest number of 64 bits
abbrev pub one_more : ℕ → ℕ
one_more n = min (n + 1) (2 ^ 64 - 1)

-- a row with one more of a kind
abbrev pub row_with : Kind → LengthRow → LengthRow
row_with kinds.Both row = record row { both = one_more row.both }
row_with kinds.SentAlone row = record row { sent_alone = one_more row.sent_alone }
row_with kinds.ReceivedAlone row = record row { received_alone = one_more row.received_alone }

-- the row of no record
abbrev pub no_row : LengthRow
no_row = record { both = 0; sent_alone = 0; received_alone = 0 }

-- a table with one more of a kind and a length; what is longer than the last row's length counts there
abbrev pub counted : ℕ → Kind → List LengthRow → List LengthRow
counted n kind rows = set rows (min n 262656) (row_with kind (slice_index_or rows (min n 262656) no_row))

-- a table once a fact was told
abbrev pub with_fact : Fact → List LengthRow → List LengthRow
with_fact fact rows = counted (length_of fact) (kind_of fact) rows
