-- What is counted of the records of a capture. It states no standard.
use Rattle.std.specs.Prelude.{ℕ, ◌+◌, ◌<◌, ◌≤◌, ◌^◌, nat_lt, max, Bool, false, if◌then◌else◌, List, [], ◌∷◌, length, Option, Some, None}
use Rattle.std.specs.List.{count_by}
use Rattle.std.specs.Option.{option_map_or}
use Rattle.decapsulate.specs.Card as card
use Rattle.pcap.specs.Record.{Record}
use Rattle.timeline.specs.declared.source.Tap.{Tap}
use Rattle.timeline.specs.declared.source.Tap.TheVariants.{Port, Underlay}
use Rattle.capture_survey.specs.declared.tally.Span.{Span}
use Rattle.capture_survey.specs.declared.tally.Tally.{Tally}

-- a record that has fewer octets than its frame had
abbrev pub is_cut_short : Record → Bool
is_cut_short r = nat_lt (length r.octets) r.original

-- the octets of a frame that a local port takes at most, and of a packet that the underlay brings: a run drops what has
-- more by reason 1, TooLong
abbrev pub longest_at : Tap → ℕ
longest_at (Port port) = 65535
longest_at Underlay = 65549

-- a record that has more octets than a bound
abbrev pub is_too_long : ℕ → Record → Bool
is_too_long bound r = nat_lt bound (length r.octets)

-- a packet from the underlay whose UDP checksum its sender left to its network card; what tenants send is their own
abbrev pub is_left_to_card : Tap → Record → Bool
is_left_to_card (Port port) r = false
is_left_to_card Underlay r = card.is_left_to_card r.octets

-- 1 for true
abbrev pub one_if : Bool → ℕ
one_if b = if b then 1 else 0

-- the greatest moment of some records behind one of this moment: a run takes the last of them at it
abbrev pub greatest_behind : ℕ → List Record → ℕ
greatest_behind before [] = before
greatest_behind before (r ∷ rs) = greatest_behind (max r.moment before) rs

-- how many of some records are earlier than one before them, where that of this moment is the latest so far
abbrev pub falls_behind : ℕ → List Record → ℕ
falls_behind before [] = 0
falls_behind before (r ∷ rs) = one_if (nat_lt r.moment before) + falls_behind (max r.moment before) rs

-- the moments at which a run takes the first and the last record
abbrev pub span_of : List Record → Option Span
span_of [] = None
span_of (r ∷ rs) = Some (record { first = r.moment; last = greatest_behind r.moment rs })

-- how many records are earlier than one before them
abbrev pub falls_in : List Record → ℕ
falls_in [] = 0
falls_in (r ∷ rs) = falls_behind r.moment rs

-- whether a moment is earlier than one of some records
abbrev pub is_below : Option Span → ℕ → Bool
is_below span moment = option_map_or (λ span. nat_lt moment span.last) span false

-- the first and the last moment of some records, and of one more behind them
abbrev pub first_of : Option Span → ℕ → ℕ
first_of span moment = option_map_or (λ span. span.first) span moment

abbrev pub last_of : Option Span → ℕ → ℕ
last_of span moment = option_map_or (λ span. max moment span.last) span moment

-- all of it
abbrev pub tally_of : Tap → List Record → Tally
tally_of tap rs = record {
  records = length rs;
  span = span_of rs;
  falls = falls_in rs;
  cut_short = count_by is_cut_short rs;
  too_long = count_by (is_too_long (longest_at tap)) rs;
  left_to_card = count_by (is_left_to_card tap) rs;
}

-- another record can be counted
pub record HasRoom (t : Tally) : Type 0 where
  pub records : t.records + 1 < 2 ^ 64
  pub falls : t.falls ≤ t.records
  pub cut_short : t.cut_short ≤ t.records
  pub too_long : t.too_long ≤ t.records
  pub left_to_card : t.left_to_card ≤ t.records
