-- Records that were received again: alone, and the same as one that is both. It states no standard.
--     doubled_in     how many of some facts are of such records
--     recent_with    what is known once a fact was told
--     doubled_text   the line that tells it
use Rattle.std.specs.Prelude.{◌≡◌, ℕ, ◌==◌, ◌+◌, ◌-◌, ◌^◌, ◌&&◌, ◌||◌, min, if◌then◌else◌, Bool, false}
use Rattle.std.specs.Prelude.{List, [], ◌∷◌, ◌++◌, codes, decimal, drop, length, Option}
use Rattle.std.specs.List.{FoldsTo}
use Rattle.wire.specs.Octets.{is_same}
use Rattle.timeline.specs.declared.source.Tap.{Tap}
use Rattle.record_match.specs.Lengths.{one_more}
use Rattle.record_match.specs.Match.{Record}
use Rattle.record_match.specs.Settled.{Fact, Both, ReceivedAlone, SentAlone}
use Rattle.capture_compare.specs.Tables.{place_words}

-- two records are the same but for their moments
abbrev pub is_same_record : Record → Record → Bool
is_same_record r s = r.missing == s.missing && is_same r.octets s.octets

abbrev pub is_any_same : Record → List Record → Bool
is_any_same r [] = false
is_any_same r (s ∷ ss) = is_same_record r s || is_any_same r ss

-- the latest 256 of some
abbrev pub latest_of : List Record → List Record
latest_of rs = drop (length rs - 256) rs

-- the records of some facts that are both
abbrev pub both_in : List Fact → List Record
both_in [] = []
both_in (Both moment number r ∷ facts) = r ∷ both_in facts
both_in (ReceivedAlone number r ∷ facts) = both_in facts
both_in (SentAlone number r ∷ facts) = both_in facts

-- a fact is of a record that was received alone and is the same as one of the latest 256 in front of it that are both
abbrev pub is_doubled : List Fact → Fact → Bool
is_doubled front (Both moment number r) = false
is_doubled front (ReceivedAlone number r) = is_any_same r (latest_of (both_in front))
is_doubled front (SentAlone number r) = false

-- how many of some facts are, behind others
abbrev pub doubled_among : List Fact → List Fact → ℕ
doubled_among front [] = 0
doubled_among front (fact ∷ facts) = (if is_doubled front fact then 1 else 0) + doubled_among (front ++ fact ∷ []) facts

abbrev pub doubled_in : List Fact → ℕ
doubled_in facts = doubled_among [] facts

-- ---- what is known

-- the latest records that are both, and how many that were received alone were the same as one of them
pub record Recent : Type 0 where
  pub latest : List Record
  pub doubled : ℕ

abbrev pub no_recent : Recent
no_recent = record { latest = []; doubled = 0 }

abbrev pub with_both : Record → Recent → Recent
with_both r c = record { latest = latest_of (c.latest ++ r ∷ []); doubled = c.doubled }

abbrev pub with_alone : Record → Recent → Recent
with_alone r c = record { latest = c.latest; doubled = if is_any_same r c.latest then one_more c.doubled else c.doubled }

-- once a fact was told
abbrev pub recent_with : Fact → Recent → Recent
recent_with (Both moment number r) c = with_both r c
recent_with (ReceivedAlone number r) c = with_alone r c
recent_with (SentAlone number r) c = c

-- a law: of no records, one fact told after another makes as many doubled as the facts have, up to the greatest number
abbrev pub DoubledIsOfItsFacts : Type 0
DoubledIsOfItsFacts =
    (facts : List Fact) (recent : Recent) → FoldsTo (λ old fact new. new ≡ recent_with fact old) no_recent facts recent
    → recent.doubled ≡ min (doubled_in facts) (2 ^ 64 - 1)

-- ---- the line

-- how many there are
unfoldable pub doubled_words : ℕ → List ℕ
doubled_words count = codes "doubled " ++ decimal count ++ codes "\n"

-- of two captures, or of a place; where there is none, there is no line
abbrev pub doubled_text : Option Tap → ℕ → List ℕ
doubled_text at count = if count == 0 then [] else place_words at ++ doubled_words count
