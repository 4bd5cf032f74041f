-- What is printed of two captures, or of a place. It states no standard.
--     behind_in     how many pairs were sent before one that was received in front of them
--     behind_text   the line that tells it
--     place_text    the counts, what came again, what is cut, what came in another order, and what was left aside
use Rattle.std.specs.Prelude.{◌≡◌, ℕ, ◌==◌, ◌+◌, ◌-◌, ◌^◌, ◌||◌, max, min, nat_lt, if◌then◌else◌, Bool, false}
use Rattle.std.specs.Prelude.{List, [], ◌∷◌, ◌++◌, codes, decimal, Option, Some, None}
use Rattle.std.specs.List.{FoldsTo}
use Rattle.timeline.specs.declared.source.Tap.{Tap}
use Rattle.record_match.specs.Lengths.{one_more}
use Rattle.record_match.specs.Settled.{Fact, Both, ReceivedAlone, SentAlone}
use Rattle.capture_compare.specs.Aside.{aside_text}
use Rattle.capture_compare.specs.Counts.{counts_text}
use Rattle.capture_compare.specs.Cut.{cut_text}
use Rattle.capture_compare.specs.Tables.{place_words}
use Rattle.capture_compare.specs.declared.aside.Aside.{Aside}
use Rattle.capture_compare.specs.declared.lines.counts.Scope.{Scope}
use Rattle.capture_compare.specs.declared.lines.counts.Scope.TheVariants as scopes
use Rattle.compare_reports.specs.Doubled.{doubled_text}
use Rattle.compare_reports.specs.declared.order.Order.{Order}
use Rattle.compare_reports.specs.declared.place_lines.PlaceLines.{PlaceLines}

-- ---- behind another

-- one of some facts is of a pair that was sent later than a moment
abbrev pub is_any_later : ℕ → List Fact → Bool
is_any_later moment [] = false
is_any_later moment (Both m number r ∷ facts) = nat_lt moment m || is_any_later moment facts
is_any_later moment (ReceivedAlone number r ∷ facts) = is_any_later moment facts
is_any_later moment (SentAlone number r ∷ facts) = is_any_later moment facts

-- a fact is of a pair that was sent before one of those in front of it was, which was received before it
abbrev pub is_behind : List Fact → Fact → Bool
is_behind front (Both moment number r) = is_any_later moment front
is_behind front (ReceivedAlone number r) = false
is_behind front (SentAlone number r) = false

-- how many of some facts are, behind others
abbrev pub behind_among : List Fact → List Fact → ℕ
behind_among front [] = 0
behind_among front (fact ∷ facts) = (if is_behind front fact then 1 else 0) + behind_among (fact ∷ front) facts

abbrev pub behind_in : List Fact → ℕ
behind_in facts = behind_among [] facts

-- what is known once a fact was told: the latest moment at which one of the pairs so far was sent, and how many are behind another
abbrev pub order_with : Fact → Order → Order
order_with (Both moment number r) o = record {
  latest = max o.latest moment;
  behind = if nat_lt moment o.latest then one_more o.behind else o.behind;
}
order_with (ReceivedAlone number r) o = o
order_with (SentAlone number r) o = o

-- and of none
abbrev pub no_order : Order
no_order = record { latest = 0; behind = 0 }

-- a law: of no pairs, one fact told after another makes as many behind another as the facts have, up to the greatest number
abbrev pub BehindIsOfItsFacts : Type 0
BehindIsOfItsFacts =
    (facts : List Fact) (order : Order) → FoldsTo (λ old fact new. new ≡ order_with fact old) no_order facts order
    → order.behind ≡ min (behind_in facts) (2 ^ 64 - 1)

-- ---- a place

-- how many are behind another
unfoldable pub behind_words : ℕ → List ℕ
behind_words count = codes "behind another " ++ decimal count ++ codes "\n"

-- of two captures, or of a place; where none is, there is no line
abbrev pub behind_text : Option Tap → ℕ → List ℕ
behind_text at count = if count == 0 then [] else place_words at ++ behind_words count

-- whose counts they are
abbrev pub scope_at : Option Tap → Scope
scope_at None = scopes.Pair
scope_at (Some tap) = scopes.Place tap

-- how many were left aside, where some may be
abbrev pub aside_part : Option Tap → Option Aside → List ℕ
aside_part at None = []
aside_part at (Some aside) = aside_text at aside

-- the lines behind what is listed, in front of what differs and of a table
unfoldable pub place_text : PlaceLines → List ℕ
place_text p =
    counts_text (scope_at p.at) p.counts
    ++ doubled_text p.at p.doubled
    ++ cut_text p.at p.cut
    ++ behind_text p.at p.behind
    ++ aside_part p.at p.aside
