-- The lines of tables. It states no standard.
use Rattle.std.specs.Prelude.{ℕ, ◌-◌, nat_le, if◌then◌else◌, List, [], ◌++◌, codes, decimal, Option, Some, None}
use Rattle.timeline.specs.declared.source.Tap.{Tap}
use Rattle.timeline.specs.Words.{tap_word}
use Rattle.record_match.specs.declared.tables.delays.DelaySummary.{DelaySummary}
use Rattle.record_match.specs.declared.tables.lengths.LengthRow.{LengthRow}
use Rattle.capture_compare.specs.Sides.{sides_words}

-- the place in front of a line, where captures of several are compared
abbrev pub place_words : Option Tap → List ℕ
place_words None = []
place_words (Some tap) = tap_word tap ++ codes ": "

-- how many records of a length are both, and of one capture alone
abbrev pub row_words : LengthRow → List ℕ
row_words row =
    codes "both " ++ decimal row.both ++ codes ", " ++ sides_words (codes "alone") (codes ", ") row.sent_alone row.received_alone

-- the row of a length
abbrev pub length_line : Option Tap → ℕ → LengthRow → List ℕ
length_line at length row = place_words at ++ codes "length " ++ decimal length ++ codes ": " ++ row_words row ++ codes "\n"

-- a delay in nanoseconds, told on a clock that is so much ahead; below 0 where a record was received before it was sent
abbrev pub delay_words : ℕ → ℕ → List ℕ
delay_words ahead delay = if nat_le ahead delay then decimal (delay - ahead) else codes "-" ++ decimal (ahead - delay)

-- a line that tells a delay
abbrev pub delay_line : Option Tap → List ℕ → ℕ → ℕ → List ℕ
delay_line at name ahead delay = place_words at ++ codes "delay " ++ name ++ codes " " ++ delay_words ahead delay ++ codes "\n"

-- the lines that tell a delay each
unfoldable pub each_delay : Option Tap → ℕ → DelaySummary → List ℕ
each_delay at ahead s =
    delay_line at (codes "least") ahead s.least
    ++ delay_line at (codes "median") ahead s.median
    ++ delay_line at (codes "99 in 100") ahead s.nearly_all
    ++ delay_line at (codes "greatest") ahead s.greatest
    ++ delay_line at (codes "step") 0 s.step

-- the lines of delays, one fact a line
abbrev pub delay_lines : Option Tap → ℕ → DelaySummary → List ℕ
delay_lines at ahead s = place_words at ++ codes "delays " ++ decimal s.count ++ codes "\n" ++ each_delay at ahead s

-- and where there is none
abbrev pub delays_text : Option Tap → ℕ → Option DelaySummary → List ℕ
delays_text at ahead None = place_words at ++ codes "delays 0\n"
delays_text at ahead (Some s) = delay_lines at ahead s
