-- The line of a record that is of one capture alone, and those of what of near ones differs. They state no standard.
use Rattle.std.specs.Prelude.{ℕ, List, [], ◌++◌, codes, decimal, Option, Some, None}
use Rattle.timeline.specs.declared.source.Tap.{Tap}
use Rattle.timeline.specs.Words.{tap_word}
use Rattle.capture_compare.specs.declared.fault.Side.{Side}
use Rattle.capture_compare.specs.declared.fault.Side.TheVariants as sides
use Rattle.capture_compare.specs.Tables.{place_words}
use Rattle.capture_compare.specs.Texts.{difference_text, segment_text}
use Rattle.capture_compare.specs.declared.lonely.difference.Difference.{Difference}
use Rattle.capture_compare.specs.declared.lonely.pairs.DifferenceRow.{DifferenceRow}
use Rattle.capture_compare.specs.declared.lonely.segment.RecordSegment.{RecordSegment}
use Rattle.capture_compare.specs.declared.lines.lonely.Lonely.{Lonely}
use Rattle.capture_compare.specs.declared.lines.lonely_line.LonelyLine.{LonelyLine}

-- the capture that it is of
abbrev pub side_word : Side → List ℕ
side_word sides.Sent = codes "sent"
side_word sides.Received = codes "received"

-- the place, where captures of several are compared
abbrev pub behind_moment : Option Tap → List ℕ
behind_moment None = []
behind_moment (Some tap) = codes " " ++ tap_word tap

-- its numbers
unfoldable pub lonely_numbers : Lonely → List ℕ
lonely_numbers l = codes " alone length " ++ decimal l.length ++ codes " record " ++ decimal l.number

-- the front of its line
abbrev pub lonely_front : Lonely → List ℕ
lonely_front l = decimal l.moment ++ behind_moment l.at ++ codes " " ++ side_word l.side ++ lonely_numbers l

-- what is told behind its numbers, where it is: its segment
abbrev pub behind_segment : Option RecordSegment → List ℕ
behind_segment None = []
behind_segment (Some segment) = codes " " ++ segment_text segment

-- the number of its event
abbrev pub behind_event : Option ℕ → List ℕ
behind_event None = []
behind_event (Some event) = codes " event " ++ decimal event

-- and what of a near one differs
abbrev pub behind_difference : Option Difference → List ℕ
behind_difference None = []
behind_difference (Some difference) = codes " " ++ difference_text difference

-- the whole line
abbrev pub lonely_line : LonelyLine → List ℕ
lonely_line l =
    lonely_front l.record ++ behind_segment l.segment ++ behind_event l.event ++ behind_difference l.difference ++ codes "\n"

-- ---- what of near ones differs

-- the records of a pair, the one that was received in front
unfoldable pub first_records : ℕ → ℕ → List ℕ
first_records received sent = codes ", first record " ++ decimal received ++ codes " for " ++ decimal sent

-- the segment and the difference in front
unfoldable pub row_front : RecordSegment → Difference → List ℕ
row_front segment difference = segment_text segment ++ codes ": " ++ difference_text difference ++ codes ": "

-- the line of how many pairs there are of these, and of the first
abbrev pub difference_line : Option Tap → DifferenceRow → List ℕ
difference_line at row =
    place_words at
    ++ row_front row.first.segment row.first.difference
    ++ decimal row.count
    ++ first_records row.first.received row.first.sent
    ++ codes "\n"

-- and of how many pairs are of others
abbrev pub others_line : Option Tap → ℕ → List ℕ
others_line at count = place_words at ++ codes "other differences: " ++ decimal count ++ codes "\n"
