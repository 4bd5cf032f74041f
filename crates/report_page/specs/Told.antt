-- Stations and tables, of the lines that `tep run` printed with --talkers and --tables. It states no standard.
--     talks_of, moves_of, entries_of      which lines there are for each table
--     told_text      all of it
use Rattle.std.specs.Prelude.{ℕ, zero, suc, ◌==◌, ◌&&◌, not, if◌then◌else◌, Bool, List, [], ◌∷◌, codes, decimal, length, take}
use Rattle.std.specs.List.{flat_map, list_any}
use Rattle.wire.specs.Octets.{is_same}
use Rattle.line_words.specs.Words.{word, behind}
use Rattle.report_page.specs.declared.told.TheConstants.{STATIONS_HEAD, TALKS_TITLE, TALKS_HEAD, MOVES_TITLE, MOVES_HEAD, TALK_HEADS}
use Rattle.report_page.specs.declared.told.TheConstants.{ENTRIES_TITLE, ENTRIES_HEAD, TABLE_END, STATIONS_END}
use Rattle.report_page.specs.Escaped.{escaped}
use Rattle.report_page.specs.Lines.{lines_where}
use Rattle.report_page.specs.Texts.{◌then◌}

-- ---- words

-- what stands behind so many words of a line
abbrev pub behind_words : ℕ → List ℕ → List ℕ
behind_words zero line = line
behind_words (suc n) line = behind (behind_words n line)

-- the word of a line at a place, from 0
unfoldable pub word_at : ℕ → List ℕ → List ℕ
word_at place line = word (behind_words place line)

-- ---- lines

-- the line of a talk, but for that of all others together
abbrev pub is_talk : List ℕ → Bool
is_talk line = is_same (word line) (codes "talk") && not (is_same (word (behind line)) (codes "others"))

abbrev pub talks_of : List ℕ → List (List ℕ)
talks_of text = lines_where is_talk text

-- a text has a colon
abbrev pub is_colon : ℕ → Bool
is_colon octet = octet == 58

abbrev pub has_colon : List ℕ → Bool
has_colon text = list_any is_colon text

-- the line of an entry of a table: its third word is a MAC address
abbrev pub is_entry : List ℕ → Bool
is_entry line = is_same (word line) (codes "segment") && has_colon (word (behind (behind line)))

abbrev pub entries_of : List ℕ → List (List ℕ)
entries_of text = lines_where is_entry text

-- ---- rows

-- the cell of a word, and that of a word that is a number
unfoldable pub word_cell : ℕ → List ℕ → List ℕ
word_cell place line = codes "<td>" then escaped (word_at place line) then codes "</td>"

unfoldable pub numeral_cell : ℕ → List ℕ → List ℕ
numeral_cell place line = codes "<td class=\"n\">" then escaped (word_at place line) then codes "</td>"

-- of a talk: segment, source, from, destination, to, frames, octets, first and last moment
unfoldable pub talk_row : List ℕ → List ℕ
talk_row line =
    codes "<tr>" then word_cell 1 line then word_cell 2 line then word_cell 3 line then word_cell 5 line then word_cell 6 line
    then numeral_cell 7 line then numeral_cell 8 line then numeral_cell 10 line then numeral_cell 12 line then codes "</tr>\n"

-- of an entry: segment, address, place, how it is kept, and where it was learned its moment and its age
unfoldable pub entry_row : List ℕ → List ℕ
entry_row line =
    codes "<tr>" then word_cell 1 line then word_cell 2 line then word_cell 3 line then word_cell 4 line
    then numeral_cell 5 line then numeral_cell 7 line then codes "</tr>\n"

-- those of some lines
abbrev pub rows_of : (List ℕ → List ℕ) → List (List ℕ) → List ℕ
rows_of row lines = flat_map row lines

-- a row, where it is shown
abbrev pub row_where : Bool → List ℕ → List ℕ
row_where shown line = if shown then talk_row line else []

-- ---- talks

-- two talks are of the same segment
abbrev pub is_beside : List ℕ → List ℕ → Bool
is_beside line other = is_same (word_at 1 line) (word_at 1 other)

-- talks by segments: a segment's stand together
abbrev pub onto_segments : List ℕ → List (List (List ℕ)) → List (List (List ℕ))
onto_segments line [] = (line ∷ []) ∷ []
onto_segments line ([] ∷ segments) = (line ∷ []) ∷ segments
onto_segments line ((next ∷ lines) ∷ segments) =
    if is_beside line next then (line ∷ next ∷ lines) ∷ segments else (line ∷ []) ∷ (next ∷ lines) ∷ segments

abbrev pub by_segments : List (List ℕ) → List (List (List ℕ))
by_segments [] = []
by_segments (line ∷ lines) = onto_segments line (by_segments lines)

-- of each segment the first ten
unfoldable pub largest_of : List (List ℕ) → List (List ℕ)
largest_of talks = flat_map (take 10) (by_segments talks)

-- ---- moves

-- a talk of this source in this segment, but from another place
unfoldable pub is_elsewhere : List ℕ → List ℕ → List ℕ → List ℕ → Bool
is_elsewhere segment source from other =
    is_same (word_at 1 other) segment && is_same (word_at 2 other) source && not (is_same (word_at 3 other) from)

-- there is one among these talks
unfoldable pub has_moved : List (List ℕ) → List ℕ → Bool
has_moved talks line = list_any (is_elsewhere (word_at 1 line) (word_at 2 line) (word_at 3 line)) talks

abbrev pub is_move : List (List ℕ) → List ℕ → Bool
is_move talks line = is_talk line && has_moved talks line

-- talks whose source sent from more than one place in its segment: each is compared with all, of which a run prints 4,096 at most
abbrev pub moves_of : List ℕ → List (List ℕ)
moves_of text = lines_where (is_move (take 4096 (talks_of text))) text

-- ---- tables, each with how many lines there are for it

unfoldable pub talks_table : List ℕ → List ℕ
talks_table text =
    TALKS_TITLE.now then decimal (length (talks_of text)) then TALKS_HEAD.now then TALK_HEADS.now
    then rows_of talk_row (largest_of (talks_of text)) then TABLE_END.now

-- of the lines that are moves
unfoldable pub moves_told : ℕ → (List ℕ → Bool) → List ℕ → List ℕ
moves_told count is_one text =
    MOVES_TITLE.now then decimal count then MOVES_HEAD.now then TALK_HEADS.now
    then rows_of talk_row (take 1000 (lines_where is_one text)) then TABLE_END.now

abbrev pub moves_table : List ℕ → List ℕ
moves_table text = moves_told (length (moves_of text)) (is_move (take 4096 (talks_of text))) text

unfoldable pub entries_table : List ℕ → List ℕ
entries_table text =
    ENTRIES_TITLE.now then decimal (length (entries_of text)) then ENTRIES_HEAD.now
    then rows_of entry_row (take 1000 (entries_of text)) then TABLE_END.now

-- all of it
unfoldable pub told_text : List ℕ → List ℕ
told_text text =
    STATIONS_HEAD.now then talks_table text then moves_table text then entries_table text then STATIONS_END.now
