-- The texts of a run's outputs, event by event, and those of several parts of a run put together. It states no standard.
--     Piece      the texts of one event
--     texts_of_pieces      the outputs that hold some pieces
--     merged      the pieces of several parts, in order of their numbers
use Rattle.std.specs.Prelude.{◌<◌, ℕ, ◌==◌, nat_lt, Bool, false, true, if◌then◌else◌, List, [], ◌∷◌, ◌++◌, map}
use Rattle.std.specs.List.{flat_map, range_with_len}
use Rattle.pcap.specs.Written.{written_header}
use Rattle.timeline.specs.declared.source.Tap.{Tap}
use Rattle.timeline.specs.declared.source.Tap.TheVariants.{Port, Underlay}
use Rattle.timeline.specs.declared.timeline.Cut.{Cut}
use Rattle.decision_lines.specs.Lines.{cut_line}
use Rattle.capture_run.specs.Outputs.{Outputs}

-- one event's texts in the outputs of a run: its number, its line, and its records in the order of its outlets, each with
-- the capture that it stands in
pub record Piece : Type 0 where
  pub number : ℕ
  pub line : List ℕ
  pub records : List (Tap × List ℕ)

-- they are one capture
abbrev pub is_tap : Tap → Tap → Bool
is_tap (Port p) (Port q) = p == q
is_tap (Port p) Underlay = false
is_tap Underlay (Port q) = false
is_tap Underlay Underlay = true

-- what the text of a record in one capture puts into another: nothing, unless they are one
abbrev pub at_tap : Tap → Tap → List ℕ → List ℕ
at_tap tap other text = if is_tap tap other then text else []

-- of some records those in a capture, side by side
abbrev pub records_at : Tap → List (Tap × List ℕ) → List ℕ
records_at tap [] = []
records_at tap (r ∷ rs) = at_tap tap r.0 r.1 ++ records_at tap rs

-- what some pieces put into a capture
abbrev pub capture_at : Tap → List Piece → List ℕ
capture_at tap [] = []
capture_at tap (p ∷ ps) = records_at tap p.records ++ capture_at tap ps

-- their lines
abbrev pub lines_in : List Piece → List ℕ
lines_in [] = []
lines_in (p ∷ ps) = p.line ++ lines_in ps

-- the texts of some pieces: each capture the header and its records; the lines, and behind them those of cut captures
abbrev pub texts_of_pieces : ℕ → List Piece → List Cut → Outputs
texts_of_pieces ports pieces cuts = record {
  ports = map (λ port. written_header ++ capture_at (Port port) pieces) (range_with_len 1 ports);
  underlay = written_header ++ capture_at Underlay pieces;
  decisions = lines_in pieces ++ flat_map cut_line cuts;
}

-- a piece is put in front of those of greater numbers
abbrev pub put_in : Piece → List Piece → List Piece
put_in p [] = p ∷ []
put_in p (q ∷ qs) = if nat_lt q.number p.number then q ∷ put_in p qs else p ∷ q ∷ qs

-- pieces in order of their numbers
abbrev pub sorted : List Piece → List Piece
sorted [] = []
sorted (p ∷ ps) = put_in p (sorted ps)

module _ {A : Type 0} where
  -- lists side by side
  abbrev pub side_by_side : List (List A) → List A
  side_by_side [] = []
  side_by_side (xs ∷ others) = xs ++ side_by_side others

-- pieces of several parts in order of their numbers
abbrev pub merged : List (List Piece) → List Piece
merged parts = sorted (side_by_side parts)

-- numbers that rise, each greater than the one before and the first than this
abbrev pub IsRising : ℕ → List Piece → Type 0
IsRising last [] = Unit {0}
IsRising last (p ∷ ps) = (last < p.number) × IsRising p.number ps
