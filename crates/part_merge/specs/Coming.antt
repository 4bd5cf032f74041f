-- A part of a run: what its next line is of, and what it holds. It states no standard.
--     OpenPart      a part as it stands between two lines
--     Holds      it holds the texts of some pieces and the lines of some cut captures
use Rattle.std.specs.Prelude.{◌≡◌, ◌≢◌, ◌<◌, ◌≤◌, ℕ, Bool, false, true, if◌then◌else◌, List}
use Rattle.std.specs.Prelude.{[], ◌∷◌, ◌++◌, length, slice_index, Some, Result, Ok, Err}
use Rattle.std.specs.List.{AllByRecursion, concat}
use Rattle.line_stream.specs.Lines.{Reader, longest_line}
use Rattle.line_stream.specs.declared.fault.LinesFault.{LinesFault}
use Rattle.line_stream.specs.declared.fault.LinesFault.TheVariants as lines
use Rattle.pcap.specs.Source.{Stream}
use Rattle.part_lines.specs.Facts.{facts_of}
use Rattle.part_lines.specs.declared.facts.LineFacts.{LineFacts}
use Rattle.part_lines.specs.declared.facts.LineFacts.TheVariants as told
use Rattle.part_lines.specs.declared.fault.LineFault.{LineFault}
use Rattle.part_merge.specs.Left.{AreLeft, IsDeviceFault}
use Rattle.part_merge.specs.Merged.{Piece, capture_at, lines_in}
use Rattle.part_merge.specs.Moved.{AreRecords, taps}
use Rattle.part_merge.specs.declared.fault.MergeFault.{MergeFault}
use Rattle.part_merge.specs.declared.fault.MergeFault.TheVariants as faults
use Rattle.part_lines.specs.declared.part_fault.PartFault.TheVariants as part_faults
use Rattle.part_merge.specs.declared.coming.Coming.{Coming}
use Rattle.part_merge.specs.declared.coming.Coming.TheVariants as coming

-- ---- one line

-- a line: no line feed but the one at its end, and no longer than a reader holds
pub record IsLine (line : List ℕ) : Type 0 where
  pub body : List ℕ
  pub is : line ≡ body ++ 10 ∷ []
  pub one : (k : ℕ) → k < length body → slice_index body k ≢ 10
  pub short : length line ≤ longest_line

-- by what a line of a part tells; no event's line stands behind that of a cut capture
abbrev pub coming_by : ℕ → Bool → Result LineFacts LineFault → Result Coming MergeFault
coming_by part was_cut (Ok (told.Event number places)) =
    if was_cut then Err (faults.Part part part_faults.Late) else Ok (coming.Event number)
coming_by part was_cut (Ok told.Cut) = Ok coming.Cut
coming_by part was_cut (Err fault) = Err (faults.Part part (part_faults.Line fault))

-- what a line of a part is of; behind the last one stands nothing
abbrev pub coming_in : ℕ → Bool → List ℕ → Result Coming MergeFault
coming_in part was_cut [] = Ok coming.Nothing
coming_in part was_cut (c ∷ cs) = coming_by part was_cut (facts_of (c ∷ cs))

-- it is of a cut capture
abbrev pub is_cut : Coming → Bool
is_cut (coming.Event number) = false
is_cut coming.Cut = true
is_cut coming.Nothing = false

-- no line of a cut capture comes
abbrev pub is_over : Coming → Bool
is_over (coming.Event number) = true
is_over coming.Cut = false
is_over coming.Nothing = true

-- why a merge stops where a part's line isn't lent
abbrev pub stopped_by : ℕ → LinesFault → MergeFault
stopped_by part lines.Read = faults.Read part
stopped_by part lines.TooLong = faults.Part part part_faults.LongLine

-- ---- a part

-- the next line and what stands behind it, the captures as their sources stand, and what the line is of
pub record OpenPart : Type 0 where
  pub reader : Reader
  pub ports : List Stream
  pub underlay : Stream
  pub coming : Coming

-- the texts of an event of a run: its line tells its number and where its records stand
pub record IsPiece (ports : ℕ) (p : Piece) : Type 0 where
  pub line : IsLine p.line
  pub told : facts_of p.line ≡ Ok (told.Event p.number (taps p.records))
  pub records : AreRecords ports p.records

-- the line of a cut capture
pub record IsCutLine (text : List ℕ) : Type 0 where
  pub line : IsLine text
  pub told : facts_of text ≡ Ok told.Cut

-- texts of events, and lines of cut captures
pub record AreTexts (ports : ℕ) (pieces : List Piece) (cuts : List (List ℕ)) : Type 0 where
  pub of_events : AllByRecursion (IsPiece ports) pieces
  pub of_cuts : AllByRecursion IsCutLine cuts

-- what the first of these lines is of
abbrev pub next_coming : List Piece → List (List ℕ) → Coming
next_coming (p ∷ ps) cuts = coming.Event p.number
next_coming [] (c ∷ cs) = coming.Cut
next_coming [] [] = coming.Nothing

-- the first of these lines, or nothing behind the last
abbrev pub next_line : List Piece → List (List ℕ) → List ℕ
next_line (p ∷ ps) cuts = p.line
next_line [] (c ∷ cs) = c
next_line [] [] = []

-- those behind it
abbrev pub next_rest : List Piece → List (List ℕ) → List ℕ
next_rest (p ∷ ps) cuts = lines_in ps ++ concat cuts
next_rest [] (c ∷ cs) = concat cs
next_rest [] [] = []

-- the first of these lines is lent, and the others stand behind it
pub record ComesNext (pieces : List Piece) (cuts : List (List ℕ)) (s : OpenPart) : Type 0 where
  pub coming : s.coming ≡ next_coming pieces cuts
  pub line : s.reader.line ≡ next_line pieces cuts
  pub rest : s.reader.rest ≡ Some (next_rest pieces cuts)

-- all these lines stand behind the next one
pub record StandBehind (ports : ℕ) (pieces : List Piece) (cuts : List (List ℕ)) (s : OpenPart) : Type 0 where
  pub texts : AreTexts ports pieces cuts
  pub rest : s.reader.rest ≡ Some (lines_in pieces ++ concat cuts)
  pub late : s.coming ≡ coming.Cut → pieces ≡ []

-- a part holds the texts of these pieces in its lines and its captures, and the lines of these cut captures
pub record Holds (ports : ℕ) (pieces : List Piece) (cuts : List (List ℕ)) (s : OpenPart) : Type 0 where
  pub texts : AreTexts ports pieces cuts
  pub few : length cuts ≤ 256
  pub many : length s.ports ≡ ports
  pub next : ComesNext pieces cuts s
  pub left : AreLeft (λ tap. capture_at tap pieces) s.ports s.underlay

-- the same of lines of which none was read, and of captures of which only the headers were
pub record HoldsAll (ports : ℕ) (pieces : List Piece) (cuts : List (List ℕ)) (reader : Reader) (captures : List Stream)
    (underlay : Stream) : Type 0 where
  pub texts : AreTexts ports pieces cuts
  pub few : length cuts ≤ 256
  pub many : length captures ≡ ports
  pub rest : reader.rest ≡ Some (lines_in pieces ++ concat cuts)
  pub left : AreLeft (λ tap. capture_at tap pieces) captures underlay

-- a part that is as it should be, or its lines are handed back, at which a device failed
abbrev pub UnlessPart : Result OpenPart (MergeFault × Reader) → (OpenPart → Type 0) → Type 0
UnlessPart (Ok s) P = P s
UnlessPart (Err back) P = IsDeviceFault back.0
