-- Parts of a run, and the outputs that are made of them. It states no standard.
--     AreParts      the parts hold the pieces of a run, each in one of them
--     Adds      outputs hold these texts more than before
use Rattle.std.specs.Prelude.{◌≡◌, ◌<◌, ◌==◌, ◌&&◌, nat_lt, if◌then◌else◌, ℕ, List, []}
use Rattle.std.specs.Prelude.{◌∷◌, length, map, slice_index_or, slice_set, Option, Result}
use Rattle.std.specs.Io.KnownBytes.{Appends}
use Rattle.pcap.specs.Sink.{Drain}
use Rattle.timeline.specs.declared.timeline.Cut.{Cut}
use Rattle.decision_lines.specs.Lines.{cut_line}
use Rattle.capture_run.specs.Outputs.{Outputs}
use Rattle.part_merge.specs.Coming.{Holds, OpenPart}
use Rattle.part_merge.specs.Left.{AreAdded, IsAdded, UnlessDevice}
use Rattle.part_merge.specs.Merged.{IsRising, Piece, capture_at, lines_in, merged, records_at}
use Rattle.part_merge.specs.declared.fault.MergeFault.{MergeFault}
use Rattle.part_merge.specs.declared.fault.MergeFault.TheVariants as faults
use Rattle.part_lines.specs.declared.part_fault.PartFault.TheVariants as part_faults

-- each part holds its pieces and the lines of its cut captures
pub record AllHold (ports : ℕ) (pieces : List (List Piece)) (cuts : List (List (List ℕ))) (parts : List OpenPart) : Type 0 where
  pub many : length pieces ≡ length parts
  pub many_cuts : length cuts ≡ length parts
  pub each : (s : OpenPart) (k : ℕ) → k < length parts
      → Holds ports (slice_index_or pieces k []) (slice_index_or cuts k []) (slice_index_or parts k s)

-- in each part numbers rise
abbrev pub AllRise : List (List Piece) → Type 0
AllRise [] = Unit {0}
AllRise (ps ∷ others) = IsRising 0 ps × AllRise others

-- each part has so many captures of ports
abbrev pub HaveAll : ℕ → List OpenPart → Type 0
HaveAll ports parts = (s : OpenPart) (k : ℕ) → k < length parts → length (slice_index_or parts k s).ports ≡ ports

-- the lines of the cut captures of each part
abbrev pub cut_lines : List (List Cut) → List (List (List ℕ))
cut_lines cuts = map (λ of_part. map cut_line of_part) cuts

-- what is wrong with a part whose event of this number comes behind one that is no smaller: it's the same one, or numbers
-- fall; they begin at 1
abbrev pub behind : ℕ → ℕ → ℕ → MergeFault
behind last part number = if number == last
    && nat_lt 0 number then faults.Part part (part_faults.Doubled number) else faults.Part part (part_faults.Falls number)

module _ {T : Type 0} where
  -- the event that comes next in one part was put to the outputs, or a device failed, and the other parts are as before
  pub record PutsAt (parts : List OpenPart) (index : ℕ) (s : OpenPart) (others : List OpenPart) (old : List Drain)
      (old_underlay : Drain) (written : Option (List ℕ)) (new : List Drain) (new_underlay : Drain) (now : Option (List ℕ))
      (result : Result T MergeFault) : Type 0 where
    pub behind_it : OpenPart
    pub changed : others ≡ slice_set parts index behind_it
    pub count : length behind_it.ports ≡ length (slice_index_or parts index s).ports
    pub event : (ports : ℕ) (p : Piece) (ps : List Piece) (cuts : List (List ℕ)) → Holds ports (p ∷ ps) cuts (slice_index_or parts index s)
        → UnlessDevice result (Holds ports ps cuts behind_it
        × AreAdded (λ t. records_at t p.records) old old_underlay new new_underlay × Appends written now p.line)

-- each part holds only the lines of its cut captures
pub record OnlyCuts (ports : ℕ) (cuts : List (List (List ℕ))) (parts : List OpenPart) : Type 0 where
  pub many_cuts : length cuts ≡ length parts
  pub each : (s : OpenPart) (k : ℕ) → k < length parts → Holds ports [] (slice_index_or cuts k []) (slice_index_or parts k s)

-- the events of these pieces were put to the outputs, and only the lines of cut captures are left
pub record PutsAll (ports : ℕ) (pieces : List Piece) (cuts : List (List (List ℕ))) (parts : List OpenPart) (old : List Drain)
    (old_underlay : Drain) (written : Option (List ℕ)) (new : List Drain) (new_underlay : Drain) (now : Option (List ℕ)) : Type
    0 where
  pub hold : OnlyCuts ports cuts parts
  pub added : AreAdded (λ tap. capture_at tap pieces) old old_underlay new new_underlay
  pub lines : Appends written now (lines_in pieces)

-- the parts hold these pieces, whose numbers rise in each and are apart in all, and the lines of these cut captures
pub record AreParts (ports : ℕ) (pieces : List (List Piece)) (cuts : List (List Cut)) (parts : List OpenPart) : Type 0 where
  pub hold : AllHold ports pieces (cut_lines cuts) parts
  pub rise : AllRise pieces
  pub apart : IsRising 0 (merged pieces)

-- each capture of the outputs holds its text more than before, and so do the decision lines
pub record Adds (texts : Outputs) (old : List Drain) (old_underlay : Drain) (written : Option (List ℕ)) (new : List Drain)
    (new_underlay : Drain) (now : Option (List ℕ)) : Type 0 where
  pub ports : (d : Drain) (k : ℕ) → k < length old
      → IsAdded (slice_index_or texts.ports k []) (slice_index_or old k d) (slice_index_or new k d)
  pub underlay : IsAdded texts.underlay old_underlay new_underlay
  pub decisions : Appends written now texts.decisions
