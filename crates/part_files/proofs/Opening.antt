-- A part that is opened over what its outputs hold.
use Rattle.std.proofs.Common.{◌≡◌, ◌∙◌, sym, ap, subst, ℕ, ◌+◌, ◌-◌, ◌<◌, ◌≤◌, arith, Bool, true, false, cond, List, [], ◌∷◌, ◌++◌, length, map, filter, Some, None}
use Rattle.std.specs.List.{AllByRecursion}
use Rattle.pcap.specs.Written.{written_header}
use Rattle.timeline.specs.declared.source.Tap.TheVariants.{Port, Underlay}
use Rattle.timeline.specs.declared.timeline.Cut.{Cut}
use Rattle.decision_lines.specs.Lines.{cut_line}
use Rattle.segment_set.specs.Segments.{Segments, holds}
use Rattle.capture_run.specs.Among.{cuts_among}
use Rattle.part_merge.specs.Coming.{AreTexts, HoldsAll, IsCutLine, IsPiece}
use Rattle.part_merge.specs.Left.{AreLeft}
use Rattle.part_merge.specs.Merged.{Piece, capture_at, lines_in}
use Rattle.segment_parts.specs.Pieces.{Told, all_pieces, pieces_in}
use Rattle.part_files.specs.Files.{Part, ReadOver}
use Rattle.part_files.proofs.Lists.{concat-map, map-length}
use Rattle.part_files.proofs.Reading.{HoldTexts}

-- ---- the texts of a part are some of the whole run's

pieces-part : (P : Piece → Type 0) (segments : Segments) (ts : List Told) → AllByRecursion P (all_pieces ts) → AllByRecursion P (pieces_in segments ts)
pieces-part P segments [] all = tt
pieces-part P segments (t ∷ ts) all = by (holds segments t.segment) (pieces-part P segments ts all.1)
  where
    rest : List Told
    rest = filter (λ (u : Told). holds segments u.segment) ts

    by : (b : Bool) → AllByRecursion P (all_pieces rest) → AllByRecursion P (all_pieces (cond b (t ∷ rest) rest))
    by true more = (all.0, more)
    by false more = more

cuts-part : (P : List ℕ → Type 0) (segments : Segments) (cuts : List Cut) → AllByRecursion P (map cut_line cuts) → AllByRecursion P (map cut_line (cuts_among segments cuts))
cuts-part P segments cuts all = by (holds segments None)
  where
    by : (b : Bool) → AllByRecursion P (map cut_line (cond b cuts []))
    by true = all
    by false = tt

fewer-cuts : (segments : Segments) (cuts : List Cut) (most : ℕ) → length cuts ≤ most → length (map cut_line (cuts_among segments cuts)) ≤ most
fewer-cuts segments cuts most few = by (holds segments None)
  where
    by : (b : Bool) → length (map cut_line (cond b cuts [])) ≤ most
    by true = subst (λ (n : ℕ). n ≤ most) (sym (map-length cut_line cuts)) few
    by false = omega arith

pub texts-part : (count : ℕ) (segments : Segments) (ts : List Told) (cuts : List Cut) → AreTexts count (all_pieces ts) (map cut_line cuts)
    → AreTexts count (pieces_in segments ts) (map cut_line (cuts_among segments cuts))
texts-part count segments ts cuts all = record {
  of_events = pieces-part (IsPiece count) segments ts all.of_events;
  of_cuts = cuts-part IsCutLine segments cuts all.of_cuts;
}

-- ---- what is opened

pub left-all : (p : Part) (count : ℕ) (pieces : List Piece) (cuts : List Cut) → HoldTexts count pieces cuts p.new → ReadOver p → AreLeft (λ tap. capture_at tap pieces) p.ports p.underlay
left-all p count pieces cuts held opened (Port port) there =
    let k : ℕ = port - 1 in
    let inside : k < count = omega (arith, there.0, there.1, opened.many, held.many) in
    let behind : k < length p.new.ports = omega (arith, inside, held.many) in
    let capture = opened.ports p.new.underlay p.underlay k behind in
    let same : 1 + k ≡ port = omega (arith, there.0) in
    let text = capture_at (Port port) pieces in
    capture.opened text (capture.holds ∙ held.ports p.new.underlay k inside ∙ ap (λ (n : ℕ). Some (written_header ++ capture_at (Port n) pieces)) same)
left-all p count pieces cuts held opened Underlay there =
    opened.underlay.opened (capture_at Underlay pieces) (opened.underlay.holds ∙ held.underlay)

pub holds-all : (p : Part) (count : ℕ) (pieces : List Piece) (cuts : List Cut) → HoldTexts count pieces cuts p.new → ReadOver p → AreTexts count pieces (map cut_line cuts) → length (map cut_line cuts) ≤ 256
    → HoldsAll count pieces (map cut_line cuts) p.reader p.ports p.underlay
holds-all p count pieces cuts held opened texts few = record {
  texts = texts;
  few = few;
  many = opened.many ∙ held.many;
  rest = opened.lines ∙ held.decisions ∙ ap (λ l. Some (lines_in pieces ++ l)) (sym (concat-map cut_line cuts));
  left = left-all p count pieces cuts held opened;
}

-- a part with the texts of its own pieces of a run
pub part-holds : (p : Part) (count : ℕ) (ts : List Told) (cuts : List Cut) → HoldTexts count (pieces_in p.segments ts) (cuts_among p.segments cuts) p.new → ReadOver p
    → AreTexts count (all_pieces ts) (map cut_line cuts) → length cuts ≤ 256 → HoldsAll count (pieces_in p.segments ts) (map cut_line (cuts_among p.segments cuts)) p.reader p.ports p.underlay
part-holds p count ts cuts held opened texts few =
    holds-all p count (pieces_in p.segments ts) (cuts_among p.segments cuts) held opened (texts-part count p.segments ts cuts texts) (fewer-cuts p.segments cuts 256 few)
