-- The texts of all pieces in the outputs of a merge.
use Rattle.std.proofs.Common.{◌≡◌, ◌∙◌, refl, sym, ap, subst, ℕ, ◌+◌, ◌-◌, ◌<◌, List, [], ◌∷◌, ◌++◌, length, map, slice_index_or, arith, Option}
use Rattle.std.proofs.KnownBytes.{Appends-trans}
use Rattle.std.proofs.lemmas.List.{get_or_default}
use Rattle.std.proofs.lemmas.List.FromFn.{get_or-map-range_with_len}
use Rattle.std.specs.Io.KnownBytes.{Appends}
use Rattle.std.specs.List.{concat, flat_map, range_with_len}
use Rattle.std.proofs.lemmas.List.Concat.{flat_map-cons}
use Rattle.pcap.specs.Written.{written_header}
use Rattle.pcap.specs.Sink.{Drain}
use Rattle.timeline.specs.declared.source.Tap.TheVariants.{Port, Underlay}
use Rattle.timeline.specs.declared.timeline.Cut.{Cut}
use Rattle.decision_lines.specs.Lines.{cut_line}
use Rattle.part_merge.specs.Left.{AreAdded, IsAdded}
use Rattle.part_merge.specs.Merged.{Piece, capture_at, lines_in, side_by_side, texts_of_pieces}
use Rattle.part_merge.specs.Whole.{Adds, cut_lines}

-- the lines of cut captures
flat_lines : (cuts : List Cut) → concat (map cut_line cuts) ≡ flat_map cut_line cuts
flat_lines [] = refl
flat_lines (c ∷ cs) = ap (λ l. cut_line c ++ l) (flat_lines cs) ∙ sym (flat_map-cons cut_line c cs)

map_both : (a b : List Cut) → map cut_line (a ++ b) ≡ map cut_line a ++ map cut_line b
map_both [] b = refl
map_both (c ∷ a) b = ap (λ l. cut_line c ∷ l) (map_both a b)

lines_side : (cuts : List (List Cut)) → side_by_side (cut_lines cuts) ≡ map cut_line (side_by_side cuts)
lines_side [] = refl
lines_side (c ∷ cs) = ap (λ l. map cut_line c ++ l) (lines_side cs) ∙ sym (map_both c (side_by_side cs))

pub all_cut_lines : (cuts : List (List Cut)) → concat (side_by_side (cut_lines cuts)) ≡ flat_map cut_line (side_by_side cuts)
all_cut_lines cuts = ap concat (lines_side cuts) ∙ flat_lines (side_by_side cuts)

pub adds_all : (ports : ℕ) (pieces : List Piece) (cuts : List (List Cut)) (old : List Drain) (old_underlay : Drain) (mid : List Drain) (mid_underlay : Drain) (new : List Drain) (new_underlay : Drain) (written now end : Option (List ℕ))
    → ports ≡ length old → length mid ≡ length old → length new ≡ length old → AreAdded (λ tap. written_header) old old_underlay mid mid_underlay → AreAdded (λ tap. capture_at tap pieces) mid mid_underlay new new_underlay
    → Appends written now (lines_in pieces) → Appends now end (concat (side_by_side (cut_lines cuts))) → Adds (texts_of_pieces ports pieces (side_by_side cuts)) old old_underlay written new new_underlay end
adds_all ports pieces cuts old old_underlay mid mid_underlay new new_underlay written now end count many many_new first second lines cut = record {
  ports = λ d k lt. at_port d k lt;
  underlay = Appends-trans old_underlay.written mid_underlay.written new_underlay.written written_header (capture_at Underlay pieces) (first Underlay tt) (second Underlay tt);
  decisions = Appends-trans written now end (lines_in pieces) (flat_map cut_line (side_by_side cuts)) lines (subst (Appends now end) (all_cut_lines cuts) cut);
}
  where
    at_port : (d : Drain) (k : ℕ) → k < length old → IsAdded (slice_index_or (map (λ port. written_header ++ capture_at (Port port) pieces) (range_with_len 1 ports)) k []) (slice_index_or old k d) (slice_index_or new k d)
    at_port d k lt =
        let text = get_or-map-range_with_len (λ port. written_header ++ capture_at (Port port) pieces) 1 ports k (1 + k) [] (omega (arith, lt, count)) refl in
        let index : 1 + k - 1 ≡ k = omega arith in
        let one = first (Port (1 + k)) (omega arith, omega (arith, lt)) in
        let two = second (Port (1 + k)) (omega arith, omega (arith, lt, many)) in
        let both = Appends-trans (slice_index_or old (1 + k - 1) old_underlay).written (slice_index_or mid (1 + k - 1) mid_underlay).written (slice_index_or new (1 + k - 1) new_underlay).written written_header (capture_at (Port (1 + k)) pieces) one two in
        rw text (subst (λ (x : Drain). IsAdded (written_header ++ capture_at (Port (1 + k)) pieces) (slice_index_or old k d) x) (get_or_default new k new_underlay d (omega (arith, lt, many_new)))
        (subst (λ (x : Drain). IsAdded (written_header ++ capture_at (Port (1 + k)) pieces) x (slice_index_or new k new_underlay)) (get_or_default old k old_underlay d lt)
        (subst (λ j. IsAdded (written_header ++ capture_at (Port (1 + k)) pieces) (slice_index_or old j old_underlay) (slice_index_or new j new_underlay)) index both)))
