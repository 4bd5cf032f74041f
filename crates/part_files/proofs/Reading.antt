-- What an output that was empty holds behind a run.
use Rattle.std.proofs.Common.{◌≡◌, ◌∙◌, sym, ap, subst, ℕ, ◌+◌, ◌<◌, arith, List, [], ◌++◌, length, take, slice_index_or, Option, Some, None}
use Rattle.std.specs.Io.KnownBytes.{Appends}
use Rattle.std.proofs.lemmas.List.{take_all}
use Rattle.std.proofs.lemmas.List.FromFn.{length-map-range_with_len}
use Rattle.pcap.specs.Written.{written_header}
use Rattle.pcap.specs.Sink.{Drain}
use Rattle.timeline.specs.declared.source.Tap.TheVariants.{Port, Underlay}
use Rattle.timeline.specs.declared.timeline.Cut.{Cut}
use Rattle.noninterference.proofs.Lists.{at-range}
use Rattle.stream_run.specs.Stage.{Drains, StandAt, StandsBetween}
use Rattle.part_merge.specs.Merged.{Piece, capture_at, texts_of_pieces}
use Rattle.part_files.specs.Files.{AreEmpty, IsEmpty}

-- ---- one output

appended : (now : Option (List ℕ)) (text : List ℕ) → Appends (Some []) now text → now ≡ Some text
appended None text h = absurd h
appended (Some held) text h = ap Some h

pub holds-just : (old new : Drain) (text : List ℕ) → IsEmpty old → StandsBetween old new text text → new.written ≡ Some text
holds-just old new text empty stands =
    let whole : take stands.size text ≡ text = take_all stands.size text stands.no_less in
    appended new.written text (subst (λ (l : List ℕ). Appends (Some []) new.written l) whole (subst (λ (w : Option (List ℕ)). Appends w new.written (take stands.size text)) empty stands.text))

-- ---- all outputs

-- the outputs hold the texts of these pieces and of these cut captures, and nothing else
pub record HoldTexts (count : ℕ) (pieces : List Piece) (cuts : List Cut) (outputs : Drains) : Type 0 where
  pub many : length outputs.ports ≡ count
  pub ports : (d : Drain) (k : ℕ) → k < count → (slice_index_or outputs.ports k d).written ≡ Some (written_header ++ capture_at (Port (1 + k)) pieces)
  pub underlay : outputs.underlay.written ≡ Some (written_header ++ capture_at Underlay pieces)
  pub decisions : outputs.decisions.written ≡ Some (texts_of_pieces count pieces cuts).decisions

pub texts-held : (count : ℕ) (pieces : List Piece) (cuts : List Cut) (old new : Drains) → AreEmpty old → StandAt old new (texts_of_pieces count pieces cuts) → HoldTexts count pieces cuts new
texts-held count pieces cuts old new empty stands = record {
  many = stands.between.ports.many ∙ all;
  ports = λ d k lt.
      let there : k < length old.ports = omega (arith, lt, all) in
      holds-just (slice_index_or old.ports k d) (slice_index_or new.ports k d) (text (1 + k)) (empty.ports d k there)
      (subst (λ (l : List ℕ). StandsBetween (slice_index_or old.ports k d) (slice_index_or new.ports k d) l l) (at-range text [] 1 count k lt)
      (stands.between.ports.each d k there));
  underlay = holds-just old.underlay new.underlay (written_header ++ capture_at Underlay pieces) empty.underlay stands.between.underlay;
  decisions = holds-just old.decisions new.decisions (texts_of_pieces count pieces cuts).decisions empty.decisions stands.between.decisions;
}
  where
    text : ℕ → List ℕ
    text port = written_header ++ capture_at (Port port) pieces

    all : length old.ports ≡ count
    all = sym stands.between.ports.many_least ∙ length-map-range_with_len text 1 count
