-- What a part of a run writes is those pieces of the whole run that are told of its segments.
use Rattle.std.proofs.Common.{◌≡◌, ℕ, ◌+◌, Bool, true, false, cond, List, [], ◌∷◌, ◌++◌, map, filter, refl, sym, ap, ◌∙◌}
use Rattle.std.specs.List.{zip}
use Rattle.std.proofs.lemmas.List.{append_assoc, append-nil, map-append}
use Rattle.std.proofs.lemmas.Grind.{flat_map-append}
use Rattle.timeline.specs.Order.{IsRising}
use Rattle.timeline.specs.Timeline.{Timeline}
use Rattle.timeline.specs.declared.event.Event.{Event as Happens}
use Rattle.overlay.specs.declared.settings.change.Change.{Change}
use Rattle.endpoint_core.specs.Settings.{Settings}
use Rattle.endpoint_core.specs.State.{aged}
use Rattle.endpoint_core.specs.Event.{Event}
use Rattle.endpoint_core.specs.Step.{State, Answer, opened, answer, answers, after}
use Rattle.endpoint_core.proofs.Runs.{answers-decisions}
use Rattle.capture_run.specs.Outputs.{Outputs, event_of, input_of, line_of}
use Rattle.capture_run.specs.Sendings.{Sending, sent_by}
use Rattle.capture_run.specs.Writing.{with_event, with_cuts}
use Rattle.capture_run.proofs.Growing.{holding, empty_holds, event_more, cuts_more, rising_events}
use Rattle.noninterference.specs.Leaving.{told_in}
use Rattle.segment_set.specs.Segments.{Segments, holds}
use Rattle.endpoint_core.specs.Among.{segment_in, is_told, after_among}
use Rattle.capture_run.specs.Among.{with_event_among, with_events_among, cuts_among, outputs_among}
use Rattle.part_merge.specs.Merged.{Piece, lines_in, texts_of_pieces}
use Rattle.segment_parts.specs.Pieces.{Told, record_in, piece_of, told_of, told_from, pieces_of, all_pieces, pieces_in}
use Rattle.segment_parts.proofs.Telling.{Keeps, told_in-is, answers-kept, told-is, kept-step, kept-opened}
use Rattle.segment_parts.proofs.Writing.{records_in, standing, standing-is}

module _ (segments : Segments) (changes : List Change) (n : ℕ) where
  -- the pieces that come behind so many events
  abbrev coming : ℕ → State → List Happens → List Piece
  coming count s es = pieces_in segments (told_from changes count (zip es (answers s (map (event_of changes) es))))

  -- a piece more
  records-more : (ps : List Piece) (ss : List Sending) (number : ℕ) (row : Happens × Answer) → records_in ps ≡ map record_in ss
      → records_in (ps ++ piece_of changes number row ∷ []) ≡ map record_in (ss ++ sent_by row.0.moment row.1)
  records-more ps ss number row h =
      flat_map-append (λ (p : Piece). p.records) ps (piece_of changes number row ∷ [])
      ∙ (λ i. h i ++ append-nil (map record_in (sent_by row.0.moment row.1)) i)
      ∙ sym (map-append record_in ss (sent_by row.0.moment row.1))

  lines-more : (ps : List Piece) (number : ℕ) (row : Happens × Answer) → lines_in (ps ++ piece_of changes number row ∷ []) ≡ lines_in ps ++ line_of changes number row
  lines-more [] number row = append-nil (line_of changes number row)
  lines-more (p ∷ ps) number row = ap (λ l. p.line ++ l) (lines-more ps number row) ∙ sym (append_assoc p.line (lines_in ps) (line_of changes number row))

  -- an event is told to the part exactly where its piece is one of the part's
  piece-told : (count : ℕ) (s r : State) (e : Happens) → Keeps (holds segments) s r
      → holds segments (told_in (input_of changes e.happening) (answer s (event_of changes e))) ≡ is_told segments r (event_of changes e)
  piece-told count s r e keeps =
      ap (holds segments) (told_in-is e.moment (aged e.moment s.bridges) (input_of changes e.happening)) ∙ told-is segments s r (event_of changes e) keeps

  -- the pieces of a part from an event on, where that is told or not
  coming-by : (count : ℕ) (s r : State) (e : Happens) (es : List Happens) (b : Bool) → Keeps (holds segments) s r → is_told segments r (event_of changes e) ≡ b
      → coming count s (e ∷ es)
      ≡ cond b (piece_of changes (count + 1) (e, answer s (event_of changes e)) ∷ coming (count + 1) (after s (event_of changes e)) es) (coming (count + 1) (after s (event_of changes e)) es)
  coming-by count s r e es b keeps is =
      let first : Told = told_of changes (count + 1) (e, answer s (event_of changes e)) in
      let rest : List Told = filter (λ (t : Told). holds segments t.segment) (told_from changes (count + 1) (zip es (answers (after s (event_of changes e)) (map (event_of changes) es)))) in
      ap (λ (c : Bool). all_pieces (cond c (first ∷ rest) rest)) (piece-told count s r e keeps ∙ is)
      ∙ by b first rest
    where
      by : (b : Bool) (first : Told) (rest : List Told) → all_pieces (cond b (first ∷ rest) rest) ≡ cond b (first.piece ∷ all_pieces rest) (all_pieces rest)
      by true first rest = refl
      by false first rest = refl

  -- the texts behind an event that is told
  told-more : (count : ℕ) (s r : State) (ss : List Sending) (ps : List Piece) (e : Happens) → Keeps (holds segments) s r → is_told segments r (event_of changes e) ≡ true
      → let a = answer s (event_of changes e) in
      with_event_among segments changes (count + 1) r (holding n ss (lines_in ps)) e
      ≡ holding n (ss ++ sent_by e.moment a) (lines_in (ps ++ piece_of changes (count + 1) (e, a) ∷ []))
  told-more count s r ss ps e keeps is =
      let x = event_of changes e in
      let own : holds segments (segment_in s.bridges.settings x.input) ≡ true = told-is segments s r x keeps ∙ is in
      ap (λ (b : Bool). cond b (with_event changes (count + 1) (holding n ss (lines_in ps)) e (answer r x)) (holding n ss (lines_in ps))) is
      ∙ ap (with_event changes (count + 1) (holding n ss (lines_in ps)) e) (sym (answers-kept (holds segments) s r x keeps own))
      ∙ event_more changes n (count + 1) ss (lines_in ps) e (answer s x)
      ∙ ap (holding n (ss ++ sent_by e.moment (answer s x))) (sym (lines-more ps (count + 1) (e, answer s x)))

  -- a part in state r beside the whole run in state s: the texts of the pieces so far become those of all its pieces
  grown : (count : ℕ) (s r : State) (ss : List Sending) (ps : List Piece) → records_in ps ≡ map record_in ss → Keeps (holds segments) s r → (es : List Happens)
      → with_events_among segments changes count r (holding n ss (lines_in ps)) es ≡ standing n (ps ++ coming count s es)
  grown count s r ss ps h keeps [] = sym (standing-is n ps ss h) ∙ ap (standing n) (sym (append-nil ps))
  grown count s r ss ps h keeps (e ∷ es) =
      by (is_told segments r x) refl
      (grown (count + 1) (after s x) (after_among segments r x) (ss ++ sent_by e.moment a) (ps ++ piece ∷ []) (records-more ps ss (count + 1) (e, a) h) next es)
      (grown (count + 1) (after s x) (after_among segments r x) ss ps h next es)
    where
      x : Event
      x = event_of changes e

      a : Answer
      a = answer s x

      piece : Piece
      piece = piece_of changes (count + 1) (e, a)

      next : Keeps (holds segments) (after s x) (after_among segments r x)
      next = kept-step segments s r x keeps

      by : (b : Bool) → is_told segments r x ≡ b
          → with_events_among segments changes (count + 1) (after_among segments r x) (holding n (ss ++ sent_by e.moment a) (lines_in (ps ++ piece ∷ []))) es
          ≡ standing n ((ps ++ piece ∷ []) ++ coming (count + 1) (after s x) es)
          → with_events_among segments changes (count + 1) (after_among segments r x) (holding n ss (lines_in ps)) es ≡ standing n (ps ++ coming (count + 1) (after s x) es)
          → with_events_among segments changes (count + 1) (after_among segments r x) (with_event_among segments changes (count + 1) r (holding n ss (lines_in ps)) e) es
          ≡ standing n (ps ++ coming count s (e ∷ es))
      by true is told untold =
          ap (λ (o : Outputs). with_events_among segments changes (count + 1) (after_among segments r x) o es) (told-more count s r ss ps e keeps is)
          ∙ told
          ∙ ap (standing n) (append_assoc ps (piece ∷ []) (coming (count + 1) (after s x) es) ∙ ap (λ (l : List Piece). ps ++ l) (sym (coming-by count s r e es true keeps is)))
      by false is told untold =
          ap (λ (b : Bool). with_events_among segments changes (count + 1) (after_among segments r x) (cond b (with_event changes (count + 1) (holding n ss (lines_in ps)) e (answer r x)) (holding n ss (lines_in ps))) es) is
          ∙ untold
          ∙ ap (λ (l : List Piece). standing n (ps ++ l)) (sym (coming-by count s r e es false keeps is))

-- a part writes its own pieces
pub written-part : (segments : Segments) (S : Settings) (changes : List Change) (n : ℕ) (timeline : Timeline) → IsRising 0 timeline.events
    → outputs_among segments S changes n timeline ≡ texts_of_pieces n (pieces_in segments (pieces_of S changes timeline)) (cuts_among segments timeline.cuts)
written-part segments S changes n timeline rising =
    let es = timeline.events in
    let cuts = cuts_among segments timeline.cuts in
    ap (λ (o : Outputs). with_cuts (with_events_among segments changes 0 (opened S) o es) cuts) (empty_holds n)
    ∙ ap (λ (o : Outputs). with_cuts o cuts) (grown segments changes n 0 (opened S) (opened S) [] [] refl (kept-opened segments S) es)
    ∙ cuts_more (standing n (coming segments changes n 0 (opened S) es)) cuts
    ∙ ap (λ (replies : List Answer). texts_of_pieces n (pieces_in segments (told_from changes 0 (zip es replies))) cuts)
    (answers-decisions S [] (map (event_of changes) es) (rising_events changes 0 es rising))
