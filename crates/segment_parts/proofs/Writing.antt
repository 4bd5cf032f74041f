-- The texts of pieces are what a run writes of them.
use Rattle.std.proofs.Common.{◌≡◌, ℕ, suc, ◌+◌, ◌==◌, arith, Bool, true, false, cond, List, [], ◌∷◌, ◌++◌, map, filter, length, refl, sym, ap, ◌∙◌}
use Rattle.std.specs.List.{flat_map, range_with_len, zip}
use Rattle.std.proofs.lemmas.Bool.{eqb-true, ne_eqb, eq-eqb}
use Rattle.std.proofs.lemmas.List.{append_assoc, map-append}
use Rattle.filter_db.specs.declared.place.Place.{Place}
use Rattle.filter_db.specs.declared.place.Place.TheVariants.{Local, Remote}
use Rattle.pcap.specs.Written.{written_header, written_record}
use Rattle.timeline.specs.Timeline.{Timeline}
use Rattle.timeline.specs.declared.event.Event.{Event as Happens}
use Rattle.timeline.specs.declared.source.Tap.{Tap}
use Rattle.timeline.specs.declared.source.Tap.TheVariants as taps
use Rattle.decision_lines.specs.Lines.{cut_line}
use Rattle.overlay.specs.declared.settings.change.Change.{Change}
use Rattle.endpoint_core.specs.Settings.{Settings}
use Rattle.endpoint_core.specs.Event.{Event}
use Rattle.endpoint_core.specs.Step.{Answer}
use Rattle.endpoint_core.specs.Run.{decisions}
use Rattle.capture_run.specs.Outputs.{Outputs, event_of, line_of, lines_of, sendings, outputs}
use Rattle.capture_run.specs.Sendings.{Sending, capture_of, is_at_port, is_at_underlay, record_of, sent_by}
use Rattle.capture_run.proofs.Growing.{holding}
use Rattle.part_merge.specs.Merged.{Piece, is_tap, at_tap, records_at, capture_at, lines_in, texts_of_pieces}
use Rattle.segment_parts.specs.Pieces.{tap_of, record_in, told_from, pieces_of, all_pieces}

-- ---- records

-- those of pieces
abbrev pub records_in : List Piece → List (Tap × List ℕ)
records_in ps = flat_map (λ (p : Piece). p.records) ps

eqb-sym : (a b : ℕ) → (a == b) ≡ (b == a)
eqb-sym a b = by (a == b) refl
  where
    by : (c : Bool) → (a == b) ≡ c → c ≡ (b == a)
    by true is = sym (eq-eqb b a (sym (eqb-true a b is)))
    by false is = sym (ne_eqb b a (λ same. let no : true ≡ false = sym (eq-eqb a b (sym same)) ∙ is in absurd cc))

at-port : (port : ℕ) (s : Sending) → is_tap (taps.Port port) (tap_of s.place) ≡ is_at_port port s
at-port port s = by s.place
  where
    by : (place : Place) → is_tap (taps.Port port) (tap_of place) ≡ elim place [ Local p ↦ p == port | Remote kind addr ↦ false ]
    by (Local p) = eqb-sym port p
    by (Remote kind addr) = refl

at-underlay : (s : Sending) → is_tap taps.Underlay (tap_of s.place) ≡ is_at_underlay s
at-underlay s = by s.place
  where
    by : (place : Place) → is_tap taps.Underlay (tap_of place) ≡ elim place [ Local p ↦ false | Remote kind addr ↦ true ]
    by (Local p) = refl
    by (Remote kind addr) = refl

-- the records of a capture among those of sendings
records-sent : (tap : Tap) (q : Sending → Bool) → ((s : Sending) → is_tap tap (tap_of s.place) ≡ q s) → (ss : List Sending) → records_at tap (map record_in ss) ≡ flat_map written_record (map record_of (filter q ss))
records-sent tap q same [] = refl
records-sent tap q same (s ∷ ss) =
    (λ i. cond (same s i) (written_record (record_of s)) [] ++ records-sent tap q same ss i) ∙ by (q s)
  where
    by : (b : Bool) → cond b (written_record (record_of s)) [] ++ flat_map written_record (map record_of (filter q ss)) ≡ flat_map written_record (map record_of (cond b (s ∷ filter q ss) (filter q ss)))
    by true = refl
    by false = refl

-- and among those of pieces
records-append : (tap : Tap) (rs others : List (Tap × List ℕ)) → records_at tap (rs ++ others) ≡ records_at tap rs ++ records_at tap others
records-append tap [] others = refl
records-append tap (r ∷ rs) others = ap (λ l. at_tap tap r.0 r.1 ++ l) (records-append tap rs others) ∙ sym (append_assoc (at_tap tap r.0 r.1) (records_at tap rs) (records_at tap others))

capture-is : (tap : Tap) (ps : List Piece) → capture_at tap ps ≡ records_at tap (records_in ps)
capture-is tap [] = refl
capture-is tap (p ∷ ps) = ap (λ l. records_at tap p.records ++ l) (capture-is tap ps) ∙ sym (records-append tap p.records (records_in ps))

map-each : {B : Type 0} (f g : ℕ → B) → ((x : ℕ) → f x ≡ g x) → (xs : List ℕ) → map f xs ≡ map g xs
map-each f g same [] = refl
map-each f g same (x ∷ xs) = rw (same x, map-each f g same xs) refl

-- the texts of pieces
abbrev pub standing : ℕ → List Piece → Outputs
standing n ps = record {
  ports = map (λ port. written_header ++ capture_at (taps.Port port) ps) (range_with_len 1 n);
  underlay = written_header ++ capture_at taps.Underlay ps;
  decisions = lines_in ps;
}

-- where their records are those of sendings
pub standing-is : (n : ℕ) (ps : List Piece) (ss : List Sending) → records_in ps ≡ map record_in ss → standing n ps ≡ holding n ss (lines_in ps)
standing-is n ps ss same =
    λ i. record {
      ports = map-each (λ port. written_header ++ capture_at (taps.Port port) ps) (λ port. capture_of (is_at_port port) ss) (λ port. capture (taps.Port port) (is_at_port port) (at-port port)) (range_with_len 1 n) i;
      underlay = capture taps.Underlay is_at_underlay at-underlay i;
      decisions = lines_in ps;
    }
  where
    capture : (tap : Tap) (q : Sending → Bool) → ((s : Sending) → is_tap tap (tap_of s.place) ≡ q s) → written_header ++ capture_at tap ps ≡ capture_of q ss
    capture tap q each = ap (λ l. written_header ++ l) (capture-is tap ps ∙ ap (records_at tap) same ∙ records-sent tap q each ss)

-- ---- a whole run

records-told : (changes : List Change) (count : ℕ) (rows : List (Happens × Answer)) → records_in (all_pieces (told_from changes count rows)) ≡ map record_in (sendings rows)
records-told changes count [] = refl
records-told changes count (row ∷ rows) =
    ap (λ l. map record_in (sent_by row.0.moment row.1) ++ l) (records-told changes (count + 1) rows)
    ∙ sym (map-append record_in (sent_by row.0.moment row.1) (sendings rows))

lines-told : (changes : List Change) (count : ℕ) (rows : List (Happens × Answer)) → lines_in (all_pieces (told_from changes count rows)) ≡ lines_of changes count rows
lines-told changes count [] = refl
lines-told changes count (row ∷ rows) = ap (λ l. line_of changes (count + 1) row ++ l) (lines-told changes (count + 1) rows)

-- a whole run writes all pieces
pub written-whole : (S : Settings) (changes : List Change) (n : ℕ) (timeline : Timeline) → outputs S changes n timeline ≡ texts_of_pieces n (all_pieces (pieces_of S changes timeline)) timeline.cuts
written-whole S changes n timeline =
    let rows = zip timeline.events (decisions S [] (map (event_of changes) timeline.events)) in
    let ps = all_pieces (told_from changes 0 rows) in
    let same : standing n ps ≡ holding n (sendings rows) (lines_of changes 0 rows) =
    standing-is n ps (sendings rows) (records-told changes 0 rows) ∙ ap (holding n (sendings rows)) (lines-told changes 0 rows) in
    λ i. let o = sym same i in record { ports = o.ports; underlay = o.underlay; decisions = o.decisions ++ flat_map cut_line timeline.cuts }

-- ---- numbers

numbers-from : (changes : List Change) (count : ℕ) (rows : List (Happens × Answer)) → map (λ (p : Piece). p.number) (all_pieces (told_from changes count rows)) ≡ range_with_len (count + 1) (length rows)
numbers-from changes count [] = refl
numbers-from changes count (row ∷ rows) = ap (λ l. (count + 1) ∷ l) (numbers-from changes (count + 1) rows)

-- as many answers as events
decisions-length : (S : Settings) (before es : List Event) → length (decisions S before es) ≡ length es
decisions-length S before [] = refl
decisions-length S before (e ∷ es) = ap suc (decisions-length S (before ++ e ∷ []) es)

zip-length : {A B : Type 0} (xs : List A) (ys : List B) → length ys ≡ length xs → length (zip xs ys) ≡ length xs
zip-length [] ys same = refl
zip-length (x ∷ xs) [] same = same
zip-length (x ∷ xs) (y ∷ ys) same = ap suc (zip-length xs ys (omega (arith, same)))

map-length : {A B : Type 0} (f : A → B) (xs : List A) → length (map f xs) ≡ length xs
map-length f [] = refl
map-length f (x ∷ xs) = ap suc (map-length f xs)

-- the pieces of a run are numbered from 1 on
pub numbers-rise : (S : Settings) (changes : List Change) (timeline : Timeline) → map (λ (p : Piece). p.number) (all_pieces (pieces_of S changes timeline)) ≡ range_with_len 1 (length timeline.events)
numbers-rise S changes timeline =
    let es = timeline.events in
    numbers-from changes 0 (zip es (decisions S [] (map (event_of changes) es)))
    ∙ ap (range_with_len 1) (zip-length es (decisions S [] (map (event_of changes) es)) (decisions-length S [] (map (event_of changes) es) ∙ map-length (event_of changes) es))
