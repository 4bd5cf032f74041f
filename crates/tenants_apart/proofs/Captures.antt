-- Two runs over captures that agree, source by source, in a segment's own.
use Rattle.std.proofs.Common.{◌≡◌, ◌∙◌, refl, sym, ap, ℕ, Bool, true, false, cond, List, [], ◌∷◌, ◌++◌, map, filter}
use Rattle.std.specs.List.{AllByRecursion}
use Rattle.std.proofs.lemmas.List.{map-append}
use Rattle.std.proofs.lemmas.List.Elements.{filter-append}
use Rattle.pcap.specs.Record.{Record}
use Rattle.timeline.specs.Timeline.{Timeline}
use Rattle.timeline.specs.declared.source.Source.{Source}
use Rattle.timeline.specs.declared.source.Source.TheVariants as sources
use Rattle.timeline.specs.declared.source.Tap.{Tap}
use Rattle.overlay.specs.Settings.{Settings as Told}
use Rattle.endpoint_core.specs.Opened.{settings_told}
use Rattle.endpoint_core.specs.Settings.{Settings}
use Rattle.endpoint_core.specs.Event.{Input, FrameAt, Packet, Asks, Event, IsRising}
use Rattle.endpoint_core.specs.Run.{settings_after_input}
use Rattle.endpoint_core.specs.Step.{opened}
use Rattle.capture_run.specs.Outputs.{Outputs}
use Rattle.capture_run.specs.Sendings.{record_of}
use Rattle.noninterference.specs.Alone.{is_segment, only}
use Rattle.noninterference.specs.Coming.{Inputs, IsRunOf, ChangesNeverFall, changes_of, coming, coming_to, from_source}
use Rattle.noninterference.specs.Leaving.{Row, rows_of, Departure, departures, departures_in, lines_in, leaves_at, records_in}
use Rattle.noninterference.proofs.Asked.{changes-told}
use Rattle.noninterference.proofs.Lists.{filter-both}
use Rattle.noninterference.proofs.Merging.{coming-rises, coming-turns}
use Rattle.noninterference.proofs.Turns.{Before, InTurn, same_by_source, turn-only}
use Rattle.tenants_apart.specs.Own.{Needs, everything, IsEnough, names_or_concerns, own_events, room_reply, room_replies}
use Rattle.tenants_apart.specs.Texts.{TellAlike, own_coming, replies_of, as_changed}
use Rattle.tenants_apart.proofs.Earlier.{events-follow, replies-follow}
use Rattle.tenants_apart.proofs.Enough.{enough-for}
use Rattle.tenants_apart.proofs.Events.{leaving-alike, lines-alike}
use Rattle.tenants_apart.proofs.Told.{part-told}

-- ---- its own events stand in the same order

all-own : (P : Event → Type 0) (vid : ℕ) (needs : Needs) (S : Settings) (es : List Event) → AllByRecursion P es → AllByRecursion P (own_events vid needs S es)
all-own P vid needs S [] h = tt
all-own P vid needs S (e ∷ es) h = by (names_or_concerns vid needs S e.input) (all-own P vid needs (settings_after_input S e.input) es h.1)
  where
    by : (b : Bool) → AllByRecursion P (own_events vid needs (settings_after_input S e.input) es)
        → AllByRecursion P (cond b (e ∷ own_events vid needs (settings_after_input S e.input) es) (own_events vid needs (settings_after_input S e.input) es))
    by true rest = (h.0, rest)
    by false rest = rest

pub turn-own : (R : Event → Event → Type 0) (vid : ℕ) (needs : Needs) (S : Settings) (es : List Event) → InTurn R es → InTurn R (own_events vid needs S es)
turn-own R vid needs S [] h = tt
turn-own R vid needs S (e ∷ es) h = by (names_or_concerns vid needs S e.input) (turn-own R vid needs (settings_after_input S e.input) es h.1)
  where
    by : (b : Bool) → InTurn R (own_events vid needs (settings_after_input S e.input) es)
        → InTurn R (cond b (e ∷ own_events vid needs (settings_after_input S e.input) es) (own_events vid needs (settings_after_input S e.input) es))
    by true rest = (all-own (R e) vid needs (settings_after_input S e.input) es h.0, rest)
    by false rest = rest

-- ---- two runs

-- the records of an output
abbrev pub records_of : Tap → List Departure → List Record
records_of output ds = map (λ (d : Departure). record_of d.sending) (filter (λ d. leaves_at output d.sending) ds)

pub records-append : (output : Tap) (ds es : List Departure) → records_of output (ds ++ es) ≡ records_of output ds ++ records_of output es
records-append output ds es =
    ap (map (λ (d : Departure). record_of d.sending)) (filter-append (λ (d : Departure). leaves_at output d.sending) ds es)
    ∙ map-append (λ (d : Departure). record_of d.sending) (filter (λ d. leaves_at output d.sending) ds) (filter (λ d. leaves_at output d.sending) es)

-- of those the records that leave in the segment
pub records_by : (vid : ℕ) (output : Tap) (rs : List Row) → map (λ (d : Departure). record_of d.sending) (filter (λ d. leaves_at output d.sending) (departures_in vid rs)) ≡ records_in vid output (departures rs)
records_by vid output rs =
    ap (map (λ (d : Departure). record_of d.sending)) (filter-both (λ (d : Departure). leaves_at output d.sending) (λ (d : Departure). is_segment vid d.segment) (departures rs))

pub rises : (s : Told) (x : Inputs) (l : Timeline) (o : Outputs) → IsRunOf s x l o → IsRising 0 (coming x l)
rises s x l o is = coming-rises (changes_of x) (map (λ c. c.at) x.changes) x.ports x.underlay l is.read

pub turns : (vid : ℕ) (needs : Needs) (s : Told) (x : Inputs) (l : Timeline) (o : Outputs) → IsRunOf s x l o → InTurn Before (own_events vid needs (settings_told s) (coming x l))
turns vid needs s x l o is =
    turn-own Before vid needs (settings_told s) (coming x l) (coming-turns (changes_of x) (map (λ c. c.at) x.changes) x.ports x.underlay l is.read)

module _ (vid : ℕ) (needs : Needs) (s t : Told) (x y : Inputs) (l m : Timeline) (o p : Outputs) (is : IsRunOf s x l o) (other : IsRunOf t y m p)
    (enough : IsEnough vid needs (settings_told s) (coming x l)) (told : TellAlike vid needs s t) (same : (source : Source) → own_coming vid needs s x l source ≡ own_coming vid needs t y m source) (replies : replies_of vid s x l ≡ replies_of vid t y m) where
  -- its own events are the same in both
  own-same : own_events vid needs (settings_told s) (coming x l) ≡ own_events vid needs (settings_told t) (coming y m)
  own-same = same_by_source (own_events vid needs (settings_told s) (coming x l)) (own_events vid needs (settings_told t) (coming y m)) (turns vid needs s x l o is) (turns vid needs t y m p other) same

  pub records-alike : (output : Tap) → records_in vid output (departures (rows_of s x l)) ≡ records_in vid output (departures (rows_of t y m))
  records-alike output =
      sym (records_by vid output (rows_of s x l))
      ∙ ap (λ ds. map (λ (d : Departure). record_of d.sending) (filter (λ d. leaves_at output d.sending) ds))
      (leaving-alike vid needs (settings_told s) (settings_told t) (coming x l) (coming y m) (rises s x l o is) (rises t y m p other) enough (part-told vid needs s t told) own-same replies)
      ∙ records_by vid output (rows_of t y m)

  pub told-alike : lines_in vid (rows_of s x l) ≡ lines_in vid (rows_of t y m)
  told-alike = lines-alike vid needs (settings_told s) (settings_told t) (coming x l) (coming y m) (rises s x l o is) (rises t y m p other) enough (part-told vid needs s t told) own-same replies

-- ---- of all that comes, the changes tell what is answered to changes

replies-step : (vid : ℕ) (S : Settings) (at : ℕ) (i : Input) (es : List Event) → room_replies vid (settings_after_input S i) es ≡ room_replies vid (settings_after_input S i) (from_source sources.Changes es)
    → (let e : Event = record { at = at; input = i } in room_replies vid S (e ∷ es) ≡ room_replies vid S (from_source sources.Changes (e ∷ es)))
replies-step vid S at (FrameAt port original b) es rest = rest
replies-step vid S at (Packet original b) es rest = rest
replies-step vid S at (Asks c) es rest = ap (λ l. room_reply vid S (Asks c) ++ l) rest

replies-changes : (vid : ℕ) (S : Settings) (es : List Event) → room_replies vid S es ≡ room_replies vid S (from_source sources.Changes es)
replies-changes vid S [] = refl
replies-changes vid S (e ∷ es) = replies-step vid S e.at e.input es (replies-changes vid (settings_after_input S e.input) es)

pub replies-told : (vid : ℕ) (s : Told) (x : Inputs) (l : Timeline) (o : Outputs) → IsRunOf s x l o → ChangesNeverFall 0 x.changes → replies_of vid s x l ≡ room_replies vid (settings_told s) (as_changed x.changes)
replies-told vid s x l o is never = replies-changes vid (settings_told s) (coming x l) ∙ ap (room_replies vid (settings_told s)) (changes-told s x l o is never)

-- ---- with the same settings

module _ (vid : ℕ) (s : Told) (x y : Inputs) (l m : Timeline) (o p : Outputs) (is : IsRunOf s x l o) (other : IsRunOf s y m p)
    (same : (source : Source) → coming_to vid s x l source ≡ coming_to vid s y m source) where
  turns-concerning : (z : Inputs) (n : Timeline) (q : Outputs) → IsRunOf s z n q → InTurn Before (only vid (opened (settings_told s)) (coming z n))
  turns-concerning z n q run =
      turn-only Before vid (opened (settings_told s)) (coming z n) (coming-turns (changes_of z) (map (λ c. c.at) z.changes) z.ports z.underlay n run.read)

  concerning-same : only vid (opened (settings_told s)) (coming x l) ≡ only vid (opened (settings_told s)) (coming y m)
  concerning-same = same_by_source (only vid (opened (settings_told s)) (coming x l)) (only vid (opened (settings_told s)) (coming y m)) (turns-concerning x l o is) (turns-concerning y m p other) same

  pub sources-follow : (needs : Needs) (source : Source) → own_coming vid needs s x l source ≡ own_coming vid needs s y m source
  sources-follow needs source = ap (from_source source) (events-follow vid needs (settings_told s) (coming x l) (coming y m) (rises s x l o is) (rises s y m p other) concerning-same)

  pub answers-follow : replies_of vid s x l ≡ replies_of vid s y m
  answers-follow = replies-follow vid everything (settings_told s) (coming x l) (coming y m) (rises s x l o is) (rises s y m p other) concerning-same

  -- what `noninterference::laws::captures` says
  pub records-follow : (output : Tap) → records_in vid output (departures (rows_of s x l)) ≡ records_in vid output (departures (rows_of s y m))
  records-follow = records-alike vid everything s s x y l m o p is other (enough-for vid (settings_told s) (coming x l)) (record { shared = refl; ports = λ port needed. refl; segment = refl }) (sources-follow everything) answers-follow

  pub told-follow : lines_in vid (rows_of s x l) ≡ lines_in vid (rows_of s y m)
  told-follow = told-alike vid everything s s x y l m o p is other (enough-for vid (settings_told s) (coming x l)) (record { shared = refl; ports = λ port needed. refl; segment = refl }) (sources-follow everything) answers-follow
