-- What comes from a capture is its records.
use Rattle.std.proofs.Common.{◌≡◌, ◌∙◌, refl, sym, ap, subst, ℕ, ◌+◌, ◌<◌, max, arith, Bool, true, false, cond, List, [], ◌∷◌, ◌++◌, map, filter, Vec, Result, Ok, Err}
use Rattle.std.specs.List.{AllByRecursion, cons_option, flat_map}
use Rattle.std.specs.declared.alloc.Global.{Global}
use Rattle.std.proofs.lemmas.Bool.{ne_eqb}
use Rattle.std.proofs.lemmas.List.{append-nil}
use Rattle.pcap.specs.Capture.{opened}
use Rattle.pcap.specs.Reading.{Reading}
use Rattle.pcap.specs.Record.{Record}
use Rattle.pcap.specs.declared.text.header.CaptureFault.{CaptureFault}
use Rattle.timeline.proofs.Orders.{captures_rise, rising_stays}
use Rattle.timeline.specs.Events.{all_events, change_events, events_of, record_events}
use Rattle.timeline.specs.Inputs.{inputs, inputs_from, opened_by, opened_captures}
use Rattle.timeline.specs.Order.{IsRising, merged}
use Rattle.timeline.specs.Timeline.{Timeline}
use Rattle.timeline.specs.Words.{source_of}
use Rattle.timeline.specs.declared.capture.Opened.{Opened}
use Rattle.timeline.specs.declared.event.Event.{Event as Happens}
use Rattle.timeline.specs.declared.event.Happening.TheVariants as happenings
use Rattle.timeline.specs.declared.source.Source.TheVariants as sources
use Rattle.timeline.specs.declared.source.Tap.{Tap}
use Rattle.timeline.specs.declared.source.Tap.TheVariants as taps
use Rattle.overlay.specs.Settings.{Settings as Told}
use Rattle.overlay.specs.declared.settings.change.Change.{Change}
use Rattle.endpoint_core.specs.Event.{frame_at, packet_at}
use Rattle.capture_run.specs.Outputs.{Outputs, event_of, input_of}
use Rattle.noninterference.specs.Coming as coming
use Rattle.noninterference.specs.Coming.{Inputs, IsRunOf, IsTold, IsToldAsItIs, NeverFall, changes_of, is_tap, is_source, taken_from}
use Rattle.noninterference.proofs.Lists.{all-both, all-each, filter-agree, filter-map}
use Rattle.noninterference.proofs.Merging.{same_source, told_events}
use Rattle.noninterference.proofs.Turns.{is_tap-itself}

-- ---- of all events those of a tap

abbrev is_of : Tap → Happens → Bool
is_of tap e = is_source (sources.Tap tap) (source_of e.happening)

no_changes : (tap : Tap) (index : ℕ) (moments : List ℕ) (rest : List Happens) → filter (is_of tap) (change_events index moments ++ rest) ≡ filter (is_of tap) rest
no_changes tap index [] rest = refl
no_changes tap index (m ∷ ms) rest = no_changes tap (index + 1) ms rest

kept : (tap of_capture : Tap) (count latest : ℕ) (rs : List Record) (rest : List Happens) → is_tap tap of_capture ≡ true
    → filter (is_of tap) (record_events of_capture count latest rs ++ rest) ≡ record_events of_capture count latest rs ++ filter (is_of tap) rest
kept tap of_capture count latest [] rest is = refl
kept tap of_capture count latest (r ∷ rs) rest is =
    let e : Happens = record { moment = max r.moment latest; number = count + 1; happening = happenings.Record of_capture (record { original = r.original; octets = r.octets }) } in
    let behind = filter (is_of tap) (record_events of_capture (count + 1) (max r.moment latest) rs ++ rest) in
    ap (λ b. cond b (e ∷ behind) behind) is ∙ ap (λ l. e ∷ l) (kept tap of_capture (count + 1) (max r.moment latest) rs rest is)

skipped : (tap of_capture : Tap) (count latest : ℕ) (rs : List Record) (rest : List Happens) → is_tap tap of_capture ≡ false
    → filter (is_of tap) (record_events of_capture count latest rs ++ rest) ≡ filter (is_of tap) rest
skipped tap of_capture count latest [] rest is = refl
skipped tap of_capture count latest (r ∷ rs) rest is =
    let e : Happens = record { moment = max r.moment latest; number = count + 1; happening = happenings.Record of_capture (record { original = r.original; octets = r.octets }) } in
    let behind = filter (is_of tap) (record_events of_capture (count + 1) (max r.moment latest) rs ++ rest) in
    ap (λ b. cond b (e ∷ behind) behind) is ∙ skipped tap of_capture (count + 1) (max r.moment latest) rs rest is

-- ---- each capture has a tap of its own

skipped_opened : (tap of_capture : Tap) (found : Result Reading CaptureFault) (others : List Opened) → is_tap tap of_capture ≡ false
    → filter (is_of tap) (flat_map events_of (cons_option (opened_by of_capture found) others)) ≡ filter (is_of tap) (flat_map events_of others)
skipped_opened tap of_capture (Ok reading) others is = skipped tap of_capture 0 0 reading.records (flat_map events_of others) is
skipped_opened tap of_capture (Err fault) others is = refl

absent : (q port : ℕ) (vs : List (Vec ℕ Global)) (underlay : List ℕ) → q < port → filter (is_of (taps.Port q)) (flat_map events_of (opened_captures (inputs_from port vs underlay))) ≡ []
absent q port [] underlay lt = skipped_opened (taps.Port q) taps.Underlay (opened underlay) [] refl
absent q port (v ∷ vs) underlay lt =
    skipped_opened (taps.Port q) (taps.Port port) (opened v.items) (opened_captures (inputs_from (port + 1) vs underlay)) (ne_eqb q port (λ is. absurd (omega (arith, lt, is))))
    ∙ absent q (port + 1) vs underlay (omega (arith, lt))

-- none of these is taken at the tap
abbrev Elsewhere : Tap → Opened → Type 0
Elsewhere tap c = is_tap c.tap tap ≡ false

elsewhere_opened : (tap of_capture : Tap) (found : Result Reading CaptureFault) (others : List Opened) → is_tap of_capture tap ≡ false → AllByRecursion (Elsewhere tap) others
    → AllByRecursion (Elsewhere tap) (cons_option (opened_by of_capture found) others)
elsewhere_opened tap of_capture (Ok reading) others is h = (is, h)
elsewhere_opened tap of_capture (Err fault) others is h = h

elsewhere : (q port : ℕ) (vs : List (Vec ℕ Global)) (underlay : List ℕ) → q < port → AllByRecursion (Elsewhere (taps.Port q)) (opened_captures (inputs_from port vs underlay))
elsewhere q port [] underlay lt = elsewhere_opened (taps.Port q) taps.Underlay (opened underlay) [] refl tt
elsewhere q port (v ∷ vs) underlay lt =
    elsewhere_opened (taps.Port q) (taps.Port port) (opened v.items) (opened_captures (inputs_from (port + 1) vs underlay)) (ne_eqb port q (λ is. absurd (omega (arith, lt, is))))
    (elsewhere q (port + 1) vs underlay (omega (arith, lt)))

-- of these events those of the capture's tap are its own
abbrev HasOwn : List Happens → Opened → Type 0
HasOwn all c = filter (is_of c.tap) all ≡ events_of c

own_opened : (tap : Tap) (found : Result Reading CaptureFault) (others : List Opened) → filter (is_of tap) (flat_map events_of others) ≡ [] → AllByRecursion (Elsewhere tap) others
    → AllByRecursion (HasOwn (flat_map events_of others)) others
    → AllByRecursion (HasOwn (flat_map events_of (cons_option (opened_by tap found) others))) (cons_option (opened_by tap found) others)
own_opened tap (Ok reading) others none apart h = (
  kept tap tap 0 0 reading.records (flat_map events_of others) (is_tap-itself tap) ∙ ap (λ l. record_events tap 0 0 reading.records ++ l) none ∙ append-nil (record_events tap 0 0 reading.records),
  all-both (Elsewhere tap) (HasOwn (flat_map events_of others)) (HasOwn (record_events tap 0 0 reading.records ++ flat_map events_of others))
      (λ c is own. skipped c.tap tap 0 0 reading.records (flat_map events_of others) is ∙ own) others apart h,
)
own_opened tap (Err fault) others none apart h = h

own_captures : (port : ℕ) (vs : List (Vec ℕ Global)) (underlay : List ℕ)
    → AllByRecursion (HasOwn (flat_map events_of (opened_captures (inputs_from port vs underlay)))) (opened_captures (inputs_from port vs underlay))
own_captures port [] underlay = own_opened taps.Underlay (opened underlay) [] refl tt tt
own_captures port (v ∷ vs) underlay =
    own_opened (taps.Port port) (opened v.items) (opened_captures (inputs_from (port + 1) vs underlay)) (absent port (port + 1) vs underlay (omega arith))
    (elsewhere port (port + 1) vs underlay (omega arith)) (own_captures (port + 1) vs underlay)

-- ---- in a run

told_by : (x : Inputs) (l : Timeline) → merged (all_events (map (λ c. c.at) x.changes) (opened_captures (inputs x.ports x.underlay))) ≡ l.events
    → (c : Opened) → HasOwn (flat_map events_of (opened_captures (inputs x.ports x.underlay))) c → IsTold x l c
told_by x l is c own =
    let all = all_events (map (λ t. t.at) x.changes) (opened_captures (inputs x.ports x.underlay)) in
    let here : filter (is_of c.tap) all ≡ events_of c = no_changes c.tap 0 (map (λ t. t.at) x.changes) (flat_map events_of (opened_captures (inputs x.ports x.underlay))) ∙ own in
    let stays : filter (is_of c.tap) (merged all) ≡ filter (is_of c.tap) all = rising_stays (is_of c.tap) all (subst (IsRising 0) (sym here) (captures_rise c)) in
    filter-map (λ e. is_source (sources.Tap c.tap) (coming.source_of e.input)) (event_of (changes_of x)) l.events
    ∙ ap (map (event_of (changes_of x)))
    (filter-agree (λ (e : Happens). is_source (sources.Tap c.tap) (coming.source_of (input_of (changes_of x) e.happening))) (is_of c.tap)
    (λ e. ap (is_source (sources.Tap c.tap)) (same_source (changes_of x) e.happening)) l.events
    ∙ ap (filter (is_of c.tap)) (sym is)
    ∙ stays
    ∙ here)

pub captures-told : (s : Told) (x : Inputs) (l : Timeline) (o : Outputs) → IsRunOf s x l o → AllByRecursion (IsTold x l) (opened_captures (inputs x.ports x.underlay))
captures-told s x l o is =
    all-each (HasOwn (flat_map events_of (opened_captures (inputs x.ports x.underlay)))) (IsTold x l)
    (told_by x l (told_events (map (λ c. c.at) x.changes) x.ports x.underlay l is.read))
    (opened_captures (inputs x.ports x.underlay)) (own_captures 1 x.ports x.underlay)

-- ---- at their own moments

taken : (changes : List Change) (tap : Tap) (number moment : ℕ) (r : Record) → moment ≡ r.moment
    → event_of changes (record { moment = moment; number = number; happening = happenings.Record tap (record { original = r.original; octets = r.octets }) }) ≡ taken_from tap r
taken changes (taps.Port port) number moment r same = ap (λ m. frame_at m port r.original r.octets) same
taken changes taps.Underlay number moment r same = ap (λ m. packet_at m r.original r.octets) same

as_they_are : (changes : List Change) (tap : Tap) (count latest : ℕ) (rs : List Record) → NeverFall latest rs → map (event_of changes) (record_events tap count latest rs) ≡ map (taken_from tap) rs
as_they_are changes tap count latest [] h = refl
as_they_are changes tap count latest (r ∷ rs) h =
    let same : max r.moment latest ≡ r.moment = omega (arith, h.0) in
    ap (λ e. e ∷ map (event_of changes) (record_events tap (count + 1) (max r.moment latest) rs)) (taken changes tap (count + 1) (max r.moment latest) r same)
    ∙ ap (λ l. taken_from tap r ∷ l) (as_they_are changes tap (count + 1) (max r.moment latest) rs (subst (λ m. NeverFall m rs) (sym same) h.1))

pub captures-as_they_are : (s : Told) (x : Inputs) (l : Timeline) (o : Outputs) → IsRunOf s x l o → AllByRecursion (IsToldAsItIs x l) (opened_captures (inputs x.ports x.underlay))
captures-as_they_are s x l o is =
    all-each (IsTold x l) (IsToldAsItIs x l) (λ c told never. told ∙ as_they_are (changes_of x) c.tap 0 0 c.capture.records never)
    (opened_captures (inputs x.ports x.underlay)) (captures-told s x l o is)
