-- The events of a run, by the octets of its captures and the moments of its changes.
use Rattle.std.proofs.Common.{◌≡◌, ◌∙◌, refl, ap, subst, ℕ, suc, ◌+◌, ◌≤◌, max, arith, Bool, true, false, cond, List, [], ◌∷◌, ◌++◌, length, length-append, Option, Some, None, Vec, Result, Ok, Err}
use Rattle.std.specs.Prelude.{nat_lt}
use Rattle.std.specs.List.{AllByRecursion, cons_option, filter_map, flat_map}
use Rattle.std.specs.declared.alloc.Global.{Global}
use Rattle.std.proofs.lemmas.List.{drop_at, take_at}
use Rattle.wire.specs.Octets.{IsText}
use Rattle.wire.proofs.OctetsLemmas.{IsText-drop, IsText-take}
use Rattle.pcap.specs.Capture.{opened}
use Rattle.pcap.specs.Next.{Cut, End, Faulty, Whole}
use Rattle.pcap.specs.Reading.{AreRecordTexts, Reading}
use Rattle.pcap.specs.Record.{IsWithinLimits, Record, last_moment}
use Rattle.pcap.specs.RecordText.{record_header_text}
use Rattle.pcap.specs.declared.text.header.CaptureFault.{CaptureFault}
use Rattle.pcap.specs.declared.text.style.Style.{Style}
use Rattle.pcap.proofs.Opened.{IsCapture-within, opened-found}
use Rattle.timeline.specs.Events.{IsTapOf, all_events, change_events, events_of, record_events}
use Rattle.timeline.specs.Faults.{faults_of}
use Rattle.timeline.specs.Inputs.{Input, inputs, inputs_from, opened_by, opened_captures}
use Rattle.timeline.specs.Order.{IsRising, merged, put_in}
use Rattle.timeline.specs.Timeline.{Timeline, cut_by, cut_of, cuts_of, told}
use Rattle.timeline.proofs.Telling.{faultless-ok}
use Rattle.timeline.specs.declared.capture.Opened.{Opened}
use Rattle.timeline.specs.declared.event.Event.{Event}
use Rattle.timeline.specs.declared.event.Happening.{Happening}
use Rattle.timeline.specs.declared.event.Happening.TheVariants as happenings
use Rattle.timeline.specs.declared.source.Tap.{Tap}
use Rattle.timeline.specs.declared.source.Tap.TheVariants.{Port, Underlay}
use Rattle.timeline.specs.declared.timeline.Cut.{Cut as CutRest}
use Rattle.timeline.proofs.KnownEvents.{all-append}
use Rattle.timeline.proofs.Orders.{all_merged, rising_merged}

-- ---- octets of records

pub text-front : (a b : List ℕ) → IsText (a ++ b) → IsText a
text-front a b is = subst IsText (take_at a b (length a) refl) (IsText-take (length a) (a ++ b) is)

pub text-behind : (a b : List ℕ) → IsText (a ++ b) → IsText b
text-behind a b is = subst IsText (drop_at a b (length a) refl) (IsText-drop (length a) (a ++ b) is)

-- a moment that can be told, and octets
abbrev IsSound : Record → Type 0
IsSound r = (r.moment ≤ last_moment) × IsText r.octets

sound-records : (style : Style) (rs : List Record) (rest text : List ℕ) → IsText text → AreRecordTexts style rs rest text → AllByRecursion IsWithinLimits rs → AllByRecursion IsSound rs
sound-records style [] rest text is_text are limits = tt
sound-records style (r ∷ rs) rest text is_text are limits =
    let whole : IsText (are.0 ++ are.1) = subst IsText are.4 is_text in
    let record_text = are.2 in
    let front : IsText (record_header_text style.order record_text.header ++ r.octets) = subst IsText record_text.whole (text-front are.0 are.1 whole) in
    let kept = limits.0 in (
      (kept.moment, text-behind (record_header_text style.order record_text.header) r.octets front),
      sound-records style rs rest are.1 (text-behind are.0 are.1 whole) are.3 limits.1,
    )

sound-capture : (text : List ℕ) (reading : Reading) → IsText text → opened text ≡ Ok reading → AllByRecursion IsSound reading.records
sound-capture text reading is_text is =
    let capture = opened-found text reading is_text is in
    sound-records capture.style reading.records capture.records.rest capture.behind (text-behind _ capture.behind (subst IsText capture.header is_text)) capture.records.records (IsCapture-within text reading capture)

-- ---- captures

-- a capture of a run on so many ports
abbrev IsOpened : ℕ → Opened → Type 0
IsOpened ports c = IsTapOf ports c.tap × AllByRecursion IsSound c.capture.records

opened-one : (ports : ℕ) (tap : Tap) (text : List ℕ) (found : Result Reading CaptureFault) (others : List Opened) → IsTapOf ports tap → IsText text → opened text ≡ found → AllByRecursion (IsOpened ports) others
    → AllByRecursion (IsOpened ports) (cons_option (opened_by tap found) others)
opened-one ports tap text (Ok reading) others of_run is_text is h = ((of_run, sound-capture text reading is_text is), h)
opened-one ports tap text (Err fault) others of_run is_text is h = h

-- octets in memory
abbrev pub IsOctets : Vec ℕ Global → Type 0
IsOctets v = IsText v.items

opened-from : (ports port : ℕ) (vs : List (Vec ℕ Global)) (underlay : List ℕ) → 1 ≤ port → port + length vs ≤ ports + 1 → AllByRecursion IsOctets vs → IsText underlay
    → AllByRecursion (IsOpened ports) (opened_captures (inputs_from port vs underlay))
opened-from ports port [] underlay first last all is_text = opened-one ports Underlay underlay (opened underlay) [] tt is_text refl tt
opened-from ports port (v ∷ vs) underlay first last all is_text =
    opened-one ports (Port port) v.items (opened v.items) (opened_captures (inputs_from (port + 1) vs underlay)) (first, omega (arith, last)) all.0 refl
    (opened-from ports (port + 1) vs underlay (omega arith) (omega (arith, last)) all.1 is_text)

-- ---- events

-- what happens in a run on so many ports
abbrev pub Comes : ℕ → Happening → Type 0
Comes ports (happenings.Change index) = Unit {0}
Comes ports (happenings.Record tap c) = IsTapOf ports tap × IsText c.octets

-- an event of such a run, with no greater number than this
pub record IsComing (ports most : ℕ) (e : Event) : Type 0 where
  pub moment : e.moment ≤ last_moment
  pub number : e.number ≤ most
  pub happening : Comes ports e.happening

-- a moment that can be told
abbrev pub IsMoment : ℕ → Type 0
IsMoment moment = moment ≤ last_moment

length-records : (tap : Tap) (count latest : ℕ) (rs : List Record) → length (record_events tap count latest rs) ≡ length rs
length-records tap count latest [] = refl
length-records tap count latest (r ∷ rs) = ap suc (length-records tap (count + 1) (max r.moment latest) rs)

module _ (ports most : ℕ) where
  coming-changes : (index : ℕ) (moments : List ℕ) → index + length moments ≤ most → AllByRecursion IsMoment moments → AllByRecursion (IsComing ports most) (change_events index moments)
  coming-changes index [] le all = tt
  coming-changes index (m ∷ ms) le all = (record { moment = all.0; number = omega (arith, le); happening = tt }, coming-changes (index + 1) ms (omega (arith, le)) all.1)

  coming-records : (tap : Tap) (count latest : ℕ) (rs : List Record) → IsTapOf ports tap → latest ≤ last_moment → count + length rs ≤ most → AllByRecursion IsSound rs → AllByRecursion (IsComing ports most) (record_events tap count latest rs)
  coming-records tap count latest [] of_run early le all = tt
  coming-records tap count latest (r ∷ rs) of_run early le all =
      let own = all.0.0 in
      let later : max r.moment latest ≤ last_moment = omega (arith, own, early) in
      (record { moment = later; number = omega (arith, le); happening = (of_run, all.0.1) }, coming-records tap (count + 1) (max r.moment latest) rs of_run later (omega (arith, le)) all.1)

  coming-captures : (cs : List Opened) → AllByRecursion (IsOpened ports) cs → length (flat_map events_of cs) ≤ most → AllByRecursion (IsComing ports most) (flat_map events_of cs)
  coming-captures [] all le = tt
  coming-captures (c ∷ cs) all le =
      let both = length-append (events_of c) (flat_map events_of cs) in
      let many = length-records c.tap 0 0 c.capture.records in
      all-append (IsComing ports most) (events_of c) (flat_map events_of cs) (coming-records c.tap 0 0 c.capture.records all.0.0 (omega arith) (omega (arith, le, both, many)) all.0.1)
      (coming-captures cs all.1 (omega (arith, le, both)))

length-changes : (index : ℕ) (moments : List ℕ) → length (change_events index moments) ≡ length moments
length-changes index [] = refl
length-changes index (m ∷ ms) = ap suc (length-changes (index + 1) ms)

length-put_in : (e : Event) (es : List Event) → length (put_in e es) ≡ suc (length es)
length-put_in e [] = refl
length-put_in e (f ∷ fs) = by (nat_lt f.moment e.moment) (length-put_in e fs)
  where
    by : (b : Bool) → length (put_in e fs) ≡ suc (length fs) → length (cond b (f ∷ put_in e fs) (e ∷ f ∷ fs)) ≡ suc (suc (length fs))
    by true more = ap suc more
    by false more = refl

length-merged : (es : List Event) → length (merged es) ≡ length es
length-merged [] = refl
length-merged (e ∷ es) = length-put_in e (merged es) ∙ ap suc (length-merged es)

coming-all : (moments : List ℕ) (vs : List (Vec ℕ Global)) (underlay : List ℕ) → AllByRecursion IsOctets vs → IsText underlay → AllByRecursion IsMoment moments
    → let es = merged (all_events moments (opened_captures (inputs vs underlay))) in
    AllByRecursion (IsComing (length vs) (length es)) es
coming-all moments vs underlay all is_text early =
    let cs = opened_captures (inputs vs underlay) in
    let es = all_events moments cs in
    let most = length (merged es) in
    let whole = length-merged es in
    let both = length-append (change_events 0 moments) (flat_map events_of cs) in
    let many = length-changes 0 moments in
    all_merged (IsComing (length vs) most) es
    (all-append (IsComing (length vs) most) (change_events 0 moments) (flat_map events_of cs) (coming-changes (length vs) most 0 moments (omega (arith, whole, both, many)) early)
    (coming-captures (length vs) most cs (opened-from (length vs) 1 vs underlay (omega arith) (omega arith) all is_text) (omega (arith, whole, both))))

-- ---- a run without a fault

told-is : (moments : List ℕ) (vs : List (Vec ℕ Global)) (underlay : List ℕ) (timeline : Timeline) → told moments vs underlay ≡ Ok timeline
    → let cs = opened_captures (inputs vs underlay) in
    record { events = merged (all_events moments cs); cuts = cuts_of cs } ≡ timeline
unfolding told
told-is moments vs underlay timeline is =
    faultless-ok (faults_of (inputs vs underlay)) (record { events = merged (all_events moments (opened_captures (inputs vs underlay))); cuts = cuts_of (opened_captures (inputs vs underlay)) }) timeline is

-- its events are in order
pub rising-told : (moments : List ℕ) (vs : List (Vec ℕ Global)) (underlay : List ℕ) (timeline : Timeline) → told moments vs underlay ≡ Ok timeline → IsRising 0 timeline.events
rising-told moments vs underlay timeline is =
    subst (λ (t : Timeline). IsRising 0 t.events) (told-is moments vs underlay timeline is) (rising_merged (all_events moments (opened_captures (inputs vs underlay))))

-- its events are of its ports, and none has a greater number than there are
pub coming-told : (moments : List ℕ) (vs : List (Vec ℕ Global)) (underlay : List ℕ) (timeline : Timeline) → told moments vs underlay ≡ Ok timeline → AllByRecursion IsOctets vs → IsText underlay → AllByRecursion IsMoment moments
    → AllByRecursion (IsComing (length vs) (length timeline.events)) timeline.events
coming-told moments vs underlay timeline is all is_text early =
    subst (λ (t : Timeline). AllByRecursion (IsComing (length vs) (length t.events)) t.events) (told-is moments vs underlay timeline is) (coming-all moments vs underlay all is_text early)

-- ---- cuts

module _ {A B : Type 0} (f : A → Option B) where
  fewer : (xs : List A) → length (filter_map f xs) ≤ length xs
  fewer [] = omega arith
  fewer (x ∷ xs) = by (f x) (fewer xs)
    where
      by : (o : Option B) → length (filter_map f xs) ≤ length xs → length (cons_option o (filter_map f xs)) ≤ suc (length xs)
      by None le = omega (arith, le)
      by (Some y) le = omega (arith, le)

length-inputs : (port : ℕ) (vs : List (Vec ℕ Global)) (underlay : List ℕ) → length (inputs_from port vs underlay) ≡ suc (length vs)
length-inputs port [] underlay = refl
length-inputs port (v ∷ vs) underlay = ap suc (length-inputs (port + 1) vs underlay)

-- no more captures are cut than there are
pub cuts-told : (moments : List ℕ) (vs : List (Vec ℕ Global)) (underlay : List ℕ) (timeline : Timeline) → told moments vs underlay ≡ Ok timeline → length timeline.cuts ≤ suc (length vs)
cuts-told moments vs underlay timeline is =
    let cs = opened_captures (inputs vs underlay) in
    let counted : length (cuts_of cs) ≤ suc (length vs) =
    omega (arith, fewer cut_of cs, fewer (λ (input : Input). opened_by input.tap (opened input.text)) (inputs vs underlay), length-inputs 1 vs underlay) in
    subst (λ (t : Timeline). length t.cuts ≤ suc (length vs)) (told-is moments vs underlay timeline is) counted

-- a capture of a run on so many ports that is cut behind no more records than this
pub record IsCut (ports most : ℕ) (cut : CutRest) : Type 0 where
  pub tap : IsTapOf ports cut.tap
  pub whole : cut.whole ≤ most

module _ (ports most : ℕ) where
  cut-one : (tap : Tap) (count : ℕ) (end : End) (others : List CutRest) → IsTapOf ports tap → count ≤ most → AllByRecursion (IsCut ports most) others → AllByRecursion (IsCut ports most) (cons_option (cut_by tap count end) others)
  cut-one tap count Whole others of_run few all = all
  cut-one tap count Cut others of_run few all = (record { tap = of_run; whole = few }, all)
  cut-one tap count (Faulty fault) others of_run few all = all

  cuts-of : (cs : List Opened) → AllByRecursion (IsOpened ports) cs → length (flat_map events_of cs) ≤ most → AllByRecursion (IsCut ports most) (cuts_of cs)
  cuts-of [] all le = tt
  cuts-of (c ∷ cs) all le =
      let both = length-append (events_of c) (flat_map events_of cs) in
      let many = length-records c.tap 0 0 c.capture.records in
      cut-one c.tap (length c.capture.records) c.capture.end (cuts_of cs) all.0.0 (omega (arith, le, both, many)) (cuts-of cs all.1 (omega (arith, le, both)))

-- its cuts are of its captures, and behind no more records than there are events
pub cuts-coming : (moments : List ℕ) (vs : List (Vec ℕ Global)) (underlay : List ℕ) (timeline : Timeline) → told moments vs underlay ≡ Ok timeline → AllByRecursion IsOctets vs → IsText underlay
    → AllByRecursion (IsCut (length vs) (length timeline.events)) timeline.cuts
cuts-coming moments vs underlay timeline is all is_text =
    let cs = opened_captures (inputs vs underlay) in
    let es = all_events moments cs in
    let whole = length-merged es in
    let both = length-append (change_events 0 moments) (flat_map events_of cs) in
    subst (λ (t : Timeline). AllByRecursion (IsCut (length vs) (length t.events)) t.cuts) (told-is moments vs underlay timeline is)
    (cuts-of (length vs) (length (merged es)) cs (opened-from (length vs) 1 vs underlay (omega arith) (omega arith) all is_text) (omega (arith, whole, both)))
