-- What the turns of a run tell of the octets of its captures.
use Rattle.std.proofs.Common.{◌≡◌, ◌∙◌, refl, sym, ap, subst, ℕ, zero, suc, ◌+◌, ◌-◌, ◌<◌, ◌≤◌, ◌==◌, ◌⊎◌, inl, inr, max, Bool, true, false, List, [], ◌∷◌, ◌++◌, append-nil, append_assoc, length, length-append, map, drop, slice_index_or, arith, Option, Some, None, Result, Ok, Err}
use Rattle.std.proofs.lemmas.Bool.{eqb-true, eqb-false}
use Rattle.pcap.specs.Capture.{opened}
use Rattle.pcap.specs.Reading.{Reading, records}
use Rattle.pcap.specs.Record.{Record}
use Rattle.pcap.specs.declared.text.header.CaptureFault.{CaptureFault}
use Rattle.pcap.specs.Source.{Stream}
use Rattle.overlay.specs.declared.settings.change.TimedChange.{TimedChange}
use Rattle.timeline.proofs.Orders.{captures_rise}
use Rattle.timeline.specs.Events.{change_events, greatest, record_events}
use Rattle.timeline.specs.Order.{IsRising}
use Rattle.timeline.specs.declared.event.Event.{Event}
use Rattle.timeline.specs.declared.event.Happening.TheVariants as happenings
use Rattle.timeline.specs.declared.source.Tap.{Tap}
use Rattle.timeline.specs.declared.source.Tap.TheVariants.{Port, Underlay}
use Rattle.stream_run.specs.Coming.{capture_events, events_by, source_events}
use Rattle.stream_run.specs.Read.{IsRead, Lends, StandsBehind}
use Rattle.stream_run.specs.Steps.{AreRead, AreTimely, IsAt, IsNextEvent, moment_at, octets_at, record_event, source_at}
use Rattle.stream_run.specs.declared.turn.Turn.{Turn}
use Rattle.stream_run.proofs.Merging.{AreAhead, first_moment}

-- ---- the changes

-- the event of the change of this number, from 0
abbrev change_event : ℕ → ℕ → Event
change_event moment number = record { moment = moment; number = number + 1; happening = happenings.Change number }

abbrev moments_of : List TimedChange → List ℕ
moments_of changes = map (λ (c : TimedChange). c.at) changes

-- behind so many changes stands the next one, or none
change_next : (from k : ℕ) (changes : List TimedChange) → moment_at changes k ≡ first_moment (drop k (change_events from (moments_of changes)))
change_next from zero [] = refl
change_next from (suc k) [] = refl
change_next from zero (c ∷ cs) = refl
change_next from (suc k) (c ∷ cs) = change_next (from + 1) k cs

change_left : (from k moment number : ℕ) (changes : List TimedChange) → moment_at changes k ≡ Some moment → number ≡ from + k
    → drop k (change_events from (moments_of changes)) ≡ change_event moment number ∷ drop (suc k) (change_events from (moments_of changes))
change_left from zero moment number [] is same = absurd cc
change_left from (suc k) moment number [] is same = absurd cc
change_left from zero moment number (c ∷ cs) is same =
    let at : c.at ≡ moment = cc in
    let here : from ≡ number = omega (arith, same) in
    rw (at, here) refl
change_left from (suc k) moment number (c ∷ cs) is same = change_left (from + 1) k moment number cs is (omega (arith, same))

changes_rise : (least from : ℕ) (changes : List TimedChange) → ((c : TimedChange) (k : ℕ) → k + 1 < length changes → (slice_index_or changes k c).at ≤ (slice_index_or changes (k + 1) c).at)
    → ((c : TimedChange) → 0 < length changes → least ≤ (slice_index_or changes 0 c).at) → IsRising least (change_events from (moments_of changes))
changes_rise least from [] rising first = tt
changes_rise least from (c ∷ cs) rising first =
    (first c (omega arith), changes_rise c.at (from + 1) cs behind (λ d lt. rising d 0 (omega (arith, lt))))
  where
    behind : (d : TimedChange) (k : ℕ) → k + 1 < length cs → (slice_index_or cs k d).at ≤ (slice_index_or cs (k + 1) d).at
    behind d k lt =
        let same : suc k + 1 ≡ suc (k + 1) = omega arith in
        subst (λ n. (slice_index_or cs k d).at ≤ (slice_index_or (c ∷ cs) n d).at) same (rising d (suc k) (omega (arith, lt)))

-- ---- a capture

pub greatest_more : (rs : List Record) (r : Record) → greatest (rs ++ r ∷ []) ≡ max r.moment (greatest rs)
greatest_more [] r = refl
greatest_more (x ∷ rs) r = let more = greatest_more rs r in omega (arith, more)

-- the events behind those of some records
records_left : (tap : Tap) (count latest : ℕ) (done rest : List Record)
    → drop (length done) (record_events tap count latest (done ++ rest)) ≡ record_events tap (count + length done) (max (greatest done) latest) rest
records_left tap count latest [] rest =
    let same : count ≡ count + 0 = omega arith in
    let also : latest ≡ max 0 latest = omega arith in
    ap (λ n. record_events tap n latest rest) same ∙ ap (λ m. record_events tap (count + 0) m rest) also
records_left tap count latest (r ∷ done) rest =
    let same : count + 1 + length done ≡ count + length (r ∷ done) = omega arith in
    let also : max (greatest done) (max r.moment latest) ≡ max (greatest (r ∷ done)) latest = omega arith in
    records_left tap (count + 1) (max r.moment latest) done rest
    ∙ ap (λ n. record_events tap n (max (greatest done) (max r.moment latest)) rest) same
    ∙ ap (λ m. record_events tap (count + length (r ∷ done)) m rest) also

-- all of them behind the first
capture_left : (tap : Tap) (found : Result Reading CaptureFault) (reading : Reading) (done rest : List Record) → found ≡ Ok reading → reading.records ≡ done ++ rest
    → drop (length done) (events_by tap found) ≡ record_events tap (length done) (greatest done) rest
capture_left tap found reading done rest is all =
    let none : 0 + length done ≡ length done = omega arith in
    let same : max (greatest done) 0 ≡ greatest done = omega arith in
    ap (λ f. drop (length done) (events_by tap f)) is
    ∙ ap (λ rs. drop (length done) (record_events tap 0 0 rs)) all
    ∙ records_left tap 0 0 done rest
    ∙ ap (λ n. record_events tap n (max (greatest done) 0) rest) none
    ∙ ap (λ m. record_events tap (length done) m rest) same

-- a source that stands behind some records tells the first event that is left
stands_next : (octets : List ℕ) (tap : Tap) (done : List Record) (next : Option ℕ) (s : Stream) → StandsBehind octets done next s → next ≡ first_moment (drop (length done) (events_by tap (opened octets)))
stands_next octets tap done (Some moment) s (r, is, lends) =
    let reading = lends.reading in
    ap Some is
    ∙ sym (ap first_moment (capture_left tap (opened octets) _ done (r ∷ (records reading.style reading.rest).records) reading.records (append_assoc done (r ∷ []) (records reading.style reading.rest).records)))
stands_next octets tap done None s whole = sym (ap first_moment (capture_left tap (opened octets) _ done [] whole.reading (sym (append-nil done))))

pub read_next : (octets : List ℕ) (tap : Tap) (t : Turn) (s : Stream) → IsRead octets t s → t.next ≡ first_moment (drop t.done (events_by tap (opened octets)))
read_next octets tap t s read =
    stands_next octets tap read.done t.next s read.stands ∙ ap (λ n. first_moment (drop n (events_by tap (opened octets)))) (sym read.count)

-- the record that is lent is the event that comes next
pub record IsLentNext (octets : List ℕ) (tap : Tap) (moment : ℕ) (t : Turn) (s : Stream) : Type 0 where
  pub done : List Record
  pub r : Record
  pub count : t.done ≡ length done
  pub moment_is : moment ≡ max r.moment (greatest done)
  pub lends : Lends octets done r s
  pub left : drop t.done (events_by tap (opened octets)) ≡ record_event tap t.done moment r ∷ drop (t.done + 1) (events_by tap (opened octets))

record_left : (octets : List ℕ) (tap : Tap) (moment : ℕ) (done : List Record) (r : Record) (s : Stream) → moment ≡ max r.moment (greatest done) → Lends octets done r s
    → drop (length done) (events_by tap (opened octets)) ≡ record_event tap (length done) moment r ∷ drop (length done + 1) (events_by tap (opened octets))
record_left octets tap moment done r s is lends =
    let reading = lends.reading in
    let rest = (records reading.style reading.rest).records in
    let size : length (done ++ r ∷ []) ≡ length done + 1 = omega (arith, length-append done (r ∷ [])) in
    let latest : greatest (done ++ r ∷ []) ≡ max r.moment (greatest done) = greatest_more done r in
    let behind : drop (length done + 1) (events_by tap (opened octets)) ≡ record_events tap (length done + 1) (max r.moment (greatest done)) rest =
    ap (λ n. drop n (events_by tap (opened octets))) (sym size)
    ∙ capture_left tap (opened octets) _ (done ++ r ∷ []) rest reading.records refl
    ∙ ap (λ n. record_events tap n (greatest (done ++ r ∷ [])) rest) size
    ∙ ap (λ m. record_events tap (length done + 1) m rest) latest in
    capture_left tap (opened octets) _ done (r ∷ rest) reading.records (append_assoc done (r ∷ []) rest)
    ∙ ap (λ l. record_event tap (length done) (max r.moment (greatest done)) r ∷ l) (sym behind)
    ∙ ap (λ m. record_event tap (length done) m r ∷ drop (length done + 1) (events_by tap (opened octets))) (sym is)

pub lent_next : (octets : List ℕ) (tap : Tap) (moment : ℕ) (t : Turn) (s : Stream) → IsRead octets t s → t.next ≡ Some moment → IsLentNext octets tap moment t s
lent_next octets tap moment t s read next = by (subst (λ n. StandsBehind octets read.done n s) next read.stands)
  where
    by : StandsBehind octets read.done (Some moment) s → IsLentNext octets tap moment t s
    by (r, is, lends) = record {
      done = read.done;
      r = r;
      count = read.count;
      moment_is = is;
      lends = lends;
      left = subst (λ n. drop n (events_by tap (opened octets)) ≡ record_event tap n moment r ∷ drop (n + 1) (events_by tap (opened octets))) (sym read.count) (record_left octets tap moment read.done r s is lends);
    }

-- ---- all sources

port_there : (from j : ℕ) (texts : List (List ℕ)) (text : List ℕ) (port : ℕ) → j < length texts → port ≡ from + j
    → slice_index_or (capture_events from texts text) j [] ≡ events_by (Port port) (opened (slice_index_or texts j []))
port_there from j [] text port there is = absurd (omega (arith, there))
port_there from zero (octets ∷ others) text port there is = let same : from ≡ port = omega (arith, is) in ap (λ p. events_by (Port p) (opened octets)) same
port_there from (suc j) (octets ∷ others) text port there is = port_there (from + 1) j others text port (omega (arith, there)) (omega (arith, is))

underlay_there : (from j : ℕ) (texts : List (List ℕ)) (text : List ℕ) → j ≡ length texts → slice_index_or (capture_events from texts text) j [] ≡ events_by Underlay (opened text)
underlay_there from zero [] text is = refl
underlay_there from (suc j) [] text is = absurd (omega (arith, is))
underlay_there from zero (octets ∷ others) text is = absurd (omega (arith, is))
underlay_there from (suc j) (octets ∷ others) text is = underlay_there (from + 1) j others text (omega (arith, is))

pub captures_many : (from : ℕ) (texts : List (List ℕ)) (text : List ℕ) → length (capture_events from texts text) ≡ length texts + 1
captures_many from [] text = refl
captures_many from (octets ∷ others) text = let more = captures_many (from + 1) others text in omega (arith, more)

pub source_there : (changes : List TimedChange) (texts : List (List ℕ)) (text : List ℕ) (n index : ℕ) (place : Tap) → length texts ≡ n → IsAt n index place
    → slice_index_or (source_events changes texts text) index [] ≡ events_by place (opened (octets_at texts text place))
source_there changes texts text n index (Port p) many at =
    let is : index ≡ suc (p - 1) = omega (arith, at.0, at.1) in
    ap (λ i. slice_index_or (source_events changes texts text) i []) is ∙ port_there 1 (p - 1) texts text p (omega (arith, at.1, at.2, many)) (omega (arith, at.1))
source_there changes texts text n index Underlay many at =
    let is : index ≡ suc n = omega (arith, at) in
    ap (λ i. slice_index_or (source_events changes texts text) i []) is ∙ underlay_there 1 n texts text (sym many)

-- an index is that of the changes or of a capture
abbrev pub IsPlaceOf : ℕ → ℕ → Type 0
IsPlaceOf n index = (index ≡ 0) ⊎ ((place : Tap) × IsAt n index place)

pub place_of : (n index : ℕ) → index < n + 2 → IsPlaceOf n index
place_of n index lt = by (index == 0) refl (index == n + 1) refl
  where
    by : (a : Bool) → (index == 0) ≡ a → (b : Bool) → (index == n + 1) ≡ b → IsPlaceOf n index
    by true is b also = inl (eqb-true index 0 is)
    by false is true also = inr (Underlay, eqb-true index (n + 1) also)
    by false is false also =
        let apart = eqb-false index 0 is in
        let other = eqb-false index (n + 1) also in
        inr (Port index, (refl, omega (arith, apart), omega (arith, other, lt)))

events_rise : (tap : Tap) (found : Result Reading CaptureFault) → IsRising 0 (events_by tap found)
events_rise tap (Ok reading) = captures_rise (record { tap = tap; capture = reading })
events_rise tap (Err fault) = tt

module _ (changes : List TimedChange) (texts : List (List ℕ)) (text : List ℕ) (turns : List Turn) (ports : List Stream) (underlay : Stream) (size : length turns ≡ length ports + 2)
    (timely : AreTimely changes) (change : (t : Turn) → (slice_index_or turns 0 t).next ≡ moment_at changes (slice_index_or turns 0 t).done) (read : AreRead texts text turns ports underlay) where
  next_at : (t : Turn) (k : ℕ) → IsPlaceOf (length ports) k → (slice_index_or turns k t).next ≡ first_moment (drop (slice_index_or turns k t).done (slice_index_or (source_events changes texts text) k []))
  next_at t k (inl is) =
      subst (λ k. (slice_index_or turns k t).next ≡ first_moment (drop (slice_index_or turns k t).done (slice_index_or (source_events changes texts text) k []))) (sym is)
      (change t ∙ change_next 0 (slice_index_or turns 0 t).done changes)
  next_at t k (inr (place, at)) =
      read_next (octets_at texts text place) place (slice_index_or turns k t) (source_at ports underlay place) (read.each place k t at)
      ∙ ap (λ es. first_moment (drop (slice_index_or turns k t).done es)) (sym (source_there changes texts text (length ports) k place read.many at))

  rises_at : (k : ℕ) → IsPlaceOf (length ports) k → IsRising 0 (slice_index_or (source_events changes texts text) k [])
  rises_at k (inl is) = subst (λ k. IsRising 0 (slice_index_or (source_events changes texts text) k [])) (sym is) (changes_rise 0 0 changes timely.rising (λ c lt. omega arith))
  rises_at k (inr (place, at)) = subst (IsRising 0) (sym (source_there changes texts text (length ports) k place read.many at)) (events_rise place (opened (octets_at texts text place)))

  sources_many : length (source_events changes texts text) ≡ length ports + 2
  sources_many = omega (arith, captures_many 1 texts text, read.many)

  pub are_ahead : AreAhead turns (source_events changes texts text)
  are_ahead = record {
    many = sources_many ∙ sym size;
    next = λ t k lt. next_at t k (place_of (length ports) k (omega (arith, lt, size)));
    rises = λ k lt. rises_at k (place_of (length ports) k (omega (arith, lt, sources_many)));
  }

  -- the next event of the source with this index is the first that is left of it
  pub next_left : (index moment : ℕ) (e : Event) (t : Turn) → (slice_index_or turns index t).next ≡ Some moment → IsNextEvent ports underlay index (slice_index_or turns index t).done moment e
      → drop (slice_index_or turns index t).done (slice_index_or (source_events changes texts text) index [])
      ≡ e ∷ drop ((slice_index_or turns index t).done + 1) (slice_index_or (source_events changes texts text) index [])
  next_left index moment e t next (inl (first, is)) =
      let done = (slice_index_or turns index t).done in
      let there : moment_at changes done ≡ Some moment = sym (subst (λ i. (slice_index_or turns i t).next ≡ moment_at changes (slice_index_or turns i t).done) (sym first) (change t)) ∙ next in
      let one : suc done ≡ done + 1 = omega arith in
      subst (λ i. drop done (slice_index_or (source_events changes texts text) i []) ≡ e ∷ drop (done + 1) (slice_index_or (source_events changes texts text) i [])) (sym first)
      (change_left 0 done moment done changes there (omega arith)
      ∙ ap (λ x. x ∷ drop (suc done) (change_events 0 (moments_of changes))) (sym is)
      ∙ ap (λ n. e ∷ drop n (change_events 0 (moments_of changes))) one)
  next_left index moment e t next (inr (place, r, at, lends, is)) =
      let turn = slice_index_or turns index t in
      let lent_it = lent_next (octets_at texts text place) place moment turn (source_at ports underlay place) (read.each place index t at) next in
      let same : lent_it.r ≡ r = cc in
      subst (λ es. drop turn.done es ≡ e ∷ drop (turn.done + 1) es) (sym (source_there changes texts text (length ports) index place read.many at))
      (lent_it.left
      ∙ ap (λ x. record_event place turn.done moment x ∷ drop (turn.done + 1) (events_by place (opened (octets_at texts text place)))) same
      ∙ ap (λ x. x ∷ drop (turn.done + 1) (events_by place (opened (octets_at texts text place)))) (sym is))
