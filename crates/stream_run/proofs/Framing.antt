-- What a run leaves at each of its ends.
use Rattle.std.proofs.Common.{◌≡◌, ◌∙◌, refl, sym, ap, subst, ℕ, zero, suc, ◌+◌, ◌-◌, ◌<◌, ◌≤◌, ◌⊎◌, List, [], ◌∷◌, ◌++◌, length, take, drop, slice_index_or, arith, length-append, Option, Some, None, Result, Ok, Err, inl, inr}
use Rattle.std.specs.Prelude.{slice_get}
use Rattle.std.specs.Option.{option_map_or}
use Rattle.std.proofs.Math.Seq.{take-append_seam}
use Rattle.std.proofs.lemmas.List.{get_or-replicate, length-replicate}
use Rattle.pcap.specs.Record.{last_moment}
use Rattle.pcap.specs.Source.{Stream}
use Rattle.timeline.specs.declared.event.Event.{Event}
use Rattle.timeline.specs.declared.source.Tap.{Tap}
use Rattle.timeline.specs.declared.source.Tap.TheVariants.{Port, Underlay}
use Rattle.timeline.specs.declared.timeline.Cut.{Cut}
use Rattle.overlay.specs.Rules.{EachBehind}
use Rattle.overlay.specs.Settings.{Settings}
use Rattle.overlay.specs.declared.settings.change.TimedChange.{TimedChange}
use Rattle.overlay_config.specs.Change.{IsRising, moment_before}
use Rattle.endpoint_core.specs.Opened.{settings_told}
use Rattle.endpoint_core.specs.Step.{State, opened}
use Rattle.capture_run.specs.Writing.{empty_outputs, with_cuts}
use Rattle.capture_run.specs.declared.fault.RunFault.TheVariants as faults
use Rattle.stream_run.specs.Begun.{AreBegun, OnlyReads, OpensInTurn, first_turns, no_turn}
use Rattle.stream_run.specs.Fetched.{IsMoment, IsOpen}
use Rattle.stream_run.specs.Left.{Ends, Leaves, WritesWith, texts_of}
use Rattle.stream_run.specs.Stage.{AreWell, Drains, FailedAt, StandAt, StandBetween, no_texts}
use Rattle.stream_run.specs.Steps.{AreReady, AreTimely, EndsInOrder, EndsNumbered, IsAt, IsPart, LeadsBehind, LendsWhere, moment_at, run_at, source_at, texts_behind}
use Rattle.stream_run.specs.Turns.{IsNoSooner}
use Rattle.stream_run.specs.declared.fault.StreamFault.{StreamFault}
use Rattle.stream_run.specs.declared.fault.StreamFault.TheVariants as stream
use Rattle.stream_run.specs.declared.fault.Target.{Target}
use Rattle.stream_run.specs.declared.turn.Turn.{Turn}
use Rattle.stream_run.proofs.Beginning.{nothing_at}
use Rattle.stream_run.proofs.Readying.{never_change}
use Rattle.stream_run.proofs.Standing.{stands_still_at}
use Rattle.segment_set.specs.Segments.{Segments}

-- ---- turns that were lent

-- as many came back as were lent
pub lent_back : (new items : List Turn) (n : ℕ) → length new ≡ n → take n (new ++ drop (length new) items) ≡ new
lent_back new items n size = ap (λ m. take m (new ++ drop (length new) items)) (sym size) ∙ take-append_seam new (drop (length new) items)

-- ---- changes that rise

last_of : (earlier : List TimedChange) (x : TimedChange) → slice_get (earlier ++ x ∷ []) (length earlier) ≡ Some x
last_of [] x = refl
last_of (e ∷ earlier) x = last_of earlier x

last_moment_is : (earlier : List TimedChange) (x : TimedChange) → moment_before (earlier ++ x ∷ []) ≡ x.at
last_moment_is earlier x =
    let index : length (earlier ++ x ∷ []) - 1 ≡ length earlier = omega (arith, length-append earlier (x ∷ [])) in
    ap (λ k. option_map_or (λ (c : TimedChange). c.at) (slice_get (earlier ++ x ∷ []) k) 0) index ∙ ap (λ (o : Option TimedChange). option_map_or (λ (c : TimedChange). c.at) o 0) (last_of earlier x)

rising_from : (earlier : List TimedChange) (x : TimedChange) (xs : List TimedChange) → EachBehind IsRising earlier (x ∷ xs) → (c : TimedChange) (k : ℕ) → k + 1 < length (x ∷ xs)
    → (slice_index_or (x ∷ xs) k c).at ≤ (slice_index_or (x ∷ xs) (k + 1) c).at
rising_from earlier x [] h c k lt = absurd (omega arith)
rising_from earlier x (y ∷ ys) h c zero lt = subst (λ m. m ≤ y.at) (last_moment_is earlier x) h.1.0.0
rising_from earlier x (y ∷ ys) h c (suc k) lt =
    let more : suc k + 1 ≡ suc (k + 1) = omega arith in
    rw more (rising_from (earlier ++ x ∷ []) y ys h.1 c k (omega arith))

moments_from : (earlier xs : List TimedChange) → EachBehind IsRising earlier xs → (c : TimedChange) (k : ℕ) → k < length xs → (slice_index_or xs k c).at ≤ last_moment
moments_from earlier [] h c k lt = absurd (omega arith)
moments_from earlier (x ∷ xs) h c zero lt = h.0.1
moments_from earlier (x ∷ xs) h c (suc k) lt = moments_from (earlier ++ x ∷ []) xs h.1 c k (omega arith)

pub timely : (changes : List TimedChange) → EachBehind IsRising [] changes → AreTimely changes
timely [] h = record { rising = λ c k lt. absurd (omega arith); moments = λ c k lt. absurd (omega arith) }
timely (x ∷ xs) h = record { rising = rising_from [] x xs h; moments = moments_from [] (x ∷ xs) h }

-- ---- the turns at the begin

each_turn : (P : ℕ → Turn → Type 0) (changes : List TimedChange) (n : ℕ) → P 0 (record { done = 0; next = moment_at changes 0 }) → ((k : ℕ) → k < n → P (suc k) no_turn)
    → (t : Turn) (k : ℕ) → k < length (first_turns changes n) → P k (slice_index_or (first_turns changes n) k t)
each_turn P changes n first others t zero lt = first
each_turn P changes n first others t (suc k) lt =
    let there : k < n = omega (arith, lt, length-replicate n no_turn) in
    subst (P (suc k)) (sym (get_or-replicate n k no_turn t there)) (others k there)

never_sooner : (next : Option ℕ) → IsNoSooner 0 next
never_sooner None = tt
never_sooner (Some m) = omega arith

pub first_change : (changes : List TimedChange) → AreTimely changes → IsMoment (moment_at changes 0)
first_change [] timely = tt
first_change (c ∷ changes) timely = timely.moments c 0 (omega arith)

pub ready_first : (changes : List TimedChange) (ports : List Stream) (underlay : Stream) (s : Settings) (state : State) (d : Drains) → AreTimely changes → length ports ≤ 255 → length ports ≡ length s.ports
    → state ≡ opened (settings_told s) → AreReady changes 0 (run_at ports underlay (first_turns changes (length ports + 1)) state 0 d)
ready_first changes ports underlay s state d timely few known is = rw is (record {
  timely = timely;
  size = size;
  few = few;
  known = known;
  behind = each_turn (λ k t. IsNoSooner 0 t.next) changes (length ports + 1) (never_sooner (moment_at changes 0)) (λ k lt. tt);
  moments = each_turn (λ k t. IsMoment t.next) changes (length ports + 1) (first_change changes timely) (λ k lt. tt);
  done = each_turn (λ k t. t.done ≤ 0) changes (length ports + 1) (omega arith) (λ k lt. omega arith);
  change = λ t. refl;
  heads = λ place index t at.
      each_turn (λ k t. IsAt (length ports) k place → LendsWhere t.next (source_at ports underlay place)) changes (length ports + 1) (λ at. absurd (never_change (length ports) place at)) (λ k lt at. tt) t index (within place index at) at;
})
  where
    size : length (first_turns changes (length ports + 1)) ≡ length ports + 2
    size = omega (arith, length-replicate (length ports + 1) no_turn)

    within : (place : Tap) (index : ℕ) → IsAt (length ports) index place → index < length (first_turns changes (length ports + 1))
    within (Port p) index at = omega (arith, at.0, at.2, size)
    within Underlay index at = omega (arith, at, size)

pub ready_begun : (changes : List TimedChange) (ports : List Stream) (underlay : Stream) (s : Settings) (state : State) (d : Drains) (turns : List Turn) → AreTimely changes → length ports ≤ 255 → length ports ≡ length s.ports
    → state ≡ opened (settings_told s) → turns ≡ first_turns changes (length ports + 1) → AreReady changes 0 (run_at ports underlay turns state 0 d)
ready_begun changes ports underlay s state d turns timely few known is begun =
    subst (λ ts. AreReady changes 0 (run_at ports underlay ts state 0 d)) (sym begun) (ready_first changes ports underlay s state d timely few known is)

-- ---- the ends

place_last : (n index : ℕ) (place : Tap) → IsAt n index place → index < n + 2
place_last n index (Port p) at = omega (arith, at.0, at.2)
place_last n index Underlay at = omega (arith, at)

pub opened_all : (ports : List Stream) (underlay : Stream) (new : List Stream) (new_underlay : Stream) → length new ≡ length ports → AreBegun (length ports + 2) ports underlay new new_underlay
    → (place : Tap) (index : ℕ) → IsAt (length new) index place → IsOpen (source_at new new_underlay place).standing
opened_all ports underlay new new_underlay many begun place index at =
    let also = subst (λ n. IsAt n index place) many at in
    (begun place index (place_last (length ports) index place also) also).open_

pub opens_only_reads : (ports : List Stream) (underlay : Stream) (new : List Stream) (new_underlay : Stream) (fault : StreamFault) → OpensInTurn ports underlay new new_underlay (Err fault) → OnlyReads (Err fault)
opens_only_reads ports underlay new new_underlay (stream.Run (faults.Settings f)) h = tt
opens_only_reads ports underlay new new_underlay (stream.Run (faults.Changes f)) h = tt
opens_only_reads ports underlay new new_underlay (stream.Run faults.PortCount) h = tt
opens_only_reads ports underlay new new_underlay (stream.Run (faults.Capture place f)) h = tt
opens_only_reads ports underlay new new_underlay (stream.Run (faults.Record place n f)) h = tt
opens_only_reads ports underlay new new_underlay (stream.Run faults.OutOfMemory) h = absurd h
opens_only_reads ports underlay new new_underlay (stream.Read place) h = tt
opens_only_reads ports underlay new new_underlay (stream.Write target) h = absurd h

pub none_at : (start : Drains) (n : ℕ) → length start.ports ≡ n → StandAt start start (no_texts n)
none_at start n many = stands_still_at start (no_texts n) (λ k lt. nothing_at n k) (length-replicate n [] ∙ sym many) refl refl

module _ (taken : List Event → List Event) (nothing : taken [] ≡ []) (segments : Segments) where
  -- before any event the headers stand
  pub headers_of : (s : Settings) (changes : List TimedChange) → texts_of taken segments s changes [] [] ≡ empty_outputs (length s.ports)
  headers_of s changes = ap (λ es. with_cuts (texts_behind segments changes (opened (settings_told s)) (empty_outputs (length s.ports)) es) []) nothing

  module _ (s : Settings) (changes : List TimedChange) (from to : Ends) where
    -- the texts of whole events stand, with the headers or without them
    abbrev StandsWhole : Type 0
    StandsWhole = StandAt from.drains to.drains (no_texts (length s.ports)) ⊎ ((es : List Event) × StandAt from.drains to.drains (texts_of taken segments s changes es []))

    leaves_whole : (fault : StreamFault) → OnlyReads (Err fault) → StandsWhole → Leaves taken segments s changes from to (Err fault)
    leaves_whole (stream.Run (faults.Settings f)) only_reads at = at
    leaves_whole (stream.Run (faults.Changes f)) only_reads at = at
    leaves_whole (stream.Run faults.PortCount) only_reads at = at
    leaves_whole (stream.Run (faults.Capture place f)) only_reads at = at
    leaves_whole (stream.Run (faults.Record place n f)) only_reads at = at
    leaves_whole (stream.Run faults.OutOfMemory) only_reads at = absurd only_reads
    leaves_whole (stream.Read place) only_reads at = at
    leaves_whole (stream.Write target) only_reads at = absurd only_reads

    pub leaves_nothing : (fault : StreamFault) → OnlyReads (Err fault) → StandAt from.drains to.drains (no_texts (length s.ports)) → Leaves taken segments s changes from to (Err fault)
    leaves_nothing fault only_reads at = leaves_whole fault only_reads (inl at)

    pub leaves_headers : (fault : StreamFault) → OnlyReads (Err fault) → StandAt from.drains to.drains (empty_outputs (length s.ports)) → Leaves taken segments s changes from to (Err fault)
    leaves_headers fault only_reads at = leaves_whole fault only_reads (inr ([], subst (StandAt from.drains to.drains) (sym (headers_of s changes)) at))

    pub leaves_begun : (target : Target) → StandBetween from.drains to.drains (no_texts (length s.ports)) (empty_outputs (length s.ports)) × FailedAt target from.drains to.drains → Leaves taken segments s changes from to (Err (stream.Write target))
    leaves_begun target h = (no_texts (length s.ports), empty_outputs (length s.ports), inl (refl, sym (headers_of s changes)), h.0, h.1)

    -- among the events, from the settings on
    stops_among : (es more : List Event) (fault : StreamFault) → IsPart {T = Unit {0}} more (Err fault) → EndsNumbered {T = Unit {0}} es (Err fault)
        → LeadsBehind {T = Unit {0}} taken segments changes (opened (settings_told s)) from.drains to.drains (empty_outputs (length s.ports)) es more (Err fault)
        → EndsInOrder {T = Unit {0}} taken segments changes (opened (settings_told s)) from.drains to.drains (empty_outputs (length s.ports)) es more (Err fault) → Leaves taken segments s changes from to (Err fault)
    stops_among es more (stream.Run (faults.Settings f)) part numbered h order = inr (es, h)
    stops_among es more (stream.Run (faults.Changes f)) part numbered h order = inr (es, h)
    stops_among es more (stream.Run faults.PortCount) part numbered h order = inr (es, h)
    stops_among es more (stream.Run (faults.Capture place f)) part numbered h order = inr (es, h)
    stops_among es more (stream.Run (faults.Record place n f)) part numbered h order = inr (es, h)
    stops_among es more (stream.Run faults.OutOfMemory) part numbered h order = inr (es, numbered, h)
    stops_among es more (stream.Read place) part numbered h order = inr (es, h)
    stops_among es more (stream.Write target) part numbered h order = (
      texts_of taken segments s changes es [],
      texts_of taken segments s changes (es ++ more) [],
      inr (inl (es, part.0, refl, ap (λ l. texts_of taken segments s changes (es ++ l) []) part.1, order part.0 part.1)),
      h.0,
      h.1,
    )

    pub leaves_events : (state : State) (es more : List Event) (fault : StreamFault) → state ≡ opened (settings_told s) → IsPart {T = Unit {0}} more (Err fault) → EndsNumbered {T = Unit {0}} es (Err fault)
        → LeadsBehind {T = Unit {0}} taken segments changes state from.drains to.drains (empty_outputs (length s.ports)) es more (Err fault) → EndsInOrder {T = Unit {0}} taken segments changes state from.drains to.drains (empty_outputs (length s.ports)) es more (Err fault)
        → Leaves taken segments s changes from to (Err fault)
    leaves_events state es more fault is part numbered h order =
        stops_among es more fault part numbered (subst (λ state. LeadsBehind {T = Unit {0}} taken segments changes state from.drains to.drains (empty_outputs (length s.ports)) es more (Err fault)) is h)
        (subst (λ state. EndsInOrder {T = Unit {0}} taken segments changes state from.drains to.drains (empty_outputs (length s.ports)) es more (Err fault)) is order)

    pub leaves_cuts : (state : State) (es : List Event) (cuts : List Cut) (target : Target) → state ≡ opened (settings_told s)
        → StandBetween from.drains to.drains (texts_behind segments changes state (empty_outputs (length s.ports)) (taken es)) (with_cuts (texts_behind segments changes state (empty_outputs (length s.ports)) (taken es)) cuts) × FailedAt target from.drains to.drains
        → Leaves taken segments s changes from to (Err (stream.Write target))
    leaves_cuts state es cuts target is h =
        (texts_of taken segments s changes es [], texts_of taken segments s changes es cuts, inr (inr (es, cuts, refl, refl)), subst (λ state. StandBetween from.drains to.drains (texts_behind segments changes state (empty_outputs (length s.ports)) (taken es)) (with_cuts (texts_behind segments changes state (empty_outputs (length s.ports)) (taken es)) cuts)) is h.0, h.1)

    pub leaves_all : (state : State) (es : List Event) (cuts : List Cut) → state ≡ opened (settings_told s) → StandAt from.drains to.drains (with_cuts (texts_behind segments changes state (empty_outputs (length s.ports)) (taken es)) cuts)
        → Leaves taken segments s changes from to (Ok tt)
    leaves_all state es cuts is at = (es, cuts, subst (λ state. StandAt from.drains to.drains (with_cuts (texts_behind segments changes state (empty_outputs (length s.ports)) (taken es)) cuts)) is at)

    well : StandsWhole → AreWell from.drains to.drains
    well (inl h) = h.well
    well (inr h) = h.1.well

    pub writes_by : (result : Result (Unit {0}) StreamFault) → Leaves taken segments s changes from to result → WritesWith from.drains to.drains result
    writes_by (Ok x) h = h.2.well
    writes_by (Err (stream.Write target)) h = h.4
    writes_by (Err (stream.Run (faults.Settings f))) h = well h
    writes_by (Err (stream.Run (faults.Changes f))) h = well h
    writes_by (Err (stream.Run faults.PortCount)) h = well h
    writes_by (Err (stream.Run (faults.Capture place f))) h = well h
    writes_by (Err (stream.Run (faults.Record place n f))) h = well h
    writes_by (Err (stream.Run faults.OutOfMemory)) (inl same) = subst (λ (e : Ends). AreWell from.drains e.drains) (sym same) (record { ports = refl; underlay = refl; decisions = refl })
    writes_by (Err (stream.Run faults.OutOfMemory)) (inr h) = h.2.well
    writes_by (Err (stream.Read place)) h = well h
