-- The next event, as a sieve takes it in or leaves it out, and the settings in force behind it.
use Rattle.std.proofs.Common.{◌≡◌, ◌∙◌, refl, sym, ap, subst, ℕ, zero, suc, ◌+◌, ◌<◌, ◌≤◌, Bool, true, false, cond, if◌then◌else◌, List, [], ◌∷◌, length, arith, Some, Result, Ok, Err, inl, inr}
use Rattle.std.specs.Prelude.{OnErr, is_none, slice_get}
use Rattle.wire.specs.declared.ether.reason.Refused.{Refused}
use Rattle.pcap.specs.Source.{Stream}
use Rattle.overlay.specs.declared.settings.change.Change.{Change}
use Rattle.overlay.specs.declared.settings.change.TimedChange.{TimedChange}
use Rattle.timeline.specs.Captured.{Captured}
use Rattle.timeline.specs.declared.event.Event.{Event}
use Rattle.timeline.specs.declared.event.Happening.{Happening}
use Rattle.timeline.specs.declared.event.Happening.TheVariants as happenings
use Rattle.timeline.specs.declared.source.Tap.{Tap}
use Rattle.timeline.specs.declared.source.Tap.TheVariants as taps
use Rattle.endpoint_core.specs.Among.{after_among, after_untold, after_untold_input, is_told}
use Rattle.endpoint_core.specs.Arrival.{Arrival, came_at, came_by}
use Rattle.endpoint_core.specs.Change.{changed, refused}
use Rattle.endpoint_core.specs.Effect.{applied, effect}
use Rattle.endpoint_core.specs.Settings.{Settings}
use Rattle.endpoint_core.specs.State.{State as Bridges, accepted_state, aged}
use Rattle.endpoint_core.specs.Step.{State, after, after_came}
use Rattle.capture_run.specs.Outputs.{change_at, event_of, input_of}
use Rattle.segment_set.specs.Segments.{Segments}
use Rattle.stream_run.specs.Sieved.{changed_by, settings_behind}
use Rattle.stream_run.specs.Sights.{Sight}
use Rattle.stream_run.specs.Stage.{Drains}
use Rattle.stream_run.specs.Steps.{IsAt, IsNextEvent, changes_of, moment_at}
use Rattle.stream_run.specs.Watched.{IsSieved, IsWatchedTake}
use Rattle.stream_run.specs.declared.fault.Target.{Target}

-- ---- the settings in force

-- by the change of an index; where none is there, by one that is always refused
change_is : (changes : List TimedChange) (i : ℕ) (S : Settings) → changed S (change_at (changes_of changes) i) ≡ changed_by (slice_get changes i) S
change_is [] zero S = refl
change_is [] (suc i) S = refl
change_is (c ∷ changes) zero S = refl
change_is (c ∷ changes) (suc i) S = change_is changes i S

came_settings : (t : ℕ) (B : Bridges) (came : Result Arrival Refused) → (after_came t B came).settings ≡ B.settings
came_settings t B (Ok x) = refl
came_settings t B (Err refused) = refl

change_settings : (t : ℕ) (c : Change) (B : Bridges) (is : Bool) → (cond is (accepted_state t c B) B).settings ≡ cond is (applied (effect c) B.settings) B.settings
change_settings t c B true = refl
change_settings t c B false = refl

-- at an endpoint behind an event that is told
after_settings : (changes : List TimedChange) (s : State) (t : ℕ) (h : Happening)
    → (after s (record { at = t; input = input_of (changes_of changes) h })).bridges.settings ≡ settings_behind changes h s.bridges.settings
after_settings changes s t (happenings.Change i) =
    let c = change_at (changes_of changes) i in
    change_settings t c (aged t s.bridges) (is_none (refused s.bridges.settings c)) ∙ change_is changes i s.bridges.settings
after_settings changes s t (happenings.Record (taps.Port port) r) = came_settings t (aged t s.bridges) (came_at s.bridges.settings.ports s.bridges.settings.overlay port r.original r.octets)
after_settings changes s t (happenings.Record taps.Underlay r) = came_settings t (aged t s.bridges) (came_by s.bridges.settings.overlay r.original r.octets)

-- and behind one that isn't
untold_settings : (changes : List TimedChange) (s : State) (t : ℕ) (h : Happening)
    → (after_untold_input t s (input_of (changes_of changes) h)).bridges.settings ≡ settings_behind changes h s.bridges.settings
untold_settings changes s t (happenings.Change i) = after_settings changes s t (happenings.Change i)
untold_settings changes s t (happenings.Record (taps.Port port) r) = refl
untold_settings changes s t (happenings.Record taps.Underlay r) = refl

pub settings_among : (segments : Segments) (changes : List TimedChange) (s : State) (e : Event)
    → (after_among segments s (event_of (changes_of changes) e)).bridges.settings ≡ settings_behind changes e.happening s.bridges.settings
settings_among segments changes s e = by (is_told segments s (event_of (changes_of changes) e))
  where
    by : (b : Bool) → (cond b (after s (event_of (changes_of changes) e)) (after_untold s (event_of (changes_of changes) e))).bridges.settings ≡ settings_behind changes e.happening s.bridges.settings
    by true = after_settings changes s e.moment e.happening
    by false = untold_settings changes s e.moment e.happening

-- what is left out is a record, and changes none
pub settings_left : (changes : List TimedChange) (h : Happening) (takes : Bool) (S : Settings) → ((index : ℕ) → h ≡ happenings.Change index → takes ≡ true) → takes ≡ false → S ≡ settings_behind changes h S
settings_left changes (happenings.Change i) takes S always is =
    let never : true ≡ false = sym (always i refl) ∙ is in
    absurd cc
settings_left changes (happenings.Record tap r) takes S always is = refl

-- ---- the next event

-- a change is there
change_there : (changes : List TimedChange) (k m : ℕ) → moment_at changes k ≡ Some m → k < length changes
change_there [] zero m is = absurd cc
change_there [] (suc k) m is = absurd cc
change_there (c ∷ changes) zero m is = omega arith
change_there (c ∷ changes) (suc k) m is = let rest = change_there changes k m is in omega (arith, rest)

pub index_there : (changes : List TimedChange) (ports : List Stream) (underlay : Stream) (index done moment : ℕ) (e : Event) → IsNextEvent ports underlay index done moment e
    → (index ≡ 0 → moment_at changes done ≡ Some moment) → (i : ℕ) → e.happening ≡ happenings.Change i → i < length changes
index_there changes ports underlay index done moment e (inl h) change i is =
    let found : e.happening ≡ happenings.Change done = ap (λ (x : Event). x.happening) h.1 in
    let same : done ≡ i = cc in
    subst (λ (k : ℕ). k < length changes) same (change_there changes done moment (change h.0))
index_there changes ports underlay index done moment e (inr (place, r, at, lends, has)) change i is =
    let found : e.happening ≡ happenings.Record place (record { original = r.original; octets = r.octets }) = ap (λ (x : Event). x.happening) has in
    absurd cc

-- and so is the port of a record
pub port_there : (ports : List Stream) (underlay : Stream) (index done moment : ℕ) (e : Event) → IsNextEvent ports underlay index done moment e
    → (port : ℕ) (c : Captured) → e.happening ≡ happenings.Record (taps.Port port) c → (1 ≤ port) × (port ≤ length ports)
port_there ports underlay index done moment e (inl h) port c is =
    let found : e.happening ≡ happenings.Change done = ap (λ (x : Event). x.happening) h.1 in
    absurd cc
port_there ports underlay index done moment e (inr (place, r, at, lends, has)) port c is =
    let found : e.happening ≡ happenings.Record place (record { original = r.original; octets = r.octets }) = ap (λ (x : Event). x.happening) has in
    let same : place ≡ taps.Port port = cc in
    let here = subst (λ (p : Tap). IsAt (length ports) index p) same at in
    (omega (arith, here.1), here.2)

always : (result : Result (Unit {0}) Target) → OnErr result (true ≡ true)
always (Ok x) = tt
always (Err target) = refl

module _ (segments : Segments) {S T : Type 0} (taken : S → List Event → List Event) (goes : S → Event → S → Type 0) (sees : T → Sight → T → Type 0) (changes : List TimedChange) (ports : List Stream) (underlay : Stream) (index done moment number : ℕ)
    (old : State) (before : Drains) (old_sieve new_sieve : S) (e : Event) (takes : Bool) (next : IsNextEvent ports underlay index done moment e)
    (sieved : (es : List Event) → taken old_sieve (e ∷ es) ≡ (if takes then e ∷ taken new_sieve es else taken new_sieve es)) (went : goes old_sieve e new_sieve) where
  pub leaves_out : (watch : T) → takes ≡ false → IsSieved segments taken goes sees changes ports underlay index done moment number number old old before before old_sieve new_sieve watch watch (Ok tt)
  leaves_out watch is = record {
    e = e;
    takes = false;
    next = next;
    sieved = λ es. sieved es ∙ ap (λ b. if b then e ∷ taken new_sieve es else taken new_sieve es) is;
    went = went;
    numbered = omega arith;
    state = refl;
    failed = tt;
    outputs = λ start o at. at;
    order = λ start o at. tt;
    seen = refl;
  }

  pub lets_in : (n new_number : ℕ) (new : State) (behind : Drains) (old_watch new_watch : T) (result : Result (Unit {0}) Target) → takes ≡ true → n ≡ number + 1 → new_number ≡ n
      → IsWatchedTake segments sees changes e n old new before behind old_watch new_watch result
      → IsSieved segments taken goes sees changes ports underlay index done moment number new_number old new before behind old_sieve new_sieve old_watch new_watch result
  lets_in n new_number new behind old_watch new_watch result is one also watched =
      let take = subst (λ k. IsWatchedTake segments sees changes e k old new before behind old_watch new_watch result) one watched in
      record {
        e = e;
        takes = true;
        next = next;
        sieved = λ es. sieved es ∙ ap (λ b. if b then e ∷ taken new_sieve es else taken new_sieve es) is;
        went = went;
        numbered = omega (arith, also, one);
        state = take.taken.state;
        failed = always result;
        outputs = take.taken.outputs;
        order = take.taken.order;
        seen = (new_watch, take.seen, refl);
      }
