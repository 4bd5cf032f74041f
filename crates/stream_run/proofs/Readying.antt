-- From one event to the next.
use Rattle.std.proofs.Common.{◌≡◌, ◌≢◌, ◌∙◌, refl, sym, ap, subst, ℕ, ◌+◌, ◌-◌, ◌<◌, ◌≤◌, ◌==◌, max, Bool, true, false, List, length, map, get_or, slice_set, slice_index_or, arith, Option, Some, None, option_map, Ok, Err, inl, inr}
use Rattle.std.specs.Prelude.{slice_get, IsSome}
use Rattle.std.proofs.lemmas.Bool.{eqb-true, eqb-false}
use Rattle.std.proofs.lemmas.List.{get_or-map, get_or-set_same, get_or-set_other, get_or_default, length-set, map-set, set-get_or}
use Rattle.std.proofs.lemmas.Option.{get_or_from_slice_get, slice_get_within}
use Rattle.pcap.specs.Record.{Record, last_moment}
use Rattle.pcap.specs.Source.{Standing, Stream, New, Open, Ended, Failed, lent}
use Rattle.pcap.specs.Supply.{GivesUp}
use Rattle.timeline.specs.declared.event.Event.{Event}
use Rattle.timeline.specs.declared.source.Tap.{Tap}
use Rattle.timeline.specs.declared.source.Tap.TheVariants.{Port, Underlay}
use Rattle.overlay.specs.declared.settings.change.Change.{Change}
use Rattle.overlay.specs.declared.settings.change.TimedChange.{TimedChange}
use Rattle.endpoint_core.specs.Step.{State}
use Rattle.stream_run.specs.Amidst.{StepsInOrder}
use Rattle.stream_run.specs.Fetched.{IsFetch, IsMoment, IsOpen}
use Rattle.capture_run.specs.Outputs.{Outputs}
use Rattle.stream_run.specs.Read.{AreQuiet, GivesUpAt, ReadsWith, failures_of}
use Rattle.stream_run.specs.Stage.{Drains, StandAt}
use Rattle.stream_run.specs.Steps.{AreBehind, AreReady, AreTimely, FetchesAt, IsAt, IsChangedAt, IsNextEvent, LendsWhere, StepsTo, moment_at, run_at, source_at}
use Rattle.stream_run.specs.Turns.{IsFirst, IsNoSooner}
use Rattle.stream_run.specs.declared.fault.StreamFault.{StreamFault}
use Rattle.stream_run.specs.declared.fault.StreamFault.TheVariants as stream
use Rattle.stream_run.specs.declared.fault.Target.{Target}
use Rattle.stream_run.specs.declared.turn.First.{First}
use Rattle.stream_run.specs.declared.turn.Turn.{Turn}

-- ---- changed at one place

-- what holds of each item, also of the one that is set
pub set_each : {A : Type 0} (P : ℕ → A → Type 0) (xs : List A) (i : ℕ) (x : A) → i < length xs → ((d : A) (k : ℕ) → k < length xs → k ≢ i → P k (get_or xs k d)) → P i x
    → (d : A) (k : ℕ) → k < length (slice_set xs i x) → P k (get_or (slice_set xs i x) k d)
set_each P xs i x there others here d k lt = by (k == i) refl
  where
    by : (b : Bool) → (k == i) ≡ b → P k (get_or (slice_set xs i x) k d)
    by true is =
        let same : i ≡ k = sym (eqb-true k i is) in
        subst (λ k. P k (get_or (slice_set xs i x) k d)) same (rw (get_or-set_same xs i x d there) here)
    by false is =
        let apart : k ≢ i = eqb-false k i is in
        rw (get_or-set_other xs i k x d apart) (others d k (omega (arith, lt, length-set xs i x)) apart)

pub ports_as_many : (place : Tap) (ports new : List Stream) (underlay new_underlay s : Stream) → IsChangedAt place ports underlay new new_underlay s → length new ≡ length ports
ports_as_many (Port port) ports new underlay new_underlay s h = ap length h.0 ∙ length-set ports (port - 1) s
ports_as_many Underlay ports new underlay new_underlay s h = ap length h.0

pub changed_here : (n index : ℕ) (place other : Tap) (ports new : List Stream) (underlay new_underlay s : Stream) → n ≡ length ports → IsAt n index place → IsAt n index other
    → IsChangedAt place ports underlay new new_underlay s → source_at new new_underlay other ≡ s
changed_here n index (Port p) (Port q) ports new underlay new_underlay s many at also h =
    let same : q - 1 ≡ p - 1 = omega (arith, at.0, also.0) in
    rw (h.0, same) (get_or-set_same ports (p - 1) s new_underlay (omega (arith, at.1, at.2)))
changed_here n index (Port p) Underlay ports new underlay new_underlay s many at also h = absurd (omega (arith, at.0, at.2, also))
changed_here n index Underlay (Port q) ports new underlay new_underlay s many at also h = absurd (omega (arith, also.0, also.2, at))
changed_here n index Underlay Underlay ports new underlay new_underlay s many at also h = h.1

pub unchanged : (n index i : ℕ) (place other : Tap) (ports new : List Stream) (underlay new_underlay s : Stream) → n ≡ length ports → IsAt n index place → IsAt n i other → i ≢ index
    → IsChangedAt place ports underlay new new_underlay s → source_at new new_underlay other ≡ source_at ports underlay other
unchanged n index i (Port p) (Port q) ports new underlay new_underlay s many at also apart h =
    rw (h.0, h.1) (get_or-set_other ports (p - 1) (q - 1) s underlay (λ e. apart (omega (arith, e, at.0, at.1, also.0, also.1))))
unchanged n index i (Port p) Underlay ports new underlay new_underlay s many at also apart h = h.1
unchanged n index i Underlay (Port q) ports new underlay new_underlay s many at also apart h =
    rw h.0 (get_or_default ports (q - 1) new_underlay underlay (omega (arith, also.1, also.2)))
unchanged n index i Underlay Underlay ports new underlay new_underlay s many at also apart h = absurd (apart (omega (arith, at, also)))

-- ---- the next event

pub lends_where : (next : Option ℕ) (s : Stream) (latest : ℕ) (r : Option Record) → lent s.standing ≡ r → next ≡ option_map (λ (r : Record). max r.moment latest) r → LendsWhere next s
lends_where next s latest None lends is = rw is tt
lends_where next s latest (Some r) lends is = rw (is, lends) refl

pub no_sooner : (next : Option ℕ) (latest : ℕ) (r : Option Record) → next ≡ option_map (λ (r : Record). max r.moment latest) r → IsNoSooner latest next
no_sooner next latest None is = rw is tt
no_sooner next latest (Some r) is = rw is (omega arith)

later_still : (m n : ℕ) (next : Option ℕ) → m ≤ n → IsNoSooner n next → IsNoSooner m next
later_still m n None le h = tt
later_still m n (Some k) le h = omega arith

-- the change behind one is no sooner
next_change : (changes : List TimedChange) (k moment : ℕ) → AreTimely changes → moment_at changes k ≡ Some moment → IsNoSooner moment (moment_at changes (k + 1)) × IsMoment (moment_at changes (k + 1))
next_change changes k moment timely is = by_this (slice_get changes k) refl is
  where
    by_next : (c : TimedChange) (n : Option TimedChange) → slice_get changes k ≡ Some c → c.at ≡ moment → slice_get changes (k + 1) ≡ n
        → IsNoSooner moment (option_map (λ (c : TimedChange). c.at) n) × IsMoment (option_map (λ (c : TimedChange). c.at) n)
    by_next c None here at next = (tt, tt)
    by_next c (Some d) here at next =
        let there : k + 1 < length changes = slice_get_within changes (k + 1) d next in
        let first : slice_index_or changes k c ≡ c = get_or_from_slice_get changes k c c here in
        let second : slice_index_or changes (k + 1) c ≡ d = get_or_from_slice_get changes (k + 1) d c next in
        let rises = timely.rising c k there in
        let within = timely.moments c (k + 1) there in
        (omega (arith, rises, at, ap (λ (c : TimedChange). c.at) first, ap (λ (c : TimedChange). c.at) second), omega (arith, within, ap (λ (c : TimedChange). c.at) second))

    by_this : (n : Option TimedChange) → slice_get changes k ≡ n → moment_at changes k ≡ Some moment → IsNoSooner moment (moment_at changes (k + 1)) × IsMoment (moment_at changes (k + 1))
    by_this None here is = let none : moment_at changes k ≡ None = ap (option_map (λ (c : TimedChange). c.at)) here in absurd cc
    by_this (Some c) here is =
        let some : moment_at changes k ≡ Some c.at = ap (option_map (λ (c : TimedChange). c.at)) here in
        let at : c.at ≡ moment = cc in
        by_next c (slice_get changes (k + 1)) here at refl

-- ---- ready again

-- what a fetch tells of the next moment it tells of what holds that moment
pub fetched_to : (changes : List TimedChange) (index done latest : ℕ) (ports : List Stream) (underlay : Stream) (new : List Stream) (new_underlay : Stream) (next held : Option ℕ) → held ≡ next
    → FetchesAt changes index done latest ports underlay new new_underlay (Ok (record { done = done; next = next })) → FetchesAt changes index done latest ports underlay new new_underlay (Ok (record { done = done; next = held }))
fetched_to changes index done latest ports underlay new new_underlay next held same fetched =
    subst (λ n. FetchesAt changes index done latest ports underlay new new_underlay (Ok (record { done = done; next = n }))) (sym same) fetched

-- what a fetch tells of a turn and its source
pub record IsAsked (changes : List TimedChange) (index done latest : ℕ) (ports : List Stream) (underlay : Stream) (new : List Stream) (new_underlay : Stream) (turn : Turn) : Type 0 where
  pub many : length new ≡ length ports
  pub count : turn.done ≡ done
  pub soon : IsNoSooner latest turn.next
  pub moment : IsMoment turn.next
  pub change : index ≡ 0 → turn.next ≡ moment_at changes done
  pub here : (place : Tap) → IsAt (length ports) index place → LendsWhere turn.next (source_at new new_underlay place)
  pub elsewhere : (place : Tap) (i : ℕ) → IsAt (length ports) i place → i ≢ index → source_at new new_underlay place ≡ source_at ports underlay place

pub never_change : (n : ℕ) (place : Tap) → IsAt n 0 place → ⊥
never_change n (Port p) at = omega (arith, at.0, at.1)
never_change n Underlay at = omega (arith, at)

-- of a capture
pub asked_capture : (changes : List TimedChange) (index done latest : ℕ) (ports : List Stream) (underlay : Stream) (new : List Stream) (new_underlay : Stream) (turn : Turn) → latest ≤ last_moment
    → (place : Tap) × (s : Stream) × IsAt (length ports) index place × IsChangedAt place ports underlay new new_underlay s × IsFetch (source_at ports underlay place) s place done latest (Ok turn)
    → IsAsked changes index done latest ports underlay new new_underlay turn
asked_capture changes index done latest ports underlay new new_underlay turn le h =
    let place = h.0 in
    let s = h.1 in
    let fetch = h.4 in
    record {
      many = ports_as_many place ports new underlay new_underlay s h.3;
      count = fetch.count;
      soon = no_sooner turn.next latest (lent s.standing) fetch.next;
      moment = fetch.moment le;
      change = λ zero. absurd (never_change (length ports) place (subst (λ i. IsAt (length ports) i place) zero h.2));
      here = λ other at. rw (changed_here (length ports) index place other ports new underlay new_underlay s refl h.2 at h.3) (lends_where turn.next s latest (lent s.standing) refl fetch.next);
      elsewhere = λ other i at apart. unchanged (length ports) index i place other ports new underlay new_underlay s refl h.2 at apart h.3;
    }

pub asked : (changes : List TimedChange) (index done latest : ℕ) (ports : List Stream) (underlay : Stream) (new : List Stream) (new_underlay : Stream) (turn : Turn)
    → AreTimely changes → latest ≤ last_moment → (index ≡ 0 → moment_at changes done ≡ Some latest) → FetchesAt changes index (done + 1) latest ports underlay new new_underlay (Ok turn)
    → IsAsked changes index (done + 1) latest ports underlay new new_underlay turn
asked changes index done latest ports underlay new new_underlay turn timely le this (inl h) =
    let next = next_change changes done latest timely (this h.0) in
    let is : turn ≡ record { done = done + 1; next = moment_at changes (done + 1) } = cc in
    rw (h.1, h.2, is) (record {
      many = refl;
      count = refl;
      soon = next.0;
      moment = next.1;
      change = λ zero. refl;
      here = λ place at. absurd (never_change (length ports) place (subst (λ i. IsAt (length ports) i place) h.0 at));
      elsewhere = λ place i at apart. refl;
    })
asked changes index done latest ports underlay new new_underlay turn timely le this (inr h) = asked_capture changes index (done + 1) latest ports underlay new new_underlay turn le h

pub ready_again : (changes : List TimedChange) (count : ℕ) (ports : List Stream) (underlay : Stream) (turns : List Turn) (state : State) (number : ℕ) (drains : Drains) (new : List Stream) (new_underlay : Stream) (new_state : State) (new_number : ℕ) (new_drains : Drains)
    (first : First) (turn : Turn) (done : ℕ) → AreReady changes count (run_at ports underlay turns state number drains) → IsFirst turns (length turns) first → done ≤ count
    → new_state.moment ≤ first.moment → length new_state.bridges.settings.ports.ports ≡ length state.bridges.settings.ports.ports
    → IsAsked changes first.index (done + 1) first.moment ports underlay new new_underlay turn
    → AreReady changes (count + 1) (run_at new new_underlay (slice_set turns first.index turn) new_state new_number new_drains)
ready_again changes count ports underlay turns state number drains new new_underlay new_state new_number new_drains first turn done ready is_first few at known asked = record {
  timely = ready.timely;
  size = length-set turns first.index turn ∙ ready.size ∙ ap (λ n. n + 2) (sym asked.many);
  few = omega (arith, asked.many, ready.few);
  known = asked.many ∙ ready.known ∙ sym known;
  behind = set_each (λ k (t : Turn). IsNoSooner new_state.moment t.next) turns first.index turn is_first.there
      (λ d k lt apart. later_still new_state.moment first.moment (slice_index_or turns k d).next (omega (arith, at)) (is_first.no_sooner d k lt)) (later_still new_state.moment first.moment turn.next (omega (arith, at)) asked.soon);
  moments = set_each (λ k (t : Turn). IsMoment t.next) turns first.index turn is_first.there (λ d k lt apart. ready.moments d k lt) asked.moment;
  done = set_each (λ k (t : Turn). t.done ≤ count + 1) turns first.index turn is_first.there (λ d k lt apart. omega (arith, ready.done d k lt)) (omega (arith, asked.count, few));
  change = λ t. set_each (λ k (t : Turn). k ≡ 0 → t.next ≡ moment_at changes t.done) turns first.index turn is_first.there
      (λ d k lt apart zero. subst (λ k. (slice_index_or turns k d).next ≡ moment_at changes (slice_index_or turns k d).done) (sym zero) (ready.change d))
      (λ zero. asked.change zero ∙ ap (moment_at changes) (sym asked.count)) t 0 (omega (arith, ready.size, length-set turns first.index turn)) refl;
  heads = λ place index t is_at. set_each (λ k (t : Turn). IsAt (length new) k place → LendsWhere t.next (source_at new new_underlay place)) turns first.index turn is_first.there
      (λ d k lt apart at_k. rw (asked.elsewhere place k (subst (λ n. IsAt n k place) asked.many at_k) apart) (ready.heads place k d (subst (λ n. IsAt n k place) asked.many at_k)))
      (λ at_k. asked.here place (subst (λ n. IsAt n first.index place) asked.many at_k)) t index (within place index is_at) is_at;
}
  where
    within : (place : Tap) (index : ℕ) → IsAt (length new) index place → index < length (slice_set turns first.index turn)
    within (Port p) index is_at = omega (arith, is_at.0, is_at.2, asked.many, ready.size, length-set turns first.index turn)
    within Underlay index is_at = omega (arith, is_at, asked.many, ready.size, length-set turns first.index turn)

-- no source comes before the event that came first
pub later_again : (turns : List Turn) (first : First) (turn : Turn) (m : ℕ) → IsFirst turns (length turns) first → m ≡ first.moment → IsNoSooner first.moment turn.next → AreBehind m (slice_set turns first.index turn)
later_again turns first turn m is_first at soon =
    set_each (λ k (t : Turn). IsNoSooner m t.next) turns first.index turn is_first.there
    (λ d k lt apart. later_still m first.moment (slice_index_or turns k d).next (omega (arith, at)) (is_first.no_sooner d k lt)) (later_still m first.moment turn.next (omega (arith, at)) soon)

-- ---- what an event asks for

pub the_record : (o : Option Record) → IsSome o → (r : Record) × (o ≡ Some r)
the_record None is = absurd cc
the_record (Some r) is = (r, refl)

lends_open : (s : Standing) → IsSome (lent s) → IsOpen s
lends_open New is = absurd cc
lends_open (Open style last) is = tt
lends_open (Ended is_cut) is = absurd cc
lends_open (Failed fault) is = absurd cc

pub record IsNextUp (changes : List TimedChange) (ports : List Stream) (underlay : Stream) (state : State) (first : First) (done most : ℕ) : Type 0 where
  pub time : state.moment ≤ first.moment
  pub moment : first.moment ≤ last_moment
  pub count : done ≤ most
  pub index : first.index ≤ length ports + 1
  pub change : first.index ≡ 0 → moment_at changes done ≡ Some first.moment
  pub lends : (place : Tap) → IsAt (length ports) first.index place → IsSome (lent (source_at ports underlay place).standing)
  pub open_ : (place : Tap) → IsAt (length ports) first.index place → IsOpen (source_at ports underlay place).standing

pub next_up : (changes : List TimedChange) (count : ℕ) (ports : List Stream) (underlay : Stream) (turns : List Turn) (state : State) (number : ℕ) (drains : Drains) (first : First) (t : Turn)
    → AreReady changes count (run_at ports underlay turns state number drains) → IsFirst turns (length turns) first
    → IsNextUp changes ports underlay state first (slice_index_or turns first.index t).done count
next_up changes count ports underlay turns state number drains first t ready is_first = record {
  time = subst (IsNoSooner state.moment) next (ready.behind t first.index is_first.there);
  moment = subst IsMoment next (ready.moments t first.index is_first.there);
  count = ready.done t first.index is_first.there;
  index = omega (arith, is_first.there, ready.size);
  change = λ zero. sym (subst (λ k. (slice_index_or turns k t).next ≡ moment_at changes (slice_index_or turns k t).done) (sym zero) (ready.change t)) ∙ next;
  lends = lends;
  open_ = λ place at. lends_open (source_at ports underlay place).standing (lends place at);
}
  where
    next : (slice_index_or turns first.index t).next ≡ Some first.moment
    next = is_first.next t

    lends : (place : Tap) → IsAt (length ports) first.index place → IsSome (lent (source_at ports underlay place).standing)
    lends place at = subst (λ n. LendsWhere n (source_at ports underlay place)) next (ready.heads place first.index t at)

pub event_moment : (ports : List Stream) (underlay : Stream) (index done moment : ℕ) (e : Event) → IsNextEvent ports underlay index done moment e → e.moment ≡ moment
event_moment ports underlay index done moment e (inl h) = ap (λ (e : Event). e.moment) h.1
event_moment ports underlay index done moment e (inr h) = ap (λ (e : Event). e.moment) h.4

-- ---- the reads

quiet_set : (ports : List Stream) (i : ℕ) (s d : Stream) → i < length ports → failures_of s ≡ failures_of (slice_index_or ports i d) → map failures_of (slice_set ports i s) ≡ map failures_of ports
quiet_set ports i s d there same =
    map-set failures_of ports i s ∙ ap (slice_set (map failures_of ports) i) (same ∙ sym (get_or-map failures_of ports i d (failures_of d) there)) ∙ set-get_or (map failures_of ports) i (failures_of d)

pub quiet_at : (place : Tap) (index : ℕ) (ports new : List Stream) (underlay new_underlay s : Stream) → IsAt (length ports) index place → IsChangedAt place ports underlay new new_underlay s
    → failures_of s ≡ failures_of (source_at ports underlay place) → AreQuiet ports underlay new new_underlay
quiet_at (Port p) index ports new underlay new_underlay s at h same = record { ports = ap (map failures_of) h.0 ∙ quiet_set ports (p - 1) s underlay (omega (arith, at.1, at.2)) same; underlay = ap failures_of h.1 }
quiet_at Underlay index ports new underlay new_underlay s at h same = record { ports = ap (map failures_of) h.0; underlay = ap failures_of h.1 ∙ same }

pub gave_up : (place : Tap) (index : ℕ) (ports new : List Stream) (underlay new_underlay s : Stream) → IsAt (length ports) index place → IsChangedAt place ports underlay new new_underlay s
    → GivesUp (source_at ports underlay place).supply s.supply → GivesUpAt place ports underlay new new_underlay
gave_up (Port p) index ports new underlay new_underlay s at h up =
    λ d. (at.1, at.2, rw (h.0, get_or-set_same ports (p - 1) s d (omega (arith, at.1, at.2)), get_or_default ports (p - 1) d underlay (omega (arith, at.1, at.2))) up)
gave_up Underlay index ports new underlay new_underlay s at h up = rw h.1 up

pub reads_fault : (changes : List TimedChange) (index done latest : ℕ) (ports : List Stream) (underlay : Stream) (new : List Stream) (new_underlay : Stream) (fault : StreamFault)
    → FetchesAt changes index done latest ports underlay new new_underlay (Err fault) → ReadsWith {T = Unit {0}} ports underlay new new_underlay (Err fault)
reads_fault changes index done latest ports underlay new new_underlay fault (inl h) = let never = h.3 in absurd cc
reads_fault changes index done latest ports underlay new new_underlay (stream.Run f) (inr h) = quiet_at h.0 index ports new underlay new_underlay h.1 h.2 h.3 h.4.reads
reads_fault changes index done latest ports underlay new new_underlay (stream.Write target) (inr h) = absurd h.4.reads
reads_fault changes index done latest ports underlay new new_underlay (stream.Read place) (inr h) =
    let up = h.4.reads in
    subst (λ p. GivesUpAt p ports underlay new new_underlay) (sym up.0) (gave_up h.0 index ports new underlay new_underlay h.1 h.2 h.3 up.1)

pub reads_turn : (changes : List TimedChange) (index done latest : ℕ) (ports : List Stream) (underlay : Stream) (new : List Stream) (new_underlay : Stream) (turn : Turn)
    → FetchesAt changes index done latest ports underlay new new_underlay (Ok turn) → AreQuiet ports underlay new new_underlay
reads_turn changes index done latest ports underlay new new_underlay turn (inl h) = rw (h.1, h.2) (record { ports = refl; underlay = refl })
reads_turn changes index done latest ports underlay new new_underlay turn (inr h) = quiet_at h.0 index ports new underlay new_underlay h.1 h.2 h.3 h.4.reads

-- a fetch writes nothing
pub no_write_fetched : (changes : List TimedChange) (index done latest : ℕ) (ports : List Stream) (underlay : Stream) (new : List Stream) (new_underlay : Stream) (target : Target)
    → FetchesAt changes index done latest ports underlay new new_underlay (Err (stream.Write target)) → ⊥
no_write_fetched changes index done latest ports underlay new new_underlay target (inl h) = let never = h.3 in absurd cc
no_write_fetched changes index done latest ports underlay new new_underlay target (inr h) = absurd h.4.reads

pub no_write_fails : (changes : List TimedChange) (index done latest : ℕ) (ports : List Stream) (underlay : Stream) (new : List Stream) (new_underlay : Stream) (fault : StreamFault) (cs : List Change) (start now : Drains) (number : ℕ) (s : State)
    (o : Outputs) (e : Event) → FetchesAt changes index done latest ports underlay new new_underlay (Err fault) → StepsInOrder {T = Unit {0}} cs start now number s o e (Err fault)
no_write_fails changes index done latest ports underlay new new_underlay fault cs start now number s o e (inl h) = let never = h.3 in absurd cc
no_write_fails changes index done latest ports underlay new new_underlay (stream.Run f) cs start now number s o e (inr h) = tt
no_write_fails changes index done latest ports underlay new new_underlay (stream.Read place) cs start now number s o e (inr h) = tt
no_write_fails changes index done latest ports underlay new new_underlay (stream.Write target) cs start now number s o e (inr h) = absurd h.4.reads

pub stands_at_fault : (changes : List TimedChange) (index done latest : ℕ) (ports : List Stream) (underlay : Stream) (new : List Stream) (new_underlay : Stream) (fault : StreamFault) (start now : Drains) (o next : Outputs)
    → FetchesAt changes index done latest ports underlay new new_underlay (Err fault) → StandAt start now next → StepsTo {T = Unit {0}} start now o next (Err fault)
stands_at_fault changes index done latest ports underlay new new_underlay fault start now o next (inl h) at = let never = h.3 in absurd cc
stands_at_fault changes index done latest ports underlay new new_underlay (stream.Run f) start now o next (inr h) at = at
stands_at_fault changes index done latest ports underlay new new_underlay (stream.Read place) start now o next (inr h) at = at
stands_at_fault changes index done latest ports underlay new new_underlay (stream.Write target) start now o next (inr h) at = absurd h.4.reads
