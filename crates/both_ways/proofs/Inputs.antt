-- Events of which some came in, and the others were sent for those.
use Rattle.std.proofs.Common.{◌≡◌, ℕ, not, Bool, true, false, if◌then◌else◌, List, [], ◌∷◌, ◌++◌, length, Option, Some, None, Result, Ok, Err, refl, sym, ap, subst, arith}
use Rattle.std.specs.Prelude.{is_none, set}
use Rattle.std.specs.List.{list_all}
use Rattle.both_ways.specs.Laws.{Before, EachMayBe, GivesTheInputsBack, Marked, MayBe, MayBeSent, MayComeIn, RunsTheSame, behind_marked, came_behind, events, forgotten_ages, inputs, lost_to, lost_when, sent_behind, with_last}
use Rattle.both_ways.specs.Sieve.{Seen, asked, behind, coming, entering, fresh, happened, happens_in, is_input, is_taken, taken, window_asked, window_with}
use Rattle.both_ways.specs.Told.{awaiting, brought, outlets, text_of}
use Rattle.both_ways.proofs.Settled.{known_behind}
use Rattle.both_ways.proofs.Windows.{Keeps, an_echo, keeps_later, keeps_met, keeps_one_more, keeps_unmet, no_echo}
use Rattle.echo_window.specs.Echo.{Arrival, Record, Window}
use Rattle.endpoint_core.specs.Arrival.{Arrival as Entered, came_at, came_by}
use Rattle.endpoint_core.specs.Opened.{settings_told}
use Rattle.endpoint_core.specs.Settings.{Settings}
use Rattle.overlay.specs.Ports.{is_port}
use Rattle.stream_run.specs.Left.{texts_of}
use Rattle.timeline.specs.Captured.{Captured}
use Rattle.timeline.specs.Order.{IsRising}
use Rattle.timeline.specs.declared.event.Event.{Event}
use Rattle.timeline.specs.declared.event.Happening.{Happening}
use Rattle.timeline.specs.declared.event.Happening.TheVariants as happenings
use Rattle.timeline.specs.declared.source.Tap.{Tap}
use Rattle.timeline.specs.declared.source.Tap.TheVariants.{Port, Underlay as AtUnderlay}
use Rattle.wire.specs.declared.ether.reason.Refused.{Refused}

-- ---- a frame comes in at the moment of its record

abbrev IsAt : ℕ → Option Record → Type 0
IsAt moment None = Unit {0}
IsAt moment (Some r) = r.moment ≡ moment

at_awaiting : (place moment number : ℕ) (text : List ℕ) (awaited : List Bool) → IsAt moment (awaiting place moment number text awaited)
at_awaiting place moment number text awaited = by (list_all not awaited)
  where
    by : (q : Bool) → IsAt moment (if q then None else Some (record { place = place; number = number; moment = moment; frame = text; awaited = awaited }))
    by true = tt
    by false = refl

at_brought : (sends_at : ℕ → List Bool) (place moment number : ℕ) (x : Result Entered Refused) → IsAt moment (brought sends_at place moment number x)
at_brought sends_at place moment number (Ok x) = at_awaiting place moment number (text_of x.frame) (set (sends_at x.vid) place false)
at_brought sends_at place moment number (Err refused) = tt

at_one : (moment : ℕ) (q : Bool) (o : Option Record) → IsAt moment o → IsAt moment (if q then o else None)
at_one moment true o h = h
at_one moment false o h = tt

comes_at : (S : Settings) (sends_at : ℕ → List Bool) (tap : Tap) (moment number : ℕ) (c : Captured) → IsAt moment (coming S sends_at tap moment number c)
comes_at S sends_at (Port port) moment number c =
    let x = came_at S.ports S.overlay port c.original c.octets in
    at_one moment (is_port (length S.ports.ports) port) (brought sends_at port moment number x) (at_brought sends_at port moment number x)
comes_at S sends_at AtUnderlay moment number c = at_brought sends_at 0 moment number (came_by S.overlay c.original c.octets)

-- ---- what is known before an event

abbrev before : Seen → List Arrival → List Arrival → Before
before s came owed = record { settings = s.settings; changes = s.changes; came = came; owed = owed }

abbrev KeepsAt : Window → ℕ → List Arrival → List Arrival → Type 0
KeepsAt w moment came owed = Keeps w.within moment came owed w.came

-- a frame comes in, or none does
one_more : (w : Window) (moment : ℕ) (came owed : List Arrival) (o : Option Record) → IsAt moment o → lost_to w o ≡ [] → KeepsAt w moment came owed
    → KeepsAt (window_with w o) moment (with_last came o) (with_last owed o)
one_more w moment came owed None at none k = k
one_more w moment came owed (Some r) at none k =
    subst (λ t. Keeps w.within t (with_last came (Some r)) (with_last owed (Some r)) (window_with w (Some r)).came) at
    (keeps_one_more w.within r came owed w.came none (subst (λ t. Keeps w.within t came owed w.came) (sym at) k))

-- what of it enters
enters_if : (w : Window) (moment : ℕ) (came owed : List Arrival) (q : Bool) (o : Option Record) → q ≡ true → IsAt moment o
    → lost_to w (if q then o else None) ≡ [] → KeepsAt w moment came owed → KeepsAt (window_with w (if q then o else None)) moment (with_last came o) (with_last owed o)
enters_if w moment came owed true o is at none k = one_more w moment came owed o at none k
enters_if w moment came owed false o is at none k = absurd cc

enters_not : (w : Window) (moment : ℕ) (came owed : List Arrival) (q : Bool) (o : Option Record) → q ≡ false → KeepsAt w moment came owed → KeepsAt (window_with w (if q then o else None)) moment came owed
enters_not w moment came owed true o isnt k = absurd cc
enters_not w moment came owed false o isnt k = k

-- where segments send frames out is known by the settings in force
as_known : (s : Seen) (w : Window) (moment number : ℕ) (tap : Tap) (c : Captured) (came owed : List Arrival) → s.sends_at ≡ outlets s.settings.ports
    → (let o = coming s.settings s.sends_at tap moment number c in KeepsAt w moment (with_last came o) (with_last owed o))
    → let o = coming s.settings (outlets s.settings.ports) tap moment number c in KeepsAt w moment (with_last came o) (with_last owed o)
as_known s w moment number tap c came owed known =
    subst (λ (f : ℕ → List Bool). KeepsAt w moment (with_last came (coming s.settings f tap moment number c)) (with_last owed (coming s.settings f tap moment number c))) known

-- ---- one event

abbrev Goes : Bool → Seen → Before → ℕ → ℕ → Happening → Type 0
Goes is_input s b moment number h = (happens_in s moment h ≡ is_input) × KeepsAt (happened s moment number h).window moment b.came b.owed

comes : (s : Seen) (came owed : List Arrival) (moment number : ℕ) (h : Happening) → s.sends_at ≡ outlets s.settings.ports → KeepsAt s.window moment came owed → MayComeIn s.window.within (before s came owed) moment h
    → lost_when s moment number h ≡ [] → Goes true s (came_behind (before s came owed) moment number h) moment number h
comes s came owed moment number (happenings.Change index) known k may none = (refl, k)
comes s came owed moment number (happenings.Record (Port port) c) known k may none =
    let r = asked port moment c.octets in
    let is : is_input s (Port port) moment c ≡ true = ap not (no_echo s.window.within r came owed s.window.came may k) in (
      is,
      as_known s (happened s moment number (happenings.Record (Port port) c)).window moment number (Port port) c came owed known
          (enters_if (window_asked s.window (Port port) moment c) moment came owed (is_input s (Port port) moment c) (coming s.settings s.sends_at (Port port) moment number c)
          is (comes_at s.settings s.sends_at (Port port) moment number c) none (keeps_unmet s.window.within r came owed s.window.came may k)),
    )
comes s came owed moment number (happenings.Record AtUnderlay c) known k may none =
    let is : is_input s AtUnderlay moment c ≡ true = ap not may in (
      is,
      as_known s (happened s moment number (happenings.Record AtUnderlay c)).window moment number AtUnderlay c came owed known
          (enters_if s.window moment came owed (is_input s AtUnderlay moment c) (coming s.settings s.sends_at AtUnderlay moment number c) is (comes_at s.settings s.sends_at AtUnderlay moment number c) none k),
    )

goes_out : (s : Seen) (came owed : List Arrival) (n moment number : ℕ) (h : Happening) → KeepsAt s.window moment came owed → MayBeSent s.window.within (before s came owed) n moment h
    → Goes false s (sent_behind (before s came owed) n moment h) moment number h
goes_out s came owed n moment number (happenings.Change index) k may = absurd may
goes_out s came owed n moment number (happenings.Record (Port port) c) k may =
    let r = asked port moment c.octets in
    let isnt : is_input s (Port port) moment c ≡ false = ap not (an_echo s.window.within r came owed s.window.came n may k) in (
      isnt,
      enters_not (window_asked s.window (Port port) moment c) moment came (sent_behind (before s came owed) n moment (happenings.Record (Port port) c)).owed (is_input s (Port port) moment c) (coming s.settings s.sends_at (Port port) moment number c)
          isnt (keeps_met s.window.within r came owed s.window.came n may k),
    )
goes_out s came owed n moment number (happenings.Record AtUnderlay c) k may =
    let isnt : is_input s AtUnderlay moment c ≡ false = ap not may in
    (isnt, enters_not s.window moment came owed (is_input s AtUnderlay moment c) (coming s.settings s.sends_at AtUnderlay moment number c) isnt k)

-- whichever it is
goes : (s : Seen) (came owed : List Arrival) (mark : Option ℕ) (e : Event) → s.sends_at ≡ outlets s.settings.ports → KeepsAt s.window e.moment came owed → MayBe s.window.within (before s came owed) mark e
    → lost_when s e.moment e.number e.happening ≡ [] → Goes (is_none mark) s (behind_marked (before s came owed) mark e) e.moment e.number e.happening
goes s came owed None e known k may none = comes s came owed e.moment e.number e.happening known k may none
goes s came owed (Some n) e known k may none = goes_out s came owed n e.moment e.number e.happening k may

-- the settings behind it, and the time
same_time : (w : Window) (tap : Tap) (moment : ℕ) (c : Captured) (o : Option Record) → (window_with (window_asked w tap moment c) o).within ≡ w.within
same_time w (Port port) moment c None = refl
same_time w (Port port) moment c (Some r) = refl
same_time w AtUnderlay moment c None = refl
same_time w AtUnderlay moment c (Some r) = refl

time_stays : (s : Seen) (moment number : ℕ) (h : Happening) → (happened s moment number h).window.within ≡ s.window.within
time_stays s moment number (happenings.Change index) = refl
time_stays s moment number (happenings.Record tap c) = same_time s.window tap moment c (entering s tap moment number c)

came_before : (s : Seen) (came owed : List Arrival) (moment number : ℕ) (h : Happening) → let b = came_behind (before s came owed) moment number h in b ≡ before (happened s moment number h) b.came b.owed
came_before s came owed moment number (happenings.Change index) = refl
came_before s came owed moment number (happenings.Record tap c) = refl

sent_before : (s : Seen) (came owed : List Arrival) (n moment number : ℕ) (h : Happening) → MayBeSent s.window.within (before s came owed) n moment h
    → let b = sent_behind (before s came owed) n moment h in b ≡ before (happened s moment number h) b.came b.owed
sent_before s came owed n moment number (happenings.Change index) may = absurd may
sent_before s came owed n moment number (happenings.Record (Port port) c) may = refl
sent_before s came owed n moment number (happenings.Record AtUnderlay c) may = refl

marked_before : (s : Seen) (came owed : List Arrival) (mark : Option ℕ) (e : Event) → MayBe s.window.within (before s came owed) mark e
    → let b = behind_marked (before s came owed) mark e in b ≡ before (behind s e) b.came b.owed
marked_before s came owed None e may = came_before s came owed e.moment e.number e.happening
marked_before s came owed (Some n) e may = sent_before s came owed n e.moment e.number e.happening may

-- ---- all of them

no_parts : (xs ys : List ℕ) → xs ++ ys ≡ [] → (xs ≡ []) × (ys ≡ [])
no_parts [] ys h = (refl, h)
no_parts (x ∷ xs) ys h = absurd cc

in_front : (q : Bool) (mark : Option ℕ) (e : Event) (a : List Event) (ms : List Marked) → q ≡ is_none mark → a ≡ inputs ms
    → (if q then e ∷ a else a) ≡ inputs (record { event = e; sent_for = mark } ∷ ms)
in_front q None e a ms h k = rw (h, k) refl
in_front q (Some n) e a ms h k = rw (h, k) refl

given_back : (s : Seen) (came owed : List Arrival) (moment : ℕ) (ms : List Marked) → s.sends_at ≡ outlets s.settings.ports → KeepsAt s.window moment came owed → IsRising moment (events ms)
    → EachMayBe s.window.within (before s came owed) ms → forgotten_ages s (events ms) ≡ [] → taken s (events ms) ≡ inputs ms
given_back s came owed moment [] known k rising may none = refl
given_back s came owed moment (m ∷ ms) known k rising may none =
    let e = m.event in
    let t = behind s e in
    let b = behind_marked (before s came owed) m.sent_for e in
    let lost = no_parts (lost_when s e.moment e.number e.happening) (forgotten_ages t (events ms)) none in
    let now = keeps_later s.window.within moment e.moment came owed s.window.came rising.0 k in
    let one = goes s came owed m.sent_for e known now may.0 lost.0 in
    let rest : EachMayBe t.window.within (before t b.came b.owed) ms =
    subst (λ (w : ℕ). EachMayBe w (before t b.came b.owed) ms) (sym (time_stays s e.moment e.number e.happening))
    (subst (λ (c : Before). EachMayBe s.window.within c ms) (marked_before s came owed m.sent_for e may.0) may.1) in
    in_front (is_taken s e) m.sent_for e (taken t (events ms)) ms one.0 (given_back t b.came b.owed e.moment ms (known_behind s e.moment e.number e.happening known) one.1 rising.1 rest lost.1)

pub gives_the_inputs_back : GivesTheInputsBack
gives_the_inputs_back within S cs ms both =
    let none : Keeps within 0 [] [] [] = record { rising = omega arith; few = λ r. omega arith; enough = λ place frame t l. omega arith } in
    given_back (fresh within S cs) [] [] 0 ms refl none both.rising both.marked both.kept

pub runs_the_same : RunsTheSame
runs_the_same within s changes ms both segments cuts =
    ap (λ (es : List Event). texts_of (λ (all : List Event). es) segments s changes [] cuts) (gives_the_inputs_back within (settings_told s) changes ms both)
