-- What follows from the definitions, over whole runs. It states no standard.
use Rattle.std.specs.Prelude.{◌≡◌, ◌<◌, ⊤, ℕ, ◌+◌, ◌-◌, ◌^◌, min, nat_eq, nat_le, ◌&&◌, not, Bool, true, false, if◌then◌else◌}
use Rattle.std.specs.Prelude.{List, [], ◌∷◌, ◌++◌, filter, length, map, Option, Some, None, is_none, slice_index, slice_index_or}
use Rattle.std.specs.List.{count_by}
use Rattle.both_ways.specs.Sieve.{Seen, asked, behind, behind_all, coming, entering, fresh, is_taken, left_outs, place_in, taken}
use Rattle.both_ways.specs.Sieve.{window_asked}
use Rattle.both_ways.specs.declared.left_out.LeftOut.{LeftOut}
use Rattle.both_ways.specs.Told.{is_sent, outlets, place_of}
use Rattle.echo_window.specs.Echo.{Arrival, Record, Window, crowded_by, echo_of, first_met, is_echo_of, lesser, met_again, recent}
use Rattle.endpoint_core.specs.Opened.{settings_told}
use Rattle.endpoint_core.specs.Settings.{Settings}
use Rattle.overlay.specs.Settings as overlay
use Rattle.overlay.specs.declared.settings.change.TimedChange.{TimedChange}
use Rattle.stream_run.specs.Left.{texts_of}
use Rattle.stream_run.specs.Sieved.{all_taken, settings_behind}
use Rattle.timeline.specs.Order.{IsRising}
use Rattle.timeline.specs.declared.event.Event.{Event}
use Rattle.timeline.specs.declared.event.Happening.{Happening}
use Rattle.timeline.specs.declared.event.Happening.TheVariants as happenings
use Rattle.timeline.specs.declared.source.Tap.TheVariants.{Port, Underlay as AtUnderlay}
use Rattle.timeline.specs.declared.timeline.Cut.{Cut}
use Rattle.overlay.specs.declared.underlay.settings.Underlay.{Underlay}
use Rattle.segment_set.specs.Segments.{Segments}
use Rattle.wire.specs.Octets.{is_same}

-- those of some events in a row that aren't input
abbrev pub left_out : Seen → List Event → List Event
left_out s [] = []
left_out s (e ∷ es) = if is_taken s e then left_out (behind s e) es else e ∷ left_out (behind s e) es

-- what happens is a record at the place of this number
abbrev pub happens_at : ℕ → Happening → Bool
happens_at place (happenings.Change index) = false
happens_at place (happenings.Record tap c) = nat_eq (place_of tap) place

-- an event is a record at the place of this number
abbrev pub stands_at : ℕ → Event → Bool
stands_at place e = happens_at place e.happening

-- a law: what is input of two rows of events, one behind the other
abbrev pub TakesInTurn : Type 0
TakesInTurn = (s : Seen) (es fs : List Event) → taken s (es ++ fs) ≡ taken s es ++ taken (behind_all s es) fs

-- a law: behind a run, the count of a place tells how many of its records aren't input
abbrev pub CountsWhatIsLeftOut : Type 0
CountsWhatIsLeftOut =
    (within : ℕ) (S : Settings) (cs : List TimedChange) (es : List Event) (place : ℕ) → place < 256
    → slice_index (behind_all (fresh within S cs) es).counts place
    ≡ min (2 ^ 64 - 1) (count_by (stands_at place) (left_out (fresh within S cs) es))

-- each of these tells one of these events, in order: its place, its number in its capture and its moment
abbrev pub TellEach : List LeftOut → List Event → Type 0
TellEach [] [] = ⊤
TellEach [] (e ∷ es) = ⊥
TellEach (l ∷ ls) [] = ⊥
TellEach (l ∷ ls) (e ∷ es) = ((l.place ≡ place_in e.happening) × (l.number ≡ e.number) × (l.moment ≡ e.moment)) × TellEach ls es

-- a law: of a run's events each one that isn't input is told, and no other
abbrev pub TellsWhatIsLeftOut : Type 0
TellsWhatIsLeftOut = (s : Seen) (es : List Event) → TellEach (left_outs s es) (left_out s es)

-- a law: behind a run, each segment is known to send frames out at those of its members that are up, by the settings in force
abbrev pub SendsByTheSettings : Type 0
SendsByTheSettings =
    (within : ℕ) (S : Settings) (cs : List TimedChange) (es : List Event)
    → let s = behind_all (fresh within S cs) es in s.sends_at ≡ outlets s.settings.ports

-- what happens is a record of the underlay
abbrev pub happens_at_underlay : Happening → Bool
happens_at_underlay (happenings.Change index) = false
happens_at_underlay (happenings.Record (Port port) c) = false
happens_at_underlay (happenings.Record AtUnderlay c) = true

-- it is one that another sent than the endpoint
abbrev pub happens_by_others : Underlay → Happening → Bool
happens_by_others U (happenings.Change index) = false
happens_by_others U (happenings.Record (Port port) c) = false
happens_by_others U (happenings.Record AtUnderlay c) = not (is_sent U c.octets)

-- a law: of the underlay's records those are input whose outer source is no own address, all of them and no others
abbrev pub TakesWhatOthersSent : Type 0
TakesWhatOthersSent =
    (s : Seen) (es : List Event)
    → filter (λ e. happens_at_underlay e.happening) (taken s es) ≡ filter (λ e. happens_by_others s.settings.overlay.underlay e.happening) es

-- ---- what stands once

-- a frame of these octets that came in at a place and a moment may be what a record at a port is an echo of: at another place, at
-- most so many nanoseconds before, octet for octet without tags
abbrev pub is_like : ℕ → Record → ℕ → ℕ → List ℕ → Bool
is_like within r place moment frame =
    (not (nat_eq place r.place) && (nat_le moment r.moment && nat_le r.moment (moment + within))) && is_same frame r.frame

-- none of some frames that came in is
abbrev pub NoneIsLike : ℕ → Record → List Record → Type 0
NoneIsLike within r [] = ⊤
NoneIsLike within r (q ∷ came) = (is_like within r q.place q.moment q.frame ≡ false) × NoneIsLike within r came

-- what happens is no record at a port that any of them is like
abbrev pub IsNew : ℕ → List Record → ℕ → Happening → Type 0
IsNew within came moment (happenings.Change index) = ⊤
IsNew within came moment (happenings.Record (Port port) c) = NoneIsLike within (asked port moment c.octets) came
IsNew within came moment (happenings.Record AtUnderlay c) = ⊤

-- the frame that comes in with what happens, if one does
abbrev pub brought_by : Seen → ℕ → ℕ → Happening → Option Record
brought_by s moment number (happenings.Change index) = None
brought_by s moment number (happenings.Record tap c) = entering s tap moment number c

-- frames that came in, and one more, or none
abbrev pub with_one : List Record → Option Record → List Record
with_one came None = came
with_one came (Some r) = r ∷ came

-- behind these frames that came in, no frame stands at two places within the time
abbrev pub StandsOnce : List Record → Seen → List Event → Type 0
StandsOnce came s [] = ⊤
StandsOnce came s (e ∷ es) =
    IsNew s.window.within came e.moment e.happening
    × StandsOnce (with_one came (brought_by s e.moment e.number e.happening)) (behind s e) es

-- what happens is no packet that the endpoint sent
abbrev pub is_of_others : Underlay → Happening → Bool
is_of_others U (happenings.Change index) = true
is_of_others U (happenings.Record (Port port) c) = true
is_of_others U (happenings.Record AtUnderlay c) = not (is_sent U c.octets)

-- a law: where no frame stands at two places within the time, all is input but what the endpoint sent
abbrev pub LeavesWhole : Type 0
LeavesWhole =
    (within : ℕ) (S : Settings) (cs : List TimedChange) (es : List Event) → StandsOnce [] (fresh within S cs) es
    → taken (fresh within S cs) es ≡ filter (λ e. is_of_others S.overlay.underlay e.happening) es

-- ---- what is forgotten

-- the ages of the frames that go for want of room, although an echo of them might still come, when one comes in
abbrev pub lost_to : Window → Option Record → List ℕ
lost_to w None = []
lost_to w (Some r) = crowded_by (recent w.within r.moment w.came) r

-- the same of what happens
abbrev pub lost_when : Seen → ℕ → ℕ → Happening → List ℕ
lost_when s moment number (happenings.Change index) = []
lost_when s moment number (happenings.Record tap c) = lost_to (window_asked s.window tap moment c) (entering s tap moment number c)

-- the same of some events in a row
abbrev pub forgotten_ages : Seen → List Event → List ℕ
forgotten_ages s [] = []
forgotten_ages s (e ∷ es) = lost_when s e.moment e.number e.happening ++ forgotten_ages (behind s e) es

-- the least of numbers, if there are any
abbrev pub least : List ℕ → Option ℕ
least [] = None
least (n ∷ ns) = Some (lesser (least ns) n)

-- a law: behind a run is told how many frames went so, and the least of their ages
abbrev pub CountsWhatIsForgotten : Type 0
CountsWhatIsForgotten =
    (within : ℕ) (S : Settings) (cs : List TimedChange) (es : List Event)
    → (behind_all (fresh within S cs) es).window.forgotten
    ≡ record {
      count = min (2 ^ 64 - 1) (length (forgotten_ages (fresh within S cs) es));
      least_age = least (forgotten_ages (fresh within S cs) es);
    }

-- ---- what came in, and what the switch sent for it

-- an event where captures hold both directions, and what it is. None: it came in. Some: the switch sent it; at a port for the
-- frame of this number, from 0, of those that came to a segment which may send them out. At the underlay the number tells
-- nothing
pub record Marked : Type 0 where
  pub event : Event
  pub sent_for : Option ℕ

-- all events, as a run meets them
abbrev pub events : List Marked → List Event
events ms = map (λ m. m.event) ms

-- those that came in
abbrev pub inputs : List Marked → List Event
inputs ms = events (filter (λ m. is_none m.sent_for) ms)

-- what came in before an event: the settings that it left in force, and the changes of the run; the frames that came to a
-- segment, the earliest first, each awaited at all ports that may send it out; and the same, each awaited where it wasn't sent
-- yet
pub record Before : Type 0 where
  pub settings : Settings
  pub changes : List TimedChange
  pub came : List Arrival
  pub owed : List Arrival

-- nothing did
abbrev pub nothing_before : Settings → List TimedChange → Before
nothing_before S changes = record { settings = S; changes = changes; came = []; owed = [] }

-- it may have come in: at a port it is an echo of no frame that did, whether that was sent there yet or not; at the underlay
-- another sent it
abbrev pub MayComeIn : ℕ → Before → ℕ → Happening → Type 0
MayComeIn within b moment (happenings.Change index) = ⊤
MayComeIn within b moment (happenings.Record (Port port) c) = echo_of within b.came (asked port moment c.octets) ≡ None
MayComeIn within b moment (happenings.Record AtUnderlay c) = is_sent b.settings.overlay.underlay c.octets ≡ false

-- it may have been sent for the frame of this number: at a port it is an echo of that, which wasn't sent there yet; at the
-- underlay the endpoint sent it
abbrev pub MayBeSent : ℕ → Before → ℕ → ℕ → Happening → Type 0
MayBeSent within b n moment (happenings.Change index) = ⊥
MayBeSent within b n moment (happenings.Record (Port port) c) =
    let r = asked port moment c.octets in is_echo_of within r (slice_index_or b.owed n (first_met r)) ≡ true
MayBeSent within b n moment (happenings.Record AtUnderlay c) = is_sent b.settings.overlay.underlay c.octets ≡ true

-- frames that came in, and one behind them, or none
abbrev pub with_last : List Arrival → Option Record → List Arrival
with_last came None = came
with_last came (Some r) = came ++ first_met r ∷ []

-- what came in behind what comes in
abbrev pub came_behind : Before → ℕ → ℕ → Happening → Before
came_behind b moment number (happenings.Change index) = record b { settings = settings_behind b.changes (happenings.Change index) b.settings }
came_behind b moment number (happenings.Record tap c) =
    let o = coming b.settings (outlets b.settings.ports) tap moment number c in
    record b { came = with_last b.came o; owed = with_last b.owed o }

-- and behind what is sent for the frame of this number
abbrev pub sent_behind : Before → ℕ → ℕ → Happening → Before
sent_behind b n moment (happenings.Change index) = b
sent_behind b n moment (happenings.Record (Port port) c) = record b { owed = met_again (asked port moment c.octets) b.owed n }
sent_behind b n moment (happenings.Record AtUnderlay c) = b

-- an event may be what its mark says
abbrev pub MayBe : ℕ → Before → Option ℕ → Event → Type 0
MayBe within b None e = MayComeIn within b e.moment e.happening
MayBe within b (Some n) e = MayBeSent within b n e.moment e.happening

-- what came in behind it
abbrev pub behind_marked : Before → Option ℕ → Event → Before
behind_marked b None e = came_behind b e.moment e.number e.happening
behind_marked b (Some n) e = sent_behind b n e.moment e.happening

-- and so each of some events in a row
abbrev pub EachMayBe : ℕ → Before → List Marked → Type 0
EachMayBe within b [] = ⊤
EachMayBe within b (m ∷ ms) = MayBe within b m.sent_for m.event × EachMayBe within (behind_marked b m.sent_for m.event) ms

-- events of a run whose captures hold both directions. For example, ports 1 and 2 are members of a segment, and the time is 10
-- ms. A frame comes in at port 1 at 0 ms, and again at 1 ms; it stands at port 2 at 2 ms, sent for frame 1, and at 3 ms, with
-- a tag, sent for frame 0. These are marked right, and the first two are the inputs. If it came in at port 2 at 4 ms, no mark
-- would be right there: it is like what is sent there, and nothing is owed
pub record AreBothWays (within : ℕ) (S : Settings) (changes : List TimedChange) (ms : List Marked) : Type 0 where
  -- moments never fall
  pub rising : IsRising 0 (events ms)
  pub marked : EachMayBe within (nothing_before S changes) ms
  -- no frame goes for want of room although an echo of it might still come
  pub kept : forgotten_ages (fresh within S changes) (events ms) ≡ []

-- a law: of them those are taken in that came in
abbrev pub GivesTheInputsBack : Type 0
GivesTheInputsBack =
    (within : ℕ) (S : Settings) (cs : List TimedChange) (ms : List Marked) → AreBothWays within S cs ms
    → taken (fresh within S cs) (events ms) ≡ inputs ms

-- a law: so the outputs of a run of them all are those of a run of the inputs alone, each by the number that it has in its
-- capture
abbrev pub RunsTheSame : Type 0
RunsTheSame =
    (within : ℕ) (s : overlay.Settings) (changes : List TimedChange) (ms : List Marked) → AreBothWays within (settings_told s) changes ms
    → (segments : Segments) (cuts : List Cut)
    → texts_of (taken (fresh within (settings_told s) changes)) segments s changes (events ms) cuts
    ≡ texts_of all_taken segments s changes (inputs ms) cuts
