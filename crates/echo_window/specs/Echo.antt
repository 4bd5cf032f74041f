-- Which records of captures are what the switch itself sent, where captures hold what came in and what was sent out. It states
-- no standard. A frame that came in at one place and was sent out at others is met again there, soon after and unchanged.
--     is_echo_of   a record is an echo of a frame that came in
--     recent       the frames that an echo may be of at a moment
--     newest       what is kept of the frames that came in
--     crowded_out  what is forgotten of them for want of room
--     echo_of      which record brought the frame that a record is an echo of
--     after        the frames that came in, once a record was met
--     entered      the same, once one came in
--     behind_met, behind_entered   what a window knows then
use Rattle.std.specs.Prelude.{ℕ, ◌+◌, ◌-◌, ◌^◌, min, nat_eq, nat_lt, nat_le, ◌&&◌, not, if◌then◌else◌, Bool, false, List, []}
use Rattle.std.specs.Prelude.{◌∷◌, ◌++◌, get_or, length, Option, Some, None, option_map, set, slice_index_or}
use Rattle.std.specs.List.{find, flat_map, list_all, position}
use Rattle.echo_window.specs.declared.forgotten.Forgotten.{Forgotten}
use Rattle.echo_window.specs.declared.origin.Origin.{Origin}
use Rattle.wire.specs.Octets.{is_same}

-- a record of a capture: the place where it was captured, its number there, its moment in nanoseconds, the octets of its frame
-- without tag, and by the numbers of 256 places whether it may be met again there, if it came in
pub record Record : Type 0 where
  pub place : ℕ
  pub number : ℕ
  pub moment : ℕ
  pub frame : List ℕ
  pub awaited : List Bool

-- a frame that came in, by which record; and by the numbers of 256 places whether it may still be met again there
pub record Arrival : Type 0 where
  pub place : ℕ
  pub number : ℕ
  pub moment : ℕ
  pub frame : List ℕ
  pub awaited : List Bool

-- a record is of another place than a frame that came in
abbrev pub is_elsewhere : Record → Arrival → Bool
is_elsewhere r c = not (nat_eq c.place r.place)

-- it is no earlier, and at most so many nanoseconds later
abbrev pub is_soon : ℕ → Record → Arrival → Bool
is_soon within r c = nat_le c.moment r.moment && nat_le r.moment (c.moment + within)

-- the frame may be met at that place, and wasn't yet
abbrev pub is_awaited : Record → Arrival → Bool
is_awaited r c = get_or c.awaited r.place false

-- a record is an echo of a frame that came in: at another place, soon after, for the first time there, and octet for octet
abbrev pub is_echo_of : ℕ → Record → Arrival → Bool
is_echo_of within r c = (is_elsewhere r c && (is_soon within r c && is_awaited r c)) && is_same c.frame r.frame

-- frames without those in front that came in more than so many nanoseconds before a moment
abbrev pub recent : ℕ → ℕ → List Arrival → List Arrival
recent within moment [] = []
recent within moment (c ∷ came) = if nat_lt (c.moment + within) moment then recent within moment came else c ∷ came

-- how many octets frames have together
abbrev pub octets_of : List Arrival → ℕ
octets_of came = length (flat_map (λ c. c.frame) came)

-- at most 4,096 frames, of at most 4 MiB together
abbrev pub fits : List Arrival → Bool
fits came = nat_le (length came) 4096 && nat_le (octets_of came) 4194304

-- the most of the latest frames that fit
abbrev pub newest : List Arrival → List Arrival
newest [] = []
newest (c ∷ came) = if fits (c ∷ came) then c ∷ came else newest came

-- a frame was met again at each place where it might be: no echo of it can come any more
abbrev pub is_met_everywhere : Arrival → Bool
is_met_everywhere c = list_all not c.awaited

-- its age at a moment, unless it was
abbrev pub age_at : ℕ → Arrival → List ℕ
age_at moment c = if is_met_everywhere c then [] else (moment - c.moment) ∷ []

-- the ages at a moment of those among frames that go since the others alone fit, and that may be met again, the earliest first
abbrev pub crowded_out : ℕ → List Arrival → List ℕ
crowded_out moment [] = []
crowded_out moment (c ∷ came) = if fits (c ∷ came) then [] else age_at moment c ++ crowded_out moment came

-- a frame that came in, met nowhere else yet
abbrev pub first_met : Record → Arrival
first_met r = record { place = r.place; number = r.number; moment = r.moment; frame = r.frame; awaited = r.awaited }

-- a frame, met again at a place
abbrev pub met_at : ℕ → Arrival → Arrival
met_at place c = record { place = c.place; number = c.number; moment = c.moment; frame = c.frame; awaited = set c.awaited place false }

-- frames, of which the one at an index was met again at the place of a record
abbrev pub met_again : Record → List Arrival → ℕ → List Arrival
met_again r came i = set came i (met_at r.place (slice_index_or came i (first_met r)))

-- which record brought a frame
abbrev pub origin_of : Arrival → Origin
origin_of c = record { place = c.place; number = c.number; moment = c.moment }

-- which record brought the frame that another is an echo of, the earliest of several; None: it is no echo
abbrev pub echo_of : ℕ → List Arrival → Record → Option Origin
echo_of within came r = option_map origin_of (find (is_echo_of within r) came)

-- what is kept of recent frames once a record was met: an echo's place with its frame
abbrev pub with_met : ℕ → List Arrival → Record → List Arrival
with_met within came r = elim (position (is_echo_of within r) came) [ Some i ↦ met_again r came i | None ↦ came ]

-- what is kept of all frames: those in front that came in too early for an echo at the record's moment are forgotten
abbrev pub after : ℕ → List Arrival → Record → List Arrival
after within came r = with_met within (recent within r.moment came) r

-- what is kept of all frames once one came in
abbrev pub entered : ℕ → List Arrival → Record → List Arrival
entered within came r = newest (recent within r.moment came ++ first_met r ∷ [])

-- the ages of the recent frames that go for want of room when a record comes in: an echo of each might still come
abbrev pub crowded_by : List Arrival → Record → List ℕ
crowded_by came r = crowded_out r.moment (came ++ first_met r ∷ [])

-- the lesser of two numbers, of which the first may not be there
abbrev pub lesser : Option ℕ → ℕ → ℕ
lesser None n = n
lesser (Some m) n = min m n

-- what was forgotten, and one frame more, which went at this age. Frames are counted up to the greatest number of 64 bits
abbrev pub with_age : Forgotten → ℕ → Forgotten
with_age f age = record { count = min (f.count + 1) (2 ^ 64 - 1); least_age = Some (lesser f.least_age age) }

-- the same of frames of these ages
abbrev pub with_ages : Forgotten → List ℕ → Forgotten
with_ages f [] = f
with_ages f (age ∷ ages) = with_ages (with_age f age) ages

-- what a window knows: how many nanoseconds later an echo may be; the frames that came in, the earliest first; and what went for
-- want of room, although an echo of it might still have come
pub record Window : Type 0 where
  pub within : ℕ
  pub came : List Arrival
  pub forgotten : Forgotten

-- no record was met yet
abbrev pub new_window : ℕ → Window
new_window within = record { within = within; came = []; forgotten = record { count = 0; least_age = None } }

-- once a record was met
abbrev pub behind_met : Window → Record → Window
behind_met w r = record w { came = after w.within w.came r }

-- once a frame came in
abbrev pub behind_entered : Window → Record → Window
behind_entered w r = record {
  within = w.within;
  came = entered w.within w.came r;
  forgotten = with_ages w.forgotten (crowded_by (recent w.within r.moment w.came) r);
}
