-- Where a frame goes: to ports that are there, and to remotes.
use Rattle.std.proofs.Common.{◌≡◌, sym, refl, subst, ℕ, zero, suc, ◌+◌, ◌<◌, ◌≤◌, arith, Bool, true, false, cond, not, ◌&&◌, List, [], ◌∷◌, ◌++◌, length, map, filter, slice_index_or, Option, Some, None, Result, Ok, Err, IfOk}
use Rattle.std.specs.Prelude.{is_some, ⊤}
use Rattle.std.specs.List.{AllByRecursion, range_with_len}
use Rattle.std.specs.FinMap.{get}
use Rattle.std.proofs.lemmas.Bool.{false≢true}
use Rattle.std.proofs.lemmas.List.{length-map}
use Rattle.wire.specs.Address.{is_group}
use Rattle.wire.specs.Frame.{Frame}
use Rattle.wire.specs.declared.ether.reason.Reason.{Reason}
use Rattle.wire.specs.declared.ether.reason.Reason.TheVariants.{Horizon, SamePlace, Unreachable}
use Rattle.wire.specs.declared.ether.reason.Refused.{Refused}
use Rattle.overlay.specs.Flood.{Entries}
use Rattle.overlay.specs.Ports.{Ports}
use Rattle.filter_db.specs.Place.{same_place}
use Rattle.filter_db.specs.Table.{Table, stands}
use Rattle.filter_db.specs.declared.place.Place.{Place}
use Rattle.filter_db.specs.declared.place.Place.TheVariants.{Local, Remote}
use Rattle.tunnel_learning.specs.Bridge.{Config, everywhere, in_one_group, is_local_outlet, is_remote_outlet, is_shut, is_up_at, local_places, or_no_outlet, outlets, place_of, remote_places, serves, to_place, toward}
use Rattle.endpoint_core.specs.Settings.{SegmentSettings, Settings, segment_at}
use Rattle.endpoint_core.specs.State.{State as Bridges, aged}
use Rattle.endpoint_core.specs.StateStep.{after_frame, config_of, verdict, verdict_in}
use Rattle.endpoint_core.specs.Arrival.{Arrival, came_at, came_by}
use Rattle.endpoint_core.specs.Decision.{Sent}
use Rattle.endpoint_core.specs.Event.{Asks, Event, FrameAt, Input, Packet}
use Rattle.endpoint_core.specs.Step.{Answer, Decided, Replied, State, answer, answer_by, by_verdict, decided, sent_at}

-- a port that is there, of so many, or a remote
abbrev pub IsThere : ℕ → Place → Type 0
IsThere n (Local port) = (1 ≤ port) × (port ≤ n)
IsThere n (Remote kind addr) = ⊤

abbrev AreThere : ℕ → List Place → Type 0
AreThere n places = AllByRecursion (IsThere n) places

-- ---- a bridge

inside : (up : List Bool) (k : ℕ) → slice_index_or up k false ≡ true → k < length up
inside [] k there = absurd (false≢true there)
inside (b ∷ up) zero there = omega arith
inside (b ∷ up) (suc k) there = omega (arith, inside up k there)

up_there : (up : List Bool) (port : ℕ) → is_up_at up port ≡ true → (1 ≤ port) × (port ≤ length up)
up_there up zero there = absurd (false≢true there)
up_there up (suc k) there = (omega arith, omega (arith, inside up k there))

left : (a b : Bool) → a && b ≡ true → a ≡ true
left true b h = refl
left false b h = h

not_not : (b : Bool) → not b ≡ false → b ≡ true
not_not true h = refl
not_not false h = absurd (false≢true (sym h))

unshut_there : (c : Config) (to : Place) → is_shut c to ≡ false → IsThere (length c.up) to
unshut_there c (Local port) unshut = up_there c.up port (left (is_up_at c.up port) (is_some (get c.members port)) (not_not (serves c port) unshut))
unshut_there c (Remote kind addr) unshut = tt

to_there : (c : Config) (from to : Place) → IfOk (to_place c from to) (AreThere (length c.up))
to_there c from to = by (same_place to from) (in_one_group c from to) (is_shut c to) refl
  where
    by : (a b d : Bool) → is_shut c to ≡ d → IfOk (cond a (Err SamePlace) (cond b (Err Horizon) (cond d (Err Unreachable) (Ok (to ∷ []))))) (AreThere (length c.up))
    by true b d is = tt
    by false true d is = tt
    by false false true is = tt
    by false false false is = (unshut_there c to is, tt)

ports_from : (n first count : ℕ) → 1 ≤ first → first + count ≤ n + 1 → AreThere n (map Local (range_with_len first count))
ports_from n first zero low high = tt
ports_from n first (suc count) low high = ((low, omega (arith, high)), ports_from n (first + 1) count (omega arith) (omega (arith, high)))

remotes_are : (n : ℕ) (flood : Entries) → AreThere n (map place_of flood)
remotes_are n [] = tt
remotes_are n (r ∷ rs) = (tt, remotes_are n rs)

some_there : (n : ℕ) (test : Place → Bool) (places : List Place) → AreThere n places → AreThere n (filter test places)
some_there n test [] all = tt
some_there n test (place ∷ places) all = by (test place) (some_there n test places all.1)
  where
    by : (b : Bool) → AreThere n (filter test places) → AreThere n (cond b (place ∷ filter test places) (filter test places))
    by true rest = (all.0, rest)
    by false rest = rest

both_there : (n : ℕ) (xs ys : List Place) → AreThere n xs → AreThere n ys → AreThere n (xs ++ ys)
both_there n [] ys first second = second
both_there n (x ∷ xs) ys first second = (first.0, both_there n xs ys first.1 second)

or_none_there : (n : ℕ) (places : List Place) → AreThere n places → IfOk (or_no_outlet places) (AreThere n)
or_none_there n [] are = tt
or_none_there n (x ∷ xs) are = are

everywhere_there : (c : Config) (from : Place) → IfOk (everywhere c from) (AreThere (length c.up))
everywhere_there c from =
    let n = length c.up in
    or_none_there n (local_places c from ++ remote_places c from)
    (both_there n (local_places c from) (remote_places c from)
    (some_there n (is_local_outlet c from) (map Local (range_with_len 1 n)) (ports_from n 1 n (omega arith) (omega arith)))
    (some_there n (is_remote_outlet c from) (map place_of c.flood) (remotes_are n c.flood)))

toward_there : (c : Config) (from : Place) (o : Option Place) → IfOk (toward c from o) (AreThere (length c.up))
toward_there c from None = everywhere_there c from
toward_there c from (Some to) = to_there c from to

verdict_there : (ports : Ports) (o : Option SegmentSettings) (from : Place) (f : Frame) (m : Table) → IfOk (verdict_in ports o from f m) (AreThere (length ports.ports))
verdict_there ports None from f m = tt
verdict_there ports (Some s) from f m =
    let c = config_of ports s in
    subst (λ (n : ℕ). IfOk (outlets c from f m) (AreThere n)) (length-map ports.ports (λ port. port.up))
    (toward_there c from (cond (is_group f.dst) None (stands f.dst m)))

-- ---- an answer

-- so does all that leaves
abbrev pub LeaveThere : ℕ → List Sent → Type 0
LeaveThere n outcomes = AllByRecursion (λ o. IsThere n o.place) outcomes

sent_there : (n : ℕ) (S : Settings) (vid : ℕ) (f : Frame) (places : List Place) → AreThere n places → LeaveThere n (map (sent_at S vid f) places)
sent_there n S vid f [] all = tt
sent_there n S vid f (place ∷ places) all = (all.0, sent_there n S vid f places all.1)

by_there : (n : ℕ) (S : Settings) (x : Arrival) (r : Result (List Place) Reason) → IfOk r (AreThere n) → LeaveThere n (by_verdict S x r).outcomes
by_there n S x (Ok places) all = sent_there n S x.vid x.frame places all
by_there n S x (Err reason) all = tt

decided_there : (t : ℕ) (B : Bridges) (r : Result Arrival Refused) → LeaveThere (length B.settings.ports.ports) (decided t B r).outcomes
decided_there t B (Ok x) =
    by_there (length B.settings.ports.ports) B.settings x (verdict t x.vid x.from x.frame B)
    (verdict_there B.settings.ports (segment_at B.settings x.vid) x.from x.frame ((after_frame t x.vid x.from x.frame B).tables x.vid))
decided_there t B (Err refused) = tt

-- the same of an answer
abbrev pub AnswerThere : ℕ → Answer → Type 0
AnswerThere n (Decided d) = LeaveThere n d.outcomes
AnswerThere n (Replied fault) = ⊤

input_there : (t : ℕ) (B : Bridges) (i : Input) → AnswerThere (length B.settings.ports.ports) (answer_by t B i)
input_there t B (FrameAt port original b) = decided_there t B (came_at B.settings.ports B.settings.overlay port original b)
input_there t B (Packet original b) = decided_there t B (came_by B.settings.overlay original b)
input_there t B (Asks c) = tt

-- what an endpoint answers leaves at its ports, and at remotes
pub answer_there : (s : State) (e : Event) → AnswerThere (length s.bridges.settings.ports.ports) (answer s e)
answer_there s e = input_there e.at (aged e.at s.bridges) e.input
