-- The bridge of a segment behind one more event.
use Rattle.std.proofs.Common.{◌≡◌, ℕ, Bool, true, false, cond, List, [], ◌∷◌, ◌++◌, Result, Ok, refl, ap, ◌∙◌}
use Rattle.std.specs.Option.{option_map}
use Rattle.std.specs.FinMap.{empty}
use Rattle.std.proofs.Math.Nat.{le_refl}
use Rattle.std.proofs.lemmas.Bool.{eq-eqb}
use Rattle.wire.specs.declared.ether.reason.Refused.{Refused}
use Rattle.filter_db.specs.Table.{Table}
use Rattle.endpoint_core.specs.Settings.{Settings, segment_at}
use Rattle.endpoint_core.specs.State.{State as Bridges, live_in, aged}
use Rattle.endpoint_core.specs.StateStep.{table_learned}
use Rattle.endpoint_core.specs.Arrival.{Arrival}
use Rattle.endpoint_core.specs.Arrival.{came_at, came_by}
use Rattle.endpoint_core.specs.Event.{Input, FrameAt, Packet, Asks, Event}
use Rattle.endpoint_core.specs.Run.{settings_after_input, settings_after, comes_to, is_own, events_of, entries_after_frame, entries_after, entries_with, entries_through, entries_of, decision}
use Rattle.endpoint_core.specs.Step.{State, Decided, after_came, bridges_after, after}
use Rattle.mesh_delivery.specs.Bridge.{aged as aged_bridge}
use Rattle.mesh_delivery.specs.Segment.{bridge_by, bridge_of, bridge_after, IsBrought, step_in, decision_of}
use Rattle.mesh_delivery.proofs.Ageing.{bridge-aged, bridge-step, aged-aged}
use Rattle.mesh_delivery.proofs.Deciding.{answered}
use Rattle.mesh_delivery.proofs.OneBridgeKeeping.{bridge-kept, state-kept}

-- ---- one more event

settings-behind : (S : Settings) (es : List Event) (e : Event) → settings_after S (es ++ e ∷ []) ≡ settings_after_input (settings_after S es) e.input
settings-behind S [] e = refl
settings-behind S (x ∷ es) e = settings-behind (settings_after_input S x.input) es e

-- a table behind an event, by whether that is its segment's own
abbrev table_behind : ℕ → Settings → ℕ → Input → Table → Table
table_behind vid S t i m = cond (is_own vid S i) (entries_after S (segment_at S vid) t i (live_in (S.bridges vid) t m)) m

entries-behind : (vid : ℕ) (S : Settings) (m : Table) (es : List Event) (e : Event) → entries_through vid m (events_of vid S (es ++ e ∷ [])) ≡ table_behind vid (settings_after S es) e.at e.input (entries_through vid m (events_of vid S es))
entries-behind vid S m [] e = by (is_own vid S e.input)
  where
    by : (b : Bool) → entries_through vid m (cond b ((S, e) ∷ []) []) ≡ cond b (entries_with vid S e m) m
    by true = refl
    by false = refl
entries-behind vid S m (x ∷ es) e = by (is_own vid S x.input) (λ n. entries-behind vid (settings_after_input S x.input) n es e)
  where
    next : Settings
    next = settings_after_input S x.input

    by : (b : Bool) → ((n : Table) → entries_through vid n (events_of vid next (es ++ e ∷ [])) ≡ table_behind vid (settings_after next es) e.at e.input (entries_through vid n (events_of vid next es))) → entries_through vid m (cond b ((S, x) ∷ events_of vid next (es ++ e ∷ [])) (events_of vid next (es ++ e ∷ []))) ≡ table_behind vid (settings_after next es) e.at e.input (entries_through vid m (cond b ((S, x) ∷ events_of vid next es) (events_of vid next es)))
    by true rest = rest (entries_with vid S x m)
    by false rest = rest m

after-behind : (vid : ℕ) (S : Settings) (es : List Event) (e : Event) → bridge_after vid S (es ++ e ∷ []) ≡ bridge_by vid (settings_after_input (settings_after S es) e.input) (table_behind vid (settings_after S es) e.at e.input (entries_of vid S es))
after-behind vid S es e = λ i. bridge_by vid (settings-behind S es e i) (entries-behind vid S empty es e i)

-- ---- by the settings and the events

-- what came to the segment
came-behind : (S : Settings) (t : ℕ) (x : Arrival) (m : Table) (r : Result Arrival Refused) → r ≡ Ok x → bridge_by x.vid S (cond (comes_to x.vid r) (entries_after_frame (segment_at S x.vid) t r (live_in (S.bridges x.vid) t m)) m) ≡ (step_in (bridge_by x.vid S m) t x.from x.frame).1
came-behind S t x m r is =
    let live : Table = live_in (S.bridges x.vid) t m in
    ap (λ (q : Result Arrival Refused). bridge_by x.vid S (cond (comes_to x.vid q) (entries_after_frame (segment_at S x.vid) t q live) m)) is
    ∙ ap (λ (b : Bool). bridge_by x.vid S (cond b (table_learned t x.from x.frame (segment_at S x.vid) live) m)) (eq-eqb x.vid x.vid refl)
    ∙ bridge-step x.vid S t x.from x.frame m

input-behind : (S : Settings) (t : ℕ) (i : Input) (x : Arrival) (m : Table) → IsBrought S i x → bridge_by x.vid (settings_after_input S i) (table_behind x.vid S t i m) ≡ (step_in (bridge_by x.vid S m) t x.from x.frame).1
input-behind S t (FrameAt port original b) x m is = came-behind S t x m (came_at S.ports S.overlay port original b) is
input-behind S t (Packet original b) x m is = came-behind S t x m (came_by S.overlay original b) is
input-behind S t (Asks c) x m is = absurd is

pub decision-step : (S : Settings) (es : List Event) (e : Event) (x : Arrival) → IsBrought (settings_after S es) e.input x → decision S es e ≡ Decided (decision_of (settings_after S es).overlay.underlay (segment_at (settings_after S es) x.vid) x (step_in (bridge_after x.vid S es) e.at x.from x.frame).0)
decision-step S es e x is =
    let B : Bridges = record { settings = settings_after S es; tables = λ vid. entries_of vid S es } in
    answered e.at B e.input x is

pub after-step : (S : Settings) (es : List Event) (e : Event) (x : Arrival) → IsBrought (settings_after S es) e.input x → bridge_after x.vid S (es ++ e ∷ []) ≡ (step_in (bridge_after x.vid S es) e.at x.from x.frame).1
after-step S es e x is = after-behind x.vid S es e ∙ input-behind (settings_after S es) e.at e.input x (entries_of x.vid S es) is

pub after-other : (S : Settings) (es : List Event) (e : Event) (vid : ℕ) → is_own vid (settings_after S es) e.input ≡ false → bridge_after vid S (es ++ e ∷ []) ≡ bridge_after vid S es
after-other S es e vid other =
    let T : Settings = settings_after S es in
    let m : Table = entries_of vid S es in
    after-behind vid S es e
    ∙ ap (λ (b : Bool). bridge_by vid (settings_after_input T e.input) (cond b (entries_after T (segment_at T vid) e.at e.input (live_in (T.bridges vid) e.at m)) m)) other
    ∙ bridge-kept vid T e.input m other

-- ---- in a state

came-left : (t : ℕ) (B : Bridges) (x : Arrival) (r : Result Arrival Refused) → r ≡ Ok x → bridge_of x.vid (after_came t (aged t B) r) ≡ (step_in (bridge_of x.vid B) t x.from x.frame).1
came-left t B x r is =
    let S : Settings = B.settings in
    let live : Table = live_in (S.bridges x.vid) t (B.tables x.vid) in
    ap (λ (q : Result Arrival Refused). bridge_of x.vid (after_came t (aged t B) q)) is
    ∙ ap (λ (b : Bool). bridge_by x.vid S (cond b (table_learned t x.from x.frame (segment_at S x.vid) live) live)) (eq-eqb x.vid x.vid refl)
    ∙ bridge-step x.vid S t x.from x.frame (B.tables x.vid)

input-left : (t : ℕ) (B : Bridges) (i : Input) (x : Arrival) → IsBrought B.settings i x → bridge_of x.vid (bridges_after t (aged t B) i) ≡ (step_in (bridge_of x.vid B) t x.from x.frame).1
input-left t B (FrameAt port original b) x is = came-left t B x (came_at B.settings.ports B.settings.overlay port original b) is
input-left t B (Packet original b) x is = came-left t B x (came_by B.settings.overlay original b) is
input-left t B (Asks c) x is = absurd is

aged-of : (vid t : ℕ) (B : Bridges) → bridge_of vid (aged t B) ≡ option_map (aged_bridge t) (bridge_of vid B)
aged-of vid t B = bridge-aged vid B.settings t (B.tables vid)

pub state-step : (s : State) (e : Event) (x : Arrival) → IsBrought s.bridges.settings e.input x → bridge_of x.vid (after s e).bridges ≡ option_map (aged_bridge e.at) (step_in (bridge_of x.vid s.bridges) e.at x.from x.frame).1
state-step s e x is =
    aged-of x.vid e.at (bridges_after e.at (aged e.at s.bridges) e.input)
    ∙ ap (option_map (aged_bridge e.at)) (input-left e.at s.bridges e.input x is)

pub state-other : (s : State) (e : Event) (vid : ℕ) → is_own vid s.bridges.settings e.input ≡ false → bridge_of vid (after s e).bridges ≡ option_map (aged_bridge e.at) (bridge_of vid s.bridges)
state-other s e vid other =
    let t : ℕ = e.at in
    aged-of vid t (bridges_after t (aged t s.bridges) e.input)
    ∙ ap (option_map (aged_bridge t)) (state-kept t vid (aged t s.bridges) e.input other ∙ aged-of vid t s.bridges)
    ∙ aged-aged (bridge_of vid s.bridges) t t (le_refl t)
