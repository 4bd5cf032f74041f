-- The machine answers what the bridges of the segments decide.
use Rattle.std.proofs.Common.{◌≡◌, ℕ, ◌≤◌, Bool, true, false, cond, ◌&&◌, refl, sym, ap, ◌∙◌, subst, Option, Some, None, Result, Ok, Err, List, [], ◌∷◌, ◌++◌}
use Rattle.std.specs.Prelude.{is_none}
use Rattle.std.specs.Option.{option_map_or}
use Rattle.std.specs.FinMap.{empty}
use Rattle.std.proofs.Math.Nat.{le_refl}
use Rattle.std.proofs.Math.Path.{fun_ext}
use Rattle.std.proofs.lemmas.List.{append_assoc}
use Rattle.wire.specs.declared.ether.reason.Refused.{Refused}
use Rattle.overlay.specs.Overlay.{Overlay}
use Rattle.filter_db.specs.Table.{Table, nanoseconds}
use Rattle.filter_db.specs.Ageing.{live-live}
use Rattle.filter_db.proofs.TableLemmas.{kept-empty}
use Rattle.overlay.specs.declared.settings.change.Change.{Change}
use Rattle.endpoint_core.specs.Settings.{Settings, BridgeSettings, SegmentSettings, segment_at}
use Rattle.endpoint_core.specs.Effect.{Effect, ToFlood, ToBridge, ToLimit, ToMembers, ToPort, Comes, Goes, ToNothing, effect, applied}
use Rattle.endpoint_core.specs.Change.{is_about, refused, accepted}
use Rattle.endpoint_core.proofs.EffectLemmas.{is_to, effect-other}
use Rattle.endpoint_core.specs.State.{State as Bridges, live_in, aged, accepted_state, table_changed}
use Rattle.endpoint_core.specs.Arrival.{Arrival}
use Rattle.endpoint_core.specs.Arrival.{came_at, came_by}
use Rattle.endpoint_core.specs.Event.{Input, FrameAt, Packet, Asks, Event, IsRising}
use Rattle.endpoint_core.specs.Step.{State, opened, after_came, bridges_after, answer_by, answer, after, answers, state_after, last_moment}
use Rattle.endpoint_core.specs.Run.{settings_after_input, settings_after, comes_to, is_own, events_of, entries_after_frame, entries_after_change, entries_after, entries_with, entries_through, bridges_at, decision, decisions}

-- ---- ageing

pub live_in-live_in : (o : Option BridgeSettings) (t later : ℕ) (m : Table) → t ≤ later → live_in o later (live_in o t m) ≡ live_in o later m
live_in-live_in None t later m h = refl
live_in-live_in (Some bridge) t later m h = live-live (nanoseconds bridge.ageing) t later m h

live_in-empty : (o : Option BridgeSettings) (t : ℕ) → live_in o t empty ≡ empty
live_in-empty None t = refl
live_in-empty (Some bridge) t = kept-empty _

-- ---- one event: the settings

settings-frame : (t : ℕ) (B : Bridges) (r : Result Arrival Refused) → (after_came t B r).settings ≡ B.settings
settings-frame t B (Ok x) = refl
settings-frame t B (Err refused) = refl

settings-chosen : (b : Bool) (t : ℕ) (c : Change) (B : Bridges) → (cond b (accepted_state t c B) B).settings ≡ cond b (accepted B.settings c) B.settings
settings-chosen true t c B = refl
settings-chosen false t c B = refl

pub settings-event : (t : ℕ) (B : Bridges) (i : Input) → (bridges_after t B i).settings ≡ settings_after_input B.settings i
settings-event t B (FrameAt port original b) = settings-frame t B (came_at B.settings.ports B.settings.overlay port original b)
settings-event t B (Packet original b) = settings-frame t B (came_by B.settings.overlay original b)
settings-event t B (Asks c) = settings-chosen (is_none (refused B.settings c)) t c B

-- a flood list is nothing to the table
bridges-flooding : (S : Settings) (overlay : SegmentSettings → Overlay) (o : Option SegmentSettings) → (option_map_or (λ s. let left : Settings = record S { overlay = overlay s } in left) o S).bridges ≡ S.bridges
bridges-flooding S overlay None = refl
bridges-flooding S overlay (Some s) = refl

-- an effect that isn't to a segment leaves the rules of its table
bridges-applied : (e : Effect) (S : Settings) (vid : ℕ) → is_to vid e ≡ false → (applied e S).bridges vid ≡ S.bridges vid
bridges-applied (ToFlood v change) S vid other = ap (λ (f : ℕ → Option BridgeSettings). f vid) (bridges-flooding S _ (segment_at S v))
bridges-applied (ToBridge v change) S vid other = rw other refl
bridges-applied (ToLimit v limit) S vid other = rw other refl
bridges-applied (ToMembers v port egress) S vid other = refl
bridges-applied (ToPort port up) S vid other = refl
bridges-applied (Comes new) S vid other = rw other refl
bridges-applied (Goes v) S vid other = rw other refl
bridges-applied ToNothing S vid other = refl

-- a change that isn't about a segment leaves them
bridges-other : (S : Settings) (c : Change) (vid : ℕ) → is_about vid c ≡ false → (accepted S c).bridges vid ≡ S.bridges vid
bridges-other S c vid other = bridges-applied (effect c) S vid (effect-other vid c other)

bridges-chosen : (S : Settings) (c : Change) (vid : ℕ) (b : Bool) → b && is_about vid c ≡ false → (cond b (accepted S c) S).bridges vid ≡ S.bridges vid
bridges-chosen S c vid true other = bridges-other S c vid other
bridges-chosen S c vid false other = refl

-- an event that isn't its own leaves the rules of a segment's table
bridges-event : (vid : ℕ) (S : Settings) (i : Input) → is_own vid S i ≡ false → (settings_after_input S i).bridges vid ≡ S.bridges vid
bridges-event vid S (FrameAt port original b) other = refl
bridges-event vid S (Packet original b) other = refl
bridges-event vid S (Asks c) other = bridges-chosen S c vid (is_none (refused S c)) other

-- ---- one event: the table of a segment

table-frame : (t : ℕ) (B : Bridges) (vid : ℕ) (r : Result Arrival Refused) → (after_came t B r).tables vid ≡ cond (comes_to vid r) (entries_after_frame (segment_at B.settings vid) t r (B.tables vid)) (B.tables vid)
table-frame t B vid (Ok x) = refl
table-frame t B vid (Err refused) = refl

table-changed : (t : ℕ) (c : Change) (vid : ℕ) (m : Table) (o : Option SegmentSettings) → table_changed t c o vid m ≡ cond (is_about vid c) (entries_after_change o t c m) m
table-changed t c vid m None = refl
table-changed t c vid m (Some s) = refl

table-chosen : (t : ℕ) (c : Change) (B : Bridges) (vid : ℕ) (b : Bool) → (cond b (accepted_state t c B) B).tables vid ≡ cond (b && is_about vid c) (entries_after_change (segment_at B.settings vid) t c (B.tables vid)) (B.tables vid)
table-chosen t c B vid true = table-changed t c vid (B.tables vid) (segment_at B.settings vid)
table-chosen t c B vid false = refl

table-event : (t : ℕ) (B : Bridges) (vid : ℕ) (i : Input) → (bridges_after t B i).tables vid ≡ cond (is_own vid B.settings i) (entries_after B.settings (segment_at B.settings vid) t i (B.tables vid)) (B.tables vid)
table-event t B vid (FrameAt port original b) = table-frame t B vid (came_at B.settings.ports B.settings.overlay port original b)
table-event t B vid (Packet original b) = table-frame t B vid (came_by B.settings.overlay original b)
table-event t B vid (Asks c) = table-chosen t c B vid (is_none (refused B.settings c))

-- ---- each table of the machine has what is live of a table that is put through the events of its segment

pub Follows : State → (ℕ → Table) → Type 0
Follows s entries = (vid : ℕ) → s.bridges.tables vid ≡ live_in (s.bridges.settings.bridges vid) s.moment (entries vid)

-- the table of a bridge after one more event
abbrev pub entries_on : Settings → Event → (ℕ → Table) → ℕ → Table
entries_on S e entries vid = cond (is_own vid S e.input) (entries_with vid S e (entries vid)) (entries vid)

Follows-after : (s : State) (entries : ℕ → Table) (e : Event) → s.moment ≤ e.at → Follows s entries → Follows (after s e) (entries_on s.bridges.settings e entries)
unfolding Follows
Follows-after s entries e later follows vid =
    ap (live_in (new.bridges vid) e.at) (table-event e.at (aged e.at s.bridges) vid e.input ∙ ap (λ (m : Table). cond own (entries_after S (segment_at S vid) e.at e.input m) m) live)
    ∙ by own refl
  where
    S : Settings
    S = s.bridges.settings

    new : Settings
    new = (bridges_after e.at (aged e.at s.bridges) e.input).settings

    own : Bool
    own = is_own vid S e.input

    live : live_in (S.bridges vid) e.at (s.bridges.tables vid) ≡ live_in (S.bridges vid) e.at (entries vid)
    live = ap (live_in (S.bridges vid) e.at) (follows vid) ∙ live_in-live_in (S.bridges vid) s.moment e.at (entries vid) later

    by : (b : Bool) → own ≡ b → live_in (new.bridges vid) e.at (cond b (entries_with vid S e (entries vid)) (live_in (S.bridges vid) e.at (entries vid))) ≡ live_in (new.bridges vid) e.at (cond b (entries_with vid S e (entries vid)) (entries vid))
    by true is = refl
    by false is =
        let same : new.bridges vid ≡ S.bridges vid = ap (λ (x : Settings). x.bridges vid) (settings-event e.at (aged e.at s.bridges) e.input) ∙ bridges-event vid S e.input is in
        ap (λ (o : Option BridgeSettings). live_in o e.at (live_in (S.bridges vid) e.at (entries vid))) same
        ∙ live_in-live_in (S.bridges vid) e.at e.at (entries vid) (le_refl e.at)
        ∙ ap (λ (o : Option BridgeSettings). live_in o e.at (entries vid)) (sym same)

-- ---- many events

-- the table of each segment after events
abbrev pub entries_run : Settings → (ℕ → Table) → List Event → ℕ → Table
entries_run S entries [] = entries
entries_run S entries (e ∷ es) = entries_run (settings_after_input S e.input) (entries_on S e entries) es

-- the bridges that these make, at moment t
abbrev pub bridges_run : ℕ → Settings → (ℕ → Table) → List Event → Bridges
bridges_run t S entries es = record { settings = settings_after S es; tables = λ vid. live_in ((settings_after S es).bridges vid) t (entries_run S entries es vid) }

-- aged to a later moment, the bridges of the machine are these
aged-follows : (s : State) (entries : ℕ → Table) (t : ℕ) → s.moment ≤ t → Follows s entries → aged t s.bridges ≡ bridges_run t s.bridges.settings entries []
unfolding Follows
aged-follows s entries t later follows =
    ap (λ (tables : ℕ → Table). let B : Bridges = record { settings = s.bridges.settings; tables = tables } in B)
    (fun_ext (λ vid. ap (live_in (s.bridges.settings.bridges vid) t) (follows vid) ∙ live_in-live_in (s.bridges.settings.bridges vid) s.moment t (entries vid) later))

answer-follows : (s : State) (entries : ℕ → Table) (es : List Event) (e : Event) → Follows s entries → IsRising s.moment (es ++ e ∷ []) →
    answer (state_after s es) e ≡ answer_by e.at (bridges_run e.at s.bridges.settings entries es) e.input
answer-follows s entries [] e follows rising = ap (λ (B : Bridges). answer_by e.at B e.input) (aged-follows s entries e.at rising.0 follows)
answer-follows s entries (x ∷ es) e follows rising =
    answer-follows (after s x) (entries_on s.bridges.settings x entries) es e (Follows-after s entries x rising.0 follows) rising.1
    ∙ ap (λ (S : Settings). answer_by e.at (bridges_run e.at S (entries_on s.bridges.settings x entries) es) e.input) (settings-event x.at (aged x.at s.bridges) x.input)

-- the events of one segment alone make its table
entries_through-is : (vid : ℕ) (S : Settings) (entries : ℕ → Table) (es : List Event) → entries_through vid (entries vid) (events_of vid S es) ≡ entries_run S entries es vid
entries_through-is vid S entries [] = refl
entries_through-is vid S entries (e ∷ es) =
    own (entries_through-is vid (settings_after_input S e.input) (entries_on S e entries) es) (is_own vid S e.input) refl
  where
    own : entries_through vid (entries_on S e entries vid) (events_of vid (settings_after_input S e.input) es) ≡ entries_run (settings_after_input S e.input) (entries_on S e entries) es vid → (b : Bool) → is_own vid S e.input ≡ b → entries_through vid (entries vid) (cond b ((S, e) ∷ events_of vid (settings_after_input S e.input) es) (events_of vid (settings_after_input S e.input) es)) ≡ entries_run (settings_after_input S e.input) (entries_on S e entries) es vid
    own rest true is = ap (λ (b : Bool). entries_through vid (cond b (entries_with vid S e (entries vid)) (entries vid)) (events_of vid (settings_after_input S e.input) es)) (sym is) ∙ rest
    own rest false is = ap (λ (b : Bool). entries_through vid (cond b (entries_with vid S e (entries vid)) (entries vid)) (events_of vid (settings_after_input S e.input) es)) (sym is) ∙ rest

bridges_run-at : (t : ℕ) (S : Settings) (es : List Event) → bridges_run t S (λ _. empty) es ≡ bridges_at t S es
bridges_run-at t S es =
    ap (λ (entries : ℕ → Table). let B : Bridges = record { settings = settings_after S es; tables = λ vid. live_in ((settings_after S es).bridges vid) t (entries vid) } in B)
    (fun_ext (λ vid. sym (entries_through-is vid S (λ _. empty) es)))

opened-follows : (S : Settings) → Follows (opened S) (λ _. empty)
unfolding Follows
opened-follows S vid = sym (live_in-empty (S.bridges vid) 0)

-- after any events, the machine answers the next one by the bridges
pub answer-decision : (S : Settings) (es : List Event) (e : Event) → IsRising 0 (es ++ e ∷ []) → answer (state_after (opened S) es) e ≡ decision S es e
answer-decision S es e rising =
    answer-follows (opened S) (λ _. empty) es e (opened-follows S) rising
    ∙ ap (λ (B : Bridges). answer_by e.at B e.input) (bridges_run-at e.at S es)

state_after-push : (s : State) (es : List Event) (e : Event) → state_after s (es ++ e ∷ []) ≡ after (state_after s es) e
state_after-push s [] e = refl
state_after-push s (x ∷ es) e = state_after-push (after s x) es e

IsRising-front : (t : ℕ) (es : List Event) (e : Event) (rest : List Event) → IsRising t (es ++ e ∷ rest) → IsRising t (es ++ e ∷ [])
IsRising-front t [] e rest h = (h.0, tt)
IsRising-front t (x ∷ es) e rest h = (h.0, IsRising-front x.at es e rest h.1)

pub answers-decisions : (S : Settings) (before es : List Event) → IsRising 0 (before ++ es) → answers (state_after (opened S) before) es ≡ decisions S before es
answers-decisions S before [] rising = refl
answers-decisions S before (e ∷ es) rising =
    let first : answer (state_after (opened S) before) e ≡ decision S before e = answer-decision S before e (IsRising-front 0 before e es rising) in
    let rest : answers (after (state_after (opened S) before) e) es ≡ decisions S (before ++ e ∷ []) es =
    ap (λ (x : State). answers x es) (sym (state_after-push (opened S) before e))
    ∙ answers-decisions S (before ++ e ∷ []) es (subst (IsRising 0) (sym (append_assoc before (e ∷ []) es)) rising) in
    λ i. first i ∷ rest i

-- ---- the moment and the bridges

pub moment-run : (s : State) (es : List Event) → (state_after s es).moment ≡ last_moment s.moment es
moment-run s [] = refl
moment-run s (e ∷ es) = moment-run (after s e) es

-- the machine's tables have nothing that is dead at its moment
tables-run : (s : State) (entries : ℕ → Table) (es : List Event) → Follows s entries → IsRising s.moment es → (state_after s es).bridges ≡ bridges_run (last_moment s.moment es) s.bridges.settings entries es
unfolding Follows
tables-run s entries [] follows rising = ap (λ (tables : ℕ → Table). let B : Bridges = record { settings = s.bridges.settings; tables = tables } in B) (fun_ext follows)
tables-run s entries (e ∷ es) follows rising =
    tables-run (after s e) (entries_on s.bridges.settings e entries) es (Follows-after s entries e rising.0 follows) rising.1
    ∙ ap (λ (S : Settings). bridges_run (last_moment e.at es) S (entries_on s.bridges.settings e entries) es) (settings-event e.at (aged e.at s.bridges) e.input)

pub bridges-run : (S : Settings) (es : List Event) → IsRising 0 es → (state_after (opened S) es).bridges ≡ bridges_at (last_moment 0 es) S es
bridges-run S es rising = tables-run (opened S) (λ _. empty) es (opened-follows S) rising ∙ bridges_run-at (last_moment 0 es) S es
