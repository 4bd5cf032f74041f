-- What a change of tables leaves of the state.
use Rattle.std.proofs.Common.{◌≡◌, ℕ, ◌==◌, Bool, true, false, cond, List, Option, Some, None, refl, sym, ap, ◌∙◌, subst}
use Rattle.std.specs.Prelude.{is_none}
use Rattle.std.specs.Option.{option_map, option_map_or, unwrap_or}
use Rattle.std.specs.FinMap.{empty}
use Rattle.std.proofs.Math.Path.{fun_ext}
use Rattle.std.proofs.lemmas.Bool.{eqb-true, eq-eqb}
use Rattle.filter_db.specs.Table.{Table}
use Rattle.filter_db.specs.Segment.{Segment, Segments, no_segment, aged, aged_all, adjusted, set_ageing_in}
use Rattle.overlay.specs.declared.settings.change.Change.{Change}
use Rattle.overlay.specs.declared.settings.change.Change.TheVariants.{SetAgeing}
use Rattle.endpoint_core.specs.declared.state.fault.ChangeFault.{ChangeFault}
use Rattle.endpoint_core.specs.Learning.{learns}
use Rattle.endpoint_core.specs.Settings.{Settings, BridgeSettings, SegmentSettings, segment_at}
use Rattle.endpoint_core.specs.Change.{named, is_about, refused, accepted, entries_changed}
use Rattle.overlay.specs.Ports.{Ports}
use Rattle.overlay.specs.Overlay.{Overlay}
use Rattle.endpoint_core.specs.Settings.{joined}
use Rattle.endpoint_core.specs.State.{State, bridge_of, bridges_of, settings_by, tables_at, table_changed, accepted_state, after_change}
use Rattle.endpoint_core.proofs.StandsLemmas.{Stands}

-- ---- the settings of bridges

rule_of : (b : Bool) (learning : Bool) (f : Segment → Segment) (t : ℕ) (o : Option Segment) → ((s : Segment) → bridge_of learning (f s) ≡ bridge_of learning s) → option_map (bridge_of learning) (cond b (option_map f (option_map (aged t) o)) (option_map (aged t) o)) ≡ option_map (bridge_of learning) o
rule_of true learning f t None keeps = refl
rule_of true learning f t (Some s) keeps = ap Some (keeps (aged t s))
rule_of false learning f t None keeps = refl
rule_of false learning f t (Some s) keeps = refl

-- a change of entries leaves limits and ageings
pub bridges-adjusted : (learning : List Bool) (t vid : ℕ) (f : Segment → Segment) (segments new : Segments) → ((b : Bool) (s : Segment) → bridge_of b (f s) ≡ bridge_of b s) → new ≡ adjusted vid f (aged_all t segments) → bridges_of learning new ≡ bridges_of learning segments
bridges-adjusted learning t vid f segments new keeps is =
    ap (bridges_of learning) is ∙ fun_ext (λ w. rule_of (w == vid) (learns learning w) f t (segments w) (keeps (learns learning w)))

ageing_of : (b : Bool) (learning : Bool) (t seconds : ℕ) (o : Option Segment) → option_map (bridge_of learning) (cond b (option_map (set_ageing_in t seconds) (option_map (aged t) o)) (option_map (aged t) o)) ≡ cond b (option_map (λ (r : BridgeSettings). let new : BridgeSettings = record r { ageing = seconds } in new) (option_map (bridge_of learning) o)) (option_map (bridge_of learning) o)
ageing_of true learning t seconds None = refl
ageing_of true learning t seconds (Some s) = refl
ageing_of false learning t seconds None = refl
ageing_of false learning t seconds (Some s) = refl

-- a change of the ageing
pub settings-ageing : (ports : Ports) (overlay : Overlay) (learning : List Bool) (pool t vid seconds : ℕ) (segments new : Segments) → new ≡ adjusted vid (set_ageing_in t seconds) (aged_all t segments) → settings_by ports overlay learning pool new ≡ accepted (settings_by ports overlay learning pool segments) (SetAgeing vid seconds)
settings-ageing ports overlay learning pool t vid seconds segments new is =
    ap (λ (b : ℕ → Option BridgeSettings). let s : Settings = record { ports = ports; overlay = overlay; bridges = b; pool = pool } in s)
    (ap (bridges_of learning) is ∙ fun_ext (λ w. ageing_of (w == vid) (learns learning w) t seconds (segments w)))

-- ---- the tables

abbrev entries_in : Option Segment → Table
entries_in o = (unwrap_or o no_segment).entries

about-named : (vid w : ℕ) (c : Change) → named c ≡ Some vid → is_about w c ≡ (w == vid)
about-named vid w c names = ap (λ (o : Option ℕ). option_map_or (λ own. w == own) o true) names

-- a segment that a change isn't about
unchanged : (t : ℕ) (c : Change) (o : Option SegmentSettings) (w : ℕ) (m : Table) → is_about w c ≡ false → table_changed t c o w m ≡ m
unchanged t c None w m other = ap (λ (b : Bool). cond b empty m) other
unchanged t c (Some s) w m other = ap (λ (b : Bool). cond b (entries_changed t s c m) m) other

-- one that it is about
pub changed-own : (t : ℕ) (c : Change) (own : SegmentSettings) (o : Option SegmentSettings) (w : ℕ) (m : Table) → o ≡ Some own → is_about w c ≡ true → table_changed t c o w m ≡ entries_changed t own c m
changed-own t c own o w m is about =
    ap (λ (x : Option SegmentSettings). table_changed t c x w m) is ∙ ap (λ (b : Bool). cond b (entries_changed t own c m) m) about

-- a change of the table of the segment that is named
pub tables-named : (t vid : ℕ) (c : Change) (f : Segment → Segment) (S : Settings) (own : SegmentSettings) (s : Segment) (segments new : Segments) → named c ≡ Some vid → segment_at S vid ≡ Some own → segments vid ≡ Some s → new ≡ adjusted vid f (aged_all t segments) → aged_all t new ≡ new → (f (aged t s)).entries ≡ entries_changed t own c (aged t s).entries → tables_at t new ≡ (λ w. table_changed t c (segment_at S w) w (tables_at t segments w))
tables-named t vid c f S own s segments new names stands table is settled gives = fun_ext (λ w. ap (λ (n : Segments). entries_in (n w)) (settled ∙ is) ∙ at w)
  where
    here : entries_in (option_map f (aged_all t segments vid)) ≡ table_changed t c (segment_at S vid) vid (entries_in (aged_all t segments vid))
    here =
        ap (λ (o : Option Segment). entries_in (option_map f (option_map (aged t) o))) table ∙ gives
        ∙ ap (λ (o : Option Segment). entries_changed t own c (entries_in (option_map (aged t) o))) (sym table)
        ∙ sym (changed-own t c own (segment_at S vid) vid (entries_in (aged_all t segments vid)) stands (about-named vid vid c names ∙ itself))
      where
        itself : (vid == vid) ≡ true
        itself = eq-eqb vid vid refl

    at : (w : ℕ) → entries_in (adjusted vid f (aged_all t segments) w) ≡ table_changed t c (segment_at S w) w (entries_in (aged_all t segments w))
    at w = elim (w == vid) as (λ b. (w == vid) ≡ b → entries_in (cond b (option_map f (aged_all t segments w)) (aged_all t segments w)) ≡ table_changed t c (segment_at S w) w (entries_in (aged_all t segments w))) [
      | true ↦ λ same. subst (λ (v : ℕ). entries_in (option_map f (aged_all t segments v)) ≡ table_changed t c (segment_at S v) v (entries_in (aged_all t segments v))) (sym (eqb-true w vid same)) here
      | false ↦ λ other. sym (unchanged t c (segment_at S w) w (entries_in (aged_all t segments w)) (about-named vid w c names ∙ other))
    ] refl

-- the same, for any change of the entries
pub tables-adjusted : (t vid : ℕ) (f : Segment → Segment) (h : ℕ → Table → Table) (s : Segment) (segments new : Segments) → segments vid ≡ Some s → new ≡ adjusted vid f (aged_all t segments) → aged_all t new ≡ new → (f (aged t s)).entries ≡ h vid (aged t s).entries → tables_at t new ≡ (λ w. cond (w == vid) (h w (tables_at t segments w)) (tables_at t segments w))
tables-adjusted t vid f h s segments new table is settled gives = fun_ext (λ w. ap (λ (n : Segments). entries_in (n w)) (settled ∙ is) ∙ by w (w == vid) refl)
  where
    here : entries_in (option_map f (aged_all t segments vid)) ≡ h vid (entries_in (aged_all t segments vid))
    here = ap (λ (o : Option Segment). entries_in (option_map f (option_map (aged t) o))) table ∙ gives ∙ ap (λ (o : Option Segment). h vid (entries_in (option_map (aged t) o))) (sym table)

    by : (w : ℕ) (b : Bool) → (w == vid) ≡ b → entries_in (cond b (option_map f (aged_all t segments w)) (aged_all t segments w)) ≡ cond b (h w (entries_in (aged_all t segments w))) (entries_in (aged_all t segments w))
    by w true own = subst (λ (v : ℕ). entries_in (option_map f (aged_all t segments v)) ≡ h v (entries_in (aged_all t segments v))) (sym (eqb-true w vid own)) here
    by w false other = refl

-- ---- the state

-- the same parts
pub state-same : (t : ℕ) (ports ports' : Ports) (overlay overlay' : Overlay) (learning : List Bool) (pool pool' : ℕ) (segments segments' : Segments) → ports' ≡ ports → overlay' ≡ overlay → pool' ≡ pool → segments' ≡ segments → ◌≡◌ {A = State} (record { settings = settings_by ports' overlay' learning pool' segments'; tables = tables_at t segments' }) (record { settings = settings_by ports overlay learning pool segments; tables = tables_at t segments })
state-same t ports ports' overlay overlay' learning pool pool' segments segments' is_ports is_under is_pool is_tables =
    ap (λ (P : Ports). let s : State = record { settings = settings_by P overlay' learning pool' segments'; tables = tables_at t segments' } in s) is_ports
    ∙ ap (λ (O : Overlay). let s : State = record { settings = settings_by ports O learning pool' segments'; tables = tables_at t segments' } in s) is_under
    ∙ ap (λ (n : ℕ). let s : State = record { settings = settings_by ports overlay learning n segments'; tables = tables_at t segments' } in s) is_pool
    ∙ ap (λ (g : Segments). let s : State = record { settings = settings_by ports overlay learning pool g; tables = tables_at t g } in s) is_tables

-- tables in which nothing is dead at their own moment, which is t
pub settled-at : (t own : ℕ) (new : Segments) → own ≡ t → aged_all own new ≡ new → aged_all t new ≡ new
settled-at t own new is settled = ap (λ (n : ℕ). aged_all n new) (sym is) ∙ settled

-- the state after a change that the settings don't refuse
pub after-accepted : (t : ℕ) (c : Change) (S : State) (settings : Settings) (tables : ℕ → Table) → refused S.settings c ≡ None → settings ≡ accepted S.settings c → tables ≡ (accepted_state t c S).tables → ◌≡◌ {A = State} (record { settings = settings; tables = tables }) (after_change t c S)
after-accepted t c S settings tables none is_settings is_tables =
    ap (λ (x : Settings). let s : State = record { settings = x; tables = tables } in s) is_settings
    ∙ ap (λ (x : ℕ → Table). let s : State = record { settings = accepted S.settings c; tables = x } in s) is_tables
    ∙ sym (ap (λ (o : Option ChangeFault). cond (is_none o) (accepted_state t c S) S) none)

-- the same where it changes entries of the segment that it names, and maybe ports or underlay
pub after-entries : (t vid : ℕ) (c : Change) (f : Segment → Segment) (ports ports' : Ports) (overlay overlay' : Overlay) (learning : List Bool) (pool pool' : ℕ) (segments new : Segments) (it : Stands ports overlay learning segments vid) → named c ≡ Some vid → None ≡ refused (settings_by ports overlay learning pool segments) c → new ≡ adjusted vid f (aged_all t segments) → aged_all t new ≡ new → pool' ≡ pool → ((b : Bool) (s : Segment) → bridge_of b (f s) ≡ bridge_of b s) → settings_by ports' overlay' learning pool segments ≡ accepted (settings_by ports overlay learning pool segments) c → (f (aged t it.table)).entries ≡ entries_changed t (joined (bridge_of (learns learning vid) it.table) it.tunneled it.members) c (aged t it.table).entries → ◌≡◌ {A = State} (record { settings = settings_by ports' overlay' learning pool' new; tables = tables_at t new }) (after_change t c (record { settings = settings_by ports overlay learning pool segments; tables = tables_at t segments }))
after-entries t vid c f ports ports' overlay overlay' learning pool pool' segments new it names none is settled stays keeps settings gives =
    let S = settings_by ports overlay learning pool segments in
    let own = joined (bridge_of (learns learning vid) it.table) it.tunneled it.members in
    after-accepted t c (record { settings = S; tables = tables_at t segments }) (settings_by ports' overlay' learning pool' new) (tables_at t new) (sym none)
    (ap (λ (n : ℕ). settings_by ports' overlay' learning n new) stays
    ∙ ap (λ (b : ℕ → Option BridgeSettings). let s : Settings = record { ports = ports'; overlay = overlay'; bridges = b; pool = pool } in s) (bridges-adjusted learning t vid f segments new keeps is) ∙ settings)
    (tables-named t vid c f S own it.table segments new names it.settings it.has_table is settled gives)

-- the same where it changes nothing else
pub after-own : (t vid : ℕ) (c : Change) (f : Segment → Segment) (ports : Ports) (overlay : Overlay) (learning : List Bool) (pool pool' own : ℕ) (segments new : Segments) (it : Stands ports overlay learning segments vid) → named c ≡ Some vid → None ≡ refused (settings_by ports overlay learning pool segments) c → new ≡ adjusted vid f (aged_all t segments) → own ≡ t → aged_all own new ≡ new → pool' ≡ pool → ((b : Bool) (s : Segment) → bridge_of b (f s) ≡ bridge_of b s) → settings_by ports overlay learning pool segments ≡ accepted (settings_by ports overlay learning pool segments) c → (f (aged t it.table)).entries ≡ entries_changed t (joined (bridge_of (learns learning vid) it.table) it.tunneled it.members) c (aged t it.table).entries → ◌≡◌ {A = State} (record { settings = settings_by ports overlay learning pool' new; tables = tables_at t new }) (after_change t c (record { settings = settings_by ports overlay learning pool segments; tables = tables_at t segments }))
after-own t vid c f ports overlay learning pool pool' own segments new it names none is moment settled stays keeps settings gives = after-entries t vid c f ports ports overlay overlay learning pool pool' segments new it names none is (settled-at t own new moment settled) stays keeps settings gives
