-- The state of an endpoint's bridges: the settings in force, and the tables. It states no standard.
--     state_of      what an endpoint holds, as it is at a moment
--     aged      the state at a later moment
--     fault      why a change is refused
--     after_change      the state after a change
use Rattle.std.specs.Prelude.{ℕ, Bool, List, is_none, if◌then◌else◌, Option, Some, None}
use Rattle.std.specs.Option.{option_map, option_and_then}
use Rattle.std.specs.FinMap.{empty}
use Rattle.filter_db.specs.Table.{Table, nanoseconds, live}
use Rattle.filter_db.specs.Segment.{Segment, Segments, aged_all, segment_at as table_of}
use Rattle.overlay.specs.Ports.{Ports}
use Rattle.overlay.specs.Overlay.{Overlay}
use Rattle.overlay.specs.declared.settings.change.Change.{Change}
use Rattle.endpoint_core.specs.declared.state.fault.ChangeFault.{ChangeFault}
use Rattle.endpoint_core.specs.declared.state.parts.Parts.{Parts}
use Rattle.endpoint_core.specs.Learning.{learns}
use Rattle.endpoint_core.specs.Settings.{Settings, BridgeSettings, SegmentSettings, segment_at}
use Rattle.endpoint_core.specs.Change.{named, is_about, refused, accepted, table_fault, entries_changed}

-- what the bridges of an endpoint go by at a moment
pub record State : Type 0 where
  -- those in force
  pub settings : Settings
  -- for each VID what is live of the table of its segment; nothing where it has none
  pub tables : ℕ → Table

-- ---- what an endpoint holds

-- a segment's own settings
abbrev pub bridge_of : Bool → Segment → BridgeSettings
bridge_of learning s = record { limit = s.limit; ageing = s.ageing; learning = learning }

-- limits and ageings stand with the tables
abbrev pub bridges_of : List Bool → Segments → ℕ → Option BridgeSettings
bridges_of learning segments = λ vid. option_map (bridge_of (learns learning vid)) (segments vid)

-- what is live at moment t
abbrev pub tables_at : ℕ → Segments → ℕ → Table
tables_at t segments = λ vid. (table_of vid (aged_all t segments)).entries

-- the settings that parts have
abbrev pub settings_by : Ports → Overlay → List Bool → ℕ → Segments → Settings
settings_by ports overlay learning pool segments =
    record { ports = ports; overlay = overlay; bridges = bridges_of learning segments; pool = pool }

-- the settings in force
abbrev pub settings_of : {T : Type 0} → (T → Segments) → (T → ℕ) → Parts T → Settings
settings_of segments pool parts = settings_by parts.ports parts.under parts.learning (pool parts.tables) (segments parts.tables)

-- the state at moment t
abbrev pub state_of : {T : Type 0} → (T → Segments) → (T → ℕ) → ℕ → Parts T → State
state_of segments pool t parts = record { settings = settings_of segments pool parts; tables = tables_at t (segments parts.tables) }

-- ---- ageing

-- what is live of the table of a segment at moment t; a segment that doesn't stand has no entries
abbrev pub live_in : Option BridgeSettings → ℕ → Table → Table
live_in None t m = empty
live_in (Some bridge) t m = live (nanoseconds bridge.ageing) t m

-- what is left of the state at moment t
abbrev pub aged : ℕ → State → State
aged t S = record S { tables = λ vid. live_in (S.settings.bridges vid) t (S.tables vid) }

-- ---- a change

-- why a change is refused: by the settings, or else by the table of the segment that it names
abbrev pub fault : State → Change → Option ChangeFault
fault S c = elim (refused S.settings c) [
  | Some why ↦ Some why
  | None ↦ option_and_then (λ vid. option_and_then (λ s. table_fault s c (S.tables vid)) (segment_at S.settings vid)) (named c)
]

-- the table of a segment after a change that the settings don't refuse; one that comes begins without entries
abbrev pub table_changed : ℕ → Change → Option SegmentSettings → ℕ → Table → Table
table_changed t c None vid m = if is_about vid c then empty else m
table_changed t c (Some s) vid m = if is_about vid c then entries_changed t s c m else m

-- the state after a change that the settings don't refuse
abbrev pub accepted_state : ℕ → Change → State → State
accepted_state t c S =
    record { settings = accepted S.settings c; tables = λ vid. table_changed t c (segment_at S.settings vid) vid (S.tables vid) }

-- the state after a change at its moment; one that the settings refuse changes nothing, and one that the table refuses
-- leaves the table as it is
abbrev pub after_change : ℕ → Change → State → State
after_change t c S = if is_none (refused S.settings c) then accepted_state t c S else S
