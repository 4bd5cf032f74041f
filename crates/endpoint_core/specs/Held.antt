-- What an endpoint holds, with its tables in one pool. It states no standard.
use Rattle.std.specs.Prelude.{ℕ, length}
use Rattle.shared_tables.specs.Segments.{segments_of}
use Rattle.shared_tables.specs.Shared.{Shared}
use Rattle.endpoint_core.specs.declared.state.parts.Parts.{Parts}
use Rattle.endpoint_core.specs.Settings.{Settings}
use Rattle.endpoint_core.specs.Sound.{IsSound}
use Rattle.endpoint_core.specs.State as state
use Rattle.endpoint_core.specs.State.{State}

-- what an endpoint holds, over the pool of all tables
abbrev pub Held : Type 0
Held = Parts Shared

-- the most entries that all tables together may be given: one for each slot
abbrev pub pool_of : Shared → ℕ
pool_of tables = length tables.entries

-- the settings in force
abbrev pub settings_of : Held → Settings
settings_of held = state.settings_of segments_of pool_of held

-- the state at moment t
abbrev pub state_at : ℕ → Held → State
state_at t held = state.state_of segments_of pool_of t held

-- the tables' moment: that of their last call but a look-up
abbrev pub moment_of : Held → ℕ
moment_of held = held.tables.moment

-- its parts agree
abbrev pub HeldIsSound : Held → Type 0
HeldIsSound held = IsSound segments_of held
