-- Laws of the state and of changes. It states no standard.
use Rattle.std.specs.Prelude.{◌≡◌, ℕ, ◌≤◌, IsSome}
use Rattle.overlay.specs.declared.settings.change.Change.{Change}
use Rattle.endpoint_core.specs.Change.{changed}
use Rattle.endpoint_core.specs.Held.{Held, state_at}
use Rattle.endpoint_core.specs.State.{State, aged, fault, after_change}

-- what is held is at a later moment what is left of it then
abbrev pub AgesOnTheWay : Type 0
AgesOnTheWay = (held : Held) (t u : ℕ) → t ≤ u → state_at u held ≡ aged u (state_at t held)

-- a change that is refused, by the settings or by a table, changes nothing
abbrev pub RefusedChangesNothing : Type 0
RefusedChangesNothing = (t : ℕ) (c : Change) (S : State) → IsSome (fault S c) → after_change t c S ≡ S

-- what a change makes of the settings doesn't depend on the tables
abbrev pub SettingsAlone : Type 0
SettingsAlone = (t : ℕ) (c : Change) (S : State) → (after_change t c S).settings ≡ changed S.settings c
