-- Changes that the settings alone refuse. It states no standard.
--     settings_behind      the settings behind some changes
--     refusals      the changes that are refused, each by the settings behind those before it
use Rattle.std.specs.Prelude.{◌≡◌, ℕ, ◌+◌, ◌==◌, Bool, true, false, if◌then◌else◌, List, ◌++◌, codes}
use Rattle.std.specs.Prelude.{decimal, fold, filter, length, slice_get, take, Option, Some, None}
use Rattle.std.specs.List.{filter_map, range_with_len}
use Rattle.std.specs.Option.{option_and_then, option_map, option_to_list}
use Rattle.overlay.specs.declared.settings.change.Change.{Change}
use Rattle.overlay.specs.declared.settings.change.Change.TheVariants.{Unfix}
use Rattle.overlay.specs.declared.settings.change.TimedChange.{TimedChange}
use Rattle.endpoint_core.specs.Change.{changed, refused}
use Rattle.endpoint_core.specs.Fault.{name_of, number_of}
use Rattle.endpoint_core.specs.Settings.{Settings}
use Rattle.endpoint_core.specs.State.{State, fault}
use Rattle.endpoint_core.specs.declared.state.fault.ChangeFault.{ChangeFault}
use Rattle.endpoint_core.specs.declared.state.fault.ChangeFault.TheVariants as faults
use Rattle.check_on_files.specs.declared.foreseen.foreseen.Foreseen.{Foreseen}

-- the settings behind some changes; those that are refused change nothing
abbrev pub settings_behind : Settings → List TimedChange → Settings
settings_behind S changes = fold (λ S c. changed S c.change) S changes

-- the change of an index, where the settings refuse it behind those before it
abbrev pub refusal_at : Settings → List TimedChange → ℕ → Option Foreseen
refusal_at S changes k =
    option_and_then (λ c. option_map (λ why. record { number = k + 1; at = c.at; fault = why })
    (refused (settings_behind S (take k changes)) c.change)) (slice_get changes k)

-- all that are refused, in their order
abbrev pub refusals : Settings → List TimedChange → List Foreseen
refusals S changes = filter_map (refusal_at S changes) (range_with_len 0 (length changes))

-- its line, of which what stands behind the colon is what a decision line says
abbrev pub foreseen_text : Foreseen → List ℕ
foreseen_text f =
    codes "change " ++ decimal f.number ++ codes " at " ++ decimal f.at
    ++ codes ": refused " ++ decimal (number_of f.fault) ++ codes " " ++ name_of f.fault

-- a law: what is told of the change of a number is that it is refused, where it is, and nothing else
abbrev pub TellsEachRefusal : Type 0
TellsEachRefusal = (S : Settings) (changes : List TimedChange) (k : ℕ)
    → filter (λ f. f.number == k + 1) (refusals S changes) ≡ option_to_list (refusal_at S changes k)

-- ---- what a table refuses

-- a change that takes a fixed entry away
abbrev pub is_unfix : Change → Bool
is_unfix (Unfix vid mac) = true
is_unfix _ = false

-- the fault of a change, unless it is that of a table: no room for a fixed entry, or none to take away
abbrev pub by_settings : Change → ChangeFault → Option ChangeFault
by_settings c faults.NotThere = if is_unfix c then None else Some faults.NotThere
by_settings c faults.TableFull = None
by_settings c why = Some why

-- a law: whatever the tables hold, a fault that isn't theirs is the one by which the settings refuse the change
abbrev pub TellsNothingOfTables : Type 0
TellsNothingOfTables = (S : State) (c : Change) → option_and_then (by_settings c) (fault S c) ≡ refused S.settings c
