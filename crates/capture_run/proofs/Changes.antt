-- The changes of a run, by their indices; and that no event adds or removes a port.
use Rattle.std.proofs.Common.{◌≡◌, refl, ℕ, zero, suc, ◌+◌, ◌<◌, arith, Bool, true, false, cond, List, [], ◌∷◌, drop, length, map, slice_index_or, Option, Some, None, Result, Ok, Err}
use Rattle.std.proofs.lemmas.List.{get_or-map, length-set}
use Rattle.overlay.specs.declared.settings.change.Change.{Change}
use Rattle.overlay.specs.declared.settings.change.TimedChange.{TimedChange}
use Rattle.endpoint_core.specs.Settings.{Settings, SegmentSettings, segment_at}
use Rattle.endpoint_core.specs.Effect.{Effect, ToFlood, ToBridge, ToLimit, ToMembers, ToPort, Comes, Goes, ToNothing, effect, applied}
use Rattle.endpoint_core.specs.Change.{refused}
use Rattle.endpoint_core.specs.Event.{Input, Event, FrameAt, Packet, Asks}
use Rattle.endpoint_core.specs.Step.{State, after, after_came, bridges_after}
use Rattle.std.specs.Option.{option_map_or}
use Rattle.std.specs.Prelude.{is_none}
use Rattle.wire.specs.declared.ether.reason.Refused.{Refused}
use Rattle.overlay.specs.Overlay.{Overlay}
use Rattle.endpoint_core.specs.State.{State as Bridges, aged, accepted_state}
use Rattle.endpoint_core.specs.Arrival.{Arrival}
use Rattle.endpoint_core.specs.Arrival.{came_at, came_by}
use Rattle.capture_run.specs.Outputs.{change_at, no_change}

pub change_there : (changes : List TimedChange) (k : ℕ) (d : TimedChange) → k < length changes
    → change_at (map (λ (c : TimedChange). c.change) changes) k ≡ (slice_index_or changes k d).change
change_there changes k d there = get_or-map (λ (c : TimedChange). c.change) changes k d no_change there

flood_ports : (S : Settings) (found : Option SegmentSettings) (f : SegmentSettings → Overlay) → length (option_map_or (λ (s : SegmentSettings). record S { overlay = f s }) found S).ports.ports ≡ length S.ports.ports
flood_ports S None f = refl
flood_ports S (Some s) f = refl

applied_ports : (e : Effect) (S : Settings) → length (applied e S).ports.ports ≡ length S.ports.ports
applied_ports (ToFlood vid change) S = flood_ports S (segment_at S vid) _
applied_ports (ToBridge vid change) S = refl
applied_ports (ToLimit vid limit) S = refl
applied_ports (ToMembers vid port egress) S = refl
applied_ports (ToPort port up) S = length-set S.ports.ports _ _
applied_ports (Comes new) S = refl
applied_ports (Goes vid) S = refl
applied_ports ToNothing S = refl

change_ports : (t : ℕ) (c : Change) (B : Bridges) (is : Bool) → length (cond is (accepted_state t c B) B).settings.ports.ports ≡ length B.settings.ports.ports
change_ports t c B true = applied_ports (effect c) B.settings
change_ports t c B false = refl

came_ports : (t : ℕ) (B : Bridges) (came : Result Arrival Refused) → length (after_came t B came).settings.ports.ports ≡ length B.settings.ports.ports
came_ports t B (Ok x) = refl
came_ports t B (Err refused) = refl

-- no event adds or removes a port
pub ports_stay : (s : State) (e : Event) → length (after s e).bridges.settings.ports.ports ≡ length s.bridges.settings.ports.ports
ports_stay s e = go e.input
  where
    go : (input : Input) → length (bridges_after e.at (aged e.at s.bridges) input).settings.ports.ports ≡ length s.bridges.settings.ports.ports
    go (FrameAt port original b) = came_ports e.at (aged e.at s.bridges) (came_at s.bridges.settings.ports s.bridges.settings.overlay port original b)
    go (Packet original b) = came_ports e.at (aged e.at s.bridges) (came_by s.bridges.settings.overlay original b)
    go (Asks c) = change_ports e.at c (aged e.at s.bridges) (is_none (refused s.bridges.settings c))

-- what is left from an index on: the event there, and what is left behind it
pub left_is : {A : Type 0} (xs : List A) (k : ℕ) (d : A) → k < length xs → drop k xs ≡ slice_index_or xs k d ∷ drop (k + 1) xs
left_is [] k d lt = absurd (omega arith)
left_is (x ∷ xs) zero d lt = refl
left_is (x ∷ xs) (suc k) d lt =
    let more : suc k + 1 ≡ suc (k + 1) = omega arith in
    rw more (left_is xs k d (omega arith))
