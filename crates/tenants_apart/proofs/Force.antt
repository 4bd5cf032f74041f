-- What concerns a segment is told by the settings in force.
use Rattle.std.proofs.Common.{◌≡◌, ◌∙◌, refl, ap, ℕ, Bool, true, false, ◌||◌, ◌&&◌, List, [], ◌∷◌}
use Rattle.overlay.specs.declared.settings.change.Change.{Change}
use Rattle.endpoint_core.specs.Change.{is_about}
use Rattle.endpoint_core.specs.Effect.{Effect, ToFlood, ToBridge, ToLimit, ToMembers, ToPort, Comes, Goes, ToNothing, effect}
use Rattle.endpoint_core.specs.Settings.{Settings}
use Rattle.endpoint_core.specs.State.{aged}
use Rattle.endpoint_core.specs.Arrival.{came_at, came_by}
use Rattle.endpoint_core.specs.Event.{FrameAt, Packet, Asks, Event, frame_at, packet_at, change_at}
use Rattle.endpoint_core.specs.Run.{settings_after}
use Rattle.endpoint_core.specs.Step.{State, opened, after, state_after}
use Rattle.noninterference.specs.Alone.{is_segment, all_see, concerns}
use Rattle.noninterference.proofs.Stepping.{decided-segment}
use Rattle.tenants_apart.specs.Own.{Needs, is_needed, segment_met, names_or_concerns}
use Rattle.tenants_apart.proofs.Running.{settings-after}

-- the settings in force after events
pub in-force : (s : State) (es : List Event) → (state_after s es).bridges.settings ≡ settings_after s.bridges.settings es
in-force s [] = refl
in-force s (e ∷ es) = in-force (after s e) es ∙ ap (λ (S : Settings). settings_after S es) (settings-after s e)

pub frame-in_force : (vid : ℕ) (needs : Needs) (S : Settings) (es : List Event) (t port original : ℕ) (b : List ℕ) → concerns vid (state_after (opened S) es) (frame_at t port original b) ≡ names_or_concerns vid needs (settings_after S es) (FrameAt port original b)
frame-in_force vid needs S es t port original b =
    let s : State = state_after (opened S) es in
    ap (is_segment vid) (decided-segment t (aged t s.bridges) (came_at s.bridges.settings.ports s.bridges.settings.overlay port original b))
    ∙ ap (λ (T : Settings). is_segment vid (segment_met (came_at T.ports T.overlay port original b))) (in-force (opened S) es)

pub packet-in_force : (vid : ℕ) (needs : Needs) (S : Settings) (es : List Event) (t original : ℕ) (b : List ℕ) → concerns vid (state_after (opened S) es) (packet_at t original b) ≡ names_or_concerns vid needs (settings_after S es) (Packet original b)
packet-in_force vid needs S es t original b =
    let s : State = state_after (opened S) es in
    ap (is_segment vid) (decided-segment t (aged t s.bridges) (came_by s.bridges.settings.overlay original b))
    ∙ ap (λ (T : Settings). is_segment vid (segment_met (came_by T.overlay original b))) (in-force (opened S) es)

-- and a change of a port that the segment doesn't need is one that all see
seen-too : (a : Bool) (needs : Needs) (e : Effect) → a || all_see e ≡ (a && is_needed needs e) || all_see e
seen-too true needs (ToPort port up) = by (needs.ports port)
  where
    by : (b : Bool) → true ≡ b || true
    by true = refl
    by false = refl
seen-too true needs (ToFlood v change) = refl
seen-too true needs (ToBridge v change) = refl
seen-too true needs (ToLimit v limit) = refl
seen-too true needs (ToMembers v port egress) = refl
seen-too true needs (Comes new) = refl
seen-too true needs (Goes v) = refl
seen-too true needs ToNothing = refl
seen-too false needs e = refl

pub change-in_force : (vid : ℕ) (needs : Needs) (S : Settings) (es : List Event) (t : ℕ) (c : Change) → concerns vid (state_after (opened S) es) (change_at t c) ≡ (names_or_concerns vid needs (settings_after S es) (Asks c) || all_see (effect c))
change-in_force vid needs S es t c = seen-too (is_about vid c) needs (effect c)
