-- What changes do to the settings in force: the underlay stays.
use Rattle.std.proofs.Common.{◌≡◌, ℕ, Bool, true, false, if◌then◌else◌, List, Option, Some, None, refl}
use Rattle.std.specs.Prelude.{is_none, slice_get}
use Rattle.std.specs.Option.{option_map_or}
use Rattle.endpoint_core.specs.Change.{refused}
use Rattle.endpoint_core.specs.Effect.{Effect, ToFlood, ToBridge, ToLimit, ToMembers, ToPort, Comes, Goes, ToNothing, applied, effect}
use Rattle.endpoint_core.specs.Settings.{SegmentSettings, Settings, segment_at}
use Rattle.overlay.specs.Overlay.{with_flood}
use Rattle.overlay.specs.declared.settings.change.TimedChange.{TimedChange}
use Rattle.stream_run.specs.Sieved.{changed_by, settings_behind}
use Rattle.timeline.specs.declared.event.Happening.TheVariants as happenings

behind_effect : (e : Effect) (S : Settings) → (applied e S).overlay.underlay ≡ S.overlay.underlay
behind_effect (ToFlood vid change) S = listed (segment_at S vid)
  where
    listed : (o : Option SegmentSettings) → (option_map_or (λ s. record S { overlay = with_flood S.overlay vid (change s) }) o S).overlay.underlay ≡ S.overlay.underlay
    listed None = refl
    listed (Some s) = refl
behind_effect (ToBridge vid change) S = refl
behind_effect (ToLimit vid limit) S = refl
behind_effect (ToMembers vid port egress) S = refl
behind_effect (ToPort port up) S = refl
behind_effect (Comes new) S = refl
behind_effect (Goes vid) S = refl
behind_effect ToNothing S = refl

unless_refused : (q : Bool) (e : Effect) (S : Settings) → (if q then applied e S else S).overlay.underlay ≡ S.overlay.underlay
unless_refused true e S = behind_effect e S
unless_refused false e S = refl

of_one : (o : Option TimedChange) (S : Settings) → (changed_by o S).overlay.underlay ≡ S.overlay.underlay
of_one None S = refl
of_one (Some c) S = unless_refused (is_none (refused S c.change)) (effect c.change) S

pub behind_change : (changes : List TimedChange) (index : ℕ) (S : Settings) → (settings_behind changes (happenings.Change index) S).overlay.underlay ≡ S.overlay.underlay
behind_change changes index S = of_one (slice_get changes index) S
