-- A segment that stands: what ports, underlay and tables have of it, and its settings.
use Rattle.std.proofs.Common.{◌≡◌, ℕ, Bool, true, List, Option, Some, None, IsSome, refl, ap, ◌∙◌}
use Rattle.std.specs.Prelude.{is_some}
use Rattle.std.specs.Option.{option_map, option_and_then}
use Rattle.std.proofs.lemmas.Bool.{false≢true}
use Rattle.filter_db.specs.Segment.{Segment, Segments}
use Rattle.overlay.specs.Ports.{Ports, Members, members_at}
use Rattle.overlay.specs.Overlay.{Overlay, segment_at as under_at}
use Rattle.overlay.specs.declared.underlay.segment.Segment.{Segment as Tunneled}
use Rattle.endpoint_core.specs.Learning.{learns}
use Rattle.endpoint_core.specs.Settings.{BridgeSettings, SegmentSettings, joined, segment_at}
use Rattle.endpoint_core.specs.Sound.{AreSound}
use Rattle.endpoint_core.specs.State.{bridge_of, settings_by}

pub record Stands (ports : Ports) (overlay : Overlay) (learning : List Bool) (segments : Segments) (vid : ℕ) : Type 0 where
  pub table : Segment
  pub tunneled : Tunneled
  pub members : Members
  pub has_table : segments vid ≡ Some table
  pub has_tunnels : under_at overlay vid ≡ Some tunneled
  pub has_members : members_at ports vid ≡ Some members
  -- whatever the pool is
  pub settings : segment_at (settings_by ports overlay learning 0 segments) vid ≡ Some (joined (bridge_of (learns learning vid) table) tunneled members)

some_of : {X : Type 0} (o : Option X) → is_some o ≡ true → (x : X) × (o ≡ Some x)
some_of None h = absurd (false≢true h)
some_of (Some x) h = (x, refl)

is_some-of : {X : Type 0} (o : Option X) → IsSome o → is_some o ≡ true
is_some-of None h = h
is_some-of (Some x) h = refl

-- the parts of a segment's settings, each where it is there
abbrev join : Option Members → Option Tunneled → Option BridgeSettings → Option SegmentSettings
join members tunneled bridge = option_and_then (λ b. option_and_then (λ g. option_map (λ m. joined b g m) members) tunneled) bridge

joins : (members : Option Members) (tunneled : Option Tunneled) (bridge : Option BridgeSettings) (m : Members) (g : Tunneled) (b : BridgeSettings) → members ≡ Some m → tunneled ≡ Some g → bridge ≡ Some b → join members tunneled bridge ≡ Some (joined b g m)
joins members tunneled bridge m g b is_m is_g is_b =
    ap (join members tunneled) is_b ∙ ap (λ (o : Option Tunneled). join members o (Some b)) is_g ∙ ap (λ (o : Option Members). join o (Some g) (Some b)) is_m

pub stands : (ports : Ports) (overlay : Overlay) (learning : List Bool) (segments : Segments) (vid : ℕ) → AreSound ports overlay segments → IsSome (segments vid) → Stands ports overlay learning segments vid
stands ports overlay learning segments vid sound has =
    let there = is_some-of (segments vid) has in
    let table = some_of (segments vid) there in
    let tunneled = some_of (under_at overlay vid) (sound.tunnels vid ∙ there) in
    let members = some_of (members_at ports vid) (sound.members vid ∙ there) in
    record {
      table = table.0;
      tunneled = tunneled.0;
      members = members.0;
      has_table = table.1;
      has_tunnels = tunneled.1;
      has_members = members.1;
      settings = joins (members_at ports vid) (under_at overlay vid) (option_map (bridge_of (learns learning vid)) (segments vid)) members.0 tunneled.0 (bridge_of (learns learning vid) table.0) members.1 tunneled.1 (ap (option_map (bridge_of (learns learning vid))) table.1);
    }
