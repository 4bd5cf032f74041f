use Rattle.std.proofs.Common.{◌≡◌, ◌∙◌, ℕ, Bool, true, cond, Option, List, Result, IfOk, IsTrue, [], sym, ap, subst, rules}
use Rattle.std.specs.List.{list_all}
use Rattle.std.specs.Option.{option_map_or}
use Rattle.wire.specs.declared.ether.reason.Reason.{Reason}
use Rattle.filter_db.specs.declared.place.Place.{Place}
use Rattle.filter_db.specs.Segment.{Segments, aged_all}
use Rattle.overlay.specs.declared.underlay.segment.Segment.{Segment}
use Rattle.tunnel_learning.specs.Bridge.{Config, outlets}
use Rattle.endpoint_core.specs.Learning.{learns}
use Rattle.endpoint_core.specs.Settings.{SegmentSettings, joined}
use Rattle.endpoint_core.specs.Sound.{reaches}
use Rattle.endpoint_core.specs.State.{State, bridge_of, settings_of, state_of, tables_at}
use Rattle.endpoint_core.specs.StateStep.{can_leave, config_of, after_frame, verdict_in}
use Rattle.endpoint_core.proofs.SoundLemmas.{aged-reached}
use Rattle.endpoint_core.proofs.StandsLemmas.{stands}
use Rattle.endpoint_core.proofs.StepLemmas.{config-told, after-learned, sound-learned, outlets-leave}
use Rattle.endpoint_core.proofs.state.parts.Parts.step.Goals as goal

-- the tables after it have nothing that is dead
settled : (now last moment : ℕ) (b : Bool) (new : Segments) → moment ≡ cond b now last → aged_all moment new ≡ new → b ≡ true → aged_all now new ≡ new
settled now last moment b new is all on = ap (λ t. aged_all t new) (sym (is ∙ ap (λ (c : Bool). cond c now last) on)) ∙ all

pub returns : goal.returns
returns g c =
    let parts = c.args.self.now in
    let now = c.args.now in
    let vid = c.args.vid in
    let f = c.args.frame.now in
    let S = settings_of g.T.Tables.segments g.T.Tables.pool parts in
    let segments = g.T.Tables.segments parts.tables in
    let new = g.T.Tables.segments c.bridge_step_into.new.tables in
    let it = stands parts.ports parts.under parts.learning segments vid c.requires.sound c.requires.there in
    let own = joined (bridge_of (learns parts.learning vid) it.table) it.tunneled it.members in
    let config = config-told parts.ports parts.under parts.learning segments vid it c.get.result c.segment-segment.result.now c.groups_of.result c.get.ensures c.segment-segment.ensures c.groups_of.ensures in
    let told = c.bridge_step_into.ensures.verdict ∙ ap (λ (x : Config). outlets x c.args.from.now f (tables_at now new vid)) config in
    let after = after-learned now vid c.args.from.now f parts.ports parts.under parts.learning (g.T.Tables.pool parts.tables) (g.T.Tables.pool c.bridge_step_into.new.tables) segments new it c.get.result (sym c.get.ensures) c.bridge_step_into.ensures.tables
    (settled now _ _ c.get.result new c.bridge_step_into.ensures.moment (g.met.T.Tables.settled c.bridge_step_into.new.tables))
    c.bridge_step_into.ensures.pool in
    let sound = sound-learned now vid c.args.from.now f parts.ports parts.under segments new c.get.result c.requires.reached c.requires.sound c.bridge_step_into.ensures.tables in
    let flood = ap (λ (o : Option Segment). list_all (λ r. reaches parts.under vid r.tunnel r.addr) (option_map_or (λ h. h.flood) o [])) (sym it.has_tunnels) ∙ c.requires.sound.flood vid in
    record {
      verdict =
          told
          ∙ ap (λ (x : State). outlets (config_of parts.ports own) c.args.from.now f (x.tables vid)) after
          ∙ sym (ap (λ (o : Option SegmentSettings). verdict_in parts.ports o c.args.from.now f ((after_frame now vid c.args.from.now f (state_of g.T.Tables.segments g.T.Tables.pool now parts)).tables vid)) it.settings);
      after = after;
      leaves =
          subst (λ (r : Result (List Place) Reason). IfOk r (λ places. IsTrue (list_all (can_leave S vid) places))) (sym told)
          (outlets-leave S vid own it.has_members c.args.from.now f (tables_at now new vid) flood (aged-reached parts.under vid now (new vid) (sound.tables vid)));
      empty = c.bridge_step_into.ensures.empty;
      sound = sound;
      time = search rules;
      calls_stay_counted = c.bridge_step_into.ensures.calls_stay_counted;
      calls = c.bridge_step_into.ensures.calls;
      comparisons_stay_counted = c.bridge_step_into.ensures.comparisons_stay_counted;
      compared = c.bridge_step_into.ensures.compared;
    }
