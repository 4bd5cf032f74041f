use Rattle.std.proofs.Common.{◌≡◌, ◌∙◌, ℕ, Bool, List, ap, subst, sym}
use Rattle.std.specs.Prelude.{is_some}
use Rattle.std.proofs.Math.Path.{fun_ext}
use Rattle.echo_window.specs.Echo.{Window, behind_met, echo_of}
use Rattle.endpoint_core.specs.Held.{Held, settings_of}
use Rattle.endpoint_core.specs.Kept.{state_of}
use Rattle.timeline.specs.Captured.{Captured}
use Rattle.both_ways.specs.Outlets.{kept_outlets}
use Rattle.both_ways.specs.Sieve.{Seen, asked_of, seen_of, window_with}
use Rattle.both_ways.specs.Told.{brought, untagged}
use Rattle.overlay.specs.Ports.{Ports}
use Rattle.both_ways.proofs.Bringing.{frame_behind}
use Rattle.both_ways.proofs.Causes.{no_origin}
use Rattle.both_ways.proofs.Untagging.{came_text}
use Rattle.both_ways.proofs.sieve.BothWays.cause_of_frame.Goals as goal

pub enter_frame-requires : goal.enter_frame-requires
enter_frame-requires c = λ x is.
    let S = (state_of c.args.endpoint.now).bridges.settings in
    let r = c.args.captured.now in
    c.untagged-frame.ensures ∙ ap (λ (k : Captured). untagged k.octets) c.captured.view_is
    ∙ came_text S.ports S.overlay c.args.port r.original r.octets x (sym c.requires.2 ∙ is)

pub returns-clause-behind : goal.returns-clause-behind
returns-clause-behind c = λ changes.
    let s = seen_of c.args.self.now (state_of c.args.endpoint.now).bridges.settings changes in
    let P = s.settings.ports in
    let ports = c.ports.ensures.value ∙ ap (λ (held : Held). (settings_of held).ports) c.state.ensures.value in
    let text = c.untagged-frame.ensures ∙ ap (λ (k : Captured). untagged k.octets) c.captured.view_is in
    let none = sym (ap (λ (t : List ℕ). is_some (echo_of s.window.within s.window.came (asked_of c.args.port c.args.event.now.moment t))) text) ∙ sym (ap is_some c.echoed.ensures.answer) ∙ no_origin c.echoed.result c.in_default.not-Some in
    let met = c.echoed.ensures.behind ∙ ap (λ (t : List ℕ). behind_met s.window (asked_of c.args.port c.args.event.now.moment t)) text in
    let sends = fun_ext (λ (vid : ℕ). subst (λ (p : Ports). kept_outlets c.enter_frame.new.outlets p vid ≡ kept_outlets c.args.self.now.outlets p vid) ports (c.enter_frame.ensures.outlets vid)) in
    ap (λ (f : ℕ → List Bool). let k : Seen = record { settings = s.settings; changes = changes; sends_at = f; window = c.enter_frame.new.window; counts = s.counts } in k) sends
    ∙ ap (λ (x : Window). let k : Seen = record { settings = s.settings; changes = changes; sends_at = s.sends_at; window = x; counts = s.counts } in k)
    (frame_behind s c.args.port c.args.event.now.moment c.args.event.now.number c.args.captured.now c.args.came.now c.echoed.new.window c.enter_frame.new.window none c.requires met
    (c.enter_frame.ensures.window ∙ ap (λ (p : Ports). window_with c.echoed.new.window (brought (kept_outlets c.args.self.now.outlets p) c.args.port c.args.event.now.moment c.args.event.now.number c.args.came.now)) ports))
