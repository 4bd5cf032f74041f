use Rattle.std.proofs.Common.{◌≡◌, subst, List, ℕ, ◌++◌}
use Rattle.std.specs.Prelude.{IfOk}
use Rattle.std.specs.List.{flat_map}
use Rattle.timeline.specs.Order.{IsRising}
use Rattle.endpoint_core.specs.Opened.{settings_told}
use Rattle.endpoint_core.specs.Kept.{state_of}
use Rattle.decision_lines.specs.Lines.{cut_line}
use Rattle.explanation.specs.Explanation.{explanation}
use Rattle.explanation.specs.Growing.{texts_from}
use Rattle.explanation.proofs.Growing.{explanation_grown}
use Rattle.explanation.proofs.packets.explanation_of.Goals as goal

pub returns : goal.returns
returns c =
    let S = settings_told c.args.settings in
    let depth = c.args.depth in
    let values = c.args.values in
    let timeline = c.args.timeline.now in
    let rising = subst (IsRising 0) c.events.ensures.events c.events.ensures.rising in
    let grown : texts_from depth values 0 (state_of c.in_ok-endpoint.endpoint) c.events.result.now ++ flat_map cut_line c.cuts.result.now ≡ explanation S depth values timeline =
    rw (c.in_ok-endpoint.ensures, c.events.ensures.events, c.cuts.ensures) (explanation_grown S depth values timeline rising c.requires.known) in
    subst (λ (x : List ℕ). IfOk c.text_of.result (λ text. text.items ≡ x)) grown c.text_of.ensures
