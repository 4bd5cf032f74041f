use Rattle.std.proofs.Common.{◌∙◌, ap, List, ℕ, ◌++◌}
use Rattle.std.specs.List.{flat_map}
use Rattle.decision_lines.specs.Lines.{cut_line}
use Rattle.endpoint_core.specs.Kept.{state_of}
use Rattle.explanation.specs.Growing.{texts_from}
use Rattle.explanation.proofs.packets.text_of.Goals as goal

pub returns : goal.returns
returns c =
    let told : List ℕ = texts_from c.args.depth c.args.values 0 (state_of c.args.endpoint.now) c.args.events.now in
    let cuts : List ℕ = flat_map cut_line c.args.cuts.now in
    c.in_ok-put_cuts.ensures ∙ ap (λ (x : List ℕ). x ++ cuts) c.in_ok-put_events.ensures
    ∙ ap (λ (x : List ℕ). (x ++ told) ++ cuts) c.new-text.ensures.items
