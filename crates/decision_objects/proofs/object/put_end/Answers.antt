use Rattle.std.proofs.Common.{◌∙◌, ◌++◌, ap, codes, ℕ, List}
use Rattle.timeline.specs.Words.{source_word}
use Rattle.decision_objects.specs.Objects.{segment_text}
use Rattle.decision_objects.proofs.Texts.{of_end, put_three}
use Rattle.decision_objects.proofs.object.put_end.Goals as goal

pub returns : goal.returns
returns c =
    let segment = segment_text c.args.segment in
    let source = source_word c.args.source in
    put_three c.args.line.now c.put_text.new.self c.put_segment.new.line c.put_last.new.line (codes ",\"segment\":") segment
    (codes ",\"source\":\"" ++ source ++ codes "\"}\n") c.put_text.ensures.text c.put_segment.ensures.text c.put_last.ensures
    ∙ ap (λ (t : List ℕ). c.args.line.now ++ t) (of_end (codes ",\"segment\":") segment (codes ",\"source\":\"") source (codes "\"}\n"))
