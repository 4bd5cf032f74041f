use Rattle.std.proofs.Common.{Some, codes}
use Rattle.decision_objects.specs.Objects.{end_text}
use Rattle.decision_objects.proofs.Texts.{put_two}
use Rattle.decision_objects.proofs.object.end_sent.Goals as goal

pub returns : goal.returns
returns c =
    put_two c.args.line.now c.put_text.new.self c.put_end.new.line (codes "],\"result\":\"sent\"") (end_text (Some c.args.segment) c.args.source)
    c.put_text.ensures.text c.put_end.ensures
