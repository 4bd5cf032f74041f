use Rattle.std.proofs.Common.{◌∷◌, []}
use Rattle.serde_json.specs.Written.{compact_text}
use Rattle.json_lines.specs.Objects.{outcome_data}
use Rattle.json_lines.proofs.Values.{puts_then}
use Rattle.json_lines.proofs.outcomes.put_next.Goals as goal

pub returns : goal.returns
returns c =
    puts_then c.put_outcome.result c.args.out.now.items c.put_octet.new.out.items c.put_outcome.new.out.items
    (c.args.mark ∷ []) (compact_text (outcome_data c.args.word.now)) c.in_ok-put_octet.ensures c.put_outcome.ensures
