use Rattle.std.proofs.Common.{◌∷◌, []}
use Rattle.json_lines.specs.Outcomes.{words}
use Rattle.json_lines.specs.Puts.{listed}
use Rattle.json_lines.proofs.Values.{listed_same, puts_same, puts_then}
use Rattle.json_lines.proofs.outcomes.put_outcomes.Goals as goal

pub returns : goal.returns
returns c =
    puts_same c.put_octet.result c.args.out.now.items c.put_octet.new.out.items _ _ (listed_same c.args.text.now)
    (puts_then c.put_octet.result c.args.out.now.items c.put_list.new.out.items c.put_octet.new.out.items (listed 91 (words c.args.text.now)) (93 ∷ []) c.in_ok-put_list.ensures c.put_octet.ensures)
