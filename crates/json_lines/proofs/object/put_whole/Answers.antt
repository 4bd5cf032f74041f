use Rattle.std.specs.Prelude.{codes}
use Rattle.json.specs.Print.{quoted}
use Rattle.json_lines.proofs.Values.{puts_same, puts_then, whole_begun}
use Rattle.json_lines.proofs.object.put_whole.Goals as goal

pub returns : goal.returns
returns c =
    puts_same c.put_quoted.result c.args.out.now.items c.put_quoted.new.out.items _ _ (whole_begun c.args.line.now)
    (puts_then c.put_quoted.result c.args.out.now.items c.put_text.new.out.items c.put_quoted.new.out.items (codes "{\"text\":") (quoted c.args.line.now) c.in_ok-put_text.ensures c.put_quoted.ensures)
