use Rattle.std.proofs.Common.{◌++◌, ◌∙◌, List, ℕ, ap}
use Rattle.std.specs.Prelude.{codes}
use Rattle.json_lines.specs.Objects.{members_of}
use Rattle.json_lines.specs.Puts.{begun}
use Rattle.json_lines.proofs.Values.{line_closed, puts_same, puts_then}
use Rattle.json_lines.proofs.object.put_line.Goals as goal

pub returns : goal.returns
returns c =
    puts_same c.put_text.result c.args.out.now.items c.put_text.new.out.items _ _ (line_closed c.args.forms.now c.args.line.now)
    (puts_then c.put_text.result c.args.out.now.items c.put_begun.new.out.items c.put_text.new.out.items (begun (members_of c.args.forms.now c.args.line.now)) (codes "}\n")
    (c.in_ok-put_begun.ensures ∙ ap (λ (l : List ℕ). c.args.out.now.items ++ begun (members_of c.args.forms.now l)) c.of.ensures) c.put_text.ensures)
