use Rattle.std.proofs.Common.{◌∙◌, sym}
use Rattle.json_lines.proofs.Escapes.{escape_all}
use Rattle.json_lines.proofs.Values.{puts_same}
use Rattle.json_lines.proofs.put.put_escaped.Goals as goal

pub returns-then-is_plain_text : goal.returns-then-is_plain_text
returns-then-is_plain_text c =
    puts_same c.put_text.result c.args.out.now.items c.put_text.new.out.items _ _
    (escape_all c.args.text.now (sym c.is_plain_text.ensures ∙ c.if-is_plain_text.true)) c.put_text.ensures
