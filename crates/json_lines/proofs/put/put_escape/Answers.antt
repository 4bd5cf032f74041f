use Rattle.json_lines.proofs.Escapes.{escape_high, escape_lettered, escape_low}
use Rattle.json_lines.proofs.Values.{puts_same}
use Rattle.json_lines.proofs.put.put_escape.Goals as goal

pub returns-then-letter-gt0 : goal.returns-then-letter-gt0
returns-then-letter-gt0 c =
    puts_same c.put_text.result c.args.out.now.items c.put_text.new.out.items _ _
    (escape_lettered c.args.octet c.letter_of-letter.result c.letter_of-letter.ensures c.if-letter-gt0.true) c.put_text.ensures

pub returns-then-octet-lt32 : goal.returns-then-octet-lt32
returns-then-octet-lt32 c =
    puts_same c.put_control.result c.args.out.now.items c.put_control.new.out.items _ _
    (escape_low c.args.octet c.letter_of-letter.result c.letter_of-letter.ensures c.if-letter-gt0.false c.if-octet-lt32.true) c.put_control.ensures

pub returns-else-octet-lt32 : goal.returns-else-octet-lt32
returns-else-octet-lt32 c =
    puts_same c.put_octet.result c.args.out.now.items c.put_octet.new.out.items _ _
    (escape_high c.args.octet c.letter_of-letter.result c.letter_of-letter.ensures c.if-letter-gt0.false c.if-octet-lt32.false) c.put_octet.ensures
