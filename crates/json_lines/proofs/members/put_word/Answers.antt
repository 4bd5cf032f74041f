use Rattle.std.proofs.Common.{◌∙◌, sym}
use Rattle.json_lines.proofs.Values.{number_before, number_word, puts_same}
use Rattle.json_lines.proofs.members.put_word.Goals as goal

pub returns-in-Number : goal.returns-in-Number
returns-in-Number c =
    puts_same c.put_text.result c.args.out.now.items c.put_text.new.out.items _ _ (number_word c.args.kind c.args.word.now c.in-Number.is c.requires) c.put_text.ensures

pub returns-in-NumberBefore : goal.returns-in-NumberBefore
returns-in-NumberBefore c =
    puts_same c.put_text-in-NumberBefore.result c.args.out.now.items c.put_text-in-NumberBefore.new.out.items _ _
    (number_before c.args.kind c.in-NumberBefore.field-0 c.args.word.now c.in-NumberBefore.is c.requires ∙ sym c.without_last.ensures)
    c.put_text-in-NumberBefore.ensures
