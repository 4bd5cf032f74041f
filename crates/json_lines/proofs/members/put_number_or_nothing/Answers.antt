use Rattle.std.proofs.Common.{sym}
use Rattle.json_lines.proofs.Values.{nothing_same, number_same, puts_same}
use Rattle.json_lines.proofs.members.put_number_or_nothing.Goals as goal

pub returns-in-Some : goal.returns-in-Some
returns-in-Some c =
    puts_same c.put_text.result c.args.out.now.items c.put_text.new.out.items _ _ (number_same c.args.word.now _ (sym c.in-Some.ensures)) c.put_text.ensures

pub returns-in-None : goal.returns-in-None
returns-in-None c =
    puts_same c.put_text-in-None.result c.args.out.now.items c.put_text-in-None.new.out.items _ _ (nothing_same c.args.word.now (sym c.in-None.ensures)) c.put_text-in-None.ensures
