use Rattle.json_lines.proofs.Values.{puts_same, rest_same}
use Rattle.json_lines.proofs.members.put_rest.Goals as goal

pub returns-in-Some : goal.returns-in-Some
returns-in-Some c =
    puts_same c.put_quoted.result c.args.out.now.items c.put_quoted.new.out.items _ _ (rest_same c.args.behind c.in-Some.text c.in-Some.is) c.put_quoted.ensures
