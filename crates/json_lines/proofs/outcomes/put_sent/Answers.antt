use Rattle.std.specs.Prelude.{codes}
use Rattle.json.specs.Print.{quoted}
use Rattle.json_lines.proofs.Values.{puts_five}
use Rattle.json_lines.proofs.outcomes.put_sent.Goals as goal

pub returns : goal.returns
returns c =
    puts_five c.put_octet.result c.args.out.now.items c.put_text.new.out.items c.put_text-2.new.out.items c.put_text-3.new.out.items c.put_quoted.new.out.items c.put_octet.new.out.items
    (codes "{\"octets\":") c.args.length.now (codes ",\"place\":") (quoted c.args.place.now) (codes "}")
    c.in_ok-put_text.ensures c.in_ok-put_text-2.ensures c.in_ok-put_text-3.ensures c.in_ok-put_quoted.ensures c.put_octet.ensures
