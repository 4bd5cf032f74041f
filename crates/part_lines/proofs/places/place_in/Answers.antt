use Rattle.part_lines.proofs.Splits.{equals_found, equals_lacks}
use Rattle.part_lines.proofs.places.place_in.Goals as goal

pub returns-in-Some : goal.returns-in-Some
returns-in-Some c = equals_found c.args.text.now c.args.from c.in-Some.end c.in-Some.ensures

pub returns-in-None : goal.returns-in-None
returns-in-None c = equals_lacks c.args.text.now c.args.from c.in-None.ensures
