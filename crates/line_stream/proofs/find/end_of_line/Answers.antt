use Rattle.std.proofs.Common.{rules}
use Rattle.line_stream.proofs.Ends.{behind_at, first_at, none_before, none_behind}
use Rattle.line_stream.proofs.find.end_of_line.Goals as goal

pub returns-in-Some : goal.returns-in-Some
returns-in-Some c =
    let found = c.in-Some.ensures in
    let before = none_before c.args.text.now c.args.seen c.in-Some.at c.requires found.before found.inside in record {
      inside = search rules;
      first = λ more. first_at c.args.text.now more c.in-Some.at found.inside found.here before;
      behind = λ more. behind_at c.args.text.now more c.in-Some.at found.inside found.here before;
    }

pub returns-in-None : goal.returns-in-None
returns-in-None c = none_behind c.args.text.now c.args.seen c.requires c.in-None.ensures
