use Rattle.std.proofs.Common.{ap, List, [], ℕ, Option}
use Rattle.std.proofs.KnownBytes.{prepend_known-nil}
use Rattle.line_stream.specs.Lines.{Reader}
use Rattle.line_stream.proofs.lines.Lines.new.Goals as goal

pub returns : goal.returns
returns g c = ap (λ (r : Option (List ℕ)). let made : Reader = record { line = []; ahead = []; rest = r; failures = g.R.Input.failures c.args.input } in made) (prepend_known-nil (g.R.Input.remaining c.args.input))
