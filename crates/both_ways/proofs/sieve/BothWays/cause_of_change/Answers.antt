use Rattle.std.proofs.Common.{ℕ, Bool, List, ap}
use Rattle.std.proofs.Math.Path.{fun_ext}
use Rattle.both_ways.specs.Sieve.{Seen}
use Rattle.both_ways.proofs.sieve.BothWays.cause_of_change.Goals as goal

pub returns-clause-behind : goal.returns-clause-behind
returns-clause-behind c = λ S changes before.
    ap (λ (f : ℕ → List Bool). let k : Seen = record { settings = S; changes = changes; sends_at = f; window = c.args.self.now.window; counts = c.args.self.now.left_out } in k)
    (fun_ext (λ (vid : ℕ). c.forget.ensures S.ports vid))
