use Rattle.std.proofs.Common.{◌≡◌, ◌∙◌, ◌≤◌, true, sym, subst, arith}
use Rattle.std.specs.Prelude.{IsSomeAnd}
use Rattle.clap.specs.Walk.{texts}
use Rattle.command_line.specs.Meaning.{compares_nothing, input_uses, lends_to_a_whole, meaning_of, mixes_output}
use Rattle.command_line.proofs.Simple.{explained_line}
use Rattle.command_line.proofs.line.line_of.Goals as goal

pub returns-then-input_uses-gt1-clause-fault : goal.returns-then-input_uses-gt1-clause-fault
returns-then-input_uses-gt1-clause-fault c =
    let twice : 2 ≤ input_uses (meaning_of c.in-Ok.line) = omega (arith, c.input_uses.ensures, c.if-input_uses-gt1.true) in
    (c.in-Ok.ensures.taken, subst (λ m. IsSomeAnd m (λ meaning. 2 ≤ input_uses meaning)) (sym c.in-Ok.ensures.ok) twice)

pub returns-then-lends_to_a_whole-clause-fault : goal.returns-then-lends_to_a_whole-clause-fault
returns-then-lends_to_a_whole-clause-fault c =
    let lends : lends_to_a_whole (meaning_of c.in-Ok.line) ≡ true = sym c.lends_to_a_whole.ensures ∙ c.if-lends_to_a_whole.true in
    (c.in-Ok.ensures.taken, subst (λ m. IsSomeAnd m (λ meaning. lends_to_a_whole meaning ≡ true)) (sym c.in-Ok.ensures.ok) lends)

pub returns-then-mixes_output-clause-fault : goal.returns-then-mixes_output-clause-fault
returns-then-mixes_output-clause-fault c =
    let mixes : mixes_output (meaning_of c.in-Ok.line) ≡ true = sym c.mixes_output.ensures ∙ c.if-mixes_output.true in
    (c.in-Ok.ensures.taken, subst (λ m. IsSomeAnd m (λ meaning. mixes_output meaning ≡ true)) (sym c.in-Ok.ensures.ok) mixes)

pub returns-then-compares_nothing-clause-fault : goal.returns-then-compares_nothing-clause-fault
returns-then-compares_nothing-clause-fault c =
    let nothing : compares_nothing (meaning_of c.in-Ok.line) ≡ true = sym c.compares_nothing.ensures ∙ c.if-compares_nothing.true in
    (c.in-Ok.ensures.taken, subst (λ m. IsSomeAnd m (λ meaning. compares_nothing meaning ≡ true)) (sym c.in-Ok.ensures.ok) nothing)

pub returns-in-Err-clause-fault : goal.returns-in-Err-clause-fault
returns-in-Err-clause-fault c = explained_line (texts c.args.words.now) c.in-Err.fault c.in-Err.ensures.fault
