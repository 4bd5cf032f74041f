use Rattle.std.proofs.Common.{◌∙◌, ap, ℕ, List}
use Rattle.run_view.specs.Blocks.{comment_of, journal_block}
use Rattle.run_view.proofs.Telling.{journal_is, told_as}
use Rattle.run_view.proofs.output.tell_entry.Goals as goal

pub returns : goal.returns
returns g c =
    let message = comment_of c.args.line.now in
    let block = journal_block c.args.moment message in
    told_as c.args.teller.now c.tell_block.new.self 9 c.put_journal.new.line block.body block
    (c.put_journal.ensures.body ∙ ap (λ (t : List ℕ). (journal_block c.args.moment t).body) c.comment.ensures.text) (journal_is c.args.moment message) c.tell_block.ensures
