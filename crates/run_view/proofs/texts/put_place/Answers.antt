use Rattle.std.proofs.Common.{◌≤◌, subst, ℕ, List, length}
use Rattle.run_view.proofs.Comments.{comment_full}
use Rattle.run_view.proofs.texts.put_place.Goals as goal

pub returns-then-text-ge-LONGEST_COMMENT-clause-text : goal.returns-then-text-ge-LONGEST_COMMENT-clause-text
returns-then-text-ge-LONGEST_COMMENT-clause-text c rest =
    comment_full c.args.line.now _ _ (subst (λ (t : List ℕ). 65000 ≤ length t) c.text.ensures.value c.if-text-ge-LONGEST_COMMENT.true)
