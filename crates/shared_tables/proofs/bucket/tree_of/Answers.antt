use Rattle.std.proofs.Common.{◌∙◌, ap}
use Rattle.shared_tables.specs.Bucket.{tree_of, mac_in}
use Rattle.shared_tables.proofs.bucket.tree_of.Goals as goal

pub returns-clause-value : goal.returns-clause-value
returns-clause-value c = c.tree_by_key.ensures.value ∙ ap (λ v. tree_of v (mac_in c.key.result)) c.key.ensures.vid ∙ ap (tree_of c.args.vid) c.key.ensures.mac
