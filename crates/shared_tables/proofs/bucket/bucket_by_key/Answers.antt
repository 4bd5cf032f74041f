use Rattle.shared_tables.proofs.OnTrees.Keys.{bucket_by_words}
use Rattle.shared_tables.proofs.bucket.bucket_by_key.Goals as goal

pub returns-clause-value : goal.returns-clause-value
returns-clause-value c = bucket_by_words c.args.key
