use Rattle.std.proofs.Common.{◌+◌, ◌*◌, ◌∙◌, ap}
use Rattle.shared_tables.specs.Bucket.{bucket_of, vid_in, mac_in}
use Rattle.shared_tables.proofs.OnTrees.Buckets.{number_is}
use Rattle.shared_tables.proofs.OnTrees.Keys.{key_of-key}
use Rattle.shared_tables.proofs.bucket.tree_by_key.Goals as goal

pub returns-clause-value : goal.returns-clause-value
returns-clause-value c =
    ap (λ n. n * 64 + c.spread.result) c.bucket_by_key.ensures.value ∙ ap (λ n. bucket_of (vid_in c.args.key) (mac_in c.args.key) * 64 + n) c.spread.ensures.value
    ∙ number_is c.args.key (vid_in c.args.key) (mac_in c.args.key) (key_of-key c.args.key c.ranges.key.fits)
