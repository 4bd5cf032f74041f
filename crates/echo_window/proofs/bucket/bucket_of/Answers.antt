use Rattle.std.proofs.Common.{ap, ◌/◌}
use Rattle.echo_window.specs.Bucket.{bucket_of}
use Rattle.echo_window.proofs.bucket.bucket_of.Goals as goal

pub returns-clause-bucket : goal.returns-clause-bucket
unfolding bucket_of
returns-clause-bucket c = ap (λ n. n / 1125899906842624) c.sum_of.ensures
