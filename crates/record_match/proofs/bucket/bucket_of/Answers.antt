use Rattle.std.proofs.Common.{refl}
use Rattle.record_match.specs.Bucket.{bucket_of}
use Rattle.record_match.proofs.bucket.bucket_of.Goals as goal

pub returns-clause-bucket : goal.returns-clause-bucket
unfolding bucket_of
returns-clause-bucket c = rw (c.bucket_by.ensures.bucket, c.word_sum.ensures, c.last_word.ensures) refl
