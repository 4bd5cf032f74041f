use Rattle.std.proofs.Common.{refl}
use Rattle.sha2.specs.Sha256.{hash_after}
use Rattle.octet_sums.specs.Hashers.{Holds256}
use Rattle.octet_sums.proofs.sha256.hasher.Sha256Digest.new.Goals as goal

pub returns : goal.returns
unfolding Holds256 hash_after
returns c = (refl, (refl, refl))
