use Rattle.std.proofs.Common.{◌≡◌, ◌*◌, length, take}
use Rattle.sha2.specs.Sha256.{digest_bytes}
use Rattle.octet_sums.proofs.sha256.hasher.octets_of.Given as goal

abbrev pub invariant-each : goal.invariant-each
invariant-each l = (length l.octets ≡ 32) × (take (4 * l.place) l.octets ≡ digest_bytes l.hash l.place)
