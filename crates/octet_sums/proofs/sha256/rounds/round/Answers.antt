use Rattle.std.proofs.Common.{ℕ, refl, slice_index}
use Rattle.sha2.specs.Sha256.{add32, big_sigma1, ch}
use Rattle.octet_sums.proofs.Sums.{key_added}
use Rattle.octet_sums.proofs.sha256.rounds.round.Goals as goal

pub returns : goal.returns
returns c k w e =
    let v = c.args.v in
    let before : ℕ = add32 (add32 (slice_index v 7) (big_sigma1 (slice_index v 4))) (ch (slice_index v 4) (slice_index v 5) (slice_index v 6)) in
    rw (c.big_sigma1.ensures, c.choice.ensures, c.big_sigma0.ensures, c.majority.ensures, e, key_added before w k) refl
