use Rattle.std.proofs.Common.{ℕ, ◌+◌, ◌*◌, ◌/◌, ◌^◌, bit_xor, refl}
use Rattle.octet_sums.proofs.BitLemmas.{small_sigma1_twice}
use Rattle.octet_sums.proofs.sha256.schedule.two_sigmas.Goals as goal

pub returns : goal.returns
returns c a b e =
    let fits = rw e at c.fits-x.1 in
    let turned : ℕ → ℕ = λ x. bit_xor ((x * 2 ^ 32 + x) / 2 ^ 17) ((x * 2 ^ 32 + x) / 2 ^ 19) in
    let parts = c.halves.ensures (turned a) (turned b) (rw (c.doubled-both.ensures a b e) refl) in
    rw (parts, e) (refl, small_sigma1_twice a fits.0.fits, small_sigma1_twice b fits.1.1.0.fits)
