-- Texts that differ in one octet have other sums.
use Rattle.std.proofs.Common.{◌≢◌, ℕ, zero, suc, ◌+◌, ◌*◌, ◌^◌, ◌%◌, ◌<◌, ◌∷◌, length, arith}
use Rattle.octet_sums.specs.Laws.{NoticesAnOctet}
use Rattle.octet_sums.specs.Sums.{in_word, prime, weighed}
use Rattle.octet_sums.proofs.FletcherWords.{weighed-append}

-- an octet at each place of a word
differ : (k x y a b : ℕ) → k < 8 → a < 256 → b < 256 → a ≢ b → (x + (a * 2 ^ (8 * k) + y)) % prime ≢ (x + (b * 2 ^ (8 * k) + y)) % prime
differ zero x y a b small p q d e = d (omega (arith, e, p, q))
differ (suc zero) x y a b small p q d e = d (omega (arith, e, p, q))
differ (suc (suc zero)) x y a b small p q d e = d (omega (arith, e, p, q))
differ (suc (suc (suc zero))) x y a b small p q d e = d (omega (arith, e, p, q))
differ (suc (suc (suc (suc zero)))) x y a b small p q d e = d (omega (arith, e, p, q))
differ (suc (suc (suc (suc (suc zero))))) x y a b small p q d e = d (omega (arith, e, p, q))
differ (suc (suc (suc (suc (suc (suc zero)))))) x y a b small p q d e = d (omega (arith, e, p, q))
differ (suc (suc (suc (suc (suc (suc (suc zero))))))) x y a b small p q d e = d (omega (arith, e, p, q))
differ (suc (suc (suc (suc (suc (suc (suc (suc k)))))))) x y a b small p q d e = absurd (omega (arith, small))

pub noticed : NoticesAnOctet
noticed front back a b p q d e =
    let place : ℕ = 0 + length front in
    let one = weighed-append in_word 0 front (a ∷ back) in
    let other = weighed-append in_word 0 front (b ∷ back) in
    differ (place % 8) (weighed in_word 0 front) (weighed in_word (place + 1) back) a b (omega arith) p q d
    (rw (← one, ← other) e)
