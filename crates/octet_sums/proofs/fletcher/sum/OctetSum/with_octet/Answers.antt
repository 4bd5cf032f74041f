use Rattle.std.proofs.Common.{◌∙◌, ◌*◌, ◌+◌, ◌%◌, ℕ, [], ◌∷◌, ap, ap₂, refl}
use Rattle.octet_sums.specs.Sums.{prime}
use Rattle.octet_sums.proofs.FletcherWords.{octet_first, octet_fits, octet_second, sum_more}
use Rattle.octet_sums.proofs.fletcher.sum.OctetSum.with_octet.Goals as goal

pub returns : goal.returns
returns c before =
    let octet = c.args.octet in
    let place = c.args.self.octets in
    let fits = octet_fits octet place c.from.result c.ranges.octet.fits c.from.ensures in
    sum_more c.args.self _ before (octet ∷ []) 1 c.from-3.result (c.from-5.result * c.from-6.result) refl refl
    (c.reduced.ensures ∙ ap (λ (n : ℕ). (n + c.from-3.result) % prime) c.from-2.ensures)
    (c.reduced-2.ensures ∙ ap (λ (n : ℕ). (n + c.from-5.result * c.from-6.result) % prime) c.from-4.ensures)
    (ap (λ (n : ℕ). n % prime) (c.from-3.ensures ∙ fits ∙ octet_first octet place c.from.result c.from.ensures))
    (ap (λ (n : ℕ). n % prime) (ap₂ (λ (a b : ℕ). a * b) (c.from-5.ensures ∙ fits) c.from-6.ensures ∙ octet_second octet place c.from.result c.from.ensures))
