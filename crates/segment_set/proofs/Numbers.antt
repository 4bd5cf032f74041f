-- Numbers of digits.
use Rattle.std.proofs.Common.{◌≡◌, ℕ, suc, ◌+◌, ◌-◌, ◌*◌, ◌<◌, true, false, if◌then◌else◌, arith, length, drop, get_or, List, [], ◌∷◌, None, refl, sym, ap, ◌∙◌}
use Rattle.std.proofs.Math.Seq.{drop-cons}
use Rattle.std.specs.Char.{is_ascii_digit}
use Rattle.segment_set.specs.Lists.{number_behind, only_vid}

-- a number that is too great stays so
stays_too_great : (n : ℕ) (ds : List ℕ) → 4094 < n → only_vid (number_behind n ds) ≡ None
stays_too_great n [] h = grind arith
stays_too_great n (d ∷ ds) h =
    elim (is_ascii_digit d) as (λ b. only_vid (if b then number_behind (10 * n + (d - 48)) ds else None) ≡ None)
    [ true ↦ stays_too_great (10 * n + (d - 48)) ds (omega arith) | false ↦ refl ]

-- with one digit more
pub digit_more : (n i next : ℕ) (ds : List ℕ) → i < length ds → is_ascii_digit (get_or ds i 0) ≡ true → next ≡ n * 10 + (get_or ds i 0 - 48) → number_behind n (drop i ds) ≡ number_behind next (drop (i + 1) ds)
digit_more n i next ds there digit is =
    let one : suc i ≡ i + 1 = omega arith in
    let same : 10 * n + (get_or ds i 0 - 48) ≡ next = omega arith in
    ap (number_behind n) (drop-cons ds i 0 there) ∙ rw digit (ap (λ m. number_behind m (drop (suc i) ds)) same ∙ ap (λ k. number_behind next (drop k ds)) one)

-- what is too great is no VID
pub too_great : (n i next : ℕ) (ds whole : List ℕ) → i < length ds → is_ascii_digit (get_or ds i 0) ≡ true → next ≡ n * 10 + (get_or ds i 0 - 48) → 4094 < next → number_behind n (drop i ds) ≡ number_behind 0 whole → None ≡ only_vid (number_behind 0 whole)
too_great n i next ds whole there digit is most same =
    sym (ap only_vid (sym same ∙ digit_more n i next ds there digit is) ∙ stays_too_great next (drop (i + 1) ds) most)
