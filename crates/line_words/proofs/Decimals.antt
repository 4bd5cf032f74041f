-- Decimal digits, and characters that a text lacks.
use Rattle.std.proofs.Common.{◌≡◌, ◌≢◌, ℕ, zero, suc, ◌+◌, ◌-◌, ◌*◌, ◌/◌, ◌%◌, ◌^◌, ◌<◌, ◌≤◌, Bool, true, false, cond, eqb, nat_lt, List, [], ◌∷◌, ◌++◌, length, get_or, append-nil, append_assoc, Some, None, option_and_then, refl, sym, ap, ◌∙◌, arith, inl, inr}
use Rattle.std.specs.Fmt.{decimal}
use Rattle.std.specs.Prelude.{◌&&◌, nat_le}
use Rattle.std.proofs.lemmas.Bool.{cases_lt, eq-eqb, ne_eqb, cond-true, cond-false, leb-true, lt-ltb, ltb-true}
use Rattle.std.proofs.lemmas.Bool.Decides.{nat_tests}
use Rattle.std.proofs.lemmas.Fmt.{decimal_by_steps, decimal_step, decimal_digit, decimal_nonempty, first_decimal}
use Rattle.line_words.specs.Numbers.{ReadsDecimals, WritesDecimals, byte_of, is_digit, number_after, number_of, octet_of}

-- ---- lacking a character

-- a text without that character
abbrev pub lacks : ℕ → List ℕ → Bool
lacks s [] = true
lacks s (c ∷ cs) = cond (eqb c s) false (lacks s cs)

pub lacks_more : (s : ℕ) (a b : List ℕ) → lacks s a ≡ true → lacks s b ≡ true → lacks s (a ++ b) ≡ true
lacks_more s [] b la lb = lb
lacks_more s (c ∷ cs) b la lb = by (eqb c s) la (λ h. lacks_more s cs b h lb)
  where
    by : (q : Bool) → cond q false (lacks s cs) ≡ true → (lacks s cs ≡ true → lacks s (cs ++ b) ≡ true) → cond q false (lacks s (cs ++ b)) ≡ true
    by true h more = absurd cc
    by false h more = more h

pub lacks_one : (s c : ℕ) → c ≢ s → lacks s (c ∷ []) ≡ true
lacks_one s c h = cond-false _ _ _ (ne_eqb c s h)

-- it is no digit
abbrev pub IsNoDigit : ℕ → Type 0
IsNoDigit s = (d : ℕ) → d < 10 → 48 + d ≢ s

pub lacks_decimal : (s n : ℕ) → IsNoDigit s → n < 2 ^ 64 → lacks s (decimal n) ≡ true
lacks_decimal s n other fits =
    decimal_by_steps (λ n ds. lacks s ds ≡ true)
    (λ m low. lacks_one s (48 + m) (other m low))
    (λ m ds high front. lacks_more s ds ((48 + m % 10) ∷ []) front (lacks_one s (48 + m % 10) (other (m % 10) (omega arith))))
    n fits

-- ---- words between spaces, in one line

-- neither a line feed nor a space is in it
pub record IsWord (w : List ℕ) : Type 0 where
  pub line : lacks 10 w ≡ true
  pub space : lacks 32 w ≡ true

pub number_word : (n : ℕ) → n < 2 ^ 64 → IsWord (decimal n)
number_word n fits = record {
  line = lacks_decimal 10 n (λ d low is. absurd (omega (arith, is))) fits;
  space = lacks_decimal 32 n (λ d low is. absurd (omega (arith, is))) fits;
}

pub join : (a b : List ℕ) → lacks 10 a ≡ true → lacks 10 b ≡ true → lacks 10 (a ++ 32 ∷ b) ≡ true
join a b first second = lacks_more 10 a (32 ∷ b) first second

-- ---- reading digits

pub after_more : (n : ℕ) (xs ys : List ℕ) → number_after n (xs ++ ys) ≡ option_and_then (λ m. number_after m ys) (number_after n xs)
after_more n [] ys = refl
after_more n (c ∷ cs) ys = by (is_digit c && nat_lt (10 * n + (c - 48)) (2 ^ 64)) (after_more (10 * n + (c - 48)) cs ys)
  where
    m : ℕ
    m = 10 * n + (c - 48)

    by : (b : Bool) → number_after (10 * n + (c - 48)) (cs ++ ys) ≡ option_and_then (λ m. number_after m ys) (number_after (10 * n + (c - 48)) cs) → cond b (number_after (10 * n + (c - 48)) (cs ++ ys)) None ≡ option_and_then (λ m. number_after m ys) (cond b (number_after (10 * n + (c - 48)) cs) None)
    by true same = same
    by false same = refl

digit_passes : (d : ℕ) → d < 10 → is_digit (48 + d) ≡ true
digit_passes d low = grind (arith, nat_tests)

small_passes : (n : ℕ) → n < 2 ^ 64 → nat_lt n (2 ^ 64) ≡ true
small_passes n h = grind (arith, nat_tests)

both_true : (a b : Bool) → a ≡ true → b ≡ true → (a && b) ≡ true
both_true true b ha hb = hb
both_true false b ha hb = ha

pub after_digit : (n d m : ℕ) → d < 10 → 10 * n + d ≡ m → m < 2 ^ 64 → number_after n ((48 + d) ∷ []) ≡ Some m
after_digit n d m low is fits =
    let same : 10 * n + (48 + d - 48) ≡ m = omega (arith, is) in
    cond-true _ _ _ (both_true _ _ (digit_passes d low) (ap (λ x. nat_lt x (2 ^ 64)) same ∙ small_passes m fits)) ∙ ap Some same

pub after_decimal : (n : ℕ) → n < 2 ^ 64 → number_after 0 (decimal n) ≡ Some n
after_decimal n fits =
    decimal_by_steps (λ m ds. m < 2 ^ 64 → number_after 0 ds ≡ Some m)
    (λ m low f. after_digit 0 m m low (omega arith) f)
    (λ m ds high front f.
    after_more 0 ds ((48 + m % 10) ∷ []) ∙ ap (option_and_then (λ k. number_after k ((48 + m % 10) ∷ []))) (front (omega (arith, f)))
    ∙ after_digit (m / 10) (m % 10) m (omega arith) (omega arith) f)
    n fits fits

-- only zero begins with a zero
number_first : (t : List ℕ) → 0 < length t → (get_or t 0 0 ≡ 48 → length t ≡ 1) → number_of t ≡ number_after 0 t
number_first [] some only = absurd (omega arith)
number_first (c ∷ []) some only = by (eqb c 48)
  where
    by : (b : Bool) → cond (b && false) None (number_after 0 (c ∷ [])) ≡ number_after 0 (c ∷ [])
    by true = refl
    by false = refl
number_first (c ∷ d ∷ cs) some only = cond-false _ _ _ (both_false (ne_eqb c 48 (λ h. absurd (omega (arith, only h)))))
  where
    both_false : (eqb c 48 ≡ false) → (eqb c 48 && nat_lt 0 (length (d ∷ cs))) ≡ false
    both_false h = ap (λ b. b && nat_lt 0 (length (d ∷ cs))) h

pub number_decimal : ReadsDecimals
number_decimal n fits = number_first (decimal n) (decimal_nonempty n fits) (only n fits) ∙ after_decimal n fits
  where
    only : (n : ℕ) → n < 2 ^ 64 → get_or (decimal n) 0 0 ≡ 48 → length (decimal n) ≡ 1
    only n fits h =
        elim (cases_lt n 10) [
          | inl lt ↦ ap length (decimal_digit n lt)
          | inr ge ↦ absurd (omega (arith, h, first_decimal n (omega (arith, ge)) fits))
        ]

pub octet_decimal : (n : ℕ) → n < 256 → octet_of (decimal n) ≡ Some n
octet_decimal n low = ap (option_and_then byte_of) (number_decimal n (omega (arith, low))) ∙ cond-true _ _ _ (lt-ltb n 256 low)

-- ---- no other text is read

both_of : (a b : Bool) → (a && b) ≡ true → (a ≡ true) × (b ≡ true)
both_of true b h = (refl, h)
both_of false b h = absurd cc

digit_range : (c : ℕ) → is_digit c ≡ true → (48 ≤ c) × (c ≤ 57)
digit_range c h = let low = both_of (nat_le 48 c) (nat_le c 57) h in (leb-true 48 c low.0, leb-true c 57 low.1)

-- a digit behind those of a number
digit_behind : (n c : ℕ) → 0 < n → (48 ≤ c) × (c ≤ 57) → 10 * n + (c - 48) < 2 ^ 64 → decimal n ++ (c ∷ []) ≡ decimal (10 * n + (c - 48))
digit_behind n c some range fits =
    let low : 48 ≤ c = range.0 in
    let high : c ≤ 57 = range.1 in
    let front : (10 * n + (c - 48)) / 10 ≡ n = omega arith in
    let last : 48 + (10 * n + (c - 48)) % 10 ≡ c = omega arith in
    sym (decimal_step (10 * n + (c - 48)) (omega arith) fits ∙ (λ i. decimal (front i) ++ (last i ∷ [])))

some_same : (m n : ℕ) → Some m ≡ Some n → m ≡ n
some_same m n e = cc

after_exact : (cs : List ℕ) (n m : ℕ) → 0 < n → n < 2 ^ 64 → number_after n cs ≡ Some m → (m < 2 ^ 64) × (decimal n ++ cs ≡ decimal m)
after_exact [] n m some fits e = let same = some_same n m e in (omega (arith, same), append-nil (decimal n) ∙ ap decimal same)
after_exact (c ∷ cs) n m some fits e = by (is_digit c && nat_lt (10 * n + (c - 48)) (2 ^ 64)) refl e (λ some2 fits2 k. after_exact cs (10 * n + (c - 48)) m some2 fits2 k)
  where
    by : (b : Bool) → (is_digit c && nat_lt (10 * n + (c - 48)) (2 ^ 64)) ≡ b → cond b (number_after (10 * n + (c - 48)) cs) None ≡ Some m
        → (0 < 10 * n + (c - 48) → 10 * n + (c - 48) < 2 ^ 64 → number_after (10 * n + (c - 48)) cs ≡ Some m → (m < 2 ^ 64) × (decimal (10 * n + (c - 48)) ++ cs ≡ decimal m))
        → (m < 2 ^ 64) × (decimal n ++ (c ∷ cs) ≡ decimal m)
    by true h k more =
        let both = both_of (is_digit c) (nat_lt (10 * n + (c - 48)) (2 ^ 64)) h in
        let below : 10 * n + (c - 48) < 2 ^ 64 = ltb-true (10 * n + (c - 48)) (2 ^ 64) both.1 in
        let rest = more (omega (arith, some)) below k in
        (rest.0, sym (append_assoc (decimal n) (c ∷ []) cs) ∙ ap (λ l. l ++ cs) (digit_behind n c some (digit_range c both.0) below) ∙ rest.1)
    by false h k more = absurd cc

-- the only digit of zero
zero_exact : (cs : List ℕ) (n : ℕ) → nat_lt 0 (length cs) ≡ false → number_after 0 cs ≡ Some n → (n < 2 ^ 64) × (48 ∷ cs ≡ decimal n)
zero_exact [] n h e = let same = some_same 0 n e in (omega (arith, same), sym (decimal_digit 0 (omega arith)) ∙ ap decimal same)
zero_exact (c ∷ cs) n h e = let no : true ≡ false = sym (lt-ltb 0 (length (c ∷ cs)) (omega arith)) ∙ h in absurd cc

from_exact : (d : ℕ) (cs : List ℕ) (n : ℕ) → d < 10 → (d ≡ 0 → nat_lt 0 (length cs) ≡ false) → number_after d cs ≡ Some n → (n < 2 ^ 64) × ((48 + d) ∷ cs ≡ decimal n)
from_exact zero cs n low alone e = zero_exact cs n (alone refl) e
from_exact (suc d) cs n low alone e =
    let rest = after_exact cs (suc d) n (omega arith) (omega (arith, low)) e in
    (rest.0, ap (λ l. l ++ cs) (sym (decimal_digit (suc d) low)) ∙ rest.1)

pub number_exact : WritesDecimals
number_exact [] n e = absurd cc
number_exact (c ∷ cs) n e = by (eqb c 48 && nat_lt 0 (length cs)) refl e
  where
    first : (b : Bool) → (eqb c 48 && nat_lt 0 (length cs)) ≡ false → (is_digit c && nat_lt (10 * 0 + (c - 48)) (2 ^ 64)) ≡ b → cond b (number_after (10 * 0 + (c - 48)) cs) None ≡ Some n
        → (n < 2 ^ 64) × (c ∷ cs ≡ decimal n)
    first true h is k =
        let both = both_of (is_digit c) (nat_lt (10 * 0 + (c - 48)) (2 ^ 64)) is in
        let range = digit_range c both.0 in
        let low : 48 ≤ c = range.0 in
        let high : c ≤ 57 = range.1 in
        let same : 48 + (10 * 0 + (c - 48)) ≡ c = omega arith in
        let alone : 10 * 0 + (c - 48) ≡ 0 → nat_lt 0 (length cs) ≡ false = λ z. sym (ap (λ b. b && nat_lt 0 (length cs)) (eq-eqb c 48 (omega (arith, z)))) ∙ h in
        let found = from_exact (10 * 0 + (c - 48)) cs n (omega arith) alone k in
        (found.0, ap (λ x. x ∷ cs) (sym same) ∙ found.1)
    first false h is k = absurd cc

    by : (b : Bool) → (eqb c 48 && nat_lt 0 (length cs)) ≡ b → cond b None (number_after 0 (c ∷ cs)) ≡ Some n → (n < 2 ^ 64) × (c ∷ cs ≡ decimal n)
    by true h k = absurd cc
    by false h k = first (is_digit c && nat_lt (10 * 0 + (c - 48)) (2 ^ 64)) h refl k
