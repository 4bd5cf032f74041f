-- What stands in a JSON string.
use Rattle.std.proofs.Common.{◌≡◌, ◌≢◌, ℕ, ◌/◌, ◌%◌, ◌<◌, ◌≤◌, Bool, true, false, eqb, List, [], ◌∷◌, ◌++◌, sym, refl, ap, ◌∙◌, arith}
use Rattle.std.specs.Prelude.{◌&&◌, not, nat_le, nat_lt}
use Rattle.std.specs.List.{list_all}
use Rattle.std.specs.Char.{digit_char}
use Rattle.std.proofs.lemmas.Bool.{cond-false, cond-true, eq-eqb, ne_eqb, leb-true, lt-ltb}
use Rattle.std.proofs.lemmas.Bool.Decides.{nat_tests}
use Rattle.std.proofs.lemmas.List.Concat.{flat_map-cons}
use Rattle.json.specs.Print.{escape, escape_byte, escape_letter}
use Rattle.json_lines.specs.Puts.{is_plain}

pub both : (a b : Bool) → (a && b) ≡ true → (a ≡ true) × (b ≡ true)
both true b h = (refl, h)
both false b h = absurd cc

not_less : (m n : ℕ) → n ≤ m → nat_lt m n ≡ false
not_less m n le = grind (arith, nat_tests)

high_test : (c k : ℕ) → 32 ≤ c → k < 32 → eqb c k ≡ false
high_test c k high low = ne_eqb c k (λ e. absurd (omega (arith, e, low, high)))

-- by the letter of a short escape
pub escape_lettered : (c l : ℕ) → l ≡ escape_letter c → 0 < l → escape_byte c ≡ 92 ∷ l ∷ []
unfolding escape_byte
escape_lettered c l is some =
    cond-true _ _ _ (lt-ltb 0 (escape_letter c) (omega (arith, is, some))) ∙ ap (λ k. 92 ∷ k ∷ []) (sym is)

pub escape_low : (c l : ℕ) → l ≡ escape_letter c → l ≤ 0 → c < 32 → escape_byte c ≡ 92 ∷ 117 ∷ 48 ∷ 48 ∷ digit_char (c / 16) ∷ digit_char (c % 16) ∷ []
unfolding escape_byte
escape_low c l is none low =
    let a : nat_lt 0 (escape_letter c) ≡ false = not_less 0 (escape_letter c) (omega (arith, is, none)) in
    cond-false _ _ _ a ∙ cond-true _ _ _ (lt-ltb c 32 low)

pub escape_high : (c l : ℕ) → l ≡ escape_letter c → l ≤ 0 → 32 ≤ c → escape_byte c ≡ c ∷ []
unfolding escape_byte
escape_high c l is none high =
    let a : nat_lt 0 (escape_letter c) ≡ false = not_less 0 (escape_letter c) (omega (arith, is, none)) in
    cond-false _ _ _ a ∙ cond-false _ _ _ (not_less c 32 high)

letter_none : (c : ℕ) → 32 ≤ c → c ≢ 34 → c ≢ 92 → 0 ≡ escape_letter c
letter_none c high quote slash =
    let a = ne_eqb c 34 quote in
    let b = ne_eqb c 92 slash in
    let d = high_test c 8 high (omega arith) in
    let e = high_test c 12 high (omega arith) in
    let f = high_test c 10 high (omega arith) in
    let g = high_test c 13 high (omega arith) in
    let h = high_test c 9 high (omega arith) in
    rw (a, b, d, e, f, g, h) refl

pub escape_same : (c : ℕ) → is_plain c ≡ true → escape_byte c ≡ c ∷ []
escape_same c plain =
    let high = both (nat_le 32 c) (not (eqb c 34) && not (eqb c 92)) plain in
    let others = both (not (eqb c 34)) (not (eqb c 92)) high.1 in
    escape_high c 0 (letter_none c (leb-true 32 c high.0) (is_not 34 others.0) (is_not 92 others.1)) (omega arith) (leb-true 32 c high.0)
  where
    is_not : (k : ℕ) → not (eqb c k) ≡ true → c ≢ k
    is_not k h e = let no : true ≡ false = sym h ∙ ap not (eq-eqb c k e) in absurd cc

pub escape_all : (text : List ℕ) → list_all is_plain text ≡ true → escape text ≡ text
escape_all [] h = refl
escape_all (c ∷ cs) h =
    let parts = both (is_plain c) (list_all is_plain cs) h in
    flat_map-cons escape_byte c cs ∙ ap (λ l. l ++ escape cs) (escape_same c parts.0) ∙ ap (λ l. c ∷ l) (escape_all cs parts.1)
