-- The texts of IPv4 addresses are those of std's grammar.
use Rattle.std.proofs.Common.{◌≡◌, ℕ, zero, suc, ◌+◌, ◌-◌, ◌*◌, ◌^◌, ◌<◌, ◌≤◌, true, false, nat_le, eqb, List, [], ◌∷◌, ◌++◌, length, get_or, Option, Some, None, Result, Ok, Err, option_map, option_and_then, decimal, refl, sym, ap, ◌∙◌, subst, arith, inl, inr, lit≤, le-leb, append_assoc}
use Rattle.std.specs.Prelude.{◌==◌}
use Rattle.std.proofs.lemmas.Bool.{cases_Bool, cases_lt, leb-true, eqb-true, eq-eqb, true≢false, ne_eqb, cond-true, cond-false, and_parts, and_from}
use Rattle.std.proofs.lemmas.Fmt.{decimal_is_IsNumeral, decimal_digit as one_digit, first_decimal, length-decimal-le, decimal-digits_value}
use Rattle.std.proofs.lemmas.Str.{digit_value_digit}
use Rattle.std.proofs.lemmas.Str.Parse.{digit_from_value, numerals_by_value, tells_digits}
use Rattle.std.specs.Char.{digit_value}
use Rattle.std.specs.Str.Parse.{AllDigits, digits_value, digits_value_after}
use Rattle.std.specs.Net.Text.{dotted_text}
use Rattle.std.specs.Net.Grammar.{IsDotted, IsIpv4Text, Parses}
use Rattle.std.specs.Net.Addr.{ipv4_octets}
use Rattle.std.specs.Result.{result_ok}
use Rattle.std.specs.declared.net.ipv4_addr.Ipv4Addr.{Ipv4Addr}
use Rattle.config_text.proofs.Steps.{same_Some, cond_some, cond_kept, cond_other, kept_some, then_some, map_some}
use Rattle.config_text.specs.Address.{is_within, kept_if, decimal_digit, number_after, number_of, has_leading_zero, decimal_octet, cut, parts_in, joined, exactly, ip4_of}

-- ---- one decimal

digit_sound : (c d : ℕ) → decimal_digit c ≡ Some d → (digit_value c < 10) × (digit_value c ≡ d)
digit_sound c d e =
    let k = cond_some (is_within 48 57 c) (c - 48) d e in
    let p = and_parts (nat_le 48 c) (nat_le c 57) k.0 in
    let low = leb-true 48 c p.0 in
    let high = leb-true c 57 p.1 in
    let same : digit_value c ≡ c - 48 = omega (arith, digit_value_digit c (low, high)) in
    (omega (arith, same), same ∙ k.1)

digit_complete : (c : ℕ) → digit_value c < 10 → decimal_digit c ≡ Some (digit_value c)
digit_complete c h =
    let k = digit_from_value c h in
    let same : c - 48 ≡ digit_value c = omega (arith, digit_value_digit c k) in
    cond-true _ _ _ (and_from _ _ (le-leb 48 c k.0) (le-leb c 57 k.1)) ∙ ap (λ (d : ℕ). Some d) same

-- numbers in a base, by what its digits write
module _ (base : ℕ) (digit : ℕ → Option ℕ) (sound : (c d : ℕ) → digit c ≡ Some d → (digit_value c < base) × (digit_value c ≡ d)) (complete : (c : ℕ) → digit_value c < base → digit c ≡ Some (digit_value c)) where
  pub number_sound : (m : ℕ) (t : List ℕ) (n : ℕ) → number_after base digit m t ≡ Some n → AllDigits base t × (digits_value_after base m t ≡ n)
  number_sound m [] n e = (tt, same_Some m n e)
  number_sound m (c ∷ cs) n e =
      let a = then_some (λ d. number_after base digit (base * m + d) cs) (digit c) n e in
      let d = sound c a.0 a.1 in
      let rest = number_sound (base * m + a.0) cs n a.2 in
      let next : m * base + digit_value c ≡ base * m + a.0 = omega (arith, d.1) in
      ((d.0, rest.0), ap (λ k. digits_value_after base k cs) next ∙ rest.1)

  pub number_complete : (m : ℕ) (t : List ℕ) → AllDigits base t → number_after base digit m t ≡ Some (digits_value_after base m t)
  number_complete m [] h = refl
  number_complete m (c ∷ cs) h =
      let next : base * m + digit_value c ≡ m * base + digit_value c = omega arith in
      ap (option_and_then (λ d. number_after base digit (base * m + d) cs)) (complete c h.0)
      ∙ ap (λ k. number_after base digit k cs) next
      ∙ number_complete (m * base + digit_value c) cs h.1

alone : (t : List ℕ) → 0 < length t → has_leading_zero t ≡ false → get_or t 0 0 ≡ 48 → length t ≡ 1
alone [] some h e = absurd (omega arith)
alone (c ∷ []) some h e = refl
alone (c ∷ d ∷ cs) some h e = absurd (true≢false (sym (eq-eqb c 48 e) ∙ h))

no_leading_zero : (t : List ℕ) → 48 < get_or t 0 0 → has_leading_zero t ≡ false
no_leading_zero [] h = refl
no_leading_zero (c ∷ []) h = refl
no_leading_zero (c ∷ d ∷ cs) h = ne_eqb c 48 (λ e. omega (arith, h, e))

octet_sound : (t : List ℕ) (n : ℕ) → decimal_octet t ≡ Some n → (n < 256) × (t ≡ decimal n)
octet_sound t n e =
    let a = cond_other (has_leading_zero t) _ n e in
    let b = kept_some (λ x. nat_le x 255) (number_of 10 decimal_digit 1 3 t) n a.1 in
    let few = leb-true n 255 b.1 in
    let c = cond_kept (is_within 1 3 (length t)) _ n b.0 in
    let p = and_parts (nat_le 1 (length t)) (nat_le (length t) 3) c.0 in
    let some = leb-true 1 (length t) p.0 in
    let d = number_sound 10 decimal_digit digit_sound digit_complete 0 t n c.1 in
    let small : digits_value 10 t < 2 ^ 64 = omega (arith, few, d.1) in
    let spelled : decimal (digits_value 10 t) ≡ t = decimal-digits_value (numerals_by_value _ tells_digits) t d.0 some (alone t some a.0) small in
    (omega (arith, few), sym spelled ∙ ap decimal d.1)

leads : (n : ℕ) → n < 256 → has_leading_zero (decimal n) ≡ false
leads n h = elim (cases_lt n 10) [
  | inl one ↦ ap has_leading_zero (one_digit n one)
  | inr more ↦ no_leading_zero (decimal n) (first_decimal n (omega arith) (omega arith))
]

octet_complete : (n : ℕ) → n < 256 → decimal_octet (decimal n) ≡ Some n
octet_complete n h =
    let k = decimal_is_IsNumeral n (omega arith) in
    let short : length (decimal n) ≤ 3 = length-decimal-le 3 n (lit≤ tt) (omega arith) (omega arith) in
    let within : is_within 1 3 (length (decimal n)) ≡ true = and_from _ _ (le-leb 1 (length (decimal n)) k.0.0) (le-leb (length (decimal n)) 3 short) in
    let read : number_of 10 decimal_digit 1 3 (decimal n) ≡ Some n = cond-true _ _ _ within ∙ number_complete 10 decimal_digit digit_sound digit_complete 0 (decimal n) k.0.1 ∙ ap Some k.1 in
    cond-false _ _ _ (leads n h) ∙ ap (kept_if (λ x. nat_le x 255)) read ∙ cond-true _ _ _ (le-leb n 255 (omega arith))

-- ---- decimals with dots between them

abbrev AreOctets : List ℕ → Type 0
AreOctets [] = Unit {0}
AreOctets (x ∷ xs) = (x < 256) × AreOctets xs

-- their text
abbrev spelled : List ℕ → List ℕ
spelled [] = []
spelled (x ∷ []) = decimal x
spelled (x ∷ y ∷ ys) = decimal x ++ 46 ∷ spelled (y ∷ ys)

not_dot : (c : ℕ) → digit_value c < 10 → eqb c 46 ≡ false
not_dot c h = let k = digit_from_value c h in ne_eqb c 46 (λ e. omega (arith, k.0, e))

-- a separator that is no digit of the base
module _ (base s : ℕ) (other : (c : ℕ) → digit_value c < base → eqb c s ≡ false) where
  pub cut_digits : (xs ys : List ℕ) → AllDigits base xs → cut s (xs ++ s ∷ ys) ≡ Some (xs, ys)
  cut_digits [] ys h = cond-true _ _ _ (eq-eqb s s refl)
  cut_digits (c ∷ cs) ys h = cond-false _ _ _ (other c h.0) ∙ ap (option_map (λ k. (c ∷ k.0, k.1))) (cut_digits cs ys h.1)

  pub cut_no_digits : (xs : List ℕ) → AllDigits base xs → cut s xs ≡ None
  cut_no_digits [] h = refl
  cut_no_digits (c ∷ cs) h = cond-false _ _ _ (other c h.0) ∙ ap (option_map (λ k. (c ∷ k.0, k.1))) (cut_no_digits cs h.1)

pub cut_sound : (s : ℕ) (t : List ℕ) (h : List ℕ × List ℕ) → cut s t ≡ Some h → t ≡ h.0 ++ s ∷ h.1
cut_sound s [] h e = absurd cc
cut_sound s (c ∷ cs) h e =
    elim (cases_Bool (eqb c s)) [
      | inl here ↦ let same : ([], cs) ≡ h = same_Some _ h (sym (cond-true _ _ _ here) ∙ e) in ap (λ (x : ℕ). x ∷ cs) (eqb-true c s here) ∙ ap (λ (k : List ℕ × List ℕ). k.0 ++ s ∷ k.1) same
      | inr other ↦
          let k = map_some (λ (k : List ℕ × List ℕ). (c ∷ k.0, k.1)) (cut s cs) h (sym (cond-false _ _ _ other) ∙ e) in
          ap (λ (x : List ℕ). c ∷ x) (cut_sound s cs k.0 k.1) ∙ ap (λ (k : List ℕ × List ℕ). k.0 ++ s ∷ k.1) k.2
    ]

spelled_more : (x : ℕ) (ys : List ℕ) → 0 < length ys → decimal x ++ 46 ∷ spelled ys ≡ spelled (x ∷ ys)
spelled_more x [] some = absurd (omega arith)
spelled_more x (y ∷ ys) some = refl

-- what so many decimals are the text of
record AreSpelled (t xs : List ℕ) : Type 0 where
  octets : AreOctets xs
  text : t ≡ spelled xs
  some : 0 < length xs

-- one decimal, or one with more behind a dot
parts_sound : (more : List ℕ → Option (List ℕ)) → ((t xs : List ℕ) → more t ≡ Some xs → AreSpelled t xs) → (t xs : List ℕ) (o : Option (List ℕ × List ℕ)) → cut 46 t ≡ o → parts_in decimal_octet more t o ≡ Some xs → AreSpelled t xs
parts_sound more sound t xs None is e =
    let a = map_some (λ x. x ∷ []) (decimal_octet t) xs e in
    let k = octet_sound t a.0 a.1 in
    subst (AreSpelled t) a.2 (record { octets = (k.0, tt); text = k.1; some = omega arith })
parts_sound more sound t xs (Some h) is e =
    let a = then_some (λ x. option_map (λ ys. x ∷ ys) (more h.1)) (decimal_octet h.0) xs e in
    let b = map_some (λ ys. a.0 ∷ ys) (more h.1) xs a.2 in
    let k = octet_sound h.0 a.0 a.1 in
    let rest = sound h.1 b.0 b.1 in
    let text : t ≡ spelled (a.0 ∷ b.0) = cut_sound 46 t h is ∙ ap (λ (x : List ℕ). x ++ 46 ∷ h.1) k.1 ∙ ap (λ (x : List ℕ). decimal a.0 ++ 46 ∷ x) rest.text ∙ spelled_more a.0 b.0 rest.some in
    subst (AreSpelled t) b.2 (record { octets = (k.0, rest.octets); text = text; some = omega arith })

joined_sound : (n : ℕ) (t xs : List ℕ) → joined decimal_octet 46 n t ≡ Some xs → AreSpelled t xs
unfolding joined
joined_sound zero t xs e = absurd cc
joined_sound (suc n) t xs e = parts_sound (joined decimal_octet 46 n) (joined_sound n) t xs (cut 46 t) refl e

joined_complete : (n : ℕ) (xs : List ℕ) → length xs ≤ n → 0 < length xs → AreOctets xs → joined decimal_octet 46 n (spelled xs) ≡ Some xs
unfolding joined
joined_complete n [] most some h = absurd (omega arith)
joined_complete zero (x ∷ xs) most some h = absurd (omega arith)
joined_complete (suc n) (x ∷ []) most some h =
    let k = decimal_is_IsNumeral x (omega (arith, h.0)) in
    ap (parts_in decimal_octet (joined decimal_octet 46 n) (decimal x)) (cut_no_digits 10 46 not_dot (decimal x) k.0.1) ∙ ap (option_map (λ y. y ∷ [])) (octet_complete x h.0)
joined_complete (suc n) (x ∷ y ∷ ys) most some h =
    let k = decimal_is_IsNumeral x (omega (arith, h.0)) in
    let rest = joined_complete n (y ∷ ys) (omega arith) (omega arith) h.1 in
    ap (parts_in decimal_octet (joined decimal_octet 46 n) (spelled (x ∷ y ∷ ys))) (cut_digits 10 46 not_dot (decimal x) (spelled (y ∷ ys)) k.0.1)
    ∙ ap (option_and_then (λ z. option_map (λ zs. z ∷ zs) (joined decimal_octet 46 n (spelled (y ∷ ys))))) (octet_complete x h.0)
    ∙ ap (option_map (λ zs. x ∷ zs)) rest

-- ---- addresses

dotted_is : (a b c d : ℕ) → dotted_text a b c d ≡ spelled (a ∷ b ∷ c ∷ d ∷ [])
dotted_is a b c d = simp append_assoc

four_dotted : (t xs : List ℕ) → length xs ≡ 4 → AreSpelled t xs → IsDotted t xs
four_dotted t [] len h = absurd (omega arith)
four_dotted t (a ∷ []) len h = absurd (omega arith)
four_dotted t (a ∷ b ∷ []) len h = absurd (omega arith)
four_dotted t (a ∷ b ∷ c ∷ []) len h = absurd (omega arith)
four_dotted t (a ∷ b ∷ c ∷ d ∷ []) len h =
    record { a = a; b = b; c = c; d = d; fit = (h.octets.0, h.octets.1.0, h.octets.1.1.0, h.octets.1.1.1.0); value = refl; spelled = h.text ∙ sym (dotted_is a b c d) }
four_dotted t (a ∷ b ∷ c ∷ d ∷ e ∷ xs) len h = absurd (omega arith)

-- a text that is read is in the grammar
ip4_sound : (t x : List ℕ) → ip4_of t ≡ Some x → IsDotted t x
unfolding ip4_of
ip4_sound t x e =
    let k = kept_some (λ xs. length xs == 4) (joined decimal_octet 46 8 t) x e in
    four_dotted t x (eqb-true (length x) 4 k.1) (joined_sound 8 t x k.0)

-- a text of the grammar is read
ip4_complete : (t x : List ℕ) → IsDotted t x → ip4_of t ≡ Some x
unfolding ip4_of
ip4_complete t x h =
    let xs = h.a ∷ h.b ∷ h.c ∷ h.d ∷ [] in
    let read : joined decimal_octet 46 8 t ≡ Some xs = ap (joined decimal_octet 46 8) (h.spelled ∙ dotted_is h.a h.b h.c h.d) ∙ joined_complete 8 xs (lit≤ tt) (lit≤ tt) (h.fit.0, (h.fit.1, (h.fit.2, (h.fit.3, tt)))) in
    ap (exactly 4) read ∙ ap Some (sym h.value)

-- a text that isn't in the grammar is not read
ip4_none : (t : List ℕ) → ((a : Ipv4Addr) → ¬ (IsIpv4Text t a)) → ip4_of t ≡ None
ip4_none t other = by (ip4_of t) refl
  where
    by : (o : Option (List ℕ)) → ip4_of t ≡ o → ip4_of t ≡ None
    by None e = e
    by (Some x) e = absurd (other (record { octets = x }) (ip4_sound t x e))

-- what std's parser answers is what the text writes
pub ip4_parsed : {E : Type 0} (t : List ℕ) (r : Result Ipv4Addr E) → Parses IsIpv4Text t r → option_map ipv4_octets (result_ok r) ≡ ip4_of t
ip4_parsed t (Ok a) h = sym (ip4_complete t (ipv4_octets a) h)
ip4_parsed t (Err e) h = sym (ip4_none t h)

-- a dot stands in each of them
pub dotted_splits : (t x : List ℕ) → IsDotted t x → (front back : List ℕ) × (t ≡ front ++ 46 ∷ back)
dotted_splits t x h = (decimal h.a, spelled (h.b ∷ h.c ∷ h.d ∷ []), h.spelled ∙ dotted_is h.a h.b h.c h.d)
