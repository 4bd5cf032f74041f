-- Addresses that are written are read back.
use Rattle.std.proofs.Common.{◌≡◌, ◌≢◌, ◌∙◌, ap, refl, ℕ, ◌+◌, ◌-◌, ◌*◌, ◌/◌, ◌%◌, ◌<◌, ◌≤◌, ◌⊎◌, inl, inr, Bool, true, false, cond, eqb, nat_lt, List, [], ◌∷◌, ◌++◌, length, length-append, append_assoc, drop, Some, arith}
use Rattle.std.specs.Fmt.{decimal}
use Rattle.std.specs.Option.{option_and_then}
use Rattle.std.proofs.lemmas.Bool.{cases_lt, cond-true, cond-false, le-ltb, lt-ltb, ne_eqb}
use Rattle.std.proofs.lemmas.Fmt.{length-decimal-le}
use Rattle.wire.specs.Octets.{IsText, octet}
use Rattle.wire.specs.Addr.{IsAddr}
use Rattle.wire.specs.declared.ip_udp.addr.Addr.{Addr}
use Rattle.wire.specs.declared.ip_udp.addr.Addr.TheVariants.{V4, V6}
use Rattle.endpoint_core.specs.Text.{addr_text, grouped, hex_digit, ip4_text, ip6_text}
use Rattle.line_words.proofs.Decimals.{lacks, lacks_decimal, lacks_more, octet_decimal}
use Rattle.line_words.proofs.Fronts.{before_stop, behind_stop}
use Rattle.tunnel_traffic.specs.Address.{addr_of, back, decimal_octet, front, hex_value, ip4_of}

-- ---- digits

hex_back : (d : ℕ) → d < 16 → hex_value (hex_digit d) ≡ d
hex_back d low = by (cases_lt d 10)
  where
    by : (d < 10) ⊎ (10 ≤ d) → hex_value (hex_digit d) ≡ d
    by (inl lt) =
        let same : (48 + d - 48) % 16 ≡ d = omega (arith, lt) in
        ap hex_value (cond-true _ _ _ (lt-ltb d 10 lt)) ∙ cond-true _ _ _ (lt-ltb (48 + d) 58 (omega (arith, lt))) ∙ same
    by (inr ge) =
        let same : (87 + d - 87) % 16 ≡ d = omega (arith, low) in
        ap hex_value (cond-false _ _ _ (le-ltb d 10 ge)) ∙ cond-false _ _ _ (le-ltb (87 + d) 58 (omega (arith, ge))) ∙ same

pair_back : (n : ℕ) → n < 256 → 16 * hex_value (hex_digit (n / 16)) + hex_value (hex_digit (n % 16)) ≡ n
pair_back n low =
    let high : n / 16 < 16 = omega (arith, low) in
    let rest : n % 16 < 16 = omega arith in
    let same : 16 * (n / 16) + n % 16 ≡ n = omega arith in
    (λ i. 16 * hex_back (n / 16) high i + hex_back (n % 16) rest i) ∙ same

-- ---- four decimals

no_dot : (n : ℕ) → n < 256 → lacks 46 (decimal n) ≡ true
no_dot n low = lacks_decimal 46 n (λ d under is. absurd (omega (arith, is))) (omega (arith, low))

few : (n : ℕ) → n < 256 → length (decimal n) ≤ 3
few n low = length-decimal-le 3 n (omega (arith, low)) (omega (arith, low)) (omega (arith, low))

module _ (a b c d : ℕ) (la : a < 256) (lb : b < 256) (lc : c < 256) (ld : d < 256) where
  abbrev third : List ℕ
  third = decimal c ++ 46 ∷ decimal d

  abbrev second : List ℕ
  second = decimal b ++ 46 ∷ third

  abbrev whole : List ℕ
  whole = decimal a ++ 46 ∷ second

  ip4_short : length whole ≢ 39
  ip4_short is =
      absurd (omega (arith, is, few a la, few b lb, few c lc, few d ld, length-append (decimal a) (46 ∷ second), length-append (decimal b) (46 ∷ third), length-append (decimal c) (46 ∷ decimal d)))

  ip4_back : ip4_of whole ≡ Some (V4 (a ∷ b ∷ c ∷ d ∷ []))
  ip4_back =
      let one : back 46 whole ≡ second = behind_stop 46 (decimal a) second (no_dot a la) in
      let two : back 46 (back 46 whole) ≡ third = ap (back 46) one ∙ behind_stop 46 (decimal b) third (no_dot b lb) in
      let three : back 46 (back 46 (back 46 whole)) ≡ decimal d = ap (back 46) two ∙ behind_stop 46 (decimal c) (decimal d) (no_dot c lc) in
      let ra : decimal_octet (front 46 whole) ≡ Some a = ap decimal_octet (before_stop 46 (decimal a) second (no_dot a la)) ∙ octet_decimal a la in
      let rb : decimal_octet (front 46 (back 46 whole)) ≡ Some b = ap (λ l. decimal_octet (front 46 l)) one ∙ ap decimal_octet (before_stop 46 (decimal b) third (no_dot b lb)) ∙ octet_decimal b lb in
      let rc : decimal_octet (front 46 (back 46 (back 46 whole))) ≡ Some c = ap (λ l. decimal_octet (front 46 l)) two ∙ ap decimal_octet (before_stop 46 (decimal c) (decimal d) (no_dot c lc)) ∙ octet_decimal c lc in
      let rd : decimal_octet (back 46 (back 46 (back 46 whole))) ≡ Some d = ap decimal_octet three ∙ octet_decimal d ld in
      λ i. option_and_then (λ w. option_and_then (λ x. option_and_then (λ y. option_and_then (λ z. Some (V4 (w ∷ x ∷ y ∷ z ∷ []))) (rd i)) (rc i)) (rb i)) (ra i)

  ip4_read : addr_of whole ≡ Some (V4 (a ∷ b ∷ c ∷ d ∷ []))
  ip4_read = cond-false _ _ _ (ne_eqb (length whole) 39 ip4_short) ∙ ip4_back

flat_ip4 : (a b c d : List ℕ) → a ++ (46 ∷ []) ++ b ++ (46 ∷ []) ++ c ++ (46 ∷ []) ++ d ≡ a ++ 46 ∷ (b ++ 46 ∷ (c ++ 46 ∷ d))
flat_ip4 a b c d = simp append_assoc refl

ip4_whole : (b : List ℕ) → length b ≡ 4 → IsText b → addr_of (ip4_text b) ≡ Some (V4 b)
ip4_whole (a ∷ b ∷ c ∷ d ∷ []) long text = ap addr_of (flat_ip4 (decimal a) (decimal b) (decimal c) (decimal d)) ∙ ip4_read a b c d (text 0) (text 1) (text 2) (text 3)
ip4_whole [] long text = absurd (omega (arith, long))
ip4_whole (x0 ∷ []) long text = absurd (omega (arith, long))
ip4_whole (x0 ∷ x1 ∷ []) long text = absurd (omega (arith, long))
ip4_whole (x0 ∷ x1 ∷ x2 ∷ []) long text = absurd (omega (arith, long))
ip4_whole (x0 ∷ x1 ∷ x2 ∷ x3 ∷ x4 ∷ xs) long text = absurd (omega (arith, long))

-- ---- eight groups

ip6_whole : (b : List ℕ) → length b ≡ 16 → IsText b → addr_of (ip6_text b) ≡ Some (V6 b)
ip6_whole (b0 ∷ b1 ∷ b2 ∷ b3 ∷ b4 ∷ b5 ∷ b6 ∷ b7 ∷ b8 ∷ b9 ∷ b10 ∷ b11 ∷ b12 ∷ b13 ∷ b14 ∷ b15 ∷ []) long text =
    λ i. Some (V6 (pair_back b0 (text 0) i ∷ pair_back b1 (text 1) i ∷ pair_back b2 (text 2) i ∷ pair_back b3 (text 3) i ∷ pair_back b4 (text 4) i ∷ pair_back b5 (text 5) i ∷ pair_back b6 (text 6) i ∷ pair_back b7 (text 7) i ∷ pair_back b8 (text 8) i ∷ pair_back b9 (text 9) i ∷ pair_back b10 (text 10) i ∷ pair_back b11 (text 11) i ∷ pair_back b12 (text 12) i ∷ pair_back b13 (text 13) i ∷ pair_back b14 (text 14) i ∷ pair_back b15 (text 15) i ∷ []))
ip6_whole [] long text = absurd (omega (arith, long))
ip6_whole (x0 ∷ []) long text = absurd (omega (arith, long))
ip6_whole (x0 ∷ x1 ∷ []) long text = absurd (omega (arith, long))
ip6_whole (x0 ∷ x1 ∷ x2 ∷ []) long text = absurd (omega (arith, long))
ip6_whole (x0 ∷ x1 ∷ x2 ∷ x3 ∷ []) long text = absurd (omega (arith, long))
ip6_whole (x0 ∷ x1 ∷ x2 ∷ x3 ∷ x4 ∷ []) long text = absurd (omega (arith, long))
ip6_whole (x0 ∷ x1 ∷ x2 ∷ x3 ∷ x4 ∷ x5 ∷ []) long text = absurd (omega (arith, long))
ip6_whole (x0 ∷ x1 ∷ x2 ∷ x3 ∷ x4 ∷ x5 ∷ x6 ∷ []) long text = absurd (omega (arith, long))
ip6_whole (x0 ∷ x1 ∷ x2 ∷ x3 ∷ x4 ∷ x5 ∷ x6 ∷ x7 ∷ []) long text = absurd (omega (arith, long))
ip6_whole (x0 ∷ x1 ∷ x2 ∷ x3 ∷ x4 ∷ x5 ∷ x6 ∷ x7 ∷ x8 ∷ []) long text = absurd (omega (arith, long))
ip6_whole (x0 ∷ x1 ∷ x2 ∷ x3 ∷ x4 ∷ x5 ∷ x6 ∷ x7 ∷ x8 ∷ x9 ∷ []) long text = absurd (omega (arith, long))
ip6_whole (x0 ∷ x1 ∷ x2 ∷ x3 ∷ x4 ∷ x5 ∷ x6 ∷ x7 ∷ x8 ∷ x9 ∷ x10 ∷ []) long text = absurd (omega (arith, long))
ip6_whole (x0 ∷ x1 ∷ x2 ∷ x3 ∷ x4 ∷ x5 ∷ x6 ∷ x7 ∷ x8 ∷ x9 ∷ x10 ∷ x11 ∷ []) long text = absurd (omega (arith, long))
ip6_whole (x0 ∷ x1 ∷ x2 ∷ x3 ∷ x4 ∷ x5 ∷ x6 ∷ x7 ∷ x8 ∷ x9 ∷ x10 ∷ x11 ∷ x12 ∷ []) long text = absurd (omega (arith, long))
ip6_whole (x0 ∷ x1 ∷ x2 ∷ x3 ∷ x4 ∷ x5 ∷ x6 ∷ x7 ∷ x8 ∷ x9 ∷ x10 ∷ x11 ∷ x12 ∷ x13 ∷ []) long text = absurd (omega (arith, long))
ip6_whole (x0 ∷ x1 ∷ x2 ∷ x3 ∷ x4 ∷ x5 ∷ x6 ∷ x7 ∷ x8 ∷ x9 ∷ x10 ∷ x11 ∷ x12 ∷ x13 ∷ x14 ∷ []) long text = absurd (omega (arith, long))
ip6_whole (x0 ∷ x1 ∷ x2 ∷ x3 ∷ x4 ∷ x5 ∷ x6 ∷ x7 ∷ x8 ∷ x9 ∷ x10 ∷ x11 ∷ x12 ∷ x13 ∷ x14 ∷ x15 ∷ x16 ∷ xs) long text = absurd (omega (arith, long))

-- ---- of either family

pub addr_back : (a : Addr) → IsAddr a → addr_of (addr_text a) ≡ Some a
addr_back (V4 b) is = ip4_whole b is.0 is.1
addr_back (V6 b) is = ip6_whole b is.0 is.1

-- ---- characters that stand in no address

-- below the digits and no point: a line feed, or a space
pub record IsOutside (s : ℕ) : Type 0 where
  pub low : s < 46

module _ (s : ℕ) (outside : IsOutside s) where
  no_digit : (d : ℕ) → d < 10 → 48 + d ≢ s
  no_digit d under is = absurd (omega (arith, is, outside.low))

  hex_other : (d : ℕ) → hex_digit d ≢ s
  hex_other d is = by (cases_lt d 10)
    where
      by : (d < 10) ⊎ (10 ≤ d) → ⊥
      by (inl lt) = omega (arith, is, outside.low, cond-true (nat_lt d 10) (48 + d) (87 + d) (lt-ltb d 10 lt))
      by (inr ge) = omega (arith, is, outside.low, cond-false (nat_lt d 10) (48 + d) (87 + d) (le-ltb d 10 ge))

  lacks_next : (c : ℕ) (cs : List ℕ) → c ≢ s → lacks s cs ≡ true → lacks s (c ∷ cs) ≡ true
  lacks_next c cs other rest = cond-false _ _ _ (ne_eqb c s other) ∙ rest

  lacks_grouped : (b : List ℕ) → lacks s (grouped b) ≡ true
  lacks_grouped [] = refl
  lacks_grouped (x ∷ []) = refl
  lacks_grouped (x ∷ y ∷ rest) =
      let l4 : List ℕ = hex_digit (y % 16) ∷ grouped rest in
      let l3 : List ℕ = hex_digit (y / 16) ∷ l4 in
      let l2 : List ℕ = hex_digit (x % 16) ∷ l3 in
      let l1 : List ℕ = hex_digit (x / 16) ∷ l2 in
      let h4 : lacks s l4 ≡ true = lacks_next (hex_digit (y % 16)) (grouped rest) (hex_other (y % 16)) (lacks_grouped rest) in
      let h3 : lacks s l3 ≡ true = lacks_next (hex_digit (y / 16)) l4 (hex_other (y / 16)) h4 in
      let h2 : lacks s l2 ≡ true = lacks_next (hex_digit (x % 16)) l3 (hex_other (x % 16)) h3 in
      lacks_next 58 l1 (λ is. absurd (omega (arith, is, outside.low))) (lacks_next (hex_digit (x / 16)) l2 (hex_other (x / 16)) h2)

  lacks_rest : (l : List ℕ) → lacks s l ≡ true → lacks s (drop 1 l) ≡ true
  lacks_rest [] h = refl
  lacks_rest (c ∷ cs) h = by (eqb c s) h
    where
      by : (q : Bool) → cond q false (lacks s cs) ≡ true → lacks s cs ≡ true
      by true k = absurd cc
      by false k = k

  lacks_octet : (n : ℕ) → n < 256 → lacks s (decimal n) ≡ true
  lacks_octet n low = lacks_decimal s n no_digit (omega (arith, low))

  no_point : 46 ≢ s
  no_point is = absurd (omega (arith, is, outside.low))

  lacks_four : (a b c d : ℕ) → a < 256 → b < 256 → c < 256 → d < 256 → lacks s (decimal a ++ 46 ∷ (decimal b ++ 46 ∷ (decimal c ++ 46 ∷ decimal d))) ≡ true
  lacks_four a b c d la lb lc ld =
      let l3 : List ℕ = decimal c ++ 46 ∷ decimal d in
      let l2 : List ℕ = decimal b ++ 46 ∷ l3 in
      let h3 : lacks s l3 ≡ true = lacks_more s (decimal c) (46 ∷ decimal d) (lacks_octet c lc) (lacks_next 46 (decimal d) no_point (lacks_octet d ld)) in
      let h2 : lacks s l2 ≡ true = lacks_more s (decimal b) (46 ∷ l3) (lacks_octet b lb) (lacks_next 46 l3 no_point h3) in
      lacks_more s (decimal a) (46 ∷ l2) (lacks_octet a la) (lacks_next 46 l2 no_point h2)

  lacks_ip4 : (b : List ℕ) → IsText b → lacks s (ip4_text b) ≡ true
  lacks_ip4 b text =
      ap (lacks s) (flat_ip4 (decimal (octet 0 b)) (decimal (octet 1 b)) (decimal (octet 2 b)) (decimal (octet 3 b)))
      ∙ lacks_four (octet 0 b) (octet 1 b) (octet 2 b) (octet 3 b) (text 0) (text 1) (text 2) (text 3)

  pub lacks_addr : (a : Addr) → IsAddr a → lacks s (addr_text a) ≡ true
  lacks_addr (V4 b) is = lacks_ip4 b is.1
  lacks_addr (V6 b) is = lacks_rest (grouped b) (lacks_grouped b)
