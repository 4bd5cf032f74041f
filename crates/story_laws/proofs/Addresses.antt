-- The texts of addresses tell the addresses.
use Rattle.std.proofs.Common.{◌≡◌, ◌∙◌, refl, sym, ap, ℕ, zero, suc, ◌+◌, ◌/◌, ◌%◌, ◌<◌, arith, Bool, true, false, cond, nat_lt, List, [], ◌∷◌, ◌++◌, length, get_or, drop, append_assoc, append-nil}
use Rattle.std.specs.Fmt.{decimal}
use Rattle.std.specs.Prelude.{codes}
use Rattle.std.specs.List.{AllByRecursion}
use Rattle.std.proofs.lemmas.Bool.{ltb-true, ltb-false}
use Rattle.std.proofs.lemmas.Fmt.{decimal_injective}
use Rattle.std.proofs.lemmas.List.{ext_get_or}
use Rattle.wire.specs.Octets.{IsText, octet}
use Rattle.wire.specs.Addr.{IsAddr}
use Rattle.wire.specs.declared.ip_udp.addr.Addr.{Addr}
use Rattle.wire.specs.declared.ip_udp.addr.Addr.TheVariants.{V4, V6}
use Rattle.endpoint_core.specs.Text.{addr_text, grouped, hex_digit, hex_octet, ip4_text, ip6_text}
use Rattle.line_words.proofs.Decimals.{IsNoDigit, lacks_more, lacks_one}
use Rattle.part_lines.proofs.Addresses.{byte_lacks, ip4_lacks, octet_lacks, space_apart}
use Rattle.change_story.specs.Words.{behind_colons, mac_text}
use Rattle.story_laws.proofs.Words.{Lacks, spaced, same-words, lacks-none}

-- ---- hexadecimal digits

hex-same : (d f : ℕ) → d < 16 → f < 16 → hex_digit d ≡ hex_digit f → d ≡ f
hex-same d f low other e = by (nat_lt d 10) (nat_lt f 10) refl refl e
  where
    by : (p q : Bool) → nat_lt d 10 ≡ p → nat_lt f 10 ≡ q → cond p (48 + d) (87 + d) ≡ cond q (48 + f) (87 + f) → d ≡ f
    by true true is so e = omega (arith, e)
    by true false is so e = omega (arith, e, ltb-true d 10 is, ltb-false f 10 so)
    by false true is so e = omega (arith, e, ltb-false d 10 is, ltb-true f 10 so)
    by false false is so e = omega (arith, e)

octet-same : (a b : ℕ) → a < 256 → b < 256 → hex_digit (a / 16) ≡ hex_digit (b / 16) → hex_digit (a % 16) ≡ hex_digit (b % 16) → a ≡ b
octet-same a b small other high low =
    let q : a / 16 ≡ b / 16 = hex-same (a / 16) (b / 16) (omega arith) (omega arith) high in
    let r : a % 16 ≡ b % 16 = hex-same (a % 16) (b % 16) (omega arith) (omega arith) low in
    omega (arith, q, r)

-- ---- MAC addresses

behind_lacks : (mac : List ℕ) → IsText mac → Lacks 32 (behind_colons mac)
behind_lacks [] t = refl
behind_lacks (a ∷ b) t =
    lacks_more 32 (58 ∷ hex_octet a) (behind_colons b)
    (lacks_more 32 (58 ∷ []) (hex_octet a) (lacks_one 32 58 space_apart.colon) (octet_lacks 32 a space_apart (t 0))) (behind_lacks b (λ i. t (suc i)))

pub mac_lacks : (mac : List ℕ) → IsText mac → Lacks 32 (mac_text mac)
mac_lacks [] t = refl
mac_lacks (a ∷ b) t = lacks_more 32 (hex_octet a) (behind_colons b) (octet_lacks 32 a space_apart (t 0)) (behind_lacks b (λ i. t (suc i)))

behind-same : (a b : List ℕ) → IsText a → IsText b → behind_colons a ≡ behind_colons b → a ≡ b
behind-same [] [] t u e = refl
behind-same [] (y ∷ ys) t u e = absurd cc
behind-same (x ∷ xs) [] t u e = absurd cc
behind-same (x ∷ xs) (y ∷ ys) t u e =
    let head : x ≡ y = octet-same x y (t 0) (u 0) (ap (λ l. get_or l 1 0) e) (ap (λ l. get_or l 2 0) e) in
    let rest : xs ≡ ys = behind-same xs ys (λ i. t (suc i)) (λ i. u (suc i)) (ap (drop 3) e) in
    λ i. head i ∷ rest i

pub mac-same : (a b : List ℕ) → IsText a → IsText b → mac_text a ≡ mac_text b → a ≡ b
mac-same a b t u e = behind-same a b t u (behind a b e)
  where
    behind : (a b : List ℕ) → mac_text a ≡ mac_text b → behind_colons a ≡ behind_colons b
    behind [] [] e = refl
    behind [] (y ∷ ys) e = absurd cc
    behind (x ∷ xs) [] e = absurd cc
    behind (x ∷ xs) (y ∷ ys) e = ap (λ l. 58 ∷ l) e

-- ---- IPv4

-- its four decimals
abbrev parts : List ℕ → List (List ℕ)
parts b = decimal (octet 1 b) ∷ decimal (octet 2 b) ∷ decimal (octet 3 b) ∷ []

seven : (a p b q c r d : List ℕ) → a ++ p ++ b ++ q ++ c ++ r ++ d ≡ a ++ (p ++ (b ++ (q ++ (c ++ (r ++ d)))))
seven a p b q c r d = simp append_assoc

ip4-parts : (b : List ℕ) → ip4_text b ≡ decimal (octet 0 b) ++ spaced 46 (parts b)
ip4-parts b =
    seven (decimal (octet 0 b)) (codes ".") (decimal (octet 1 b)) (codes ".") (decimal (octet 2 b)) (codes ".") (decimal (octet 3 b))
    ∙ ap (λ t. decimal (octet 0 b) ++ (codes "." ++ (decimal (octet 1 b) ++ (codes "." ++ (decimal (octet 2 b) ++ (codes "." ++ t)))))) (sym (append-nil (decimal (octet 3 b))))

no_dot : IsNoDigit 46
no_dot d low e = omega (arith, e)

part_lacks : (b : List ℕ) → IsText b → AllByRecursion (Lacks 46) (decimal (octet 0 b) ∷ parts b)
part_lacks b t = (byte_lacks 46 b 0 no_dot t, (byte_lacks 46 b 1 no_dot t, (byte_lacks 46 b 2 no_dot t, (byte_lacks 46 b 3 no_dot t, tt))))

byte-same : (b c : List ℕ) (i : ℕ) → IsText b → IsText c → decimal (octet i b) ≡ decimal (octet i c) → octet i b ≡ octet i c
byte-same b c i t u e = decimal_injective (octet i b) (octet i c) (omega (arith, t i)) (omega (arith, u i)) e

four-octets : (b c : List ℕ) → length b ≡ 4 → length c ≡ 4 → octet 0 b ≡ octet 0 c → octet 1 b ≡ octet 1 c → octet 2 b ≡ octet 2 c → octet 3 b ≡ octet 3 c → b ≡ c
four-octets b c h k zeroth first second third = ext_get_or 0 b c (h ∙ sym k) each
  where
    each : (i : ℕ) → i < length b → get_or b i 0 ≡ get_or c i 0
    each zero lt = zeroth
    each (suc zero) lt = first
    each (suc (suc zero)) lt = second
    each (suc (suc (suc zero))) lt = third
    each (suc (suc (suc (suc i)))) lt = absurd (omega (arith, lt, h))

ip4-same : (b c : List ℕ) → IsAddr (V4 b) → IsAddr (V4 c) → ip4_text b ≡ ip4_text c → b ≡ c
ip4-same b c h k e =
    let same = same-words 46 (decimal (octet 0 b)) (decimal (octet 0 c)) (parts b) (parts c) (part_lacks b h.1) (part_lacks c k.1) (sym (ip4-parts b) ∙ e ∙ ip4-parts c) in
    four-octets b c h.0 k.0
    (byte-same b c 0 h.1 k.1 (ap (λ ws. get_or ws 0 []) same)) (byte-same b c 1 h.1 k.1 (ap (λ ws. get_or ws 1 []) same))
    (byte-same b c 2 h.1 k.1 (ap (λ ws. get_or ws 2 []) same)) (byte-same b c 3 h.1 k.1 (ap (λ ws. get_or ws 3 []) same))

-- ---- IPv6

grouped-same : (pairs : ℕ) (b c : List ℕ) → length b ≡ pairs + pairs → length c ≡ pairs + pairs → IsText b → IsText c → grouped b ≡ grouped c → b ≡ c
grouped-same pairs [] [] h k t u e = refl
grouped-same pairs [] (y ∷ ys) h k t u e = absurd (omega (arith, h, k))
grouped-same pairs (x ∷ xs) [] h k t u e = absurd (omega (arith, h, k))
grouped-same pairs (x ∷ []) (y ∷ ys) h k t u e = absurd (omega (arith, h))
grouped-same pairs (x ∷ z ∷ xs) (y ∷ []) h k t u e = absurd (omega (arith, k))
grouped-same zero (x ∷ z ∷ xs) (y ∷ w ∷ ys) h k t u e = absurd (omega (arith, h))
grouped-same (suc pairs) (x ∷ z ∷ xs) (y ∷ w ∷ ys) h k t u e =
    let one : x ≡ y = octet-same x y (t 0) (u 0) (ap (λ l. get_or l 1 0) e) (ap (λ l. get_or l 2 0) e) in
    let two : z ≡ w = octet-same z w (t 1) (u 1) (ap (λ l. get_or l 3 0) e) (ap (λ l. get_or l 4 0) e) in
    let rest : xs ≡ ys = grouped-same pairs xs ys (omega (arith, h)) (omega (arith, k)) (λ i. t (suc (suc i))) (λ i. u (suc (suc i))) (ap (drop 5) e) in
    λ i. one i ∷ two i ∷ rest i

ip6-same : (b c : List ℕ) → IsAddr (V6 b) → IsAddr (V6 c) → ip6_text b ≡ ip6_text c → b ≡ c
ip6-same [] c h k e = absurd (omega (arith, h.0))
ip6-same (x ∷ []) c h k e = absurd (omega (arith, h.0))
ip6-same (x ∷ z ∷ xs) [] h k e = absurd (omega (arith, k.0))
ip6-same (x ∷ z ∷ xs) (y ∷ []) h k e = absurd (omega (arith, k.0))
ip6-same (x ∷ z ∷ xs) (y ∷ w ∷ ys) h k e = grouped-same 8 (x ∷ z ∷ xs) (y ∷ w ∷ ys) (omega (arith, h.0)) (omega (arith, k.0)) h.1 k.1 (ap (λ l. 58 ∷ l) e)

-- ---- either

no_colon : IsNoDigit 58
no_colon d low e = omega (arith, e, low)

-- behind the first group of an IPv6 address stands a colon, which stands in no IPv4 address
colon-there : (b : List ℕ) → length b ≡ 16 → get_or (ip6_text b) 4 0 ≡ 58
colon-there [] h = absurd (omega (arith, h))
colon-there (x ∷ []) h = absurd (omega (arith, h))
colon-there (x ∷ y ∷ []) h = absurd (omega (arith, h))
colon-there (x ∷ y ∷ z ∷ []) h = absurd (omega (arith, h))
colon-there (x ∷ y ∷ z ∷ w ∷ b) h = refl

families : (b c : List ℕ) → IsAddr (V4 b) → IsAddr (V6 c) → ip4_text b ≡ ip6_text c → ⊥
families b c h k e =
    lacks-none 58 (ip4_text b) 4 (ip4_lacks 58 b no_colon (λ e. omega (arith, e)) h.1) (ap (λ t. get_or t 4 0) e ∙ colon-there c k.0) (omega arith)

pub addr-same : (a b : Addr) → IsAddr a → IsAddr b → addr_text a ≡ addr_text b → a ≡ b
addr-same (V4 b) (V4 c) h k e = ap V4 (ip4-same b c h k e)
addr-same (V4 b) (V6 c) h k e = absurd (families b c h k e)
addr-same (V6 b) (V4 c) h k e = absurd (families c b k h (sym e))
addr-same (V6 b) (V6 c) h k e = ap V6 (ip6-same b c h k e)
