-- Characters that stand in no text of an address.
use Rattle.std.proofs.Common.{◌≡◌, ◌≢◌, ℕ, suc, ◌+◌, ◌/◌, ◌%◌, ◌<◌, Bool, true, false, cond, eqb, nat_lt, List, [], ◌∷◌, ◌++◌, drop, refl, arith}
use Rattle.std.specs.Prelude.{codes}
use Rattle.std.specs.Fmt.{decimal}
use Rattle.std.proofs.lemmas.Bool.Decides.{nat_tests}
use Rattle.wire.specs.Octets.{IsText, octet}
use Rattle.wire.specs.Addr.{IsAddr}
use Rattle.wire.specs.declared.ip_udp.addr.Addr.{Addr}
use Rattle.wire.specs.declared.ip_udp.addr.Addr.TheVariants.{V4, V6}
use Rattle.endpoint_core.specs.Text.{hex_digit, hex_octet, ip4_text, grouped, addr_text}
use Rattle.line_words.proofs.Decimals.{IsNoDigit, lacks, lacks_decimal, lacks_more, lacks_one}

-- it stands in no address
pub record IsApart (s : ℕ) : Type 0 where
  pub digit : IsNoDigit s
  pub letter : (d : ℕ) → d < 16 → 87 + d ≢ s
  pub dot : 46 ≢ s
  pub colon : 58 ≢ s

pub space_apart : IsApart 32
space_apart = record { digit = λ d low e. omega (arith, e); letter = λ d low e. omega (arith, e); dot = λ e. omega (arith, e); colon = λ e. omega (arith, e) }

pub equals_apart : IsApart 61
equals_apart = record { digit = λ d low e. omega (arith, e); letter = λ d low e. omega (arith, e); dot = λ e. omega (arith, e); colon = λ e. omega (arith, e) }

pub p_apart : IsApart 112
p_apart = record { digit = λ d low e. omega (arith, e); letter = λ d low e. omega (arith, e); dot = λ e. omega (arith, e); colon = λ e. omega (arith, e) }

hex_lacks : (s d : ℕ) → IsApart s → d < 16 → lacks s (hex_digit d ∷ []) ≡ true
hex_lacks s d a low = by (nat_lt d 10) refl
  where
    by : (q : Bool) → nat_lt d 10 ≡ q → lacks s (cond q (48 + d) (87 + d) ∷ []) ≡ true
    by true e = lacks_one s (48 + d) (a.digit d (grind (arith, nat_tests)))
    by false e = lacks_one s (87 + d) (a.letter d low)

pub octet_lacks : (s n : ℕ) → IsApart s → n < 256 → lacks s (hex_octet n) ≡ true
octet_lacks s n a low = lacks_more s (hex_digit (n / 16) ∷ []) (hex_digit (n % 16) ∷ []) (hex_lacks s (n / 16) a (omega arith)) (hex_lacks s (n % 16) a (omega arith))

-- ---- IPv4

pub byte_lacks : (s : ℕ) (b : List ℕ) (i : ℕ) → IsNoDigit s → IsText b → lacks s (decimal (octet i b)) ≡ true
byte_lacks s b i digit t = lacks_decimal s (octet i b) digit (omega (arith, t i))

pub ip4_lacks : (s : ℕ) (b : List ℕ) → IsNoDigit s → 46 ≢ s → IsText b → lacks s (ip4_text b) ≡ true
ip4_lacks s b digit dot t =
    let point = lacks_one s 46 dot in
    lacks_more s (decimal (octet 0 b) ++ codes "." ++ decimal (octet 1 b) ++ codes "." ++ decimal (octet 2 b) ++ codes ".") (decimal (octet 3 b))
    (lacks_more s (decimal (octet 0 b) ++ codes "." ++ decimal (octet 1 b) ++ codes "." ++ decimal (octet 2 b)) (codes ".")
    (lacks_more s (decimal (octet 0 b) ++ codes "." ++ decimal (octet 1 b) ++ codes ".") (decimal (octet 2 b))
    (lacks_more s (decimal (octet 0 b) ++ codes "." ++ decimal (octet 1 b)) (codes ".")
    (lacks_more s (decimal (octet 0 b) ++ codes ".") (decimal (octet 1 b))
    (lacks_more s (decimal (octet 0 b)) (codes ".") (byte_lacks s b 0 digit t) point)
    (byte_lacks s b 1 digit t)) point) (byte_lacks s b 2 digit t)) point) (byte_lacks s b 3 digit t)

-- ---- IPv6

grouped_lacks : (s : ℕ) (b : List ℕ) → IsApart s → IsText b → lacks s (grouped b) ≡ true
grouped_lacks s [] a t = refl
grouped_lacks s (x ∷ []) a t = refl
grouped_lacks s (x ∷ y ∷ b) a t =
    lacks_more s (58 ∷ hex_octet x ++ hex_octet y) (grouped b)
    (lacks_more s (58 ∷ hex_octet x) (hex_octet y) (lacks_more s (58 ∷ []) (hex_octet x) (lacks_one s 58 a.colon) (octet_lacks s x a (t 0))) (octet_lacks s y a (t 1)))
    (grouped_lacks s b a (λ i. t (suc (suc i))))

tail_lacks : (s : ℕ) (t : List ℕ) → lacks s t ≡ true → lacks s (drop 1 t) ≡ true
tail_lacks s [] h = refl
tail_lacks s (c ∷ cs) h = by (eqb c s) h
  where
    by : (q : Bool) → cond q false (lacks s cs) ≡ true → lacks s cs ≡ true
    by true k = absurd cc
    by false k = k

-- ---- either

pub addr_lacks : (s : ℕ) (addr : Addr) → IsApart s → IsAddr addr → lacks s (addr_text addr) ≡ true
addr_lacks s (V4 b) a h = ip4_lacks s b a.digit a.dot h.1
addr_lacks s (V6 b) a h = tail_lacks s (grouped b) (grouped_lacks s b a h.1)
