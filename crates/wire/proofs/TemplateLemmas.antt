-- What a blank head tells.
use Rattle.std.proofs.Common.{◌≡◌, ℕ, zero, suc, ◌+◌, ◌*◌, ◌/◌, ◌%◌, ◌<◌, List, [], ◌∷◌, ◌++◌, length, take, drop, refl, sym, ap, ◌∙◌, subst, arith}
use Rattle.std.proofs.lemmas.List.{length-take, length-drop, length-append}
use Rattle.wire.specs.Octets.{octet, part}
use Rattle.wire.specs.OuterTemplate.{Fixed, blank4, fixed4, blank6, fixed6}

-- the octets of a text one by one
abbrev pub cells : ℕ → List ℕ → List ℕ
cells zero b = []
cells (suc n) b = octet 0 b ∷ cells n (drop 1 b)

pub cells-is : (n : ℕ) (b : List ℕ) → length b ≡ n → cells n b ≡ b
cells-is zero [] e = refl
cells-is zero (x ∷ b) e = absurd (omega (arith, e))
cells-is (suc n) [] e = absurd (omega (arith, e))
cells-is (suc n) (x ∷ b) e = ap (λ (r : List ℕ). x ∷ r) (cells-is n b (omega (arith, e)))

-- a number of 16 bits from its octets
whole2 : (n : ℕ) → n < 65536 → n / 256 % 256 * 256 + (n % 256 * 1 + 0) ≡ n
whole2 n h = omega (arith, h)

-- what holds of the octets one by one holds of next hop, own MAC address, own address and tunnel header
pub by_cells : (n : ℕ) (P : List ℕ → List ℕ → List ℕ → List ℕ → Type 0) (hop mac src tunnel : List ℕ) → length hop ≡ 6 → length mac ≡ 6 → length src ≡ n → length tunnel ≡ 8
    → P (cells 6 hop) (cells 6 mac) (cells n src) (cells 8 tunnel) → P hop mac src tunnel
by_cells n P hop mac src tunnel h m s u one =
    subst (λ (e : List ℕ). P hop mac src e) (cells-is 8 tunnel u)
    (subst (λ (c : List ℕ). P hop mac c (cells 8 tunnel)) (cells-is n src s)
    (subst (λ (b : List ℕ). P hop b (cells n src) (cells 8 tunnel)) (cells-is 6 mac m)
    (subst (λ (a : List ℕ). P a (cells 6 mac) (cells n src) (cells 8 tunnel)) (cells-is 6 hop h) one)))

-- what a head tells
abbrev telling : ℕ → ℕ → List ℕ → List ℕ → List ℕ → List ℕ → Fixed
telling ttl dport hop mac src tunnel = record { next_hop = hop; mac = mac; ttl = ttl; src = src; dport = dport; tunnel = tunnel }

pub fixed4-blank : (hop mac src tunnel : List ℕ) (ttl dport : ℕ) → length hop ≡ 6 → length mac ≡ 6 → length src ≡ 4 → length tunnel ≡ 8 → dport < 65536
    → let t : Fixed = record { next_hop = hop; mac = mac; ttl = ttl; src = src; dport = dport; tunnel = tunnel } in fixed4 (blank4 t) ≡ t
fixed4-blank hop mac src tunnel ttl dport h m s u d =
    by_cells 4 (λ a b c e. fixed4 (blank4 (telling ttl dport a b c e)) ≡ telling ttl dport a b c e) hop mac src tunnel h m s u
    (ap (λ (n : ℕ). telling ttl n (cells 6 hop) (cells 6 mac) (cells 4 src) (cells 8 tunnel)) (whole2 dport d))

pub fixed6-blank : (hop mac src tunnel : List ℕ) (ttl dport : ℕ) → length hop ≡ 6 → length mac ≡ 6 → length src ≡ 16 → length tunnel ≡ 8 → dport < 65536
    → let t : Fixed = record { next_hop = hop; mac = mac; ttl = ttl; src = src; dport = dport; tunnel = tunnel } in fixed6 (blank6 t) ≡ t
fixed6-blank hop mac src tunnel ttl dport h m s u d =
    by_cells 16 (λ a b c e. fixed6 (blank6 (telling ttl dport a b c e)) ≡ telling ttl dport a b c e) hop mac src tunnel h m s u
    (ap (λ (n : ℕ). telling ttl n (cells 6 hop) (cells 6 mac) (cells 16 src) (cells 8 tunnel)) (whole2 dport d))

-- a text that is a blank head tells what that head was made of
pub tells4 : (b : List ℕ) (t : Fixed) → b ≡ blank4 t → fixed4 (blank4 t) ≡ t → b ≡ blank4 (fixed4 b)
tells4 b t is back = is ∙ ap blank4 (sym (ap fixed4 is ∙ back))

pub tells6 : (b : List ℕ) (t : Fixed) → b ≡ blank6 t → fixed6 (blank6 t) ≡ t → b ≡ blank6 (fixed6 b)
tells6 b t is back = is ∙ ap blank6 (sym (ap fixed6 is ∙ back))

-- the octets of a frame
pub length-plain : (addresses body : List ℕ) → length addresses ≡ 12 → length (take 6 addresses ++ (drop 6 addresses ++ body)) ≡ 12 + length body
length-plain addresses body twelve =
    omega (arith, twelve, length-take 6 addresses, length-drop 6 addresses, length-append (take 6 addresses) (drop 6 addresses ++ body), length-append (drop 6 addresses) body)

-- the octets of a part that is there
pub length-part : (place n : ℕ) (b : List ℕ) → place + n < length b + 1 → length (part place n b) ≡ n
length-part place n b h = omega (arith, h, length-take n (drop place b), length-drop place b)
