-- Laws of the sums.
use Rattle.std.proofs.Common.{◌≡◌, ℕ, zero, suc, ◌+◌, ◌-◌, ◌*◌, ◌%◌, ◌/◌, ◌<◌, ◌≤◌, List, [], ◌∷◌, ◌++◌, length, refl, arith, ap, ◌∙◌}
use Rattle.std.proofs.Common.{eqb, subst, append_assoc}
use Rattle.std.proofs.lemmas.Bool.{cond_both, eqb-true, eqb-false}
use Rattle.wire.specs.Octets.{octets}
use Rattle.std.proofs.lemmas.List.{length-append}
use Rattle.wire.specs.Sum.{total, folded, complement, check, sent, sent_of, pseudo4, pseudo6}

-- the sum of two texts side by side, the first of even length
pub total-append : (k : ℕ) (a b : List ℕ) → length a ≡ 2 * k → total (a ++ b) ≡ total a + total b
total-append zero [] b e = omega arith
total-append zero (x ∷ a) b e = absurd (omega arith)
total-append (suc k) [] b e = absurd (omega arith)
total-append (suc k) (x ∷ []) b e = absurd (omega arith)
total-append (suc k) (x ∷ y ∷ a) b e = omega (arith, total-append k a b (omega arith))

-- the same for an even length as a test says it
pub total-append_even : (a b : List ℕ) → length a % 2 ≡ 0 → total (a ++ b) ≡ total a + total b
total-append_even a b e = total-append (length a / 2) a b (omega arith)

-- a sum of 16 bits is folded already
pub folded-word : (s : ℕ) → s < 65536 → folded s ≡ s
folded-word zero h = refl
folded-word (suc s) h = omega arith

-- the carries are added to the low 16 bits
pub folded-carries : (s : ℕ) → folded s ≡ folded (s / 65536 + s % 65536)
folded-carries zero = refl
folded-carries (suc s) = by (suc s / 65536 + suc s % 65536) refl
  where
    by : (t : ℕ) → suc s / 65536 + suc s % 65536 ≡ t → folded (suc s) ≡ folded t
    by zero e = absurd (omega arith)
    by (suc t) e = omega arith

folded-multiple : (q : ℕ) → folded (65535 * q + 65535) ≡ 65535
folded-multiple q =
    let same : 65535 * q + 65535 ≡ suc (65535 * q + 65534) = omega arith in
    let rest : (65535 * q + 65534) % 65535 ≡ 65534 = omega arith in
    rw (same, rest) refl

pub folded-le : (s : ℕ) → folded s ≤ 65535
folded-le zero = omega arith
folded-le (suc s) = omega arith

-- what completes a sum to all ones
pub folded-completed : (s : ℕ) → folded (s + (65535 - folded s)) ≡ 65535
folded-completed zero = refl
folded-completed (suc s) =
    let whole : suc s + (65535 - (s % 65535 + 1)) ≡ 65535 * (s / 65535) + 65535 = omega arith in
    rw whole (folded-multiple (s / 65535))

-- a sum that folds to all ones, with 65535 more, does so again
pub folded-more : (s : ℕ) → folded s ≡ 65535 → folded (s + 65535) ≡ 65535
folded-more zero e = refl
folded-more (suc s) e =
    let same : suc s + 65535 ≡ suc (s + 65535) = omega arith in
    let rest : (s + 65535) % 65535 ≡ s % 65535 = omega arith in
    rw (same, rest) e

-- the sum with a checksum put in
pub total-inserted : (k c : ℕ) (a b : List ℕ) → length a ≡ 2 * k → c ≤ 65535 → total (a ++ (octets 2 c ++ b)) ≡ total (a ++ 0 ∷ 0 ∷ b) + c
total-inserted k c a b e h =
    let with_sum = total-append k a (octets 2 c ++ b) e in
    let with_zero = total-append k a (0 ∷ 0 ∷ b) e in
    omega (arith, with_sum, with_zero)

-- a text with its checksum put in sums up to all ones
pub check-completes : (k : ℕ) (a b : List ℕ) → length a ≡ 2 * k → folded (total (a ++ (octets 2 (check (a ++ 0 ∷ 0 ∷ b)) ++ b))) ≡ 65535
check-completes k a b e =
    let t = total (a ++ 0 ∷ 0 ∷ b) in
    let whole : total (a ++ (octets 2 (check (a ++ 0 ∷ 0 ∷ b)) ++ b)) ≡ t + (65535 - folded t) = total-inserted k (65535 - folded t) a b e (omega arith) in
    rw whole (folded-completed t)

-- likewise with the checksum as UDP sends it
pub sent-completes : (k : ℕ) (a b : List ℕ) → length a ≡ 2 * k → folded (total (a ++ (octets 2 (sent (a ++ 0 ∷ 0 ∷ b)) ++ b))) ≡ 65535
sent-completes k a b e =
    let t = total (a ++ 0 ∷ 0 ∷ b) in
    let c = 65535 - folded t in
    let P : ℕ → Type 0 = λ x. folded (total (a ++ (octets 2 x ++ b))) ≡ 65535 in
    cond_both (eqb c 0) 65535 c P
    (λ zero_is.
    let full : c ≡ 0 = eqb-true c 0 zero_is in
    let bound = folded-le t in
    let ones : folded t ≡ 65535 = omega arith in
    let whole : total (a ++ (octets 2 65535 ++ b)) ≡ t + 65535 = total-inserted k 65535 a b e (omega arith) in
    rw whole (folded-more t ones))
    (λ other. check-completes k a b e)

-- the same with a pseudo header, or another text of even length, before it
pub sent-completes_behind : (j k : ℕ) (p a b : List ℕ) → length p ≡ 2 * j → length a ≡ 2 * k → folded (total (p ++ (a ++ (octets 2 (sent (p ++ (a ++ 0 ∷ 0 ∷ b))) ++ b)))) ≡ 65535
sent-completes_behind j k p a b e f =
    let front : length (p ++ a) ≡ 2 * (j + k) = omega (arith, length-append p a) in
    let P : List ℕ → Type 0 = λ t. folded (total t) ≡ 65535 in
    let Q : List ℕ → Type 0 = λ t. folded (total ((p ++ a) ++ (octets 2 (sent t) ++ b))) ≡ 65535 in
    let whole = subst Q (append_assoc p a (0 ∷ 0 ∷ b)) (sent-completes (j + k) (p ++ a) b front) in
    subst P (append_assoc p a _) whole

-- a checksum that is sent is no 0, which would mean that there is none
pub sent-not_zero : (b : List ℕ) → 0 < sent b
sent-not_zero b = cond_both (eqb (check b) 0) 65535 (check b) (λ x. 0 < x) (λ zero_is. omega arith)
    (λ other. let ne = eqb-false (check b) 0 other in omega (arith, ne))

pub sent-below : (b : List ℕ) → sent b ≤ 65535
sent-below b = cond_both (eqb (check b) 0) 65535 (check b) (λ x. x ≤ 65535) (λ zero_is. omega arith) (λ other. omega arith)

-- the sum of a pseudo header and what comes behind it
pub total-pseudo4 : (src dst d : List ℕ) (len : ℕ) → length src ≡ 4 → length dst ≡ 4 → len < 65536 → total (pseudo4 src dst len ++ d) ≡ total src + total dst + 17 + len + total d
total-pseudo4 src dst d len s t h =
    let addresses = length-append src dst in
    let front : length (src ++ dst) % 2 ≡ 0 = omega arith in
    let whole_length = length-append (src ++ dst) (0 ∷ 17 ∷ octets 2 len) in
    let even : length (pseudo4 src dst len) % 2 ≡ 0 = omega arith in
    let rest : total (0 ∷ 17 ∷ octets 2 len) ≡ 17 + len = omega arith in
    omega (arith, total-append_even (pseudo4 src dst len) d even, total-append_even (src ++ dst) (0 ∷ 17 ∷ octets 2 len) front, total-append_even src dst (omega arith), rest)

pub total-pseudo6 : (src dst d : List ℕ) (len : ℕ) → length src ≡ 16 → length dst ≡ 16 → len < 65536 → total (pseudo6 src dst len ++ d) ≡ total src + total dst + 17 + len + total d
total-pseudo6 src dst d len s t h =
    let addresses = length-append src dst in
    let front : length (src ++ dst) % 2 ≡ 0 = omega arith in
    let middle_length = length-append (src ++ dst) (octets 4 len) in
    let middle_even : length (src ++ dst ++ octets 4 len) % 2 ≡ 0 = omega arith in
    let whole_length = length-append (src ++ dst ++ octets 4 len) (0 ∷ 0 ∷ 0 ∷ 17 ∷ []) in
    let even : length (pseudo6 src dst len) % 2 ≡ 0 = omega arith in
    let middle : total (octets 4 len) ≡ len = omega arith in
    omega (arith, total-append_even (pseudo6 src dst len) d even, total-append_even (src ++ dst ++ octets 4 len) (0 ∷ 0 ∷ 0 ∷ 17 ∷ []) middle_even, total-append_even (src ++ dst) (octets 4 len) front, total-append_even src dst (omega arith), middle)

-- the checksum that is sent of a datagram in three parts, from what the code adds up, behind a pseudo header with such a sum
pub sent-parts : (pseudo : List ℕ → List ℕ → ℕ → List ℕ) (src dst first second third : List ℕ) (addresses x : ℕ)
    → ((d : List ℕ) (len : ℕ) → len < 65536 → total (pseudo src dst len ++ d) ≡ total src + total dst + 17 + len + total d)
    → length first + length second + length third ≤ 65535 → addresses ≡ total src + total dst
    → let datagram = first ++ second ++ third in
    x ≡ sent_of (complement (addresses + 17 + length datagram + total datagram)) → x ≡ sent (pseudo src dst (length datagram) ++ datagram)
sent-parts pseudo src dst first second third addresses x total-pseudo fits front is =
    let datagram = first ++ second ++ third in
    let length_is : length datagram ≡ length first + length second + length third = omega (arith, length-append (first ++ second) third, length-append first second) in
    let whole = total-pseudo datagram (length datagram) (omega (arith, length_is, fits)) in
    let same : addresses + 17 + length datagram + total datagram ≡ total (pseudo src dst (length datagram) ++ datagram) = omega (arith, whole, front) in
    is ∙ ap (λ (s : ℕ). sent_of (complement s)) same
