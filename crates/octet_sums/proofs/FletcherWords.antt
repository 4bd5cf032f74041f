-- Sums of octets behind those that are there.
use Rattle.std.proofs.Common.{◌≡◌, ◌∙◌, sym, ap, ℕ, suc, ◌+◌, ◌-◌, ◌*◌, ◌^◌, ◌/◌, ◌%◌, ◌≤◌, ◌<◌, List, [], ◌∷◌, ◌++◌, length, arith, add-zero, append_assoc, drop, length-append, length-drop, length-take, subst, take}
use Rattle.std.proofs.Math.Pow.{pow_mono}
use Rattle.std.proofs.Math.Seq.{take-add}
use Rattle.std.proofs.lemmas.List.{length-take-le, take-append-drop, take_rest}
use Rattle.std.proofs.Math.Nat.{add-mod-mod, add-mul, mod-add-mod, mod-eq_of_lt, mul-add, mul-le-mul, mul_assoc, mul_comm}
use Rattle.std.proofs.lemmas.Nat.{mul-mod_second}
use Rattle.byteorder.specs.Endian.{little_number}
use Rattle.octet_sums.specs.Sums.{IsSumOf, in_text, in_word, prime, sum_of, weighed}
use Rattle.octet_sums.specs.declared.fletcher.sum.OctetSum.{OctetSum}

pub weighed-append : (weight : ℕ → ℕ) (place : ℕ) (xs ys : List ℕ) → weighed weight place (xs ++ ys) ≡ weighed weight place xs + weighed weight (place + length xs) ys
weighed-append weight place [] ys =
    let moved = ap (λ (n : ℕ). weighed weight n ys) (add-zero place) in
    omega (arith, moved)
weighed-append weight place (x ∷ xs) ys =
    let rest = weighed-append weight (place + 1) xs ys in
    let same : place + 1 + length xs ≡ place + suc (length xs) = omega arith in
    let moved = ap (λ (n : ℕ). weighed weight n ys) same in
    omega (arith, rest, moved)

shared : (x w n r : ℕ) → x * (w * n) + r * n ≡ (x * w + r) * n
shared x w n r = rw add-mul (ap (λ (k : ℕ). k + r * n) (sym (mul_assoc x w n)))

-- octets of one word have its number
pub numbered : (number place : ℕ) (xs : List ℕ) → 8 * number ≤ place → place + length xs ≤ 8 * number + 8 → weighed in_text place xs ≡ weighed in_word place xs * (number + 1)
numbered number place [] low high = omega arith
numbered number place (x ∷ xs) low high =
    let rest = numbered number (place + 1) xs (omega arith) (omega arith) in
    let here : place / 8 ≡ number = omega arith in
    rw (here, rest) (shared x (in_word place) (number + 1) (weighed in_word (place + 1) xs))

-- ---- sums go on

same_sums : (s t : OctetSum) → s.octets ≡ t.octets → s.first ≡ t.first → s.second ≡ t.second → s ≡ t
same_sums s t a b c =
    ap (λ (n : ℕ). record { octets = n; first = s.first; second = s.second }) a
    ∙ ap (λ (n : ℕ). record { octets = t.octets; first = n; second = s.second }) b
    ∙ ap (λ (n : ℕ). record { octets = t.octets; first = t.first; second = n }) c

added : (a b c d m : ℕ) → b % m ≡ c % m → d ≡ a + c → (a % m + b) % m ≡ d % m
added a b c d m e h =
    mod-add-mod a m b ∙ sym (add-mod-mod a b m) ∙ ap (λ (n : ℕ). (a + n) % m) e ∙ add-mod-mod a c m ∙ ap (λ (n : ℕ). n % m) (sym h)

-- a sum that goes on by octets, of which these are the sums
pub sum_more : (s t : OctetSum) (before xs : List ℕ) (count first second : ℕ) → count ≡ length xs
    → t.octets ≡ (s.octets + count) % 2 ^ 64 → t.first ≡ (s.first + first) % prime → t.second ≡ (s.second + second) % prime
    → first % prime ≡ weighed in_word s.octets xs % prime → second % prime ≡ weighed in_text s.octets xs % prime
    → IsSumOf s before → IsSumOf t (before ++ xs)
sum_more s t before xs count first second size octets_are first_is second_is one two is small =
    let total = length-append before xs in
    let told : s ≡ sum_of before = is (omega arith) in
    let at : s.octets ≡ length before = ap (λ (t : OctetSum). t.octets) told in
    let long : s.octets + count ≡ length (before ++ xs) = omega arith in
    let none : 0 + length before ≡ length before = omega arith in
    let first_more = weighed-append in_word 0 before xs ∙ ap (λ (n : ℕ). weighed in_word 0 before + weighed in_word n xs) none in
    let second_more = weighed-append in_text 0 before xs ∙ ap (λ (n : ℕ). weighed in_text 0 before + weighed in_text n xs) none in
    same_sums t (sum_of (before ++ xs))
    (octets_are ∙ ap (λ (n : ℕ). n % 2 ^ 64) long ∙ mod-eq_of_lt small)
    (first_is ∙ ap (λ (n : ℕ). (n + first) % prime) (ap (λ (t : OctetSum). t.first) told)
    ∙ added (weighed in_word 0 before) first (weighed in_word (length before) xs) (weighed in_word 0 (before ++ xs)) prime
    (one ∙ ap (λ (n : ℕ). weighed in_word n xs % prime) at) first_more)
    (second_is ∙ ap (λ (n : ℕ). (n + second) % prime) (ap (λ (t : OctetSum). t.second) told)
    ∙ added (weighed in_text 0 before) second (weighed in_text (length before) xs) (weighed in_text 0 (before ++ xs)) prime
    (two ∙ ap (λ (n : ℕ). weighed in_text n xs % prime) at) second_more)

-- ---- an octet

-- an octet in its word is a number of 64 bits
pub octet_fits : (octet place told : ℕ) → octet < 256 → told ≡ octet → told * 2 ^ (8 * (place % 8)) % 2 ^ 64 ≡ told * 2 ^ (8 * (place % 8))
octet_fits octet place told small e =
    let low : 8 * (place % 8) ≤ 56 = omega arith in
    let power : 2 ^ (8 * (place % 8)) ≤ 2 ^ 56 = pow_mono low in
    let most : told ≤ 255 = omega (arith, e) in
    let product = mul-le-mul most power in
    let small : told * 2 ^ (8 * (place % 8)) < 2 ^ 64 = omega (arith, product) in
    mod-eq_of_lt small

pub octet_first : (octet place told : ℕ) → told ≡ octet → told * 2 ^ (8 * (place % 8)) ≡ weighed in_word place (octet ∷ [])
octet_first octet place told e = ap (λ (n : ℕ). n * in_word place) e ∙ sym (add-zero (octet * in_word place))

pub octet_second : (octet place told : ℕ) → told ≡ octet → told * 2 ^ (8 * (place % 8)) * (place / 8 + 1) ≡ weighed in_text place (octet ∷ [])
octet_second octet place told e =
    ap (λ (n : ℕ). n * in_word place * (place / 8 + 1)) e ∙ mul_assoc octet (in_word place) (place / 8 + 1) ∙ sym (add-zero (octet * in_text place))

-- ---- words that are summed

-- a product less what falls is what rises
pub reduced_second : (second number first rising falling : ℕ) → rising + falling ≡ number * first
    → (second + number * (first % prime) + (prime - falling % prime)) % prime ≡ (second + rising) % prime
reduced_second second number first rising falling e =
    let same : (number * (first % prime)) % prime ≡ (rising + falling) % prime = mul-mod_second number first prime ∙ ap (λ (n : ℕ). n % prime) (sym e) in
    omega (arith, same)

-- the octets that were added and those that follow them
pub sum_joined : (s : OctetSum) (before xs : List ℕ) (at : ℕ) → IsSumOf s ((before ++ take at xs) ++ take (length xs - at) (drop at xs)) → IsSumOf s (before ++ xs)
sum_joined s before xs at is =
    subst (λ (l : List ℕ). IsSumOf s l)
    (append_assoc before (take at xs) (take (length xs - at) (drop at xs))
    ∙ ap (λ (l : List ℕ). before ++ (take at xs ++ l)) (take_rest xs at) ∙ ap (λ (l : List ℕ). before ++ l) (take-append-drop at xs)) is

pub sum_longer : (s : OctetSum) (before xs : List ℕ) (at count : ℕ)
    → IsSumOf s ((before ++ take at xs) ++ take count (take (length xs - at) (drop at xs))) → IsSumOf s (before ++ take (at + count) xs)
sum_longer s before xs at count is =
    subst (λ (l : List ℕ). IsSumOf s l)
    (append_assoc before (take at xs) (take count (take (length xs - at) (drop at xs)))
    ∙ ap (λ (l : List ℕ). before ++ (take at xs ++ take count l)) (take_rest xs at) ∙ ap (λ (l : List ℕ). before ++ l) (sym (take-add at count xs))) is

-- ---- a word

word_parts : (place : ℕ) (xs : List ℕ) → place % 8 ≡ 0 → 8 ≤ length xs → weighed in_word place (take 8 xs) ≡ little_number 8 xs
word_parts place [] at long = absurd (omega arith)
word_parts place (a ∷ []) at long = absurd (omega arith)
word_parts place (a ∷ b ∷ []) at long = absurd (omega arith)
word_parts place (a ∷ b ∷ c ∷ []) at long = absurd (omega arith)
word_parts place (a ∷ b ∷ c ∷ d ∷ []) at long = absurd (omega arith)
word_parts place (a ∷ b ∷ c ∷ d ∷ e ∷ []) at long = absurd (omega arith)
word_parts place (a ∷ b ∷ c ∷ d ∷ e ∷ f ∷ []) at long = absurd (omega arith)
word_parts place (a ∷ b ∷ c ∷ d ∷ e ∷ f ∷ g ∷ []) at long = absurd (omega arith)
word_parts place (a ∷ b ∷ c ∷ d ∷ e ∷ f ∷ g ∷ h ∷ xs) at long =
    let at1 : (place + 1) % 8 ≡ 1 = omega arith in
    let at2 : (place + 1 + 1) % 8 ≡ 2 = omega arith in
    let at3 : (place + 1 + 1 + 1) % 8 ≡ 3 = omega arith in
    let at4 : (place + 1 + 1 + 1 + 1) % 8 ≡ 4 = omega arith in
    let at5 : (place + 1 + 1 + 1 + 1 + 1) % 8 ≡ 5 = omega arith in
    let at6 : (place + 1 + 1 + 1 + 1 + 1 + 1) % 8 ≡ 6 = omega arith in
    let at7 : (place + 1 + 1 + 1 + 1 + 1 + 1 + 1) % 8 ≡ 7 = omega arith in
    rw (at, at1, at2, at3, at4, at5, at6, at7) (omega arith)

grown : (k f w : ℕ) → (k + 1) * (f + w) ≡ k * f + w * k + f + w
grown k f w =
    let parts = add-mul k 1 (f + w) in
    let both = mul-add k f w in
    let turned = mul_comm k w in
    omega (arith, parts, both, turned)

-- one word more is summed
pub word_more : (xs : List ℕ) (place at word first falling : ℕ) → place % 8 ≡ 0 → at % 8 ≡ 0 → at + 8 ≤ length xs → word ≡ little_number 8 (drop at xs)
    → first ≡ weighed in_word place (take at xs) → weighed in_text place (take at xs) + falling ≡ (place / 8 + at / 8 + 1) * first
    → (first + word ≡ weighed in_word place (take (at + 8) xs))
    × (weighed in_text place (take (at + 8) xs) + (falling + (first + word)) ≡ (place / 8 + (at + 8) / 8 + 1) * (first + word))
word_more xs place at word first falling whole words long e one two =
    let k : ℕ = place / 8 + at / 8 + 1 in
    let front : length (take at xs) ≡ at = length-take-le at xs (omega arith) in
    let rest : 8 ≤ length (drop at xs) = omega (arith, length-drop at xs) in
    let size = length-take 8 (drop at xs) in
    let moved = ap (λ (n : ℕ). weighed in_word n (take 8 (drop at xs))) (ap (λ (n : ℕ). place + n) front) in
    let moved_text = ap (λ (n : ℕ). weighed in_text n (take 8 (drop at xs))) (ap (λ (n : ℕ). place + n) front) in
    let here : weighed in_word (place + at) (take 8 (drop at xs)) ≡ word = word_parts (place + at) (drop at xs) (omega arith) rest ∙ sym e in
    let in_words = ap (weighed in_word place) (take-add at 8 xs) ∙ weighed-append in_word place (take at xs) (take 8 (drop at xs)) in
    let in_texts = ap (weighed in_text place) (take-add at 8 xs) ∙ weighed-append in_text place (take at xs) (take 8 (drop at xs)) in
    let number : (place + at) / 8 + 1 ≡ k = omega arith in
    let shares : weighed in_text (place + at) (take 8 (drop at xs)) ≡ word * k =
    numbered ((place + at) / 8) (place + at) (take 8 (drop at xs)) (omega arith) (omega (arith, size))
    ∙ ap (λ (n : ℕ). n * ((place + at) / 8 + 1)) here ∙ ap (λ (n : ℕ). word * n) number in
    let next : place / 8 + (at + 8) / 8 + 1 ≡ k + 1 = omega arith in
    let product : (place / 8 + (at + 8) / 8 + 1) * (first + word) ≡ k * first + word * k + first + word =
    ap (λ (n : ℕ). n * (first + word)) next ∙ grown k first word in
    (omega (arith, in_words, moved, here, one), omega (arith, in_texts, moved_text, shares, two, product))
