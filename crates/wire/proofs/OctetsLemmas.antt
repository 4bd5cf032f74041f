-- Laws of the words on texts.
use Rattle.std.proofs.Common.{◌≡◌, ℕ, zero, suc, ◌+◌, ◌-◌, ◌*◌, ◌^◌, ◌/◌, ◌%◌, ◌<◌, ◌≤◌, true, List, [], ◌∷◌, ◌++◌, length, take, drop, refl, sym, ap, ◌∙◌, arith, inl, inr}
use Rattle.std.proofs.lemmas.Bool.{cases_lt}
use Rattle.std.proofs.lemmas.List.{get_or_append_left, get_or-drop, get_or-take, get_or_past, drop-append-le, take-append-le, take-append-drop, length-take, length-drop, drop_more, take_rest}
use lib.Pointwise.{bytes_decides}
use Rattle.wire.specs.Octets.{IsText, octet, field, octets, part, begins, is_same}

-- ---- what stands in front stays what it is, whatever comes behind it

pub octet-append : (k : ℕ) (a b : List ℕ) → k < length a → octet k (a ++ b) ≡ octet k a
octet-append k a b h = get_or_append_left a b 0 k h

pub field-append : (k n : ℕ) (a b : List ℕ) → k + n ≤ length a → field k n (a ++ b) ≡ field k n a
field-append k zero a b h = refl
field-append k (suc n) a b h =
    let here = octet-append k a b (omega arith) in
    let rest = field-append (suc k) n a b (omega arith) in
    rw (here, rest) refl

pub part-append : (k n : ℕ) (a b : List ℕ) → k + n ≤ length a → part k n (a ++ b) ≡ part k n a
part-append k n a b h =
    ap (take n) (drop-append-le k a b (omega arith)) ∙ take-append-le n (drop k a) b (omega (arith, length-drop k a))

-- ---- texts

pub IsText-drop : (n : ℕ) (b : List ℕ) → IsText b → IsText (drop n b)
IsText-drop n b h i = rw get_or-drop (h (n + i))

pub IsText-take : (n : ℕ) (b : List ℕ) → IsText b → IsText (take n b)
IsText-take n b h i =
    elim (cases_lt i n) [
      | inl lt ↦ rw (get_or-take n b i 0 lt) (h i)
      | inr le ↦ rw (get_or_past (take n b) i 0 (omega (arith, length-take n b))) (omega arith)
    ]

-- ---- numbers and their octets

pub octets2-field : (k : ℕ) (b : List ℕ) → IsText b → octets 2 (field k 2 b) ≡ octet k b ∷ octet (suc k) b ∷ []
octets2-field k b h =
    let high = h k in
    let low = h (suc k) in
    let whole : field k 2 b ≡ octet k b * 256 + octet (suc k) b = omega arith in
    let first : field k 2 b / 256 % 256 ≡ octet k b = omega arith in
    let second : field k 2 b % 256 ≡ octet (suc k) b = omega arith in
    rw (first, second) refl

pub octets3-field : (k : ℕ) (b : List ℕ) → IsText b → octets 3 (field k 3 b) ≡ octet k b ∷ octet (suc k) b ∷ octet (suc (suc k)) b ∷ []
octets3-field k b h =
    let high = h k in
    let middle = h (suc k) in
    let low = h (suc (suc k)) in
    let first : field k 3 b / 65536 % 256 ≡ octet k b = omega arith in
    let second : field k 3 b / 256 % 256 ≡ octet (suc k) b = omega arith in
    let third : field k 3 b % 256 ≡ octet (suc (suc k)) b = omega arith in
    rw (first, second, third) refl

pub field2-below : (k : ℕ) (b : List ℕ) → IsText b → field k 2 b < 65536
field2-below k b h = omega (arith, h k, h (suc k))

pub field3-below : (k : ℕ) (b : List ℕ) → IsText b → field k 3 b < 2 ^ 24
field3-below k b h = omega (arith, h k, h (suc k), h (suc (suc k)))

-- ---- a text from its octets

pub cell : (k : ℕ) (b : List ℕ) → k < length b → drop k b ≡ octet k b ∷ drop (k + 1) b
cell k b h = drop_more b k 0 h

pub cells8 : (b : List ℕ) → 8 ≤ length b → b ≡ octet 0 b ∷ octet 1 b ∷ octet 2 b ∷ octet 3 b ∷ octet 4 b ∷ octet 5 b ∷ octet 6 b ∷ octet 7 b ∷ drop 8 b
cells8 b h =
    cell 0 b (omega arith) ∙ ap (λ (r : List ℕ). octet 0 b ∷ r) (cell 1 b (omega arith)
    ∙ ap (λ (r : List ℕ). octet 1 b ∷ r) (cell 2 b (omega arith)
    ∙ ap (λ (r : List ℕ). octet 2 b ∷ r) (cell 3 b (omega arith)
    ∙ ap (λ (r : List ℕ). octet 3 b ∷ r) (cell 4 b (omega arith)
    ∙ ap (λ (r : List ℕ). octet 4 b ∷ r) (cell 5 b (omega arith)
    ∙ ap (λ (r : List ℕ). octet 5 b ∷ r) (cell 6 b (omega arith)
    ∙ ap (λ (r : List ℕ). octet 6 b ∷ r) (cell 7 b (omega arith))))))))

-- ---- tests

pub begins-true : (front b : List ℕ) → begins front b ≡ true → b ≡ front ++ drop (length front) b
begins-true front b h =
    let same = (bytes_decides front (take (length front) b)).0 h in
    sym (take-append-drop (length front) b) ∙ ap (λ (t : List ℕ). t ++ drop (length front) b) (sym same)

pub is_same-true : (a b : List ℕ) → is_same a b ≡ true → a ≡ b
is_same-true a b h = (bytes_decides a b).0 h

pub is_same-refl : (a : List ℕ) → is_same a a ≡ true
is_same-refl a = (bytes_decides a a).1 refl

-- ---- a number read behind a place

pub field-drop : (i n k : ℕ) (b : List ℕ) → field i n (drop k b) ≡ field (k + i) n b
field-drop i zero k b = refl
field-drop i (suc n) k b =
    let here = get_or-drop k b i 0 in
    let next : k + suc i ≡ suc (k + i) = omega arith in
    let rest = field-drop (suc i) n k b ∙ ap (λ (j : ℕ). field j n b) next in
    rw (here, rest) refl

pub field-slice : (n k : ℕ) (b : List ℕ) → field 0 n (take (length b - k) (drop k b)) ≡ field k n b
field-slice n k b =
    ap (field 0 n) (take_rest b k) ∙ field-drop 0 n k b ∙ ap (λ (j : ℕ). field j n b) (let e : k + 0 ≡ k = omega arith in e)
