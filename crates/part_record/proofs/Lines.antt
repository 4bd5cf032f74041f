-- Lines of a word and of what it tells: where two texts begin with one, both have the same.
use Rattle.std.proofs.Common.{◌≡◌, ◌≢◌, ◌∙◌, sym, refl, ap, ℕ, zero, suc, ◌^◌, ◌<◌, ◌/◌, ◌%◌, List, [], ◌∷◌, ◌++◌, length, get_or, decimal, Option, None, Some, Result, Ok, Err, MatchOption, MatchResult, Bor, true, false, is_err, arith, rules, append_assoc, length-append}
use Rattle.std.proofs.lemmas.Fmt.{decimal_injective, digits_decimal, parse-decimal}
use Rattle.std.proofs.lemmas.List.{append_cancel_left}
use Rattle.std.proofs.lemmas.Str.Parse.{numerals_by_value, tells_by_index}
use Rattle.std.specs.Int.{IsInRange}
use Rattle.std.specs.Str.Parse.{ParsesUnsigned}
use Rattle.hex.specs.Hex.{decode_sized, encode_lower, encode_with, lower_digits}
use Rattle.hex.proofs.HexLemmas.{decode_of-encode_lower, decode_of-ok, decode_of-same, decode_sized-encode_lower, decode_sized-ok, decode_sized-twice}
use Rattle.hex.specs.declared.error.FromHexError.{FromHexError}
use Rattle.part_record.specs.Digests.{Lacks}
use Rattle.part_record.specs.Record.{IsOneLine, line, sum_line}
use Rattle.part_record.specs.Sum.{IsSum}

-- ---- what stands in front of a character that it lacks

lacks_tail : (c x : ℕ) (xs : List ℕ) → Lacks c (x ∷ xs) → Lacks c xs
lacks_tail c x xs lacks = λ i h. lacks (suc i) (omega arith)

pub same_word : (c : ℕ) (a b r q : List ℕ) → Lacks c a → Lacks c b → a ++ c ∷ r ≡ b ++ c ∷ q → (a ≡ b) × (r ≡ q)
same_word c [] [] r q f g e = (refl, (cc))
same_word c [] (y ∷ b) r q f g e = let h : y ≡ c = cc in absurd (g 0 (omega arith) h)
same_word c (x ∷ a) [] r q f g e = let h : x ≡ c = cc in absurd (f 0 (omega arith) h)
same_word c (x ∷ a) (y ∷ b) r q f g e =
    let h : a ++ c ∷ r ≡ b ++ c ∷ q = cc in
    let first : x ≡ y = cc in
    let both = same_word c a b r q (lacks_tail c x a f) (lacks_tail c y b g) h in
    let front : a ≡ b = both.0 in
    ((cc), both.1)

-- ---- lines

pub line-append : (word told rest : List ℕ) → line word told ++ rest ≡ word ++ (told ++ 10 ∷ rest)
line-append word told rest = simp append_assoc

pub behind_word : (text word told rest behind : List ℕ) → text ≡ word ++ behind → text ≡ line word told ++ rest → behind ≡ told ++ 10 ∷ rest
behind_word text word told rest behind e h = append_cancel_left word _ _ (sym e ∙ h ∙ line-append word told rest)

pub same_lines : (word a b r q : List ℕ) → IsOneLine a → IsOneLine b → line word a ++ r ≡ line word b ++ q → (a ≡ b) × (r ≡ q)
same_lines word a b r q f g e = same_word 10 a b r q f g (append_cancel_left word _ _ (sym (line-append word a r) ∙ e ∙ line-append word b q))

-- ---- digests

abbrev HasNoFeed : List ℕ → Type 0
HasNoFeed [] = Unit {0}
HasNoFeed (x ∷ xs) = (x ≢ 10) × HasNoFeed xs

no_feed_at : (xs : List ℕ) → HasNoFeed xs → (k : ℕ) → get_or xs k 0 ≢ 10
no_feed_at [] h zero = λ e. omega arith
no_feed_at [] h (suc k) = λ e. omega arith
no_feed_at (x ∷ xs) h zero = h.0
no_feed_at (x ∷ xs) h (suc k) = no_feed_at xs h.1 k

digits_no_feed : HasNoFeed lower_digits
digits_no_feed = search rules

hex_at : (sum : List ℕ) (i : ℕ) → i < length (encode_lower sum) → get_or (encode_lower sum) i 0 ≢ 10
unfolding encode_with
hex_at [] i h = λ e. omega arith
hex_at (b ∷ rest) zero h = no_feed_at lower_digits digits_no_feed (b / 16)
hex_at (b ∷ rest) (suc zero) h = no_feed_at lower_digits digits_no_feed (b % 16)
hex_at (b ∷ rest) (suc (suc i)) h = hex_at rest i (omega arith)

pub one_line_hex : (sum : List ℕ) → IsOneLine (encode_lower sum)
one_line_hex sum = hex_at sum

pub same_sums : (a b : List ℕ) → IsSum a → IsSum b → encode_lower a ≡ encode_lower b → a ≡ b
same_sums a b f g e = decode_of-same (encode_lower a) a b (decode_of-encode_lower a f.octets) (rw e (decode_of-encode_lower b g.octets))

pub same_sum_lines : (word a b r q : List ℕ) → IsSum a → IsSum b → sum_line word a ++ r ≡ sum_line word b ++ q → (a ≡ b) × (r ≡ q)
same_sum_lines word a b r q f g e =
    let both = same_lines word (encode_lower a) (encode_lower b) r q (one_line_hex a) (one_line_hex b) e in
    (same_sums a b f g both.0, both.1)

-- what `decode_to_slice` does with the digits of a digest
pub hex_read : (digits sum out : List ℕ) (n : ℕ) (result : Result (Unit {0}) FromHexError) → IsSum sum → n ≡ 32 → digits ≡ encode_lower sum
    → MatchResult (decode_sized digits n) (λ bytes. (result ≡ Ok tt) × (out ≡ bytes)) (λ e. result ≡ Err e) → (result ≡ Ok tt) × (out ≡ sum)
hex_read digits sum out n result is size e h = rw (e, decode_sized-encode_lower sum n (is.size ∙ sym size) is.octets) at h

-- what `decode_to_slice` makes is a digest
pub hex_sum : (digits out : List ℕ) (result : Result (Unit {0}) FromHexError)
    → MatchResult (decode_sized digits 32) (λ bytes. (result ≡ Ok tt) × (out ≡ bytes)) (λ e. result ≡ Err e) → is_err result ≡ false → IsSum out
hex_sum digits out result h ok = made (decode_sized digits 32) refl h
  where
    made : (r : Result (List ℕ) FromHexError) → decode_sized digits 32 ≡ r → MatchResult r (λ bytes. (result ≡ Ok tt) × (out ≡ bytes)) (λ e. result ≡ Err e) → IsSum out
    made (Ok bytes) e h =
        let size = decode_sized-ok digits 32 bytes e in
        let read = decode_of-ok digits bytes (sym (decode_sized-twice digits 32 size) ∙ e) in
        let double = read.2 in
        rw h.1 (record { size = omega arith; octets = read.3 })
    made (Err fault) e h = let wrong : true ≡ false = sym (ap (λ (r : Result (Unit {0}) FromHexError). is_err r) h) ∙ ok in cc

-- no digest stands behind a word where its line has no digits of one
pub no_sum : (text word behind digits rest : List ℕ) → text ≡ word ++ behind → behind ≡ digits ++ 10 ∷ rest → IsOneLine digits
    → ((sum : List ℕ) → IsSum sum → digits ≢ encode_lower sum) → (sum rest' : List ℕ) → IsSum sum → text ≢ sum_line word sum ++ rest'
no_sum text word behind digits rest e h one none sum rest' is f =
    none sum is (same_word 10 digits (encode_lower sum) rest rest' one (one_line_hex sum) (sym h ∙ behind_word text word (encode_lower sum) rest' behind e f)).0

-- ---- numbers

pub one_line_decimal : (n : ℕ) → n < 2 ^ 64 → IsOneLine (decimal n)
one_line_decimal n small = λ i h e.
    let r : IsInRange 48 57 (get_or (decimal n) i 0) = digits_decimal (numerals_by_value _ tells_by_index) n small i h in
    omega (arith, r)

pub same_numbers : (word : List ℕ) (m n : ℕ) (r q : List ℕ) → m < 2 ^ 64 → n < 2 ^ 64 → line word (decimal m) ++ r ≡ line word (decimal n) ++ q → (m ≡ n) × (r ≡ q)
same_numbers word m n r q f g e =
    let both = same_lines word (decimal m) (decimal n) r q (one_line_decimal m f) (one_line_decimal n g) e in
    (decimal_injective m n f g both.0, both.1)

pub no_number : (text word behind digits rest : List ℕ) → text ≡ word ++ behind → behind ≡ digits ++ 10 ∷ rest → IsOneLine digits
    → ((n : ℕ) → n < 2 ^ 64 → digits ≢ decimal n) → (n : ℕ) (rest' : List ℕ) → n < 2 ^ 64 → text ≢ line word (decimal n) ++ rest'
no_number text word behind digits rest e h one none n rest' is f =
    none n is (same_word 10 digits (decimal n) rest rest' one (one_line_decimal n is) (sym h ∙ behind_word text word (decimal n) rest' behind e f)).0

pub number_read : {E : Type 0} (digits : List ℕ) (n number : ℕ) (r : Result ℕ E) → n < 2 ^ 64 → digits ≡ decimal n → r ≡ Ok number → ParsesUnsigned 64 10 digits r → number ≡ n
number_read digits n number r small e ok h = let read = parse-decimal 64 n digits r small small e h in cc

-- ---- the first line of a text

feed_at : (told rest : List ℕ) → get_or (told ++ 10 ∷ rest) (length told) 0 ≡ 10
feed_at [] rest = refl
feed_at (x ∷ told) rest = feed_at told rest

pub first_line_found : (text : List ℕ) (r : Option (Bor (List ℕ) × Bor (List ℕ)))
    → MatchOption r ((i : ℕ) → i < length text → get_or text i 0 ≢ 10) (λ x. (text ≡ x.0.now ++ (10 ∷ x.1.now)) × ((i : ℕ) → i < length x.0.now → get_or x.0.now i 0 ≢ 10))
    → MatchOption r ((told rest : List ℕ) → text ≢ told ++ 10 ∷ rest) (λ found. (text ≡ found.0.now ++ 10 ∷ found.1.now) × IsOneLine found.0.now)
first_line_found text None h = λ told rest e.
    h (length told) (rw (e, length-append) (omega arith)) (ap (λ (l : List ℕ). get_or l (length told) 0) e ∙ feed_at told rest)
first_line_found text (Some x) h = h
