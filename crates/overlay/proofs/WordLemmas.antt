-- The words of members, bit by bit: what is read, and what a write leaves.
use Rattle.std.proofs.Common.{◌≡◌, ◌≢◌, ◌⊎◌, ℕ, zero, suc, ◌+◌, ◌-◌, ◌*◌, ◌/◌, ◌%◌, ◌^◌, ◌<◌, ◌≤◌, Bool, true, false, ◌&&◌, ◌||◌, cond, eqb, ltb, List, length, get_or, set, replicate, Option, None, Some, refl, sym, ap, ◌∙◌, arith, inl, inr}
use Rattle.std.proofs.lemmas.Bool.{cond-true, cond-false, eq-eqb, ne_eqb, cases_lt, cases_eq, and_from, and_left, and_right, lt-ltb, le-ltb}
use Rattle.std.proofs.lemmas.List.{get_or-set_same, get_or-set_other}
use Rattle.std.proofs.lemmas.Nat.{shr-shr, shr_le}
use Rattle.std.proofs.lemmas.Nat.Bits.{bit_at-zero, bit_at_above, bit_at-trailing_zeros}
use Rattle.std.specs.Int.{bit_at, trailing_zeros, w64}
use Rattle.std.specs.Prelude.{is_some}
use Rattle.overlay.specs.Bits.{has_bit, place_of, stands_in, is_member_in, egress_in, is_untagged}
use Rattle.overlay.specs.declared.ports.member.Egress.{Egress}
use Rattle.overlay.specs.declared.ports.member.Egress.TheVariants.{Tagged, Untagged}

-- ---- one bit

-- a word in another's place, which differs in one bit at most
pub has_bit-set : (words : List ℕ) (place bit q b x : ℕ) (value : Bool) → place < length words → eqb (bit_at x bit) 1 ≡ value
    → ((i : ℕ) → i < 64 → i ≢ bit → bit_at x i ≡ bit_at (get_or words place 0) i) → b < 64
    → has_bit (set words place x) q b ≡ cond (eqb q place && eqb b bit) value (has_bit words q b)
has_bit-set words place bit q b x value lt same others low = elim (cases_eq q place) [
  | inl at ↦ here at (cases_eq b bit)
  | inr ne ↦
      ap (λ (w : ℕ). eqb (bit_at w b) 1) (get_or-set_other words place q x 0 ne)
      ∙ sym (cond-false (eqb q place && eqb b bit) value (has_bit words q b) (and_left (eqb q place) (eqb b bit) (ne_eqb q place ne)))
]
  where
    read : q ≡ place → get_or (set words place x) q 0 ≡ x
    read at = ap (λ (k : ℕ). get_or (set words place x) k 0) at ∙ get_or-set_same words place x 0 lt

    here : q ≡ place → (b ≡ bit) ⊎ (b ≢ bit) → has_bit (set words place x) q b ≡ cond (eqb q place && eqb b bit) value (has_bit words q b)
    here at (inl is) =
        ap (λ (w : ℕ). eqb (bit_at w b) 1) (read at) ∙ ap (λ (k : ℕ). eqb (bit_at x k) 1) is ∙ same
        ∙ sym (cond-true (eqb q place && eqb b bit) value (has_bit words q b) (and_from (eqb q place) (eqb b bit) (eq-eqb q place at) (eq-eqb b bit is)))
    here at (inr ne) =
        ap (λ (w : ℕ). eqb (bit_at w b) 1) (read at) ∙ ap (λ (k : ℕ). eqb k 1) (others b low ne) ∙ ap (λ (k : ℕ). has_bit words k b) (sym at)
        ∙ sym (cond-false (eqb q place && eqb b bit) value (has_bit words q b) (and_right (eqb q place) (eqb b bit) (ne_eqb b bit ne)))

-- ---- the words of a VID, 0 from the first column on

-- as many columns' words are 0 as this
abbrev pub Cleared : List ℕ → List ℕ → ℕ → ℕ → Type 0
Cleared words old vid count = (q : ℕ) → get_or words q 0 ≡ cond (eqb (q % 8192) vid && ltb (q / 8192) count) 0 (get_or old q 0)

pub cleared-none : (old : List ℕ) (vid : ℕ) → Cleared old old vid 0
cleared-none old vid q = sym (cond-false (eqb (q % 8192) vid && ltb (q / 8192) 0) 0 (get_or old q 0) (and_right (eqb (q % 8192) vid) (ltb (q / 8192) 0) (le-ltb (q / 8192) 0 (omega arith))))

pub cleared-more : (words old : List ℕ) (vid i : ℕ) → Cleared words old vid i → vid < 4096 → i * 8192 + vid < length words → Cleared (set words (i * 8192 + vid) 0) old vid (i + 1)
cleared-more words old vid i before small lt q = elim (cases_eq q (i * 8192 + vid)) [
  | inl at ↦
      let low : q % 8192 ≡ vid = omega arith in
      let high : q / 8192 < i + 1 = omega arith in
      ap (λ (k : ℕ). get_or (set words (i * 8192 + vid) 0) k 0) at ∙ get_or-set_same words (i * 8192 + vid) 0 0 lt
      ∙ sym (cond-true (eqb (q % 8192) vid && ltb (q / 8192) (i + 1)) 0 (get_or old q 0) (and_from _ _ (eq-eqb (q % 8192) vid low) (lt-ltb (q / 8192) (i + 1) high)))
  | inr ne ↦ get_or-set_other words (i * 8192 + vid) q 0 0 ne ∙ before q ∙ ap (λ (b : Bool). cond b 0 (get_or old q 0)) (alike ne (cases_eq (q % 8192) vid))
]
  where
    alike : q ≢ i * 8192 + vid → (q % 8192 ≡ vid) ⊎ (q % 8192 ≢ vid) → (eqb (q % 8192) vid && ltb (q / 8192) i) ≡ (eqb (q % 8192) vid && ltb (q / 8192) (i + 1))
    alike ne (inr apart) = and_left _ _ (ne_eqb (q % 8192) vid apart) ∙ sym (and_left _ _ (ne_eqb (q % 8192) vid apart))
    alike ne (inl is) = elim (cases_lt (q / 8192) i) [
      | inl less ↦ ap (λ (b : Bool). eqb (q % 8192) vid && b) (lt-ltb (q / 8192) i less ∙ sym (lt-ltb (q / 8192) (i + 1) (omega arith)))
      | inr le ↦ ap (λ (b : Bool). eqb (q % 8192) vid && b) (le-ltb (q / 8192) i le ∙ sym (le-ltb (q / 8192) (i + 1) (omega arith)))
    ]

-- ---- a segment's bits

-- how frames leave, by both bits
abbrev pub egress_of : Bool → Bool → Option Egress
egress_of member untagged = cond member (cond untagged (Some Untagged) (Some Tagged)) None

pub egress_of-parts : (e : Option Egress) → egress_of (is_some e) (is_untagged e) ≡ e
egress_of-parts (Some Untagged) = refl
egress_of-parts (Some Tagged) = refl
egress_of-parts None = refl

-- where both bits are the same
pub egress-same : (ws us : List ℕ) (v p : ℕ) → has_bit ws (place_of v p) (p % 64) ≡ has_bit us (place_of v p) (p % 64)
    → has_bit ws (place_of v p + 4096) (p % 64) ≡ has_bit us (place_of v p + 4096) (p % 64) → egress_in ws v p ≡ egress_in us v p
egress-same ws us v p member untagged i = egress_of (member i) (untagged i)

-- what one bit made this leaves
abbrev pub Put : List ℕ → List ℕ → ℕ → ℕ → Bool → Type 0
Put words old place bit value = (q b : ℕ) → b < 64 → has_bit words q b ≡ cond (eqb q place && eqb b bit) value (has_bit old q b)

put-same : (words old : List ℕ) (place bit : ℕ) (value : Bool) (q b : ℕ) → Put words old place bit value → q ≡ place → b ≡ bit → b < 64 → has_bit words q b ≡ value
put-same words old place bit value q b put at is low =
    put q b low ∙ cond-true (eqb q place && eqb b bit) value (has_bit old q b) (and_from _ _ (eq-eqb q place at) (eq-eqb b bit is))

put-place : (words old : List ℕ) (place bit : ℕ) (value : Bool) (q b : ℕ) → Put words old place bit value → q ≢ place → b < 64 → has_bit words q b ≡ has_bit old q b
put-place words old place bit value q b put ne low =
    put q b low ∙ cond-false (eqb q place && eqb b bit) value (has_bit old q b) (and_left _ _ (ne_eqb q place ne))

put-bit : (words old : List ℕ) (place bit : ℕ) (value : Bool) (q b : ℕ) → Put words old place bit value → b ≢ bit → b < 64 → has_bit words q b ≡ has_bit old q b
put-bit words old place bit value q b put ne low =
    put q b low ∙ cond-false (eqb q place && eqb b bit) value (has_bit old q b) (and_right _ _ (ne_eqb b bit ne))

-- both bits of a port
module _ (w0 w1 w2 : List ℕ) (vid port : ℕ) (member untagged : Bool) (small : vid < 4096)
    (first : Put w1 w0 (place_of vid port) (port % 64) member) (second : Put w2 w1 (place_of vid port + 4096) (port % 64) untagged) where
  own : egress_in w2 vid port ≡ egress_of member untagged
  own = λ i. egress_of (at i) (beside i)
    where
      low : port % 64 < 64
      low = omega arith

      at : has_bit w2 (place_of vid port) (port % 64) ≡ member
      at = put-place w2 w1 _ _ untagged (place_of vid port) (port % 64) second (λ e. omega arith) low ∙ put-same w1 w0 _ _ member (place_of vid port) (port % 64) first refl refl low

      beside : has_bit w2 (place_of vid port + 4096) (port % 64) ≡ untagged
      beside = put-same w2 w1 _ _ untagged (place_of vid port + 4096) (port % 64) second refl refl low

  other : (v p : ℕ) → v < 4096 → (v ≡ vid → p ≢ port) → egress_in w2 v p ≡ egress_in w0 v p
  other v p less ne = egress-same w2 w0 v p at beside
    where
      low : p % 64 < 64
      low = omega arith

      at : has_bit w2 (place_of v p) (p % 64) ≡ has_bit w0 (place_of v p) (p % 64)
      at = put-place w2 w1 _ _ untagged (place_of v p) (p % 64) second (λ e. omega arith) low ∙ elim (cases_eq (place_of v p) (place_of vid port)) [
        | inl same ↦
            let one : v ≡ vid = omega arith in
            put-bit w1 w0 _ _ member (place_of v p) (p % 64) first (λ e. ne one (omega arith)) low
        | inr apart ↦ put-place w1 w0 _ _ member (place_of v p) (p % 64) first apart low
      ]

      beside : has_bit w2 (place_of v p + 4096) (p % 64) ≡ has_bit w0 (place_of v p + 4096) (p % 64)
      beside = elim (cases_eq (place_of v p) (place_of vid port)) [
        | inl same ↦
            let one : v ≡ vid = omega arith in
            put-bit w2 w1 _ _ untagged (place_of v p + 4096) (p % 64) second (λ e. ne one (omega arith)) low
            ∙ put-place w1 w0 _ _ member (place_of v p + 4096) (p % 64) first (λ e. omega arith) low
        | inr apart ↦
            put-place w2 w1 _ _ untagged (place_of v p + 4096) (p % 64) second (λ e. apart (omega arith)) low
            ∙ put-place w1 w0 _ _ member (place_of v p + 4096) (p % 64) first (λ e. omega arith) low
      ]

  pub egress-put : (v p : ℕ) → v < 4096 → egress_in w2 v p ≡ cond (eqb v vid && eqb p port) (egress_of member untagged) (egress_in w0 v p)
  egress-put v p less = elim (cases_eq v vid) [
    | inl at ↦ elim (cases_eq p port) [
      | inl is ↦
          (λ i. egress_in w2 (at i) (is i)) ∙ own
          ∙ sym (cond-true (eqb v vid && eqb p port) (egress_of member untagged) (egress_in w0 v p) (and_from _ _ (eq-eqb v vid at) (eq-eqb p port is)))
      | inr ne ↦
          other v p less (λ e. ne)
          ∙ sym (cond-false (eqb v vid && eqb p port) (egress_of member untagged) (egress_in w0 v p) (and_right _ _ (ne_eqb p port ne)))
    ]
    | inr ne ↦
        other v p less (λ e. absurd (ne e))
        ∙ sym (cond-false (eqb v vid && eqb p port) (egress_of member untagged) (egress_in w0 v p) (and_left _ _ (ne_eqb v vid ne)))
  ]

  pub stands-put : 1 ≤ port → (v : ℕ) → v < 4096 → stands_in w2 v ≡ stands_in w0 v
  stands-put some v less =
      put-place w2 w1 _ _ untagged v 0 second (λ e. omega arith) (omega arith)
      ∙ elim (cases_eq v (place_of vid port)) [
        | inl same ↦ put-bit w1 w0 _ _ member v 0 first (λ e. omega arith) (omega arith)
        | inr apart ↦ put-place w1 w0 _ _ member v 0 first apart (omega arith)
      ]

-- the bit that says whether a segment stands
module _ (w0 w1 : List ℕ) (vid : ℕ) (value : Bool) (small : vid < 4096) (put : Put w1 w0 vid 0 value) where
  pub egress-stood : (v p : ℕ) → v < 4096 → 1 ≤ p → egress_in w1 v p ≡ egress_in w0 v p
  egress-stood v p less some =
      let low : p % 64 < 64 = omega arith in
      egress-same w1 w0 v p
      (elim (cases_eq (place_of v p) vid) [
        | inl same ↦ put-bit w1 w0 _ _ value (place_of v p) (p % 64) put (λ e. omega arith) low
        | inr apart ↦ put-place w1 w0 _ _ value (place_of v p) (p % 64) put apart low
      ])
      (put-place w1 w0 _ _ value (place_of v p + 4096) (p % 64) put (λ e. omega arith) low)

  pub stands-stood : (v : ℕ) → v < 4096 → stands_in w1 v ≡ cond (eqb v vid) value (stands_in w0 v)
  stands-stood v less = elim (cases_eq v vid) [
    | inl same ↦ put-same w1 w0 vid 0 value v 0 put same refl (omega arith) ∙ sym (cond-true (eqb v vid) value (stands_in w0 v) (eq-eqb v vid same))
    | inr apart ↦ put-place w1 w0 vid 0 value v 0 put apart (omega arith) ∙ sym (cond-false (eqb v vid) value (stands_in w0 v) (ne_eqb v vid apart))
  ]

-- ---- a segment whose words are 0

module _ (words old : List ℕ) (vid count : ℕ) (small : vid < 4096) (cleared : Cleared words old vid count) where
  kept-word : (q : ℕ) → q % 8192 ≢ vid → get_or words q 0 ≡ get_or old q 0
  kept-word q ne = cleared q ∙ cond-false (eqb (q % 8192) vid && ltb (q / 8192) count) 0 (get_or old q 0) (and_left _ _ (ne_eqb (q % 8192) vid ne))

  zero-word : (q : ℕ) → q % 8192 ≡ vid → q / 8192 < count → get_or words q 0 ≡ 0
  zero-word q is less = cleared q ∙ cond-true (eqb (q % 8192) vid && ltb (q / 8192) count) 0 (get_or old q 0) (and_from _ _ (eq-eqb (q % 8192) vid is) (lt-ltb (q / 8192) count less))

  pub stands-cleared : (v : ℕ) → v < 4096 → v ≢ vid → stands_in words v ≡ stands_in old v
  stands-cleared v less ne = ap (λ (w : ℕ). eqb (bit_at w 0) 1) (kept-word v (λ e. ne (omega arith)))

  pub egress-cleared : (v p : ℕ) → v < 4096 → p / 64 < count → egress_in words v p ≡ cond (eqb v vid) None (egress_in old v p)
  egress-cleared v p less within = elim (cases_eq v vid) [
    | inl same ↦
        let at : (place_of v p) % 8192 ≡ vid = omega arith in
        let column : (place_of v p) / 8192 < count = omega arith in
        let none : is_member_in words v p ≡ false =
        ap (λ (w : ℕ). eqb (bit_at w (p % 64)) 1) (zero-word (place_of v p) at column) ∙ ap (λ (w : ℕ). eqb w 1) (bit_at-zero (p % 64)) in
        cond-false (is_member_in words v p) _ None none ∙ sym (cond-true (eqb v vid) None (egress_in old v p) (eq-eqb v vid same))
    | inr ne ↦
        let at : (place_of v p) % 8192 ≢ vid = λ e. ne (omega arith) in
        let beside : (place_of v p + 4096) % 8192 ≢ vid = λ e. omega arith in
        egress-same words old v p (ap (λ (w : ℕ). eqb (bit_at w (p % 64)) 1) (kept-word (place_of v p) at))
        (ap (λ (w : ℕ). eqb (bit_at w (p % 64)) 1) (kept-word (place_of v p + 4096) beside))
        ∙ sym (cond-false (eqb v vid) None (egress_in old v p) (ne_eqb v vid ne))
  ]

-- ---- words that are 0

pub get_or-zeros : (n i : ℕ) → get_or (replicate {A = ℕ} n 0) i 0 ≡ 0
get_or-zeros zero i = refl
get_or-zeros (suc n) zero = refl
get_or-zeros (suc n) (suc i) = get_or-zeros n i

pub stands-zeros : (n v : ℕ) → stands_in (replicate n 0) v ≡ false
stands-zeros n v = ap (λ (w : ℕ). eqb (bit_at w 0) 1) (get_or-zeros n v) ∙ ap (λ (w : ℕ). eqb w 1) (bit_at-zero 0)

-- ---- the members of 64 ports, in their word

-- whether a port is a member, by its bit of the word that is read for its 64
pub told_by : (words : List ℕ) (vid column p word place b : ℕ) → word ≡ get_or words place 0 → place ≡ column * 8192 + vid → column * 64 ≤ p → p < column * 64 + 64
    → bit_at word (p - column * 64) ≡ b → is_member_in words vid p ≡ eqb b 1
told_by words vid column p word place b read at low high is =
    let bit : p % 64 ≡ p - column * 64 = omega arith in
    let here : place_of vid p ≡ place = omega arith in
    (λ i. has_bit words (here i) (bit i)) ∙ ap (λ (w : ℕ). eqb (bit_at w (p - column * 64)) 1) (sym read) ∙ ap (λ (b : ℕ). eqb b 1) is

-- ---- one of two

pub or_same : (v vid : ℕ) (a b : Bool) → (v ≢ vid → a ≡ b) → cond (eqb v vid) true a ≡ (eqb v vid || b)
or_same v vid a b same = elim (cases_eq v vid) [
  | inl is ↦ cond-true (eqb v vid) true a (eq-eqb v vid is) ∙ sym (ap (λ (t : Bool). t || b) (eq-eqb v vid is))
  | inr ne ↦ cond-false (eqb v vid) true a (ne_eqb v vid ne) ∙ same ne ∙ sym (ap (λ (t : Bool). t || b) (ne_eqb v vid ne))
]
