-- Texts without a line feed, and how long they are.
use Rattle.std.proofs.Common.{◌≡◌, ◌≢◌, refl, ℕ, zero, suc, ◌+◌, ◌^◌, ◌<◌, ◌≤◌, arith, rules, Bool, true, false, cond, eqb, List, [], ◌∷◌, ◌++◌, length, length-append}
use Rattle.std.specs.Prelude.{nat_le, slice_index}
use Rattle.std.specs.Fmt.{decimal}
use Rattle.std.proofs.lemmas.Bool.{eqb-false, leb-true}
use Rattle.std.proofs.lemmas.Fmt.{length-decimal-le}
use Rattle.line_words.proofs.Decimals.{IsNoDigit, lacks, lacks_decimal, lacks_more, lacks_one}
use Rattle.wire.specs.Reason as reason
use Rattle.wire.specs.declared.ether.reason.Reason.{Reason}
use Rattle.endpoint_core.specs.Fault as fault
use Rattle.endpoint_core.specs.declared.state.fault.ChangeFault.{ChangeFault}

-- a text without a line feed, of so many octets at most
pub record IsPlain (most : ℕ) (t : List ℕ) : Type 0 where
  pub lacks : lacks 10 t ≡ true
  pub short : length t ≤ most

pub plain-none : IsPlain 0 []
plain-none = record { lacks = refl; short = omega arith }

pub plain-one : (c : ℕ) → c ≢ 10 → IsPlain 1 (c ∷ [])
plain-one c other = record { lacks = lacks_one 10 c other; short = omega arith }

pub plain-more : (j k : ℕ) (a b : List ℕ) → IsPlain j a → IsPlain k b → IsPlain (j + k) (a ++ b)
plain-more j k a b first second = record {
  lacks = lacks_more 10 a b first.lacks second.lacks;
  short = omega (arith, length-append a b, first.short, second.short);
}

pub plain-less : (j k : ℕ) (t : List ℕ) → IsPlain j t → j ≤ k → IsPlain k t
plain-less j k t is le = record { lacks = is.lacks; short = omega (arith, is.short, le) }

-- a text that is told to lack it, and whose length is tested
pub plain-known : (most : ℕ) (t : List ℕ) → lacks 10 t ≡ true → nat_le (length t) most ≡ true → IsPlain most t
plain-known most t without tested = record { lacks = without; short = leb-true (length t) most tested }

no_digit : IsNoDigit 10
no_digit d low e = omega (arith, e)

pub plain-decimal : (k n : ℕ) → 0 < k → n < 10 ^ k → n < 2 ^ 64 → IsPlain k (decimal n)
plain-decimal k n some low fits = record { lacks = lacks_decimal 10 n no_digit fits; short = length-decimal-le k n some low fits }

pub plain-number : (n : ℕ) → n < 2 ^ 64 → IsPlain 20 (decimal n)
plain-number n fits = plain-decimal 20 n (omega arith) (omega (arith, fits)) fits

-- no octet of it is a line feed
pub none-feeds : (t : List ℕ) → lacks 10 t ≡ true → (k : ℕ) → k < length t → slice_index t k ≢ 10
none-feeds [] without k lt = absurd (omega (arith, lt))
none-feeds (c ∷ cs) without zero lt = by (eqb c 10) refl without
  where
    by : (b : Bool) → eqb c 10 ≡ b → cond b false (lacks 10 cs) ≡ true → c ≢ 10
    by true is h = absurd cc
    by false is h = eqb-false c 10 is
none-feeds (c ∷ cs) without (suc k) lt = none-feeds cs (by (eqb c 10) without) k (omega (arith, lt))
  where
    by : (b : Bool) → cond b false (lacks 10 cs) ≡ true → lacks 10 cs ≡ true
    by true h = absurd cc
    by false h = h

-- ---- names and numbers

pub plain-reason : (r : Reason) → IsPlain 16 (reason.name_of r)
plain-reason r = plain-known 16 (reason.name_of r) (search rules) (search rules)

pub small-reason : (r : Reason) → reason.number_of r < 100
small-reason r = grind arith

pub plain-fault : (f : ChangeFault) → IsPlain 16 (fault.name_of f)
plain-fault f = plain-known 16 (fault.name_of f) (search rules) (search rules)

pub small-fault : (f : ChangeFault) → fault.number_of f < 100
small-fault f = grind arith
