-- What passed, together: the laws of its counts. It states no standard.
use Rattle.std.proofs.Common.{◌≡◌, ◌≤◌, ℕ, ◌+◌, max, min, refl, arith}
use Rattle.talkers.specs.Passed.{nothing, passed_with}
use Rattle.talkers.specs.declared.rows.passed.Passed.{Passed}

module _ (m : ℕ) where
  abbrev sum : ℕ → ℕ → ℕ
  sum a b = min m (a + b)

  abbrev first : ℕ → ℕ → ℕ
  first a b = min m (min a b)

  pub sum_grouped : (a b c : ℕ) → sum a (sum b c) ≡ sum (sum a b) c
  sum_grouped a b c = omega arith

  pub first_grouped : (a b c : ℕ) → first a (first b c) ≡ first (first a b) c
  first_grouped a b c = omega arith

  pub sum_turned : (a b : ℕ) → sum a b ≡ sum b a
  sum_turned a b = omega arith

  pub first_turned : (a b : ℕ) → first a b ≡ first b a
  first_turned a b = omega arith

  pub sum_whole : (a b : ℕ) → sum (sum a b) 0 ≡ sum a b
  sum_whole a b = omega arith

  pub first_whole : (a b : ℕ) → first (first a b) m ≡ first a b
  first_whole a b = omega arith

last_grouped : (a b c : ℕ) → max a (max b c) ≡ max (max a b) c
last_grouped a b c = omega arith

last_turned : (a b : ℕ) → max a b ≡ max b a
last_turned a b = omega arith

last_whole : (a b : ℕ) → max (max a b) 0 ≡ max a b
last_whole a b = omega arith

abbrev most : ℕ
most = 18446744073709551615

pub with_grouped : (a b c : Passed) → passed_with a (passed_with b c) ≡ passed_with (passed_with a b) c
with_grouped a b c = λ i. record {
  frames = sum_grouped most a.frames b.frames c.frames i;
  octets = sum_grouped most a.octets b.octets c.octets i;
  first = first_grouped most a.first b.first c.first i;
  last = last_grouped a.last b.last c.last i;
}

pub with_turned : (a b : Passed) → passed_with a b ≡ passed_with b a
with_turned a b = λ i. record {
  frames = sum_turned most a.frames b.frames i;
  octets = sum_turned most a.octets b.octets i;
  first = first_turned most a.first b.first i;
  last = last_turned a.last b.last i;
}

pub with_whole : (a b : Passed) → passed_with (passed_with a b) nothing ≡ passed_with a b
with_whole a b = λ i. record {
  frames = sum_whole most a.frames b.frames i;
  octets = sum_whole most a.octets b.octets i;
  first = first_whole most a.first b.first i;
  last = last_whole a.last b.last i;
}

pub nothing_is : passed_with nothing nothing ≡ nothing
nothing_is = refl

-- ---- frames

pub frames_summed : (a b : Passed) → (passed_with a b).frames ≤ min most (a.frames + b.frames)
frames_summed a b = omega arith

pub no_frames : nothing.frames ≡ 0
no_frames = refl
