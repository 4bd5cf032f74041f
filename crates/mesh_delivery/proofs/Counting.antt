-- Counting along a list.
use Rattle.std.proofs.Common.{◌≡◌, ℕ, ◌+◌, ◌≤◌, Bool, true, false, cond, refl, sym, List, [], ◌∷◌, ◌++◌, arith}
use Rattle.std.specs.List.{AllByRecursion, filter, count_by}
use Rattle.std.proofs.lemmas.Bool.{false≢true}
use Rattle.std.proofs.lemmas.List.Recursion.{is_sum_by}

abbrev pub how_many : {X : Type 0} → (X → Bool) → List X → ℕ
how_many test [] = 0
how_many test (x ∷ xs) = cond (test x) 1 0 + how_many test xs

pub how_many-count : {X : Type 0} (test : X → Bool) (xs : List X) → how_many test xs ≡ count_by test xs
how_many-count test xs = is_sum_by (how_many test) (λ x. cond (test x) 1 0) refl (λ x xs. refl) xs

pub how_many-append : {X : Type 0} (test : X → Bool) (xs ys : List X) → how_many test (xs ++ ys) ≡ how_many test xs + how_many test ys
how_many-append test [] ys = omega arith
how_many-append test (x ∷ xs) ys = plus (cond (test x) 1 0) _ (how_many test xs) (how_many test ys) (how_many-append test xs ys)
  where
    plus : (a b c d : ℕ) → b ≡ c + d → a + b ≡ (a + c) + d
    plus a b c d e = omega arith

pub how_many-filter : {X : Type 0} (test keep : X → Bool) (xs : List X) → how_many test (filter keep xs) ≤ how_many test xs
how_many-filter test keep [] = omega arith
how_many-filter test keep (x ∷ xs) = by (how_many-filter test keep xs) (keep x)
  where
    by : how_many test (filter keep xs) ≤ how_many test xs → (b : Bool) → how_many test (cond b (x ∷ filter keep xs) (filter keep xs)) ≤ cond (test x) 1 0 + how_many test xs
    by rest true = omega arith
    by rest false = omega arith

none_more : (b : Bool) (n : ℕ) → b ≡ false → n ≡ 0 → cond b 1 0 + n ≡ 0
none_more true n e f = absurd (false≢true (sym e))
none_more false n e f = omega arith

-- none passes a test that none can pass
pub none_of : {X : Type 0} (test : X → Bool) → ((x : X) → test x ≡ false) → (xs : List X) → how_many test xs ≡ 0
none_of test fails [] = refl
none_of test fails (x ∷ xs) = none_more (test x) (how_many test xs) (fails x) (none_of test fails xs)

-- nor one that none that is kept can pass
pub none_kept : {X : Type 0} (test keep : X → Bool) → ((x : X) → keep x ≡ true → test x ≡ false) → (xs : List X) → how_many test (filter keep xs) ≡ 0
none_kept test keep fails [] = refl
none_kept test keep fails (x ∷ xs) = by (keep x) refl (none_kept test keep fails xs)
  where
    by : (b : Bool) → keep x ≡ b → how_many test (filter keep xs) ≡ 0 → how_many test (cond b (x ∷ filter keep xs) (filter keep xs)) ≡ 0
    by true e rest = none_more (test x) _ (fails x e) rest
    by false e rest = rest

pub one_at_most : (b : Bool) → cond b 1 0 + 0 ≤ 1
one_at_most true = omega arith
one_at_most false = omega arith

-- ---- what holds of each

pub All_append : {X : Type 0} (P : X → Type 0) (xs ys : List X) → AllByRecursion P xs → AllByRecursion P ys → AllByRecursion P (xs ++ ys)
All_append P [] ys h k = k
All_append P (x ∷ xs) ys h k = (h.0, All_append P xs ys h.1 k)

pub All_map : {X : Type 0} (P Q : X → Type 0) → ((x : X) → P x → Q x) → (xs : List X) → AllByRecursion P xs → AllByRecursion Q xs
All_map P Q f [] h = tt
All_map P Q f (x ∷ xs) h = (f x h.0, All_map P Q f xs h.1)

pub All_both : {X : Type 0} (P Q : X → Type 0) (xs : List X) → AllByRecursion P xs → AllByRecursion Q xs → AllByRecursion (λ x. P x × Q x) xs
All_both P Q [] h k = tt
All_both P Q (x ∷ xs) h k = ((h.0, k.0), All_both P Q xs h.1 k.1)
