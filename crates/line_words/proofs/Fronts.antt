-- A text that begins with a part that lacks an octet.
use Rattle.std.proofs.Common.{◌≡◌, ℕ, Bool, true, false, cond, eqb, List, [], ◌∷◌, ◌++◌, refl, ap}
use Rattle.std.proofs.lemmas.Bool.{eq-eqb, cond-true}
use Rattle.line_words.specs.Splits.{before_octet, behind_octet}
use Rattle.line_words.specs.Words.{word, behind}
use Rattle.line_words.proofs.Decimals.{lacks}

-- ---- whatever the octet is

pub before_stop : (s : ℕ) (w r : List ℕ) → lacks s w ≡ true → before_octet s (w ++ s ∷ r) ≡ w
before_stop s [] r h = cond-true _ _ _ (eq-eqb s s refl)
before_stop s (c ∷ cs) r h = by (eqb c s) h (λ k. before_stop s cs r k)
  where
    by : (q : Bool) → cond q false (lacks s cs) ≡ true → (lacks s cs ≡ true → before_octet s (cs ++ s ∷ r) ≡ cs) → cond q [] (c ∷ before_octet s (cs ++ s ∷ r)) ≡ c ∷ cs
    by true k more = absurd cc
    by false k more = ap (λ w. c ∷ w) (more k)

pub behind_stop : (s : ℕ) (w r : List ℕ) → lacks s w ≡ true → behind_octet s (w ++ s ∷ r) ≡ r
behind_stop s [] r h = cond-true _ _ _ (eq-eqb s s refl)
behind_stop s (c ∷ cs) r h = by (eqb c s) h (λ k. behind_stop s cs r k)
  where
    by : (q : Bool) → cond q false (lacks s cs) ≡ true → (lacks s cs ≡ true → behind_octet s (cs ++ s ∷ r) ≡ r) → cond q (cs ++ s ∷ r) (behind_octet s (cs ++ s ∷ r)) ≡ r
    by true k more = absurd cc
    by false k more = more k

pub before_never : (s : ℕ) (w : List ℕ) → lacks s w ≡ true → before_octet s w ≡ w
before_never s [] h = refl
before_never s (c ∷ cs) h = by (eqb c s) h (λ k. before_never s cs k)
  where
    by : (q : Bool) → cond q false (lacks s cs) ≡ true → (lacks s cs ≡ true → before_octet s cs ≡ cs) → cond q [] (c ∷ before_octet s cs) ≡ c ∷ cs
    by true k more = absurd cc
    by false k more = ap (λ w. c ∷ w) (more k)

pub behind_never : (s : ℕ) (w : List ℕ) → lacks s w ≡ true → behind_octet s w ≡ []
behind_never s [] h = refl
behind_never s (c ∷ cs) h = by (eqb c s) h (λ k. behind_never s cs k)
  where
    by : (q : Bool) → cond q false (lacks s cs) ≡ true → (lacks s cs ≡ true → behind_octet s cs ≡ []) → cond q cs (behind_octet s cs) ≡ []
    by true k more = absurd cc
    by false k more = more k

-- ---- a space

pub word_front : (w r : List ℕ) → lacks 32 w ≡ true → word (w ++ 32 ∷ r) ≡ w
word_front = before_stop 32

pub behind_front : (w r : List ℕ) → lacks 32 w ≡ true → behind (w ++ 32 ∷ r) ≡ r
behind_front = behind_stop 32

pub word_whole : (w : List ℕ) → lacks 32 w ≡ true → word w ≡ w
word_whole = before_never 32

pub behind_whole : (w : List ℕ) → lacks 32 w ≡ true → behind w ≡ []
behind_whole = behind_never 32
