-- Words of a text, parted by one character.
use Rattle.std.proofs.Common.{◌≡◌, ◌∙◌, refl, sym, ap, ℕ, zero, suc, ◌<◌, arith, Bool, true, false, cond, eqb, List, [], ◌∷◌, ◌++◌, get_or, append-nil}
use Rattle.std.specs.List.{AllByRecursion}
use Rattle.std.proofs.lemmas.Bool.{eq-eqb}
use Rattle.line_words.proofs.Decimals.{lacks}

abbrev pub Lacks : ℕ → List ℕ → Type 0
Lacks s w = lacks s w ≡ true

-- the words, each behind the character
abbrev pub spaced : ℕ → List (List ℕ) → List ℕ
spaced s [] = []
spaced s (w ∷ ws) = s ∷ w ++ spaced s ws

-- a text is taken apart at the character
abbrev before : ℕ → List (List ℕ) → List (List ℕ)
before c [] = (c ∷ []) ∷ []
before c (w ∷ ws) = (c ∷ w) ∷ ws

abbrev split : ℕ → List ℕ → List (List ℕ)
split s [] = [] ∷ []
split s (c ∷ cs) = cond (eqb c s) ([] ∷ split s cs) (before c (split s cs))

split-alone : (s : ℕ) (w : List ℕ) → Lacks s w → split s w ≡ w ∷ []
split-alone s [] h = refl
split-alone s (c ∷ cs) h = by (eqb c s) h (split-alone s cs)
  where
    by : (q : Bool) → cond q false (lacks s cs) ≡ true → (Lacks s cs → split s cs ≡ cs ∷ []) → cond q ([] ∷ split s cs) (before c (split s cs)) ≡ (c ∷ cs) ∷ []
    by true h next = absurd cc
    by false h next = ap (before c) (next h)

split-front : (s : ℕ) (w rest : List ℕ) → Lacks s w → split s (w ++ s ∷ rest) ≡ w ∷ split s rest
split-front s [] rest h = ap (λ q. cond q ([] ∷ split s rest) (before s (split s rest))) (eq-eqb s s refl)
split-front s (c ∷ cs) rest h = by (eqb c s) h (split-front s cs rest)
  where
    by : (q : Bool) → cond q false (lacks s cs) ≡ true → (Lacks s cs → split s (cs ++ s ∷ rest) ≡ cs ∷ split s rest)
        → cond q ([] ∷ split s (cs ++ s ∷ rest)) (before c (split s (cs ++ s ∷ rest))) ≡ (c ∷ cs) ∷ split s rest
    by true h next = absurd cc
    by false h next = ap (before c) (next h)

split-words : (s : ℕ) (w : List ℕ) (ws : List (List ℕ)) → AllByRecursion (Lacks s) (w ∷ ws) → split s (w ++ spaced s ws) ≡ w ∷ ws
split-words s w [] h = ap (split s) (append-nil w) ∙ split-alone s w h.0
split-words s w (v ∷ vs) h = split-front s w (v ++ spaced s vs) h.0 ∙ ap (λ l. w ∷ l) (split-words s v vs h.1)

-- texts of words tell the words
pub same-words : (s : ℕ) (w v : List ℕ) (ws vs : List (List ℕ)) → AllByRecursion (Lacks s) (w ∷ ws) → AllByRecursion (Lacks s) (v ∷ vs)
    → w ++ spaced s ws ≡ v ++ spaced s vs → w ∷ ws ≡ v ∷ vs
same-words s w v ws vs h k e = sym (split-words s w ws h) ∙ ap (split s) e ∙ split-words s v vs k

-- what a text lacks stands nowhere in it
pub lacks-none : (s : ℕ) (t : List ℕ) (i : ℕ) → Lacks s t → get_or t i 0 ≡ s → 0 < s → ⊥
lacks-none s [] i h e pos = omega (arith, e, pos)
lacks-none s (c ∷ cs) zero h e pos = let found : cond true false (lacks s cs) ≡ true = sym (ap (λ q. cond q false (lacks s cs)) (eq-eqb c s e)) ∙ h in absurd cc
lacks-none s (c ∷ cs) (suc i) h e pos = by (eqb c s) h (λ rest. lacks-none s cs i rest e pos)
  where
    by : (q : Bool) → cond q false (lacks s cs) ≡ true → (Lacks s cs → ⊥) → ⊥
    by true h next = absurd cc
    by false h next = next h

-- the character at a place of a word at a place
abbrev pub letter : ℕ → ℕ → List (List ℕ) → ℕ
letter i j ws = get_or (get_or ws i []) j 0
