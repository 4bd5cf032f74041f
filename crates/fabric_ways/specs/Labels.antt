-- Labels of numbers that are linked. It states no standard.
use Rattle.std.specs.Prelude.{◌≡◌, ℕ, ◌+◌, List, [], ◌∷◌, nat_eq, unwrap_or, All}
use Rattle.std.specs.declared.hash.FoldHasher.{FoldHasher}
use Rattle.std.specs.declared.hash.BuildHasherDefault.{BuildHasherDefault}
use Rattle.std.specs.HashMap.{get, HashMap}

-- labels that are kept
abbrev pub Labels : Type 0
Labels = HashMap ℕ ℕ (BuildHasherDefault FoldHasher)

-- the label of a number: its own where none is kept
abbrev pub label_in : Labels → ℕ → ℕ
label_in labels q = unwrap_or (get nat_eq labels q) q

-- a function gives the two numbers of each link one value
abbrev pub Links : (ℕ → ℕ) → List (ℕ × ℕ) → Type 0
Links f links = All (λ l. f l.0 ≡ f l.1) links

-- a function has one value for a number and its label
abbrev pub IsFaithful : (ℕ → ℕ) → (ℕ → ℕ) → Type 0
IsFaithful f label = (q : ℕ) → f (label q) ≡ f q

-- the sum of the labels of all links
abbrev pub weigh : (ℕ → ℕ) → List (ℕ × ℕ) → ℕ
weigh g [] = 0
weigh g (l ∷ ls) = g l.0 + g l.1 + weigh g ls
