-- A tree, whatever places its forks have. It states no standard.
use Rattle.std.specs.Prelude.{◌≡◌, ℕ, true, List, [], ◌∷◌, ◌++◌, Option, Some, None, nat_eq, if◌then◌else◌}
use Rattle.std.specs.Int.{bit_at}
use Rattle.shared_tables.specs.declared.trees.Target.{Target}
use Rattle.shared_tables.specs.declared.trees.Target.TheVariants as target
use Rattle.shared_tables.specs.Line.{is_on}
use Rattle.shared_tables.specs.TreeColumns.{child_of}

-- a leaf with its slot, or a fork with its number, the bit that parts its leaves, and what is behind it
pub data Tree : Type 0 where
  Leaf : (slot : ℕ) → Tree
  Fork : (fork bit : ℕ) (left right : Tree) → Tree

-- the slots of the leaves
abbrev pub leaves : Tree → List ℕ
leaves (Leaf i) = i ∷ []
leaves (Fork n b l r) = leaves l ++ leaves r

-- what stands at each place is the tree, from a target on
abbrev pub IsTree : (ℕ → Target) → Target → Tree → Type 0
IsTree at here (Leaf i) = here ≡ target.Leaf i
IsTree at here (Fork n b l r) = (here ≡ target.Fork n b) × IsTree at (at (child_of n 0)) l × IsTree at (at (child_of n 1)) r

-- the keys of the leaves have this bit
abbrev pub HaveBit : (ℕ → ℕ) → ℕ → ℕ → Tree → Type 0
HaveBit keys bit value t = (i : ℕ) → is_on i (leaves t) ≡ true → bit_at (keys i) bit ≡ value

-- each fork's bit is 0 in the keys to its left, and 1 to its right
abbrev pub IsParted : (ℕ → ℕ) → Tree → Type 0
IsParted keys (Leaf i) = Unit {0}
IsParted keys (Fork n b l r) = HaveBit keys b 0 l × HaveBit keys b 1 r × IsParted keys l × IsParted keys r

-- one of two, by a bit
abbrev pub by_bit : {A : Type 0} → ℕ → A → A → A
by_bit bit zero one = if nat_eq bit 0 then zero else one

-- the leaf to which a key leads
abbrev pub descend : ℕ → Tree → ℕ
descend key (Leaf i) = i
descend key (Fork n b l r) = by_bit (bit_at key b) (descend key l) (descend key r)

-- a fork with two leaves: the slot on the side of its bit
abbrev pub twig : ℕ → ℕ → ℕ → ℕ → ℕ → Tree
twig fork bit side slot leaf = by_bit side (Fork fork bit (Leaf slot) (Leaf leaf)) (Fork fork bit (Leaf leaf) (Leaf slot))

-- the tree with a twig in the place of the leaf to which a key leads
abbrev pub with_twig : ℕ → ℕ → ℕ → ℕ → Tree → Tree
with_twig key slot fork bit (Leaf i) = twig fork bit (bit_at key bit) slot i
with_twig key slot fork bit (Fork n b l r) =
    by_bit (bit_at key b) (Fork n b (with_twig key slot fork bit l) r) (Fork n b l (with_twig key slot fork bit r))

-- a fork with another tree on the left; where there is none, the right one
abbrev pub with_left : ℕ → ℕ → Option Tree → Tree → Tree
with_left n b None r = r
with_left n b (Some l) r = Fork n b l r

-- and on the right
abbrev pub with_right : ℕ → ℕ → Tree → Option Tree → Tree
with_right n b l None = l
with_right n b l (Some r) = Fork n b l r

-- the tree without the leaf to which a key leads
abbrev pub without : ℕ → Tree → Option Tree
without key (Leaf i) = None
without key (Fork n b l r) = by_bit (bit_at key b) (Some (with_left n b (without key l) r)) (Some (with_right n b l (without key r)))
