-- What holds of the trees and the entries together. It states no standard.
use Rattle.std.specs.Prelude.{◌≡◌, ◌≢◌, ℕ, ◌+◌, ◌<◌, ◌≤◌, List, [], length, Option, Some, None}
use Rattle.std.specs.Int.{bit_at}
use Rattle.std.specs.List.{sum_by}
use Rattle.shared_tables.specs.declared.look_up.Beside.{Beside}
use Rattle.shared_tables.specs.declared.trees.Target.{Target}
use Rattle.shared_tables.specs.declared.trees.Target.TheVariants as target
use Rattle.shared_tables.specs.Bucket.{key_of, IsKey}
use Rattle.shared_tables.specs.Pool.{Held, entry_at}
use Rattle.shared_tables.specs.Line.{is_on, weight}
use Rattle.shared_tables.specs.Shared.{tree_key}
use Rattle.shared_tables.specs.LinkSteps.{IsHeld}
use Rattle.shared_tables.specs.Tree.{Tree, leaves, IsTree, IsParted, descend}
use Rattle.shared_tables.specs.TreeColumns.{Trees, HasSizes, target_at, number_at, child_of}

-- the key of what a slot holds
abbrev pub key_in : Option Held → ℕ
key_in None = 0
key_in (Some e) = key_of e.vid e.mac

-- the keys of the slots
abbrev pub keys_of : List (Option Held) → ℕ → ℕ
keys_of entries i = key_in (entry_at entries i)

-- they have no more bits than a VID and an address
abbrev pub AreKeys : List (Option Held) → Type 0
AreKeys entries = (i : ℕ) → IsKey (keys_of entries i)

-- a bit in which what a slot holds and a key differ
abbrev pub PartedAt : Option Held → ℕ → ℕ → Type 0
PartedAt entry key bit = (bit < 64) × (bit_at (key_in entry) bit + bit_at key bit ≡ 1)

-- the slots of a tree's leaves; none where there is no tree
abbrev pub leaves_of : Option Tree → List ℕ
leaves_of None = []
leaves_of (Some t) = leaves t

-- what stands at the places is the tree, or nothing
abbrev pub IsRooted : (ℕ → Target) → Target → Option Tree → Type 0
IsRooted at here None = here ≡ target.Nothing
IsRooted at here (Some t) = IsTree at here t

-- a tree's forks part the keys of its leaves
abbrev pub AnyParted : (ℕ → ℕ) → Option Tree → Type 0
AnyParted keys None = Unit {0}
AnyParted keys (Some t) = IsParted keys t

-- a key leads to a leaf of the tree; to none, where there is no tree
abbrev pub LeadsTo : ℕ → Option Tree → Option ℕ → Type 0
LeadsTo key None None = Unit {0}
LeadsTo key None (Some leaf) = ⊥
LeadsTo key (Some t) None = ⊥
LeadsTo key (Some t) (Some leaf) = descend key t ≡ leaf

-- the tree of this number
pub record IsTreeOf (entries : List (Option Held)) (words : List ℕ) (number : ℕ) : Type 0 where
  pub tree : Option Tree
  pub rooted : IsRooted (target_at words) (target_at words number) tree
  pub parted : AnyParted (keys_of entries) tree
  pub members : (i : ℕ) → is_on i (leaves_of tree) ≡ tree_key number (entry_at entries i)
  pub size : length (leaves_of tree) ≡ sum_by (weight (tree_key number)) entries

-- the leaf beside which a key belongs in a tree; none where that has no leaves
pub record Belongs (words : List ℕ) (number key : ℕ) (leaf : Option ℕ) : Type 0 where
  pub tree : Option Tree
  pub rooted : IsRooted (target_at words) (target_at words number) tree
  pub leads : LeadsTo key tree leaf

-- the leaf beside which an address belongs
abbrev pub leaf_of : Option Beside → Option ℕ
leaf_of None = None
leaf_of (Some b) = Some b.leaf

-- an address belongs beside a leaf of its tree, from whose key its own differs in a bit; beside none where the tree has no
-- leaves
abbrev pub BelongsBeside : List (Option Held) → List ℕ → (number key : ℕ) → Option Beside → Type 0
BelongsBeside entries words number key None = Belongs words number key None
BelongsBeside entries words number key (Some b) = Belongs words number key (Some b.leaf) × PartedAt (entry_at entries b.leaf) key b.bit

-- something stands on both sides of a fork
abbrev pub HasChildren : List ℕ → ℕ → Type 0
HasChildren words fork = (target_at words (child_of fork 0) ≢ target.Nothing) × (target_at words (child_of fork 1) ≢ target.Nothing)

-- nothing stands on either side
abbrev pub IsBare : List ℕ → ℕ → Type 0
IsBare words fork = (target_at words (child_of fork 0) ≡ target.Nothing) × (target_at words (child_of fork 1) ≡ target.Nothing)

-- a number says a place: one behind a fork is its own, and the root of a tree has a smaller one
pub record IsPlaced (number place : ℕ) : Type 0 where
  pub behind : 1048576 ≤ place → number ≡ place
  pub root : place < 1048576 → number < 1048576

-- what stands at a place has a number that says so: a slot that holds an entry, or a fork
abbrev pub StandsAt : List (Option Held) → Trees → ℕ → Target → Type 0
StandsAt entries w place target.Nothing = Unit {0}
StandsAt entries w place (target.Leaf i) = IsPlaced (number_at w.leaves i) place × IsHeld entries i
StandsAt entries w place (target.Fork n b) = IsPlaced (number_at w.forks n) place × (n < length w.forks) × HasChildren w.words n

-- the fork that a tree keeps: the number of what stands at its root
abbrev pub spare_of : Trees → Target → ℕ
spare_of w target.Nothing = 0
spare_of w (target.Leaf i) = number_at w.leaves i
spare_of w (target.Fork n b) = number_at w.forks n

-- a fork that no tree has is kept by one keeper alone: a slot, by its number, or a tree, by its number over 1,048,576
pub record Keeps (w : Trees) (keeper : ℕ → ℕ) (fork by : ℕ) : Type 0 where
  pub there : fork < length w.forks
  pub kept : keeper fork ≡ by
  pub bare : IsBare w.words fork

-- each number has its tree; each free slot keeps a fork, and each tree that has leaves
pub record AreTreesOf (entries : List (Option Held)) (w : Trees) : Type 0 where
  pub sizes : HasSizes w
  pub slots : length w.forks ≡ length entries
  pub keys : AreKeys entries
  pub numbered : (c : ℕ) → c < 1048576 → IsTreeOf entries w.words c
  pub stands : (p : ℕ) → StandsAt entries w p (target_at w.words p)
  pub keeper : ℕ → ℕ
  pub frees : (i : ℕ) → i < length entries → entry_at entries i ≡ None → Keeps w keeper (number_at w.leaves i) i
  pub spares : (c : ℕ) → c < 1048576 → target_at w.words c ≢ target.Nothing
      → Keeps w keeper (spare_of w (target_at w.words c)) (1048576 + c)
