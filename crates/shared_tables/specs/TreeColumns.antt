-- The trees, as they are kept: numbers in three columns. It states no standard.
use Rattle.std.specs.Prelude.{◌≡◌, ◌≢◌, ℕ, ◌+◌, ◌-◌, ◌*◌, ◌/◌, ◌%◌, ◌<◌, ◌≤◌, List, length}
use Rattle.std.specs.Prelude.{nat_eq, nat_lt, slice_index_or, slice_set, replicate, if◌then◌else◌}
use Rattle.std.specs.List.{range_with_len}
use Rattle.shared_tables.specs.declared.trees.Target.{Target}
use Rattle.shared_tables.specs.declared.trees.Target.TheVariants.{Nothing, Leaf, Fork}

-- what stands at each place; a number of each slot, and one of each fork. That of a slot or a fork in a tree says where it
-- stands: it is a place behind a fork, or a fork that the tree keeps at whose root it stands. That of a free slot is a fork that it keeps
pub record Trees : Type 0 where
  pub words : List ℕ
  pub leaves : List ℕ
  pub forks : List ℕ

-- what a word says: below 1,048,576 a slot, the greatest of 32 bits nothing, each other one a fork and a bit
unfoldable pub target_in : ℕ → Target
target_in word =
    if nat_lt word 1048576 then Leaf word
    else if nat_eq word 4294967295 then Nothing
    else Fork ((word - 1048576) / 64) ((word - 1048576) % 64)

-- a word says that a fork stands there
abbrev pub IsFork : ℕ → Type 0
IsFork word = (1048576 ≤ word) × (word ≢ 4294967295)

-- the word of a fork
abbrev pub fork_word : ℕ → ℕ → ℕ
fork_word fork bit = 1048576 + fork * 64 + bit

-- what stands at a place
abbrev pub target_at : List ℕ → ℕ → Target
target_at words place = target_in (slice_index_or words place 4294967295)

-- a number of a column
abbrev pub number_at : List ℕ → ℕ → ℕ
number_at numbers i = slice_index_or numbers i 0

-- the place on one side of a fork: those of the roots are smaller
abbrev pub child_of : ℕ → ℕ → ℕ
child_of fork side = 1048576 + 2 * fork + side

-- there are as many forks as slots, and two places for each; so few that no fork's number is a place's there
pub record HasSizes (w : Trees) : Type 0 where
  pub words : length w.words ≡ 1048576 + 2 * length w.forks
  pub leaves : length w.leaves ≡ length w.forks
  pub few : length w.forks ≤ 1048576

-- a target's number is one of a slot, or of a fork
abbrev pub Names : Trees → Target → Type 0
Names w Nothing = Unit {0}
Names w (Leaf slot) = slot < length w.leaves
Names w (Fork fork bit) = fork < length w.forks

-- trees without leaves, where each slot keeps the fork of its number
abbrev pub bare_trees : ℕ → Trees
bare_trees size = record {
  words = replicate (1048576 + 2 * size) 4294967295;
  leaves = range_with_len 0 size;
  forks = replicate size 0;
}

-- the trees where a target has another number
abbrev pub standing : Target → ℕ → Trees → Trees
standing Nothing number w = w
standing (Leaf slot) number w = record w { leaves = slice_set w.leaves slot number }
standing (Fork fork bit) number w = record w { forks = slice_set w.forks fork number }

-- where what has a number in a tree stands
unfoldable pub place_by : ℕ → ℕ → ℕ
place_by tree number = if nat_lt number 1048576 then tree else number

-- a slot as the only leaf of a tree, which keeps its fork
abbrev pub planted : Trees → ℕ → ℕ → Trees
planted w tree slot = record w { words = slice_set w.words tree slot }

-- a fork where a leaf of a tree stood, with the leaf and a slot behind it
abbrev pub grafted : Trees → ℕ → ℕ → ℕ → ℕ → ℕ → Trees
grafted w tree leaf slot bit side =
    let number = number_at w.leaves leaf in
    let fork = number_at w.leaves slot in
    let own = child_of fork side in
    let other = child_of fork (1 - side) in
    record w {
      words = slice_set (slice_set (slice_set w.words (place_by tree number) (fork_word fork bit)) own slot) other leaf;
      leaves = slice_set (slice_set w.leaves slot own) leaf other;
      forks = slice_set w.forks fork number;
    }

-- without the only leaf of a tree, which keeps the tree's fork then
abbrev pub cleared : Trees → ℕ → Trees
cleared w tree = record w { words = slice_set w.words tree 4294967295 }

-- without a fork of a tree and the leaf on one side of it: what stands on the other takes the fork's place, and the slot
-- keeps the fork
abbrev pub pruned : Trees → ℕ → ℕ → ℕ → ℕ → Trees
pruned w tree fork side slot =
    let sibling = slice_index_or w.words (child_of fork (1 - side)) 4294967295 in
    let above = number_at w.forks fork in
    let moved = standing (target_in sibling) above w in
    record moved {
      words = slice_set (slice_set (slice_set w.words (place_by tree above) sibling) (child_of fork 0) 4294967295)
          (child_of fork 1) 4294967295;
      leaves = slice_set moved.leaves slot fork;
    }

-- what letting a slot of a tree go reads is in the columns
pub record MayGo (w : Trees) (tree slot : ℕ) : Type 0 where
  pub number_there : tree < 262144
  pub slot_there : slot < length w.leaves
  pub place : number_at w.leaves slot < length w.words
  pub above : 1048576 ≤ number_at w.leaves slot
      → place_by tree (number_at w.forks ((number_at w.leaves slot - 1048576) / 2)) < length w.words
  pub sibling : 1048576 ≤ number_at w.leaves slot
      → Names w (target_at w.words (child_of ((number_at w.leaves slot - 1048576) / 2) (1 - (number_at w.leaves slot - 1048576) % 2)))

-- a slot has left its tree
pub record Uproots (old new : Trees) (tree slot : ℕ) : Type 0 where
  pub alone : number_at old.leaves slot < 1048576 → new ≡ cleared old tree
  pub behind : 1048576 ≤ number_at old.leaves slot
      → new ≡ pruned old tree ((number_at old.leaves slot - 1048576) / 2) ((number_at old.leaves slot - 1048576) % 2) slot
