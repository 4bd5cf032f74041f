-- What the list of the trees' numbers stands for. It states no standard.
use Rattle.std.specs.Prelude.{ℕ, ◌-◌, ◌≤◌, ◌++◌, List, take, drop, replicate, length}
use Rattle.shared_tables.specs.declared.columns.Columns.TheInside.{Inside}
use Rattle.shared_tables.specs.TreeColumns.{Trees}

-- the words of all places, by those that are kept: the roots of 262,144 trees come first, and the sides of forks from
-- 1,048,576 on; at the places between them stands nothing, and they aren't kept
unfoldable pub with_gap : List ℕ → List ℕ
with_gap kept = take 262144 kept ++ (replicate 786432 4294967295 ++ drop 262144 kept)

-- the columns, each up to the next
abbrev pub columns_of : Inside → Trees
columns_of a = record {
  words = with_gap (take a.leaves a.numbers.items);
  leaves = take (a.forks - a.leaves) (drop a.leaves a.numbers.items);
  forks = drop a.forks a.numbers.items;
}

-- they begin one behind another, the second behind the roots
pub record AreInOrder (a : Inside) : Type 0 where
  pub roots : 262144 ≤ a.leaves
  pub leaves : a.leaves ≤ a.forks
  pub forks : a.forks ≤ length a.numbers.items
