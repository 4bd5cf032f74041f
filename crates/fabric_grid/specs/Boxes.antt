-- The holes of a grid as boxes: the members from which broadcasts are lost to the same members for the same reason. It states no
-- standard.
--     is_like       two members miss the same ones for a reason
--     leads         the first hole of a box: its row is the first of the like, its column the first of the row
--     mirrors       a box that is there both ways
use Rattle.std.specs.Prelude.{ℕ, Bool, true, false, not, ◌&&◌, ◌||◌, nat_lt, List}
use Rattle.fabric_grid.specs.Below.{all_below, each_below}
use Rattle.fabric_grid.specs.Cells.{cell, is_at, size}
use Rattle.fabric_grid.specs.declared.cell.Cell.{Cell}
use Rattle.fabric_grid.specs.declared.cell.Cell.TheVariants.{Comes}
use Rattle.fabric_grid.specs.declared.members.Grid.{Grid}

-- both hold, or neither does
abbrev pub agrees : Bool → Bool → Bool
agrees true b = b
agrees false b = not b

-- this becomes of the broadcasts of both at the same members
abbrev pub is_like : Grid → Cell → ℕ → ℕ → Bool
is_like g r i k = all_below (λ j. agrees (is_at g r i j) (is_at g r k j)) (size g)

-- where it becomes of those of member i
abbrev pub columns : Grid → Cell → ℕ → List Bool
columns g r i = each_below (is_at g r i) (size g)

-- the members like member i
abbrev pub heads : Grid → Cell → ℕ → List Bool
heads g r i = each_below (λ x. is_like g r x i) (size g)

-- no member before this one is like it
abbrev pub is_first_row : Grid → Cell → ℕ → Bool
is_first_row g r i = all_below (λ x. not (is_like g r x i)) i

-- at no member before this one it becomes of the broadcasts of member i
abbrev pub is_first_column : Grid → Cell → ℕ → ℕ → Bool
is_first_column g r i j = all_below (λ x. not (is_at g r i x)) j

-- the first hole of its box
abbrev pub leads : Grid → ℕ → ℕ → Bool
leads g i j = not (is_at g Comes i j) && is_first_column g (cell g i j) i j && is_first_row g (cell g i j) i

-- the same becomes of the broadcasts of member k at member x as x is like i, and x is like k as it becomes of those of i there
abbrev pub is_mirrored_at : Grid → Cell → ℕ → ℕ → ℕ → Bool
is_mirrored_at g r i k x = agrees (is_at g r k x) (is_like g r x i) && agrees (is_like g r x k) (is_at g r i x)

-- the box of member i is there both ways: of those like k the same becomes at those like i, and these are all at which it does,
-- and all of whose broadcasts it becomes
abbrev pub mirrors : Grid → Cell → ℕ → ℕ → Bool
mirrors g r i k = all_below (is_mirrored_at g r i k) (size g)

-- a box has a line at its first hole; of two that mirror each other the first has it
abbrev pub has_line : Grid → ℕ → ℕ → Bool
has_line g i j = leads g i j && (not (mirrors g (cell g i j) i j) || nat_lt i j)
