-- Who reaches whom in one network: for each two of its members a cell. It states no standard.
--     cell_text      why a broadcast doesn't come, or why the answer to it doesn't come back
--     cell           what becomes of the broadcasts of one member at another
use Rattle.std.specs.Prelude.{◌≡◌, ℕ, ◌+◌, ◌*◌, ◌==◌, Bool, true, false, not, ◌&&◌, if◌then◌else◌, List, ◌∷◌, ◌++◌, codes, decimal}
use Rattle.std.specs.Prelude.{length, slice_index_or}
use Rattle.wire.specs.Reason.{number_of, name_of}
use Rattle.fabric_grid.specs.declared.cell.Hole.{Hole}
use Rattle.fabric_grid.specs.declared.cell.Hole.TheVariants.{NoTunnel, TwoOwners, NoFamily, NotListed, Dropped}
use Rattle.fabric_grid.specs.declared.cell.Cell.{Cell}
use Rattle.fabric_grid.specs.declared.cell.Cell.TheVariants.{Comes, Unanswered, Lost}
use Rattle.fabric_grid.specs.declared.members.Grid.{Grid}

-- ---- reasons

-- why, as it is told
abbrev pub hole_text : Hole → List ℕ
hole_text NoTunnel = codes "no tunnel in common"
hole_text TwoOwners = codes "one address"
hole_text NoFamily = codes "no address family in common"
hole_text NotListed = codes "not on the list"
hole_text (Dropped reason) = decimal (number_of reason) ++ 32 ∷ name_of reason

-- why one member doesn't reach another, or isn't answered; of a broadcast that comes nothing is told
abbrev pub cell_text : Cell → List ℕ
cell_text Comes = codes ""
cell_text (Unanswered hole) = codes "heard, and the answer is lost: " ++ hole_text hole
cell_text (Lost hole) = hole_text hole

-- a number for each, by which two are compared
abbrev pub hole_number : Hole → ℕ
hole_number NoTunnel = 41
hole_number TwoOwners = 42
hole_number NoFamily = 43
hole_number NotListed = 44
hole_number (Dropped reason) = number_of reason

abbrev pub cell_number : Cell → ℕ
cell_number Comes = 0
cell_number (Lost hole) = hole_number hole
cell_number (Unanswered hole) = 50 + hole_number hole

abbrev pub is_lost : Cell → Bool
is_lost Comes = false
is_lost (Unanswered hole) = false
is_lost (Lost hole) = true

abbrev pub is_unanswered : Cell → Bool
is_unanswered Comes = false
is_unanswered (Unanswered hole) = true
is_unanswered (Lost hole) = false

-- ---- cells

-- how many members there are
abbrev pub size : Grid → ℕ
size g = length g.leaves.items

-- a cell for each two members, those of one member as sender behind another
abbrev pub IsSquare : Grid → Type 0
IsSquare g = length g.cells.items ≡ size g * size g

-- two members are of one leaf
abbrev pub is_one_leaf : Grid → ℕ → ℕ → Bool
is_one_leaf g i j = slice_index_or g.leaves.items i 0 == slice_index_or g.leaves.items j 0

-- what becomes of the broadcasts of member i at member j; those of one leaf hear each other
abbrev pub cell : Grid → ℕ → ℕ → Cell
cell g i j = if is_one_leaf g i j then Comes else slice_index_or g.cells.items (i * size g + j) Comes

-- this becomes of them
abbrev pub is_at : Grid → Cell → ℕ → ℕ → Bool
is_at g r i j = cell_number (cell g i j) == cell_number r

-- they come to another leaf
abbrev pub is_way : Grid → ℕ → ℕ → Bool
is_way g i j = not (is_one_leaf g i j) && not (is_lost (cell g i j))
