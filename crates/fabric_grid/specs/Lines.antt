-- What is told of a network: how many ways there are, and which parts it has, or else where its holes are. It states no standard.
--     `4 leaves: 11 of 12 ways`, and below it `  leaf2 -> leaf3: not on the list`
use Rattle.std.specs.Prelude.{ℕ, zero, suc, ◌==◌, nat_lt, Bool, true, false, not, ◌&&◌, ◌||◌, if◌then◌else◌, List, [], ◌∷◌, ◌++◌, codes, decimal, length}
use Rattle.fabric_grid.specs.Below.{all_below, count_below, sum_below, texts_below}
use Rattle.fabric_grid.specs.Cells.{cell, cell_text, cell_number, is_at, is_one_leaf, is_way, is_unanswered, size}
use Rattle.fabric_grid.specs.Boxes.{agrees, columns, has_line, heads, is_first_row, is_like, mirrors}
use Rattle.fabric_grid.specs.Names.{called, words}
use Rattle.fabric_grid.specs.declared.cell.Cell.{Cell}
use Rattle.fabric_grid.specs.declared.cell.Cell.TheVariants.{Comes}
use Rattle.fabric_grid.specs.declared.members.Grid.{Grid}

-- ---- reasons

abbrev pub holds : Cell → List Cell → Bool
holds r [] = false
holds r (c ∷ cs) = if cell_number c == cell_number r then true else holds r cs

-- reasons, and one more that isn't among them
abbrev pub with_reason : Cell → List Cell → List Cell
with_reason r rs = if (cell_number r == 0) || holds r rs then rs else rs ++ r ∷ []

-- those of the first j cells of member i besides
abbrev pub row_reasons : Grid → ℕ → List Cell → ℕ → List Cell
row_reasons g i rs zero = rs
row_reasons g i rs (suc j) = with_reason (cell g i j) (row_reasons g i rs j)

-- those of the first i members, each once, in the order of their first cells
abbrev pub reasons : Grid → ℕ → List Cell
reasons g zero = []
reasons g (suc i) = row_reasons g i (reasons g i) (size g)

abbrev pub more_reasons : List Cell → List ℕ
more_reasons [] = []
more_reasons (r ∷ rs) = codes ", " ++ cell_text r ++ more_reasons rs

abbrev pub reasons_text : List Cell → List ℕ
reasons_text [] = []
reasons_text (r ∷ rs) = cell_text r ++ more_reasons rs

-- ---- the head

-- how many others hear member i
abbrev pub ways_of : Grid → ℕ → ℕ
ways_of g i = count_below (is_way g i) (size g)

-- how many others there are
abbrev pub others_of : Grid → ℕ → ℕ
others_of g i = count_below (λ j. not (is_one_leaf g i j)) (size g)

-- how many of them hear each, where there are reasons for which some don't
abbrev pub ways_text : Grid → List Cell → List ℕ
ways_text g rs =
    if length rs == 0 then codes "all reach all"
    else decimal (sum_below (ways_of g) (size g)) ++ codes " of " ++ decimal (sum_below (others_of g) (size g)) ++ codes " ways"

abbrev pub head : Grid → List Cell → List ℕ
head g rs = if size g == 1 then codes "1 leaf" else decimal (size g) ++ codes " leaves: " ++ ways_text g rs

-- ---- parts

-- member i has no answers that are lost, and reaches those that reach the same as it does
abbrev pub is_parted_at : Grid → ℕ → ℕ → Bool
is_parted_at g i j = not (is_unanswered (cell g i j)) && agrees (is_at g Comes i j) (is_like g Comes i j)

abbrev pub is_parted_row : Grid → ℕ → Bool
is_parted_row g i = all_below (is_parted_at g i) (size g)

-- how many parts there are, of members that reach the same
abbrev pub parts : Grid → ℕ
parts g = count_below (is_first_row g Comes) (size g)

-- all reach all within a part, and none reaches another; there is more than one part, and one has more than one member
abbrev pub is_parted : Grid → Bool
is_parted g = nat_lt 1 (parts g) && nat_lt (parts g) (size g) && all_below (is_parted_row g) (size g)

abbrev pub bar : ℕ → List ℕ
bar i = if i == 0 then [] else codes " |"

-- a part, at the first of its members
abbrev pub part_text : Grid → List (List ℕ) → ℕ → List ℕ
part_text g names i = if is_first_row g Comes i then bar i ++ words names (heads g Comes i) true else []

abbrev pub parts_line : Grid → List (List ℕ) → List Cell → List ℕ
parts_line g names rs =
    codes "  " ++ decimal (parts g) ++ codes " parts," ++ texts_below (part_text g names) (size g) ++ codes ": "
    ++ reasons_text rs ++ codes "\n"

-- ---- boxes

unfoldable pub box_text : List (List ℕ) → List Bool → List ℕ → List Bool → Cell → List ℕ
box_text names heads arrow columns r =
    codes " " ++ called names heads ++ arrow ++ called names columns ++ codes ": " ++ cell_text r ++ codes "\n"

abbrev pub box_line : Grid → List (List ℕ) → List ℕ → ℕ → ℕ → List ℕ
box_line g names arrow i j = box_text names (heads g (cell g i j) i) arrow (columns g (cell g i j) i) (cell g i j)

-- of a box that is there both ways, or one way
abbrev pub arrow : Bool → List ℕ
arrow both = if both then codes " <->" else codes " ->"

-- the line of a box, at its first hole
unfoldable pub line_at : Grid → List (List ℕ) → ℕ → ℕ → List ℕ
line_at g names i j = if has_line g i j then box_line g names (arrow (mirrors g (cell g i j) i j)) i j else []

abbrev pub row_lines : Grid → List (List ℕ) → ℕ → List ℕ
row_lines g names i = texts_below (line_at g names i) (size g)

abbrev pub box_lines : Grid → List (List ℕ) → List ℕ
box_lines g names = texts_below (row_lines g names) (size g)

-- ---- the whole

-- the lines below that of a network's title
abbrev pub below : Grid → List (List ℕ) → List Cell → List ℕ
below g names rs = if is_parted g then parts_line g names rs else box_lines g names

-- the end of that line, and those below it
abbrev pub grid_text : Grid → List (List ℕ) → List ℕ
grid_text g names = head g (reasons g (size g)) ++ codes "\n" ++ below g names (reasons g (size g))
