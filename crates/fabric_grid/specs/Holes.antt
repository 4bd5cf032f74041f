-- Laws over the lines of boxes: each hole is told on exactly one line, and a line tells of holes for its reason alone. It states no
-- standard.
use Rattle.std.specs.Prelude.{◌≡◌, ◌<◌, ℕ, Bool, true, false, ◌&&◌, ◌||◌}
use Rattle.fabric_grid.specs.Boxes.{has_line, is_like, mirrors}
use Rattle.fabric_grid.specs.Cells.{cell, is_at, size}
use Rattle.fabric_grid.specs.declared.cell.Cell.TheVariants.{Comes}
use Rattle.fabric_grid.specs.declared.members.Grid.{Grid}

-- member i is among the heads of the box of the hole (a, b), and member j among its columns
abbrev pub is_boxed : Grid → ℕ → ℕ → ℕ → ℕ → Bool
is_boxed g a b i j = is_like g (cell g a b) i a && is_at g (cell g a b) a j

-- the line at the hole (a, b) tells of the hole (i, j): by an arrow of one head, or by one of two
abbrev pub tells : Grid → ℕ → ℕ → ℕ → ℕ → Bool
tells g a b i j = is_boxed g a b i j || (mirrors g (cell g a b) a b && is_boxed g a b j i)

-- there is such a line
pub record IsToldAt (g : Grid) (i j a b : ℕ) : Type 0 where
  pub row : a < size g
  pub column : b < size g
  pub line : has_line g a b ≡ true
  pub told : tells g a b i j ≡ true

-- there is one, and no other
pub record IsToldOnce (g : Grid) (i j : ℕ) : Type 0 where
  pub row : ℕ
  pub column : ℕ
  pub told : IsToldAt g i j row column
  pub alone : (a b : ℕ) → IsToldAt g i j a b → (a ≡ row) × (b ≡ column)

-- a law: each hole is told on exactly one line
abbrev pub HolesAreToldOnce : Type 0
HolesAreToldOnce = (g : Grid) (i j : ℕ) → i < size g → j < size g → is_at g Comes i j ≡ false → IsToldOnce g i j

-- a law: what a line tells of is a hole for the reason of that line
abbrev pub LinesTellHoles : Type 0
LinesTellHoles = (g : Grid) (i j a b : ℕ) → i < size g → j < size g → IsToldAt g i j a b
    → (is_at g Comes i j ≡ false) × (is_at g (cell g a b) i j ≡ true)
