-- The objects of a text's lines, by forms that leave out no word. It states no standard.
use Rattle.std.specs.Prelude.{◌≡◌, ℕ, List, [], ◌∷◌}
use Rattle.std.specs.Borrow.{Bor}
use Rattle.json_lines.specs.Texts.{objects_in}
use Rattle.json_lines.specs.declared.forms.Form.{Form}
use Rattle.json_lines.specs.ReadBack.{AreWhole}

-- each form of each table is whole
abbrev pub AllWhole : List (Bor (List Form)) → Type 0
AllWhole [] = Unit {0}
AllWhole (t ∷ ts) = AreWhole t.now × AllWhole ts

-- the objects of a text's lines by such tables
unfoldable pub Tells : List ℕ → List ℕ → Type 0
Tells objects text = (tables : List (Bor (List Form))) × AllWhole tables × (objects ≡ objects_in tables text)
