-- Cut captures.
use Rattle.std.proofs.Common.{◌≡◌, ℕ, List, [], ◌∷◌, ◌++◌}
use Rattle.std.specs.Prelude.{codes, decimal}
use Rattle.timeline.specs.declared.timeline.Cut.{Cut}
use Rattle.timeline.specs.Words.{tap_word}
use Rattle.decision_lines.specs.Lines.{cut_line}
use Rattle.decision_objects.specs.Objects.{cut_object}
use Rattle.story_laws.proofs.Numbers.{comma_number, quote_tap}
use Rattle.story_laws.proofs.Splits.{front_same}

-- two of them with the same object in front of a text have the same line, and the same text stands behind
pub cut_same : (c d : Cut) (x y : List ℕ) → cut_object c ++ x ≡ cut_object d ++ y → (cut_line c ≡ cut_line d) × (x ≡ y)
cut_same c d x y e =
    let same = front_same (codes "{\"records\":") (codes "\"result\":\"cut\",\"source\":\"") (codes "}\n") 44 34
    (decimal c.whole) (tap_word c.tap) (decimal d.whole) (tap_word d.tap) x y
    (comma_number c.whole, quote_tap c.tap) (comma_number d.whole, quote_tap d.tap) e in
    (λ i. codes "cut " ++ same.1 i ++ codes " " ++ same.0 i ++ 10 ∷ [], same.2)
