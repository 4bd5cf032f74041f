-- The shapes of bars and lines: in a box of 640 by 1,000 units, in which each of 64 spans is 10 units wide. It states no standard.
use Rattle.std.specs.Prelude.{ℕ, ◌+◌, ◌-◌, ◌*◌, ◌/◌, ◌==◌, min, if◌then◌else◌, List, [], codes, decimal}
use Rattle.report_page.specs.Texts.{◌then◌}

-- how high a number stands where the greatest stands at 1,000
abbrev pub height_of : ℕ → ℕ → ℕ
height_of most count = if most == 0 then 0 else min 1000 (count * 1000 / most)

-- the bar of a span, so high above a floor; nothing where it has no height
unfoldable pub bar_text : ℕ → ℕ → ℕ → List ℕ
bar_text span floor height =
    if height == 0 then []
    else codes "M" then decimal (span * 10) then codes " " then decimal (1000 - floor) then codes "v-" then decimal height
    then codes "h9v" then decimal height then codes "z"

-- the point of a line at a span
unfoldable pub point_text : ℕ → ℕ → List ℕ
point_text span height = decimal (span * 10 + 5) then codes "," then decimal (1000 - height) then codes " "
