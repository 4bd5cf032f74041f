-- Lengths of time as people read them. It states no standard.
use Rattle.std.specs.Prelude.{ℕ, ◌/◌, ◌%◌, nat_lt, if◌then◌else◌, List, codes, decimal}
use Rattle.report_page.specs.Texts.{◌then◌}

-- so many thousandths of a unit
unfoldable pub in_unit : ℕ → List ℕ → List ℕ
in_unit thousandths unit =
    decimal (thousandths / 1000) then codes "." then decimal (thousandths / 100 % 10) then decimal (thousandths / 10 % 10)
    then decimal (thousandths % 10) then unit

-- nanoseconds, in the largest unit of which they are one at least, to thousandths of it, rounded down
unfoldable pub duration_text : ℕ → List ℕ
duration_text length =
    if nat_lt length 1000 then decimal length then codes " ns"
    else (if nat_lt length 1000000 then in_unit length (codes " us")
    else (if nat_lt length 1000000000 then in_unit (length / 1000) (codes " ms") else in_unit (length / 1000000) (codes " s")))
