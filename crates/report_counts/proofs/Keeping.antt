-- Rows with one count more.
use Rattle.std.proofs.Common.{◌≡◌, ℕ, ◌<◌, List, [], length, get_or, set, ap, ◌∙◌}
use Rattle.std.proofs.lemmas.List.{get_or_default}
use Rattle.report_counts.specs.Tables.{added, added_in}

-- a row as it was read and written
pub set_added : (rows : List (List ℕ)) (row column more : ℕ) (old given other : List ℕ) → row < length rows → old ≡ get_or rows row other → given ≡ added column more old → set rows row given ≡ added_in row column more rows
set_added rows row column more old given other there was is =
    let at : old ≡ get_or rows row [] = was ∙ get_or_default rows row other [] there in
    ap (set rows row) (is ∙ ap (added column more) at)
