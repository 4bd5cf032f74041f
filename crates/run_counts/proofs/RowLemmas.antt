-- Rows of tables, one after another.
use Rattle.std.proofs.Common.{◌≡◌, ◌∙◌, ap, sym, refl, ℕ, ◌+◌, List, [], ◌∷◌, ◌++◌, append_assoc, append-nil}
use Rattle.std.specs.List.{flat_map, range_with_len}
use Rattle.std.proofs.lemmas.List.{map-id}
use Rattle.std.proofs.lemmas.List.FromFn.{map-range_with_len_more}
use Rattle.std.proofs.lemmas.Grind.{flat_map-append}
use Rattle.table_lines.specs.Lines.{vids}
use Rattle.run_counts.specs.Tables.{lines_of, row_text, side_by_side}
use Rattle.run_counts.specs.declared.parts.table_row.TableRow.{TableRow}

-- one row more of a text
pub row_more : (text rest next : List ℕ) (rows : List TableRow) (row : TableRow) → text ≡ flat_map row_text rows ++ rest → rest ≡ row_text row ++ next
    → text ≡ flat_map row_text (rows ++ row ∷ []) ++ next
row_more text rest next rows row is so =
    is ∙ ap (λ (t : List ℕ). flat_map row_text rows ++ t) so ∙ sym (append_assoc (flat_map row_text rows) (row_text row) next)
    ∙ ap (λ (t : List ℕ). t ++ next) (ap (λ (t : List ℕ). flat_map row_text rows ++ t) (sym (append-nil (row_text row))) ∙ sym (flat_map-append row_text rows (row ∷ [])))

range_more : (n : ℕ) → range_with_len 1 (n + 1) ≡ range_with_len 1 n ++ (1 + n) ∷ []
range_more n =
    sym (map-id (range_with_len 1 (n + 1))) ∙ map-range_with_len_more (λ (k : ℕ). k) 1 n (1 + n) refl ∙ ap (λ (xs : List ℕ). xs ++ (1 + n) ∷ []) (map-id (range_with_len 1 n))

-- one segment more
pub segment_more : (rows : List TableRow) (n vid : ℕ) → vid ≡ 1 + n → flat_map (lines_of rows) (range_with_len 1 n) ++ lines_of rows vid ≡ flat_map (lines_of rows) (range_with_len 1 (n + 1))
segment_more rows n vid is =
    ap (λ (k : ℕ). flat_map (lines_of rows) (range_with_len 1 n) ++ lines_of rows k) is
    ∙ ap (λ (t : List ℕ). flat_map (lines_of rows) (range_with_len 1 n) ++ t) (sym (append-nil (lines_of rows (1 + n))))
    ∙ sym (flat_map-append (lines_of rows) (range_with_len 1 n) ((1 + n) ∷ []))
    ∙ sym (ap (flat_map (lines_of rows)) (range_more n))

-- all of them
pub segments_all : (rows : List TableRow) (n : ℕ) → n ≡ 4094 → flat_map (lines_of rows) (range_with_len 1 n) ≡ side_by_side rows
unfolding vids
segments_all rows n is = ap (λ (k : ℕ). flat_map (lines_of rows) (range_with_len 1 k)) is
