-- The rows of a table.
use Rattle.std.proofs.Common.{◌≡◌, ◌≢◌, ℕ, ◌<◌, ◌==◌, eqb, min, Bool, true, false, if◌then◌else◌, List, [], ◌∷◌, length, length-set, get_or, set, refl, sym, ap, ◌∙◌, arith}
use Rattle.std.proofs.lemmas.Bool.{eqb-true, eqb-false}
use Rattle.std.proofs.lemmas.List.{get_or-set_other, get_or-set_same}
use Rattle.record_match.specs.Settled.{Fact}
use Rattle.record_match.specs.TablesLaws.{EachRowIsOfItsFacts, row_behind}
use Rattle.record_match.specs.Lengths.{kind_of, length_of, no_row, row_with, with_fact}
use Rattle.record_match.specs.declared.tables.lengths.LengthRow.{LengthRow}

-- one row, once one fact was told
one-row : (rows : List LengthRow) (fact : Fact) (n : ℕ) → length rows ≡ 262657 → n < 262657
    → get_or (with_fact fact rows) n no_row ≡ (if min (length_of fact) 262656 == n then row_with (kind_of fact) (get_or rows n no_row) else get_or rows n no_row)
one-row rows fact n size inside = by (eqb (min (length_of fact) 262656) n) refl
  where
    by : (q : Bool) → eqb (min (length_of fact) 262656) n ≡ q
        → get_or (with_fact fact rows) n no_row ≡ (if min (length_of fact) 262656 == n then row_with (kind_of fact) (get_or rows n no_row) else get_or rows n no_row)
    by true e =
        let same : min (length_of fact) 262656 ≡ n = eqb-true (min (length_of fact) 262656) n e in
        rw e (ap (λ (k : ℕ). get_or (set rows k (row_with (kind_of fact) (get_or rows k no_row))) n no_row) same
        ∙ get_or-set_same rows n (row_with (kind_of fact) (get_or rows n no_row)) no_row (omega (arith, size, inside)))
    by false e =
        let other : n ≢ min (length_of fact) 262656 = λ same. eqb-false (min (length_of fact) 262656) n e (sym same) in
        rw e (get_or-set_other rows (min (length_of fact) 262656) n (row_with (kind_of fact) (get_or rows (min (length_of fact) 262656) no_row)) no_row other)

pub each_row_is_of_its_facts : EachRowIsOfItsFacts
each_row_is_of_its_facts old new [] n size inside h = ap (λ (l : List LengthRow). get_or l n no_row) (sym h)
each_row_is_of_its_facts old new (fact ∷ facts) n size inside h =
    let mid = h.0 in
    let now : mid ≡ with_fact fact old = h.1 in
    let still : length mid ≡ 262657 = ap (λ (l : List LengthRow). length l) now ∙ length-set old (min (length_of fact) 262656) (row_with (kind_of fact) (get_or old (min (length_of fact) 262656) no_row)) ∙ size in
    each_row_is_of_its_facts mid new facts n still inside h.2
    ∙ ap (λ (row : LengthRow). row_behind n row facts) (ap (λ (l : List LengthRow). get_or l n no_row) now ∙ one-row old fact n size inside)
