-- The row of a pair of near records, by where it stands.
use Rattle.std.proofs.Common.{◌≡◌, ◌∙◌, refl, sym, ap, ℕ, zero, suc, ◌<◌, Bool, true, false, ◌||◌, if◌then◌else◌, List, [], ◌∷◌, length, get_or, set, None, arith}
use Rattle.capture_compare.specs.Differing.{Counted, counted, has_row, with_new, with_pair}
use Rattle.capture_compare.specs.Finding.{FindsRow, IsFirstRow, with_one, with_one_at}
use Rattle.capture_compare.specs.declared.lonely.pairs.DifferenceRow.{DifferenceRow}
use Rattle.capture_compare.specs.declared.lonely.pairs.NearPair.{NearPair}

pub first-row : (p : NearPair) (rows : List DifferenceRow) (i : ℕ) → IsFirstRow p rows i → (has_row p rows ≡ true) × (counted p rows ≡ with_one_at rows i)
first-row p [] i is = absurd (omega (arith, is.inside))
first-row p (row ∷ rows) zero is = (
  ap (λ (q : Bool). q || has_row p rows) is.here,
  ap (λ (q : Bool). if q then with_one row ∷ rows else row ∷ counted p rows) is.here,
)
first-row p (row ∷ rows) (suc i) is =
    let none = is.before 0 (omega arith) in
    let others = first-row p rows i (record { inside = omega (arith, is.inside); before = λ k lt. is.before (suc k) (omega (arith, lt)); here = is.here }) in (
      ap (λ (q : Bool). q || has_row p rows) none ∙ others.0,
      ap (λ (q : Bool). if q then with_one row ∷ rows else row ∷ counted p rows) none ∙ ap (λ (l : List DifferenceRow). row ∷ l) others.1,
    )

pub no-row : (p : NearPair) (rows : List DifferenceRow) → FindsRow p rows None → has_row p rows ≡ false
no-row p [] none = refl
no-row p (row ∷ rows) none =
    ap (λ (q : Bool). q || has_row p rows) (none 0 (omega arith)) ∙ no-row p rows (λ k lt. none (suc k) (omega (arith, lt)))

-- a row that is written, in place of itself
pub one-written : (rows : List DifferenceRow) (i : ℕ) (row : DifferenceRow) → i < length rows → row ≡ get_or rows i row → set rows i (with_one row) ≡ with_one_at rows i
one-written [] i row h is = absurd (omega (arith, h))
one-written (r ∷ rows) zero row h is = ap (λ (x : DifferenceRow). with_one x ∷ rows) is
one-written (r ∷ rows) (suc i) row h is = ap (λ (l : List DifferenceRow). r ∷ l) (one-written rows i row (omega (arith, h)) is)

abbrev pub of_rows : List DifferenceRow → ℕ → Counted
of_rows rows others = record { rows = rows; others = others }

-- ---- a pair, counted

pub pair-counted : (p : NearPair) (c : Counted) (i : ℕ) → IsFirstRow p c.rows i → record c { rows = with_one_at c.rows i } ≡ with_pair p c
pair-counted p c i is =
    let found = first-row p c.rows i is in
    rw found.0 (ap (λ (rows : List DifferenceRow). of_rows rows c.others) (sym found.1))

pub pair-opened : (p : NearPair) (c : Counted) → FindsRow p c.rows None → with_new p c ≡ with_pair p c
pair-opened p c none = rw (no-row p c.rows none) refl
