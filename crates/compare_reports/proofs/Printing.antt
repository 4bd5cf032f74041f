-- Texts that are printed one behind another.
use Rattle.std.proofs.Common.{◌≡◌, ◌∙◌, refl, sym, ap, subst, ℕ, zero, suc, ◌+◌, ◌-◌, ◌<◌, ◌≤◌, List, [], ◌∷◌, ◌++◌, length, map, take, get_or, arith, Bool, true, false, Option, Some, None, Result, Ok, Err}
use Rattle.std.specs.Prelude.{IfSome, OnOk, SomeIff}
use Rattle.std.specs.List.{FoldsTo}
use Rattle.wire.specs.Tag.{IsVid}
use Rattle.timeline.specs.declared.source.Tap.{Tap}
use Rattle.record_match.specs.declared.tables.lengths.LengthRow.{LengthRow}
use Rattle.capture_compare.specs.declared.lines.counts.Counts.{Counts}
use Rattle.capture_compare.specs.declared.lines.counts.Scope.TheVariants as scopes
use Rattle.capture_compare.specs.declared.lonely.pairs.DifferenceRow.{DifferenceRow}
use Rattle.record_match.specs.Delays.{Delays, IsOf}
use Rattle.record_match.specs.declared.tables.delays.DelaySummary.{DelaySummary}
use Rattle.capture_compare.specs.Tables.{delays_text}
use Rattle.capture_compare.specs.Counting.{row_at}
use Rattle.compare_reports.specs.Prints.{Prints, unless}
use Rattle.compare_reports.specs.Told.{IsSummed, PrintsDelays, difference_text, length_text, length_texts, first_texts, row_text}

module _ {P : Type 0} (prints : P → Option (List ℕ) → P → Type 0) where
  -- one text more
  pub prints-one : (old : P) (xs : List (Option (List ℕ))) (middle : P) (x : Option (List ℕ)) (new : P) → FoldsTo prints old xs middle → prints middle x new → FoldsTo prints old (xs ++ x ∷ []) new
  prints-one old [] middle x new h g = (new, subst (λ (p : P). prints p x new) (sym h) g, refl)
  prints-one old (y ∷ xs) middle x new h g = (h.0, h.1, prints-one h.0 xs middle x new h.2 g)

-- the text of one row more
lengths-more : (at : Option Tap) (k n : ℕ) (rows : List LengthRow) (d : LengthRow) → n < length rows
    → length_texts at k (take (suc n) rows) ≡ length_texts at k (take n rows) ++ length_text at (k + n) (get_or rows n d) ∷ []
lengths-more at k n [] d h = absurd (omega (arith, h))
lengths-more at k zero (r ∷ rs) d h = let here : k ≡ k + zero = omega arith in ap (λ (m : ℕ). length_text at m r ∷ []) here
lengths-more at k (suc n) (r ∷ rs) d h =
    let there : k + 1 + n ≡ k + suc n = omega arith in
    ap (λ (t : List (Option (List ℕ))). length_text at k r ∷ t)
    (lengths-more at (k + 1) n rs d (omega (arith, h)) ∙ ap (λ (m : ℕ). length_texts at (k + 1) (take n rs) ++ length_text at m (get_or rs n d) ∷ []) there)

-- the first of them is that of length 0
pub lengths-first : (at : Option Tap) (n : ℕ) (rows : List LengthRow) (d : LengthRow) → n < length rows
    → length_texts at 0 (take (n + 1) rows) ≡ length_texts at 0 (take n rows) ++ length_text at n (get_or rows n d) ∷ []
lengths-first at n rows d h =
    let there : 0 + n ≡ n = omega arith in
    let next : n + 1 ≡ suc n = omega arith in
    ap (λ (m : ℕ). length_texts at 0 (take m rows)) next ∙ lengths-more at 0 n rows d h ∙ ap (λ (m : ℕ). length_texts at 0 (take n rows) ++ length_text at m (get_or rows n d) ∷ []) there

pub some-vid : (o : Option ℕ) (n : ℕ) → IsVid n → SomeIff o (IsVid n) n → o ≡ Some n
some-vid None n is told = absurd (told is)
some-vid (Some m) n is told = ap (λ (k : ℕ). Some k) told.1

pub first-more : (rows : List Counts) (vid : ℕ) → 1 ≤ vid → first_texts (vid + 1 - 1) rows ≡ first_texts (vid - 1) rows ++ row_text (scopes.Segment vid) (row_at rows (Some vid)) ∷ []
unfolding first_texts
first-more rows zero h = absurd (omega (arith, h))
first-more rows (suc n) h =
    let behind : suc n + 1 - 1 ≡ suc n = omega arith in
    let before : n ≡ suc n - 1 = omega arith in
    ap (λ (m : ℕ). first_texts m rows) behind ∙ ap (λ (m : ℕ). first_texts m rows ++ row_text (scopes.Segment (suc n)) (row_at rows (Some (suc n))) ∷ []) before

-- the line of one row more
pub rows-first : (at : Option Tap) (n : ℕ) (rows : List DifferenceRow) (d : DifferenceRow) → n < length rows
    → map (difference_text at) (take (n + 1) rows) ≡ map (difference_text at) (take n rows) ++ difference_text at (get_or rows n d) ∷ []
rows-first at n [] d h = absurd (omega (arith, h))
rows-first at zero (r ∷ rs) d h = refl
rows-first at (suc n) (r ∷ rs) d h =
    let next : suc n + 1 ≡ suc (n + 1) = omega arith in
    ap (λ (m : ℕ). map (difference_text at) (take m (r ∷ rs))) next
    ∙ ap (λ (t : List (Option (List ℕ))). difference_text at r ∷ t) (rows-first at n rs d (omega (arith, h)))

-- ---- one text

module _ {P : Type 0} (prints : P → List ℕ → P → Type 0) where
  -- there was nothing to tell
  pub prints-none : (old : P) (q : Bool) (o : Option (List ℕ)) → q ≡ true → IfSome o (λ text. Prints prints old (unless q text) old)
  prints-none old true None e = tt
  prints-none old true (Some text) e = refl
  prints-none old false o e = absurd cc

  -- it was printed
  pub prints-some : {T E : Type 0} (old new : P) (q : Bool) (o : Option (List ℕ)) (r : Result T E) → q ≡ false → OnOk r (IfSome o (λ text. prints old text new)) → OnOk r (IfSome o (λ text. Prints prints old (unless q text) new))
  prints-some old new false None r e h = h
  prints-some old new false (Some text) r e h = h
  prints-some old new true o r e h = absurd cc

  -- what delays are summed up to was
  pub prints-delays : {T E : Type 0} (at : Option Tap) (table : Delays) (ahead : ℕ) (old new : P) (summary : Option DelaySummary) (r : Result T E)
      → ((within : ℕ) (delays : List ℕ) → IsOf within table delays → IsSummed within delays summary) → OnOk r (prints old (delays_text at ahead summary) new) → OnOk r (PrintsDelays prints at table ahead old new)
  prints-delays at table ahead old new summary (Ok x) told h = record { summary = summary; is_told = told; printed = h }
  prints-delays at table ahead old new summary (Err e) told h = h
