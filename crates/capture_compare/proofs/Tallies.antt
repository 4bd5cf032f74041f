-- The rows of counts.
use Rattle.std.proofs.Common.{◌≡◌, ◌≢◌, ◌≤◌, ◌<◌, ℕ, ◌+◌, ◌-◌, ◌^◌, ◌&&◌, eqb, min, cond, Bool, true, false, if◌then◌else◌, List, [], ◌∷◌, length, length-set, get_or, set, refl, sym, ap, subst, ◌∙◌, arith}
use Rattle.std.proofs.lemmas.Bool.{eqb-true, eqb-false}
use Rattle.std.proofs.lemmas.List.{get_or-set_other, get_or-set_same}
use Rattle.std.proofs.lemmas.List.Sums.{sum_by-cons}
use Rattle.std.specs.List.{FoldsTo}
use Rattle.record_match.specs.Settled.{Fact, Both, ReceivedAlone, SentAlone}
use Rattle.capture_compare.specs.Counts.{no_counts, sums_of}
use Rattle.capture_compare.specs.declared.lines.counts.Counts.{Counts}
use Rattle.capture_compare.specs.Counting.{counts_of, record_of, row_number, with_fact}
use Rattle.capture_compare.specs.Segments.{Index, segment_at}
use Rattle.capture_compare.specs.SegmentsLaws.{AreCounts, EachRowCountsItsFacts, facts_in_row, is_both, is_in_row, was_received, was_sent}
use Rattle.capture_compare.specs.declared.segments.counting.SegmentCounts.{SegmentCounts}
use Rattle.capture_compare.specs.declared.segments.reading.PlaceReading.{PlaceReading}

-- the row of a fact's segment
abbrev row_of : SegmentCounts → Fact → ℕ
row_of c fact = row_number (segment_at c.index c.reading (record_of fact))

-- a row with what a fact adds, where it is that of the fact's segment
abbrev row_with : Bool → Fact → Counts → Counts
row_with here fact row = if here then sums_of row (counts_of fact) else row

-- one row, once one fact was told
one-row : (c : SegmentCounts) (fact : Fact) (n : ℕ) → length c.rows ≡ 4095 → n < 4095
    → get_or (with_fact fact c).rows n no_counts ≡ row_with (is_in_row c.index c.reading n fact) fact (get_or c.rows n no_counts)
one-row c fact n size inside = by (eqb (row_of c fact) n) refl
  where
    by : (q : Bool) → eqb (row_of c fact) n ≡ q
        → get_or (with_fact fact c).rows n no_counts ≡ row_with (is_in_row c.index c.reading n fact) fact (get_or c.rows n no_counts)
    by true e =
        let same : row_of c fact ≡ n = eqb-true (row_of c fact) n e in
        rw e (ap (λ (k : ℕ). get_or (set c.rows k (sums_of (get_or c.rows k no_counts) (counts_of fact))) n no_counts) same
        ∙ get_or-set_same c.rows n (sums_of (get_or c.rows n no_counts) (counts_of fact)) no_counts (omega (arith, size, inside)))
    by false e =
        let other : n ≢ row_of c fact = λ same. eqb-false (row_of c fact) n e (sym same) in
        rw e (get_or-set_other c.rows (row_of c fact) n (sums_of (get_or c.rows (row_of c fact) no_counts) (counts_of fact)) no_counts other)

-- ---- sums up to a greatest number

-- one more where it counts, and so many more
more : (most row k : ℕ) → row ≤ most → min (min (row + 1) most + k) most ≡ min (row + (1 + k)) most
more most row k h = omega (arith, h)

same : (most row k : ℕ) → row ≤ most → min (min (row + 0) most + k) most ≡ min (row + (0 + k)) most
same most row k h = omega (arith, h)

-- the same of counts of 64 bits
more-of : (row k : ℕ) → row < 2 ^ 64 → min (min (row + 1) (2 ^ 64 - 1) + k) (2 ^ 64 - 1) ≡ min (row + (1 + k)) (2 ^ 64 - 1)
more-of row k h = more (2 ^ 64 - 1) row k (omega (arith, h))

same-of : (row k : ℕ) → row < 2 ^ 64 → min (min (row + 0) (2 ^ 64 - 1) + k) (2 ^ 64 - 1) ≡ min (row + (0 + k)) (2 ^ 64 - 1)
same-of row k h = same (2 ^ 64 - 1) row k (omega (arith, h))

none-of : (row : ℕ) → row < 2 ^ 64 → row ≡ min (row + 0) (2 ^ 64 - 1)
none-of row h = omega (arith, h)

below : (row k : ℕ) → min (row + k) (2 ^ 64 - 1) < 2 ^ 64
below row k = omega arith

nothing-of : (row k : ℕ) → min (row + k) (2 ^ 64 - 1) ≡ min (row + (0 + k)) (2 ^ 64 - 1)
nothing-of row k = omega arith

abbrev counts : ℕ → ℕ → ℕ → Counts
counts sent received both = record { sent = sent; received = received; both = both }

equal : (a b c d e f : ℕ) → a ≡ d → b ≡ e → c ≡ f → counts a b c ≡ counts d e f
equal a b c d e f x y z = rw (x, y, z) refl

-- what one fact adds, and what others do behind it
joined : (here : Bool) (fact : Fact) (row others all : Counts) → AreCounts row
    → all ≡ record {
      sent = cond (was_sent fact && here) 1 0 + others.sent;
      received = cond (was_received fact && here) 1 0 + others.received;
      both = cond (is_both fact && here) 1 0 + others.both;
    }
    → sums_of (row_with here fact row) others ≡ sums_of row all
joined true (Both moment number r) row others all ok is =
    rw is (equal _ _ _ _ _ _ (more-of row.sent others.sent ok.sent) (more-of row.received others.received ok.received)
    (more-of row.both others.both ok.both))
joined true (ReceivedAlone number r) row others all ok is =
    rw is (equal _ _ _ _ _ _ (same-of row.sent others.sent ok.sent) (more-of row.received others.received ok.received)
    (same-of row.both others.both ok.both))
joined true (SentAlone number r) row others all ok is =
    rw is (equal _ _ _ _ _ _ (more-of row.sent others.sent ok.sent) (same-of row.received others.received ok.received)
    (same-of row.both others.both ok.both))
joined false (Both moment number r) row others all ok is =
    rw is (equal _ _ _ _ _ _ (nothing-of row.sent others.sent) (nothing-of row.received others.received)
    (nothing-of row.both others.both))
joined false (ReceivedAlone number r) row others all ok is =
    rw is (equal _ _ _ _ _ _ (nothing-of row.sent others.sent) (nothing-of row.received others.received)
    (nothing-of row.both others.both))
joined false (SentAlone number r) row others all ok is =
    rw is (equal _ _ _ _ _ _ (nothing-of row.sent others.sent) (nothing-of row.received others.received)
    (nothing-of row.both others.both))

-- a row stays one of numbers of 64 bits
still : (here : Bool) (fact : Fact) (row : Counts) → AreCounts row → AreCounts (row_with here fact row)
still true fact row ok = record {
  sent = below row.sent (counts_of fact).sent;
  received = below row.received (counts_of fact).received;
  both = below row.both (counts_of fact).both;
}
still false fact row ok = ok

-- where nothing more is told
nothing : (row : Counts) → AreCounts row → row ≡ sums_of row (record { sent = 0; received = 0; both = 0 })
nothing row ok = equal row.sent row.received row.both _ _ _ (none-of row.sent ok.sent) (none-of row.received ok.received)
    (none-of row.both ok.both)

-- ---- all facts

-- those of one fact, and those of the others
parted : (i : Index) (reading : PlaceReading) (n : ℕ) (fact : Fact) (facts : List Fact)
    → facts_in_row i reading n (fact ∷ facts)
    ≡ counts (cond (was_sent fact && is_in_row i reading n fact) 1 0 + (facts_in_row i reading n facts).sent)
    (cond (was_received fact && is_in_row i reading n fact) 1 0 + (facts_in_row i reading n facts).received)
    (cond (is_both fact && is_in_row i reading n fact) 1 0 + (facts_in_row i reading n facts).both)
parted i reading n fact facts =
    equal _ _ _ _ _ _
    (sum_by-cons (λ f. cond (was_sent f && is_in_row i reading n f) 1 0) fact facts)
    (sum_by-cons (λ f. cond (was_received f && is_in_row i reading n f) 1 0) fact facts)
    (sum_by-cons (λ f. cond (is_both f && is_in_row i reading n f) 1 0) fact facts)

pub each_row_counts_its_facts : EachRowCountsItsFacts
each_row_counts_its_facts old new [] n size inside ok h =
    ap (λ (c : SegmentCounts). get_or c.rows n no_counts) (sym h) ∙ nothing (get_or old.rows n no_counts) ok
each_row_counts_its_facts old new (fact ∷ facts) n size inside ok h =
    let told : FoldsTo (λ old fact new. new ≡ with_fact fact old) (with_fact fact old) facts new =
    subst (λ (c : SegmentCounts). FoldsTo (λ old fact new. new ≡ with_fact fact old) c facts new) h.1 h.2 in
    let here = is_in_row old.index old.reading n fact in
    let row = one-row old fact n size inside in
    let long : length (with_fact fact old).rows ≡ 4095 = length-set old.rows (row_of old fact) (sums_of (get_or old.rows (row_of old fact) no_counts) (counts_of fact)) ∙ size in
    let counts = subst AreCounts (sym row) (still here fact (get_or old.rows n no_counts) ok) in
    each_row_counts_its_facts (with_fact fact old) new facts n long inside counts told
    ∙ ap (λ (r : Counts). sums_of r (facts_in_row old.index old.reading n facts)) row
    ∙ joined here fact (get_or old.rows n no_counts) (facts_in_row old.index old.reading n facts) (facts_in_row old.index old.reading n (fact ∷ facts)) ok (parted old.index old.reading n fact facts)
