-- What putting more of a key into rows makes of them.
use Rattle.std.proofs.Common.{◌≡◌, ◌∙◌, ap, sym, refl, ℕ, ◌<◌, ◌≤◌, List, length, get_or, slice_set, arith, None, Some}
use Rattle.std.proofs.lemmas.List.Edits.{length-insert}
use Rattle.std.specs.List.{insert, remove}
use Rattle.ranked_rows.specs.Frequent.{IsRaised, Puts, most_of, place_then, since, since_joined}
use Rattle.ranked_rows.specs.Rows.{AreRising, IsNumbering, IsPlaceOf, row_of, rows_by}
use Rattle.ranked_rows.specs.declared.key_count.KeyCount.{KeyCount}
use Rattle.ranked_rows.specs.declared.since.Since.{Since}
use Rattle.ranked_rows.proofs.Numbering.{length_by, more_by, numbers_set}
use Rattle.ranked_rows.proofs.Places.{entered}
use Rattle.ranked_rows.proofs.Replacing.{entered_without, none_there}

module _ {K C : Type 0} (rank : K → ℕ) (joined : C → C → C) (times : C → ℕ) (more : KeyCount K C) where
  abbrev Later : Type 0
  Later = List (KeyCount K (Since C))

  -- with more of its key
  abbrev fuller : KeyCount K (Since C) → KeyCount K (Since C)
  fuller row = row_of row.key (since (joined row.counts.counts more.counts) row.counts.before)

  pub put_more : (rows new : Later) (order : List ℕ) (n floor : ℕ) (d : KeyCount K (Since C)) → AreRising rank (rows_by rows order) → IsNumbering rows order → length rows ≤ 4096 → n < length rows
      → rank (get_or rows n d).key ≡ rank more.key → new ≡ slice_set rows n (fuller (get_or rows n d)) → Puts rank joined times (rows_by rows order) floor more (rows_by new order) floor None
  put_more rows new order n floor d rising numbers few inside same is =
      let v = fuller (get_or rows n d) in
      let to : rows_by new order ≡ rows_by (slice_set rows n v) order = ap (λ (l : Later). rows_by l order) is in (
        to ∙ sym (more_by rank (since_joined joined) more.key (since more.counts floor) rows order n d rising numbers inside same),
        refl,
        omega (arith, few, numbers.many, ap length to, length_by (slice_set rows n v) order (numbers_set rows order n v numbers).inside),
      )

  module _ (rows new : Later) (at floor : ℕ) (place : IsPlaceOf rank (rank more.key) rows at) (behind : (d : KeyCount K (Since C)) → at < length rows → rank more.key < rank (get_or rows at d).key) where
    pub put_new : length rows < 4096 → new ≡ insert rows at (row_of more.key (since more.counts floor)) → Puts rank joined times rows floor more new floor None
    put_new few is = (
      is ∙ sym (entered rank (since_joined joined) more.key (since more.counts floor) rows at place.inside place.before behind),
      refl,
      omega (arith, few, ap length is, length-insert rows at (row_of more.key (since more.counts floor)) place.inside),
    )

    pub put_replaced : (gone risen : ℕ) (left : C) → AreRising rank rows → length rows ≡ 4096 → gone < length rows → IsRaised times rows floor risen → ((d : KeyCount K (Since C)) → most_of times (get_or rows gone d) ≤ risen)
        → ((d : KeyCount K (Since C)) → left ≡ (get_or rows gone d).counts.counts) → new ≡ insert (remove rows gone) (place_then gone at) (row_of more.key (since more.counts risen)) → Puts rank joined times rows floor more new risen (Some left)
    put_replaced gone risen left rising full there raised low counts is = record {
      at = gone;
      there = there;
      none = none_there rank more.key rows at rising place behind;
      full = full;
      raised = raised;
      low = low;
      counts = counts;
      rows = is ∙ sym (entered_without rank more.key rows at rising place behind (since_joined joined) (since more.counts risen) gone there);
    }
