-- What the lines of a run's summary tell together: what the run counted.
use Rattle.std.proofs.Common.{◌≡◌, ◌∙◌, ap, sym, refl, subst, ℕ, ◌+◌, ◌-◌, ◌<◌, ◌≤◌, ◌⊎◌, inl, inr, Bool, true, false, cond, List, [], ◌∷◌, ◌++◌, append-nil, append_assoc, length, get_or, Option, Some, None, arith, le-leb}
use Rattle.std.specs.Prelude.{◌==◌, ◌&&◌, codes, if◌then◌else◌, nat_le, nat_lt, ⊤}
use Rattle.std.specs.Fmt.{decimal}
use Rattle.std.specs.List.{AllByRecursion, flat_map, range_with_len}
use Rattle.std.proofs.lemmas.Bool.{cases_eq, cond-false, cond-true, eq-eqb, eqb-true, ne_eqb, lt-ltb}
use Rattle.std.proofs.lemmas.List.Elements.{recursion_from_All}
use Rattle.std.proofs.lemmas.List.FromFn.{get_or-range_with_len, length-range_with_len}
use Rattle.wire.specs.Reason.{name_of, number_of as reason_number}
use Rattle.wire.specs.Tag.{IsVid}
use Rattle.wire.specs.declared.ether.reason.Reason.{Reason}
use Rattle.timeline.specs.declared.source.Tap.{Tap}
use Rattle.timeline.specs.declared.source.Tap.TheVariants.{Port, Underlay}
use Rattle.endpoint_core.specs.Fault.{name_of as fault_name, number_of as fault_number}
use Rattle.endpoint_core.specs.declared.state.fault.ChangeFault.{ChangeFault}
use Rattle.endpoint_core.specs.Counts.{is_mark}
use Rattle.decision_lines.specs.Lines.{cut_line}
use Rattle.run_counts.specs.Summary.{causes, changes_text, count_line, counts_text, cut_at, cuts_text, dropped_line, flow_line, partial_line, place_lines, places_text, reasons, refused_line, segment_lines, segment_word, segments_text, sent_line, vids}
use Rattle.run_counts.specs.Totals.{same_tap}
use Rattle.run_counts.specs.declared.flow.Flow.{Flow}
use Rattle.run_counts.specs.Told.{IsPlace, IsSegment, IsTold, SaysSame, Told, nothing, text_of}
use Rattle.run_counts.specs.Kept.{is_kept, is_row}
use Rattle.run_counts.specs.Rows.{rows_of, told_by, with_row}
use Rattle.run_counts.specs.declared.parts.row.Row.{Row}
use Rattle.run_counts.specs.declared.parts.row.Row.TheVariants.{Count, Refused, Arrival, Left, Partial, Cut}
use Rattle.run_counts.proofs.Folds.{Gives, Keeps, all_any, all_append, all_flat, all_weaker, flat_same, gives_at, gives_first, gives_last, range_same, stays, told_append}
use Rattle.line_words.proofs.Telling.{tells_all}
use Rattle.run_counts.proofs.Numbers.{fault_at, reason_at, same_cause}
use Rattle.run_counts.proofs.Telling.{changes_rows, counted, cuts_rows, partial_rows, place_rows, places_rows, rows_told, segment_rows, segments_rows, tells_told}
use Rattle.run_counts.proofs.Tests.{both, both_of, mark_refl, mark_same, tap_refl, tap_same}
use Rattle.run_counts.proofs.Words.{fault_small, reason_small}

-- ---- numbers from 1 on

-- a number of 1 to n stands in its place
numbered : (n k : ℕ) → 1 ≤ k → k ≤ n → (k - 1 < length (range_with_len 1 n)) × (get_or (range_with_len 1 n) (k - 1) k ≡ k)
numbered n k low high =
    let same : 1 + (k - 1) ≡ k = omega (arith, low) in
    (omega (arith, low, high, length-range_with_len 1 n), get_or-range_with_len 1 n (k - 1) k (omega (arith, low, high)) ∙ same)

vid_in : (vid : ℕ) → IsVid vid → (vid - 1 < length vids) × (get_or vids (vid - 1) vid ≡ vid)
unfolding vids
vid_in vid is = numbered 4094 vid is.0 is.1

-- ---- one thing that is told

abbrev count_at : Option ℕ → ℕ → Told → ℕ
count_at s n u = u.counts s n

abbrev refused_at : ChangeFault → Told → ℕ
refused_at f u = u.totals.refused f

abbrev came_at : Tap → Told → Flow
came_at tap u = u.totals.came tap

abbrev left_at : Tap → Told → Flow
left_at tap u = u.totals.left tap

abbrev partial_at : Told → ℕ
partial_at u = u.totals.partial

abbrev cuts_in : Told → List Tap
cuts_in u = u.cut

-- ---- of each row

-- the rows of what was dropped for a reason, of a cause, and of a port
abbrev dropped_rows : Told → Option ℕ → Reason → List Row
dropped_rows t segment reason = counted (Count segment (reason_number reason)) (t.counts segment (reason_number reason))

abbrev change_rows : Told → ChangeFault → List Row
change_rows t fault = counted (Refused (fault_number fault)) (t.totals.refused fault)

abbrev vid_rows : Told → ℕ → List Row
vid_rows t vid = segment_rows t (Some vid)

abbrev port_rows : Told → ℕ → List Row
port_rows t port = place_rows t (Port port)

abbrev cut_rows : Tap → List Row
cut_rows tap = Cut tap ∷ []

-- what is true of all rows of a run but for its cut captures
record OfEach (t : Told) (P : Row → Type 0) : Type 0 where
  counts : (s : Option ℕ) (n : ℕ) → P (Count s n (t.counts s n))
  refused : (f : ChangeFault) → P (Refused (fault_number f) (t.totals.refused f))
  came : (tap : Tap) → P (Arrival tap (t.totals.came tap))
  left : (tap : Tap) → P (Left tap (t.totals.left tap))
  partial : P (Partial t.totals.partial)

module _ (ports : ℕ) (t : Told) (P : Row → Type 0) (each : OfEach t P) where
  each_counted : (row : ℕ → Row) (count : ℕ) → P (row count) → AllByRecursion P (counted row count)
  each_counted row count is = by (count == 0)
    where
      by : (b : Bool) → AllByRecursion P (cond b [] (row count ∷ []))
      by true = tt
      by false = (is, tt)

  each_dropped : (segment : Option ℕ) (reason : Reason) → AllByRecursion P (dropped_rows t segment reason)
  each_dropped segment reason = each_counted (Count segment (reason_number reason)) (t.counts segment (reason_number reason)) (each.counts segment (reason_number reason))

  each_segment : (segment : Option ℕ) → AllByRecursion P (segment_rows t segment)
  each_segment segment =
      all_append P (counted (Count segment 0) (t.counts segment 0)) (flat_map (dropped_rows t segment) reasons)
      (each_counted (Count segment 0) (t.counts segment 0) (each.counts segment 0)) (all_flat P (dropped_rows t segment) (each_dropped segment) reasons)

  each_vid : (vid : ℕ) → AllByRecursion P (vid_rows t vid)
  each_vid vid = each_segment (Some vid)

  each_segments : AllByRecursion P (segments_rows t)
  each_segments = all_append P (flat_map (vid_rows t) vids) (segment_rows t None) (all_flat P (vid_rows t) each_vid vids) (each_segment None)

  each_change : (fault : ChangeFault) → AllByRecursion P (change_rows t fault)
  each_change fault = each_counted (Refused (fault_number fault)) (t.totals.refused fault) (each.refused fault)

  each_changes : AllByRecursion P (changes_rows t)
  each_changes = all_flat P (change_rows t) each_change causes

  each_place : (tap : Tap) → AllByRecursion P (place_rows t tap)
  each_place tap = (each.came tap, (each.left tap, tt))

  each_port : (port : ℕ) → AllByRecursion P (port_rows t port)
  each_port port = each_place (Port port)

  each_places : AllByRecursion P (places_rows ports t)
  each_places =
      all_append P (flat_map (port_rows t) (range_with_len 1 ports)) (place_rows t Underlay) (all_flat P (port_rows t) each_port (range_with_len 1 ports))
      (each_place Underlay)

  each_partial : AllByRecursion P (partial_rows t)
  each_partial = each_counted Partial t.totals.partial each.partial

  each_front : AllByRecursion P (segments_rows t ++ changes_rows t ++ places_rows ports t ++ partial_rows t)
  each_front =
      all_append P (segments_rows t ++ changes_rows t ++ places_rows ports t) (partial_rows t)
      (all_append P (segments_rows t ++ changes_rows t) (places_rows ports t) (all_append P (segments_rows t) (changes_rows t) each_segments each_changes)
      each_places)
      each_partial

  each_cut : ((tap : Tap) → P (Cut tap)) → AllByRecursion P (cuts_rows t)
  each_cut cut = all_flat P cut_rows (λ tap. (cut tap, tt)) t.cut

-- ---- one value

-- where the rows of one thing give it, or it is as at the begin
module _ {X : Type 0} (at : Told → X) (ports : ℕ) (t : Told) (each : OfEach t (Keeps at (at t))) (cut : (tap : Tap) → Keeps at (at t) (Cut tap)) where
  in_all : Gives at (at t) (segments_rows t ++ changes_rows t ++ places_rows ports t ++ partial_rows t) → Gives at (at t) (rows_told ports t)
  in_all gives =
      gives_first at (at t) (segments_rows t ++ changes_rows t ++ places_rows ports t ++ partial_rows t) (cuts_rows t) gives (each_cut ports t (Keeps at (at t)) each cut)

  in_partial : Gives at (at t) (partial_rows t) → Gives at (at t) (rows_told ports t)
  in_partial gives = in_all (gives_last at (at t) (segments_rows t ++ changes_rows t ++ places_rows ports t) (partial_rows t) gives)

  in_front : Gives at (at t) (segments_rows t ++ changes_rows t ++ places_rows ports t) → Gives at (at t) (rows_told ports t)
  in_front gives =
      in_all (gives_first at (at t) (segments_rows t ++ changes_rows t ++ places_rows ports t) (partial_rows t) gives (each_partial ports t (Keeps at (at t)) each))

  in_segments : Gives at (at t) (segments_rows t) → Gives at (at t) (rows_told ports t)
  in_segments gives =
      in_front
      (gives_first at (at t) (segments_rows t ++ changes_rows t) (places_rows ports t)
      (gives_first at (at t) (segments_rows t) (changes_rows t) gives (each_changes ports t (Keeps at (at t)) each)) (each_places ports t (Keeps at (at t)) each))

  in_changes : Gives at (at t) (changes_rows t) → Gives at (at t) (rows_told ports t)
  in_changes gives =
      in_front
      (gives_first at (at t) (segments_rows t ++ changes_rows t) (places_rows ports t) (gives_last at (at t) (segments_rows t) (changes_rows t) gives)
      (each_places ports t (Keeps at (at t)) each))

  in_places : Gives at (at t) (places_rows ports t) → Gives at (at t) (rows_told ports t)
  in_places gives = in_front (gives_last at (at t) (segments_rows t ++ changes_rows t) (places_rows ports t) gives)

  -- where each place's rows keep what is told of others, and give it at their own
  in_place : (tap : Tap) → IsPlace ports tap → Gives at (at t) (place_rows t tap) → Gives at (at t) (rows_told ports t)
  in_place (Port port) is gives =
      let place = numbered ports port is.0 is.1 in
      in_places
      (gives_first at (at t) (flat_map (port_rows t) (range_with_len 1 ports)) (place_rows t Underlay)
      (gives_at at (at t) (port_rows t) (each_port ports t (Keeps at (at t)) each) (range_with_len 1 ports) (port - 1) port place.0 place.1 gives)
      (each_place ports t (Keeps at (at t)) each Underlay))
  in_place Underlay is gives = in_places (gives_last at (at t) (flat_map (port_rows t) (range_with_len 1 ports)) (place_rows t Underlay) gives)

  -- as at the begin
  in_none : at nothing ≡ at t → at (told_by nothing (rows_told ports t)) ≡ at t
  in_none is =
      stays at (at t) (rows_told ports t)
      (all_append (Keeps at (at t)) (segments_rows t ++ changes_rows t ++ places_rows ports t ++ partial_rows t) (cuts_rows t) (each_front ports t (Keeps at (at t)) each)
      (each_cut ports t (Keeps at (at t)) each cut)) nothing is

-- ---- counts

module _ (ports : ℕ) (t : Told) (s : Option ℕ) (n : ℕ) (so : IsSegment s) (low : n < 41) where
  kept : is_kept s n ≡ true
  kept = both (nat_lt n 41) (is_row s) (lt-ltb n 41 low) (by s so)
    where
      by : (s : Option ℕ) → IsSegment s → is_row s ≡ true
      by (Some vid) is = both (nat_le 1 vid) (nat_le vid 4094) (le-leb 1 vid is.0) (le-leb vid 4094 is.1)
      by None is = refl

  count_keeps : (segment : Option ℕ) (number : ℕ) → Keeps (count_at s n) (t.counts s n) (Count segment number (t.counts segment number))
  count_keeps segment number u is = by (is_mark s n (record { segment = segment; number = number }) && is_kept s n) refl
    where
      by : (b : Bool) → (is_mark s n (record { segment = segment; number = number }) && is_kept s n) ≡ b → cond b (t.counts segment number) (u.counts s n) ≡ t.counts s n
      by true h =
          let here = mark_same s segment n number (both_of (is_mark s n (record { segment = segment; number = number })) (is_kept s n) h).0 in
          sym (ap (λ (x : Option ℕ). t.counts x n) here.0 ∙ ap (t.counts segment) here.1)
      by false h = is

  count_each : OfEach t (Keeps (count_at s n) (t.counts s n))
  count_each = record {
    counts = count_keeps;
    refused = λ f u is. is;
    came = λ tap u is. is;
    left = λ tap u is. is;
    partial = λ u is. is;
  }

  -- where it isn't 0 it has a row
  count_gives : (t.counts s n ≡ 0 → ⊥) → Gives (count_at s n) (t.counts s n) (counted (Count s n) (t.counts s n))
  count_gives some u =
      ap (λ (rows : List Row). (told_by u rows).counts s n) (cond-false (t.counts s n == 0) [] (Count s n (t.counts s n) ∷ []) (ne_eqb (t.counts s n) 0 some))
      ∙ cond-true (is_mark s n (record { segment = s; number = n }) && is_kept s n) (t.counts s n) (u.counts s n)
      (both (is_mark s n (record { segment = s; number = n })) (is_kept s n) (mark_refl s n) kept)

  in_segment : Gives (count_at s n) (t.counts s n) (segment_rows t s) → Gives (count_at s n) (t.counts s n) (segments_rows t)
  in_segment gives = by s so gives
    where
      by : (segment : Option ℕ) → IsSegment segment → Gives (count_at s n) (t.counts s n) (segment_rows t segment) → Gives (count_at s n) (t.counts s n) (segments_rows t)
      by (Some vid) is g =
          let place = vid_in vid is in
          gives_first (count_at s n) (t.counts s n) (flat_map (vid_rows t) vids) (segment_rows t None)
          (gives_at (count_at s n) (t.counts s n) (vid_rows t) (each_vid ports t (Keeps (count_at s n) (t.counts s n)) count_each) vids (vid - 1) vid place.0 place.1 g)
          (each_segment ports t (Keeps (count_at s n) (t.counts s n)) count_each None)
      by None is g = gives_last (count_at s n) (t.counts s n) (flat_map (vid_rows t) vids) (segment_rows t None) g

  count_told : ((t.counts s n ≡ 0 → ⊥) → Gives (count_at s n) (t.counts s n) (segment_rows t s)) → (told_by nothing (rows_told ports t)).counts s n ≡ t.counts s n
  count_told gives = by (cases_eq (t.counts s n) 0)
    where
      by : (t.counts s n ≡ 0) ⊎ (t.counts s n ≡ 0 → ⊥) → (told_by nothing (rows_told ports t)).counts s n ≡ t.counts s n
      by (inl zero) = in_none (count_at s n) ports t count_each (λ tap u is. is) (sym zero)
      by (inr some) = in_segments (count_at s n) ports t count_each (λ tap u is. is) (in_segment (gives some)) nothing

module _ (ports : ℕ) (t : Told) where
  sent_told : (s : Option ℕ) → IsSegment s → (told_by nothing (rows_told ports t)).counts s 0 ≡ t.counts s 0
  sent_told s so =
      let low : 0 < 41 = omega arith in
      count_told ports t s 0 so low
      (λ some. gives_first (count_at s 0) (t.counts s 0) (counted (Count s 0) (t.counts s 0)) (flat_map (dropped_rows t s) reasons) (count_gives ports t s 0 so low some)
      (all_flat (Keeps (count_at s 0) (t.counts s 0)) (dropped_rows t s)
      (each_dropped ports t (Keeps (count_at s 0) (t.counts s 0)) (count_each ports t s 0 so low) s) reasons))

  dropped_told : (s : Option ℕ) (r : Reason) → IsSegment s → (told_by nothing (rows_told ports t)).counts s (reason_number r) ≡ t.counts s (reason_number r)
  dropped_told s r so =
      let n : ℕ = reason_number r in
      let low : n < 41 = (reason_small r).1 in
      let some : 0 < n = (reason_small r).0 in
      let inside : n - 1 < 40 = omega (arith, low, some) in
      count_told ports t s n so low
      (λ some. gives_last (count_at s n) (t.counts s n) (counted (Count s 0) (t.counts s 0)) (flat_map (dropped_rows t s) reasons)
      (gives_at (count_at s n) (t.counts s n) (dropped_rows t s)
      (each_dropped ports t (Keeps (count_at s n) (t.counts s n)) (count_each ports t s n so low) s) reasons (n - 1) r inside (reason_at r)
      (count_gives ports t s n so low some)))

  -- ---- refused changes

  refused_keeps : (f g : ChangeFault) → Keeps (refused_at f) (t.totals.refused f) (Refused (fault_number g) (t.totals.refused g))
  refused_keeps f g u is = test (fault_number f == fault_number g) refl
    where
      test : (b : Bool) → (fault_number f == fault_number g) ≡ b → cond b (t.totals.refused g) (u.totals.refused f) ≡ t.totals.refused f
      test true h = ap t.totals.refused (sym (same_cause f g (eqb-true (fault_number f) (fault_number g) h)))
      test false h = is

  refused_each : (f : ChangeFault) → OfEach t (Keeps (refused_at f) (t.totals.refused f))
  refused_each f = record {
    counts = λ s n u is. is;
    refused = refused_keeps f;
    came = λ tap u is. is;
    left = λ tap u is. is;
    partial = λ u is. is;
  }

  refused_gives : (f : ChangeFault) → (t.totals.refused f ≡ 0 → ⊥) → Gives (refused_at f) (t.totals.refused f) (change_rows t f)
  refused_gives f some u =
      ap (λ (rows : List Row). (told_by u rows).totals.refused f)
      (cond-false (t.totals.refused f == 0) [] (Refused (fault_number f) (t.totals.refused f) ∷ []) (ne_eqb (t.totals.refused f) 0 some))
      ∙ cond-true (fault_number f == fault_number f) (t.totals.refused f) (u.totals.refused f) (eq-eqb (fault_number f) (fault_number f) refl)

  refused_told : (f : ChangeFault) → (told_by nothing (rows_told ports t)).totals.refused f ≡ t.totals.refused f
  refused_told f = by (cases_eq (t.totals.refused f) 0)
    where
      by : (t.totals.refused f ≡ 0) ⊎ (t.totals.refused f ≡ 0 → ⊥) → (told_by nothing (rows_told ports t)).totals.refused f ≡ t.totals.refused f
      by (inl zero) = in_none (refused_at f) ports t (refused_each f) (λ tap u is. is) (sym zero)
      by (inr some) =
          let low : fault_number f < 15 = (fault_small f).1 in
          let high : 0 < fault_number f = (fault_small f).0 in
          let inside : fault_number f - 1 < 14 = omega (arith, low, high) in
          in_changes (refused_at f) ports t (refused_each f) (λ tap u is. is)
          (gives_at (refused_at f) (t.totals.refused f) (change_rows t) (each_change ports t (Keeps (refused_at f) (t.totals.refused f)) (refused_each f)) causes
          (fault_number f - 1) f inside (fault_at f f) (refused_gives f some))
          nothing

  -- ---- places

  flow_keeps : (flows now : Tap → Flow) (tap other : Tap) → now tap ≡ flows tap → (if same_tap tap other then flows other else now tap) ≡ flows tap
  flow_keeps flows now tap other is = test (same_tap tap other) refl
    where
      test : (b : Bool) → same_tap tap other ≡ b → cond b (flows other) (now tap) ≡ flows tap
      test true h = ap flows (sym (tap_same tap other h))
      test false h = is

  came_each : (tap : Tap) → OfEach t (Keeps (came_at tap) (t.totals.came tap))
  came_each tap = record {
    counts = λ s n u is. is;
    refused = λ f u is. is;
    came = λ other u is. flow_keeps t.totals.came u.totals.came tap other is;
    left = λ other u is. is;
    partial = λ u is. is;
  }

  came_told : (tap : Tap) → IsPlace ports tap → (told_by nothing (rows_told ports t)).totals.came tap ≡ t.totals.came tap
  came_told tap so =
      in_place (came_at tap) ports t (came_each tap) (λ other u is. is) tap so
      (λ u. cond-true (same_tap tap tap) (t.totals.came tap) (u.totals.came tap) (tap_refl tap)) nothing

  left_each : (tap : Tap) → OfEach t (Keeps (left_at tap) (t.totals.left tap))
  left_each tap = record {
    counts = λ s n u is. is;
    refused = λ f u is. is;
    came = λ other u is. is;
    left = λ other u is. flow_keeps t.totals.left u.totals.left tap other is;
    partial = λ u is. is;
  }

  left_told : (tap : Tap) → IsPlace ports tap → (told_by nothing (rows_told ports t)).totals.left tap ≡ t.totals.left tap
  left_told tap so =
      in_place (left_at tap) ports t (left_each tap) (λ other u is. is) tap so
      (λ u. cond-true (same_tap tap tap) (t.totals.left tap) (u.totals.left tap) (tap_refl tap)) nothing

  -- ---- checksums

  partial_each : OfEach t (Keeps partial_at t.totals.partial)
  partial_each = record {
    counts = λ s n u is. is;
    refused = λ f u is. is;
    came = λ tap u is. is;
    left = λ tap u is. is;
    partial = λ u is. refl;
  }

  partial_gives : (t.totals.partial ≡ 0 → ⊥) → Gives partial_at t.totals.partial (partial_rows t)
  partial_gives some u =
      ap (λ (rows : List Row). (told_by u rows).totals.partial)
      (cond-false (t.totals.partial == 0) [] (Partial t.totals.partial ∷ []) (ne_eqb t.totals.partial 0 some))

  partial_told : (told_by nothing (rows_told ports t)).totals.partial ≡ t.totals.partial
  partial_told = by (cases_eq t.totals.partial 0)
    where
      by : (t.totals.partial ≡ 0) ⊎ (t.totals.partial ≡ 0 → ⊥) → (told_by nothing (rows_told ports t)).totals.partial ≡ t.totals.partial
      by (inl zero) = in_none partial_at ports t partial_each (λ tap u is. is) (sym zero)
      by (inr some) = in_partial partial_at ports t partial_each (λ tap u is. is) (partial_gives some) nothing

  -- ---- cut captures

  cuts_behind : (cut : List Tap) (u : Told) → (told_by u (flat_map cut_rows cut)).cut ≡ u.cut ++ cut
  cuts_behind [] u = sym (append-nil u.cut)
  cuts_behind (tap ∷ cut) u = cuts_behind cut (with_row u (Cut tap)) ∙ append_assoc u.cut (tap ∷ []) cut

  cuts_each : OfEach t (Keeps cuts_in [])
  cuts_each = record {
    counts = λ s n u is. is;
    refused = λ f u is. is;
    came = λ tap u is. is;
    left = λ tap u is. is;
    partial = λ u is. is;
  }

  cut_told : (told_by nothing (rows_told ports t)).cut ≡ t.cut
  cut_told =
      let front : List Row = segments_rows t ++ changes_rows t ++ places_rows ports t ++ partial_rows t in
      ap (λ (u : Told). u.cut) (told_append nothing front (cuts_rows t))
      ∙ cuts_behind t.cut (told_by nothing front)
      ∙ ap (λ (l : List Tap). l ++ t.cut) (stays cuts_in [] front (each_front ports t (Keeps cuts_in []) cuts_each) nothing refl)

  -- the lines tell all that was counted
  says_same : SaysSame ports (told_by nothing (rows_told ports t)) t
  says_same = record {
    sent = sent_told;
    dropped = λ segment reason so. dropped_told segment reason so;
    came = came_told;
    left = left_told;
    refused = refused_told;
    partial = partial_told;
    cut = cut_told;
  }

-- the lines of a text that a run told
read_back : (ports : ℕ) (t : Told) → ports < 256 → IsTold ports t → SaysSame ports (told_by nothing (rows_of (text_of ports t))) t
read_back ports t low is =
    subst (λ (rows : List Row). SaysSame ports (told_by nothing rows) t) (sym (tells_all (text_of ports t) (rows_told ports t) (tells_told ports low t is))) (says_same ports t)

-- ---- and so does their text

two : (a b c d : List ℕ) → a ≡ c → b ≡ d → a ++ b ≡ c ++ d
two a b c d first second = ap (λ (l : List ℕ). l ++ b) first ∙ ap (λ (l : List ℕ). c ++ l) second

module _ (ports : ℕ) (s t : Told) (same : SaysSame ports s t) where
  sent_same : (segment : Option ℕ) → IsSegment segment → sent_line s.counts segment ≡ sent_line t.counts segment
  unfolding sent_line
  sent_same segment so = ap (count_line (codes "segment " ++ segment_word segment ++ codes " sent")) (same.sent segment so)

  dropped_same : (segment : Option ℕ) → IsSegment segment → (reason : Reason) → dropped_line s.counts segment reason ≡ dropped_line t.counts segment reason
  unfolding dropped_line
  dropped_same segment so reason =
      ap (count_line (codes "segment " ++ segment_word segment ++ codes " dropped " ++ decimal (reason_number reason) ++ codes " " ++ name_of reason))
      (same.dropped segment reason so)

  lines_same : (segment : Option ℕ) → IsSegment segment → segment_lines s.counts segment ≡ segment_lines t.counts segment
  lines_same segment so =
      two (sent_line s.counts segment) (flat_map (dropped_line s.counts segment) reasons) (sent_line t.counts segment) (flat_map (dropped_line t.counts segment) reasons)
      (sent_same segment so)
      (flat_same (dropped_line s.counts segment) (dropped_line t.counts segment) reasons
      (all_weaker (λ (r : Reason). ⊤) (λ r. dropped_line s.counts segment r ≡ dropped_line t.counts segment r) (λ reason _. dropped_same segment so reason) reasons (all_any reasons)))

  vids_same : flat_map (λ vid. segment_lines s.counts (Some vid)) vids ≡ flat_map (λ vid. segment_lines t.counts (Some vid)) vids
  unfolding vids
  vids_same =
      range_same (λ vid. segment_lines s.counts (Some vid)) (λ vid. segment_lines t.counts (Some vid)) 1 4094
      (λ vid from to. lines_same (Some vid) (from, omega (arith, to)))

  segments_same : segments_text s.counts ≡ segments_text t.counts
  segments_same =
      two (flat_map (λ vid. segment_lines s.counts (Some vid)) vids) (segment_lines s.counts None) (flat_map (λ vid. segment_lines t.counts (Some vid)) vids) (segment_lines t.counts None)
      vids_same (lines_same None tt)

  refused_same : (fault : ChangeFault) → refused_line s.totals.refused fault ≡ refused_line t.totals.refused fault
  unfolding refused_line
  refused_same fault = ap (count_line (codes "change refused " ++ decimal (fault_number fault) ++ codes " " ++ fault_name fault)) (same.refused fault)

  changes_same : changes_text s.totals.refused ≡ changes_text t.totals.refused
  changes_same =
      flat_same (refused_line s.totals.refused) (refused_line t.totals.refused) causes
      (all_weaker (λ (f : ChangeFault). ⊤) (λ f. refused_line s.totals.refused f ≡ refused_line t.totals.refused f) (λ fault _. refused_same fault) causes (all_any causes))

  place_same : (tap : Tap) → IsPlace ports tap → place_lines s.totals tap ≡ place_lines t.totals tap
  place_same tap so =
      two (flow_line tap (codes "in") (s.totals.came tap)) (flow_line tap (codes "out") (s.totals.left tap)) (flow_line tap (codes "in") (t.totals.came tap)) (flow_line tap (codes "out") (t.totals.left tap))
      (ap (flow_line tap (codes "in")) (same.came tap so)) (ap (flow_line tap (codes "out")) (same.left tap so))

  places_same : places_text s.totals ports ≡ places_text t.totals ports
  places_same =
      two (flat_map (λ port. place_lines s.totals (Port port)) (range_with_len 1 ports)) (place_lines s.totals Underlay)
      (flat_map (λ port. place_lines t.totals (Port port)) (range_with_len 1 ports)) (place_lines t.totals Underlay)
      (range_same (λ port. place_lines s.totals (Port port)) (λ port. place_lines t.totals (Port port)) 1 ports (λ port from to. place_same (Port port) (from, omega (arith, to))))
      (place_same Underlay tt)

  partial_same : partial_line s.totals.partial ≡ partial_line t.totals.partial
  unfolding partial_line
  partial_same = ap (count_line (codes "checksum partial")) same.partial

  cut_same : (tap : Tap) → IsPlace ports tap → cut_line (cut_at s.totals tap) ≡ cut_line (cut_at t.totals tap)
  cut_same tap so = ap (λ (w : Flow). cut_line (record { tap = tap; whole = w.frames })) (same.came tap so)

  cuts_same : AllByRecursion (IsPlace ports) t.cut → cuts_text s.totals s.cut ≡ cuts_text t.totals t.cut
  cuts_same all =
      ap (flat_map (λ tap. cut_line (cut_at s.totals tap))) same.cut
      ∙ flat_same (λ tap. cut_line (cut_at s.totals tap)) (λ tap. cut_line (cut_at t.totals tap)) t.cut
      (all_weaker (IsPlace ports) (λ tap. cut_line (cut_at s.totals tap) ≡ cut_line (cut_at t.totals tap)) cut_same t.cut all)

  same_text : AllByRecursion (IsPlace ports) t.cut → text_of ports s ≡ text_of ports t
  same_text all =
      two (counts_text s.counts ports s.totals) (cuts_text s.totals s.cut) (counts_text t.counts ports t.totals) (cuts_text t.totals t.cut)
      (two (segments_text s.counts ++ changes_text s.totals.refused ++ places_text s.totals ports) (partial_line s.totals.partial)
      (segments_text t.counts ++ changes_text t.totals.refused ++ places_text t.totals ports) (partial_line t.totals.partial)
      (two (segments_text s.counts ++ changes_text s.totals.refused) (places_text s.totals ports) (segments_text t.counts ++ changes_text t.totals.refused) (places_text t.totals ports)
      (two (segments_text s.counts) (changes_text s.totals.refused) (segments_text t.counts) (changes_text t.totals.refused) segments_same changes_same)
      places_same)
      partial_same)
      (cuts_same all)

-- what is read of a text that a run told is written as that text
written_back : (ports : ℕ) (t : Told) → ports < 256 → IsTold ports t → text_of ports (told_by nothing (rows_of (text_of ports t))) ≡ text_of ports t
written_back ports t low is =
    same_text ports (told_by nothing (rows_of (text_of ports t))) t (read_back ports t low is) (recursion_from_All (IsPlace ports) t.cut is.cut)

-- ---- a text that a run told

module _ (ports : ℕ) (low : ports < 256) (t s : Told) (text : List ℕ) (can : IsTold ports t) (is : text ≡ text_of ports t) (so : s ≡ told_by nothing (rows_of text)) where
  its_rows : s ≡ told_by nothing (rows_of (text_of ports t))
  its_rows = so ∙ ap (λ (l : List ℕ). told_by nothing (rows_of l)) is

  pub read_same : SaysSame ports s t
  read_same = subst (λ (u : Told). SaysSame ports u t) (sym its_rows) (read_back ports t low can)

  pub written_same : text_of ports s ≡ text
  written_same = ap (text_of ports) its_rows ∙ written_back ports t low can ∙ sym is
