-- The lines of a run's summary, and what they tell one by one.
use Rattle.std.proofs.Common.{◌≡◌, ◌∙◌, ap, refl, ℕ, ◌^◌, ◌<◌, Bool, true, false, cond, List, [], ◌∷◌, ◌++◌, append_assoc, Option, Some, None, arith}
use Rattle.std.specs.Prelude.{◌==◌, codes, if◌then◌else◌, ⊤}
use Rattle.std.specs.Fmt.{decimal}
use Rattle.std.specs.List.{AllByRecursion, flat_map, range_with_len}
use Rattle.std.specs.Option.{option_and_then}
use Rattle.std.proofs.lemmas.List.Elements.{recursion_from_All}
use Rattle.wire.specs.Octets.{is_same}
use Rattle.wire.specs.Reason.{name_of, number_of as reason_number}
use Rattle.wire.specs.Tag.{IsVid}
use Rattle.wire.specs.declared.ether.reason.Reason.{Reason}
use Rattle.timeline.specs.Words.{tap_word}
use Rattle.timeline.specs.declared.source.Tap.{Tap}
use Rattle.timeline.specs.declared.source.Tap.TheVariants.{Port, Underlay}
use Rattle.endpoint_core.specs.Fault.{name_of as fault_name, number_of as fault_number}
use Rattle.endpoint_core.specs.declared.state.fault.ChangeFault.{ChangeFault}
use Rattle.decision_lines.specs.Lines.{cut_line}
use Rattle.line_words.specs.Numbers.{number_of}
use Rattle.line_words.specs.Words.{behind, word}
use Rattle.line_words.proofs.Decimals.{IsWord, join, lacks, lacks_more, number_decimal, number_word, octet_decimal}
use Rattle.line_words.proofs.Fronts.{behind_front, word_front}
use Rattle.line_words.proofs.Telling.{Tells, tells_as, tells_each, tells_more, tells_none}
use Rattle.run_counts.specs.Summary.{causes, changes_text, count_line, cut_at, cuts_text, dropped_line, flow_line, partial_line, place_lines, places_text, reasons, refused_line, segment_lines, segment_word, segments_text, sent_line, vids}
use Rattle.run_counts.specs.declared.flow.Flow.{Flow}
use Rattle.run_counts.specs.Told.{IsFlow, IsPlace, IsSegment, IsTold, Told, text_of}
use Rattle.run_counts.specs.Rows.{count_in, count_of, flow_by, flow_in, row_in, segment_of, small, tap_of}
use Rattle.run_counts.specs.declared.parts.row.Row.{Row}
use Rattle.run_counts.specs.declared.parts.row.Row.TheVariants.{Count, Refused, Arrival, Left, Partial, Cut}
use Rattle.run_counts.proofs.Words.{fault_small, fault_word, place_back, place_word, reason_small, reason_word, segment_back, segment_is_word}
use Rattle.run_counts.proofs.Folds.{all_any, all_range}

-- ---- what the lines tell

-- a count that is 0 has no line
abbrev pub counted : (ℕ → Row) → ℕ → List Row
counted row count = if count == 0 then [] else row count ∷ []

abbrev pub segment_rows : Told → Option ℕ → List Row
segment_rows t segment =
    counted (Count segment 0) (t.counts segment 0)
    ++ flat_map (λ reason. counted (Count segment (reason_number reason)) (t.counts segment (reason_number reason))) reasons

abbrev pub segments_rows : Told → List Row
segments_rows t = flat_map (λ vid. segment_rows t (Some vid)) vids ++ segment_rows t None

abbrev pub changes_rows : Told → List Row
changes_rows t = flat_map (λ fault. counted (Refused (fault_number fault)) (t.totals.refused fault)) causes

abbrev pub place_rows : Told → Tap → List Row
place_rows t tap = Arrival tap (t.totals.came tap) ∷ Left tap (t.totals.left tap) ∷ []

abbrev pub places_rows : ℕ → Told → List Row
places_rows ports t = flat_map (λ port. place_rows t (Port port)) (range_with_len 1 ports) ++ place_rows t Underlay

abbrev pub partial_rows : Told → List Row
partial_rows t = counted Partial t.totals.partial

abbrev pub cuts_rows : Told → List Row
cuts_rows t = flat_map (λ tap. Cut tap ∷ []) t.cut

-- all of them
abbrev pub rows_told : ℕ → Told → List Row
rows_told ports t = segments_rows t ++ changes_rows t ++ places_rows ports t ++ partial_rows t ++ cuts_rows t

-- ---- words in a line

flat_sent : (a s b n : List ℕ) → (a ++ 32 ∷ []) ++ s ++ (32 ∷ b) ++ (32 ∷ []) ++ n ++ 10 ∷ [] ≡ (a ++ 32 ∷ (s ++ 32 ∷ (b ++ 32 ∷ n))) ++ 10 ∷ []
flat_sent a s b n = simp append_assoc refl

flat_dropped : (a s b k name n : List ℕ) → (a ++ 32 ∷ []) ++ s ++ (32 ∷ (b ++ 32 ∷ [])) ++ k ++ (32 ∷ []) ++ name ++ (32 ∷ []) ++ n ++ 10 ∷ []
    ≡ (a ++ 32 ∷ (s ++ 32 ∷ (b ++ 32 ∷ (k ++ 32 ∷ (name ++ 32 ∷ n))))) ++ 10 ∷ []
flat_dropped a s b k name n = simp append_assoc refl

flat_numbered : (a k name n : List ℕ) → a ++ k ++ (32 ∷ []) ++ name ++ (32 ∷ []) ++ n ++ 10 ∷ [] ≡ (a ++ (k ++ 32 ∷ (name ++ 32 ∷ n))) ++ 10 ∷ []
flat_numbered a k name n = simp append_assoc refl

flat_flow : (a p d f o : List ℕ) → a ++ p ++ (32 ∷ []) ++ d ++ (32 ∷ []) ++ f ++ (32 ∷ []) ++ o ++ 10 ∷ [] ≡ (a ++ (p ++ 32 ∷ (d ++ 32 ∷ (f ++ 32 ∷ o)))) ++ 10 ∷ []
flat_flow a p d f o = simp append_assoc refl

flat_cut : (a p n : List ℕ) → a ++ p ++ (32 ∷ []) ++ n ++ 10 ∷ [] ≡ (a ++ (p ++ 32 ∷ n)) ++ 10 ∷ []
flat_cut a p n = simp append_assoc refl

-- ---- one line

-- NUMBER NAME N
numbered_back : (row : ℕ → ℕ → Row) (number count : ℕ) (name : List ℕ) → number < 256 → count < 2 ^ 64 → IsWord name
    → option_and_then (λ k. option_and_then (λ n. Some (row k n)) (number_of (behind (behind (decimal number ++ 32 ∷ (name ++ 32 ∷ decimal count))))))
    (small (word (decimal number ++ 32 ∷ (name ++ 32 ∷ decimal count)))) ≡ Some (row number count)
numbered_back row number count name low fits is =
    let text : List ℕ = decimal number ++ 32 ∷ (name ++ 32 ∷ decimal count) in
    let digits = number_word number (omega (arith, low)) in
    let first : small (word text) ≡ Some number = ap small (word_front (decimal number) (name ++ 32 ∷ decimal count) digits.space) ∙ octet_decimal number low in
    let last : number_of (behind (behind text)) ≡ Some count =
    ap (λ l. number_of (behind l)) (behind_front (decimal number) (name ++ 32 ∷ decimal count) digits.space)
    ∙ ap number_of (behind_front name (decimal count) is.space) ∙ number_decimal count fits in
    ap (λ o. option_and_then (λ k. option_and_then (λ n. Some (row k n)) (number_of (behind (behind text)))) o) first
    ∙ ap (λ o. option_and_then (λ n. Some (row number n)) o) last

numbered_line : (number count : ℕ) (name : List ℕ) → number < 256 → count < 2 ^ 64 → IsWord name → lacks 10 (decimal number ++ 32 ∷ (name ++ 32 ∷ decimal count)) ≡ true
numbered_line number count name low fits is =
    join (decimal number) (name ++ 32 ∷ decimal count) (number_word number (omega (arith, low))).line (join name (decimal count) is.line (number_word count fits).line)

-- V, and then more
count_back : (segment : Option ℕ) (rest : List ℕ) → IsSegment segment → count_in (segment_word segment ++ 32 ∷ rest) ≡ count_of segment rest
count_back segment rest is =
    let text : List ℕ = segment_word segment ++ 32 ∷ rest in
    let w = segment_is_word segment is in
    ap (λ l. option_and_then (λ s. count_of s (behind text)) (segment_of l)) (word_front (segment_word segment) rest w.space)
    ∙ ap (λ o. option_and_then (λ s. count_of s (behind text)) o) (segment_back segment is)
    ∙ ap (count_of segment) (behind_front (segment_word segment) rest w.space)

sent_row : (segment : Option ℕ) (count : ℕ) → IsSegment segment → count < 2 ^ 64
    → row_in (codes "segment" ++ 32 ∷ (segment_word segment ++ 32 ∷ (codes "sent" ++ 32 ∷ decimal count))) ≡ Some (Count segment 0 count)
unfolding row_in
sent_row segment count is fits =
    count_back segment (codes "sent" ++ 32 ∷ decimal count) is ∙ ap (option_and_then (λ n. Some (Count segment 0 n))) (number_decimal count fits)

dropped_row : (segment : Option ℕ) (number count : ℕ) (name : List ℕ) → IsSegment segment → number < 256 → count < 2 ^ 64 → IsWord name
    → row_in (codes "segment" ++ 32 ∷ (segment_word segment ++ 32 ∷ (codes "dropped" ++ 32 ∷ (decimal number ++ 32 ∷ (name ++ 32 ∷ decimal count))))) ≡ Some (Count segment number count)
unfolding row_in
dropped_row segment number count name is low fits w =
    count_back segment (codes "dropped" ++ 32 ∷ (decimal number ++ 32 ∷ (name ++ 32 ∷ decimal count))) is ∙ numbered_back (Count segment) number count name low fits w

refused_row : (number count : ℕ) (name : List ℕ) → number < 256 → count < 2 ^ 64 → IsWord name
    → row_in (codes "change refused " ++ (decimal number ++ 32 ∷ (name ++ 32 ∷ decimal count))) ≡ Some (Refused number count)
unfolding row_in
refused_row number count name low fits w = numbered_back Refused number count name low fits w

flow_back : (flow : Flow) → IsFlow flow → flow_by (decimal flow.frames ++ 32 ∷ decimal flow.octets) ≡ Some flow
flow_back flow is =
    let text : List ℕ = decimal flow.frames ++ 32 ∷ decimal flow.octets in
    let w = number_word flow.frames is.0 in
    let first : number_of (word text) ≡ Some flow.frames = ap number_of (word_front (decimal flow.frames) (decimal flow.octets) w.space) ∙ number_decimal flow.frames is.0 in
    let last : number_of (behind text) ≡ Some flow.octets = ap number_of (behind_front (decimal flow.frames) (decimal flow.octets) w.space) ∙ number_decimal flow.octets is.1 in
    ap (λ o. option_and_then (λ f. option_and_then (λ n. Some (record { frames = f; octets = n })) (number_of (behind text))) o) first
    ∙ ap (λ o. option_and_then (λ n. Some (record { frames = flow.frames; octets = n })) o) last

-- P and a direction
passed_back : (tap : Tap) (direction rest : List ℕ) (ports : ℕ) → ports < 256 → IsPlace ports tap → lacks 32 direction ≡ true → (flow : Flow) → flow_by rest ≡ Some flow
    → flow_in (tap_word tap ++ 32 ∷ (direction ++ 32 ∷ rest)) ≡ (if is_same direction (codes "in") then Some (Arrival tap flow) else Some (Left tap flow))
passed_back tap direction rest ports low is free flow told =
    let more : List ℕ = direction ++ 32 ∷ rest in
    let text : List ℕ = tap_word tap ++ 32 ∷ more in
    let w = place_word ports tap low is in
    let next : behind text ≡ more = behind_front (tap_word tap) more w.space in
    let first : tap_of (word text) ≡ Some tap = ap tap_of (word_front (tap_word tap) more w.space) ∙ place_back ports tap low is in
    let kind : word (behind text) ≡ direction = ap word next ∙ word_front direction rest free in
    let last : flow_by (behind (behind text)) ≡ Some flow = ap (λ l. flow_by (behind l)) next ∙ ap flow_by (behind_front direction rest free) ∙ told in
    ap (λ o. option_and_then (λ t. option_and_then (λ f. if is_same (word (behind text)) (codes "in") then Some (Arrival t f) else Some (Left t f)) (flow_by (behind (behind text)))) o) first
    ∙ ap (λ o. option_and_then (λ f. if is_same (word (behind text)) (codes "in") then Some (Arrival tap f) else Some (Left tap f)) o) last
    ∙ ap (λ l. if is_same l (codes "in") then Some (Arrival tap flow) else Some (Left tap flow)) kind

came_row : (tap : Tap) (flow : Flow) (ports : ℕ) → ports < 256 → IsPlace ports tap → IsFlow flow
    → row_in (codes "place " ++ (tap_word tap ++ 32 ∷ (codes "in" ++ 32 ∷ (decimal flow.frames ++ 32 ∷ decimal flow.octets)))) ≡ Some (Arrival tap flow)
unfolding row_in
came_row tap flow ports low is fits = passed_back tap (codes "in") (decimal flow.frames ++ 32 ∷ decimal flow.octets) ports low is refl flow (flow_back flow fits)

left_row : (tap : Tap) (flow : Flow) (ports : ℕ) → ports < 256 → IsPlace ports tap → IsFlow flow
    → row_in (codes "place " ++ (tap_word tap ++ 32 ∷ (codes "out" ++ 32 ∷ (decimal flow.frames ++ 32 ∷ decimal flow.octets)))) ≡ Some (Left tap flow)
unfolding row_in
left_row tap flow ports low is fits = passed_back tap (codes "out") (decimal flow.frames ++ 32 ∷ decimal flow.octets) ports low is refl flow (flow_back flow fits)

partial_row : (count : ℕ) → count < 2 ^ 64 → row_in (codes "checksum partial " ++ decimal count) ≡ Some (Partial count)
unfolding row_in
partial_row count fits = ap (option_and_then (λ n. Some (Partial n))) (number_decimal count fits)

cut_row : (tap : Tap) (whole ports : ℕ) → ports < 256 → IsPlace ports tap → row_in (codes "cut " ++ (tap_word tap ++ 32 ∷ decimal whole)) ≡ Some (Cut tap)
unfolding row_in
cut_row tap whole ports low is =
    let w = place_word ports tap low is in
    ap (λ l. option_and_then (λ t. Some (Cut t)) (tap_of l)) (word_front (tap_word tap) (decimal whole) w.space)
    ∙ ap (option_and_then (λ t. Some (Cut t))) (place_back ports tap low is)

-- ---- lines of counts

tells_count : (words : List ℕ) (row : ℕ → Row) (count : ℕ) → Tells row_in (words ++ codes " " ++ decimal count ++ 10 ∷ []) (row count ∷ []) → Tells row_in (count_line words count) (counted row count)
unfolding count_line
tells_count words row count told = by (count == 0)
  where
    by : (b : Bool) → Tells row_in (cond b [] (words ++ codes " " ++ decimal count ++ 10 ∷ [])) (cond b [] (row count ∷ []))
    by true = tells_none
    by false = told

module _ (ports : ℕ) (low : ports < 256) (t : Told) (is : IsTold ports t) where
  tells_sent : (segment : Option ℕ) → IsSegment segment → Tells row_in (sent_line t.counts segment) (counted (Count segment 0) (t.counts segment 0))
  unfolding sent_line
  tells_sent segment so =
      let count = t.counts segment 0 in
      let fits = is.counts segment 0 in
      let sent : List ℕ = codes "sent" ++ 32 ∷ decimal count in
      tells_count (codes "segment " ++ segment_word segment ++ codes " sent") (Count segment 0) count
      (tells_as _ _ (Count segment 0 count) (flat_sent (codes "segment") (segment_word segment) (codes "sent") (decimal count))
      (join (codes "segment") (segment_word segment ++ 32 ∷ sent) refl
      (join (segment_word segment) sent (segment_is_word segment so).line (join (codes "sent") (decimal count) refl (number_word count fits).line)))
      (sent_row segment count so fits))

  tells_dropped : (segment : Option ℕ) → IsSegment segment → (reason : Reason)
      → Tells row_in (dropped_line t.counts segment reason) (counted (Count segment (reason_number reason)) (t.counts segment (reason_number reason)))
  unfolding dropped_line
  tells_dropped segment so reason =
      let number = reason_number reason in
      let count = t.counts segment number in
      let fits = is.counts segment number in
      let below : number < 41 = (reason_small reason).1 in
      let small : number < 256 = omega (arith, below) in
      let numbers : List ℕ = decimal number ++ 32 ∷ (name_of reason ++ 32 ∷ decimal count) in
      let dropped : List ℕ = codes "dropped" ++ 32 ∷ numbers in
      tells_count (codes "segment " ++ segment_word segment ++ codes " dropped " ++ decimal number ++ codes " " ++ name_of reason) (Count segment number) count
      (tells_as _ _ (Count segment number count) (flat_dropped (codes "segment") (segment_word segment) (codes "dropped") (decimal number) (name_of reason) (decimal count))
      (join (codes "segment") (segment_word segment ++ 32 ∷ dropped) refl (join (segment_word segment) dropped (segment_is_word segment so).line
      (join (codes "dropped") numbers refl (numbered_line number count (name_of reason) small fits (reason_word reason)))))
      (dropped_row segment number count (name_of reason) so small fits (reason_word reason)))

  tells_segment : (segment : Option ℕ) → IsSegment segment → Tells row_in (segment_lines t.counts segment) (segment_rows t segment)
  tells_segment segment so =
      tells_more _ _ _ _ (tells_sent segment so)
      (tells_each (λ (reason : Reason). ⊤) (dropped_line t.counts segment)
      (λ reason. counted (Count segment (reason_number reason)) (t.counts segment (reason_number reason)))
      (λ reason _. tells_dropped segment so reason) reasons (all_any reasons))

  vids_all : AllByRecursion IsVid vids
  unfolding vids
  vids_all = all_range IsVid 1 4094 (λ k from to. (from, omega (arith, to)))

  tells_segments : Tells row_in (segments_text t.counts) (segments_rows t)
  tells_segments =
      tells_more _ _ _ _
      (tells_each IsVid (λ vid. segment_lines t.counts (Some vid)) (λ vid. segment_rows t (Some vid)) (λ vid so. tells_segment (Some vid) so) vids vids_all)
      (tells_segment None tt)

  tells_refused : (fault : ChangeFault) → Tells row_in (refused_line t.totals.refused fault) (counted (Refused (fault_number fault)) (t.totals.refused fault))
  unfolding refused_line
  tells_refused fault =
      let number = fault_number fault in
      let count = t.totals.refused fault in
      let fits = is.refused fault in
      let below : number < 15 = (fault_small fault).1 in
      let small : number < 256 = omega (arith, below) in
      tells_count (codes "change refused " ++ decimal number ++ codes " " ++ fault_name fault) (Refused number) count
      (tells_as _ _ (Refused number count) (flat_numbered (codes "change refused ") (decimal number) (fault_name fault) (decimal count))
      (lacks_more 10 (codes "change refused ") (decimal number ++ 32 ∷ (fault_name fault ++ 32 ∷ decimal count)) refl
      (numbered_line number count (fault_name fault) small fits (fault_word fault)))
      (refused_row number count (fault_name fault) small fits (fault_word fault)))

  tells_changes : Tells row_in (changes_text t.totals.refused) (changes_rows t)
  tells_changes =
      tells_each (λ (fault : ChangeFault). ⊤) (refused_line t.totals.refused) (λ fault. counted (Refused (fault_number fault)) (t.totals.refused fault))
      (λ fault _. tells_refused fault) causes (all_any causes)

  flow_line_whole : (tap : Tap) (direction : List ℕ) (flow : Flow) → IsPlace ports tap → IsFlow flow → lacks 10 direction ≡ true
      → lacks 10 (codes "place " ++ (tap_word tap ++ 32 ∷ (direction ++ 32 ∷ (decimal flow.frames ++ 32 ∷ decimal flow.octets)))) ≡ true
  flow_line_whole tap direction flow so fits free =
      let numbers : List ℕ = decimal flow.frames ++ 32 ∷ decimal flow.octets in
      let more : List ℕ = direction ++ 32 ∷ numbers in
      lacks_more 10 (codes "place ") (tap_word tap ++ 32 ∷ more) refl (join (tap_word tap) more (place_word ports tap low so).line
      (join direction numbers free (join (decimal flow.frames) (decimal flow.octets) (number_word flow.frames fits.0).line (number_word flow.octets fits.1).line)))

  tells_came : (tap : Tap) → IsPlace ports tap → Tells row_in (flow_line tap (codes "in") (t.totals.came tap)) (Arrival tap (t.totals.came tap) ∷ [])
  unfolding flow_line
  tells_came tap so =
      let flow = t.totals.came tap in
      tells_as _ _ (Arrival tap flow) (flat_flow (codes "place ") (tap_word tap) (codes "in") (decimal flow.frames) (decimal flow.octets))
      (flow_line_whole tap (codes "in") flow so (is.came tap) refl) (came_row tap flow ports low so (is.came tap))

  tells_left : (tap : Tap) → IsPlace ports tap → Tells row_in (flow_line tap (codes "out") (t.totals.left tap)) (Left tap (t.totals.left tap) ∷ [])
  unfolding flow_line
  tells_left tap so =
      let flow = t.totals.left tap in
      tells_as _ _ (Left tap flow) (flat_flow (codes "place ") (tap_word tap) (codes "out") (decimal flow.frames) (decimal flow.octets))
      (flow_line_whole tap (codes "out") flow so (is.left tap) refl) (left_row tap flow ports low so (is.left tap))

  tells_place : (tap : Tap) → IsPlace ports tap → Tells row_in (place_lines t.totals tap) (place_rows t tap)
  tells_place tap so =
      tells_more (flow_line tap (codes "in") (t.totals.came tap)) (flow_line tap (codes "out") (t.totals.left tap))
      (Arrival tap (t.totals.came tap) ∷ []) (Left tap (t.totals.left tap) ∷ []) (tells_came tap so) (tells_left tap so)

  tells_places : Tells row_in (places_text t.totals ports) (places_rows ports t)
  tells_places =
      tells_more _ _ _ _
      (tells_each (λ port. IsPlace ports (Port port)) (λ port. place_lines t.totals (Port port)) (λ port. place_rows t (Port port))
      (λ port so. tells_place (Port port) so) (range_with_len 1 ports)
      (all_range (λ port. IsPlace ports (Port port)) 1 ports (λ k from to. (from, omega (arith, to)))))
      (tells_place Underlay tt)

  tells_partial : Tells row_in (partial_line t.totals.partial) (partial_rows t)
  unfolding partial_line
  tells_partial =
      let count = t.totals.partial in
      tells_count (codes "checksum partial") Partial count
      (tells_as _ (codes "checksum partial " ++ decimal count) (Partial count) refl
      (lacks_more 10 (codes "checksum partial ") (decimal count) refl (number_word count is.partial).line) (partial_row count is.partial))

  tells_cut : (tap : Tap) → IsPlace ports tap → Tells row_in (cut_line (cut_at t.totals tap)) (Cut tap ∷ [])
  tells_cut tap so =
      let whole = (t.totals.came tap).frames in
      tells_as _ _ (Cut tap) (flat_cut (codes "cut ") (tap_word tap) (decimal whole))
      (lacks_more 10 (codes "cut ") (tap_word tap ++ 32 ∷ decimal whole) refl
      (join (tap_word tap) (decimal whole) (place_word ports tap low so).line (number_word whole (is.came tap).0).line))
      (cut_row tap whole ports low so)

  tells_cuts : Tells row_in (cuts_text t.totals t.cut) (cuts_rows t)
  tells_cuts =
      tells_each (IsPlace ports) (λ tap. cut_line (cut_at t.totals tap)) (λ tap. Cut tap ∷ []) tells_cut t.cut (recursion_from_All (IsPlace ports) t.cut is.cut)

  -- all lines of a summary are read as what they tell
  pub tells_told : Tells row_in (text_of ports t) (rows_told ports t)
  tells_told = tells_more _ _ _ _ (tells_more _ _ _ _ (tells_more _ _ _ _ (tells_more _ _ _ _ tells_segments tells_changes) tells_places) tells_partial) tells_cuts
