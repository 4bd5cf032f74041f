-- A text of records is read as the records and the end that it is, and as no others.
use Rattle.std.proofs.Common.{◌≡◌, ◌∙◌, refl, sym, ap, subst, ℕ, zero, suc, ◌+◌, ◌^◌, ◌<◌, ◌≤◌, false, List, [], ◌∷◌, ◌++◌, length, take, drop, arith, append_assoc, length-append, length-drop, length-take, Option, Some, None}
use Rattle.std.specs.Prelude.{◌==◌, nat_lt, nat_le}
use Rattle.std.proofs.lemmas.Bool.{le-ltb, lt-leb, ne_eqb}
use Rattle.std.proofs.lemmas.List.{drop_at, drop-drop, take-append-drop, take_at}
use Rattle.pcap.proofs.Headers.{length-record_header_text, record_header_in-text, record_header_text-in}
use Rattle.wire.proofs.OctetsLemmas.{IsText-drop}
use Rattle.pcap.proofs.Numbers.{number_of-fits}
use Rattle.pcap.proofs.Readings.{IsWhole, IsWhole-from, records-next}
use Rattle.wire.specs.Octets.{IsText}
use Rattle.pcap.specs.Next.{End, Next, Another, Ends, ending, endings, first_row, next_of, next_unless, record_by, behind_by}
use Rattle.pcap.specs.Record.{Record, longest}
use Rattle.pcap.specs.Reading.{AreRecordTexts, IsReadAs, Reading, reading_by, records, with_record}
use Rattle.pcap.specs.RecordText.{IsRecordText, record_header_in, record_header_text}
use Rattle.pcap.specs.Style.{fractions_of}
use Rattle.pcap.specs.declared.text.record.RecordHeader.{RecordHeader}
use Rattle.pcap.specs.declared.text.style.Precision.{Precision}
use Rattle.pcap.specs.declared.text.style.Precision.TheVariants.{Micro, Nano}
use Rattle.pcap.specs.declared.text.style.Style.{Style}

-- ---- what comes next, by the end

next-none : (style : Style) (text : List ℕ) → ending style text ≡ None
    → next_of style text ≡ Another (record_by style (record_header_in style.order text) text) (behind_by (record_header_in style.order text) text)
unfolding next_of
next-none style text is =
    let header = record_header_in style.order text in
    ap (λ found. next_unless found (record_by style header text) (behind_by header text)) is

pub next-ends : (style : Style) (text : List ℕ) (end : End) → ending style text ≡ Some end → next_of style text ≡ Ends end
unfolding next_of
next-ends style text end is =
    let header = record_header_in style.order text in
    ap (λ found. next_unless found (record_by style header text) (behind_by header text)) is

none-IsWhole : (style : Style) (header : RecordHeader) (size : ℕ) → IsWhole style header size → first_row (endings style header size) ≡ None
none-IsWhole style header size h =
    let a : (size == 0) ≡ false = ne_eqb size 0 (λ e. omega (arith, h.long)) in
    let b : nat_lt size 16 ≡ false = le-ltb _ _ h.long in
    let c : nat_lt longest header.captured ≡ false = le-ltb _ _ h.small in
    let d : nat_le (fractions_of style.precision) header.fraction ≡ false = lt-leb _ _ h.fraction in
    let e : nat_lt size (16 + header.captured) ≡ false = le-ltb _ _ h.room in
    rw (a, b, c, d, e) refl

-- ---- a record's text in front is the next record

fractions_fit : (precision : Precision) → fractions_of precision ≤ 1000000000
fractions_fit Micro = omega arith
fractions_fit Nano = omega arith

another : (m n o k : ℕ) (s t rest more : List ℕ) → m ≡ n → o ≡ k → s ≡ t → rest ≡ more
    → Another (record { moment = m; original = o; octets = s }) rest ≡ Another (record { moment = n; original = k; octets = t }) more
another m n o k s t rest more a b c d = cc

pub next-record : (style : Style) (r : Record) (front behind : List ℕ) → IsRecordText style r front → next_of style (front ++ behind) ≡ Another r behind
next-record style r front behind is =
    let h = is.header in
    let text = front ++ behind in
    let spelled = record_header_text style.order h in
    let body = r.octets ++ behind in
    let whole : text ≡ spelled ++ body = ap (λ t. t ++ behind) is.whole ∙ append_assoc spelled r.octets behind in
    let small : h.fraction < 2 ^ 32 = omega (arith, is.fraction_fits, fractions_fit style.precision) in
    let short : h.captured < 2 ^ 32 = omega (arith, is.captured_fits) in
    let header : record_header_in style.order text ≡ h =
    ap (record_header_in style.order) whole ∙ record_header_in-text style.order h body is.seconds_fit small short is.original_fits in
    let sixteen : length spelled ≡ 16 = length-record_header_text style.order h in
    let size : length text ≡ 16 + (h.captured + length behind) =
    ap length whole ∙ omega (arith, length-append spelled body, length-append r.octets behind, is.captured) in
    let fits : IsWhole style h (length text) = record { long = omega arith; small = is.captured_fits; fraction = is.fraction_fits; room = omega arith } in
    let none : ending style text ≡ None = rw header (none-IsWhole style h (length text) fits) in
    let behind_header : drop 16 text ≡ body = ap (drop 16) whole ∙ drop_at spelled body 16 sixteen in
    let octets : take h.captured (drop 16 text) ≡ r.octets = ap (take h.captured) behind_header ∙ take_at r.octets behind h.captured is.captured in
    let rest : drop (16 + h.captured) text ≡ behind =
    sym (drop-drop h.captured 16 text) ∙ ap (drop h.captured) behind_header ∙ drop_at r.octets behind h.captured is.captured in
    next-none style text none
    ∙ ap (λ k. Another (record_by style k text) (behind_by k text)) header
    ∙ another _ _ _ _ _ _ _ _ (sym is.moment) (sym is.original) octets rest

-- ---- the next record is a record's text in front

pub record IsNextRecord (style : Style) (text : List ℕ) (r : Record) (rest : List ℕ) : Type 0 where
  pub front : List ℕ
  pub is_record : IsRecordText style r front
  pub whole : text ≡ front ++ rest

another_is : (r q : Record) (rest more : List ℕ) → Another r rest ≡ Another q more → (r ≡ q) × (rest ≡ more)
another_is r q rest more e = (cc, cc)

header_fits : (style : Style) (text : List ℕ) → IsText text → ((record_header_in style.order text).seconds < 2 ^ 32) × ((record_header_in style.order text).original < 2 ^ 32)
unfolding record_header_in
header_fits style text h = (number_of-fits style.order 4 text h, number_of-fits style.order 4 (drop 12 text) (IsText-drop 12 text h))

found_by : (style : Style) (text : List ℕ) → IsText text → (found : Option End) → ending style text ≡ found → (r : Record) (rest : List ℕ) → next_of style text ≡ Another r rest → IsNextRecord style text r rest
found_by style text is_text (Some end) is r rest next = let e = next-ends style text end is in absurd cc
found_by style text is_text None is r rest next =
    let h = record_header_in style.order text in
    let spelled = record_header_text style.order h in
    let fits = IsWhole-from style h (length text) is in
    let octets = take h.captured (drop 16 text) in
    let e = another_is _ _ _ _ (sym (next-none style text is) ∙ next) in
    let captured : length octets ≡ h.captured = omega (arith, length-take h.captured (drop 16 text), length-drop 16 text, fits.room) in
    let whole : text ≡ (spelled ++ octets) ++ behind_by h text =
    record_header_text-in style.order text is_text fits.long
    ∙ ap (λ t. spelled ++ t) (sym (take-append-drop h.captured (drop 16 text)) ∙ ap (λ t. octets ++ t) (drop-drop h.captured 16 text))
    ∙ sym (append_assoc spelled octets (behind_by h text)) in
    let numbers = header_fits style text is_text in
    let is_record : IsRecordText style (record_by style h text) (spelled ++ octets) = record {
      header = h;
      seconds_fit = numbers.0;
      fraction_fits = fits.fraction;
      captured_fits = fits.small;
      original_fits = numbers.1;
      moment = refl;
      captured = captured;
      original = refl;
      whole = refl;
    } in
    let here : IsNextRecord style text (record_by style h text) (behind_by h text) = record { front = spelled ++ octets; is_record = is_record; whole = whole } in
    subst (λ behind. IsNextRecord style text r behind) e.1 (subst (λ found. IsNextRecord style text found (behind_by h text)) e.0 here)

pub next-found : (style : Style) (text : List ℕ) → IsText text → (r : Record) (rest : List ℕ) → next_of style text ≡ Another r rest → IsNextRecord style text r rest
next-found style text is_text r rest next = found_by style text is_text (ending style text) refl r rest next

pub ends-found : (style : Style) (text : List ℕ) (end : End) → next_of style text ≡ Ends end → ending style text ≡ Some end
ends-found style text end next = by_ending (ending style text) refl
  where
    by_ending : (found : Option End) → ending style text ≡ found → found ≡ Some end
    by_ending (Some e) is = let f = next-ends style text e is in cc
    by_ending None is = let f = next-none style text is in absurd cc

-- ---- all records

-- a reading of a text is the one that the definition by steps gives
pub records-only : (style : Style) (rs : List Record) (end : End) (rest text : List ℕ) → AreRecordTexts style rs rest text → ending style rest ≡ Some end
    → records style text ≡ record { records = rs; end = end }
records-only style [] end rest text is ends = records-next style text ∙ ap (reading_by (records style)) (ap (next_of style) is ∙ next-ends style rest end ends)
records-only style (r ∷ rs) end rest text is ends =
    records-next style text
    ∙ ap (reading_by (records style)) (ap (next_of style) is.4 ∙ next-record style r is.0 is.1 is.2)
    ∙ ap (with_record r) (records-only style rs end rest is.1 is.3 ends)

pub records-is : (style : Style) (text : List ℕ) (reading : Reading) → IsReadAs style text reading → records style text ≡ reading
records-is style text reading is = records-only style reading.records reading.end is.rest text is.records is.end

-- and each text has it
found_in : (n : ℕ) (style : Style) (text : List ℕ) → IsText text → length text < n → IsReadAs style text (records style text)
found_in zero style text is_text bound = absurd (omega arith)
found_in (suc n) style text is_text bound =
    by_next (λ rest is shorter. found_in n style rest is shorter) (next_of style text) refl
  where
    by_next : ((rest : List ℕ) → IsText rest → length rest < n → IsReadAs style rest (records style rest)) → (next : Next) → next_of style text ≡ next → IsReadAs style text (records style text)
    by_next more (Ends end) is =
        subst (IsReadAs style text) (sym (records-next style text ∙ ap (reading_by (records style)) is))
        (record { rest = text; records = refl; end = ends-found style text end is })
    by_next more (Another r rest) is =
        let next = next-found style text is_text r rest is in
        let text_behind : IsText rest = IsText-behind next.front rest text is_text next.whole in
        let long : 16 ≤ length next.front =
        omega (
          arith,
          ap length next.is_record.whole,
          length-append (record_header_text style.order next.is_record.header) r.octets,
          length-record_header_text style.order next.is_record.header,
        ) in
        let later = more rest text_behind (omega (arith, ap length next.whole, length-append next.front rest)) in
        subst (IsReadAs style text) (sym (records-next style text ∙ ap (reading_by (records style)) is))
        (record { rest = later.rest; records = (next.front, rest, next.is_record, later.records, next.whole); end = later.end })
      where
        IsText-behind : (front rest text : List ℕ) → IsText text → text ≡ front ++ rest → IsText rest
        IsText-behind front rest text h e =
            subst IsText (ap (drop (length front)) e ∙ drop_at front rest (length front) refl) (IsText-drop (length front) text h)

pub records-found : (style : Style) (text : List ℕ) → IsText text → IsReadAs style text (records style text)
records-found style text is_text = found_in (suc (length text)) style text is_text (omega arith)
