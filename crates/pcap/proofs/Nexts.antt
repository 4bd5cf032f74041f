-- What comes next in a text, by the header that stands in front.
use Rattle.std.proofs.Common.{◌≡◌, ◌∙◌, refl, sym, ap, ℕ, ◌+◌, ◌<◌, ◌≤◌, Bool, true, false, List, [], ◌∷◌, length, take, drop, arith, Option, Some, None, Result, Ok, Err}
use Rattle.std.specs.Prelude.{◌==◌, nat_lt, nat_le, if◌then◌else◌}
use Rattle.std.proofs.lemmas.Bool.{cond-false, cond-true, le-ltb, lt-ltb, ne_eqb}
use Rattle.pcap.specs.Next.{End, Whole, Cut, Faulty, Another, Ends, ending, first_row, next_of, next_unless, readable, record_by, behind_by, unless_faulty}
use Rattle.pcap.specs.Record.{Record, longest}
use Rattle.pcap.specs.RecordText.{moment_of, record_header_in}
use Rattle.pcap.specs.Style.{fractions_of}
use Rattle.pcap.specs.declared.text.record.RecordFault.{RecordFault}
use Rattle.pcap.specs.declared.text.record.RecordFault.TheVariants.{TooLarge, BadFraction}
use Rattle.pcap.specs.declared.text.record.RecordHeader.{RecordHeader}
use Rattle.pcap.specs.declared.text.style.Style.{Style}

abbrev faults_in : Bool → Bool → RecordHeader → Result RecordHeader RecordFault
faults_in c d h = unless_faulty (first_row ((TooLarge, c) ∷ (BadFraction, d) ∷ [])) h

abbrev first_in : Bool → Bool → Bool → Bool → Bool → Option End
first_in a b c d e = first_row ((Whole, a) ∷ (Cut, b) ∷ (Faulty TooLarge, c) ∷ (Faulty BadFraction, d) ∷ (Cut, e) ∷ [])

faulty_first : (a b c d e : Bool) (h : RecordHeader) (fault : RecordFault) → a ≡ false → b ≡ false → faults_in c d h ≡ Err fault → first_in a b c d e ≡ Some (Faulty fault)
faulty_first true b c d e h fault p q is = absurd cc
faulty_first false true c d e h fault p q is = absurd cc
faulty_first false false true d e h fault p q is = cc
faulty_first false false false true e h fault p q is = cc
faulty_first false false false false e h fault p q is = absurd cc

whole_first : (a b c d e : Bool) (h header : RecordHeader) → a ≡ false → b ≡ false → faults_in c d h ≡ Ok header → (h ≡ header) × (first_in a b c d e ≡ if e then Some Cut else None)
whole_first true b c d e h header p q is = absurd cc
whole_first false true c d e h header p q is = absurd cc
whole_first false false true d e h header p q is = absurd cc
whole_first false false false true e h header p q is = absurd cc
whole_first false false false false true h header p q is = (cc, refl)
whole_first false false false false false h header p q is = (cc, refl)

-- fewer octets than a header are nothing, or a cut rest
pub next_of-short : (style : Style) (text : List ℕ) → length text < 16 → next_of style text ≡ Ends (if length text == 0 then Whole else Cut)
unfolding next_of
next_of-short style text short =
    let header = record_header_in style.order text in
    by_size (length text == 0) (nat_lt (length text) 16) (nat_lt longest header.captured) (nat_le (fractions_of style.precision) header.fraction)
    (nat_lt (length text) (16 + header.captured)) (lt-ltb _ _ short)
  where
    by_size : (a b c d e : Bool) → b ≡ true
        → next_unless (first_in a b c d e) (record_by style (record_header_in style.order text) text) (behind_by (record_header_in style.order text) text)
        ≡ Ends (if a then Whole else Cut)
    by_size true b c d e is = refl
    by_size false true c d e is = refl
    by_size false false c d e is = absurd cc

-- a header with a fault ends the records
pub next_of-faulty : (style : Style) (text : List ℕ) (fault : RecordFault) → 16 ≤ length text → readable style (record_header_in style.order text) ≡ Err fault
    → next_of style text ≡ Ends (Faulty fault)
unfolding next_of readable
next_of-faulty style text fault long is =
    let h = record_header_in style.order text in
    let found : ending style text ≡ Some (Faulty fault) =
    faulty_first (length text == 0) (nat_lt (length text) 16) (nat_lt longest h.captured) (nat_le (fractions_of style.precision) h.fraction)
    (nat_lt (length text) (16 + h.captured)) h fault (ne_eqb _ 0 (λ e. omega arith)) (le-ltb _ _ long) is in
    ap (λ end. next_unless end (record_by style h text) (behind_by h text)) found

-- behind a header without one it is the text's length that decides: fewer octets than captured are a cut rest
by_length : (style : Style) (text : List ℕ) (header : RecordHeader) → 16 ≤ length text → readable style (record_header_in style.order text) ≡ Ok header
    → next_of style text ≡ if nat_lt (length text) (16 + header.captured) then Ends Cut else Another (record_by style header text) (behind_by header text)
unfolding next_of readable
by_length style text header long is =
    let h = record_header_in style.order text in
    let found = whole_first (length text == 0) (nat_lt (length text) 16) (nat_lt longest h.captured) (nat_le (fractions_of style.precision) h.fraction)
    (nat_lt (length text) (16 + h.captured)) h header (ne_eqb _ 0 (λ e. omega arith)) (le-ltb _ _ long) is in
    next_where _ _ _ _ found.1
    ∙ ap (λ k. if nat_lt (length text) (16 + k.captured) then Ends Cut else Another (record_by style k text) (behind_by k text)) found.0
  where
    next_where : (cut : Bool) (end : Option End) (r : Record) (rest : List ℕ) → end ≡ (if cut then Some Cut else None)
        → next_unless end r rest ≡ if cut then Ends Cut else Another r rest
    next_where true end r rest e = ap (λ end. next_unless end r rest) e
    next_where false end r rest e = ap (λ end. next_unless end r rest) e

pub next_of-cut : (style : Style) (text : List ℕ) (header : RecordHeader) → 16 ≤ length text → readable style (record_header_in style.order text) ≡ Ok header
    → length text < 16 + header.captured → next_of style text ≡ Ends Cut
next_of-cut style text header long is short = by_length style text header long is ∙ cond-true _ _ _ (lt-ltb _ _ short)

-- and otherwise the record stands there
pub next_of-another : (style : Style) (text : List ℕ) (header : RecordHeader) → 16 ≤ length text → readable style (record_header_in style.order text) ≡ Ok header
    → 16 + header.captured ≤ length text → next_of style text ≡ Another (record_by style header text) (behind_by header text)
next_of-another style text header long is fits = by_length style text header long is ∙ cond-false _ _ _ (le-ltb _ _ fits)

-- a record that has the parts that stand there, with what is behind it, is what comes next
pub next_of-found : (style : Style) (text : List ℕ) (header : RecordHeader) (moment original : ℕ) (octets rest : List ℕ) → 16 ≤ length text
    → readable style (record_header_in style.order text) ≡ Ok header → 16 + header.captured ≤ length text
    → moment ≡ moment_of style.precision header → original ≡ header.original → octets ≡ take header.captured (drop 16 text) → rest ≡ drop (16 + header.captured) text
    → Another (record { moment = moment; original = original; octets = octets }) rest ≡ next_of style text
next_of-found style text header moment original octets rest long is fits m o s r =
    parts _ _ _ _ _ _ _ _ m o s r ∙ sym (next_of-another style text header long is fits)
  where
    parts : (m n o k : ℕ) (s t rest more : List ℕ) → m ≡ n → o ≡ k → s ≡ t → rest ≡ more
        → Another (record { moment = m; original = o; octets = s }) rest ≡ Another (record { moment = n; original = k; octets = t }) more
    parts m n o k s t rest more a b c d = cc
