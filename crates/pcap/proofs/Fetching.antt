-- What reads of a header, and then of a record's octets, say of the text.
use Rattle.std.proofs.Common.{◌≡◌, ◌∙◌, true, refl, sym, ap, ℕ, zero, suc, ◌+◌, ◌<◌, ◌≤◌, List, [], ◌++◌, length, take, drop, arith, append_assoc, append-nil, length-append, Option, None, Some, IfSome, Result, Ok, Err, inl, inr}
use Rattle.std.specs.Prelude.{◌==◌, nat_lt, if◌then◌else◌, unwrap_or}
use Rattle.std.proofs.Math.ListN.{drop_of_length-le}
use Rattle.std.proofs.lemmas.Bool.{cases_lt, lt-ltb, ne_eqb}
use Rattle.std.proofs.lemmas.List.{drop_at, take-append-le, take_all}
use Rattle.std.specs.Io.KnownBytes.{Consumes, IsAtEnd}
use Rattle.pcap.specs.Header.{style_of}
use Rattle.pcap.specs.Next.{End, Whole, Cut, Faulty, Next, Another, Ends, next_of, readable}
use Rattle.pcap.specs.Record.{Record}
use Rattle.pcap.specs.RecordText.{moment_of, record_header_in}
use Rattle.pcap.specs.declared.text.header.CaptureFault.{CaptureFault}
use Rattle.pcap.specs.declared.text.record.RecordFault.{RecordFault}
use Rattle.pcap.specs.declared.text.record.RecordHeader.{RecordHeader}
use Rattle.pcap.specs.declared.text.style.Style.{Style}
use Rattle.pcap.proofs.Nexts.{next_of-cut, next_of-faulty, next_of-found, next_of-short}
use Rattle.pcap.specs.Source.{Ended, Open, ReadsHeader, ReadsNext, Standing, after_header, after_next, left_by_next}
use Rattle.pcap.specs.State.{record_of}
use Rattle.pcap.specs.Supply.{Supply}
use Rattle.pcap.specs.declared.stream.fetch.Fetched.{Fetched}
use Rattle.pcap.proofs.Fronts.{record_header_in-front, style_of-front}

-- ---- the global header

header_octets : (a b : Option (List ℕ)) (octets : List ℕ) → length octets ≤ 24 → Consumes a b octets → (length octets < 24 → IsAtEnd b)
    → IfSome a (λ text. (style_of octets ≡ style_of text) × (b ≡ Some (drop 24 text)))
header_octets None b octets fits taken end = tt
header_octets (Some text) None octets fits taken end = absurd taken
header_octets (Some text) (Some rest) octets fits taken end =
    elim (cases_lt (length octets) 24) [
      | inl short ↦
          let all : text ≡ octets = taken ∙ ap (λ l. octets ++ l) (end short) ∙ append-nil octets in
          let size : length text ≤ 24 = omega (arith, ap length all, fits) in
          (ap style_of (sym all), ap Some (end short ∙ sym (drop_of_length-le text size)))
      | inr full ↦
          let size : length octets ≡ 24 = omega (arith, fits, full) in
          (sym (ap style_of taken ∙ style_of-front octets rest size), ap Some (sym (ap (drop 24) taken ∙ drop_at octets rest 24 size)))
    ]

pub reads_header : (old new : Supply) (octets : List ℕ) (header : Result Style CaptureFault) (standing : Standing) → length octets ≤ 24
    → Consumes old.rest new.rest octets → (length octets < 24 → IsAtEnd new.rest) → header ≡ style_of octets → standing ≡ after_header header
    → new.failures ≡ old.failures → ReadsHeader old new standing
reads_header old new octets header standing fits taken end is standing_is quiet = record {
  header = header;
  standing_is = standing_is;
  octets = by_text old.rest new.rest (header_octets old.rest new.rest octets fits taken end);
  quiet = quiet;
}
  where
    by_text : (a b : Option (List ℕ)) → IfSome a (λ text. (style_of octets ≡ style_of text) × (b ≡ Some (drop 24 text)))
        → IfSome a (λ text. (header ≡ style_of text) × (b ≡ Some (drop 24 text)))
    by_text None b h = tt
    by_text (Some text) b h = (is ∙ h.0, h.1)

-- ---- what comes next

abbrev Finds : Style → Option (List ℕ) → Option (List ℕ) → Next → Type 0
Finds style a b next = IfSome a (λ text. (next ≡ next_of style text) × (b ≡ Some (left_by_next text next)))

reads_next : (style : Style) (old new : Supply) (standing : Standing) (next : Next) → standing ≡ after_next style next → Finds style old.rest new.rest next
    → new.failures ≡ old.failures → ReadsNext style old new standing
reads_next style old new standing next is found quiet = record { next = next; standing_is = is; octets = found; quiet = quiet }

-- the input ended within a record's header
abbrev short_end : ℕ → End
short_end n = if n == 0 then Whole else Cut

short_standing : (style : Style) (n : ℕ) → Ended (nat_lt 0 n) ≡ after_next style (Ends (short_end n))
short_standing style zero = refl
short_standing style (suc k) = rw (lt-ltb 0 (suc k) (omega arith), ne_eqb (suc k) 0 (λ e. omega arith)) refl

short_octets : (style : Style) (a b : Option (List ℕ)) (octets : List ℕ) (n : ℕ) → n ≡ length octets → n < 16 → Consumes a b octets → IsAtEnd b
    → Finds style a b (Ends (short_end n))
short_octets style None b octets n is short taken end = tt
short_octets style (Some text) None octets n is short taken end = absurd taken
short_octets style (Some text) (Some rest) octets n is short taken end =
    let size : length text ≡ n =
    ap length taken ∙ length-append octets rest ∙ omega (arith, ap length end, is) in
    let next : next_of style text ≡ Ends (short_end n) = next_of-short style text (omega arith) ∙ ap (λ k. Ends (short_end k)) size in
    (sym next, ap Some end ∙ ap Some (left n))
  where
    left : (n : ℕ) → [] ≡ left_by_next text (Ends (short_end n))
    left zero = refl
    left (suc k) = rw (ne_eqb (suc k) 0 (λ e. omega arith)) refl

pub reads_short : (style : Style) (old new : Supply) (octets : List ℕ) (n : ℕ) → n ≡ length octets → n < 16 → Consumes old.rest new.rest octets → IsAtEnd new.rest
    → new.failures ≡ old.failures → ReadsNext style old new (Ended (nat_lt 0 n))
reads_short style old new octets n is short taken end quiet =
    reads_next style old new _ (Ends (short_end n)) (short_standing style n) (short_octets style old.rest new.rest octets n is short taken end) quiet

-- the header has a fault
fault_octets : (style : Style) (a b : Option (List ℕ)) (octets : List ℕ) (fault : RecordFault) → length octets ≡ 16 → Consumes a b octets
    → readable style (record_header_in style.order octets) ≡ Err fault → Finds style a b (Ends (Faulty fault))
fault_octets style None b octets fault long taken is = tt
fault_octets style (Some text) None octets fault long taken is = absurd taken
fault_octets style (Some text) (Some rest) octets fault long taken is =
    let same : record_header_in style.order text ≡ record_header_in style.order octets =
    ap (record_header_in style.order) taken ∙ record_header_in-front style.order octets rest long in
    let size : 16 ≤ length text = omega (arith, ap length taken, length-append octets rest) in
    let next : next_of style text ≡ Ends (Faulty fault) = next_of-faulty style text fault size (ap (readable style) same ∙ is) in
    (sym next, ap Some (sym (ap (drop 16) taken ∙ drop_at octets rest 16 long)))

pub reads_fault : (style : Style) (old new : Supply) (octets : List ℕ) (fault : RecordFault) (standing : Standing) → length octets ≡ 16
    → Consumes old.rest new.rest octets → Err fault ≡ readable style (record_header_in style.order octets) → standing ≡ after_next style (Ends (Faulty fault))
    → new.failures ≡ old.failures → ReadsNext style old new standing
reads_fault style old new octets fault standing long taken is standing_is quiet =
    reads_next style old new standing (Ends (Faulty fault)) standing_is (fault_octets style old.rest new.rest octets fault long taken (sym is)) quiet

-- the input ended within a record's octets
cut_octets : (style : Style) (a b c : Option (List ℕ)) (octets part : List ℕ) (header : RecordHeader) → length octets ≡ 16 → Consumes a b octets
    → readable style (record_header_in style.order octets) ≡ Ok header → Consumes b c part → length part < header.captured → IsAtEnd c
    → Finds style a c (Ends Cut)
cut_octets style None b c octets part header long taken is more short end = tt
cut_octets style (Some text) None c octets part header long taken is more short end = absurd taken
cut_octets style (Some text) (Some rest) None octets part header long taken is more short end = absurd more
cut_octets style (Some text) (Some rest) (Some left) octets part header long taken is more short end =
    let same : record_header_in style.order text ≡ record_header_in style.order octets =
    ap (record_header_in style.order) taken ∙ record_header_in-front style.order octets rest long in
    let behind : length rest ≡ length part = ap length more ∙ length-append part left ∙ omega (arith, ap length end) in
    let all : length text ≡ 16 + length part = omega (arith, ap length taken, length-append octets rest, behind, long) in
    let next : next_of style text ≡ Ends Cut = next_of-cut style text header (omega arith) (ap (readable style) same ∙ is) (omega arith) in
    (sym next, ap Some end)

pub reads_cut : (style : Style) (old mid new : Supply) (octets part : List ℕ) (header : RecordHeader) → length octets ≡ 16
    → Consumes old.rest mid.rest octets → Ok header ≡ readable style (record_header_in style.order octets) → Consumes mid.rest new.rest part
    → length part < header.captured → IsAtEnd new.rest → new.failures ≡ old.failures → ReadsNext style old new (Ended true)
reads_cut style old mid new octets part header long taken is more short end quiet =
    reads_next style old new (Ended true) (Ends Cut) refl
    (cut_octets style old.rest mid.rest new.rest octets part header long taken (sym is) more short end) quiet

-- a whole record
record_octets : (style : Style) (a b c : Option (List ℕ)) (octets part : List ℕ) (header : RecordHeader) (r : Record) → length octets ≡ 16 → Consumes a b octets
    → readable style (record_header_in style.order octets) ≡ Ok header → Consumes b c part → length part ≡ header.captured
    → r.moment ≡ moment_of style.precision header → r.original ≡ header.original → r.octets ≡ part → Finds style a c (Another r (unwrap_or c []))
record_octets style None b c octets part header r long taken is more size m o s = tt
record_octets style (Some text) None c octets part header r long taken is more size m o s = absurd taken
record_octets style (Some text) (Some rest) None octets part header r long taken is more size m o s = absurd more
record_octets style (Some text) (Some rest) (Some left) octets part header r long taken is more size m o s =
    let same : record_header_in style.order text ≡ record_header_in style.order octets =
    ap (record_header_in style.order) taken ∙ record_header_in-front style.order octets rest long in
    let all : text ≡ (octets ++ part) ++ left = taken ∙ ap (λ l. octets ++ l) more ∙ sym (append_assoc octets part left) in
    let front : length (octets ++ part) ≡ 16 + header.captured = omega (arith, length-append octets part) in
    let long_enough : 16 + header.captured ≤ length text = omega (arith, ap length all, length-append (octets ++ part) left) in
    let behind : drop 16 text ≡ part ++ left = ap (drop 16) taken ∙ drop_at octets rest 16 long ∙ more in
    let own : take header.captured (drop 16 text) ≡ part =
    ap (take header.captured) behind ∙ take-append-le header.captured part left (omega arith) ∙ take_all header.captured part (omega arith) in
    let last : drop (16 + header.captured) text ≡ left = ap (drop (16 + header.captured)) all ∙ drop_at (octets ++ part) left (16 + header.captured) front in
    (next_of-found style text header r.moment r.original r.octets left (omega arith) (ap (readable style) same ∙ is) long_enough m o (s ∙ sym own) (sym last), refl)

pub reads_record : (style : Style) (old mid new : Supply) (octets part : List ℕ) (header : RecordHeader) (fetched : Fetched) → length octets ≡ 16
    → Consumes old.rest mid.rest octets → Ok header ≡ readable style (record_header_in style.order octets) → Consumes mid.rest new.rest part
    → length part ≡ header.captured → fetched.moment ≡ moment_of style.precision header → fetched.original ≡ header.original
    → new.failures ≡ old.failures → ReadsNext style old new (Open style (Some (record_of part fetched)))
reads_record style old mid new octets part header fetched long taken is more size m o quiet =
    reads_next style old new _ (Another (record_of part fetched) (unwrap_or new.rest [])) refl
    (record_octets style old.rest mid.rest new.rest octets part header (record_of part fetched) long taken (sym is) more size m o refl) quiet
