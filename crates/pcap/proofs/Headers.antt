-- The two headers as texts, and as they are read.
use Rattle.std.proofs.Common.{◌≡◌, ◌∙◌, refl, sym, ap, ℕ, ◌+◌, ◌^◌, ◌<◌, ◌≤◌, List, [], ◌++◌, length, drop, arith, append_assoc, length-append, length-drop}
use Rattle.std.proofs.lemmas.List.{drop_at, drop-drop, take-append-drop}
use Rattle.wire.proofs.OctetsLemmas.{IsText-drop}
use Rattle.pcap.proofs.Numbers.{length-octets_of, number_of-octets_of, octets2-number_of, octets4-number_of}
use Rattle.wire.specs.Octets.{IsText}
use Rattle.pcap.specs.RecordText.{record_header_in, record_header_text}
use Rattle.pcap.specs.Style.{number_of, octets_of}
use Rattle.pcap.specs.declared.text.record.RecordHeader.{RecordHeader}
use Rattle.pcap.specs.declared.text.style.Order.{Order}

-- the number that is spelled behind a front
pub number_behind : (order : Order) (front rest : List ℕ) (at n x : ℕ) → length front ≡ at → x < 256 ^ n → number_of order n (drop at (front ++ (octets_of order n x ++ rest))) ≡ x
number_behind order front rest at n x long fits = ap (number_of order n) (drop_at front (octets_of order n x ++ rest) at long) ∙ number_of-octets_of order n x rest fits

pub length-record_header_text : (order : Order) (h : RecordHeader) → length (record_header_text order h) ≡ 16
length-record_header_text order h =
    let a = octets_of order 4 h.seconds in
    let b = octets_of order 4 h.fraction in
    let c = octets_of order 4 h.captured in
    let d = octets_of order 4 h.original in
    omega (
      arith,
      length-append a (b ++ (c ++ d)),
      length-append b (c ++ d),
      length-append c d,
      length-octets_of order 4 h.seconds,
      length-octets_of order 4 h.fraction,
      length-octets_of order 4 h.captured,
      length-octets_of order 4 h.original,
    )

-- a record's header that is spelled is read
pub record_header_in-text : (order : Order) (h : RecordHeader) (rest : List ℕ) → h.seconds < 2 ^ 32 → h.fraction < 2 ^ 32 → h.captured < 2 ^ 32 → h.original < 2 ^ 32
    → record_header_in order (record_header_text order h ++ rest) ≡ h
unfolding record_header_in
record_header_in-text order h rest hs hf hc ho =
    let a = octets_of order 4 h.seconds in
    let b = octets_of order 4 h.fraction in
    let c = octets_of order 4 h.captured in
    let d = octets_of order 4 h.original in
    let text = record_header_text order h ++ rest in
    let la = length-octets_of order 4 h.seconds in
    let lb = length-octets_of order 4 h.fraction in
    let lc = length-octets_of order 4 h.captured in
    let flat0 : text ≡ [] ++ (a ++ (b ++ (c ++ (d ++ rest)))) = simp append_assoc in
    let flat1 : text ≡ a ++ (b ++ (c ++ (d ++ rest))) = simp append_assoc in
    let flat2 : text ≡ (a ++ b) ++ (c ++ (d ++ rest)) = simp append_assoc in
    let flat3 : text ≡ ((a ++ b) ++ c) ++ (d ++ rest) = simp append_assoc in
    let l2 : length (a ++ b) ≡ 8 = omega (arith, length-append a b) in
    let l3 : length ((a ++ b) ++ c) ≡ 12 = omega (arith, length-append (a ++ b) c) in
    let p0 : number_of order 4 text ≡ h.seconds = ap (number_of order 4) flat0 ∙ number_behind order [] (b ++ (c ++ (d ++ rest))) 0 4 h.seconds refl hs in
    let p1 : number_of order 4 (drop 4 text) ≡ h.fraction = ap (λ t. number_of order 4 (drop 4 t)) flat1 ∙ number_behind order a (c ++ (d ++ rest)) 4 4 h.fraction la hf in
    let p2 : number_of order 4 (drop 8 text) ≡ h.captured = ap (λ t. number_of order 4 (drop 8 t)) flat2 ∙ number_behind order (a ++ b) (d ++ rest) 8 4 h.captured l2 hc in
    let p3 : number_of order 4 (drop 12 text) ≡ h.original = ap (λ t. number_of order 4 (drop 12 t)) flat3 ∙ number_behind order ((a ++ b) ++ c) rest 12 4 h.original l3 ho in
    rw (p0, p1, p2, p3) refl

-- the first four octets from a place on, and what is behind them
pub four_from : (order : Order) (k : ℕ) (text : List ℕ) → IsText text → k + 4 ≤ length text → drop k text ≡ octets_of order 4 (number_of order 4 (drop k text)) ++ drop (k + 4) text
four_from order k text h long =
    sym (take-append-drop 4 (drop k text))
    ∙ ap (λ t. t ++ drop 4 (drop k text)) (sym (octets4-number_of order (drop k text) (IsText-drop k text h) (omega (arith, length-drop k text))))
    ∙ ap (λ t. octets_of order 4 (number_of order 4 (drop k text)) ++ t) (drop-drop 4 k text)

pub two_from : (order : Order) (k : ℕ) (text : List ℕ) → IsText text → k + 2 ≤ length text → drop k text ≡ octets_of order 2 (number_of order 2 (drop k text)) ++ drop (k + 2) text
two_from order k text h long =
    sym (take-append-drop 2 (drop k text))
    ∙ ap (λ t. t ++ drop 2 (drop k text)) (sym (octets2-number_of order (drop k text) (IsText-drop k text h) (omega (arith, length-drop k text))))
    ∙ ap (λ t. octets_of order 2 (number_of order 2 (drop k text)) ++ t) (drop-drop 2 k text)

-- a text is the header that is read from it, and what is behind it
pub record_header_text-in : (order : Order) (text : List ℕ) → IsText text → 16 ≤ length text → text ≡ record_header_text order (record_header_in order text) ++ drop 16 text
unfolding record_header_in
record_header_text-in order text h long =
    let a = octets_of order 4 (number_of order 4 text) in
    let b = octets_of order 4 (number_of order 4 (drop 4 text)) in
    let c = octets_of order 4 (number_of order 4 (drop 8 text)) in
    let d = octets_of order 4 (number_of order 4 (drop 12 text)) in
    let p0 : text ≡ a ++ drop 4 text = four_from order 0 text h (omega arith) in
    let p1 : drop 4 text ≡ b ++ drop 8 text = four_from order 4 text h (omega arith) in
    let p2 : drop 8 text ≡ c ++ drop 12 text = four_from order 8 text h (omega arith) in
    let p3 : drop 12 text ≡ d ++ drop 16 text = four_from order 12 text h (omega arith) in
    let flat : a ++ (b ++ (c ++ (d ++ drop 16 text))) ≡ (a ++ (b ++ (c ++ d))) ++ drop 16 text = simp append_assoc in
    p0 ∙ ap (λ t. a ++ t) p1 ∙ ap (λ t. a ++ (b ++ t)) p2 ∙ ap (λ t. a ++ (b ++ (c ++ t))) p3 ∙ flat
