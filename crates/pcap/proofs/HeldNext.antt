-- A next record that was read ahead whole takes no read.
use Rattle.std.proofs.Common.{◌≡◌, ◌∙◌, true, false, refl, sym, ap, ℕ, ◌+◌, ◌<◌, ◌≤◌, Bool, List, length, take, drop, arith, length-take, length-drop, Ok}
use Rattle.std.specs.Prelude.{nat_lt}
use Rattle.std.proofs.lemmas.Bool.{ltb-true, ltb-false}
use Rattle.std.proofs.lemmas.List.{take-append-drop}
use Rattle.pcap.specs.Next.{next_of, readable}
use Rattle.pcap.specs.RecordText.{record_header_in}
use Rattle.pcap.specs.declared.text.record.RecordHeader.{RecordHeader}
use Rattle.pcap.specs.declared.text.style.Style.{Style}
use Rattle.pcap.proofs.Fronts.{record_header_in-front}
use Rattle.pcap.proofs.Nexts.{next_of-cut, next_of-short}
use Rattle.pcap.specs.Source.{is_another}

-- a whole header stands there
pub another_long : (style : Style) (text : List ℕ) → is_another (next_of style text) ≡ true → 16 ≤ length text
another_long style text is = by (nat_lt (length text) 16) refl
  where
    by : (b : Bool) → nat_lt (length text) 16 ≡ b → 16 ≤ length text
    by true short = let never : false ≡ true = sym (ap is_another (next_of-short style text (ltb-true _ _ short))) ∙ is in absurd cc
    by false long = omega (arith, ltb-false _ _ long)

-- and behind it its octets
pub another_whole : (style : Style) (text front : List ℕ) (header : RecordHeader) → is_another (next_of style text) ≡ true → front ≡ take 16 text
    → Ok header ≡ readable style (record_header_in style.order front) → header.captured ≤ length (drop 16 text)
another_whole style text front header is front_is readable_is = by (nat_lt (length text) (16 + header.captured)) refl
  where
    long : 16 ≤ length text
    long = another_long style text is

    same : record_header_in style.order text ≡ record_header_in style.order (take 16 text)
    same =
        ap (record_header_in style.order) (sym (take-append-drop 16 text))
        ∙ record_header_in-front style.order (take 16 text) (drop 16 text) (omega (arith, length-take 16 text, long))

    header_is : readable style (record_header_in style.order text) ≡ Ok header
    header_is = ap (readable style) (same ∙ ap (record_header_in style.order) (sym front_is)) ∙ sym readable_is

    by : (b : Bool) → nat_lt (length text) (16 + header.captured) ≡ b → header.captured ≤ length (drop 16 text)
    by true short = let never : false ≡ true = sym (ap is_another (next_of-cut style text header long header_is (ltb-true _ _ short))) ∙ is in absurd cc
    by false fits = omega (arith, length-drop 16 text, ltb-false _ _ fits)

-- where its octets lack, no record was read ahead whole
pub another_lacks : (style : Style) (text front left : List ℕ) (header : RecordHeader) → (16 ≤ length text → (front ≡ take 16 text) × (left ≡ drop 16 text))
    → Ok header ≡ readable style (record_header_in style.order front) → length left < header.captured → is_another (next_of style text) ≡ false
another_lacks style text front left header there readable_is short = by (is_another (next_of style text)) refl
  where
    by : (b : Bool) → is_another (next_of style text) ≡ b → is_another (next_of style text) ≡ false
    by false is = is
    by true is =
        let at = there (another_long style text is) in
        let whole = another_whole style text front header is at.0 readable_is in
        absurd (omega (arith, short, ap length at.1, whole))
