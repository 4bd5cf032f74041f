-- A capture is read as what its text is.
use Rattle.std.proofs.Common.{◌≡◌, ◌∙◌, refl, sym, ap, subst, ℕ, ◌+◌, ◌*◌, ◌^◌, ◌<◌, ◌≤◌, Bool, true, false, List, [], ◌∷◌, ◌++◌, length, take, drop, arith, append_assoc, length-append, length-drop, length-take, Option, Some, None, Result, Ok, Err}
use Rattle.std.specs.List.{AllByRecursion, find}
use Rattle.std.specs.Prelude.{◌==◌, ◌&&◌, nat_lt, if◌then◌else◌}
use Rattle.std.proofs.lemmas.Bool.{le-ltb, ltb-false, eqb-true}
use Rattle.std.proofs.lemmas.List.{drop_at, drop-drop, take-append-drop}
use Rattle.pcap.proofs.Grammar.{records-found, records-is}
use Rattle.pcap.proofs.Headers.{four_from, length-record_header_text, number_behind, two_from}
use Rattle.wire.specs.Octets.{IsText}
use Rattle.wire.proofs.OctetsLemmas.{IsText-drop}
use Rattle.pcap.proofs.Numbers.{length-octets_of}
use Rattle.pcap.specs.Capture.{IsCapture, opened, opened_by}
use Rattle.pcap.specs.Header.{ethernet, header_in, header_text, is_version_2_4, style_by, style_by_magic, style_of}
use Rattle.pcap.specs.Record.{IsWithinLimits, Record}
use Rattle.pcap.specs.Reading.{AreRecordTexts, Reading, records}
use Rattle.pcap.specs.RecordText.{IsRecordText, moment_of, record_header_text}
use Rattle.pcap.specs.Style.{fractions_of, magic_of, number_of, octets_of, styles}
use Rattle.pcap.specs.declared.text.header.CaptureFault.{CaptureFault}
use Rattle.pcap.specs.declared.text.header.CaptureFault.TheVariants.{NotPcap, BadLink}
use Rattle.pcap.specs.declared.text.record.RecordHeader.{RecordHeader}
use Rattle.pcap.specs.declared.text.style.Order.{Order}
use Rattle.pcap.specs.declared.text.style.Order.TheVariants.{Big, Little}
use Rattle.pcap.specs.declared.text.style.Precision.{Precision}
use Rattle.pcap.specs.declared.text.style.Precision.TheVariants.{Micro, Nano}
use Rattle.pcap.specs.declared.text.style.Style.{Style}

-- ---- the magic number

magic_in_front : (order : Order) (precision : Precision) (rest : List ℕ) → style_by_magic (octets_of order 4 (magic_of precision) ++ rest) ≡ Some (record { order = order; precision = precision })
unfolding style_by_magic
magic_in_front Big Micro rest = refl
magic_in_front Big Nano rest = refl
magic_in_front Little Micro rest = refl
magic_in_front Little Nano rest = refl

some_is : {X : Type 0} (x y : X) → Some x ≡ Some y → x ≡ y
some_is x y e = cc

find_holds : {X : Type 0} (p : X → Bool) (xs : List X) (x : X) → find p xs ≡ Some x → p x ≡ true
find_holds p [] x e = absurd cc
find_holds {X} p (y ∷ ys) x e = by_test (p y) refl (find_holds p ys x)
  where
    by_test : (b : Bool) → p y ≡ b → (find p ys ≡ Some x → p x ≡ true) → p x ≡ true
    by_test true h more = let found : y ≡ x = some_is y x (rw h at e) in subst (λ z. p z ≡ true) found h
    by_test false h more = more (rw h at e)

style_by_magic-is : (text : List ℕ) (style : Style) → style_by_magic text ≡ Some style → number_of style.order 4 text ≡ magic_of style.precision
unfolding style_by_magic
style_by_magic-is text style e = eqb-true _ _ (find_holds (λ s. number_of s.order 4 text == magic_of s.precision) styles style e)

-- ---- the global header

-- what the header in front of a text says
pub record HasHeader (style : Style) (link : ℕ) (text behind : List ℕ) : Type 0 where
  pub magic : style_by_magic text ≡ Some style
  pub header : header_in style.order text ≡ record { major = 2; minor = 4; link = link }
  pub long : length text ≡ 24 + length behind
  pub rest : drop 24 text ≡ behind

HasHeader-from : (style : Style) (ignored : List ℕ) (link : ℕ) (behind : List ℕ) → length ignored ≡ 12 → link < 2 ^ 32
    → HasHeader style link (header_text style ignored link ++ behind) behind
unfolding header_in
HasHeader-from style ignored link behind twelve fits =
    let o = style.order in
    let a = octets_of o 4 (magic_of style.precision) in
    let b = octets_of o 2 2 in
    let c = octets_of o 2 4 in
    let d = octets_of o 4 link in
    let text = header_text style ignored link ++ behind in
    let la = length-octets_of o 4 (magic_of style.precision) in
    let lb = length-octets_of o 2 2 in
    let lc = length-octets_of o 2 4 in
    let ld = length-octets_of o 4 link in
    let flat0 : text ≡ a ++ (b ++ (c ++ (ignored ++ (d ++ behind)))) = simp append_assoc in
    let flat1 : text ≡ (a ++ b) ++ (c ++ (ignored ++ (d ++ behind))) = simp append_assoc in
    let flat2 : text ≡ ((a ++ b) ++ (c ++ ignored)) ++ (d ++ behind) = simp append_assoc in
    let flat3 : text ≡ (((a ++ b) ++ (c ++ ignored)) ++ d) ++ behind = simp append_assoc in
    let l1 : length (a ++ b) ≡ 6 = omega (arith, length-append a b) in
    let l2 : length ((a ++ b) ++ (c ++ ignored)) ≡ 20 = omega (arith, length-append (a ++ b) (c ++ ignored), length-append c ignored) in
    let l3 : length (((a ++ b) ++ (c ++ ignored)) ++ d) ≡ 24 = omega (arith, length-append ((a ++ b) ++ (c ++ ignored)) d) in
    let p1 : number_of o 2 (drop 4 text) ≡ 2 = ap (λ t. number_of o 2 (drop 4 t)) flat0 ∙ number_behind o a (c ++ (ignored ++ (d ++ behind))) 4 2 2 la (omega arith) in
    let p2 : number_of o 2 (drop 6 text) ≡ 4 = ap (λ t. number_of o 2 (drop 6 t)) flat1 ∙ number_behind o (a ++ b) (ignored ++ (d ++ behind)) 6 2 4 l1 (omega arith) in
    let p3 : number_of o 4 (drop 20 text) ≡ link = ap (λ t. number_of o 4 (drop 20 t)) flat2 ∙ number_behind o ((a ++ b) ++ (c ++ ignored)) behind 20 4 link l2 fits in
    record {
      magic = ap style_by_magic flat0 ∙ magic_in_front o style.precision (b ++ (c ++ (ignored ++ (d ++ behind))));
      header = rw (p1, p2, p3) refl;
      long = ap length flat3 ∙ omega (arith, length-append (((a ++ b) ++ (c ++ ignored)) ++ d) behind);
      rest = ap (drop 24) flat3 ∙ drop_at (((a ++ b) ++ (c ++ ignored)) ++ d) behind 24 l3;
    }

style_of-is : (style : Style) (text behind : List ℕ) → HasHeader style ethernet text behind → style_of text ≡ Ok style
unfolding style_of
style_of-is style text behind h =
    let long : nat_lt (length text) 24 ≡ false = le-ltb _ _ (omega (arith, h.long)) in
    ap (λ b. if b then Err NotPcap else style_by (style_by_magic text) text) long
    ∙ ap (λ found. style_by found text) h.magic
    ∙ ap (λ header. if is_version_2_4 header then (if header.link == ethernet then Ok style else Err BadLink) else Err NotPcap) h.header

-- the numbers of a capture's header
pub record IsHeader (style : Style) (text : List ℕ) : Type 0 where
  pub long : 24 ≤ length text
  pub magic : number_of style.order 4 text ≡ magic_of style.precision
  pub major : number_of style.order 2 (drop 4 text) ≡ 2
  pub minor : number_of style.order 2 (drop 6 text) ≡ 4
  pub link : number_of style.order 4 (drop 20 text) ≡ ethernet

passed : (a b c : Bool) (s style : Style) → (if a && b then (if c then Ok s else Err BadLink) else Err NotPcap) ≡ Ok style → (a ≡ true) × (b ≡ true) × (c ≡ true) × (s ≡ style)
passed true true true s style e = (refl, refl, refl, cc)
passed true true false s style e = absurd cc
passed true false c s style e = absurd cc
passed false b c s style e = absurd cc

pub style_of-found : (text : List ℕ) (style : Style) → style_of text ≡ Ok style → IsHeader style text
unfolding style_of header_in
style_of-found text style e = by_length (nat_lt (length text) 24) refl e
  where
    by_magic : 24 ≤ length text → (found : Option Style) → style_by_magic text ≡ found → style_by found text ≡ Ok style → IsHeader style text
    by_magic long None is e = absurd cc
    by_magic long (Some s) is e =
        let h = header_in s.order text in
        let p = passed (h.major == 2) (h.minor == 4) (h.link == ethernet) s style e in
        subst (λ z. IsHeader z text) p.3 (record {
          long = long;
          magic = style_by_magic-is text s is;
          major = eqb-true _ _ p.0;
          minor = eqb-true _ _ p.1;
          link = eqb-true _ _ p.2;
        })

    by_length : (b : Bool) → nat_lt (length text) 24 ≡ b → (if b then Err NotPcap else style_by (style_by_magic text) text) ≡ Ok style → IsHeader style text
    by_length true is e = absurd cc
    by_length false is e = by_magic (ltb-false _ _ is) (style_by_magic text) refl e

-- a text is the header that is read from it, and what is behind it
header_text-is : (style : Style) (text : List ℕ) → IsText text → IsHeader style text → text ≡ header_text style (take 12 (drop 8 text)) ethernet ++ drop 24 text
header_text-is style text is_text h =
    let o = style.order in
    let a = octets_of o 4 (magic_of style.precision) in
    let b = octets_of o 2 2 in
    let c = octets_of o 2 4 in
    let ignored = take 12 (drop 8 text) in
    let d = octets_of o 4 ethernet in
    let long = h.long in
    let p0 : text ≡ a ++ drop 4 text = four_from o 0 text is_text (omega arith) ∙ ap (λ n. octets_of o 4 n ++ drop 4 text) h.magic in
    let p1 : drop 4 text ≡ b ++ drop 6 text = two_from o 4 text is_text (omega arith) ∙ ap (λ n. octets_of o 2 n ++ drop 6 text) h.major in
    let p2 : drop 6 text ≡ c ++ drop 8 text = two_from o 6 text is_text (omega arith) ∙ ap (λ n. octets_of o 2 n ++ drop 8 text) h.minor in
    let p3 : drop 8 text ≡ ignored ++ drop 20 text = sym (take-append-drop 12 (drop 8 text)) ∙ ap (λ t. ignored ++ t) (drop-drop 12 8 text) in
    let p4 : drop 20 text ≡ d ++ drop 24 text = four_from o 20 text is_text (omega arith) ∙ ap (λ n. octets_of o 4 n ++ drop 24 text) h.link in
    let flat : a ++ (b ++ (c ++ (ignored ++ (d ++ drop 24 text)))) ≡ header_text style ignored ethernet ++ drop 24 text = simp append_assoc in
    p0 ∙ ap (λ t. a ++ t) p1 ∙ ap (λ t. a ++ (b ++ t)) p2 ∙ ap (λ t. a ++ (b ++ (c ++ t))) p3 ∙ ap (λ t. a ++ (b ++ (c ++ (ignored ++ t)))) p4 ∙ flat

-- ---- a whole capture

-- a capture is opened as what it is
pub opened-is : (text : List ℕ) (reading : Reading) → IsCapture text reading → opened text ≡ Ok reading
opened-is text reading is =
    let h = HasHeader-from is.style is.ignored ethernet is.behind is.ignored_length (omega arith) in
    let header : HasHeader is.style ethernet text is.behind = subst (λ t. HasHeader is.style ethernet t is.behind) (sym is.header) h in
    ap (λ found. opened_by found text) (style_of-is is.style text is.behind header)
    ∙ ap (λ t. Ok (records is.style t)) header.rest
    ∙ ap (λ (r : Reading). Ok r) (records-is is.style is.behind reading is.records)

-- and what is opened is a capture
pub opened-found : (text : List ℕ) (reading : Reading) → IsText text → opened text ≡ Ok reading → IsCapture text reading
opened-found text reading is_text e = by_style (style_of text) refl e
  where
    same_reading : (a b : Reading) → ◌≡◌ {A = Result Reading CaptureFault} (Ok a) (Ok b) → a ≡ b
    same_reading a b e = cc

    by_style : (found : Result Style CaptureFault) → style_of text ≡ found → opened_by found text ≡ Ok reading → IsCapture text reading
    by_style (Err fault) is e = absurd cc
    by_style (Ok style) is e =
        let h = style_of-found text style is in
        let long = h.long in
        subst (IsCapture text) (same_reading _ _ e) (record {
          style = style;
          ignored = take 12 (drop 8 text);
          behind = drop 24 text;
          ignored_length = omega (arith, length-take 12 (drop 8 text), length-drop 8 text);
          header = header_text-is style text is_text h;
          records = records-found style (drop 24 text) (IsText-drop 24 text is_text);
        })

-- ---- what its records keep to

within_limits : (style : Style) (r : Record) (text : List ℕ) → IsRecordText style r text → IsWithinLimits r
within_limits style r text is = record {
  moment = moment style.precision is.header is.seconds_fit is.fraction_fits is.moment;
  original = omega (arith, is.original, is.original_fits);
  length = omega (arith, is.captured, is.captured_fits);
}
  where
    moment : (precision : Precision) (h : RecordHeader) → h.seconds < 2 ^ 32 → h.fraction < fractions_of precision → r.moment ≡ moment_of precision h → r.moment ≤ 4294967295999999999
    moment Micro h seconds fraction is = omega arith
    moment Nano h seconds fraction is = omega arith

all_within : (style : Style) (rs : List Record) (rest text : List ℕ) → AreRecordTexts style rs rest text → AllByRecursion IsWithinLimits rs
all_within style [] rest text is = tt
all_within style (r ∷ rs) rest text is = (within_limits style r is.0 is.2, all_within style rs rest is.1 is.3)

few_in : (style : Style) (rs : List Record) (rest text : List ℕ) → AreRecordTexts style rs rest text → 16 * length rs ≤ length text
few_in style [] rest text is = omega arith
few_in style (r ∷ rs) rest text is =
    let h = is.2 in
    let spelled = record_header_text style.order h.header in
    omega (
      arith,
      few_in style rs rest is.1 is.3,
      ap length is.4,
      length-append is.0 is.1,
      ap length h.whole,
      length-append spelled r.octets,
      length-record_header_text style.order h.header,
    )

pub IsCapture-within : (text : List ℕ) (reading : Reading) → IsCapture text reading → AllByRecursion IsWithinLimits reading.records
IsCapture-within text reading is = all_within is.style reading.records is.records.rest is.behind is.records.records

pub IsCapture-few : (text : List ℕ) (reading : Reading) → IsCapture text reading → 16 * length reading.records ≤ length text
IsCapture-few text reading is =
    omega (
      arith,
      few_in is.style reading.records is.records.rest is.behind is.records.records,
      ap length is.header,
      length-append (header_text is.style is.ignored ethernet) is.behind,
    )
