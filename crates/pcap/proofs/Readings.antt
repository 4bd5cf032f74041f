-- The records of a text, by what comes next in it.
use Rattle.std.proofs.Common.{◌≡◌, refl, ap, ℕ, ◌+◌, ◌<◌, ◌≤◌, Bool, true, false, List, [], ◌∷◌, length, arith, length-drop, Option, Some, None}
use Rattle.std.specs.Prelude.{◌==◌, nat_lt, nat_le}
use Rattle.std.proofs.lemmas.Bool.{ltb-false, leb-false}
use Rattle.pcap.proofs.Bounded.{one_step}
use Rattle.pcap.specs.Next.{End, Next, Another, Ends, ending, endings, first_row, next_of, next_unless, record_by, behind_by}
use Rattle.pcap.specs.Record.{longest}
use Rattle.pcap.specs.Reading.{first_records, Reading, reading_by, records, whole, with_record}
use Rattle.pcap.specs.RecordText.{record_header_in}
use Rattle.pcap.specs.Style.{fractions_of}
use Rattle.pcap.specs.declared.text.record.RecordHeader.{RecordHeader}
use Rattle.pcap.specs.declared.text.style.Style.{Style}

-- where no check ends the records, each of them failed
pub record IsWhole (style : Style) (header : RecordHeader) (size : ℕ) : Type 0 where
  pub long : 16 ≤ size
  pub small : header.captured ≤ longest
  pub fraction : header.fraction < fractions_of style.precision
  pub room : 16 + header.captured ≤ size

none_holds : (a b c d e : Bool) (v w x y z : End) → first_row ((v, a) ∷ (w, b) ∷ (x, c) ∷ (y, d) ∷ (z, e) ∷ []) ≡ None → (b ≡ false) × (c ≡ false) × (d ≡ false) × (e ≡ false)
none_holds true b c d e v w x y z h = absurd cc
none_holds false true c d e v w x y z h = absurd cc
none_holds false false true d e v w x y z h = absurd cc
none_holds false false false true e v w x y z h = absurd cc
none_holds false false false false true v w x y z h = absurd cc
none_holds false false false false false v w x y z h = (refl, refl, refl, refl)

pub IsWhole-from : (style : Style) (header : RecordHeader) (size : ℕ) → first_row (endings style header size) ≡ None → IsWhole style header size
IsWhole-from style header size h =
    let none = none_holds (size == 0) (nat_lt size 16) (nat_lt longest header.captured) (nat_le (fractions_of style.precision) header.fraction) (nat_lt size (16 + header.captured)) _ _ _ _ _ h in
    record {
      long = ltb-false _ _ none.0;
      small = ltb-false _ _ none.1;
      fraction = leb-false _ _ none.2;
      room = ltb-false _ _ none.3;
    }

-- what is left behind a record is shorter by its header at least
abbrev IsLeftShorter : ℕ → Next → Type 0
IsLeftShorter n (Another r rest) = 16 + length rest ≤ n
IsLeftShorter n (Ends end) = Unit {0}

next_of-shorter : (style : Style) (text : List ℕ) → IsLeftShorter (length text) (next_of style text)
unfolding next_of
next_of-shorter style text = by_ending (ending style text) refl
  where
    header : RecordHeader
    header = record_header_in style.order text

    by_ending : (found : Option End) → ending style text ≡ found → IsLeftShorter (length text) (next_unless found (record_by style header text) (behind_by header text))
    by_ending (Some end) is = tt
    by_ending None is =
        let fits = IsWhole-from style header (length text) is in
        omega (arith, fits.room, length-drop (16 + header.captured) text)

same_reading : (f g : List ℕ → Reading) (next : Next) (n : ℕ) → IsLeftShorter n next → ((rest : List ℕ) → 16 + length rest ≤ n → f rest ≡ g rest) → reading_by f next ≡ reading_by g next
same_reading f g (Another r rest) n shorter same = ap (with_record r) (same rest shorter)
same_reading f g (Ends end) n shorter same = refl

-- the records of a text are what comes next and the records behind it
pub records-next : (style : Style) (text : List ℕ) → records style text ≡ reading_by (records style) (next_of style text)
unfolding records first_records
records-next style text =
    one_step length (λ n. first_records n style) (λ more text. reading_by more (next_of style text)) (λ n text. refl)
    (λ f g text same. same_reading f g (next_of style text) (length text) (next_of-shorter style text) (λ rest shorter. same rest (omega (arith, shorter)))) text

-- an empty text has none
pub records-nothing : (style : Style) → records style [] ≡ whole []
unfolding records first_records next_of
records-nothing style = refl
