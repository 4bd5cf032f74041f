-- What the next call of a source gives where a run wrote what it has left.
use Rattle.std.proofs.Common.{◌≡◌, ◌∙◌, refl, ap, subst, ℕ, ◌/◌, ◌%◌, List, [], ◌++◌, length, drop, arith, Option, Some, None, IfSome, Bool, true, false, Result, Ok, Err, IsErr, MatchBool}
use Rattle.pcap.specs.Header.{header_in, style_by_magic, style_of}
use Rattle.pcap.specs.Next.{Whole, Next, Another, Ends, next_of}
use Rattle.pcap.specs.Record.{Record}
use Rattle.pcap.specs.RecordText.{IsRecordText}
use Rattle.pcap.specs.Written.{whole_frame, written_header, written_record, written_style}
use Rattle.pcap.specs.declared.text.header.CaptureFault.{CaptureFault}
use Rattle.pcap.specs.declared.text.style.Style.{Style}
use Rattle.pcap.proofs.Fronts.{style_of-front}
use Rattle.pcap.proofs.Grammar.{next-ends, next-record}
use Rattle.pcap.specs.Source.{Stream, Open, Ended, IsFilled, IsFilledFrom, IsOpened, MatchRead, ReadsHeader, ReadsNext, after_header, after_next, answer, left_by_next}
use Rattle.pcap.specs.Supply.{GivesUp}
use Rattle.pcap.specs.declared.stream.fault.SourceFault.{SourceFault}
use Rattle.pcap.specs.declared.stream.fault.SourceFault.TheVariants as fault
use Rattle.pcap.specs.Sink.{Drain, IsPut, Writes}
use Rattle.part_merge.specs.Copied.{IsDeviceStop, stop_by}
use Rattle.part_merge.specs.Left.{IsAdded, IsDeviceFault, IsLeft, IsWritten}
use Rattle.part_merge.specs.Moved.{stopped_at}
use Rattle.part_merge.specs.declared.capture.Stop.{Stop}
use Rattle.part_merge.specs.declared.capture.Stop.TheVariants as stops
use Rattle.timeline.specs.declared.source.Tap.{Tap}

-- ---- a record

record_text : (text : List ℕ) (written : IsWritten text) → IsRecordText written_style (whole_frame written.moment written.octets) text
unfolding written_record
record_text text written = record {
  header = record { seconds = written.moment / 1000000000; fraction = written.moment % 1000000000; captured = length written.octets; original = length written.octets };
  seconds_fit = omega (arith, written.early);
  fraction_fits = omega arith;
  captured_fits = written.short;
  original_fits = omega (arith, written.short);
  moment = omega arith;
  captured = refl;
  original = refl;
  whole = written.is;
}

pub next_written : (text rest : List ℕ) → (written : IsWritten text) → next_of written_style (text ++ rest) ≡ Another (whole_frame written.moment written.octets) rest
next_written text rest written = next-record written_style (whole_frame written.moment written.octets) text rest (record_text text written)

pub next_nothing : next_of written_style [] ≡ Ends Whole
next_nothing = next-ends written_style [] Whole refl

-- ---- a call

told_next : (style : Style) (a b : Option (List ℕ)) (text : List ℕ) (next : Next) → a ≡ Some text
    → IfSome a (λ text. (next ≡ next_of style text) × (b ≡ Some (left_by_next text next))) → (next ≡ next_of style text) × (b ≡ Some (left_by_next text next))
told_next style None b text next is h = absurd cc
told_next style (Some t) b text next is h =
    let same : t ≡ text = cc in subst (λ t. (next ≡ next_of style t) × (b ≡ Some (left_by_next t next))) same h

-- how a source stands behind a call that answered no `Read`, and what it has left
pub record Comes (text : List ℕ) (new : Stream) : Type 0 where
  pub stands : new.standing ≡ after_next written_style (next_of written_style text)
  pub rest : new.supply.rest ≡ Some (left_by_next text (next_of written_style text))

goes_on : (old new : Stream) (last : Option Record) (result : Result (Unit {0}) SourceFault) → old.standing ≡ Open written_style last
    → IsFilled old new result → MatchRead result (GivesUp old.supply new.supply) (ReadsNext written_style old.supply new.supply new.standing)
goes_on old new last result is filled = subst (λ s. IsFilledFrom s old new result) is filled

comes : (text : List ℕ) (old new : Stream) → old.supply.rest ≡ Some text → ReadsNext written_style old.supply new.supply new.standing → Comes text new
comes text old new is read =
    let told = told_next written_style _ _ text read.next is read.octets in
    record { stands = read.standing_is ∙ ap (after_next written_style) told.0; rest = told.1 ∙ ap (λ n. Some (left_by_next text n)) told.0 }

-- an answer of `fill`
abbrev pub ComesUnless : List ℕ → Stream → Result (Unit {0}) SourceFault → Type 0
ComesUnless text new (Ok x) = Comes text new
ComesUnless text new (Err fault.Read) = Unit {0}
ComesUnless text new (Err fault.NotPcap) = Comes text new
ComesUnless text new (Err fault.BadLink) = Comes text new
ComesUnless text new (Err fault.TooLarge) = Comes text new
ComesUnless text new (Err fault.BadFraction) = Comes text new

pub filled : (text : List ℕ) (old new : Stream) (result : Result (Unit {0}) SourceFault) → IsLeft text old → IsFilled old new result → ComesUnless text new result
filled text old new result left is = by result (goes_on old new left.last result left.stands is)
  where
    by : (result : Result (Unit {0}) SourceFault) → MatchRead result (GivesUp old.supply new.supply) (ReadsNext written_style old.supply new.supply new.standing) → ComesUnless text new result
    by (Ok x) h = comes text old new left.rest h
    by (Err fault.Read) h = tt
    by (Err fault.NotPcap) h = comes text old new left.rest h
    by (Err fault.BadLink) h = comes text old new left.rest h
    by (Err fault.TooLarge) h = comes text old new left.rest h
    by (Err fault.BadFraction) h = comes text old new left.rest h

-- where a record stands in front, it is lent and the rest is left
pub record Lends (text more : List ℕ) (written : IsWritten text) (new : Stream) : Type 0 where
  pub stands : new.standing ≡ Open written_style (Some (whole_frame written.moment written.octets))
  pub rest : new.supply.rest ≡ Some more

pub lends : (text rest : List ℕ) (written : IsWritten text) (new : Stream) → Comes (text ++ rest) new → Lends text rest written new
lends text rest written new comes =
    let next = next_written text rest written in
    record { stands = comes.stands ∙ ap (after_next written_style) next; rest = comes.rest ∙ ap (λ n. Some (left_by_next (text ++ rest) n)) next }

-- where nothing is left, the capture ends
pub ends : (new : Stream) → Comes [] new → new.standing ≡ Ended false
ends new comes = comes.stands ∙ ap (after_next written_style) next_nothing

-- ---- the header

told_header : (a b : Option (List ℕ)) (text : List ℕ) (header : Result Style CaptureFault) → a ≡ Some text
    → IfSome a (λ text. (header ≡ style_of text) × (b ≡ Some (drop 24 text))) → (header ≡ style_of text) × (b ≡ Some (drop 24 text))
told_header None b text header is h = absurd cc
told_header (Some t) b text header is h =
    let same : t ≡ text = cc in subst (λ t. (header ≡ style_of t) × (b ≡ Some (drop 24 t))) same h

style_written : (text : List ℕ) → style_of (written_header ++ text) ≡ Ok written_style
unfolding style_of style_by_magic header_in
style_written text = style_of-front written_header text refl ∙ refl

abbrev pub OpensUnless : List ℕ → Stream → Result (Unit {0}) SourceFault → Type 0
OpensUnless text new (Ok x) = IsLeft text new
OpensUnless text new (Err why) = why ≡ fault.Read

pub opened : (text : List ℕ) (old new : Stream) (result : Result (Unit {0}) SourceFault) → old.supply.rest ≡ Some (written_header ++ text) → IsOpened old new result → result ≡ answer new.standing
    → OpensUnless text new result
opened text old new result left is answered = by result is answered
  where
    told : ReadsHeader old.supply new.supply new.standing → IsLeft text new
    told read =
        let header = told_header _ _ (written_header ++ text) read.header left read.octets in
        record { last = None; stands = read.standing_is ∙ ap after_header (header.0 ∙ style_written text); rest = header.1 }

    never : (why : SourceFault) → ReadsHeader old.supply new.supply new.standing → Err why ≡ answer new.standing → why ≡ fault.Read
    never why read answered = let open_ : Err why ≡ Ok tt = answered ∙ ap answer (told read).stands in absurd cc

    by : (result : Result (Unit {0}) SourceFault) → MatchRead result (GivesUp old.supply new.supply) (ReadsHeader old.supply new.supply new.standing) → result ≡ answer new.standing → OpensUnless text new result
    by (Ok x) h answered = told h
    by (Err fault.Read) h answered = refl
    by (Err fault.NotPcap) h answered = never fault.NotPcap h answered
    by (Err fault.BadLink) h answered = never fault.BadLink h answered
    by (Err fault.TooLarge) h answered = never fault.TooLarge h answered
    by (Err fault.BadFraction) h answered = never fault.BadFraction h answered

-- ---- what a capture answers

-- a fault is a device's, where the text that is left is sound
pub err_stop : (text : List ℕ) (new : Stream) (why : SourceFault) → answer (after_next written_style (next_of written_style text)) ≡ Ok tt → ComesUnless text new (Err why) → Err why ≡ answer new.standing → IsDeviceStop (stop_by why)
err_stop text new why sound comes answered = by why comes answered
  where
    never : (why : SourceFault) → Comes text new → Err why ≡ answer new.standing → ⊥
    never why comes answered = let both : Err why ≡ Ok tt = answered ∙ ap answer comes.stands ∙ sound in absurd cc

    by : (why : SourceFault) → ComesUnless text new (Err why) → Err why ≡ answer new.standing → IsDeviceStop (stop_by why)
    by fault.Read comes answered = tt
    by fault.NotPcap comes answered = never fault.NotPcap comes answered
    by fault.BadLink comes answered = never fault.BadLink comes answered
    by fault.TooLarge comes answered = never fault.TooLarge comes answered
    by fault.BadFraction comes answered = never fault.BadFraction comes answered

pub sound_written : (text rest : List ℕ) → IsWritten text → answer (after_next written_style (next_of written_style (text ++ rest))) ≡ Ok tt
sound_written text rest written = ap (λ n. answer (after_next written_style n)) (next_written text rest written)

pub sound_nothing : answer (after_next written_style (next_of written_style [])) ≡ Ok tt
sound_nothing = ap (λ n. answer (after_next written_style n)) next_nothing

-- a text that was put is there
pub put_is_added : (E : Type 0) (old new : Drain) (text : List ℕ) (x : Unit {0}) → IsPut {T = Unit {0}} {E = E} old new text (Ok x) → IsAdded text old new
put_is_added E old new text x put = by old.is_failed put
  where
    by : (b : Bool) → MatchBool b (IsErr {T = Unit {0}} {E = E} (Ok x) × (new ≡ old)) (Writes {T = Unit {0}} {E = E} old new text (Ok x)) → IsAdded text old new
    by true h = let never = h.0 in absurd cc
    by false h = h.2

-- a stop that is a device's is a fault of a device
pub device_fault : (part : ℕ) (tap : Tap) (stop : Stop) → IsDeviceStop stop → IsDeviceFault (stopped_at part tap stop)
device_fault part tap stops.Read h = tt
device_fault part tap stops.Write h = tt
device_fault part tap (stops.Wrong why) h = absurd h
