-- Whole runs, call by call.
use Rattle.std.proofs.Common.{◌≡◌, ◌≢◌, ◌∙◌, refl, sym, ap, subst, ℕ, Bool, true, false, List, [], ◌∷◌, ◌++◌, drop, append_assoc, append-nil, Option, None, Some, IfSome, Result, Ok, Err}
use Rattle.std.specs.Prelude.{IsErr, MatchBool}
use Rattle.std.proofs.KnownBytes.{Appends-nil, Appends-trans}
use Rattle.std.specs.Io.KnownBytes.{Appends}
use Rattle.std.specs.List.{concat}
use Rattle.pcap.specs.Capture.{opened, opened_by}
use Rattle.pcap.specs.Header.{style_of}
use Rattle.pcap.specs.Next.{Whole, Cut, Faulty, Next, Another, Ends, next_of}
use Rattle.pcap.specs.Reading.{reading_by, records}
use Rattle.pcap.specs.Record.{Record}
use Rattle.pcap.specs.declared.text.header.CaptureFault.{CaptureFault}
use Rattle.pcap.specs.declared.text.style.Style.{Style}
use Rattle.pcap.proofs.Readings.{records-next}
use Rattle.pcap.proofs.Parts.{part_behind, part_more}
use Rattle.pcap.specs.InTurn.{IsReading, IsReadOut, IsReadTo, IsWhole, LendsInTurn, PutsInTurn, with_records}
use Rattle.pcap.specs.Sink.{AppendsPart, Drain, Writes}
use Rattle.pcap.specs.Source.{Stream, Open, IsFilled, IsFilledFrom, IsOpened, MatchRead, ReadsNext, after_header, after_next, answer, left_by_next, lent}
use Rattle.pcap.specs.Supply.{GivesUp}
use Rattle.pcap.specs.declared.stream.fault.SourceFault.{SourceFault}
use Rattle.pcap.specs.declared.stream.fault.SourceFault.TheVariants as fault
use Rattle.pcap.specs.declared.stream.fault.WriteFault.{WriteFault}

-- ---- a source

-- a header that was read, where the input tells its octets
told_header : (a b : Option (List ℕ)) (text : List ℕ) (header : Result Style CaptureFault) → a ≡ Some text
    → IfSome a (λ text. (header ≡ style_of text) × (b ≡ Some (drop 24 text))) → (header ≡ style_of text) × (b ≡ Some (drop 24 text))
told_header None b text header is h = absurd cc
told_header (Some t) b text header is h =
    let same : t ≡ text = cc in subst (λ t. (header ≡ style_of t) × (b ≡ Some (drop 24 t))) same h

told_next : (style : Style) (a b : Option (List ℕ)) (text : List ℕ) (next : Next) → a ≡ Some text
    → IfSome a (λ text. (next ≡ next_of style text) × (b ≡ Some (left_by_next text next))) → (next ≡ next_of style text) × (b ≡ Some (left_by_next text next))
told_next style None b text next is h = absurd cc
told_next style (Some t) b text next is h =
    let same : t ≡ text = cc in subst (λ t. (next ≡ next_of style t) × (b ≡ Some (left_by_next t next))) same h

-- behind the header none was lent yet
pub begins : (old new : Stream) (text : List ℕ) → old.supply.rest ≡ Some text → IsOpened {T = Unit {0}} old new (Ok tt) → answer new.standing ≡ Ok tt → IsReading text [] new
begins old new text told opened is_open = by_header opened.header (opened.standing_is) (told_header _ _ text opened.header told opened.octets)
  where
    by_header : (header : Result Style CaptureFault) → new.standing ≡ after_header header → (header ≡ style_of text) × (new.supply.rest ≡ Some (drop 24 text)) → IsReading text [] new
    by_header (Err e) is h = let failed : answer (after_header (Err e)) ≡ Ok tt = subst (λ s. answer s ≡ Ok tt) is is_open in absurd cc
    by_header (Ok style) is h = record {
      style = style;
      last = None;
      stands = is;
      rest = drop 24 text;
      left = h.1;
      records = ap (λ found. opened_by found text) (sym h.0);
    }

-- a call that went on from an open source
goes_on : (old new : Stream) (style : Style) (last : Option Record) (result : Result (Unit {0}) SourceFault) → old.standing ≡ Open style last
    → IsFilled old new result → MatchRead result (GivesUp old.supply new.supply) (ReadsNext style old.supply new.supply new.standing)
goes_on old new style last result is filled = subst (λ s. IsFilledFrom s old new result) is filled

-- one more record
pub one_more : (text : List ℕ) (rs : List Record) (r : Record) (old new : Stream) → IsReading text rs old → IsFilled {T = Unit {0}} old new (Ok tt) → lent new.standing ≡ Some r
    → IsReading text (rs ++ r ∷ []) new
one_more text rs r old new so_far filled lends =
    let read = goes_on old new so_far.style so_far.last (Ok tt) so_far.stands filled in
    by_next read.next read.standing_is (told_next so_far.style _ _ so_far.rest read.next so_far.left read.octets)
  where
    lent_by : (next : Next) → new.standing ≡ after_next so_far.style next → lent (after_next so_far.style next) ≡ Some r
    lent_by next is = subst (λ s. lent s ≡ Some r) is lends

    by_next : (next : Next) → new.standing ≡ after_next so_far.style next
        → (next ≡ next_of so_far.style so_far.rest) × (new.supply.rest ≡ Some (left_by_next so_far.rest next)) → IsReading text (rs ++ r ∷ []) new
    by_next (Ends Whole) is h = let none = lent_by (Ends Whole) is in absurd cc
    by_next (Ends Cut) is h = let none = lent_by (Ends Cut) is in absurd cc
    by_next (Ends (Faulty fault)) is h = let none = lent_by (Ends (Faulty fault)) is in absurd cc
    by_next (Another q rest) is h =
        let here : q ≡ r = let some = lent_by (Another q rest) is in cc in
        let all : records so_far.style so_far.rest ≡ reading_by (records so_far.style) (Another r rest) =
        records-next so_far.style so_far.rest ∙ ap (reading_by (records so_far.style)) (sym h.0 ∙ ap (λ x. Another x rest) here) in
        record {
          style = so_far.style;
          last = Some q;
          stands = is;
          rest = rest;
          left = h.1;
          records = so_far.records ∙ ap (λ reading. Ok (with_records rs reading)) all
              ∙ ap (λ l. Ok (record { records = l; end = (records so_far.style rest).end })) (sym (append_assoc rs (r ∷ []) (records so_far.style rest).records));
        }

more : (text : List ℕ) (done rs : List Record) (old new : Stream) → IsReading text done old → LendsInTurn old rs new → IsReading text (done ++ rs) new
more text done [] old new so_far lends = subst (λ l. IsReading text l new) (sym (append-nil done)) (subst (IsReading text done) lends so_far)
more text done (r ∷ rs) old new so_far lends =
    let next = one_more text done r old lends.0 so_far lends.1 lends.2 in
    subst (λ l. IsReading text l new) (append_assoc done (r ∷ []) rs) (more text (done ++ r ∷ []) rs lends.0 new next lends.3)

pub lends_what_is_there : (old new : Stream) (rs : List Record) (text : List ℕ) → old.supply.rest ≡ Some text → IsReadTo old rs new → IsReading text rs new
lends_what_is_there old new rs text told run = more text [] rs run.begun new (begins old run.begun text told run.opened run.is_open) run.lends

-- an answer that isn't `Read` tells what comes next
no_failure : (P Q : Type 0) (result : Result (Unit {0}) SourceFault) → result ≢ Err fault.Read → MatchRead result P Q → Q
no_failure P Q (Ok x) other h = h
no_failure P Q (Err fault.Read) other h = absurd (other refl)
no_failure P Q (Err fault.NotPcap) other h = h
no_failure P Q (Err fault.BadLink) other h = h
no_failure P Q (Err fault.TooLarge) other h = h
no_failure P Q (Err fault.BadFraction) other h = h

pub ends : (text : List ℕ) (rs : List Record) (old new : Stream) (result : Result (Unit {0}) SourceFault) → IsReading text rs old → IsReadOut old new result → IsWhole text rs new
ends text rs old new result so_far out =
    let read : ReadsNext so_far.style old.supply new.supply new.standing = no_failure (GivesUp old.supply new.supply) _ result out.no_failure (goes_on old new so_far.style so_far.last result so_far.stands out.filled) in
    by_next read.next read.standing_is (told_next so_far.style _ _ so_far.rest read.next so_far.left read.octets)
  where
    by_next : (next : Next) → new.standing ≡ after_next so_far.style next
        → (next ≡ next_of so_far.style so_far.rest) × (new.supply.rest ≡ Some (left_by_next so_far.rest next)) → IsWhole text rs new
    by_next (Another r rest) is h = let none : lent (after_next so_far.style (Another r rest)) ≡ None = subst (λ s. lent s ≡ None) is out.lends_none in absurd cc
    by_next (Ends end) is h =
        let all : records so_far.style so_far.rest ≡ reading_by (records so_far.style) (Ends end) =
        records-next so_far.style so_far.rest ∙ ap (reading_by (records so_far.style)) (sym h.0) in
        record {
          end = end;
          records = so_far.records ∙ ap (λ reading. Ok (with_records rs reading)) all ∙ ap (λ l. Ok (record { records = l; end = end })) (append-nil rs);
          stands = is;
        }

pub lends_all_that_is_there : (old mid new : Stream) (rs : List Record) (text : List ℕ) (result : Result (Unit {0}) SourceFault) → old.supply.rest ≡ Some text
    → IsReadTo old rs mid → IsReadOut mid new result → IsWhole text rs new
lends_all_that_is_there old mid new rs text result told run out = ends text rs mid new result (lends_what_is_there old mid rs text told run) out

-- ---- a sink

-- a sink that gave up stays as it is
stays : (old new : Drain) (texts : List (List ℕ)) → old.is_failed ≡ true → PutsInTurn old texts new → new ≡ old
stays old new [] failed puts = sym puts
stays old new (text ∷ texts) failed puts =
    let put = subst (λ b. MatchBool b (IsErr puts.1 × (puts.0 ≡ old)) (Writes old puts.0 text puts.1)) failed puts.2 in
    stays puts.0 new texts (ap (λ (d : Drain). d.is_failed) put.1 ∙ failed) puts.3 ∙ put.1

pub writes_what_was_put : (old new : Drain) (texts : List (List ℕ)) → old.is_failed ≡ false → PutsInTurn old texts new
    → MatchBool new.is_failed (AppendsPart old.written new.written (concat texts)) (Appends old.written new.written (concat texts))
writes_what_was_put old new [] sound puts =
    subst (λ (d : Drain). MatchBool d.is_failed (AppendsPart old.written d.written []) (Appends old.written d.written [])) puts
    (rw sound (Appends-nil old.written))
writes_what_was_put old new (text ∷ texts) sound puts =
    by_result (λ sound. writes_what_was_put puts.0 new texts sound puts.3) puts.1 (subst (λ b. MatchBool b (IsErr puts.1 × (puts.0 ≡ old)) (Writes old puts.0 text puts.1)) sound puts.2)
  where
    behind : (b : Bool) → Appends old.written puts.0.written text → MatchBool b (AppendsPart puts.0.written new.written (concat texts)) (Appends puts.0.written new.written (concat texts))
        → MatchBool b (AppendsPart old.written new.written (concat (text ∷ texts))) (Appends old.written new.written (concat (text ∷ texts)))
    behind true before later = part_behind old.written puts.0.written new.written text (concat texts) before later
    behind false before later = Appends-trans old.written puts.0.written new.written _ _ before later

    by_result : (puts.0.is_failed ≡ false → MatchBool new.is_failed (AppendsPart puts.0.written new.written (concat texts)) (Appends puts.0.written new.written (concat texts)))
        → (result : Result (Unit {0}) WriteFault) → Writes old puts.0 text result
        → MatchBool new.is_failed (AppendsPart old.written new.written (concat (text ∷ texts))) (Appends old.written new.written (concat (text ∷ texts)))
    by_result later (Ok x) h = behind new.is_failed h.2 (later h.0)
    by_result later (Err e) h =
        let same = stays puts.0 new texts h.0 puts.3 in
        subst (λ (d : Drain). MatchBool d.is_failed (AppendsPart old.written d.written (concat (text ∷ texts))) (Appends old.written d.written (concat (text ∷ texts)))) (sym same)
        (rw h.0 (part_more old.written puts.0.written text (concat texts) h.2))
