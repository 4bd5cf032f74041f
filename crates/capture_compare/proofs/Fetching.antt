-- The records of one capture, fetched one after another.
use Rattle.std.proofs.Common.{◌≡◌, ◌≢◌, ◌∙◌, refl, sym, ap, subst, ℕ, ◌+◌, ◌≤◌, max, List, [], ◌∷◌, length, length-append, arith, Option, Some, None, Result, Ok, Err}
use Rattle.pcap.specs.Capture.{opened, opened_by}
use Rattle.pcap.specs.Header.{style_of}
use Rattle.pcap.specs.Next.{End, Whole, Cut, Faulty}
use Rattle.pcap.specs.Reading.{Reading, records}
use Rattle.pcap.specs.Record.{Record}
use Rattle.pcap.specs.declared.text.header.CaptureFault.{CaptureFault}
use Rattle.pcap.specs.declared.text.header.CaptureFault.TheVariants as capture
use Rattle.pcap.specs.declared.text.record.RecordFault.{RecordFault}
use Rattle.pcap.specs.declared.text.record.RecordFault.TheVariants as record_
use Rattle.pcap.specs.declared.text.style.Style.{Style}
use Rattle.pcap.specs.Fault.{capture_fault, record_fault}
use Rattle.pcap.specs.InTurn.{IsReading, IsWhole}
use Rattle.pcap.specs.Source.{Stream, New, IsFilled, IsOpened, ReadsHeader, after_end, answer, ends_cut, lent, most_left}
use Rattle.pcap.specs.declared.stream.fault.SourceFault.{SourceFault}
use Rattle.pcap.specs.declared.stream.fault.SourceFault.TheVariants as source
use Rattle.pcap.proofs.Runs.{begins, ends, one_more}
use Rattle.pcap.proofs.Refusals.{faulty_end, is_refused, lends_none, no_answer, told_style}
use Rattle.capture_compare.specs.Clocked.{latest, on_clock}
use Rattle.capture_compare.specs.Compared.{fault_behind, fault_in, fault_of, is_cut, is_cut_by, is_cut_in, records_in, records_of}
use Rattle.capture_compare.specs.Turns.{HasLent, IsDone, IsItsFault, StopsBehind, Waits, source_fault}
use Rattle.capture_compare.specs.declared.fault.CompareFault.{CompareFault}
use Rattle.capture_compare.specs.declared.fault.CompareFault.TheVariants as faults
use Rattle.capture_compare.specs.declared.fault.Side.{Side}
use Rattle.capture_compare.specs.declared.carried.key.Manner.{Manner}

-- ---- the opening

pub has_begun : (old new : Stream) (count : ℕ) → count ≡ 0 → IsOpened {T = Unit {0}} old new (Ok tt) → Ok tt ≡ answer new.standing → new.standing ≢ New → most_left new ≤ most_left old → HasLent old new [] count
has_begun old new count none opened told begun less = record {
  reading = λ text e. begins old new text e opened (sym told);
  count_is = none;
  spent = omega (arith, less);
  begun = begun;
}

not_opened : (side : Side) (text : List ℕ) (own : CaptureFault) → style_of text ≡ Err own → (records_in text ≡ []) × (fault_in side text ≡ Some (faults.Header side own))
not_opened side text own e =
    let is : opened text ≡ Err own = ap (λ (s : Result Style CaptureFault). opened_by s text) e in
    (ap (λ (r : Result Reading CaptureFault). records_of r) is, ap (λ (r : Result Reading CaptureFault). fault_of side r) is)

by_own : (side : Side) (start : Stream) (own : CaptureFault) → ((text : List ℕ) → start.supply.rest ≡ Some text → style_of text ≡ Err own) → StopsBehind side start [] (source_fault side 1 (capture_fault own))
by_own side start capture.NotPcap h = (refl, record { all = λ text e. not_opened side text capture.NotPcap (h text e) })
by_own side start capture.BadLink h = (refl, record { all = λ text e. not_opened side text capture.BadLink (h text e) })

refused_by : (side : Side) (old new : Stream) (fault : SourceFault) → ReadsHeader old.supply new.supply new.standing → Err fault ≡ answer new.standing → StopsBehind side old [] (source_fault side 1 fault)
refused_by side old new fault read told =
    let is = is_refused fault new.standing read.header read.standing_is told in
    subst (λ f. StopsBehind side old [] (source_fault side 1 f)) (sym is.fault_is)
    (by_own side old is.own (λ text e. sym (told_style _ _ text read.header e read.octets) ∙ is.header_is))

pub is_not_opened : (side : Side) (old new : Stream) (fault : SourceFault) → IsOpened {T = Unit {0}} old new (Err fault) → Err fault ≡ answer new.standing → StopsBehind side old [] (source_fault side 1 fault)
is_not_opened side old new source.Read opened told = (refl, record { all = λ text e. (records_in text, refl) })
is_not_opened side old new source.NotPcap opened told = refused_by side old new source.NotPcap opened told
is_not_opened side old new source.BadLink opened told = refused_by side old new source.BadLink opened told
is_not_opened side old new source.TooLarge opened told = refused_by side old new source.TooLarge opened told
is_not_opened side old new source.BadFraction opened told = refused_by side old new source.BadFraction opened told

-- ---- one more

pub has_more : (manner : Manner) (delay : ℕ) (start old new : Stream) (rs : List Record) (count latest_moment : ℕ) (r : Record) → HasLent start old rs count → IsFilled {T = Unit {0}} old new (Ok tt) → lent new.standing ≡ Some r
    → new.standing ≢ New → 16 + most_left new ≤ most_left old → latest_moment ≡ latest (on_clock manner delay rs) → Waits manner delay start new rs (count + 1) (max (r.moment + delay) latest_moment)
has_more manner delay start old new rs count latest_moment r so_far filled lends begun less is = record {
  next = r;
  lends = lends;
  taken = record {
    reading = λ text e. one_more text rs r old new (so_far.reading text e) filled lends;
    count_is = let count = so_far.count_is in omega (arith, count, length-append rs (r ∷ []));
    spent = let spent = so_far.spent in omega (arith, spent, less, length-append rs (r ∷ []));
    begun = begun;
  };
  moment_is = ap (λ (n : ℕ). max (r.moment + delay) n) is;
}

-- ---- the end

no_fault : (side : Side) (count : ℕ) (end : End) → Ok tt ≡ answer (after_end end) → fault_behind side count end ≡ None
no_fault side count Whole is = refl
no_fault side count Cut is = refl
no_fault side count (Faulty fault) is = absurd (no_answer (record_fault fault) is)

ends_as : (end : End) → ends_cut (after_end end) ≡ is_cut end
ends_as Whole = refl
ends_as Cut = refl
ends_as (Faulty fault) = refl

pub has_all : (side : Side) (start old new : Stream) (rs : List Record) (count : ℕ) → HasLent start old rs count → IsFilled {T = Unit {0}} old new (Ok tt) → Ok tt ≡ answer new.standing → lent new.standing ≡ None
    → IsDone side start new rs
has_all side start old new rs count so_far filled told none = record { all = λ text e. by (ends text rs old new (Ok tt) (so_far.reading text e) (record { filled = filled; answered = told; lends_none = none; no_failure = λ e. absurd cc })) }
  where
    by : {text : List ℕ} → IsWhole text rs new → (records_in text ≡ rs) × (fault_in side text ≡ None) × (ends_cut new.standing ≡ is_cut_in text)
    by whole = (
      ap (λ (r : Result Reading CaptureFault). records_of r) whole.records,
      ap (λ (r : Result Reading CaptureFault). fault_of side r) whole.records ∙ no_fault side (length rs) whole.end (told ∙ ap answer whole.stands),
      ap ends_cut whole.stands ∙ ends_as whole.end ∙ sym (ap is_cut_by whole.records),
    )

-- ---- a fault

-- a record that isn't read, behind some
faulty : (side : Side) (text : List ℕ) (rs : List Record) (own : RecordFault) (n : ℕ) → n ≡ length rs + 1 → opened text ≡ Ok (record { records = rs; end = Faulty own })
    → (records_in text ≡ rs) × (fault_in side text ≡ Some (faults.Record side n own))
faulty side text rs own n number is = (
  ap (λ (r : Result Reading CaptureFault). records_of r) is,
  ap (λ (r : Result Reading CaptureFault). fault_of side r) is ∙ ap (λ (n : ℕ). some (faults.Record side n own)) (sym number),
)
  where
    some : CompareFault → Option CompareFault
    some f = Some f

-- what is known of a text that ends so
record EndsSo (text : List ℕ) (rs : List Record) (fault : SourceFault) : Type 0 where
  pub own : RecordFault
  pub fault_is : fault ≡ record_fault own
  pub is : opened text ≡ Ok (record { records = rs; end = Faulty own })

ends_so : (text : List ℕ) (rs : List Record) (old new : Stream) (fault : SourceFault) → fault ≢ source.Read → IsReading text rs old → IsFilled {T = Unit {0}} old new (Err fault)
    → Err fault ≡ answer new.standing → EndsSo text rs fault
ends_so text rs old new fault other reading filled told =
    let whole = ends text rs old new (Err fault) reading (record { filled = filled; answered = told; lends_none = lends_none new.standing fault told; no_failure = λ e. other (by_err e) }) in
    let end = faulty_end whole.end fault (told ∙ ap answer whole.stands) in
    record { own = end.own; fault_is = end.fault_is; is = whole.records ∙ ap (λ e. Ok (record { records = rs; end = e })) end.end_is }
  where
    by_err : ◌≡◌ {A = Result (Unit {0}) SourceFault} (Err fault) (Err source.Read) → fault ≡ source.Read
    by_err e = cc

own_large : (own : RecordFault) → source.TooLarge ≡ record_fault own → own ≡ record_.TooLarge
own_large record_.TooLarge e = refl
own_large record_.BadFraction e = absurd cc

own_fraction : (own : RecordFault) → source.BadFraction ≡ record_fault own → own ≡ record_.BadFraction
own_fraction record_.TooLarge e = absurd cc
own_fraction record_.BadFraction e = refl

not_header : (own : RecordFault) (fault : CaptureFault) → capture_fault fault ≡ record_fault own → ⊥
not_header record_.TooLarge capture.NotPcap e = cc
not_header record_.TooLarge capture.BadLink e = cc
not_header record_.BadFraction capture.NotPcap e = cc
not_header record_.BadFraction capture.BadLink e = cc

-- a fault that is just one of a record
by_record : (side : Side) (start old new : Stream) (rs : List Record) (count : ℕ) (fault : SourceFault) (own : RecordFault) → fault ≢ source.Read → ((o : RecordFault) → fault ≡ record_fault o → o ≡ own)
    → HasLent start old rs count → IsFilled {T = Unit {0}} old new (Err fault) → Err fault ≡ answer new.standing → IsItsFault side start rs (faults.Record side (count + 1) own)
by_record side start old new rs count fault own other only so_far filled told = record {
  all = λ text e.
      let so = ends_so text rs old new fault other (so_far.reading text e) filled told in
      faulty side text rs own (count + 1) (ap (λ (n : ℕ). n + 1) so_far.count_is) (so.is ∙ ap (λ (f : RecordFault). Ok (record { records = rs; end = Faulty f })) (only so.own so.fault_is));
}

-- a record has no fault of a header
no_header : (side : Side) (start old new : Stream) (rs : List Record) (count : ℕ) (own : CaptureFault) (fault : CompareFault) → capture_fault own ≢ source.Read → HasLent start old rs count
    → IsFilled {T = Unit {0}} old new (Err (capture_fault own)) → Err (capture_fault own) ≡ answer new.standing → IsItsFault side start rs fault
no_header side start old new rs count own fault other so_far filled told = record {
  all = λ text e. let so = ends_so text rs old new (capture_fault own) other (so_far.reading text e) filled told in absurd (not_header so.own own so.fault_is);
}

pub has_failed : (side : Side) (start old new : Stream) (rs : List Record) (count : ℕ) (fault : SourceFault) → HasLent start old rs count → IsFilled {T = Unit {0}} old new (Err fault) → Err fault ≡ answer new.standing
    → StopsBehind side start rs (source_fault side (count + 1) fault)
has_failed side start old new rs count source.Read so_far filled told =
    (refl, record { all = λ text e. let reading = so_far.reading text e in ((records reading.style reading.rest).records, ap (λ (r : Result Reading CaptureFault). records_of r) reading.records) })
has_failed side start old new rs count source.NotPcap so_far filled told = (refl, no_header side start old new rs count capture.NotPcap _ (λ e. absurd cc) so_far filled told)
has_failed side start old new rs count source.BadLink so_far filled told = (refl, no_header side start old new rs count capture.BadLink _ (λ e. absurd cc) so_far filled told)
has_failed side start old new rs count source.TooLarge so_far filled told =
    (refl, by_record side start old new rs count source.TooLarge record_.TooLarge (λ e. absurd cc) own_large so_far filled told)
has_failed side start old new rs count source.BadFraction so_far filled told =
    (refl, by_record side start old new rs count source.BadFraction record_.BadFraction (λ e. absurd cc) own_fraction so_far filled told)
