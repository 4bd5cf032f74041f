-- The records of a source, one after another.
use Rattle.std.proofs.Common.{◌≡◌, ◌≢◌, ◌⊎◌, ◌∙◌, refl, sym, ap, subst, ℕ, ◌+◌, ◌*◌, ◌≤◌, ◌<◌, ◌^◌, List, [], ◌∷◌, ◌++◌, length, length-append, arith, Some, None, Result, Ok, Err}
use Rattle.pcap.specs.Capture.{opened}
use Rattle.pcap.specs.Next.{End, Whole, Cut, Faulty}
use Rattle.pcap.specs.Record.{Record}
use Rattle.pcap.specs.declared.text.record.RecordFault.{RecordFault}
use Rattle.pcap.specs.declared.text.record.RecordFault.TheVariants.{BadFraction, TooLarge}
use Rattle.pcap.specs.Counts.{GoesOnBy}
use Rattle.pcap.specs.Fault.{record_fault}
use Rattle.pcap.specs.InTurn.{IsReading}
use Rattle.pcap.specs.Source.{Standing, Stream, New, Open, Ended, Failed, IsFilled, IsFilledFrom, MatchRead, ReadsNext, after_end, answer, lent, most_left}
use Rattle.pcap.specs.Supply.{GivesUp, Supply}
use Rattle.pcap.specs.declared.stream.fault.SourceFault.{SourceFault}
use Rattle.pcap.specs.declared.stream.fault.SourceFault.TheVariants as source
use Rattle.pcap.proofs.Runs.{ends, one_more}
use Rattle.pcap.proofs.Refusals.{faulty_end, lends_none}
use Rattle.capture_survey.proofs.Counting.{has_room}
use Rattle.timeline.specs.declared.source.Tap.{Tap}
use Rattle.capture_survey.specs.Survey.{IsCounted, IsOpen, ReadsAll, ReadsWith, source_fault}
use Rattle.capture_survey.specs.Tally.{HasRoom, tally_of}
use Rattle.capture_survey.specs.declared.tally.Tally.{Tally}

-- ---- one call

-- an open source read what comes next, or gave up
read_on : (old new : Stream) (result : Result (Unit {0}) SourceFault) (s : Standing) → IsOpen s → IsFilledFrom s old new result
    → MatchRead result (GivesUp old.supply new.supply) (new.supply.failures ≡ old.supply.failures)
read_on old new result (Open style last) is filled = by result filled
  where
    by : (result : Result (Unit {0}) SourceFault) → MatchRead result (GivesUp old.supply new.supply) (ReadsNext style old.supply new.supply new.standing)
        → MatchRead result (GivesUp old.supply new.supply) (new.supply.failures ≡ old.supply.failures)
    by (Ok x) h = h.quiet
    by (Err source.Read) h = h
    by (Err source.NotPcap) h = h.quiet
    by (Err source.BadLink) h = h.quiet
    by (Err source.TooLarge) h = h.quiet
    by (Err source.BadFraction) h = h.quiet
read_on old new result New is filled = absurd is
read_on old new result (Ended is_cut) is filled = absurd is
read_on old new result (Failed fault) is filled = absurd is

-- a source that lends a record is open
lends_open : (s : Standing) (r : Record) → lent s ≡ Some r → IsOpen s
lends_open New r e = absurd cc
lends_open (Open style last) r e = tt
lends_open (Ended is_cut) r e = absurd cc
lends_open (Failed fault) r e = absurd cc

-- ---- so far

-- some records were lent in turn and counted, and no read failed
pub record HasRead (tap : Tap) (start now : Stream) (tally : Tally) : Type 0 where
  pub rs : List Record
  pub tally_is : tally ≡ tally_of tap rs
  pub reading : (text : List ℕ) → IsReading text [] start → IsReading text rs now
  pub is_open : IsOpen now.standing
  pub quiet : now.supply.failures ≡ start.supply.failures
  pub spent : 16 * length rs + most_left now ≤ most_left start

pub has_begun : (tap : Tap) (start : Stream) (t : Tally) → IsOpen start.standing → t ≡ tally_of tap [] → HasRead tap start start t
has_begun tap start t is_open is = record { rs = []; tally_is = is; reading = λ text h. h; is_open = is_open; quiet = refl; spent = omega arith }

pub has_more : (tap : Tap) (start old new : Stream) (t u : Tally) (r : Record) → HasRead tap start old t → IsFilled {T = Unit {0}} old new (Ok tt) → lent new.standing ≡ Some r
    → 16 + most_left new ≤ most_left old → ((rs : List Record) → t ≡ tally_of tap rs → u ≡ tally_of tap (rs ++ r ∷ [])) → HasRead tap start new u
has_more tap start old new t u r so_far filled lends less counts = record {
  rs = so_far.rs ++ r ∷ [];
  tally_is = counts so_far.rs so_far.tally_is;
  reading = λ text h. one_more text so_far.rs r old new (so_far.reading text h) filled lends;
  is_open = lends_open new.standing r lends;
  quiet = read_on old new (Ok tt) old.standing so_far.is_open filled ∙ so_far.quiet;
  spent = let spent = so_far.spent in let more = length-append so_far.rs (r ∷ []) in omega (arith, more, spent, less);
}

-- another record can be counted
pub may_count : (tap : Tap) (start old new : Stream) (t : Tally) → HasRead tap start old t → 16 + most_left new ≤ most_left old → most_left start < 2 ^ 64 → HasRoom t
may_count tap start old new t so_far less few =
    let spent = so_far.spent in has_room tap so_far.rs t so_far.tally_is (omega (arith, spent, less, few))

-- and its number fits
pub may_number : (tap : Tap) (start old : Stream) (t : Tally) → HasRead tap start old t → most_left start < 2 ^ 64 → t.records + 1 < 2 ^ 64
may_number tap start old t so_far few =
    let spent = so_far.spent in let count = ap (λ (t : Tally). t.records) so_far.tally_is in omega (arith, spent, count, few)

-- ---- the end

no_fault_end : (end : End) → Ok tt ≡ answer (after_end end) → (fault : RecordFault) → end ≢ Faulty fault
no_fault_end Whole is fault e = absurd cc
no_fault_end Cut is fault e = absurd cc
no_fault_end (Faulty own) is fault e = absurd cc

pub has_all : (tap : Tap) (start old new : Stream) (t : Tally) (text : List ℕ) → HasRead tap start old t → IsFilled {T = Unit {0}} old new (Ok tt) → Ok tt ≡ answer new.standing
    → lent new.standing ≡ None → IsReading text [] start → IsCounted tap text new.standing t
has_all tap start old new t text so_far filled told none h =
    let whole = ends text so_far.rs old new (Ok tt) (so_far.reading text h) (record { filled = filled; answered = told; lends_none = none; no_failure = λ e. absurd cc }) in
    record {
      rs = so_far.rs;
      end = whole.end;
      reading = whole.records;
      tally_is = so_far.tally_is;
      no_fault = no_fault_end whole.end (told ∙ ap answer whole.stands);
      stands = whole.stands;
    }

pub all_quiet : (tap : Tap) (start old new : Stream) (t : Tally) → HasRead tap start old t → IsFilled {T = Unit {0}} old new (Ok tt) → new.supply.failures ≡ start.supply.failures
all_quiet tap start old new t so_far filled = read_on old new (Ok tt) old.standing so_far.is_open filled ∙ so_far.quiet

-- ---- a fault

tells_fault : (tap : Tap) (text : List ℕ) (s : Standing) (n : ℕ) (rs : List Record) (own : RecordFault) → opened text ≡ Ok (record { records = rs; end = Faulty own }) → n ≡ length rs + 1
    → ReadsAll tap text s (Err (source_fault n (record_fault own)))
tells_fault tap text s n rs TooLarge reading number = record { rs = rs; reading = reading; number = number }
tells_fault tap text s n rs BadFraction reading number = record { rs = rs; reading = reading; number = number }

fault_told : (tap : Tap) (text : List ℕ) (n : ℕ) (rs : List Record) (old new : Stream) (fault : SourceFault) → fault ≢ source.Read → IsReading text rs old
    → IsFilled {T = Unit {0}} old new (Err fault) → Err fault ≡ answer new.standing → n ≡ length rs + 1 → ReadsAll tap text new.standing (Err (source_fault n fault))
fault_told tap text n rs old new fault other reading filled told is =
    let whole = ends text rs old new (Err fault) reading (record { filled = filled; answered = told; lends_none = lends_none new.standing fault told; no_failure = λ e. other (by_err e) }) in
    let end = faulty_end whole.end fault (told ∙ ap answer whole.stands) in
    subst (λ f. ReadsAll tap text new.standing (Err (source_fault n f))) (sym end.fault_is)
    (tells_fault tap text new.standing n rs end.own (whole.records ∙ ap (λ e. Ok (record { records = rs; end = e })) end.end_is) is)
  where
    by_err : ◌≡◌ {A = Result (Unit {0}) SourceFault} (Err fault) (Err source.Read) → fault ≡ source.Read
    by_err e = cc

pub has_failed : (tap : Tap) (start old new : Stream) (t : Tally) (text : List ℕ) (fault : SourceFault) → HasRead tap start old t → IsFilled {T = Unit {0}} old new (Err fault)
    → Err fault ≡ answer new.standing → IsReading text [] start → ReadsAll tap text new.standing (Err (source_fault (t.records + 1) fault))
has_failed tap start old new t text fault so_far filled told h = by fault filled told
  where
    number : t.records + 1 ≡ length so_far.rs + 1
    number = ap (λ (t : Tally). t.records + 1) so_far.tally_is

    by : (fault : SourceFault) → IsFilled {T = Unit {0}} old new (Err fault) → Err fault ≡ answer new.standing → ReadsAll tap text new.standing (Err (source_fault (t.records + 1) fault))
    by source.Read filled told = tt
    by source.NotPcap filled told = fault_told tap text (t.records + 1) so_far.rs old new source.NotPcap (λ e. absurd cc) (so_far.reading text h) filled told number
    by source.BadLink filled told = fault_told tap text (t.records + 1) so_far.rs old new source.BadLink (λ e. absurd cc) (so_far.reading text h) filled told number
    by source.TooLarge filled told = fault_told tap text (t.records + 1) so_far.rs old new source.TooLarge (λ e. absurd cc) (so_far.reading text h) filled told number
    by source.BadFraction filled told = fault_told tap text (t.records + 1) so_far.rs old new source.BadFraction (λ e. absurd cc) (so_far.reading text h) filled told number

-- a source gave up, behind calls that were quiet
gives_up_since : (start old new : Supply) → old.failures ≡ start.failures → GivesUp old new → GivesUp start new
gives_up_since start old new quiet h = subst (λ n. GoesOnBy 1 n new.failures ⊎ ((new.failures ≡ n) × (new.reads ≡ 0))) quiet h

pub reads_failed : (T : Type 0) (start old new : Supply) (n : ℕ) (fault : SourceFault) → old.failures ≡ start.failures
    → MatchRead {T = Unit {0}} (Err fault) (GivesUp old new) (new.failures ≡ old.failures) → ReadsWith {T = T} start new (Err (source_fault n fault))
reads_failed T start old new n source.Read quiet h = gives_up_since start old new quiet h
reads_failed T start old new n source.NotPcap quiet h = h ∙ quiet
reads_failed T start old new n source.BadLink quiet h = h ∙ quiet
reads_failed T start old new n source.TooLarge quiet h = h ∙ quiet
reads_failed T start old new n source.BadFraction quiet h = h ∙ quiet

pub failed_with : (tap : Tap) (start old new : Stream) (t : Tally) (n : ℕ) (fault : SourceFault) → HasRead tap start old t → IsFilled {T = Unit {0}} old new (Err fault)
    → ReadsWith {T = Tally} start.supply new.supply (Err (source_fault n fault))
failed_with tap start old new t n fault so_far filled =
    reads_failed Tally start.supply old.supply new.supply n fault so_far.quiet (read_on old new (Err fault) old.standing so_far.is_open filled)

-- a source that is open isn't new
pub not_new : (s : Standing) → IsOpen s → s ≢ New
not_new s is_open e = subst IsOpen e is_open
