-- What is found in a capture, by its header and its records.
use Rattle.std.proofs.Common.{◌≡◌, ◌≢◌, ◌⊎◌, ◌∙◌, refl, sym, ap, subst, ℕ, List, drop, Bool, true, false, Option, Some, None, Result, Ok, Err}
use Rattle.pcap.specs.Capture.{opened, opened_by}
use Rattle.pcap.specs.Header.{style_of}
use Rattle.pcap.specs.Next.{End, Whole, Cut, Faulty}
use Rattle.pcap.specs.Reading.{Reading, records}
use Rattle.pcap.specs.Record.{Record}
use Rattle.pcap.specs.declared.text.header.CaptureFault.{CaptureFault}
use Rattle.pcap.specs.declared.text.header.CaptureFault.TheVariants as capture
use Rattle.pcap.specs.declared.text.record.RecordFault.{RecordFault}
use Rattle.pcap.specs.declared.text.style.Style.{Style}
use Rattle.pcap.specs.Counts.{GoesOnBy}
use Rattle.pcap.specs.Source.{Standing, Stream, Open, IsOpened, MatchRead, ReadsHeader, after_end, after_header, answer, ends_cut, style_at}
use Rattle.pcap.specs.Supply.{GivesUp, Supply}
use Rattle.pcap.specs.declared.stream.fault.SourceFault.{SourceFault}
use Rattle.pcap.specs.declared.stream.fault.SourceFault.TheVariants as source
use Rattle.pcap.proofs.Runs.{begins}
use Rattle.pcap.proofs.Refusals.{is_refused, no_answer, told_style}
use Rattle.pcap.specs.Fault.{capture_fault}
use Rattle.timeline.specs.declared.source.Tap.{Tap}
use Rattle.capture_survey.specs.Survey.{Begins, Gives, IsCounted, IsOpen, ReadsAll, ReadsWith, source_fault, surveyed, surveyed_by, surveyed_to}
use Rattle.capture_survey.specs.declared.fault.SurveyFault.{SurveyFault}
use Rattle.capture_survey.specs.declared.fault.SurveyFault.TheVariants as faults
use Rattle.capture_survey.specs.declared.survey.Survey.{Survey}
use Rattle.capture_survey.specs.declared.tally.Tally.{Tally}
use Rattle.capture_survey.proofs.Running.{reads_failed}

abbrev found_fault : SurveyFault → Result Survey SurveyFault
found_fault f = Err f

abbrev found_survey : Survey → Result Survey SurveyFault
found_survey v = Ok v

-- ---- the opening

-- what a source read that opened
record HasOpened (standing : Standing) (header : Result Style CaptureFault) : Type 0 where
  pub style : Style
  pub header_is : header ≡ Ok style
  pub standing_is : standing ≡ Open style None

has_opened : (standing : Standing) (header : Result Style CaptureFault) → standing ≡ after_header header → Ok tt ≡ answer standing → HasOpened standing header
has_opened standing (Ok style) e told = record { style = style; header_is = refl; standing_is = e }
has_opened standing (Err fault) e told = absurd (no_answer (capture_fault fault) (told ∙ ap answer e))

pub has_style : (old new : Stream) → IsOpened {T = Unit {0}} old new (Ok tt) → Ok tt ≡ answer new.standing → style_at new.standing ≡ None → ⊥
has_style old new opened told none =
    let at = has_opened new.standing opened.header opened.standing_is told in no_style at.style (sym (ap style_at at.standing_is) ∙ none)
  where
    no_style : (style : Style) → ◌≡◌ {A = Option Style} (Some style) None → ⊥
    no_style style e = cc

pub begun_open : (old new : Stream) → IsOpened {T = Unit {0}} old new (Ok tt) → Ok tt ≡ answer new.standing → IsOpen new.standing
begun_open old new opened told = let at = has_opened new.standing opened.header opened.standing_is told in subst IsOpen (sym at.standing_is) tt

pub begun_told : (old new : Stream) (style : Style) → IsOpened {T = Unit {0}} old new (Ok tt) → Ok tt ≡ answer new.standing → Some style ≡ style_at new.standing
    → (text : List ℕ) → old.supply.rest ≡ Some text → Begins text new (Ok style)
begun_told old new style opened told style_is text e =
    let at = has_opened new.standing opened.header opened.standing_is told in (
      ok_same style at.style (style_is ∙ ap style_at at.standing_is) ∙ sym at.header_is ∙ told_style _ _ text opened.header e opened.octets,
      begins old new text e opened (sym told),
    )
  where
    ok_same : (a b : Style) → ◌≡◌ {A = Option Style} (Some a) (Some b) → ◌≡◌ {A = Result Style CaptureFault} (Ok a) (Ok b)
    ok_same a b e = cc

-- an opening that failed, by what it read
abbrev Refusal : Stream → Stream → SourceFault → Type 0
Refusal old new fault = MatchRead {T = Unit {0}} (Err fault) (GivesUp old.supply new.supply) (ReadsHeader old.supply new.supply new.standing)

quiet_by : (old new : Stream) (fault : SourceFault) → Refusal old new fault → MatchRead {T = Unit {0}} (Err fault) (GivesUp old.supply new.supply) (new.supply.failures ≡ old.supply.failures)
quiet_by old new source.Read h = h
quiet_by old new source.NotPcap h = h.quiet
quiet_by old new source.BadLink h = h.quiet
quiet_by old new source.TooLarge h = h.quiet
quiet_by old new source.BadFraction h = h.quiet

pub refused_reads : (old new : Stream) (fault : SourceFault) → IsOpened {T = Unit {0}} old new (Err fault) → ReadsWith {T = Style} old.supply new.supply (Err (source_fault 1 fault))
refused_reads old new fault opened = reads_failed Style old.supply old.supply new.supply 1 fault refl (quiet_by old new fault opened)

by_own : (text : List ℕ) (new : Stream) (own : CaptureFault) → style_of text ≡ Err own → Begins text new (Err (source_fault 1 (capture_fault own)))
by_own text new capture.NotPcap e = e
by_own text new capture.BadLink e = e

refused_by : (old new : Stream) (fault : SourceFault) → ReadsHeader old.supply new.supply new.standing → Err fault ≡ answer new.standing
    → (text : List ℕ) → old.supply.rest ≡ Some text → Begins text new (Err (source_fault 1 fault))
refused_by old new fault read told text e =
    let is = is_refused fault new.standing read.header read.standing_is told in
    subst (λ f. Begins text new (Err (source_fault 1 f))) (sym is.fault_is) (by_own text new is.own (sym (told_style _ _ text read.header e read.octets) ∙ is.header_is))

pub refused_told : (old new : Stream) (fault : SourceFault) → IsOpened {T = Unit {0}} old new (Err fault) → Err fault ≡ answer new.standing
    → (text : List ℕ) → old.supply.rest ≡ Some text → Begins text new (Err (source_fault 1 fault))
refused_told old new source.Read opened told text e = tt
refused_told old new source.NotPcap opened told text e = refused_by old new source.NotPcap opened told text e
refused_told old new source.BadLink opened told text e = refused_by old new source.BadLink opened told text e
refused_told old new source.TooLarge opened told text e = refused_by old new source.TooLarge opened told text e
refused_told old new source.BadFraction opened told text e = refused_by old new source.BadFraction opened told text e

pub refusal_found : (tap : Tap) (text : List ℕ) (new : Stream) (fault : SurveyFault) → Begins text new (Err fault) → Gives (Err fault) (surveyed tap text)
unfolding surveyed
refusal_found tap text new faults.Read begun = tt
refusal_found tap text new (faults.Header fault) begun = ap (surveyed_by tap text) begun
refusal_found tap text new (faults.Record n fault) begun = absurd begun

-- ---- the records

-- what the records of a text are, where its style is settled
reading_of : (text : List ℕ) (style : Style) (rs : List Record) (end : End) → Ok style ≡ style_of text → opened text ≡ Ok (record { records = rs; end = end })
    → records style (drop 24 text) ≡ record { records = rs; end = end }
reading_of text style rs end is reading =
    let both : ◌≡◌ {A = Result Reading CaptureFault} (Ok (records style (drop 24 text))) (Ok (record { records = rs; end = end })) = ap (λ (s : Result Style CaptureFault). opened_by s text) is ∙ reading in
    cc

found : (tap : Tap) (text : List ℕ) (style : Style) (rs : List Record) (end : End) → Ok style ≡ style_of text → opened text ≡ Ok (record { records = rs; end = end })
    → surveyed tap text ≡ surveyed_to tap style rs end
unfolding surveyed
found tap text style rs end is reading =
    ap (surveyed_by tap text) (sym is) ∙ ap (λ (r : Reading). surveyed_to tap style r.records r.end) (reading_of text style rs end is reading)

all_found : (tap : Tap) (text : List ℕ) (style : Style) (s : Standing) (t : Tally) → Ok style ≡ style_of text → IsCounted tap text s t
    → Gives (Ok (record { style = style; tally = t; is_cut = ends_cut s })) (surveyed tap text)
all_found tap text style s t is counted = found tap text style counted.rs counted.end is counted.reading ∙ by counted.end counted.no_fault counted.stands
  where
    by : (end : End) → ((fault : RecordFault) → end ≢ Faulty fault) → s ≡ after_end end
        → ◌≡◌ {A = Result Survey SurveyFault} (surveyed_to tap style counted.rs end) (Ok (record { style = style; tally = t; is_cut = ends_cut s }))
    by Whole sound stands =
        ap (λ (t : Tally). found_survey (record { style = style; tally = t; is_cut = false })) (sym counted.tally_is)
        ∙ ap (λ (s : Standing). found_survey (record { style = style; tally = t; is_cut = ends_cut s })) (sym stands)
    by Cut sound stands =
        ap (λ (t : Tally). found_survey (record { style = style; tally = t; is_cut = true })) (sym counted.tally_is)
        ∙ ap (λ (s : Standing). found_survey (record { style = style; tally = t; is_cut = ends_cut s })) (sym stands)
    by (Faulty fault) sound stands = absurd (sound fault refl)

fault_found : (tap : Tap) (text : List ℕ) (style : Style) (s : Standing) (fault : SurveyFault) → Ok style ≡ style_of text → ReadsAll tap text s (Err fault) → Gives (Err fault) (surveyed tap text)
fault_found tap text style s faults.Read is read = tt
fault_found tap text style s (faults.Header fault) is read = absurd read
fault_found tap text style s (faults.Record n fault) is read =
    found tap text style read.rs (Faulty fault) is read.reading ∙ ap (λ (n : ℕ). found_fault (faults.Record n fault)) (sym read.number)

pub all_given : (tap : Tap) (text : List ℕ) (s : Standing) (new : Stream) (style : Style) (t : Tally) (is_cut : Bool) → is_cut ≡ ends_cut s → Begins text new (Ok style)
    → IsCounted tap text s t → Gives (Ok (record { style = style; tally = t; is_cut = is_cut })) (surveyed tap text)
all_given tap text s new style t is_cut cut_is begun counted =
    all_found tap text style s t begun.0 counted ∙ ap (λ (b : Bool). found_survey (record { style = style; tally = t; is_cut = b })) (sym cut_is)

pub fault_given : (tap : Tap) (text : List ℕ) (s : Standing) (new : Stream) (style : Style) (fault : SurveyFault) → Begins text new (Ok style)
    → ReadsAll tap text s (Err fault) → Gives (Err fault) (surveyed tap text)
fault_given tap text s new style fault begun read = fault_found tap text style s fault begun.0 read

-- what was read behind quiet calls
pub since : (A B : Type 0) (start old new : Supply) (fault : SurveyFault) → old.failures ≡ start.failures → ReadsWith {T = A} old new (Err fault) → ReadsWith {T = B} start new (Err fault)
since A B start old new faults.Read quiet h = subst (λ n. GoesOnBy 1 n new.failures ⊎ ((new.failures ≡ n) × (new.reads ≡ 0))) quiet h
since A B start old new (faults.Header fault) quiet h = h ∙ quiet
since A B start old new (faults.Record n fault) quiet h = h ∙ quiet
