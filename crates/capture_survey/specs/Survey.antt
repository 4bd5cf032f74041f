-- What is in a capture, by its octets. It states no standard.
--     surveyed      what is in a capture, or why it isn't read
--     Gives      an answer is that, unless a read failed
--     ReadsWith      no read failed, or the source gave up
use Rattle.std.specs.Prelude.{◌≡◌, ◌≢◌, ⊤, ℕ, ◌+◌, List, [], length, drop, Bool, true, false, Result, Ok, Err}
use Rattle.pcap.specs.Capture.{opened}
use Rattle.pcap.specs.Header.{style_of}
use Rattle.pcap.specs.Next.{End, Whole, Cut, Faulty}
use Rattle.pcap.specs.Reading.{Reading, records}
use Rattle.pcap.specs.Record.{Record}
use Rattle.pcap.specs.declared.text.header.CaptureFault.{CaptureFault}
use Rattle.pcap.specs.declared.text.header.CaptureFault.TheVariants as capture
use Rattle.pcap.specs.declared.text.record.RecordFault.{RecordFault}
use Rattle.pcap.specs.declared.text.record.RecordFault.TheVariants as record_
use Rattle.pcap.specs.declared.text.style.Style.{Style}
use Rattle.pcap.specs.InTurn.{IsReading}
use Rattle.pcap.specs.Source.{Standing, Stream, New, Open, Ended, Failed, after_end}
use Rattle.pcap.specs.Supply.{GivesUp, Supply}
use Rattle.pcap.specs.declared.stream.fault.SourceFault.{SourceFault}
use Rattle.pcap.specs.declared.stream.fault.SourceFault.TheVariants as source
use Rattle.timeline.specs.declared.source.Tap.{Tap}
use Rattle.capture_survey.specs.Tally.{tally_of}
use Rattle.capture_survey.specs.declared.fault.SurveyFault.{SurveyFault}
use Rattle.capture_survey.specs.declared.fault.SurveyFault.TheVariants as faults
use Rattle.capture_survey.specs.declared.survey.Survey.{Survey}
use Rattle.capture_survey.specs.declared.tally.Tally.{Tally}

-- the fault of a source at its record of this number
abbrev pub source_fault : ℕ → SourceFault → SurveyFault
source_fault n source.Read = faults.Read
source_fault n source.NotPcap = faults.Header capture.NotPcap
source_fault n source.BadLink = faults.Header capture.BadLink
source_fault n source.TooLarge = faults.Record n record_.TooLarge
source_fault n source.BadFraction = faults.Record n record_.BadFraction

-- ---- what is in a capture

-- some records, and whether a rest stands behind them that is no whole one
abbrev pub survey_of : Tap → Style → List Record → Bool → Survey
survey_of tap style rs is_cut = record { style = style; tally = tally_of tap rs; is_cut = is_cut }

-- by how the records end; a fault is that of the record behind them
abbrev pub surveyed_to : Tap → Style → List Record → End → Result Survey SurveyFault
surveyed_to tap style rs Whole = Ok (survey_of tap style rs false)
surveyed_to tap style rs Cut = Ok (survey_of tap style rs true)
surveyed_to tap style rs (Faulty fault) = Err (faults.Record (length rs + 1) fault)

-- by the records, and how they end
abbrev pub survey_reading : Tap → Style → Reading → Result Survey SurveyFault
survey_reading tap style reading = surveyed_to tap style reading.records reading.end

-- by the header
abbrev pub surveyed_by : Tap → List ℕ → Result Style CaptureFault → Result Survey SurveyFault
surveyed_by tap text (Err fault) = Err (faults.Header fault)
surveyed_by tap text (Ok style) = survey_reading tap style (records style (drop 24 text))

-- what is in the capture of a tap, or the fault that a run stops at
unfoldable pub surveyed : Tap → List ℕ → Result Survey SurveyFault
surveyed tap text = surveyed_by tap text (style_of text)

-- an answer is what is found, unless a read failed
abbrev pub Gives : Result Survey SurveyFault → Result Survey SurveyFault → Type 0
Gives (Ok survey) found = found ≡ Ok survey
Gives (Err faults.Read) found = ⊤
Gives (Err (faults.Header fault)) found = found ≡ Err (faults.Header fault)
Gives (Err (faults.Record n fault)) found = found ≡ Err (faults.Record n fault)

-- ---- the source

-- a source that can be asked for another record
abbrev pub IsOpen : Standing → Type 0
IsOpen New = ⊥
IsOpen (Open style last) = ⊤
IsOpen (Ended is_cut) = ⊥
IsOpen (Failed fault) = ⊥

-- a source whose capture's header was read, before its records; or why it is refused
abbrev pub Begins : List ℕ → Stream → Result Style SurveyFault → Type 0
Begins text new (Ok style) = (Ok style ≡ style_of text) × IsReading text [] new
Begins text new (Err faults.Read) = ⊤
Begins text new (Err (faults.Header fault)) = style_of text ≡ Err fault
Begins text new (Err (faults.Record n fault)) = ⊥

module _ {T : Type 0} where
  -- no read failed, or the source gave up
  abbrev pub ReadsWith : Supply → Supply → Result T SurveyFault → Type 0
  ReadsWith old new (Ok x) = new.failures ≡ old.failures
  ReadsWith old new (Err faults.Read) = GivesUp old new
  ReadsWith old new (Err (faults.Header fault)) = new.failures ≡ old.failures
  ReadsWith old new (Err (faults.Record n fault)) = new.failures ≡ old.failures

-- all records of a capture were counted, and its source stands behind them
pub record IsCounted (tap : Tap) (text : List ℕ) (standing : Standing) (tally : Tally) : Type 0 where
  pub rs : List Record
  pub end : End
  pub reading : opened text ≡ Ok (record { records = rs; end = end })
  pub tally_is : tally ≡ tally_of tap rs
  pub no_fault : (fault : RecordFault) → end ≢ Faulty fault
  pub stands : standing ≡ after_end end

-- behind n - 1 whole records of a capture stands one with this fault
pub record IsFaulty (text : List ℕ) (n : ℕ) (fault : RecordFault) : Type 0 where
  pub rs : List Record
  pub reading : opened text ≡ Ok (record { records = rs; end = Faulty fault })
  pub number : n ≡ length rs + 1

-- what a reading of all records answers
abbrev pub ReadsAll : Tap → List ℕ → Standing → Result Tally SurveyFault → Type 0
ReadsAll tap text standing (Ok tally) = IsCounted tap text standing tally
ReadsAll tap text standing (Err faults.Read) = ⊤
ReadsAll tap text standing (Err (faults.Header fault)) = ⊥
ReadsAll tap text standing (Err (faults.Record n fault)) = IsFaulty text n fault
