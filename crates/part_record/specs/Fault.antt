-- What stands where a fault says that a text is none of a record's. It states no standard.
use Rattle.std.specs.Prelude.{◌≡◌, ◌≢◌, ◌<◌, ◌⊎◌, ℕ, ◌+◌, ◌^◌, Bool, true, List, [], ◌++◌, length, codes, All, None, Some, is_some}
use Rattle.timeline.specs.declared.source.Tap.TheVariants as taps
use Rattle.part_record.specs.Record.{Facts, IsOneLine, IsRecord, before_events, before_underlay, both_line}
use Rattle.part_record.specs.Record.{capture_line, changes_line, events_line, facts_text, first_line}
use Rattle.part_record.specs.Record.{IsOlder, record_text, segments_line, settings_line, with_captures}
use Rattle.part_record.specs.Outputs.{AreOutputs, IsOutput, output_line, output_lines}
use Rattle.part_record.specs.Sum.{IsSum}
use Rattle.part_record.specs.Texts.{AreTexts}
use Rattle.part_record.specs.declared.outputs.OutputFacts.{OutputFacts}
use Rattle.part_record.specs.declared.texts.ToldTexts.{ToldTexts}
use Rattle.part_record.specs.declared.fault.PartRecordFault.{PartRecordFault}
use Rattle.part_record.specs.declared.fault.PartRecordFault.TheVariants as faults

-- a text doesn't begin with the word of the changes' line
abbrev pub LacksChanges : List ℕ → Type 0
LacksChanges text = (behind : List ℕ) → text ≢ codes "changes " ++ behind

-- what is told of a text in which the underlay's capture should stand
abbrev pub IsNoCapture : List ℕ → PartRecordFault → Type 0
IsNoCapture text fault =
    ((behind : List ℕ) × (text ≡ codes "changes " ++ behind) × (fault ≡ faults.Changes))
    ⊎ (LacksChanges text × (fault ≡ faults.Capture))

-- behind the changes and the ports' captures of these facts there is no line that can follow: of the changes, where there are
-- none yet; of the next port's capture, of 255 at most; of the underlay's
pub record LacksNext (f : Facts) (rest : List ℕ) : Type 0 where
  pub changes : f.changes ≡ None → f.ports ≡ [] → (sum behind : List ℕ)
      → IsSum sum → rest ≢ changes_line (Some sum) ++ behind
  pub port : (sum behind : List ℕ) → IsSum sum → length f.ports < 255
      → rest ≢ capture_line (taps.Port (length f.ports + 1)) sum ++ behind
  pub underlay : (sum behind : List ℕ) → IsSum sum → rest ≢ capture_line taps.Underlay sum ++ behind

-- up to the place that the fault names a text has a record's lines, and there it has none that can follow
abbrev pub IsFaultIn : List ℕ → PartRecordFault → Type 0
IsFaultIn text faults.Head = ((both : Bool) (rest : List ℕ) → text ≢ first_line both ++ rest) × ¬ IsOlder text
IsFaultIn text faults.Older = IsOlder text
IsFaultIn text faults.Segments =
    (both : Bool) × (rest : List ℕ) × (text ≡ first_line both ++ rest)
    × ((segments behind : List ℕ) → IsOneLine segments → rest ≢ segments_line segments ++ behind)
IsFaultIn text faults.Settings =
    (both : Bool) × (segments rest : List ℕ) × IsOneLine segments × (text ≡ first_line both ++ segments_line segments ++ rest)
    × ((sum behind : List ℕ) → IsSum sum → rest ≢ settings_line sum ++ behind)
IsFaultIn text faults.Changes =
    (f : Facts) × (rest behind : List ℕ) × IsRecord f × (text ≡ before_underlay f ++ rest)
    × LacksNext f rest × (rest ≡ codes "changes " ++ behind)
IsFaultIn text faults.Capture =
    (f : Facts) × (rest : List ℕ) × IsRecord f × (text ≡ before_underlay f ++ rest) × LacksNext f rest × LacksChanges rest
IsFaultIn text faults.Both =
    (f : Facts) × (rest : List ℕ) × IsRecord f × (is_some f.both ≡ true) × (text ≡ with_captures f ++ rest)
    × ((within : ℕ) (behind : List ℕ) → within < 2 ^ 64 → rest ≢ both_line (Some within) ++ behind)
IsFaultIn text faults.Events =
    (f : Facts) × (rest : List ℕ) × IsRecord f × (text ≡ before_events f ++ rest)
    × ((events : ℕ) (behind : List ℕ) → events < 2 ^ 64 → rest ≢ events_line events ++ behind)
IsFaultIn text faults.Output =
    (f : Facts) × (outputs : List OutputFacts) × (rest : List ℕ)
    × IsRecord f × All IsOutput outputs × (length outputs < length f.ports + 2)
    × (text ≡ facts_text f ++ (output_lines 0 outputs ++ rest))
    × ((o : OutputFacts) (behind : List ℕ) → IsOutput o → rest ≢ output_line (length outputs) o ++ behind)
IsFaultIn text faults.Behind =
    (f : Facts) × (outputs : List OutputFacts) × (texts : ToldTexts) × (rest : List ℕ)
    × IsRecord f × AreOutputs (length f.ports) outputs × AreTexts texts
    × (text ≡ record_text f outputs texts ++ rest) × (rest ≢ [])
