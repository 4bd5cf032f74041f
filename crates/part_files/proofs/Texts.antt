-- The texts of a whole run are such as a merge reads back.
use Rattle.std.proofs.Common.{◌≡◌, sym, subst, ℕ, ◌≤◌, arith, List, [], length, map, Vec, Ok}
use Rattle.std.specs.List.{AllByRecursion, zip}
use Rattle.std.specs.declared.alloc.Global.{Global}
use Rattle.timeline.specs.Timeline.{Timeline, told}
use Rattle.decision_lines.specs.Lines.{cut_line}
use Rattle.overlay_config.specs.Change.{changes_in}
use Rattle.overlay_config.specs.Settings.{settings_in}
use Rattle.overlay_config.proofs.Meets.{texts_meet}
use Rattle.overlay.specs.Settings.{Settings as Rules}
use Rattle.overlay.specs.declared.settings.change.Change.{Change}
use Rattle.overlay.specs.declared.settings.change.TimedChange.{TimedChange}
use Rattle.endpoint_core.specs.Opened.{settings_told}
use Rattle.endpoint_core.specs.Step.{Answer, answers, opened}
use Rattle.endpoint_core.specs.Run.{decisions}
use Rattle.endpoint_core.proofs.Runs.{answers-decisions}
use Rattle.capture_run.specs.Outputs.{event_of}
use Rattle.capture_run.proofs.Growing.{rising_events}
use Rattle.mesh_delivery.proofs.Underlays.{underlay-kept}
use Rattle.noninterference.proofs.Lists.{all-map}
use Rattle.part_merge.specs.Coming.{AreTexts, IsPiece}
use Rattle.segment_parts.specs.Pieces.{IsAsked, Told, all_pieces, pieces_of, told_from}
use Rattle.segment_parts.proofs.ChangeRows.{IsTimed, all-changes}
use Rattle.segment_parts.proofs.ChangeTexts.{text-names}
use Rattle.segment_parts.proofs.Vids.{told-asked, vids-told}
use Rattle.part_files.specs.Files.{AreCounted, AreOctets}
use Rattle.part_files.proofs.Beginning.{knows-opened}
use Rattle.part_files.proofs.ChangeTexts.{text-timed}
use Rattle.part_files.proofs.Coming.{IsMoment, coming-told, cuts-coming, cuts-told, rising-told}
use Rattle.part_files.proofs.Knowing.{Knows}
use Rattle.part_files.proofs.Remotes.{HasAddr}
use Rattle.part_files.proofs.Telling.{cuts-read, pieces-read}

-- each event's line tells its number and where its records stand, each cut capture's that it is one, and there are no
-- more of these than a merge takes
pub record AreReadable (ports : ℕ) (s : Rules) (changes : List TimedChange) (timeline : Timeline) : Type 0 where
  pub texts : AreTexts ports (all_pieces (pieces_of (settings_told s) (map (λ (c : TimedChange). c.change) changes) timeline)) (map cut_line timeline.cuts)
  pub few : length timeline.cuts ≤ 256

-- the texts of a run with the settings and the changes of these texts, over captures of these octets, are so
abbrev pub ReadsBack : List ℕ → List ℕ → List (Vec ℕ Global) → List ℕ → Type 0
ReadsBack settings changes texts text =
    (s : Rules) (cs : List TimedChange) (timeline : Timeline) → settings_in settings ≡ Ok s → changes_in changes ≡ Ok cs
    → told (map (λ (c : TimedChange). c.at) cs) texts text ≡ Ok timeline → length texts ≡ length s.ports → AreReadable (length texts) s cs timeline

early : (cs : List TimedChange) → AllByRecursion (IsTimed HasAddr) cs → AllByRecursion IsMoment (map (λ (c : TimedChange). c.at) cs)
early = all-map (IsTimed HasAddr) IsMoment (λ (c : TimedChange). c.at) (λ c timed. timed.1)

pub reads-back : (settings changes : List ℕ) (texts : List (Vec ℕ Global)) (text : List ℕ) → AreOctets texts text → AreCounted changes texts text → ReadsBack settings changes texts text
reads-back settings changes texts text octets counted s cs timeline settings_are changes_are read many =
    let rules = texts_meet settings s settings_are in
    let few : length texts ≤ 255 = omega (arith, many, rules.port_count.1, rules.underlay.port_limit.1) in
    let timed = text-timed changes cs changes_are in
    let moments = map (λ (c : TimedChange). c.at) cs in
    let asked_changes : List Change = map (λ (c : TimedChange). c.change) cs in
    let S = settings_told s in
    let es = timeline.events in
    let fits = counted cs timeline changes_are read in
    let rising = rising-told moments texts text timeline read in
    let coming = coming-told moments texts text timeline read octets.0 octets.1 (early cs timed) in
    let same : answers (opened S) (map (event_of asked_changes) es) ≡ decisions S [] (map (event_of asked_changes) es) =
    answers-decisions S [] (map (event_of asked_changes) es) (rising_events asked_changes 0 es rising) in
    let asked = told-asked S asked_changes (vids-told s rules) (text-names changes cs changes_are) es in
    record {
      texts = record {
        of_events = subst (λ (found : List Answer). AllByRecursion (IsPiece (length texts)) (all_pieces (told_from asked_changes 0 (zip es found)))) same
            (pieces-read asked_changes (length texts) s.underlay (opened S) es few (underlay-kept s.underlay rules.underlay) fits (all-changes HasAddr cs timed)
            (subst (λ (n : ℕ). Knows n s.underlay (opened S).bridges) (sym many) (knows-opened s rules)) coming
            (subst (λ (found : List Answer). AllByRecursion (λ (t : Told). IsAsked t.segment) (told_from asked_changes 0 (zip es found))) (sym same) asked));
        of_cuts = cuts-read (length texts) (length es) timeline.cuts few fits (cuts-coming moments texts text timeline read octets.0 octets.1);
      };
      few = omega (arith, few, cuts-told moments texts text timeline read);
    }
