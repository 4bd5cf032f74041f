-- Two runs that agree, source by source, in what comes to a segment.
use Rattle.std.proofs.Common.{◌≡◌, ◌∙◌, sym, ap, ℕ, List, map, filter}
use Rattle.timeline.specs.Timeline.{Timeline}
use Rattle.timeline.specs.declared.source.Source.{Source}
use Rattle.timeline.specs.declared.source.Tap.{Tap}
use Rattle.overlay.specs.Settings.{Settings as Told}
use Rattle.endpoint_core.specs.Opened.{settings_told}
use Rattle.endpoint_core.specs.Event.{IsRising}
use Rattle.endpoint_core.specs.Step.{opened}
use Rattle.capture_run.specs.Outputs.{Outputs}
use Rattle.capture_run.specs.Sendings.{record_of}
use Rattle.noninterference.specs.Alone.{is_segment, only}
use Rattle.noninterference.specs.Coming.{Inputs, IsRunOf, changes_of, coming, coming_to}
use Rattle.noninterference.specs.Leaving.{Row, rows_of, Departure, departures, departures_in, lines_in, leaves_at, records_in}
use Rattle.noninterference.proofs.Lists.{filter-both}
use Rattle.noninterference.proofs.Merging.{coming-rises, coming-turns}
use Rattle.noninterference.proofs.Segments.{leaving-same, lines-same}
use Rattle.noninterference.proofs.Turns.{Before, InTurn, same_by_source, turn-only}

rises : (s : Told) (x : Inputs) (l : Timeline) (o : Outputs) → IsRunOf s x l o → IsRising 0 (coming x l)
rises s x l o is = coming-rises (changes_of x) (map (λ c. c.at) x.changes) x.ports x.underlay l is.read

turns : (vid : ℕ) (s : Told) (x : Inputs) (l : Timeline) (o : Outputs) → IsRunOf s x l o → InTurn Before (only vid (opened (settings_told s)) (coming x l))
turns vid s x l o is =
    turn-only Before vid (opened (settings_told s)) (coming x l) (coming-turns (changes_of x) (map (λ c. c.at) x.changes) x.ports x.underlay l is.read)

-- what concerns the segment is the same in both
only-same : (vid : ℕ) (s : Told) (x y : Inputs) (l m : Timeline) (o p : Outputs) → IsRunOf s x l o → IsRunOf s y m p
    → ((source : Source) → coming_to vid s x l source ≡ coming_to vid s y m source)
    → only vid (opened (settings_told s)) (coming x l) ≡ only vid (opened (settings_told s)) (coming y m)
only-same vid s x y l m o p is other same =
    same_by_source (only vid (opened (settings_told s)) (coming x l)) (only vid (opened (settings_told s)) (coming y m)) (turns vid s x l o is) (turns vid s y m p other) same

-- of an output the records that leave in the segment
records_by : (vid : ℕ) (output : Tap) (rs : List Row) → map (λ (d : Departure). record_of d.sending) (filter (λ d. leaves_at output d.sending) (departures_in vid rs)) ≡ records_in vid output (departures rs)
records_by vid output rs =
    ap (map (λ (d : Departure). record_of d.sending)) (filter-both (λ (d : Departure). leaves_at output d.sending) (λ (d : Departure). is_segment vid d.segment) (departures rs))

pub records-same : (vid : ℕ) (s : Told) (x y : Inputs) (l m : Timeline) (o p : Outputs) → IsRunOf s x l o → IsRunOf s y m p
    → ((source : Source) → coming_to vid s x l source ≡ coming_to vid s y m source) → (output : Tap)
    → records_in vid output (departures (rows_of s x l)) ≡ records_in vid output (departures (rows_of s y m))
records-same vid s x y l m o p is other same output =
    sym (records_by vid output (rows_of s x l))
    ∙ ap (λ ds. map (λ (d : Departure). record_of d.sending) (filter (λ d. leaves_at output d.sending) ds))
    (leaving-same vid (settings_told s) (coming x l) (coming y m) (rises s x l o is) (rises s y m p other) (only-same vid s x y l m o p is other same))
    ∙ records_by vid output (rows_of s y m)

pub told-same : (vid : ℕ) (s : Told) (x y : Inputs) (l m : Timeline) (o p : Outputs) → IsRunOf s x l o → IsRunOf s y m p
    → ((source : Source) → coming_to vid s x l source ≡ coming_to vid s y m source) → lines_in vid (rows_of s x l) ≡ lines_in vid (rows_of s y m)
told-same vid s x y l m o p is other same =
    lines-same vid (settings_told s) (coming x l) (coming y m) (rises s x l o is) (rises s y m p other) (only-same vid s x y l m o p is other same)
