use Rattle.std.proofs.Common.{◌≡◌, ◌∙◌, ap, sym, subst, length, map, ◌==◌, false, true, Vec, Global, Ok, Err}
use Rattle.std.proofs.lemmas.Bool.{ne_eqb, eq-eqb}
use Rattle.overlay_config.specs.Settings.{Settings, settings_in}
use Rattle.overlay_config.specs.Change.{changes_in}
use Rattle.overlay.specs.declared.settings.change.TimedChange.{TimedChange}
use Rattle.timeline.specs.Timeline as timeline
use Rattle.timeline.specs.Timeline.{told}
use Rattle.endpoint_core.specs.Opened.{settings_told}
use Rattle.capture_run.specs.Fault.{of_timeline}
use Rattle.capture_run.specs.Outputs.{outputs}
use Rattle.capture_run.specs.Run.{Gives, run, by_timeline}
use Rattle.capture_run.proofs.Faults.{settings_fault, changes_fault, timeline_fault, port_count_fault, ports_counted}
use Rattle.capture_run.proofs.run.run_bytes.Goals.{After-read}
use Rattle.capture_run.proofs.run.run_bytes.Goals as goal

pub returns-in-Err : goal.returns-in-Err
returns-in-Err c =
    let s = settings_in c.args.settings.now in
    let changes = changes_in c.args.changes.now in
    subst (λ f. Gives (Err f) (run s changes c.args.ports.now c.args.underlay.now)) (sym c.of_settings.ensures)
    (settings_fault (λ (x : Settings). x) c.in-Err.fault s changes c.args.ports.now c.args.underlay.now c.in-Err.ensures)

pub returns-in-Err-changes_of : goal.returns-in-Err-changes_of
returns-in-Err-changes_of c =
    let changes = changes_in c.args.changes.now in
    subst (λ m. Gives (Err c.of_changes.result) (run m changes c.args.ports.now c.args.underlay.now)) (sym c.in-Ok.ensures)
    (subst (λ f. Gives (Err f) (run (Ok c.in-Ok.settings) changes c.args.ports.now c.args.underlay.now)) (sym c.of_changes.ensures)
    (changes_fault (λ (v : Vec TimedChange Global). v.items) c.in-Err-changes_of.fault c.in-Ok.settings changes c.args.ports.now c.args.underlay.now c.in-Err-changes_of.ensures.value))

pub returns-then-ports : goal.returns-then-ports
returns-then-ports c =
    let apart : (length c.args.ports.now == length c.in-Ok.settings.ports) ≡ false = ne_eqb _ _ (λ e. c.if-ports.true (e ∙ sym (ap length c.ports.ensures.value))) in
    ap (λ m. run m (changes_in c.args.changes.now) c.args.ports.now c.args.underlay.now) c.in-Ok.ensures
    ∙ ap (λ m. run (Ok c.in-Ok.settings) m c.args.ports.now c.args.underlay.now) c.in-Ok-changes_of.ensures.value
    ∙ port_count_fault c.in-Ok.settings c.in-Ok-changes_of.changes.items c.args.ports.now c.args.underlay.now apart

-- the run is that of the events that are read
read_run : (c : After-read) → run (settings_in c.args.settings.now) (changes_in c.args.changes.now) c.args.ports.now c.args.underlay.now
    ≡ by_timeline c.in-Ok.settings c.in-Ok-changes_of.changes.items (length c.args.ports.now) (told (map (λ (t : TimedChange). t.at) c.in-Ok-changes_of.changes.items) c.args.ports.now c.args.underlay.now)
read_run c =
    let same : (length c.args.ports.now == length c.in-Ok.settings.ports) ≡ true = eq-eqb _ _ (c.if-ports.false ∙ ap length c.ports.ensures.value) in
    ap (λ m. run m (changes_in c.args.changes.now) c.args.ports.now c.args.underlay.now) c.in-Ok.ensures
    ∙ ap (λ m. run (Ok c.in-Ok.settings) m c.args.ports.now c.args.underlay.now) c.in-Ok-changes_of.ensures.value
    ∙ ports_counted c.in-Ok.settings c.in-Ok-changes_of.changes.items c.args.ports.now c.args.underlay.now same

-- with the changes at their moments
moments_are : (c : After-read) → c.as_slice-2.result.now ≡ map (λ (t : TimedChange). t.at) c.in-Ok-changes_of.changes.items
moments_are c = c.as_slice-2.ensures.value ∙ c.in_ok-moments.ensures ∙ ap (map (λ (t : TimedChange). t.at)) c.as_slice.ensures.value

pub returns-in-Err-read : goal.returns-in-Err-read
returns-in-Err-read c =
    let step = (goal.at.returns-in-Err-read c).After-read in
    let ports = c.args.ports.now in
    let underlay = c.args.underlay.now in
    let read = c.in-Ok-changes_of.changes.items in
    let found = subst (λ ms. timeline.Gives (Err c.in-Err-read.fault) (told ms ports underlay)) (moments_are step) c.in-Err-read.ensures.told in
    subst (λ f. Gives (Err f) (run (settings_in c.args.settings.now) (changes_in c.args.changes.now) ports underlay)) (sym c.of_captures.ensures)
    (subst (Gives (Err (of_timeline c.in-Err-read.fault))) (sym (read_run step))
    (timeline_fault c.in-Err-read.fault c.in-Ok.settings read (length ports) (told (map (λ (t : TimedChange). t.at) read) ports underlay) found))

pub returns : goal.returns
returns c =
    let step = (goal.at.returns c).After-read in
    let found = subst (λ ms. timeline.Gives (Ok c.in-Ok-read.timeline) (told ms c.args.ports.now c.args.underlay.now)) (moments_are step) c.in-Ok-read.ensures.told in
    read_run step ∙ ap (by_timeline c.in-Ok.settings c.in-Ok-changes_of.changes.items (length c.args.ports.now)) found
    ∙ ap Ok (sym (c.in_ok-outputs.ensures ∙ ap (λ cs. outputs (settings_told c.in-Ok.settings) (map (λ (t : TimedChange). t.change) cs) (length c.args.ports.now) c.in-Ok-read.timeline) c.as_slice-3.ensures.value))
