-- A run depends on the octets of its captures alone.
use Rattle.std.proofs.Common.{◌≡◌, ◌∙◌, refl, sym, ap, ℕ, ◌+◌, ◌==◌, if◌then◌else◌, List, [], ◌∷◌, length, map, Vec, Global, Result, Ok, Err}
use Rattle.std.proofs.lemmas.List.{length-map}
use Rattle.overlay_config.specs.Fault.{Meaning}
use Rattle.overlay_config.specs.Settings.{Settings}
use Rattle.overlay.specs.declared.settings.change.TimedChange.{TimedChange}
use Rattle.timeline.specs.Events.{all_events}
use Rattle.timeline.specs.Faults.{faults_of}
use Rattle.timeline.specs.Inputs.{Input, inputs, inputs_from, opened_captures}
use Rattle.timeline.specs.Order.{merged}
use Rattle.timeline.specs.Timeline.{Timeline, told, if_faultless, cuts_of}
use Rattle.timeline.specs.declared.fault.TimelineFault.{TimelineFault}
use Rattle.timeline.specs.declared.source.Tap.TheVariants.{Port, Underlay}
use Rattle.capture_run.specs.Outputs.{Outputs}
use Rattle.capture_run.specs.Run.{Gives, run, by_timeline}
use Rattle.capture_run.specs.declared.fault.RunFault.{RunFault}
use Rattle.capture_run.specs.declared.fault.RunFault.TheVariants as faults
use Rattle.explanation.specs.Explanation.{Gives as GivesText}
use Rattle.explanation.specs.Given.{decisions_of}

-- ---- captures by their octets

inputs_by : ℕ → List (List ℕ) → List ℕ → List Input
inputs_by port [] underlay = record { tap = Underlay; text = underlay } ∷ []
inputs_by port (text ∷ texts) underlay = record { tap = Port port; text = text } ∷ inputs_by (port + 1) texts underlay

inputs_are : (port : ℕ) (vs : List (Vec ℕ Global)) (underlay : List ℕ) → inputs_from port vs underlay ≡ inputs_by port (map (λ v. v.items) vs) underlay
unfolding inputs_by
inputs_are port [] underlay = refl
inputs_are port (v ∷ vs) underlay = ap (λ is. record { tap = Port port; text = v.items } ∷ is) (inputs_are (port + 1) vs underlay)

told_by : List ℕ → List Input → Result Timeline TimelineFault
told_by changes inputs =
    let captures = opened_captures inputs in
    if_faultless (faults_of inputs) (record { events = merged (all_events changes captures); cuts = cuts_of captures })

told_is : (changes : List ℕ) (vs : List (Vec ℕ Global)) (underlay : List ℕ) → told changes vs underlay ≡ told_by changes (inputs vs underlay)
unfolding told told_by
told_is changes vs underlay = refl

same_told : (changes : List ℕ) (vs ws : List (Vec ℕ Global)) (underlay : List ℕ) → map (λ v. v.items) vs ≡ map (λ v. v.items) ws → told changes vs underlay ≡ told changes ws underlay
same_told changes vs ws underlay same =
    told_is changes vs underlay
    ∙ ap (told_by changes) (inputs_are 1 vs underlay ∙ ap (λ texts. inputs_by 1 texts underlay) same ∙ sym (inputs_are 1 ws underlay))
    ∙ sym (told_is changes ws underlay)

same_count : (vs ws : List (Vec ℕ Global)) → map (λ v. v.items) vs ≡ map (λ v. v.items) ws → length vs ≡ length ws
same_count vs ws same = sym (length-map vs (λ v. v.items)) ∙ ap length same ∙ length-map ws (λ v. v.items)

with_told : Settings → List TimedChange → ℕ → Result Timeline TimelineFault → Result Outputs RunFault
with_told s changes ports timeline = if ports == length s.ports then by_timeline s changes ports timeline else Err faults.PortCount

with_told_is : (s : Settings) (changes : List TimedChange) (vs : List (Vec ℕ Global)) (underlay : List ℕ)
    → run (Ok s) (Ok changes) vs underlay ≡ with_told s changes (length vs) (told (map (λ c. c.at) changes) vs underlay)
unfolding with_told
with_told_is s changes vs underlay = refl

pub same_run : (s : Meaning Settings) (c : Meaning (List TimedChange)) (vs ws : List (Vec ℕ Global)) (underlay : List ℕ)
    → map (λ v. v.items) vs ≡ map (λ v. v.items) ws → run s c vs underlay ≡ run s c ws underlay
same_run (Err fault) c vs ws underlay same = refl
same_run (Ok s) (Err fault) vs ws underlay same = refl
same_run (Ok s) (Ok changes) vs ws underlay same =
    let moments = map (λ (c : TimedChange). c.at) changes in
    with_told_is s changes vs underlay
    ∙ ap (λ n. with_told s changes n (told moments vs underlay)) (same_count vs ws same)
    ∙ ap (with_told s changes (length ws)) (same_told moments vs ws underlay same)
    ∙ sym (with_told_is s changes ws underlay)

-- ---- of what a run gives, the decision lines

pub fault_given : (fault : RunFault) (found : Result Outputs RunFault) → Gives (Err fault) found → GivesText (Err fault) (decisions_of found)
fault_given (faults.Settings fault) found h = ap decisions_of h
fault_given (faults.Changes fault) found h = ap decisions_of h
fault_given faults.PortCount found h = ap decisions_of h
fault_given (faults.Capture tap fault) found h = ap decisions_of h
fault_given (faults.Record tap number fault) found h = ap decisions_of h
fault_given faults.OutOfMemory found h = tt
