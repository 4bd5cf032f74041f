use Rattle.std.proofs.Common.{◌≡◌, ◌∙◌, ap, sym, subst, List, [], Vec, ℕ, Global, length, map, Err}
use Rattle.std.proofs.lemmas.Result.{err_from_is_err_and}
use Rattle.overlay_config.specs.Change.{changes_in}
use Rattle.overlay_config.specs.Settings.{settings_in}
use Rattle.std.specs.Str.{IsUtf8}
use Rattle.pcap.specs.Written.{written_header}
use Rattle.capture_run.specs.Run.{Gives, run}
use Rattle.explanation.specs.Given.{decisions_of}
use Rattle.explanation.specs.Sample.{settings_text}
use Rattle.explanation.proofs.Accepted.{only_memory, sample_runs}
use Rattle.explanation.proofs.SameRun.{fault_given, same_run}
use Rattle.explanation.proofs.sample.built_in.sample.Goals as goal

-- the run of these texts is the sample's
same_texts : (settings changes : List ℕ) (ports : List (Vec ℕ Global)) (underlay : List ℕ) → settings ≡ settings_text → changes ≡ [] → underlay ≡ written_header
    → run (settings_in settings_text) (changes_in []) ports written_header ≡ run (settings_in settings) (changes_in changes) ports underlay
same_texts settings changes ports underlay s c u =
    ap (λ t. run (settings_in t) (changes_in []) ports written_header) (sym s)
    ∙ ap (λ t. run (settings_in settings) (changes_in t) ports written_header) (sym c)
    ∙ ap (run (settings_in settings) (changes_in changes) ports) (sym u)

pub returns-clause-lines : goal.returns-clause-lines
returns-clause-lines c ports is =
    let same = same_run (settings_in settings_text) (changes_in []) ports c.as_slice.result.now written_header (is ∙ sym (ap (map (λ (v : Vec ℕ Global). v.items)) c.as_slice.ensures.value ∙ c.in_ok-ports.ensures)) in
    let texts = same_texts c.as_bytes.result.now c.as_bytes-2.result.now c.as_slice.result.now c.as_slice-2.result.now c.as_bytes.ensures.value c.as_bytes-2.ensures.value (c.as_slice-2.ensures.value ∙ c.in_ok-underlay.ensures) in
    ap decisions_of (same ∙ texts ∙ c.in_ok-outputs.ensures)

pub returns-in_err-outputs-clause-lines : goal.returns-in_err-outputs-clause-lines
returns-in_err-outputs-clause-lines c ports is =
    let p = err_from_is_err_and c.from_residual-in_err-outputs.result c.from_residual-in_err-outputs.ensures.1 in
    let fault = c.in_err-outputs.field-0.0 in
    let same = same_run (settings_in settings_text) (changes_in []) ports c.as_slice.result.now written_header (is ∙ sym (ap (map (λ (v : Vec ℕ Global). v.items)) c.as_slice.ensures.value ∙ c.in_ok-ports.ensures)) in
    let texts = same_texts c.as_bytes.result.now c.as_bytes-2.result.now c.as_slice.result.now c.as_slice-2.result.now c.as_bytes.ensures.value c.as_bytes-2.ensures.value (c.as_slice-2.ensures.value ∙ c.in_ok-underlay.ensures) in
    rw (p.1, p.2) (fault_given fault (run (settings_in settings_text) (changes_in []) ports written_header) (subst (Gives (Err fault)) (sym (same ∙ texts)) c.in_err-outputs.ensures))

pub returns-in_err-outputs-clause-accepted : goal.returns-in_err-outputs-clause-accepted
returns-in_err-outputs-clause-accepted c =
    let p = err_from_is_err_and c.from_residual-in_err-outputs.result c.from_residual-in_err-outputs.ensures.1 in
    let fault = c.in_err-outputs.field-0.0 in
    let texts = same_texts c.as_bytes.result.now c.as_bytes-2.result.now c.as_slice.result.now c.as_slice-2.result.now c.as_bytes.ensures.value c.as_bytes-2.ensures.value (c.as_slice-2.ensures.value ∙ c.in_ok-underlay.ensures) in
    let runs = sample_runs c.as_slice.result.now (subst IsUtf8 c.as_bytes.ensures.value c.as_bytes.ensures.utf8) (ap (map (λ (v : Vec ℕ Global). v.items)) c.as_slice.ensures.value ∙ c.in_ok-ports.ensures) in
    rw (p.1, p.2) (only_memory fault (run (settings_in settings_text) (changes_in []) c.as_slice.result.now written_header) runs.0 (length c.as_slice.result.now) runs.1 runs.2 (subst (Gives (Err fault)) (sym texts) c.in_err-outputs.ensures))
