use Rattle.std.proofs.Common.{◌≡◌, ◌∙◌, ◌==◌, ap, arith, sym, subst, length, false, true, List, Ok, Err}
use Rattle.std.proofs.lemmas.Bool.{ne_eqb, eq-eqb}
use Rattle.overlay_config.specs.Change.{changes_in}
use Rattle.overlay_config.specs.Fault.{Meaning}
use Rattle.overlay_config.specs.Settings.{Settings, settings_in}
use Rattle.overlay.specs.declared.settings.change.TimedChange.{TimedChange}
use Rattle.endpoint_core.specs.Opened.{settings_told}
use Rattle.capture_run.proofs.Faults.{port_count_fault}
use Rattle.capture_run.specs.declared.fault.RunFault.TheVariants as faults
use Rattle.stream_run.specs.Done.{IsDone}
use Rattle.stream_run.specs.Left.{AnswersSieved, ends}
use Rattle.stream_run.specs.Over.{IsRunOverSieved}
use Rattle.stream_run.specs.Reached.{IsReachedOverSieved}
use Rattle.stream_run.specs.Watched.{GoesOver, IsShownSieved, IsWatchedOverSieved}
use Rattle.stream_run.specs.declared.fault.StreamFault.TheVariants as stream
use Rattle.stream_run.proofs.Framing.{none_at, timely, writes_by}
use Rattle.stream_run.proofs.Overall.{over_refusal, reach_refusal, seen_refusal, tells_texts}
use Rattle.stream_run.proofs.Refusing.{count_refused, counted}
use Rattle.stream_run.proofs.Showing.{shows_counted, shows_refused}
use Rattle.stream_run.proofs.runs.run.Given.{Over}
use Rattle.stream_run.proofs.runs.run.Goals.{After-run_with}
use Rattle.stream_run.proofs.runs.run.Goals as goal

-- what holds of the settings and the changes that were read holds by what their texts mean
meant : (g : Over) (c : After-run_with g) (P : Meaning Settings → Meaning (List TimedChange) → Type 0) → P (Ok c.args.job.settings) (Ok c.args.job.changes.now) → P (settings_in c.args.job.settings_text.now) (changes_in c.args.job.changes_text.now)
meant g c P h = subst (λ m. P m (changes_in c.args.job.changes_text.now)) (sym c.requires.settings) (subst (P (Ok c.args.job.settings)) (sym c.requires.told) h)

-- as many captures as ports are there
as_many : (g : Over) (c : After-run_with g) → (length c.args.captures.now.ports.items == length c.args.job.settings.ports) ≡ true
as_many g c = eq-eqb _ _ (sym c.args.captures.now.ports.ok.0 ∙ sym c.len.ensures ∙ c.if-len-ports.false ∙ ap length c.ports.ensures.value)

-- the run with them is done
done : (g : Over) (c : After-run_with g)
    → IsDone c.args.job.segments.now g.S.Sieve.taken g.S.Sieve.goes g.T.Watch.sees g.T.Watch.ends c.args.job.settings c.args.job.changes.now c.args.captures.now.ports.items c.args.captures.now.underlay c.run_with.new.captures.ports.items c.run_with.new.captures.underlay
    c.args.outputs.now
    c.run_with.new.outputs
    c.args.sieve.now c.run_with.new.sieve c.args.watch.now c.run_with.new.watch c.run_with.result
done g c = c.run_with.ensures.done

pub returns-then-len-ports-clause-run : goal.returns-then-len-ports-clause-run
returns-then-len-ports-clause-run g c =
    let changes = changes_in c.args.job.changes_text.now in
    let e = ends c.args.captures.now.ports.items c.args.captures.now.underlay c.args.outputs.now in
    let apart : (length c.args.captures.now.ports.items == length c.args.job.settings.ports) ≡ false = ne_eqb _ _ (λ e. c.if-len-ports.true (c.len.ensures ∙ c.args.captures.now.ports.ok.0 ∙ e ∙ sym (ap length c.ports.ensures.value))) in
    subst (λ m. AnswersSieved (g.S.Sieve.taken c.args.sieve.now (settings_told c.args.job.settings) c.args.job.changes.now) c.args.job.segments.now m changes e e (Err (stream.Run faults.PortCount))) (sym c.requires.settings)
    (subst (λ m. AnswersSieved (g.S.Sieve.taken c.args.sieve.now (settings_told c.args.job.settings) c.args.job.changes.now) c.args.job.segments.now (Ok c.args.job.settings) m e e (Err (stream.Run faults.PortCount))) (sym c.requires.told) (count_refused (g.S.Sieve.taken c.args.sieve.now (settings_told c.args.job.settings) c.args.job.changes.now) (g.S.Sieve.none c.args.sieve.now (settings_told c.args.job.settings) c.args.job.changes.now) c.args.job.segments.now c.args.job.settings c.args.job.changes.now e apart))

pub run_with-requires-clause-few : goal.run_with-requires-clause-few
run_with-requires-clause-few g c = omega (arith, c.if-len-ports.false, c.len.ensures, c.args.captures.now.ports.ok.0, ap length c.ports.ensures.value, c.ports.ensures.rules.port_count.1, c.ports.ensures.rules.underlay.port_limit.1)

pub run_with-requires-clause-timely : goal.run_with-requires-clause-timely
run_with-requires-clause-timely g c = timely c.args.job.changes.now c.requires.rising

pub returns-clause-run : goal.returns-clause-run
returns-clause-run g c =
    let w = (goal.at.returns-clause-run g c).After-run_with in
    let old = ends c.args.captures.now.ports.items c.args.captures.now.underlay c.args.outputs.now in
    let new = ends c.run_with.new.captures.ports.items c.run_with.new.captures.underlay c.run_with.new.outputs in
    meant g w (λ m k. AnswersSieved (g.S.Sieve.taken c.args.sieve.now (settings_told c.args.job.settings) c.args.job.changes.now) c.args.job.segments.now m k old new c.run_with.result)
    (counted (g.S.Sieve.taken c.args.sieve.now (settings_told c.args.job.settings) c.args.job.changes.now) (g.S.Sieve.none c.args.sieve.now (settings_told c.args.job.settings) c.args.job.changes.now) c.args.job.segments.now c.args.job.settings c.args.job.changes.now old new c.run_with.result (as_many g w) (done g w).left)

pub returns-clause-writes : goal.returns-clause-writes
returns-clause-writes g c =
    let old = ends c.args.captures.now.ports.items c.args.captures.now.underlay c.args.outputs.now in
    let new = ends c.run_with.new.captures.ports.items c.run_with.new.captures.underlay c.run_with.new.outputs in
    writes_by (g.S.Sieve.taken c.args.sieve.now (settings_told c.args.job.settings) c.args.job.changes.now) (g.S.Sieve.none c.args.sieve.now (settings_told c.args.job.settings) c.args.job.changes.now) c.args.job.segments.now c.args.job.settings c.args.job.changes.now old new c.run_with.result c.run_with.ensures.done.left

-- ---- by the octets of the captures

pub returns-then-len-ports-clause-over : goal.returns-then-len-ports-clause-over
returns-then-len-ports-clause-over g c texts text tells =
    let changes = changes_in c.args.job.changes_text.now in
    let d = c.args.outputs.now in
    let many = tells_texts c.args.captures.now.ports.items c.args.captures.now.underlay texts text tells in
    let apart : (length texts == length c.args.job.settings.ports) ≡ false = ne_eqb _ _ (λ e. c.if-len-ports.true (c.len.ensures ∙ c.args.captures.now.ports.ok.0 ∙ many ∙ e ∙ sym (ap length c.ports.ensures.value))) in
    subst (λ m. IsRunOverSieved (g.S.Sieve.taken c.args.sieve.now (settings_told c.args.job.settings) c.args.job.changes.now) c.args.job.segments.now m changes texts text d d (Err (stream.Run faults.PortCount))) (sym c.requires.settings)
    (subst (λ m. IsRunOverSieved (g.S.Sieve.taken c.args.sieve.now (settings_told c.args.job.settings) c.args.job.changes.now) c.args.job.segments.now (Ok c.args.job.settings) m texts text d d (Err (stream.Run faults.PortCount))) (sym c.requires.told)
    (over_refusal (g.S.Sieve.taken c.args.sieve.now (settings_told c.args.job.settings) c.args.job.changes.now) (g.S.Sieve.none c.args.sieve.now (settings_told c.args.job.settings) c.args.job.changes.now) c.args.job.segments.now texts text d (Ok c.args.job.settings) (Ok c.args.job.changes.now) faults.PortCount tt (port_count_fault c.args.job.settings c.args.job.changes.now texts text apart)
    (none_at d (length texts) (c.requires.sinks ∙ many))))

pub returns-clause-over : goal.returns-clause-over
returns-clause-over g c texts text tells =
    let w = (goal.at.returns-clause-over g c).After-run_with in
    meant g w (λ m k. IsRunOverSieved (g.S.Sieve.taken c.args.sieve.now (settings_told c.args.job.settings) c.args.job.changes.now) c.args.job.segments.now m k texts text c.args.outputs.now c.run_with.new.outputs c.run_with.result) ((done g w).over texts text tells).left

-- ---- how far they are read

pub returns-then-len-ports-clause-reached : goal.returns-then-len-ports-clause-reached
returns-then-len-ports-clause-reached g c texts text tells =
    let d = c.args.outputs.now in
    reach_refusal (g.S.Sieve.taken c.args.sieve.now (settings_told c.args.job.settings) c.args.job.changes.now) (g.S.Sieve.none c.args.sieve.now (settings_told c.args.job.settings) c.args.job.changes.now) c.args.job.segments.now texts text d (settings_in c.args.job.settings_text.now) (changes_in c.args.job.changes_text.now) c.args.captures.now.ports.items c.args.captures.now.underlay faults.PortCount tt
    (none_at d (length texts) (c.requires.sinks ∙ tells_texts c.args.captures.now.ports.items c.args.captures.now.underlay texts text tells))

pub returns-clause-reached : goal.returns-clause-reached
returns-clause-reached g c texts text tells =
    let w = (goal.at.returns-clause-reached g c).After-run_with in
    meant g w (λ m k. IsReachedOverSieved (g.S.Sieve.taken c.args.sieve.now (settings_told c.args.job.settings) c.args.job.changes.now) c.args.job.segments.now m k texts text c.args.outputs.now c.run_with.new.outputs c.run_with.new.captures.ports.items c.run_with.new.captures.underlay c.run_with.result) ((done g w).over texts text tells).reached

-- ---- by who looks on

pub returns-then-len-ports-clause-shown : goal.returns-then-len-ports-clause-shown
returns-then-len-ports-clause-shown g c =
    let d = c.args.outputs.now in
    shows_refused (g.S.Sieve.taken c.args.sieve.now (settings_told c.args.job.settings) c.args.job.changes.now) (g.S.Sieve.none c.args.sieve.now (settings_told c.args.job.settings) c.args.job.changes.now) c.args.job.segments.now c.args.captures.now.ports.items d g.T.Watch.sees g.T.Watch.ends c.args.watch.now (settings_in c.args.job.settings_text.now) (changes_in c.args.job.changes_text.now) faults.PortCount c.requires.sinks

pub returns-clause-shown : goal.returns-clause-shown
returns-clause-shown g c =
    let w = (goal.at.returns-clause-shown g c).After-run_with in
    meant g w (λ m k. IsShownSieved (g.S.Sieve.taken c.args.sieve.now (settings_told c.args.job.settings) c.args.job.changes.now) c.args.job.segments.now g.T.Watch.sees g.T.Watch.ends m k c.args.captures.now.ports.items c.args.outputs.now c.run_with.new.outputs c.args.watch.now c.run_with.new.watch c.run_with.result)
    (shows_counted (g.S.Sieve.taken c.args.sieve.now (settings_told c.args.job.settings) c.args.job.changes.now) (g.S.Sieve.none c.args.sieve.now (settings_told c.args.job.settings) c.args.job.changes.now) c.args.job.segments.now c.args.captures.now.ports.items c.args.outputs.now g.T.Watch.sees g.T.Watch.ends c.args.watch.now c.args.job.settings c.args.job.changes.now c.run_with.new.outputs c.run_with.new.watch c.run_with.result (as_many g w) (done g w).shown)

pub returns-then-len-ports-clause-watched : goal.returns-then-len-ports-clause-watched
returns-then-len-ports-clause-watched g c texts text tells =
    let s = settings_in c.args.job.settings_text.now in
    let changes = changes_in c.args.job.changes_text.now in
    let d = c.args.outputs.now in
    seen_refusal (g.S.Sieve.taken c.args.sieve.now (settings_told c.args.job.settings) c.args.job.changes.now) (g.S.Sieve.none c.args.sieve.now (settings_told c.args.job.settings) c.args.job.changes.now) c.args.job.segments.now texts text d g.T.Watch.sees g.T.Watch.ends c.args.watch.now s changes faults.PortCount tt
    (none_at d (length texts) (c.requires.sinks ∙ tells_texts c.args.captures.now.ports.items c.args.captures.now.underlay texts text tells))

pub returns-clause-watched : goal.returns-clause-watched
returns-clause-watched g c texts text tells =
    let w = (goal.at.returns-clause-watched g c).After-run_with in
    meant g w (λ m k. IsWatchedOverSieved (g.S.Sieve.taken c.args.sieve.now (settings_told c.args.job.settings) c.args.job.changes.now) c.args.job.segments.now g.T.Watch.sees g.T.Watch.ends m k texts text c.args.outputs.now c.run_with.new.outputs c.args.watch.now c.run_with.new.watch c.run_with.result) ((done g w).over texts text tells).seen

-- ---- by the sieve

pub returns-clause-sieved : goal.returns-clause-sieved
returns-clause-sieved g c texts text tells =
    let w = (goal.at.returns-clause-sieved g c).After-run_with in
    meant g w (λ m k. GoesOver g.S.Sieve.goes m k texts text c.args.sieve.now c.run_with.new.sieve c.run_with.result) ((done g w).over texts text tells).went
