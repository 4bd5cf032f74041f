-- What refuses a run before anything is read or written.
use Rattle.std.proofs.Common.{◌≡◌, ◌∙◌, refl, sym, ℕ, ◌==◌, true, false, List, [], length, Vec, Global, Result, Ok, Err, inl}
use Rattle.overlay_config.specs.Fault.{Meaning}
use Rattle.overlay.specs.Settings.{Settings}
use Rattle.overlay.specs.declared.settings.change.TimedChange.{TimedChange}
use Rattle.capture_run.specs.declared.fault.RunFault.TheVariants as faults
use Rattle.stream_run.specs.Left.{AnswersSieved, Ends, Leaves}
use Rattle.stream_run.specs.declared.fault.StreamFault.{StreamFault}
use Rattle.stream_run.specs.declared.fault.StreamFault.TheVariants as stream
use Rattle.capture_run.proofs.Among.{all_run}
use Rattle.stream_run.specs.Over.{IsRunOver, IsRunOverAmong, IsRunOverSieved, IsWholeRun}
use Rattle.stream_run.specs.Sieved.{all_taken}
use Rattle.timeline.specs.declared.event.Event.{Event}
use Rattle.stream_run.specs.Stage.{Drains}
use Rattle.segment_set.specs.Segments.{Segments}

-- a run that has all segments is the whole run
pub whole_run : (s : Meaning Settings) (c : Meaning (List TimedChange)) (texts : List (Vec ℕ Global)) (text : List ℕ) (old new : Drains) (result : Result (Unit {0}) StreamFault)
    → IsRunOver s c texts text old new result → IsWholeRun s c texts text old new result
whole_run (Ok s) (Ok changes) texts text old new (Ok x) over = (over.0, sym (all_run (Ok s) (Ok changes) texts text) ∙ over.1, over.2)
whole_run (Ok s) (Err fault) texts text old new (Ok x) over = absurd over
whole_run (Err fault) c texts text old new (Ok x) over = absurd over
whole_run s c texts text old new (Err fault) over = tt

-- where each event is taken in, the outputs that the run tells stand
pub over_all_taken : (segments : Segments) (s : Meaning Settings) (c : Meaning (List TimedChange)) (texts : List (Vec ℕ Global)) (text : List ℕ) (old new : Drains) (result : Result (Unit {0}) StreamFault)
    → IsRunOverSieved all_taken segments s c texts text old new result → IsRunOverAmong segments s c texts text old new result
over_all_taken segments (Ok s) (Ok changes) texts text old new (Ok x) over = (_, over.0, over.1)
over_all_taken segments (Ok s) (Ok changes) texts text old new (Err fault) over = over
over_all_taken segments (Ok s) (Err f) texts text old new result over = over
over_all_taken segments (Err f) c texts text old new result over = over

module _ (taken : List Event → List Event) (nothing : taken [] ≡ []) (segments : Segments) where
  -- another number of captures
  pub count_refused : (s : Settings) (changes : List TimedChange) (e : Ends) → (length e.ports == length s.ports) ≡ false → AnswersSieved taken segments (Ok s) (Ok changes) e e (Err (stream.Run faults.PortCount))
  count_refused s changes e apart = rw apart (inl refl, refl)

  -- as many captures as ports
  pub counted : (s : Settings) (changes : List TimedChange) (old new : Ends) (result : Result (Unit {0}) StreamFault) → (length old.ports == length s.ports) ≡ true → Leaves taken segments s changes old new result
      → AnswersSieved taken segments (Ok s) (Ok changes) old new result
  counted s changes old new result same leaves = rw same leaves
