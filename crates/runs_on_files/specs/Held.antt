-- What a run on captures leaves in its files, by what the texts of the settings and of the changes mean, and by the texts of the
-- captures.
-- It states no standard.
--     HoldMore      files hold just these texts more than before
--     IsRunInto      a run that stopped at no fault, and what its files hold of it
use Rattle.std.specs.Prelude.{◌≡◌, ◌<◌, ℕ, List, [], length, None, slice_index_or, Vec, Ok}
use Rattle.std.specs.Io.KnownBytes.{Appends}
use Rattle.std.specs.declared.alloc.Global.{Global}
use Rattle.pcap.specs.Source.{Stream}
use Rattle.timeline.specs.declared.event.Event.{Event}
use Rattle.timeline.specs.declared.timeline.Cut.{Cut}
use Rattle.overlay.specs.declared.settings.change.TimedChange.{TimedChange}
use Rattle.overlay_config.specs.Fault.{Meaning}
use Rattle.overlay_config.specs.Settings.{Settings}
use Rattle.segment_set.specs.Segments.{Segments}
use Rattle.capture_run.specs.Among.{run_among}
use Rattle.capture_run.specs.Outputs.{Outputs}
use Rattle.stream_run.specs.Left.{texts_of}
use Rattle.stream_run.specs.Over.{Tells, texts_at, texts_octets, whole_records}
use Rattle.stream_run.specs.Sieved.{all_taken}
use Rattle.stream_run.specs.Stage.{Everything}
use Rattle.stream_run.specs.Steps.{AreReadBehind}
use Rattle.program_files.specs.Held.{Held}

-- each file holds just its text more than before, where it tells what it holds
pub record HoldMore (old new : Held) (texts : Outputs) : Type 0 where
  pub many : length new.ports ≡ length old.ports
  pub many_texts : length texts.ports ≡ length old.ports
  pub ports : (k : ℕ) → k < length old.ports
      → Appends (slice_index_or old.ports k None) (slice_index_or new.ports k None) (slice_index_or texts.ports k [])
  pub underlay : Appends old.underlay new.underlay texts.underlay
  pub decisions : Appends old.decisions new.decisions texts.decisions

module _ (taken : List Event → List Event) (segments : Segments) (settings : Meaning Settings) (changes : Meaning (List TimedChange)) where
  -- whatever the captures tell: with the settings and the changes that their texts mean, the files hold the texts of what is
  -- taken in of these events one behind another, and the lines of these cut captures
  pub record HoldsSome (old new : Held) : Type 0 where
    pub asked : Settings
    pub told : List TimedChange
    pub settings_are : settings ≡ Ok asked
    pub changes_are : changes ≡ Ok told
    pub events : List Event
    pub cuts : List Cut
    pub held : HoldMore old new (texts_of taken segments asked told events cuts)

  -- of captures with these octets: the run of all these texts tells outputs; the files hold the texts of what is taken in of all
  -- events, which are those outputs where each is; and each capture was read to its end
  pub record HoldsRun (texts : List (Vec ℕ Global)) (text : List ℕ) (ports : List Stream) (underlay : Stream) (old new : Held) :
      Type 0 where
    pub asked : Settings
    pub told : List TimedChange
    pub settings_are : settings ≡ Ok asked
    pub changes_are : changes ≡ Ok told
    pub run_is : run_among segments settings changes texts text ≡ Ok (texts_at all_taken segments asked told texts text Everything)
    pub held : HoldMore old new (texts_at taken segments asked told texts text Everything)
    pub read : AreReadBehind {T = Unit {0}} (texts_octets texts) text (whole_records told texts text).events ports underlay (Ok tt)

  -- a run on captures that were unread, and are left so; what its files hold before and behind it
  pub record IsRunInto (ports : List Stream) (underlay : Stream) (new_ports : List Stream) (new_underlay : Stream)
      (old new : Held) : Type 0 where
    pub some : HoldsSome old new
    pub over : (texts : List (Vec ℕ Global)) (text : List ℕ) → Tells ports underlay texts text
        → HoldsRun texts text new_ports new_underlay old new
