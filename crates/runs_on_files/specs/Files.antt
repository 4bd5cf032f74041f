-- What a run over files leaves in them, by whole texts. It states no standard.
--     IsRunInFiles      into files that were opened for it
--     IsRunOnFiles      of captures that were opened for it, by their names
use Rattle.std.specs.Prelude.{ℕ, List, Option}
use Rattle.std.specs.Borrow.{Bor}
use Rattle.pcap.specs.Source.{Stream}
use Rattle.timeline.specs.declared.event.Event.{Event}
use Rattle.overlay.specs.declared.settings.change.TimedChange.{TimedChange}
use Rattle.overlay_config.specs.Fault.{Meaning}
use Rattle.overlay_config.specs.Settings.{Settings}
use Rattle.segment_set.specs.Segments.{Segments, All}
use Rattle.program_files.specs.Held.{AreHeld, Held}
use Rattle.program_files.specs.Opened.{AreOpened, IsOpened}
use Rattle.runs_on_files.specs.Held.{IsRunInto}
use Rattle.runs_on_files.specs.declared.job.Scope.{Scope}
use Rattle.runs_on_files.specs.declared.job.Scope.TheVariants.{Part, Whole}

-- the segments that are run
abbrev pub segments_run : Scope → Segments
segments_run Whole = All
segments_run (Part part) = part.segments.now

-- by what a file tells of what it holds: there are files that held something, and hold what a run on these captures adds
pub record IsRunInFiles {F : Type 0} (contents : F → Option (List ℕ)) (taken : List Event → List Event) (segments : Segments)
    (settings : Meaning Settings) (changes : Meaning (List TimedChange)) (ports : List Stream) (underlay : Stream)
    (new_ports : List Stream) (new_underlay : Stream) : Type 0 where
  pub before : Held
  pub behind : Held
  pub stood : AreHeld contents before
  pub stand : AreHeld contents behind
  pub run : IsRunInto taken segments settings changes ports underlay new_ports new_underlay before behind

-- by what files and standard input tell: captures of these names were opened, of the ports and of the underlay, and the run on them is
-- in files
pub record IsRunOnFiles {F I : Type 0} (files : F → Option (List ℕ)) (input : I → Option (List ℕ))
    (contents : F → Option (List ℕ)) (taken : List Event → List Event) (segments : Segments) (settings : Meaning Settings)
    (changes : Meaning (List TimedChange)) (port_names : List (Bor (List ℕ))) (underlay_name : List ℕ) : Type 0 where
  pub ports : List Stream
  pub underlay : Stream
  pub new_ports : List Stream
  pub new_underlay : Stream
  pub opened : AreOpened files input port_names ports
  pub opened_underlay : IsOpened files input underlay_name underlay.supply.rest
  pub run : IsRunInFiles contents taken segments settings changes ports underlay new_ports new_underlay
