-- The law of reading, of whole runs: what the objects of a run tell is all that its decision lines tell. It states no standard.
--     objects_among, lines_among      both of a part of a run
use Rattle.std.specs.Prelude.{◌≡◌, ℕ, List, ◌++◌}
use Rattle.std.specs.List.{flat_map}
use Rattle.overlay.specs.declared.settings.change.TimedChange.{TimedChange}
use Rattle.segment_set.specs.Segments.{Segments}
use Rattle.timeline.specs.Timeline.{Timeline}
use Rattle.endpoint_core.specs.Settings.{Settings}
use Rattle.endpoint_core.specs.Step.{opened}
use Rattle.capture_run.specs.Among.{cuts_among, outputs_among}
use Rattle.stream_run.specs.Sights.{sights}
use Rattle.stream_run.specs.Steps.{changes_of}
use Rattle.decision_objects.specs.Objects.{cut_object}
use Rattle.decision_objects.specs.Run.{objects_of}

-- the objects of the events of a run that are told to these segments, and behind them those of its cut captures
abbrev pub objects_among : Segments → Settings → List TimedChange → Timeline → List ℕ
objects_among segments S changes l =
    objects_of changes (sights segments (changes_of changes) (opened S) 0 l.events) ++ flat_map cut_object (cuts_among segments l.cuts)

-- its decision lines, with so many ports
abbrev pub lines_among : Segments → Settings → List TimedChange → ℕ → Timeline → List ℕ
lines_among segments S changes ports l = (outputs_among segments S (changes_of changes) ports l).decisions

-- two runs, of any segments, settings, changes and captures each: where their objects are the same text, their lines are
abbrev pub RunsReadBack : Type 0
RunsReadBack =
    (segments others : Segments) (S T : Settings) (changes further : List TimedChange) (ports more : ℕ) (l k : Timeline)
    → objects_among segments S changes l ≡ objects_among others T further k
    → lines_among segments S changes ports l ≡ lines_among others T further more k
