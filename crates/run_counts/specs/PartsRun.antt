-- What a run counted, as its summary tells it. It states no standard.
use Rattle.std.specs.Prelude.{List}
use Rattle.overlay.specs.declared.settings.change.Change.{Change}
use Rattle.timeline.specs.declared.event.Event.{Event}
use Rattle.timeline.specs.declared.source.Tap.{Tap}
use Rattle.endpoint_core.specs.Settings.{Settings}
use Rattle.run_counts.specs.Run.{answers_of, counts_of}
use Rattle.run_counts.specs.Totals.{totals_of}
use Rattle.run_counts.specs.Told.{Told}

-- where the captures of these places are cut
abbrev pub told_of : Settings → List Change → List Event → List Tap → Told
told_of S cs es cut = record { counts = counts_of S cs es; totals = totals_of es (answers_of S cs es); cut = cut }
