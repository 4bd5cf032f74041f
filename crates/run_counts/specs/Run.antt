-- What is counted of a whole run, by the decisions of one learning bridge for each segment. It states no standard.
--     IsCounted      whoever counts looked on from the begin of a run to its end
--     run_summary      what is told then
use Rattle.std.specs.Prelude.{◌≡◌, ℕ, List, [], length, map}
use Rattle.std.specs.List.{FoldsTo}
use Rattle.overlay.specs.declared.settings.change.Change.{Change}
use Rattle.timeline.specs.declared.event.Event.{Event}
use Rattle.timeline.specs.declared.source.Tap.{Tap}
use Rattle.endpoint_core.specs.Settings.{Settings}
use Rattle.endpoint_core.specs.Counts.{Counts, tally}
use Rattle.endpoint_core.specs.Run.{decided_of_all, decisions}
use Rattle.endpoint_core.specs.Step.{Answer, opened, state_after}
use Rattle.capture_run.specs.Outputs.{event_of}
use Rattle.segment_set.specs.Segments.{All}
use Rattle.stream_run.specs.Sights.{sights}
use Rattle.run_counts.specs.Keeping.{Ends, Keeping, Sees, totals_in}
use Rattle.run_counts.specs.Summary.{summary_text}
use Rattle.run_counts.specs.Totals.{totals_of}

-- nothing was counted before, all events of the run were seen and their answers heard, and then the end came
pub record IsCounted (S : Settings) (cs : List Change) (es : List Event) (begun ended : Keeping) : Type 0 where
  pub last : Keeping
  pub none : totals_in begun ≡ totals_of [] []
  pub seen : FoldsTo Sees begun (sights All cs (opened S) 0 es) last
  pub end : Ends last (state_after (opened S) (map (event_of cs) es)) ended

-- what the events are answered, by the bridges of their segments
abbrev pub answers_of : Settings → List Change → List Event → List Answer
answers_of S cs es = decisions S [] (map (event_of cs) es)

-- how often each thing was decided in each segment, and in none
abbrev pub counts_of : Settings → List Change → List Event → Counts
counts_of S cs es = tally (decided_of_all (answers_of S cs es))

-- the summary, where the captures of these places are cut
abbrev pub run_summary : Settings → List Change → List Event → List Tap → List ℕ
run_summary S cs es cut = summary_text (counts_of S cs es) (length S.ports.ports) (totals_of es (answers_of S cs es)) cut
