-- Who talked to whom in a whole run. It states no standard.
use Rattle.std.specs.Prelude.{◌≡◌, List, [], Option, Some, None}
use Rattle.std.specs.List.{FoldsTo, flat_map}
use Rattle.overlay.specs.declared.settings.change.Change.{Change}
use Rattle.timeline.specs.declared.event.Event.{Event}
use Rattle.endpoint_core.specs.Settings.{Settings}
use Rattle.endpoint_core.specs.Step.{Answer, opened}
use Rattle.segment_set.specs.Segments.{Segments}
use Rattle.stream_run.specs.Sights.{Sight, sights}
use Rattle.ranked_rows.specs.declared.key_count.KeyCount.{KeyCount}
use Rattle.talkers.specs.declared.rows.passed.Passed.{Passed}
use Rattle.talkers.specs.declared.rows.talk.Talk.{Talk}
use Rattle.talkers.specs.Talkers.{KeepsOf, Sees, Talkers, answer_rows, coming_of, no_talkers}
use Rattle.talkers.specs.declared.coming.Coming.{Coming}

-- nothing of an event that isn't told
abbrev pub reply_rows : Option Coming → Option Answer → List (KeyCount Talk Passed)
reply_rows coming (Some a) = answer_rows coming a
reply_rows coming None = []

-- the frame that was seen
abbrev pub talks_in : Sight → List (KeyCount Talk Passed)
talks_in s = reply_rows (coming_of s.state.bridges.settings s.event.moment s.event.happening) s.reply

-- whoever counts looked on from the begin of a run of these segments to its end
pub record IsCounted (segments : Segments) (S : Settings) (cs : List Change) (es : List Event) (begun ended : Talkers) : Type 0 where
  pub none : begun ≡ no_talkers
  pub seen : FoldsTo Sees begun (sights segments cs (opened S) 0 es) ended

-- behind such a run, of any events, the table keeps of the frames of those events and their answers what it should
abbrev pub CountsRuns : Type 0
CountsRuns =
    (segments : Segments) (S : Settings) (cs : List Change) (es : List Event) (begun ended : Talkers)
    → IsCounted segments S cs es begun ended
    → KeepsOf (flat_map talks_in (sights segments cs (opened S) 0 es)) ended.rows
