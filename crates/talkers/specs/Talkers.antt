-- Who talks to whom in the segments of an endpoint. It states no standard.
--     Coming, coming_of      the frame that an event brings to a segment
--     exit_of      where it goes
--     talk_rows      what it counts as
--     Talkers      what was counted, and the frame that is awaited
--     Expects, Hears, Sees      an event more, an answer more, both
use Rattle.std.specs.Prelude.{◌≡◌, ℕ, if◌then◌else◌, List, [], ◌∷◌, ◌++◌, length, map, Option, Some, None, Result, Ok, Err}
use Rattle.wire.specs.Frame.{size}
use Rattle.wire.specs.declared.ether.reason.Reason.{Reason}
use Rattle.wire.specs.declared.ether.reason.Refused.{Refused}
use Rattle.filter_db.specs.declared.place.Place.{Place}
use Rattle.overlay.specs.Ports.{is_port}
use Rattle.timeline.specs.Captured.{Captured}
use Rattle.timeline.specs.declared.event.Happening.{Happening}
use Rattle.timeline.specs.declared.event.Happening.TheVariants as happenings
use Rattle.timeline.specs.declared.source.Tap.{Tap}
use Rattle.timeline.specs.declared.source.Tap.TheVariants.{Port, Underlay}
use Rattle.endpoint_core.specs.Settings.{Settings}
use Rattle.endpoint_core.specs.Arrival.{came_at, came_by}
use Rattle.endpoint_core.specs.Arrival.{Arrival}
use Rattle.endpoint_core.specs.Decision.{Decision}
use Rattle.endpoint_core.specs.Step.{Answer, Decided, Replied}
use Rattle.stream_run.specs.Sights.{Due, Sight}
use Rattle.ranked_rows.specs.Frequent.{Frequent, Keeps, nothing_yet}
use Rattle.ranked_rows.specs.Rows.{row_of}
use Rattle.ranked_rows.specs.declared.key_count.KeyCount.{KeyCount}
use Rattle.talkers.specs.Passed.{nothing, one_frame, passed_with}
use Rattle.talkers.specs.Talk.{rank}
use Rattle.talkers.specs.declared.rows.passed.Passed.{Passed}
use Rattle.talkers.specs.declared.rows.talk.Exit.{Exit}
use Rattle.talkers.specs.declared.rows.talk.Exit.TheVariants.{To, Flood, Drop}
use Rattle.talkers.specs.declared.rows.talk.Talk.{Talk}
use Rattle.talkers.specs.declared.coming.Coming.{Coming}

-- ---- what comes

-- a frame that comes to a segment at a moment
abbrev pub coming_by : ℕ → Result Arrival Refused → Option Coming
coming_by moment (Ok x) = Some (record {
  vid = x.vid;
  source = x.frame.src;
  from = x.from;
  destination = x.frame.dst;
  octets = size x.frame;
  moment = moment;
})
coming_by moment (Err refused) = None

-- octets at a place; nothing at a port that isn't there
abbrev pub coming_at : Settings → ℕ → Tap → Captured → Option Coming
coming_at S moment (Port port) captured =
    if is_port (length S.ports.ports) port then coming_by moment (came_at S.ports S.overlay port captured.original captured.octets)
    else None
coming_at S moment Underlay captured = coming_by moment (came_by S.overlay captured.original captured.octets)

-- the frame that what happens brings to a segment, where it brings one
abbrev pub coming_of : Settings → ℕ → Happening → Option Coming
coming_of S moment (happenings.Change index) = None
coming_of S moment (happenings.Record tap captured) = coming_at S moment tap captured

-- ---- where it goes

-- to these places
abbrev pub exit_to : List Place → Exit
exit_to [] = Drop
exit_to (place ∷ []) = To place
exit_to (place ∷ other ∷ places) = Flood

-- nowhere, where it is dropped
abbrev pub exit_where : Option Reason → List Place → Exit
exit_where (Some reason) places = Drop
exit_where None places = exit_to places

-- where the bridge of its segment sends a frame, whether it fits there or not
abbrev pub exit_of : Decision → Exit
exit_of d = exit_where d.dropped (map (λ o. o.place) d.outcomes)

-- ---- rows

-- who talks to whom by a frame
abbrev pub talk_of : Coming → Exit → Talk
talk_of c to = record { vid = c.vid; source = c.source; from = c.from; destination = c.destination; to = to }

-- what a frame counts as, where there is one
abbrev pub talk_rows : Option Coming → Exit → List (KeyCount Talk Passed)
talk_rows None to = []
talk_rows (Some c) to = row_of (talk_of c to) (one_frame c.octets c.moment) ∷ []

-- the same where it is decided
abbrev pub answer_rows : Option Coming → Answer → List (KeyCount Talk Passed)
answer_rows coming (Decided decision) = talk_rows coming (exit_of decision)
answer_rows coming (Replied fault) = []

-- ---- what was counted

-- how many frames passed
abbrev pub frames_of : Passed → ℕ
frames_of p = p.frames

-- what a table keeps of frames, each of which is counted alone
abbrev pub KeepsOf : List (KeyCount Talk Passed) → Frequent Talk Passed → Type 0
KeepsOf came t = Keeps rank passed_with nothing frames_of came t

-- with more frames it keeps that of these and all before
abbrev pub Takes : Frequent Talk Passed → List (KeyCount Talk Passed) → Frequent Talk Passed → Type 0
Takes old more new = (came : List (KeyCount Talk Passed)) → KeepsOf came old → KeepsOf (came ++ more) new

-- what was counted, and the frame that the event seen last brings
pub record Talkers : Type 0 where
  pub rows : Frequent Talk Passed
  pub coming : Option Coming

-- nobody talked
abbrev pub no_talkers : Talkers
no_talkers = record { rows = nothing_yet nothing; coming = None }

-- an event comes
abbrev pub expecting : Talkers → Settings → ℕ → Happening → Talkers
expecting t S moment happening = record { rows = t.rows; coming = coming_of S moment happening }

-- an answer is told
pub record IsTold (old : Talkers) (a : Answer) (new : Talkers) : Type 0 where
  pub rows : Takes old.rows (answer_rows old.coming a) new.rows
  pub coming : new.coming ≡ old.coming

-- ---- steps

-- an event more came
abbrev pub Expects : Talkers → Due → Talkers → Type 0
Expects old d new = new ≡ expecting old d.state.bridges.settings d.event.moment d.event.happening

-- an event more came and was answered; one that isn't told counts for nothing
abbrev pub SeesReply : Talkers → Due → Option Answer → Talkers → Type 0
SeesReply old d (Some a) new = IsTold (expecting old d.state.bridges.settings d.event.moment d.event.happening) a new
SeesReply old d None new = new ≡ old

-- the same of what was seen
abbrev pub Sees : Talkers → Sight → Talkers → Type 0
Sees old s new = SeesReply old (record { state = s.state; number = s.number; event = s.event }) s.reply new
