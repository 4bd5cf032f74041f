-- What a run tells of its tables at a moment, and which lines of it are one segment's. It states no standard.
--     until      what comes up to a moment
--     tables_at      what a run tells of its tables at a moment, where one asks for nothing else
--     HasLines      a text of tables, and the lines of one segment in it
use Rattle.std.specs.Prelude.{◌≡◌, ℕ, ◌+◌, ◌-◌, nat_lt, false, if◌then◌else◌, List, [], ◌∷◌, ◌++◌, map, Some}
use Rattle.std.specs.List.{flat_map, range_with_len}
use Rattle.segment_set.specs.Segments.{All}
use Rattle.timeline.specs.declared.event.Event.{Event as Happens}
use Rattle.overlay.specs.declared.settings.change.TimedChange.{TimedChange}
use Rattle.endpoint_core.specs.Settings.{Settings}
use Rattle.endpoint_core.specs.Step.{State, opened}
use Rattle.table_lines.specs.Lines.{segment_lines}
use Rattle.stream_run.specs.Sights.{Sight, sights, state_among}
use Rattle.run_reports.specs.Report.{Telling, asked, told_by, ended_by}

-- the events of a run up to a moment, and of it
abbrev pub until : ℕ → List Happens → List Happens
until moment [] = []
until moment (e ∷ es) = if nat_lt moment e.moment then [] else e ∷ until moment es

-- what is told behind sights, one after another
abbrev pub told_behind : Telling → List Sight → Telling
told_behind r [] = r
told_behind r (s ∷ ss) = told_behind (told_by r s) ss

-- what a whole run with these settings tells of its tables at a moment, where one asks for nothing else
abbrev pub tables_at : ℕ → Settings → List TimedChange → List Happens → List ℕ
tables_at moment S changes es =
    let in_order = map (λ c. c.change) changes in
    let told = told_behind (asked [] changes All (Some moment) false) (sights All in_order (opened S) 0 es) in
    (ended_by told (state_among All in_order (opened S) es)).text

-- a text of the tables of a state has these lines of a segment: in front of them stand those of smaller VIDs, and behind them
-- those of larger
pub record HasLines (vid : ℕ) (own text : List ℕ) : Type 0 where
  pub state : State
  pub lines : own ≡ segment_lines state vid
  pub text_is : text ≡ flat_map (segment_lines state) (range_with_len 1 (vid - 1))
      ++ (own ++ flat_map (segment_lines state) (range_with_len (vid + 1) (4094 - vid)))
