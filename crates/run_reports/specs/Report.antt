-- What a run tells besides its outputs, to whom asks. It states no standard.
use Rattle.std.specs.Prelude.{◌≡◌, ◌⊎◌, ℕ, nat_eq, ◌&&◌, ◌||◌, Bool, true, false, List, [], ◌++◌, length}
use Rattle.std.specs.Prelude.{map, replicate, nat_lt, slice_index_or, Option, Some, None, if◌then◌else◌}
use Rattle.std.specs.List.{list_any, zip}
use Rattle.segment_set.specs.Segments.{Segments}
use Rattle.endpoint_core.specs.Step.{Answer, State}
use Rattle.timeline.specs.declared.event.Event.{Event}
use Rattle.stream_run.specs.Sights.{Due, Sight, due}
use Rattle.table_lines.specs.Lines.{shown_at, tables_text}
use Rattle.overlay.specs.declared.settings.change.TimedChange.{TimedChange}
use Rattle.event_story.specs.Story.{run_story}
use Rattle.run_reports.specs.Name.{is_named}
use Rattle.run_reports.specs.Sought.{address_met, addresses_sought, foreseen, is_first, passing_of, reason_met, reasons_sought}
use Rattle.run_reports.specs.declared.sought.SoughtAddress.{SoughtAddress}
use Rattle.run_reports.specs.declared.sought.SoughtReason.{SoughtReason}

-- what is asked for, and what was told so far
pub record Telling : Type 0 where
  -- of the events that are asked for
  pub names : List (List ℕ)
  -- the changes of the run
  pub changes : List TimedChange
  -- whose tables are told
  pub segments : Segments
  -- the moment at which the tables are told, until they were
  pub due : Option ℕ
  -- whether they are told at the end
  pub tables : Bool
  pub text : List ℕ
  -- the tables at the end
  pub last : List ℕ
  -- for each of the names whether an event had it as its number
  pub found : List Bool
  -- the reasons and the addresses of which the first event is asked for
  pub reasons : List SoughtReason
  pub addresses : List SoughtAddress
  -- whether memory was refused, so that the text has gaps
  pub is_lost : Bool

-- nothing is told yet
abbrev pub asked : List (List ℕ) → List TimedChange → Segments → Option ℕ → Bool → Telling
asked names changes segments due tables =
    record {
      names = names;
      changes = changes;
      segments = segments;
      due = due;
      tables = tables;
      text = [];
      last = [];
      found = replicate (length names) false;
      reasons = reasons_sought 0 names;
      addresses = addresses_sought 0 names;
      is_lost = false;
    }

-- ---- an event

-- whether one asks for it by its number
abbrev pub is_asked : ℕ → Event → List (List ℕ) → Bool
is_asked number e names = list_any (λ name. is_named name number e) names

-- for each of the names whether an event had it as its number, with one event more
abbrev pub found_behind : ℕ → Event → List (List ℕ) → List Bool → List Bool
found_behind number e names found = map (λ p. is_named p.0 number e || p.1) (zip names found)

-- whether there is a moment before this one
abbrev pub is_before : Option ℕ → ℕ → Bool
is_before None moment = false
is_before (Some at) moment = nat_lt at moment

-- the tables at their moment, before the first event behind it
abbrev pub tables_before : Segments → Option ℕ → State → ℕ → List ℕ
tables_before segments due s moment = if is_before due moment then tables_text segments (shown_at due s) else []

-- with the tables before an event of this moment
abbrev pub tables_told : Telling → State → ℕ → Telling
tables_told r s moment = record r {
  due = if is_before r.due moment then None else r.due;
  text = r.text ++ tables_before r.segments r.due s moment;
}

-- why an event comes out as it does, where one asks
abbrev pub story_if : Bool → List TimedChange → Due → List ℕ
story_if asked changes s = if asked then run_story changes s.state s.number s.event else []

-- one asks for an event by its number, or it is the first of something that one asks for
abbrev pub is_told : Telling → Due → Bool
is_told r s = is_asked s.number s.event r.names || is_first r.reasons r.addresses s.state s.event

-- with the story of an event
abbrev pub story_told : Telling → Due → Telling
story_told r s = record r {
  text = r.text ++ story_if (is_told r s) r.changes s;
  found = found_behind s.number s.event r.names r.found;
  reasons = map (reason_met (foreseen s.state s.event)) r.reasons;
  addresses = map (address_met (passing_of s.state s.event.happening)) r.addresses;
}

-- behind an event that the run answers
abbrev pub seen_by : Telling → Due → Telling
seen_by r s = story_told (tables_told r s.state s.event.moment) s

-- behind an event with its answer, or one that isn't told to a part: of that nothing is told but that it comes
abbrev pub replied_by : Telling → Due → Option Answer → Telling
replied_by r s (Some a) = seen_by r s
replied_by r s None = tables_told r s.state s.event.moment

-- the same of what was seen
abbrev pub told_by : Telling → Sight → Telling
told_by r s = replied_by r (due s.state s.number s.event) s.reply

-- ---- the end

-- the tables at their moment, where no event was behind it
abbrev pub tables_still_due : Segments → Option ℕ → State → List ℕ
tables_still_due segments None s = []
tables_still_due segments (Some at) s = tables_text segments (shown_at (Some at) s)

-- with these
abbrev pub due_told : Telling → State → Telling
due_told r s = record r { due = None; text = r.text ++ tables_still_due r.segments r.due s }

-- with the tables of the end, where one asks for them
abbrev pub end_told : Telling → State → Telling
end_told r s = record r { last = r.last ++ (if r.tables then tables_text r.segments s else []) }

-- behind the end
abbrev pub ended_by : Telling → State → Telling
ended_by r s = end_told (due_told r s) s

-- ---- the names

-- whether an event had a name, or was the first of what it asks for
abbrev pub is_found : ℕ → Telling → Bool
is_found place r =
    slice_index_or r.found place false
    || (list_any (λ k. k.is_met && nat_eq k.place place) r.reasons || list_any (λ k. k.is_met && nat_eq k.place place) r.addresses)

-- ---- memory

-- what is told is so, unless memory was refused
abbrev pub TellsOrLoses : Telling → Telling → Type 0
TellsOrLoses told new = (new ≡ told) ⊎ (new.is_lost ≡ true)
