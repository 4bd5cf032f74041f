-- The program's exit statuses. It states no standard.
use Rattle.std.specs.Prelude.{◌≡◌, ◌≢◌, ◌≤◌, ◌⊎◌, true, not, find, is_some, ℕ, List, Option, None}
use Rattle.std.specs.Prelude.{IsSomeAnd, []}
use Rattle.clap.specs.Words.{IsAmong, Text, fault_of}
use Rattle.clap.specs.declared.error.kind.ErrorKind.TheVariants.{DisplayHelp, DisplayVersion}
use Rattle.command_line.specs.App.{tep_app}
use Rattle.command_line.specs.Meaning.{AreTaken as AreTakenByClap, ComparesSomething, KeepsOutputApart, LendsToParts, Meaning}
use Rattle.command_line.specs.Meaning.{ReadsInputOnce, compares_nothing, input_uses, mixes_output}
use Rattle.command_line.specs.Meaning.{lends_to_a_whole, run, telling_meant, words_meant}
use Rattle.compare_on_files.specs.Tables.{no_table_in}
use Rattle.run_reports.specs.Names.{is_event_name}

-- the first of these names that can be no event's
abbrev pub first_no_event : List Text → Option Text
first_no_event names = find (λ name. not (is_event_name name)) names

-- that of the names whose stories are asked for
abbrev pub no_event_in : Meaning → Option Text
no_event_in (run settings changes underlay out ports tables tables_at why summary talkers segments digests both within list json quiet pcapng) =
    first_no_event why
no_event_in _ = None

-- each name can be an event's
abbrev pub NamesEvents : Meaning → Type 0
NamesEvents meaning = no_event_in meaning ≡ None

-- where one is asked for, there is such a table
abbrev pub NamesTables : Meaning → Type 0
NamesTables meaning = no_table_in meaning ≡ None

-- words that `clap` doesn't take, also not as a run of which something is told, among them those that ask for help, that lack a
-- value, that ask for standard input more than once, that lend digests to a run that is no part, that put two things on standard
-- output, that compare what a run wrote with no capture, that name an event as none can be named, or a table that there is
-- none of
abbrev pub AreRefused : List Text → Type 0
AreRefused words =
    ((((fault_of tep_app words ≢ []) × (telling_meant words ≡ None)) ⊎ (words_meant words ≡ None))
    ⊎ IsSomeAnd (words_meant words) (λ meaning. 2 ≤ input_uses meaning))
    ⊎ (IsSomeAnd (words_meant words) (λ meaning. lends_to_a_whole meaning ≡ true)
    ⊎ (IsSomeAnd (words_meant words) (λ meaning. mixes_output meaning ≡ true)
    ⊎ (IsSomeAnd (words_meant words) (λ meaning. compares_nothing meaning ≡ true)
    ⊎ (IsSomeAnd (words_meant words) (λ meaning. is_some (no_event_in meaning) ≡ true)
    ⊎ IsSomeAnd (words_meant words) (λ meaning. is_some (no_table_in meaning) ≡ true)))))

-- words that are taken, ask for standard input once at most, lend digests to parts alone, put one thing at most on standard
-- output, compare something where they compare, and name events as they can be named and tables that there are
abbrev pub AreTaken : List Text → Type 0
AreTaken words = AreTakenByClap words × IsSomeAnd (words_meant words) (λ meaning. ReadsInputOnce meaning × LendsToParts meaning
    × KeepsOutputApart meaning × ComparesSomething meaning × NamesEvents meaning × NamesTables meaning)

-- words that ask for help or for the version, which `clap` tells as a fault
abbrev pub AskForText : List Text → Type 0
AskForText words = IsAmong DisplayHelp (fault_of tep_app words) ⊎ IsAmong DisplayVersion (fault_of tep_app words)

-- 0 only for words that are taken or that ask for help or for the version, 1 only for words that are taken, 2 only for
-- words that aren't; 3 as it comes
abbrev pub IsStatusOf : List Text → ℕ → Type 0
IsStatusOf words status =
    ((status ≡ 0) × (AreTaken words ⊎ AskForText words))
    ⊎ (status ≡ 3)
    ⊎ ((status ≡ 1) × AreTaken words)
    ⊎ ((status ≡ 2) × AreRefused words)

-- that of words that are taken
abbrev pub IsDoneStatus : ℕ → Type 0
IsDoneStatus status = (status ≡ 0) ⊎ (status ≡ 1) ⊎ (status ≡ 3)
