-- What a command line means: the program's own words, after clap's definition of simple commands. It states no standard.
use Rattle.std.specs.Prelude.{◌≡◌, ◌⊎◌, ◌≤◌, ℕ, ◌&&◌, ◌||◌, not, is_some, nat_le, ◌^◌, ◌-◌, Bool, List}
use Rattle.std.specs.Prelude.{Option, Some, None, IsSome, IsSomeAnd, Result, IfOk, IfErr, codes, count_by, option_and_then}
use Rattle.std.specs.Prelude.{option_map, unwrap_or, if◌then◌else◌, ⊤, true, false, [], ◌∷◌}
use Rattle.std.specs.Str.{bytes_eq}
use Rattle.std.specs.Str.Parse.{digits_value, without_leading_plus}
use Rattle.clap.specs.ValueTests.{is_unsigned_in}
use Rattle.clap.specs.Walk.{texts}
use Rattle.clap.specs.Kinds.{Kinds}
use Rattle.clap.specs.declared.error.Error.{Error}
use Rattle.clap.specs.declared.error.ErrorKind.TheVariants.{OutOfMemory}
use Rattle.clap.specs.Words.{App, IsAmong, Row, Text, all_of, fault_of, first_of, kind_of, one_of, subcommand_of, takes}
use Rattle.command_line.specs.App.{telling_app, tep_app}
use Rattle.command_line.specs.Capture.{file_of}
use Rattle.command_line.specs.declared.line.Line.{Line}
use Rattle.command_line.specs.declared.line.Line.TheVariants as line
use Rattle.command_line.specs.declared.line.LineFault.{LineFault}
use Rattle.command_line.specs.declared.line.LineFault.TheVariants as fault

-- a command with its values: of `run` the settings, the changes, the underlay, the folder if there is one, the ports, whether
-- the tables are told, the moment at which they are, the events that are told in full, whether the counts are told, the
-- segments that a part takes, the file of the digests that are lent to it, whether what the switch itself sent is left out, how
-- long behind its frame that may come, the file of the list of that, whether all is told as JSON, too, whether no progress is
-- shown, and the file of its view; of
-- `check` the settings, the changes, the underlay, the ports, and whether it is told as JSON; of `explain` the settings, the depth,
-- whether values are told, the capture, and the same; of `migrate` the settings; of `digest` the underlay and the ports; of `merge` the folder, those
-- of the parts, whether the tables are told, whether the counts are, and whether they are told as JSON; of `split` the folder and
-- the capture; of `report` the folder that a run wrote into and the page; of `compare` what was sent, what was received, how much
-- later a record may be, how far the clock of what was received is ahead, whether what is alone is listed, what a table is by,
-- what is left aside, and whether it is told as JSON; of the other `compare` the folder that a run wrote into, what was captured
-- at the underlay and at the ports, the same two, the settings if there are some, whether all octets are compared at the underlay,
-- and the last four; of `fabric` the settings of the endpoints
pub data Meaning : Type 0 where
  sample : Meaning
  run : Text → Option Text → Text → Option Text → List Text → Bool
      → Option ℕ → List Text → Bool → Bool → Option Text → Option Text → Bool → Option Text → Option Text → Bool → Bool → Option Text
      → Meaning
  check : Text → Option Text → Option Text → List Text → Bool → Meaning
  explain : Text → ℕ → Bool → Text → Bool → Meaning
  migrate : Text → Meaning
  digest : Text → List Text → Meaning
  merge : Text → List Text → Bool → Bool → Bool → Meaning
  split : Text → Text → Meaning
  report : Text → Text → Meaning
  compare : Text → Text → Option Text → Option Text → Bool → Option Text → Bool → Bool → Meaning
  compare_worked : Text → Text → List Text → Option Text → Option Text → Option Text → Bool → Bool → Option Text → Bool → Bool
      → Meaning
  fabric : List Text → Meaning

-- what a command line is as such a meaning
abbrev pub meaning_of : Line → Meaning
meaning_of line.Sample = sample
meaning_of (line.Run settings changes underlay out ports tables tables_at why summary talkers segments digests both within list json quiet pcapng) =
    run settings.now (option_map (λ t. t.now) changes) underlay.now (option_map (λ t. t.now) out) (texts ports.items) tables tables_at
    (texts why.items) summary talkers (option_map (λ t. t.now) segments) (option_map (λ t. t.now) digests)
    both (option_map (λ t. t.now) within) (option_map (λ t. t.now) list) json quiet (option_map (λ t. t.now) pcapng)
meaning_of (line.Check settings changes underlay ports json) =
    check settings.now (option_map (λ t. t.now) changes) (option_map (λ t. t.now) underlay) (texts ports.items) json
meaning_of (line.Explain settings depth values capture json) = explain settings.now depth values capture.now json
meaning_of (line.Migrate settings) = migrate settings.now
meaning_of (line.Digest underlay ports) = digest underlay.now (texts ports.items)
meaning_of (line.Merge out parts tables summary json) = merge out.now (texts parts.items) tables summary json
meaning_of (line.Split out capture) = split out.now capture.now
meaning_of (line.Report folder page) = report folder.now page.now
meaning_of (line.Compare sent received within shift lists by ignores json) =
    compare sent.now received.now (option_map (λ t. t.now) within) (option_map (λ t. t.now) shift) lists
    (option_map (λ t. t.now) by) ignores json
meaning_of (line.CompareWorked worked underlay ports within shift settings strict lists by ignores json) =
    compare_worked worked.now underlay.now (texts ports.items) (option_map (λ t. t.now) within) (option_map (λ t. t.now) shift)
    (option_map (λ t. t.now) settings) strict lists (option_map (λ t. t.now) by) ignores json
meaning_of (line.Fabric leaves) = fabric (texts leaves.items)

-- a depth is 1 to 4
abbrev pub HasDepth : Line → Type 0
HasDepth line.Sample = ⊤
HasDepth (line.Run settings changes underlay out ports tables tables_at why summary talkers segments digests both within list json quiet pcapng) = ⊤
HasDepth (line.Check settings changes underlay ports json) = ⊤
HasDepth (line.Explain settings depth values capture json) = (1 ≤ depth) × (depth ≤ 4)
HasDepth (line.Migrate settings) = ⊤
HasDepth (line.Digest underlay ports) = ⊤
HasDepth (line.Merge out parts tables summary json) = ⊤
HasDepth (line.Split out capture) = ⊤
HasDepth (line.Report folder page) = ⊤
HasDepth (line.Compare sent received within shift lists by ignores json) = ⊤
HasDepth (line.CompareWorked worked underlay ports within shift settings strict lists by ignores json) = ⊤
HasDepth (line.Fabric leaves) = ⊤

-- ---- what matches mean: nothing, where a required value is missing

-- the file of the settings
abbrev pub settings_in : List Row → Option Text
settings_in = first_of (codes "settings")

-- the file of the changes, where one is named
abbrev pub changes_in : List Row → Option Text
changes_in = first_of (codes "changes")

-- the number of 1 to 4 that a text is
abbrev pub depth_of : Text → Option ℕ
depth_of text = if is_unsigned_in 1 4 text then Some (digits_value 10 (without_leading_plus text)) else None

-- a number, where it is one of 1 to 4
abbrev pub small_depth : ℕ → Option ℕ
small_depth depth = if nat_le 1 depth && nat_le depth 4 then Some depth else None

-- the depth, where the matches have one that is allowed
abbrev pub depth_in : List Row → Option ℕ
depth_in rows = option_and_then depth_of (one_of (codes "depth") rows)

-- whether the value of a flag says that it is set
abbrev pub set_by : Option Text → Bool
set_by None = false
set_by (Some t) = bytes_eq t (codes "true")

-- whether a flag is set
abbrev pub is_set : Text → List Row → Bool
is_set id rows = set_by (first_of id rows)

-- the captures of ports, where some are named
abbrev pub seen_ports : List Row → List Text
seen_ports rows = unwrap_or (all_of (codes "ports") rows) []

-- the number of 64 bits that a text is
abbrev pub moment_of : Text → Option ℕ
moment_of text = if is_unsigned_in 0 (2 ^ 64 - 1) text then Some (digits_value 10 (without_leading_plus text)) else None

-- the moment at which tables are told, where one is named
abbrev pub moment_in : List Row → Option ℕ
moment_in rows = option_and_then moment_of (one_of (codes "tables-at") rows)

-- the events that are told in full
abbrev pub why_in : List Row → List Text
why_in rows = unwrap_or (all_of (codes "why") rows) []

-- what `run` is asked to do
abbrev pub run_meant : List Row → Option Meaning
run_meant rows = option_and_then (λ s. option_and_then (λ u.
    option_map (λ ps. run s (changes_in rows) u (first_of (codes "out") rows) ps (is_set (codes "tables") rows) (moment_in rows)
    (why_in rows) (is_set (codes "summary") rows) (is_set (codes "talkers") rows) (first_of (codes "segments") rows)
    (first_of (codes "digests") rows) (is_set (codes "both") rows) (first_of (codes "within") rows) (first_of (codes "list") rows)
    (is_set (codes "json") rows) (is_set (codes "quiet") rows) (first_of (codes "pcapng") rows)) (all_of (codes "ports") rows)) (first_of (codes "underlay") rows)) (settings_in rows)

-- what `check` is asked to do
abbrev pub check_meant : List Row → Option Meaning
check_meant rows =
    option_map (λ s. check s (changes_in rows) (first_of (codes "underlay") rows) (seen_ports rows) (is_set (codes "json") rows))
    (settings_in rows)

-- what `explain` is asked to do
abbrev pub explain_meant : List Row → Option Meaning
explain_meant rows = option_and_then (λ s. option_and_then (λ c. option_map (λ d. explain s d (is_set (codes "values") rows) c
    (is_set (codes "json") rows)) (depth_in rows)) (first_of (codes "capture") rows)) (settings_in rows)

-- what `migrate` is asked to do
abbrev pub migrate_meant : List Row → Option Meaning
migrate_meant rows = option_map (λ s. migrate s) (settings_in rows)

-- what `digest` is asked to do
abbrev pub digest_meant : List Row → Option Meaning
digest_meant rows = option_and_then (λ u. option_map (λ ps. digest u ps) (all_of (codes "ports") rows)) (first_of (codes "underlay") rows)

-- what `merge` is asked to do
abbrev pub merge_meant : List Row → Option Meaning
merge_meant rows =
    option_and_then (λ o. option_map (λ ps. merge o ps (is_set (codes "tables") rows) (is_set (codes "summary") rows)
    (is_set (codes "json") rows)) (all_of (codes "parts") rows)) (first_of (codes "out") rows)

-- what `split` is asked to do
abbrev pub split_meant : List Row → Option Meaning
split_meant rows =
    option_and_then (λ o. option_map (λ c. split o c) (first_of (codes "capture") rows)) (first_of (codes "out") rows)

-- what `report` is asked to do
abbrev pub report_meant : List Row → Option Meaning
report_meant rows =
    option_and_then (λ f. option_map (λ p. report f p) (first_of (codes "out") rows)) (first_of (codes "folder") rows)

-- whether frames to the addresses that no bridge forwards are left aside: by a list of words, which can only be `reserved`
abbrev pub ignores_by : Option Text → Option Bool
ignores_by None = Some false
ignores_by (Some t) = if bytes_eq t (codes "reserved") then Some true else None

abbrev pub ignores_in : List Row → Option Bool
ignores_in rows = ignores_by (first_of (codes "ignore") rows)

-- what `compare` is asked to do with two captures, and with no others
abbrev pub pair_meant : List Text → Option Text → Option Text → Bool → Option Text → Bool → Bool → Option Meaning
pair_meant [] within shift lists by ignores json = None
pair_meant (sent ∷ []) within shift lists by ignores json = None
pair_meant (sent ∷ received ∷ []) within shift lists by ignores json = Some (compare sent received within shift lists by ignores json)
pair_meant (sent ∷ received ∷ another ∷ more) within shift lists by ignores json = None

-- and neither with settings nor strictly
abbrev pub plain_pair_meant : Option Text → Bool → List Text → Option Text → Option Text → Bool → Option Text → Bool → Bool
    → Option Meaning
plain_pair_meant None false captures within shift lists by ignores json = pair_meant captures within shift lists by ignores json
plain_pair_meant None true captures within shift lists by ignores json = None
plain_pair_meant (Some settings) strict captures within shift lists by ignores json = None

-- by the folder of a run and what was captured at the underlay: with both of them each capture is one of a port, with neither
-- there are two
abbrev pub captures_meant : Option Text → Option Text → List Text → Option Text → Option Text → Option Text → Bool → Bool
    → Option Text → Bool → Bool → Option Meaning
captures_meant None None captures within shift settings strict lists by ignores json =
    plain_pair_meant settings strict captures within shift lists by ignores json
captures_meant None (Some underlay) captures within shift settings strict lists by ignores json = None
captures_meant (Some worked) None captures within shift settings strict lists by ignores json = None
captures_meant (Some worked) (Some underlay) captures within shift settings strict lists by ignores json =
    Some (compare_worked worked underlay captures within shift settings strict lists by ignores json)

-- what `compare` is asked to do
abbrev pub compare_meant : List Row → Option Meaning
compare_meant rows =
    option_and_then (λ captures. option_and_then (λ ignores. captures_meant (first_of (codes "worked") rows)
    (first_of (codes "underlay") rows) captures (first_of (codes "within") rows) (first_of (codes "shift") rows) (settings_in rows)
    (is_set (codes "strict") rows) (is_set (codes "list") rows) (first_of (codes "by") rows) ignores
    (is_set (codes "json") rows)) (ignores_in rows))
    (all_of (codes "captures") rows)

-- what the words behind `fabric` ask for: the word `check`, and one leaf at least
abbrev pub leaves_meant : List Text → Option Meaning
leaves_meant [] = None
leaves_meant (word ∷ []) = None
leaves_meant (word ∷ leaf ∷ more) = if bytes_eq word (codes "check") then Some (fabric (leaf ∷ more)) else None

-- what `fabric` is asked to do
abbrev pub fabric_meant : List Row → Option Meaning
fabric_meant rows = option_and_then leaves_meant (all_of (codes "leaves") rows)

-- what a subcommand of this name is asked to do
abbrev pub command_meant : Text → List Row → Option Meaning
command_meant name rows =
    if bytes_eq name (codes "run") then run_meant rows
    else (if bytes_eq name (codes "check") then check_meant rows
    else (if bytes_eq name (codes "explain") then explain_meant rows
    else (if bytes_eq name (codes "migrate") then migrate_meant rows
    else (if bytes_eq name (codes "digest") then digest_meant rows
    else (if bytes_eq name (codes "merge") then merge_meant rows
    else (if bytes_eq name (codes "split") then split_meant rows
    else (if bytes_eq name (codes "compare") then compare_meant rows
    else (if bytes_eq name (codes "report") then report_meant rows
    else (if bytes_eq name (codes "fabric") then fabric_meant rows else None)))))))))

-- what a parse means that met this subcommand with these matches, or none
abbrev pub line_meant : Option (Text × List Row) → Option Meaning
line_meant None = Some sample
line_meant (Some p) = command_meant p.0 p.1

-- ---- what words mean to `clap`'s definition of simple commands

-- no fault is among these
abbrev pub are_none : Kinds → Bool
are_none [] = true
are_none (k ∷ ks) = false

-- the words are taken
abbrev pub fit : App → List Text → Bool
fit app words = are_none (fault_of app words)

-- a list has something
abbrev pub has_any : List Text → Bool
has_any [] = false
has_any (t ∷ ts) = true

-- something is printed of a run besides its outputs
abbrev pub is_printing : Meaning → Bool
is_printing (run settings changes underlay out ports tables tables_at why summary talkers segments digests both within list json quiet pcapng) =
    tables || (is_some tables_at || (has_any why || (summary || talkers)))
is_printing _ = false

-- the file of the view of a run, where there is one
abbrev pub view_of : Meaning → Option Text
view_of (run settings changes underlay out ports tables tables_at why summary talkers segments digests both within list json quiet pcapng) = pcapng
view_of _ = None

-- the file of the list of what it leaves out, where there is one
abbrev pub list_of : Meaning → Option Text
list_of (run settings changes underlay out ports tables tables_at why summary talkers segments digests both within list json quiet pcapng) = list
list_of _ = None

-- something is told of a run besides its outputs
abbrev pub is_telling : Meaning → Bool
is_telling meaning = is_printing meaning || (is_some (view_of meaning) || is_some (list_of meaning))

-- the same, where it is so
abbrev pub telling : Meaning → Option Meaning
telling meaning = if is_telling meaning then Some meaning else None

-- what words mean that ask for a run of which something is told, and may leave its folder out
abbrev pub telling_meant : List Text → Option Meaning
telling_meant words = if fit telling_app words then option_and_then telling (line_meant (subcommand_of telling_app words)) else None

-- what the words mean: that of the program, and where it doesn't take them, that of such a run
abbrev pub words_meant : List Text → Option Meaning
words_meant words = if fit tep_app words then line_meant (subcommand_of tep_app words) else telling_meant words

-- the words are taken
abbrev pub AreTaken : List Text → Type 0
AreTaken words = (fault_of tep_app words ≡ []) ⊎ IsSome (telling_meant words)

-- ---- standard input

-- how many captures of some names are standard input, whichever interface's packets are taken
abbrev pub inputs_among : List Text → ℕ
inputs_among names = count_by (λ name. bytes_eq (file_of name) (codes "-")) names

-- how many captures are standard input; texts are files, whatever their names, and beside what a run wrote '-' is no capture
abbrev pub input_uses : Meaning → ℕ
input_uses sample = 0
input_uses (run settings changes underlay out ports tables tables_at why summary talkers segments digests both within list json quiet pcapng) =
    inputs_among (underlay ∷ ports)
input_uses (check settings changes None ports json) = inputs_among ports
input_uses (check settings changes (Some underlay) ports json) = inputs_among (underlay ∷ ports)
input_uses (explain settings depth values capture json) = inputs_among (capture ∷ [])
input_uses (migrate settings) = 0
input_uses (digest underlay ports) = inputs_among (underlay ∷ ports)
input_uses (merge out parts tables summary json) = 0
input_uses (split out capture) = inputs_among (capture ∷ [])
input_uses (report folder page) = 0
input_uses (compare sent received within shift lists by ignores json) = inputs_among (sent ∷ received ∷ [])
input_uses (compare_worked worked underlay ports within shift settings strict lists by ignores json) = 0
input_uses (fabric leaves) = 0

-- it is read once at most
abbrev pub ReadsInputOnce : Meaning → Type 0
ReadsInputOnce meaning = input_uses meaning ≤ 1

-- ---- digests that are lent

-- digests are lent to a run that is no part
abbrev pub lends_to_a_whole : Meaning → Bool
lends_to_a_whole (run settings changes underlay out ports tables tables_at why summary talkers segments digests both within list json quiet pcapng) =
    is_some digests && not (is_some segments)
lends_to_a_whole _ = false

-- digests are lent to nothing but a part
abbrev pub LendsToParts : Meaning → Type 0
LendsToParts meaning = lends_to_a_whole meaning ≡ false

-- ---- standard output

-- a file is standard output
abbrev pub is_output : Option Text → Bool
is_output None = false
is_output (Some name) = bytes_eq name (codes "-")

-- of the view of a run, its list, and what is printed two go to standard output
abbrev pub mixes_output : Meaning → Bool
mixes_output meaning =
    let view = is_output (view_of meaning) in let list = is_output (list_of meaning) in
    (is_printing meaning && (view || list)) || (view && list)

-- nothing is mixed there
abbrev pub KeepsOutputApart : Meaning → Type 0
KeepsOutputApart meaning = mixes_output meaning ≡ false

-- ---- comparisons of nothing

-- each of some names says that there is no capture
abbrev pub are_no_captures : List Text → Bool
are_no_captures [] = true
are_no_captures (name ∷ names) = bytes_eq name (codes "-") && are_no_captures names

-- what a run wrote is compared with no capture at all
abbrev pub compares_nothing : Meaning → Bool
compares_nothing (compare_worked worked underlay ports within shift settings strict lists by ignores json) =
    are_no_captures (underlay ∷ ports)
compares_nothing _ = false

-- there is something to compare where captures are compared
abbrev pub ComparesSomething : Meaning → Type 0
ComparesSomething meaning = compares_nothing meaning ≡ false

-- ---- when each fault is answered

-- the program refuses the words with this error, which may be that of memory
abbrev pub RefusesAsWhole : List Text → Error → Type 0
RefusesAsWhole words e = (kind_of e ≡ OutOfMemory) ⊎ ((takes tep_app words ≡ false) × IsAmong (kind_of e) (fault_of tep_app words))

-- Refused where that definition takes the words neither as the program's nor as those of a run of which something is told, and
-- then as the program's are; NoValue where it takes them as the program's and its matches lack a required value; Unpaired where
-- its matches have one, but are of `compare` with captures as it doesn't take them, NoCheck of `fabric` with other words, NoFolder with captures that were worked out by
-- no run but settings, or strictly, and Ignored with something to leave aside that it doesn't know; InputTwice where it takes them
-- and they ask for standard input more than once, NoSegments where it takes them and they lend digests to a run that is no part,
-- OutputTwice where it takes them and two things go to standard output, NoCapture where it takes them and they
-- compare what a run wrote with no capture
abbrev pub Explains : List Text → LineFault → Type 0
Explains words fault.OutOfMemory = ⊤
Explains words (fault.Refused e) = (takes tep_app words ≡ false)
    × IsAmong (kind_of e) (fault_of tep_app words) × (telling_meant words ≡ None)
Explains words fault.NoValue = (fault_of tep_app words ≡ []) × (words_meant words ≡ None)
Explains words fault.Unpaired = (fault_of tep_app words ≡ []) × (words_meant words ≡ None)
Explains words fault.NoFolder = (fault_of tep_app words ≡ []) × (words_meant words ≡ None)
Explains words fault.Ignored = (fault_of tep_app words ≡ []) × (words_meant words ≡ None)
Explains words fault.NoCheck = (fault_of tep_app words ≡ []) × (words_meant words ≡ None)
Explains words fault.InputTwice = AreTaken words × IsSomeAnd (words_meant words) (λ meaning. 2 ≤ input_uses meaning)
Explains words fault.NoSegments = AreTaken words × IsSomeAnd (words_meant words) (λ meaning. lends_to_a_whole meaning ≡ true)
Explains words fault.OutputTwice = AreTaken words × IsSomeAnd (words_meant words) (λ meaning. mixes_output meaning ≡ true)
Explains words fault.NoCapture = AreTaken words × IsSomeAnd (words_meant words) (λ meaning. compares_nothing meaning ≡ true)

-- the same of what is read before it's known what the words ask for
abbrev pub ExplainsWords : List Text → LineFault → Type 0
ExplainsWords words fault.OutOfMemory = ⊤
ExplainsWords words (fault.Refused e) = Explains words (fault.Refused e)
ExplainsWords words fault.NoValue = Explains words fault.NoValue
ExplainsWords words fault.Unpaired = Explains words fault.Unpaired
ExplainsWords words fault.NoFolder = Explains words fault.NoFolder
ExplainsWords words fault.Ignored = Explains words fault.Ignored
ExplainsWords words fault.NoCheck = Explains words fault.NoCheck
ExplainsWords words fault.InputTwice = ⊥
ExplainsWords words fault.NoSegments = ⊥
ExplainsWords words fault.OutputTwice = ⊥
ExplainsWords words fault.NoCapture = ⊥

-- the same of the part behind the parse, which refuses nothing but captures that `compare` doesn't take
abbrev pub LacksValue : Option Meaning → LineFault → Type 0
LacksValue meant fault.OutOfMemory = ⊤
LacksValue meant (fault.Refused e) = ⊥
LacksValue meant fault.NoValue = meant ≡ None
LacksValue meant fault.Unpaired = meant ≡ None
LacksValue meant fault.NoFolder = meant ≡ None
LacksValue meant fault.Ignored = meant ≡ None
LacksValue meant fault.NoCheck = meant ≡ None
LacksValue meant fault.InputTwice = ⊥
LacksValue meant fault.NoSegments = ⊥
LacksValue meant fault.OutputTwice = ⊥
LacksValue meant fault.NoCapture = ⊥

-- what the part behind the parse answers, where the matches mean this: a line that means it, whose depth is 1 to 4, or what is
-- lacking
pub record Answers (meant : Option Meaning) (result : Result Line LineFault) : Type 0 where
  pub ok : IfOk result (λ line. meant ≡ Some (meaning_of line))
  pub depth : IfOk result HasDepth
  pub fault : IfErr result (LacksValue meant)
