-- What `clap` is told of the program: its commands and their arguments. It serves to say what a command line means.
use Rattle.std.specs.Prelude.{codes, true, Some, pos, List, [], ◌∷◌, ◌^◌, ◌-◌}
use Rattle.clap.specs.Words.{App, Rule, Shape, Text, new_app, new_rule, with_rule, with_subcommand}
use Rattle.clap.specs.Lexer.{usize_max}
use Rattle.clap.specs.declared.builder.action.ArgAction.TheVariants.{Set, Append, SetTrue}
use Rattle.clap.specs.declared.builder.value_parser.ValueParser.TheVariants as parser
use Rattle.command_line.specs.declared.arguments.Argument.{Argument}
use Rattle.command_line.specs.declared.arguments.Argument.TheVariants as arguments
use Rattle.command_line.specs.declared.commands.Subcommand.{Subcommand}
use Rattle.command_line.specs.declared.commands.Subcommand.TheVariants as subcommands

-- ---- the arguments: no name of a file or a folder is the empty text

-- an argument by its place: a text that isn't empty
abbrev pub placed_rule : Text → Rule
placed_rule name = record (new_rule name) { value_names = 1; action = Some Set; parser = Some parser.NonEmptyString }

-- such arguments, one or more
abbrev pub listed_rule : Text → Rule
listed_rule name = record (placed_rule name) {
  action = Some Append;
  range = Some (record { start_inclusive = 1; end_inclusive = usize_max });
}

-- `--NAME TEXT`
abbrev pub option_rule : Text → Rule
option_rule name = record (placed_rule name) { long = Some name }

-- `--NAME`
abbrev pub flag_rule : Text → Rule
flag_rule name = record (new_rule name) { long = Some name; action = Some SetTrue }

-- each: a letter is that of a short option, as in `-s FILE`; the moment is a number of 64 bits, the depth one of 1 to 4, by
-- default 4; `--why` may be given as often as wanted
abbrev pub rule_for : Argument → Rule
rule_for arguments.Settings = record (option_rule (codes "settings")) { short = Some 115; required = true }
rule_for arguments.Changes = record (option_rule (codes "changes")) { short = Some 99 }
rule_for arguments.Underlay = record (option_rule (codes "underlay")) { short = Some 117; required = true }
rule_for arguments.SeenUnderlay = record (option_rule (codes "underlay")) { short = Some 117 }
rule_for arguments.Out = record (option_rule (codes "out")) { short = Some 111; required = true }
rule_for arguments.RunOut = record (option_rule (codes "out")) { short = Some 111; required = true }
rule_for arguments.OptionalOut = record (option_rule (codes "out")) { short = Some 111 }
rule_for arguments.Ports = record (listed_rule (codes "ports")) { required = true }
rule_for arguments.SeenPorts = listed_rule (codes "ports")
rule_for arguments.Tables = flag_rule (codes "tables")
rule_for arguments.TablesAt = record (option_rule (codes "tables-at")) { parser = Some (parser.Unsigned 0 (2 ^ 64 - 1)) }
rule_for arguments.Why = record (option_rule (codes "why")) { action = Some Append }
rule_for arguments.Summary = flag_rule (codes "summary")
rule_for arguments.Talkers = flag_rule (codes "talkers")
rule_for arguments.Json = flag_rule (codes "json")
rule_for arguments.RunJson = flag_rule (codes "json")
rule_for arguments.Quiet = flag_rule (codes "quiet")
rule_for arguments.Pcapng = option_rule (codes "pcapng")
rule_for arguments.Segments = option_rule (codes "segments")
rule_for arguments.Digests = option_rule (codes "digests")
rule_for arguments.Both = flag_rule (codes "both")
rule_for arguments.Within = option_rule (codes "within")
rule_for arguments.List = option_rule (codes "list")
rule_for arguments.Parts = record (listed_rule (codes "parts")) { required = true }
rule_for arguments.Depth = record (option_rule (codes "depth")) {
  short = Some 100;
  parser = Some (parser.Signed (pos 1) (pos 4));
  defaults = codes "4" ∷ [];
}
rule_for arguments.Values = flag_rule (codes "values")
rule_for arguments.Capture = record (placed_rule (codes "capture")) { required = true }
rule_for arguments.SplitCapture = record (placed_rule (codes "capture")) { required = true }
rule_for arguments.RunFolder = record (placed_rule (codes "folder")) { required = true }
rule_for arguments.Page = record (option_rule (codes "out")) { short = Some 111; required = true }
rule_for arguments.Compared = record (listed_rule (codes "captures")) { required = true }
rule_for arguments.Worked = option_rule (codes "worked")
rule_for arguments.WorkedUnderlay = record (option_rule (codes "underlay")) { short = Some 117 }
rule_for arguments.Later = option_rule (codes "within")
rule_for arguments.Shift = option_rule (codes "shift")
rule_for arguments.WorkedSettings = record (option_rule (codes "settings")) { short = Some 115 }
rule_for arguments.Strict = flag_rule (codes "strict")
rule_for arguments.Lists = flag_rule (codes "list")
rule_for arguments.By = option_rule (codes "by")
rule_for arguments.Ignore = option_rule (codes "ignore")
rule_for arguments.Leaves = record (listed_rule (codes "leaves")) { required = true }

-- an app with these arguments behind its own
abbrev pub with_arguments : App → List Argument → App
with_arguments app [] = app
with_arguments app (a ∷ more) = with_arguments (with_rule app (rule_for a)) more

-- ---- the commands

-- the word that asks for a command
abbrev pub name_of : Subcommand → Text
name_of subcommands.Run = codes "run"
name_of subcommands.TellingRun = codes "run"
name_of subcommands.Check = codes "check"
name_of subcommands.Explain = codes "explain"
name_of subcommands.Migrate = codes "migrate"
name_of subcommands.Digest = codes "digest"
name_of subcommands.Merge = codes "merge"
name_of subcommands.Split = codes "split"
name_of subcommands.Compare = codes "compare"
name_of subcommands.Report = codes "report"
name_of subcommands.Fabric = codes "fabric"

-- what a run takes, with an argument for its folder
abbrev pub run_with : Argument → List Argument
run_with out =
    arguments.Settings ∷ arguments.Changes ∷ arguments.Underlay
    ∷ out ∷ arguments.Ports ∷ arguments.Both ∷ arguments.Within ∷ arguments.List ∷ arguments.Tables
    ∷ arguments.TablesAt ∷ arguments.Why ∷ arguments.Summary ∷ arguments.Talkers ∷ arguments.RunJson ∷ arguments.Pcapng ∷ arguments.Segments
    ∷ arguments.Digests ∷ arguments.Quiet ∷ []

-- what it takes
abbrev pub arguments_of : Subcommand → List Argument
arguments_of subcommands.Run = run_with arguments.RunOut
arguments_of subcommands.TellingRun = run_with arguments.OptionalOut
arguments_of subcommands.Check =
    arguments.Settings ∷ arguments.Changes ∷ arguments.SeenUnderlay ∷ arguments.SeenPorts
    ∷ arguments.Json ∷ []
arguments_of subcommands.Explain =
    arguments.Settings ∷ arguments.Depth ∷ arguments.Values ∷ arguments.Capture ∷ arguments.Json ∷ []
arguments_of subcommands.Migrate = arguments.Settings ∷ []
arguments_of subcommands.Digest = arguments.Underlay ∷ arguments.Ports ∷ []
arguments_of subcommands.Merge =
    arguments.Out ∷ arguments.Parts ∷ arguments.Tables ∷ arguments.Summary ∷ arguments.Json ∷ []
arguments_of subcommands.Split = arguments.Out ∷ arguments.SplitCapture ∷ []
arguments_of subcommands.Compare =
    arguments.Compared ∷ arguments.Worked ∷ arguments.WorkedUnderlay ∷ arguments.WorkedSettings ∷ arguments.Strict
    ∷ arguments.Later ∷ arguments.Shift ∷ arguments.Lists ∷ arguments.By ∷ arguments.Ignore ∷ arguments.Json ∷ []
arguments_of subcommands.Report = arguments.Page ∷ arguments.RunFolder ∷ []
arguments_of subcommands.Fabric = arguments.Leaves ∷ []

-- what `clap` keeps of it
abbrev pub shape_for : Subcommand → Shape
shape_for s = (with_arguments (new_app (name_of s)) (arguments_of s)).top

-- an app with these commands behind its own
abbrev pub with_commands : App → List Subcommand → App
with_commands app [] = app
with_commands app (s ∷ more) = with_commands (with_subcommand app (shape_for s)) more

-- ---- the program

-- its name, and that it and its commands have a version to tell
abbrev pub versioned_app : App
versioned_app = let app = new_app (codes "tep") in record app { top = record app.top { has_version = true; propagate_version = true } }

-- the program with its commands, in the order of its help
abbrev pub tep_app : App
tep_app =
    with_commands versioned_app
    (subcommands.Run ∷ subcommands.Check ∷ subcommands.Explain
    ∷ subcommands.Migrate ∷ subcommands.Digest ∷ subcommands.Merge ∷ subcommands.Split ∷ subcommands.Compare
    ∷ subcommands.Report ∷ subcommands.Fabric ∷ [])

-- the program with the run alone that may leave its folder out
abbrev pub telling_app : App
telling_app = with_commands versioned_app (subcommands.TellingRun ∷ [])
