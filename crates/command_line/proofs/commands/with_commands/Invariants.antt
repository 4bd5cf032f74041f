use Rattle.std.proofs.Common.{◌≡◌, drop}
use Rattle.clap.specs.Words.{app_of}
use Rattle.command_line.specs.App.{with_commands}
use Rattle.command_line.proofs.commands.with_commands.Given as goal

-- with the commands that are left, it is all
abbrev pub invariant-loop-subcommand : goal.invariant-loop-subcommand
invariant-loop-subcommand l = with_commands (app_of l.command) (drop l.subcommand-index l.subcommands) ≡ with_commands (app_of l.fn.command) l.subcommands
