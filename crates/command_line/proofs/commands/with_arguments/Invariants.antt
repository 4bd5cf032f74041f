use Rattle.std.proofs.Common.{◌≡◌, drop}
use Rattle.clap.specs.Words.{app_of}
use Rattle.clap.specs.declared.builder.Command.TheViews.{out-Command as fields_of}
use Rattle.command_line.specs.App.{with_arguments}
use Rattle.command_line.proofs.commands.with_arguments.Given as goal

-- with the arguments that are left, it is all
abbrev pub invariant-loop-argument : goal.invariant-loop-argument
invariant-loop-argument l = record {
  app : with_arguments (app_of l.command) (drop l.argument-index l.arguments) ≡ with_arguments (app_of l.fn.command) l.arguments;
  local : (fields_of l.command).has_globals ≡ (fields_of l.fn.command).has_globals;
}
