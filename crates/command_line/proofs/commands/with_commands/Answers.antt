use Rattle.std.proofs.Common.{◌∙◌, ◌+◌, ap, sym, drop}
use Rattle.std.proofs.lemmas.List.{drop_more}
use Rattle.clap.specs.Words.{App, app_of, with_subcommand}
use Rattle.command_line.specs.App.{with_commands}
use Rattle.command_line.proofs.commands.with_commands.Goals as goal

pub loop-subcommand-preserved : goal.loop-subcommand-preserved
loop-subcommand-preserved c =
    let all = c.args.subcommands.now in
    let i = c.loop-subcommand.subcommand-index in
    let app = app_of c.loop-subcommand.command in
    ap (λ (a : App). with_commands a (drop (i + 1) all)) (c.in_ok-command-2.ensures.shape c.in_ok-command.ensures.local ∙ ap (with_subcommand app) c.in_ok-command.ensures.shape)
    ∙ sym (ap (with_commands app) (drop_more all i _ c.loop-subcommand-test.true)) ∙ c.loop-subcommand.invariant
