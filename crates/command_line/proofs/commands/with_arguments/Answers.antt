use Rattle.std.proofs.Common.{◌∙◌, ◌+◌, ap, sym, drop, Bool, ◌||◌}
use Rattle.std.proofs.Math.Bool.{or-false}
use Rattle.std.proofs.lemmas.List.{drop_more}
use Rattle.clap.specs.Words.{App, app_of, with_rule}
use Rattle.clap.specs.declared.builder.Command.TheViews.{out-Command as fields_of}
use Rattle.command_line.specs.App.{with_arguments}
use Rattle.command_line.proofs.commands.with_arguments.Goals as goal

pub loop-argument-preserved : goal.loop-argument-preserved
loop-argument-preserved c =
    let all = c.args.arguments.now in
    let i = c.loop-argument.argument-index in
    let app = app_of c.loop-argument.command in
    record {
      app = ap (λ (a : App). with_arguments a (drop (i + 1) all)) (c.in_ok-command.ensures.shape c.arg.ensures.local ∙ ap (with_rule app) c.arg.ensures.rule)
          ∙ sym (ap (with_arguments app) (drop_more all i _ c.loop-argument-test.true)) ∙ c.loop-argument.invariant.app;
      local = c.in_ok-command.ensures.globals ∙ ap (λ (b : Bool). (fields_of c.loop-argument.command).has_globals || b) c.arg.ensures.local
          ∙ or-false (fields_of c.loop-argument.command).has_globals ∙ c.loop-argument.invariant.local;
    }
