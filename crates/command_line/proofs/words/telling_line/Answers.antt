use Rattle.std.proofs.Common.{◌∙◌, sym}
use Rattle.clap.specs.Walk.{texts}
use Rattle.clap.specs.Words.{app_of}
use Rattle.command_line.proofs.Simple.{if_ok, not_telling_by, telling_by}
use Rattle.command_line.proofs.words.telling_line.Goals as goal

pub returns-in-Ok-clause-ok : goal.returns-in-Ok-clause-ok
returns-in-Ok-clause-ok c =
    if_ok c.telling_line_from.result
    (λ line h. h ∙ telling_by (app_of c.in_ok-command.command) (texts c.args.words.now) c.in-Ok.matches c.in_ok-command.ensures c.in-Ok.ensures.matches c.in-Ok.ensures.kinds)
    c.telling_line_from.ensures.ok

pub returns : goal.returns
returns c = record {
  ok = sym (not_telling_by (app_of c.in_ok-command.command) (texts c.args.words.now) c.in-Err.error c.in_ok-command.ensures c.in-Err.ensures.kinds
      (λ h. c.in_default.not-OutOfMemory (c.kind.ensures ∙ h)));
  depth = tt;
}
