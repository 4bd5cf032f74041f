use Rattle.std.proofs.Common.{inl}
use Rattle.std.specs.Prelude.{Some}
use Rattle.clap.specs.Walk.{texts}
use Rattle.clap.specs.Words.{app_of}
use Rattle.command_line.specs.Meaning.{meaning_of}
use Rattle.command_line.proofs.Simple.{explained_by, if_err, if_ok, meant_by, on_ok, refused_by, taken_by}
use Rattle.command_line.proofs.words.line_in.Goals as goal

pub telling_line_or-requires : goal.telling_line_or-requires
telling_line_or-requires c = refused_by (app_of c.in-Ok.command) (texts c.args.words.now) c.in-Err.error c.in-Ok.ensures c.in-Err.ensures.passes c.in-Err.ensures.kinds

pub returns-in-Ok-try_get_matches_from-clause-ok : goal.returns-in-Ok-try_get_matches_from-clause-ok
returns-in-Ok-try_get_matches_from-clause-ok c =
    let parse = c.in-Ok-try_get_matches_from in
    if_ok c.line_from.result
    (λ line h. meant_by (app_of c.in-Ok.command) (texts c.args.words.now) parse.matches (Some (meaning_of line)) c.in-Ok.ensures parse.ensures.matches parse.ensures.kinds h)
    c.line_from.ensures.ok

pub returns-in-Ok-try_get_matches_from-clause-taken : goal.returns-in-Ok-try_get_matches_from-clause-taken
returns-in-Ok-try_get_matches_from-clause-taken c =
    on_ok c.line_from.result (inl (taken_by (app_of c.in-Ok.command) (texts c.args.words.now) c.in-Ok.ensures c.in-Ok-try_get_matches_from.ensures.kinds))

pub returns-in-Ok-try_get_matches_from-clause-fault : goal.returns-in-Ok-try_get_matches_from-clause-fault
returns-in-Ok-try_get_matches_from-clause-fault c =
    let parse = c.in-Ok-try_get_matches_from in
    if_err c.line_from.result
    (λ fault h. explained_by (app_of c.in-Ok.command) (texts c.args.words.now) parse.matches fault c.in-Ok.ensures parse.ensures.matches parse.ensures.kinds h)
    c.line_from.ensures.fault
