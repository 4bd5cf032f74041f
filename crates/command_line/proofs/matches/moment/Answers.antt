use Rattle.std.specs.Str.Parse.{ParsesUnsigned, ExplainsUnsignedError, HasUnsignedDigitsIfOk}
use Rattle.clap.specs.Words.{found_of}
use Rattle.command_line.proofs.Moment.{moment_read}
use Rattle.command_line.proofs.matches.moment.Goals as goal

pub returns : goal.returns
returns c =
    moment_read (λ bs r. ParsesUnsigned 64 10 bs r × ExplainsUnsignedError 10 bs r × HasUnsignedDigitsIfOk bs r) (λ t r g. g.0)
    (found_of c.args.inner.now) c.get_one.result c.get_one.ensures.none c.get_one.ensures.value
