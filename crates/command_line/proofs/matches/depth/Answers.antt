use Rattle.std.proofs.Common.{◌∙◌}
use Rattle.std.specs.Str.Parse.{ParsesUnsigned, ExplainsUnsignedError, HasUnsignedDigitsIfOk}
use Rattle.clap.specs.Words.{found_of}
use Rattle.command_line.proofs.Depth.{depth_read}
use Rattle.command_line.proofs.matches.depth.Goals as goal

pub returns-clause-value : goal.returns-clause-value
returns-clause-value c = c.small.ensures.value
    ∙ depth_read (λ bs r. ParsesUnsigned 8 10 bs r × ExplainsUnsignedError 10 bs r × HasUnsignedDigitsIfOk bs r) (λ t r g. g.0)
    (found_of c.args.inner.now) c.get_one.result c.get_one.ensures.none c.get_one.ensures.value
