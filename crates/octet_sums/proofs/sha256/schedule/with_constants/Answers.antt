use Rattle.std.proofs.Common.{refl}
use Rattle.octet_sums.proofs.Words.{keyed_words}
use Rattle.octet_sums.proofs.sha256.schedule.with_constants.Goals as goal

pub returns : goal.returns
returns c words e = keyed_words words c.args.w c.args.t _ c.requires refl e
