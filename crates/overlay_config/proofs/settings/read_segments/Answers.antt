use Rattle.std.proofs.Common.{codes, lit≤, arith}
use Rattle.config_text.proofs.Names.{fit_thousands}
use Rattle.overlay_config.proofs.settings.read_segments.Goals as goal

pub read_rows-requires-clause-short : goal.read_rows-requires-clause-short
read_rows-requires-clause-short c = fit_thousands (codes "segment") _ (lit≤ tt) (omega (arith, c.in_ok-tables.ensures.few, c.requires))
