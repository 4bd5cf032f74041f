use Rattle.std.proofs.Common.{codes, lit≤, arith}
use Rattle.config_text.proofs.Names.{fit_more_numbers}
use Rattle.overlay_config.proofs.underlay_table.read_hops.Goals as goal

pub read_rows-requires-clause-short : goal.read_rows-requires-clause-short
read_rows-requires-clause-short c = fit_more_numbers (codes "underlay.hop") _ (lit≤ tt) (omega (arith, c.in_ok-tables.ensures.few))
