use Rattle.std.proofs.Common.{codes, lit≤, arith, rules, ◌≤◌}
use Rattle.config_text.proofs.Names.{fit_numbers}
use Rattle.overlay_config.proofs.settings.read_parts.Goals as goal

pub read_rows-requires-clause-short : goal.read_rows-requires-clause-short
read_rows-requires-clause-short c =
    let ports : c.in_ok-limits.limits.ports ≤ 255 = search rules in
    fit_numbers (codes "port") _ (lit≤ tt) (omega (arith, c.in_ok-tables.ensures.few, ports))
