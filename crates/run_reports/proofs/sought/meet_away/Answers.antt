use Rattle.std.proofs.Common.{◌∙◌, ap, sym, Option, map}
use Rattle.std.specs.List.{list_any}
use Rattle.run_reports.specs.Sought.{is_new_address, address_met}
use Rattle.run_reports.specs.declared.passing.Passing.{Passing}
use Rattle.run_reports.proofs.Seeking.{addresses_without}
use Rattle.run_reports.proofs.sought.meet_away.Goals as goal

pub returns-in-None-clause-first : goal.returns-in-None-clause-first
returns-in-None-clause-first c = sym ((addresses_without c.args.addresses.now).0) ∙ ap (λ (d : Option Passing). list_any (is_new_address d) c.args.addresses.now) c.in-None.ensures

pub returns-in-None-clause-met : goal.returns-in-None-clause-met
returns-in-None-clause-met c = sym ((addresses_without c.args.addresses.now).1) ∙ ap (λ (d : Option Passing). map (address_met d) c.args.addresses.now) c.in-None.ensures
