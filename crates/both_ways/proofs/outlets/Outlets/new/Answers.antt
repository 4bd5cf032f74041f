use Rattle.std.proofs.Common.{arith}
use Rattle.both_ways.specs.Outlets.{Kept}
use Rattle.both_ways.proofs.Sending.{by-settings, era-count, no-era, none-kept}
use Rattle.both_ways.proofs.outlets.Outlets.new.Goals as goal

pub invariant_of-result : goal.invariant_of-result
invariant_of-result c =
    let eras = c.in_ok-no_eras.field-0.items in (
      omega arith,
      era-count c.number_count.result eras c.number_count.ensures c.in_ok-no_eras.ensures,
      c.in_ok-no_places.ensures,
      λ vid. omega (arith, no-era c.number_count.result eras c.in_ok-no_eras.ensures vid),
    )

pub returns : goal.returns
returns c = λ P vid.
    let eras = c.in_ok-no_eras.field-0.items in
    let kept : Kept = record { era = 1; eras = eras; places = c.in_ok-no_places.field-0.items } in
    by-settings kept P vid (none-kept kept vid (λ _. omega (arith, no-era c.number_count.result eras c.in_ok-no_eras.ensures vid)))
