use Rattle.std.proofs.Common.{◌≡◌, Some, take}
use Rattle.std.specs.List.{list_any}
use Rattle.run_reports.specs.Sought.{address_met, is_new_address}
use Rattle.run_reports.proofs.Seeking.{marked}
use Rattle.run_reports.proofs.sought.mark_addresses.Given as goal

-- those so far are marked, and whether one is new is known
abbrev pub invariant-loop-k : goal.invariant-loop-k
invariant-loop-k l = record {
  first : l.is_first ≡ list_any (is_new_address (Some l.passing)) (take l.k-index l.initial.addresses);
  met : l.addresses ≡ marked (address_met (Some l.passing)) l.k-index l.initial.addresses;
}
