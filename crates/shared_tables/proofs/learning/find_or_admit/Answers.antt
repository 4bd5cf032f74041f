use Rattle.std.proofs.Common.{refl}
use Rattle.shared_tables.specs.Shared.{rule_at, span_of}
use Rattle.shared_tables.proofs.OnEntries.Admissions.{admits_behind, else_admits}
use Rattle.shared_tables.proofs.learning.find_or_admit.Goals as goal

pub returns-in-Entered-clause-outcome : goal.returns-in-Entered-clause-outcome
returns-in-Entered-clause-outcome c =
    admits_behind c.args.tables.now c.find_or_enter-outcome.new.self c.sweep.new.tables c.args.vid (record { vid = c.args.vid; mac = c.args.mac.now; place = c.args.place.now; last = c.args.last }) c.find_or_enter-outcome.result
    refl c.find_or_enter-outcome.ensures.some_time c.requires.now c.in-Entered.is c.find_or_enter-outcome.ensures.outcome c.sweep.ensures

pub returns-in_default : goal.returns-in_default
returns-in_default c = record {
  outcome = else_admits _ c.find_or_enter-outcome.new.self (span_of (rule_at c.args.tables.now.rules c.args.vid)) (record { vid = c.args.vid; mac = c.args.mac.now; place = c.args.place.now; last = c.args.last }) c.find_or_enter-outcome.result
      (λ q. c.in_default.not-Entered q) c.find_or_enter-outcome.ensures.outcome;
  counted = c.find_or_enter-outcome.ensures.counted;
  compared = c.find_or_enter-outcome.ensures.compared;
  bits = c.find_or_enter-outcome.ensures.bits;
}
