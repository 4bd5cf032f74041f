use Rattle.std.proofs.Common.{◌+◌, ◌<◌, ◌≤◌, true, false, IsSome, sym, subst}
use Rattle.shared_tables.specs.Pool.{entry_at, IfHeld}
use Rattle.shared_tables.specs.LinkSteps.{IsHeld}
use Rattle.shared_tables.specs.Bucket.{bucket_of, key_bits}
use Rattle.shared_tables.specs.Shared.{Shared, rule_at, span_of, bucket_count}
use Rattle.shared_tables.specs.WholePool.{seen}
use Rattle.shared_tables.proofs.OnEntries.Admissions.{some_span, outcome_for, seen_found, share_there}
use Rattle.shared_tables.proofs.shared_tables.SharedTables.find_or_enter.Goals as goal
use Rattle.shared_tables.proofs.shared_tables.SharedTables.find_or_enter.Goals.{then-comes, else-comes}

pub returns-in-At : goal.returns-in-At
returns-in-At c =
    let i = c.self.inside in let now = c.args.self.now in
    let k = share_there i.shares.items c.args.vid (subst (λ (w : Shared). IsSome (rule_at w.rules c.args.vid)) (sym c.self.view_is) c.requires.rule) in
    record {
      outcome = (
        subst (λ (w : Shared). IfHeld (entry_at w.entries c.in-At.slot) c.args.vid c.args.mac.now) c.self.view_is c.in-At.ensures.found.0,
        subst (λ (w : Shared). IsHeld w.entries c.in-At.slot) c.self.view_is c.in-At.ensures.found.1,
        seen_found i.slots i.shares.items i.moment i.calls.total i.compared.total c.find_in.new.compared.total now c.self.view_is,
      );
      counted = subst (λ (w : Shared). w.compared ≤ c.find_in.new.compared.total) c.self.view_is c.in-At.ensures.counted;
      compared = subst (λ (w : Shared). c.find_in.new.compared.total ≤ w.compared + bucket_count (bucket_of c.args.vid c.args.mac.now) w.entries) c.self.view_is c.in-At.ensures.compared;
      bits = subst (λ (w : Shared). c.find_in.new.compared.total ≤ w.compared + (key_bits + 1)) c.self.view_is c.in-At.ensures.bits;
      some_time = subst (λ (w : Shared). 0 < span_of (rule_at w.rules c.args.vid)) c.self.view_is (some_span i.slots i.shares.items i.moment c.args.vid c.self.invariant.sound k.share k.here);
    }

pub returns-after-comes-clause-outcome : goal.returns-after-comes-clause-outcome
returns-after-comes-clause-outcome c =
    let i = c.self.inside in let now = c.args.self.now in
    let counted = c.find_in.new.compared.total in
    let comes = c.admit_in-comes.ensures.comes i.calls.total counted in
    let f_is = seen_found i.slots i.shares.items i.moment i.calls.total i.compared.total counted now c.self.view_is in
    let lacks = c.in-Missing.ensures.found.0 in
    elim c.if-comes.branch [
      | then-comes w ↦ outcome_for (seen i.slots i.shares.items i.moment i.calls.total counted) c.args.self.now (seen c.admit_in-comes.new.slots c.admit_in-comes.new.shares.items i.moment i.calls.total counted)
          (record { tree = c.args.tree; beside = c.in-Missing.beside; vid = c.args.vid; mac = c.args.mac.now; place = c.args.place.now; last = c.args.last }) true c.admit_in-comes.result f_is lacks comes w.if-comes.true c.if-comes.result w.result-is
      | else-comes w ↦ outcome_for (seen i.slots i.shares.items i.moment i.calls.total counted) c.args.self.now (seen c.admit_in-comes.new.slots c.admit_in-comes.new.shares.items i.moment i.calls.total counted)
          (record { tree = c.args.tree; beside = c.in-Missing.beside; vid = c.args.vid; mac = c.args.mac.now; place = c.args.place.now; last = c.args.last }) false c.admit_in-comes.result f_is lacks comes w.if-comes.false c.if-comes.result w.result-is
    ]

pub returns-after-comes-clause-counted : goal.returns-after-comes-clause-counted
returns-after-comes-clause-counted c = subst (λ (w : Shared). w.compared ≤ c.find_in.new.compared.total) c.self.view_is c.in-Missing.ensures.counted

pub returns-after-comes-clause-compared : goal.returns-after-comes-clause-compared
returns-after-comes-clause-compared c = subst (λ (w : Shared). c.find_in.new.compared.total ≤ w.compared + bucket_count (bucket_of c.args.vid c.args.mac.now) w.entries) c.self.view_is c.in-Missing.ensures.compared

pub returns-after-comes-clause-bits : goal.returns-after-comes-clause-bits
returns-after-comes-clause-bits c = subst (λ (w : Shared). c.find_in.new.compared.total ≤ w.compared + (key_bits + 1)) c.self.view_is c.in-Missing.ensures.bits

pub returns-after-comes-clause-some_time : goal.returns-after-comes-clause-some_time
returns-after-comes-clause-some_time c =
    let i = c.self.inside in
    let k = share_there i.shares.items c.args.vid (subst (λ (w : Shared). IsSome (rule_at w.rules c.args.vid)) (sym c.self.view_is) c.requires.rule) in
    subst (λ (w : Shared). 0 < span_of (rule_at w.rules c.args.vid)) c.self.view_is (some_span i.slots i.shares.items i.moment c.args.vid c.self.invariant.sound k.share k.here)
