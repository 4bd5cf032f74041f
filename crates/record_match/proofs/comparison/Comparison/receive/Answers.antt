use Rattle.std.proofs.Common.{ℕ, ◌+◌, ◌∷◌, ◌++◌, [], Option, is_some, sym, subst}
use Rattle.std.specs.List.{FoldsTo}
use Rattle.record_match.specs.Compared.{Counted, IsCompared, facts_of, logged}
use Rattle.record_match.specs.Kept.{told}
use Rattle.record_match.specs.Settled.{fact_by, gone_alone}
use Rattle.record_match.proofs.Comparing.{cut-received, one-cut, one-received}
use Rattle.record_match.proofs.Looking.{folds-one}
use Rattle.record_match.proofs.comparison.Comparison.receive.Goals as goal

pub returns-clause-told : goal.returns-clause-told
returns-clause-told g c = λ sent received now log h le.
    let m = told c.args.received.now in
    let own : Counted = record { window = c.self.inside.window; sent = c.self.inside.sent; received = c.self.inside.received; both = c.self.inside.both; cut = c.self.inside.cut } in
    let so_far = subst (λ (x : Counted). IsCompared (logged x log) sent received now) (sym c.self.view_is) h in
    let x = one-received (logged own log) sent received now m c.receive-sent.new.self (is_some c.receive-sent.result) so_far le c.receive-sent.ensures.answer c.receive-sent.ensures.window in
    let y = subst (λ (n : ℕ). IsCompared (record { window = c.receive-sent.new.self; sent = c.self.inside.sent; received = c.self.inside.received + 1; both = c.self.inside.both + n; cut = cut-received c.self.inside.cut (one-cut m); log = log ++ facts_of own m }) sent (received ++ m ∷ []) m.moment) (sym c.one_if_some.ensures.value) x in
    let z = subst (λ (n : ℕ). IsCompared (record { window = c.receive-sent.new.self; sent = c.self.inside.sent; received = c.self.inside.received + 1; both = c.self.inside.both + c.one_if_some.result; cut = cut-received c.self.inside.cut n; log = log ++ facts_of own m }) sent (received ++ m ∷ []) m.moment) (sym c.if_cut.ensures.value) y in
    subst (λ (v : Counted). IsCompared (record { window = c.receive-sent.new.self; sent = c.self.inside.sent; received = c.self.inside.received + 1; both = c.self.inside.both + c.one_if_some.result; cut = cut-received c.self.inside.cut c.if_cut.result; log = log ++ facts_of v m }) sent (received ++ m ∷ []) m.moment) c.self.view_is z

pub returns-clause-seen : goal.returns-clause-seen
returns-clause-seen g c =
    let m = told c.args.received.now in
    let sees = g.W.Onlooker.sees in
    let number = c.self.inside.received + 1 in
    let one = subst (λ (o : Option ℕ). sees c.receive-sent.new.onlooker (fact_by number m o) c.tell_received.new.onlooker) c.receive-sent.ensures.moment c.tell_received.ensures in
    subst (λ (v : Counted). FoldsTo sees c.args.onlooker.now (facts_of v m) c.tell_received.new.onlooker) c.self.view_is
    (folds-one sees c.args.onlooker.now (gone_alone m.moment c.self.inside.window) c.receive-sent.new.onlooker _ c.tell_received.new.onlooker c.receive-sent.ensures.seen one)
