use Rattle.std.proofs.Common.{true, false, refl, sym, ◌∙◌}
use Rattle.std.proofs.lemmas.Bool.{false≢true}
use Rattle.shared_tables.proofs.OnCalls.CallLemmas.{finds}
use Rattle.shared_tables.proofs.OnCalls.Answering.{fixes_again, fixes_missed}
use Rattle.shared_tables.proofs.calls.SharedTablesTables.fix.Goals as goal

pub returns-in-Held : goal.returns-in-Held
returns-in-Held c =
    let old = c.args.self.now in let b = c.begin.new.self in let f = c.find_or_admit.new.tables in let v = c.args.vid in let mac = c.args.mac in let now = c.args.now in
    let found = c.in-Held.ensures.outcome in
    let k = finds old b f now v mac c.in-Held.slot _ c.begin.ensures.after c.begin.ensures.orderly found.2 c.in-Held.ensures.counted c.in-Held.ensures.compared c.in-Held.ensures.bits found.0 found.1 in
    let l = fixes_again old f c.refresh.new.self now v c.requires.time c.requires.has mac c.args.place c.in-Held.slot k c.refresh.ensures in
    record { full = (λ bad. absurd (false≢true bad), λ full. absurd (false≢true (sym l.answers ∙ full))); after = l.after; moment = l.left.left.moment; calls = l.left.left.calls; pool = l.left.left.pool; compared = l.left.compared; compared_by_bits = l.left.bits; visited = l.visited; known = l.known; comparisons_stay_counted = l.left.counted; visits_stay_counted = l.left.left.counted; paid = l.left.left.paid }

pub returns-in-Entered : goal.returns-in-Entered
returns-in-Entered c =
    let l = fixes_missed c.args.self.now c.begin.new.self c.find_or_admit.new.tables c.args.now c.args.vid c.requires.time c.requires.has c.args.mac c.args.place true c.begin.ensures.after c.begin.ensures.orderly c.in-Entered.ensures.counted c.in-Entered.ensures.compared c.in-Entered.ensures.bits c.in-Entered.ensures.outcome.0 c.in-Entered.ensures.outcome.1 in
    record { full = (λ bad. absurd (false≢true bad), λ full. absurd (false≢true (sym l.answers ∙ full))); after = l.after; moment = l.left.left.moment; calls = l.left.left.calls; pool = l.left.left.pool; compared = l.left.compared; compared_by_bits = l.left.bits; visited = l.visited; known = l.known; comparisons_stay_counted = l.left.counted; visits_stay_counted = l.left.left.counted; paid = l.left.left.paid }

pub returns-in-Full : goal.returns-in-Full
returns-in-Full c =
    let l = fixes_missed c.args.self.now c.begin.new.self c.find_or_admit.new.tables c.args.now c.args.vid c.requires.time c.requires.has c.args.mac c.args.place false c.begin.ensures.after c.begin.ensures.orderly c.in-Full.ensures.counted c.in-Full.ensures.compared c.in-Full.ensures.bits c.in-Full.ensures.outcome.0 c.in-Full.ensures.outcome.1 in
    record { full = (λ _. l.answers, λ _. refl); after = l.after; moment = l.left.left.moment; calls = l.left.left.calls; pool = l.left.left.pool; compared = l.left.compared; compared_by_bits = l.left.bits; visited = l.visited; known = l.known; comparisons_stay_counted = l.left.counted; visits_stay_counted = l.left.left.counted; paid = l.left.left.paid }
