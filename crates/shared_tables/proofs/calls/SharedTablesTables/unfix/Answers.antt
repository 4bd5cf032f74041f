use Rattle.std.proofs.Common.{refl, sym, ◌∙◌}
use Rattle.std.proofs.lemmas.Bool.{false≢true}
use Rattle.shared_tables.proofs.OnCalls.CallLemmas.{finds, misses}
use Rattle.shared_tables.proofs.OnCalls.Answering.{unfixes, unfixes_learned, unfixes_none}
use Rattle.shared_tables.proofs.calls.SharedTablesTables.unfix.Goals as goal

pub returns-in-Some : goal.returns-in-Some
returns-in-Some c =
    let old = c.args.self.now in let b = c.begin.new.self in let f = c.find.new.self in let v = c.args.vid in let mac = c.args.mac in let now = c.args.now in
    let k = finds old b f now v mac c.in-Some.slot _ c.begin.ensures.after c.begin.ensures.orderly c.in-Some.ensures.same c.in-Some.ensures.counted c.in-Some.ensures.compared c.in-Some.ensures.bits c.in-Some.ensures.found c.in-Some.ensures.held in
    let l = unfixes old f now v c.requires.time c.requires.has mac c.release.new.self c.in-Some.slot k (sym c.is_fixed.ensures ∙ c.if-is_fixed.true) c.release.ensures.same in
    record { there = (λ _. l.answers, λ _. refl); after = l.after; moment = l.left.left.moment; calls = l.left.left.calls; pool = l.left.left.pool; compared = l.left.compared; compared_by_bits = l.left.bits; visited = l.visited; comparisons_stay_counted = l.left.counted; paid = l.left.left.paid }

pub returns-in_default : goal.returns-in_default
returns-in_default c =
    let old = c.args.self.now in let b = c.begin.new.self in let f = c.find.new.self in let v = c.args.vid in let mac = c.args.mac in let now = c.args.now in
    let k = finds old b f now v mac c.in-Some.slot _ c.begin.ensures.after c.begin.ensures.orderly c.in-Some.ensures.same c.in-Some.ensures.counted c.in-Some.ensures.compared c.in-Some.ensures.bits c.in-Some.ensures.found c.in-Some.ensures.held in
    let l = unfixes_learned old f now v c.requires.time c.requires.has mac c.in-Some.slot k (sym c.is_fixed.ensures ∙ c.if-is_fixed.false) in
    record { there = (λ bad. absurd (false≢true bad), λ there. absurd (false≢true (sym l.answers ∙ there))); after = l.after; moment = l.left.left.moment; calls = l.left.left.calls; pool = l.left.left.pool; compared = l.left.compared; compared_by_bits = l.left.bits; visited = l.visited; comparisons_stay_counted = l.left.counted; paid = l.left.left.paid }

pub returns-in_default-2 : goal.returns-in_default-2
returns-in_default-2 c =
    let old = c.args.self.now in let b = c.begin.new.self in let f = c.find.new.self in let v = c.args.vid in let mac = c.args.mac in let now = c.args.now in
    let l = unfixes_none old f now v c.requires.time c.requires.has mac (misses old b f now v mac _ c.begin.ensures.after c.begin.ensures.orderly c.in_default.ensures.same c.in_default.ensures.counted c.in_default.ensures.compared c.in_default.ensures.bits c.in_default.ensures.none) in
    record { there = (λ bad. absurd (false≢true bad), λ there. absurd (false≢true (sym l.answers ∙ there))); after = l.after; moment = l.left.left.moment; calls = l.left.left.calls; pool = l.left.left.pool; compared = l.left.compared; compared_by_bits = l.left.bits; visited = l.visited; comparisons_stay_counted = l.left.counted; paid = l.left.left.paid }
