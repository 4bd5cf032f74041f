use Rattle.std.proofs.Common.{sym, ap, ◌∙◌, subst}
use Rattle.filter_db.specs.Table.{stands}
use Rattle.filter_db.specs.Segment.{Segment}
use Rattle.shared_tables.specs.Pool.{entry_at, IfHeld}
use Rattle.shared_tables.specs.LinkSteps.{IsHeld}
use Rattle.shared_tables.specs.Shared.{Shared, Lacks, live_place, span_of, rule_at}
use Rattle.shared_tables.proofs.OnCalls.CallLemmas.{Begins, looks, own_is, span_is, look_found, look_none}
use Rattle.shared_tables.proofs.calls.SharedTablesTables.look.Goals as goal

pub returns-in-Some-clause-answer : goal.returns-in-Some-clause-answer
returns-in-Some-clause-answer c =
    let old = c.args.self.now in let b = c.count_call.new.self in let now = c.args.now in let v = c.args.vid in let mac = c.args.mac in
    let f : Shared = record c.find.new.self { moment = now } in
    let k : Begins old f now = looks old b c.find.new.self now _ c.count_call.ensures.after c.count_call.ensures.orderly c.in-Some.ensures.same in
    let le = c.requires.time in let has = c.requires.has in let slot = c.in-Some.slot in
    let held = subst (λ (w : Shared). IfHeld (entry_at w.entries slot) v mac) (sym c.in-Some.ensures.same) c.in-Some.ensures.found in
    let in_pool = subst (λ (w : Shared). IsHeld w.entries slot) (sym c.in-Some.ensures.same) c.in-Some.ensures.held in
    c.place_if_live.ensures.place
    ∙ ap (λ n. live_place (entry_at f.entries slot) n now) (c.span-ageing.ensures ∙ sym (ap (λ (w : Shared). span_of (rule_at w.rules v)) c.in-Some.ensures.same) ∙ span_is old f now v k le has)
    ∙ look_found old f now v k le has mac slot held in_pool
    ∙ sym (ap (λ (s : Segment). stands mac s.entries) (own_is old f now v k le has))

pub returns-in-None-clause-answer : goal.returns-in-None-clause-answer
returns-in-None-clause-answer c =
    let old = c.args.self.now in let b = c.count_call.new.self in let now = c.args.now in let v = c.args.vid in let mac = c.args.mac in
    let f : Shared = record c.find.new.self { moment = now } in
    let k : Begins old f now = looks old b c.find.new.self now _ c.count_call.ensures.after c.count_call.ensures.orderly c.in-None.ensures.same in
    let le = c.requires.time in let has = c.requires.has in
    let lacks = subst (λ (w : Shared). Lacks w.entries v mac) (sym c.in-None.ensures.same) c.in-None.ensures.none in
    look_none old f now v k le has mac lacks ∙ sym (ap (λ (s : Segment). stands mac s.entries) (own_is old f now v k le has))
