use Rattle.std.proofs.Common.{◌≡◌, ◌<◌, ◌∙◌, sym, ap, List, length, get_or, None, arith}
use Rattle.std.proofs.lemmas.List.{get_or_default}
use Rattle.record_match.specs.Kept.{told}
use Rattle.capture_compare.specs.Looking.{alone_at}
use Rattle.capture_compare.specs.Near.{Alone, near_by}
use Rattle.capture_compare.proofs.Looking.{in-first, none-first, none_up_to}
use Rattle.capture_compare.proofs.lonely.near.LonelySeen.find.Goals as goal

pub returns-in-Some : goal.returns-in-Some
returns-in-Some c =
    let r = told c.args.sent.now in
    let count = ap (length {A = Alone}) c.self.view_is in
    let inside : c.loop-i.i < length c.args.self.now = omega (arith, c.loop-i-test.true, c.min-count.ensures, c.len.ensures, c.self.inside.held.ok.0, count) in
    let own : alone_at r c.args.self.now c.loop-i.i ≡ c.index.result.now =
    get_or_default c.args.self.now c.loop-i.i _ c.index.result.now inside ∙ ap (λ (l : List Alone). get_or l c.loop-i.i c.index.result.now) (sym c.self.view_is) ∙ sym c.index.ensures in
    in-first c.args.reading c.args.within r c.args.self.now c.loop-i.i c.in-Some.difference (omega (arith, c.loop-i-test.true, c.min-count.ensures)) inside
    c.loop-i.invariant.before (ap (λ (a : Alone). near_by c.args.reading c.args.within r a.seen) own ∙ sym c.near_by.ensures ∙ c.in-Some.is)

pub loop-i-preserved : goal.loop-i-preserved
loop-i-preserved c =
    let r = told c.args.sent.now in
    let count = ap (length {A = Alone}) c.self.view_is in
    let inside : c.loop-i.i < length c.args.self.now = omega (arith, c.loop-i-test.true, c.min-count.ensures, c.len.ensures, c.self.inside.held.ok.0, count) in
    let own : alone_at r c.args.self.now c.loop-i.i ≡ c.index.result.now =
    get_or_default c.args.self.now c.loop-i.i _ c.index.result.now inside ∙ ap (λ (l : List Alone). get_or l c.loop-i.i c.index.result.now) (sym c.self.view_is) ∙ sym c.index.ensures in
    let here : near_by c.args.reading c.args.within r (alone_at r c.args.self.now c.loop-i.i).seen ≡ None =
    ap (λ (a : Alone). near_by c.args.reading c.args.within r a.seen) own ∙ sym c.near_by.ensures ∙ c.in_default.is in
    record { before = none_up_to (λ k. near_by c.args.reading c.args.within r (alone_at r c.args.self.now k).seen) c.loop-i.i c.loop-i.invariant.before here }

pub returns : goal.returns
returns c =
    let count = ap (length {A = Alone}) c.self.view_is in
    none-first c.args.reading c.args.within (told c.args.sent.now) c.args.self.now c.loop-i.i
    (omega (arith, c.loop-i-test.false, c.min-count.ensures, c.len.ensures, c.self.inside.held.ok.0, count)) c.loop-i.invariant.before
