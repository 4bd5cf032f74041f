use Rattle.std.proofs.Common.{◌∙◌, ap, sym, arith, deque_capacity}
use Rattle.std.proofs.lemmas.List.{get_or_read}
use Rattle.echo_window.specs.Index.{index_of}
use Rattle.echo_window.specs.Laid.{told}
use Rattle.echo_window.proofs.Searching.{goes-alike, goes-begin, goes-end, goes-on, shows}
use Rattle.echo_window.proofs.Showing.{came-is}
use Rattle.echo_window.proofs.window.Window.search_all.Goals as goal

pub loop-i-init : goal.loop-i-init
loop-i-init c =
    let latest = c.self.inside.latest.items in
    let s = shows (deque_capacity c.self.inside.frames) c.self.inside.first c.self.inside.passed c.self.inside.frames.items c.self.inside.row latest c.args.self.now.came (came-is c.self.view_is) c.self.invariant in
    goes-begin c.self.inside.first c.self.inside.frames.items latest c.args.self.now.came c.bucket.result c.args.self.now.within (told c.args.met.now) c.index_of-i.result c.len-end.result s c.bucket.ensures.value c.bucket.ensures.bound
    (c.index_of-i.ensures ∙ ap (λ n. index_of c.self.inside.first n) (get_or_read latest c.bucket.result _ (omega (arith, c.bucket.ensures.bound, c.self.invariant.table)) c.index.ensures 0))
    (omega (arith, c.len-end.ensures, c.self.inside.frames.ok.0, s.size))

pub index-kept-requires : goal.index-kept-requires
index-kept-requires c =
    let s = shows (deque_capacity c.self.inside.frames) c.self.inside.first c.self.inside.passed c.self.inside.frames.items c.self.inside.row c.self.inside.latest.items c.args.self.now.came (came-is c.self.view_is) c.self.invariant in
    omega (arith, c.loop-i-test.true, c.loop-i.invariant.few, c.self.inside.frames.ok.0, s.size)

pub returns-then-are_all_at : goal.returns-then-are_all_at
returns-then-are_all_at c =
    let s = shows (deque_capacity c.self.inside.frames) c.self.inside.first c.self.inside.passed c.self.inside.frames.items c.self.inside.row c.self.inside.latest.items c.args.self.now.came (came-is c.self.view_is) c.self.invariant in
    goes-alike c.self.inside.first c.self.inside.frames.items c.self.inside.latest.items c.args.self.now.came c.args.self.now.within (told c.args.met.now) c.loop-i.i c.loop-i.end c.index-kept.result.now c.loop-i.found s c.loop-i-test.true
    c.index-kept.ensures (sym c.are_all_at.ensures ∙ c.if-are_all_at.true) c.loop-i.invariant

pub loop-i-preserved : goal.loop-i-preserved
loop-i-preserved c =
    let s = shows (deque_capacity c.self.inside.frames) c.self.inside.first c.self.inside.passed c.self.inside.frames.items c.self.inside.row c.self.inside.latest.items c.args.self.now.came (came-is c.self.view_is) c.self.invariant in
    goes-on c.self.inside.first c.self.inside.frames.items c.self.inside.latest.items c.args.self.now.came c.args.self.now.within (told c.args.met.now) c.loop-i.i c.index_of-i-in-loop-i.result c.loop-i.end c.index-kept.result.now
    c.is_echo_at.result c.loop-i.found c.if_echo-found.result s c.loop-i-test.true c.index-kept.ensures c.index_of-i-in-loop-i.ensures c.is_echo_at.ensures c.if_echo-found.ensures c.loop-i.invariant

pub returns : goal.returns
returns c =
    goes-end c.args.self.now.came c.args.self.now.within (told c.args.met.now) c.loop-i.i c.loop-i.end c.loop-i.found (omega (arith, c.loop-i-test.false)) c.loop-i.invariant
