use Rattle.std.proofs.Common.{◌≡◌, ◌∙◌, ap, get_or, sym, arith, deque_capacity}
use Rattle.std.proofs.lemmas.Bool.{leb-true}
use Rattle.std.proofs.lemmas.List.{get_or_read}
use Rattle.echo_window.specs.Index.{index_of}
use Rattle.echo_window.proofs.Searching.{all-at, none-at, shows}
use Rattle.echo_window.proofs.Showing.{came-is}
use Rattle.echo_window.proofs.window.Window.is_alike.Goals as goal

pub returns-then-i-len : goal.returns-then-i-len
returns-then-i-len c said =
    let latest = c.self.inside.latest.items in
    let s = shows (deque_capacity c.self.inside.frames) c.self.inside.first c.self.inside.passed c.self.inside.frames.items c.self.inside.row latest c.args.self.now.came (came-is c.self.view_is) c.self.invariant in
    let at : c.index_of-i.result ≡ index_of c.self.inside.first (get_or latest c.args.bucket 0) =
    c.index_of-i.ensures ∙ ap (λ n. index_of c.self.inside.first n) (get_or_read latest c.args.bucket _ (omega (arith, c.requires, c.self.invariant.table)) c.index.ensures 0) in
    none-at c.self.inside.first c.self.inside.frames.items latest c.args.self.now.came c.args.bucket c.args.place c.index_of-i.result s c.requires at
    (omega (arith, leb-true c.len.result c.index_of-i.result said, c.len.ensures, c.self.inside.frames.ok.0, s.size))

pub returns-else-i-len : goal.returns-else-i-len
returns-else-i-len c said =
    let latest = c.self.inside.latest.items in
    let s = shows (deque_capacity c.self.inside.frames) c.self.inside.first c.self.inside.passed c.self.inside.frames.items c.self.inside.row latest c.args.self.now.came (came-is c.self.view_is) c.self.invariant in
    let at : c.index_of-i.result ≡ index_of c.self.inside.first (get_or latest c.args.bucket 0) =
    c.index_of-i.ensures ∙ ap (λ n. index_of c.self.inside.first n) (get_or_read latest c.args.bucket _ (omega (arith, c.requires, c.self.invariant.table)) c.index.ensures 0) in
    all-at c.self.inside.first c.self.inside.frames.items latest c.args.self.now.came c.args.bucket c.args.place c.index_of-i.result c.index-else-i-len.result.now s c.requires at
    (omega (arith, c.if-i-len.false, c.len.ensures, c.self.inside.frames.ok.0, s.size)) c.index-else-i-len.ensures (sym c.are_all_at.ensures ∙ said)
