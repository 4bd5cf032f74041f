use Rattle.std.proofs.Common.{◌≡◌, ◌∙◌, arith, sym, length}
use Rattle.std.specs.Cmp.Lexicographic.{nat_list_cmp_total}
use Rattle.wire.specs.Addr.{address}
use Rattle.overlay.proofs.HopsLemmas.{within, hop_at, none_of}
use Rattle.overlay.proofs.SearchLemmas.{found_place, gap_place, get_in_gap}
use Rattle.overlay.proofs.underlay.hops.Hops.get.Goals as goal

pub index-requires : goal.index-requires
index-requires c =
    let at = found_place c.args.self.now (address c.args.addr) c.search.result c.in_ok-place.place c.search.ensures c.in_ok-place.ensures.value in
    omega (arith, c.self.inside.exceptions.ok.0, within c.self.inside.exceptions.items c.args.self.now c.self.invariant c.self.view_is c.in_ok-place.place at.0)

pub returns : goal.returns
returns c =
    let at = found_place c.args.self.now (address c.args.addr) c.search.result c.in_ok-place.place c.search.ensures c.in_ok-place.ensures.value in
    sym (hop_at c.self.inside.exceptions.items c.args.self.now c.self.invariant c.self.view_is (address c.args.addr) c.in_ok-place.place c.index.result.now at c.index.ensures)

pub returns-in_err-place : goal.returns-in_err-place
returns-in_err-place c =
    let gap = gap_place c.args.self.now (address c.args.addr) c.search.result c.search.ensures c.in_err-place.ensures.value in
    c.from_residual.ensures ∙ sym (get_in_gap nat_list_cmp_total c.args.self.now (address c.args.addr) gap.0 gap.1)

-- no search where there are no exceptions
pub returns-then-is_empty : goal.returns-then-is_empty
returns-then-is_empty c =
    let none : length c.self.inside.exceptions.items ≡ 0 = grind (arith, c.is_empty.ensures, c.if-is_empty.true) in
    sym (none_of c.self.inside.exceptions.items c.args.self.now c.self.invariant c.self.view_is none (address c.args.addr))
