use Rattle.std.proofs.Common.{◌≡◌, ◌∙◌, sym, ap, length, get_or, arith, Some, ℕ, List}
use Rattle.std.specs.Cmp.{nat_cmp_total}
use Rattle.std.specs.FinMap.{entries}
use Rattle.overlay.specs.Index.{Listed}
use Rattle.overlay.proofs.SearchLemmas.{found_place, gap_place, entries_shown, get_at, get_in_gap}
use Rattle.overlay.proofs.underlay.vni_index.VniIndex.get.Goals as goal

pub index-requires : goal.index-requires
index-requires c =
    let at = found_place c.args.self.now.vids c.args.vni c.search.result c.in_ok-place.place c.search.ensures c.in_ok-place.ensures.value in
    omega (arith, at.0, ap length (entries_shown nat_cmp_total c.self.inside.entries.items c.args.self.now.vids c.self.invariant.0 (ap (λ (l : Listed). l.vids) c.self.view_is)))

pub returns : goal.returns
returns c =
    let at = found_place c.args.self.now.vids c.args.vni c.search.result c.in_ok-place.place c.search.ensures c.in_ok-place.ensures.value in
    let same = entries_shown nat_cmp_total c.self.inside.entries.items c.args.self.now.vids c.self.invariant.0 (ap (λ (l : Listed). l.vids) c.self.view_is) in
    let read : c.index.result.now ≡ get_or (entries c.args.self.now.vids) c.in_ok-place.place c.index.result.now = c.index.ensures ∙ ap (λ (l : List (ℕ × ℕ)). get_or l c.in_ok-place.place c.index.result.now) (sym same) in
    ap (λ (e : ℕ × ℕ). Some e.1) read ∙ sym (get_at nat_cmp_total c.args.self.now.vids c.args.vni c.in_ok-place.place c.index.result.now at)

pub returns-in_err-place : goal.returns-in_err-place
returns-in_err-place c =
    let gap = gap_place c.args.self.now.vids c.args.vni c.search.result c.search.ensures c.in_err-place.ensures.value in
    c.from_residual.ensures ∙ sym (get_in_gap nat_cmp_total c.args.self.now.vids c.args.vni gap.0 gap.1)
