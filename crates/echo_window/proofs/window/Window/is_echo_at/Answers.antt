use Rattle.std.proofs.Common.{◌≡◌, ◌+◌, ◌-◌, ◌%◌, ◌<◌, ◌&&◌, ℕ, Bool, List, length, take, drop, refl, sym, ap, ◌∙◌, suc, arith, slice_index_or}
use Rattle.wire.specs.Octets.{is_same}
use Rattle.echo_window.specs.Echo.{Window, first_met, is_echo_of}
use Rattle.echo_window.specs.Laid.{lengths, told}
use Rattle.echo_window.specs.declared.kept.Kept.{Kept}
use Rattle.echo_window.proofs.Indexing.{placed-at}
use Rattle.echo_window.proofs.Laying.{lengths-next, lengths-within}
use Rattle.echo_window.proofs.Showing.{asked-is, came-is, count-is}
use Rattle.echo_window.proofs.window.Window.is_echo_at.Goals as goal

pub index-requires : goal.index-requires
index-requires c = omega (arith, count-is _ _ _ (came-is c.self.view_is), c.self.inside.frames.ok.0, c.requires)

pub part-requires : goal.part-requires
part-requires c =
    let items = c.self.inside.frames.items in
    let h : c.args.i < length items = omega (arith, count-is _ _ _ (came-is c.self.view_is), c.requires) in
    let at = placed-at c.self.inside.passed items c.args.i c.index.result.now h c.self.invariant.low.1 c.self.invariant.placed in
    let next = lengths-next items c.args.i c.index.result.now h in
    let whole = c.self.invariant.stands.whole in
    let begins : (c.index.result.now.at + (18446744073709551616 - c.self.inside.passed)) % 18446744073709551616 ≡ lengths (take c.args.i items) =
    omega (arith, at, ap (λ (k : Kept). k.at) c.index.ensures, c.self.invariant.low.1, lengths-within items c.args.i, whole, c.self.invariant.stands.small) in
    omega (arith, begins, next, ap (λ (k : Kept). k.length) c.index.ensures, lengths-within items (suc c.args.i), whole)

pub returns : goal.returns
returns c =
    let m = told c.args.met.now in
    let items = c.self.inside.frames.items in
    let h : c.args.i < length items = omega (arith, count-is _ _ _ (came-is c.self.view_is), c.requires) in
    let at = placed-at c.self.inside.passed items c.args.i c.index.result.now h c.self.invariant.low.1 c.self.invariant.placed in
    let begins : (c.index.result.now.at + (18446744073709551616 - c.self.inside.passed)) % 18446744073709551616 ≡ lengths (take c.args.i items) =
    omega (arith, at, ap (λ (k : Kept). k.at) c.index.ensures, c.self.invariant.low.1, lengths-within items c.args.i, c.self.invariant.stands.whole, c.self.invariant.stands.small) in
    c.is_met_by.ensures
    ∙ asked-is c.self.inside.within m items c.self.inside.row _ c.args.i _ c.index.result.now h c.index.ensures begins c.part.ensures.octets
    ∙ ap (λ (w : Window). is_echo_of w.within m (slice_index_or w.came c.args.i (first_met m))) c.self.view_is

pub returns-then-not-awaits : goal.returns-then-not-awaits
returns-then-not-awaits c =
    let m = told c.args.met.now in
    let items = c.self.inside.frames.items in
    let h : c.args.i < length items = omega (arith, count-is _ _ _ (came-is c.self.view_is), c.requires) in
    let octets : List ℕ = take c.index.result.now.length (drop (lengths (take c.args.i items)) c.self.inside.row) in
    sym (ap (λ (b : Bool). b && is_same octets m.frame) (sym c.awaits.ensures ∙ c.if-not-awaits.true))
    ∙ asked-is c.self.inside.within m items c.self.inside.row octets c.args.i (lengths (take c.args.i items)) c.index.result.now h c.index.ensures refl refl
    ∙ ap (λ (w : Window). is_echo_of w.within m (slice_index_or w.came c.args.i (first_met m))) c.self.view_is
