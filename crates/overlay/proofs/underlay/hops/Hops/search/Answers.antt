use Rattle.std.proofs.Common.{◌≡◌, ◌∙◌, ap, rules}
use Rattle.std.specs.Ordering.{nat_cmp}
use Rattle.std.specs.Cmp.Lexicographic.{slice_cmp}
use Rattle.std.proofs.lemmas.Fn.{always_returns_same}
use Rattle.wire.specs.Addr.{address}
use Rattle.overlay.proofs.HopsLemmas.{hop_searched, by}
use Rattle.overlay.proofs.underlay.hops.Hops.search.Goals as goal

-- the closure compares the octets of a hop's address with those that are sought
pub returns : goal.returns
returns c =
    let facts = c.binary_search_by.ensures in
    let position = facts.position (by (address c.args.addr)) (always_returns_same _ _ _ (λ a r f called.
    let compared : r ≡ slice_cmp nat_cmp (address a.0.now.addr) c.octets-sought.result.now = search rules in
    (compared ∙ ap (slice_cmp nat_cmp (address a.0.now.addr)) c.octets-sought.ensures, search rules))) in
    hop_searched c.as_slice.result.now c.args.self.now (rw c.as_slice.ensures.value c.self.invariant) (rw c.as_slice.ensures.value c.self.view_is) (address c.args.addr) c.binary_search_by.result facts.bound position
