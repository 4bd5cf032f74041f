use Rattle.std.proofs.Common.{◌≡◌, ℕ, List, ◌+◌, ◌%◌, ◌++◌, ◌∷◌, [], length, set, sym, ap, ◌∙◌, subst, arith, deque_capacity}
use Rattle.std.proofs.lemmas.List.{get_or_read}
use Rattle.echo_window.specs.Echo.{Arrival, first_met}
use Rattle.echo_window.specs.Laid.{came_of, laid, told}
use Rattle.echo_window.specs.declared.kept.Kept.{Kept}
use Rattle.echo_window.proofs.Keeping.{fits-told}
use Rattle.echo_window.specs.Index.{IsAllAt, IsKept}
use Rattle.echo_window.proofs.Indexing.{kept-put}
use Rattle.echo_window.proofs.Laying.{laid-put}
use Rattle.echo_window.proofs.Showing.{as-window, came-is, count-is, octets-are}
use Rattle.echo_window.proofs.window.Window.put.Goals as goal

pub put_behind-requires : goal.put_behind-requires
put_behind-requires c =
    let o = octets-are _ _ _ (came-is c.self.view_is) c.self.invariant.stands.whole in
    let room = fits-told c.args.self.now.came (first_met (told c.args.met.now)) c.requires in
    omega (arith, o, room.1)

pub push_back_reserved-requires : goal.push_back_reserved-requires
push_back_reserved-requires c =
    let n = count-is _ _ _ (came-is c.self.view_is) in
    let room = fits-told c.args.self.now.came (first_met (told c.args.met.now)) c.requires in
    omega (arith, n, room.0, c.self.inside.frames.ok.0, c.self.invariant.stands.reserved)

pub invariant_of-self : goal.invariant_of-self
invariant_of-self c =
    let v = came-is c.self.view_is in
    let n = count-is _ _ _ v in
    let o = octets-are _ _ _ v c.self.invariant.stands.whole in
    let room = fits-told c.args.self.now.came (first_met (told c.args.met.now)) c.requires in
    let items = c.push_back_reserved.ensures.items in
    let text = c.args.met.now.frame.now in
    let kept : Kept = record { place = c.args.met.now.place; number = c.args.met.now.number; moment = c.args.met.now.moment; at = (c.self.inside.passed + c.count.result) % 18446744073709551616; length = c.octet_count.result; before = c.index.result.now; alike = c.is_alike.result; awaited = c.copied.result } in
    let more = deque_capacity c.push_back_reserved.new.self in
    let x = kept-put (deque_capacity c.self.inside.frames) more c.self.inside.first c.self.inside.passed c.bucket-bucket.result kept text c.self.inside.frames.items c.self.inside.row c.self.inside.latest.items
    (omega (arith, c.push_back_reserved.ensures.capacity, c.self.invariant.stands.reserved)) (omega (arith, n, room.0)) (omega (arith, o, room.1)) c.octet_count.ensures c.bucket-bucket.ensures.value c.bucket-bucket.ensures.bound
    (get_or_read c.self.inside.latest.items c.bucket-bucket.result _ (omega (arith, c.bucket-bucket.ensures.bound, c.self.invariant.table)) c.index.ensures 0)
    (ap (λ x. (c.self.inside.passed + x) % 18446744073709551616) c.count.ensures)
    (λ said. subst (λ (l : List Arrival). IsAllAt l c.bucket-bucket.result c.args.met.now.place) (sym v) (c.is_alike.ensures said)) c.self.invariant in
    let at : c.len.result ≡ length c.self.inside.frames.items = omega (arith, c.len.ensures, c.self.inside.frames.ok.0) in
    subst (λ (ks : List Kept). IsKept ks c.put_behind.new.row more c.self.inside.first c.self.inside.passed (set c.self.inside.latest.items c.bucket-bucket.result ((c.self.inside.first + c.len.result) % 18446744073709551616))) (sym {A = List Kept} items)
    (subst (λ (row : List ℕ). IsKept (c.self.inside.frames.items ++ kept ∷ []) row more c.self.inside.first c.self.inside.passed (set c.self.inside.latest.items c.bucket-bucket.result ((c.self.inside.first + c.len.result) % 18446744073709551616))) (sym c.put_behind.ensures)
    (subst (λ (at : ℕ). IsKept (c.self.inside.frames.items ++ kept ∷ []) (c.self.inside.row ++ text) more c.self.inside.first c.self.inside.passed (set c.self.inside.latest.items c.bucket-bucket.result ((c.self.inside.first + at) % 18446744073709551616))) (sym at) x))

pub returns : goal.returns
returns c =
    let v = came-is c.self.view_is in
    let n = count-is _ _ _ v in
    let room = fits-told c.args.self.now.came (first_met (told c.args.met.now)) c.requires in
    let items = c.push_back_reserved.ensures.items in
    let kept : Kept = record { place = c.args.met.now.place; number = c.args.met.now.number; moment = c.args.met.now.moment; at = (c.self.inside.passed + c.count.result) % 18446744073709551616; length = c.octet_count.result; before = c.index.result.now; alike = c.is_alike.result; awaited = c.copied.result } in
    let text = c.args.met.now.frame.now in
    let last : came_of kept text ≡ first_met (told c.args.met.now) = cc in
    as-window _ _ c.args.self.now _ _ c.self.view_is
    (ap (λ (ks : List Kept). laid ks c.put_behind.new.row) items
    ∙ ap (λ (row : List ℕ). laid (c.self.inside.frames.items ++ kept ∷ []) row) c.put_behind.ensures
    ∙ laid-put c.self.inside.frames.items c.self.inside.row kept text c.self.invariant.stands.whole c.octet_count.ensures
    ∙ ap (λ (l : List Arrival). l ++ came_of kept text ∷ []) v
    ∙ ap (λ (x : Arrival). c.args.self.now.came ++ x ∷ []) last)
