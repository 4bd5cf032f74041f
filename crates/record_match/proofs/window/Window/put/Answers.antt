use Rattle.std.proofs.Common.{◌≡◌, ℕ, List, ◌+◌, ◌<◌, ◌++◌, ◌∷◌, [], false, length, set, refl, sym, ap, ◌∙◌, subst, arith, length-append, deque_len, deque_capacity}
use Rattle.record_match.specs.Kept.{IsSound, laid, sent_of}
use Rattle.record_match.specs.Match.{Sent}
use Rattle.record_match.specs.declared.kept.Ends.{Ends}
use Rattle.record_match.specs.declared.kept.Kept.{Kept}
use Rattle.record_match.proofs.Laying.{laid-put}
use Rattle.record_match.proofs.Showing.{as-window, count-is, held-is, octets-are, octets-is, records-is, room-told, within-is}
use Rattle.record_match.proofs.Sound.{Links, sound-link, sound-put}
use Rattle.record_match.proofs.window.Window.put.Goals.{After-push_back}
use Rattle.record_match.proofs.window.Window.put.Goals as goal

pub put-requires : goal.put-requires
put-requires c =
    let room = room-told c.args.self.now (length c.args.sent.now.octets.now) c.requires in
    let o = octets-are _ _ _ _ (held-is c.self.view_is) c.self.invariant.is_laid in
    omega (arith, o, room.0.1)

-- the record, and those before it, of which the last of its bucket names it
module _ (c : After-push_back) where
  abbrev kept : Kept
  kept = record {
    moment = c.args.sent.now.moment;
    at = c.self.inside.passed + c.count.result;
    next = 0;
    length = length c.args.sent.now.octets.now;
    missing = c.args.sent.now.missing;
    bucket = c.bucket_of-bucket.result;
    is_taken = false;
  }

  view : laid c.self.inside.kept.items c.self.inside.row ≡ c.args.self.now.held
  view = held-is c.self.view_is

  links : Links c.self.inside.gone c.self.inside.passed c.self.inside.kept.items c.link.new.kept.items c.self.inside.row c.self.inside.ends.items (deque_capacity c.self.inside.kept)
  links =
      let i = c.self.inside in
      let few = c.bucket_of-bucket.ensures.bound in
      let l = sound-link i.gone i.passed i.kept.items i.row i.ends.items (deque_capacity i.kept) c.bucket_of-bucket.result (i.gone + c.len.result + 1) c.index-ends.result.now c.self.invariant c.index-ends.ensures (omega (arith, few, c.self.invariant.buckets)) (omega (arith, c.len.ensures, i.kept.ok.0)) in
      subst (λ (ks : List Kept). Links i.gone i.passed i.kept.items ks i.row i.ends.items (deque_capacity i.kept)) (sym c.link.ensures.items) l

  items : c.push_back.new.self.items ≡ c.link.new.kept.items ++ kept ∷ []
  items =
      let room = room-told c.args.self.now (length c.args.sent.now.octets.now) c.requires in
      let free : deque_len c.link.new.kept < deque_capacity c.link.new.kept = omega (arith, c.link.new.kept.ok.0, links.count, count-is _ _ _ view, room.0.0, c.link.ensures.capacity, c.self.invariant.reserved) in
      rw (c.push_back.ensures.succeeds free) at c.push_back.ensures.items

pub invariant_of-self : goal.invariant_of-self
invariant_of-self c =
    let w = (goal.at.invariant_of-self c).After-push_back in
    let gone = c.self.inside.gone in
    let passed = c.self.inside.passed in
    let linked = c.link.new.kept.items in
    let row = c.self.inside.row in
    let ends = c.self.inside.ends.items in
    let text = c.args.sent.now.octets.now in
    let b = c.bucket_of-bucket.result in
    let n = count-is _ _ _ (view w) in
    let o = octets-are _ _ _ _ (view w) c.self.invariant.is_laid in
    let room = room-told c.args.self.now (length text) c.requires in
    let number = gone + c.len.result + 1 in
    let count = (links w).count in
    let more = deque_capacity c.push_back.new.self in
    let x = sound-put gone passed linked row ends (deque_capacity c.self.inside.kept) more (kept w) text number c.index-ends.result.now (links w).sound c.index-ends.ensures (omega (arith, c.len.ensures, c.self.inside.kept.ok.0, count))
    (ap (λ (n : ℕ). passed + n) c.count.ensures) c.bucket_of-bucket.ensures.bucket c.bucket_of-bucket.ensures.bound refl refl (omega (arith, count, n, room.0.0)) (omega (arith, o, room.0.1))
    (omega (arith, count, records-is c.self.view_is, room.1.0)) (omega (arith, octets-is c.self.view_is, room.1.1)) (omega (arith, c.push_back.ensures.capacity, c.link.ensures.capacity)) in
    subst (λ (l : List Kept). IsSound gone passed l c.put.new.self (set ends b c.with.result) more) (sym (items w))
    (subst (λ (r : List ℕ). IsSound gone passed (linked ++ kept w ∷ []) r (set ends b c.with.result) more) (sym c.put.ensures)
    (subst (λ (y : Ends). IsSound gone passed (linked ++ kept w ∷ []) (row ++ text) (set ends b y) more) (sym c.with.ensures) x))

pub returns : goal.returns
returns c =
    let w = (goal.at.returns c).After-push_back in
    let linked = c.link.new.kept.items in
    let row = c.self.inside.row in
    let text = c.args.sent.now.octets.now in
    let shown = (links w).held ∙ view w in
    as-window _ _ _ _ _ (within-is c.self.view_is)
    (omega (arith, ap (λ (l : List Kept). length l) (items w), length-append linked (kept w ∷ []), (links w).count, records-is c.self.view_is))
    (omega (arith, ap (λ (l : List ℕ). length l) c.put.ensures, length-append row text, octets-is c.self.view_is))
    (ap (λ (l : List Kept). laid l c.put.new.self) (items w)
    ∙ ap (λ (r : List ℕ). laid (linked ++ kept w ∷ []) r) c.put.ensures
    ∙ laid-put c.self.inside.passed linked row (kept w) text (links w).sound.is_laid refl
    ∙ ap (λ (h : List Sent). h ++ sent_of (kept w) text ∷ []) shown)
