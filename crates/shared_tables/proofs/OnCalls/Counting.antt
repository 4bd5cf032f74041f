-- A walk along a line of a segment, and how many of its entries are live.
use Rattle.std.proofs.Common.{◌≡◌, ℕ, suc, ◌+◌, ◌<◌, ◌≤◌, Bool, true, false, cond, not, ◌&&◌, List, [], ◌∷◌, ◌++◌, length, map, Option, Some, None, is_none, is_some, nat_eq, refl, sym, ap, ◌∙◌, subst, arith, append_assoc, length-append}
use Rattle.std.specs.List.{cons_option}
use Rattle.filter_db.specs.declared.entry.Entry.{Entry}
use Rattle.filter_db.specs.Table.{is_young}
use Rattle.shared_tables.specs.declared.links.Links.{Links}
use Rattle.shared_tables.specs.declared.share.Share.{Share}
use Rattle.shared_tables.specs.Line.{first_of, is_on, IsLinked}
use Rattle.shared_tables.specs.Listing.{live_row, live_rows, CountsLive}
use Rattle.shared_tables.specs.Pool.{Held, entry_at, links_at, is_dead_in}
use Rattle.shared_tables.specs.Segments.{entry_of}
use Rattle.shared_tables.specs.Shared.{line_key, last_at, same_bool}
use Rattle.shared_tables.specs.SlotsOfSegments.{IsAged, IsLines, line_at}
use Rattle.shared_tables.specs.LinkSteps.{IsHeld}
use Rattle.shared_tables.proofs.OnEntries.Linked.{first_on, linked_split, on_behind}
use Rattle.shared_tables.proofs.OnEntries.Sweeping.{aged_least, dead_of, later_lives}
use Rattle.shared_tables.proofs.OnEntries.Threaded.{on_line_held}

-- ---- along a line

-- a walk has passed some slots of a line, and goes on at the cursor
pub record Walks (es : List (Option Held)) (ls : List Links) (v : ℕ) (fixed : Bool) (share : Share) (cursor : Option ℕ) (steps : ℕ) : Type 0 where
  pub moment : ℕ
  pub lines : IsLines es ls v share moment
  pub done : List ℕ
  pub rest : List ℕ
  pub whole : done ++ rest ≡ lines.list fixed
  pub here : cursor ≡ first_of rest None
  pub steps_are : length done ≡ steps

pub walk_starts : (es : List (Option Held)) (ls : List Links) (v : ℕ) (fixed : Bool) (share : Share) (moment : ℕ) (cursor : Option ℕ) → IsLines es ls v share moment → cursor ≡ (line_at share fixed).first → Walks es ls v fixed share cursor 0
walk_starts es ls v fixed share moment cursor h is = record {
  moment = moment;
  lines = h;
  done = [];
  rest = h.list fixed;
  whole = refl;
  here = is ∙ (h.thread fixed).begins;
  steps_are = refl;
}

module _ (es : List (Option Held)) (ls : List Links) (v : ℕ) (fixed : Bool) (share : Share) (slot steps : ℕ) (w : Walks es ls v fixed share (Some slot) steps) where
  -- what is behind the slot at the cursor
  pub behind : (rest : List ℕ) → Some slot ≡ first_of rest None → (after : List ℕ) × (rest ≡ slot ∷ after)
  behind [] e = let bad : Some slot ≡ None = e in cc
  behind (i ∷ rest) e = let q : i ≡ slot = (let p : Some slot ≡ Some i = e in cc) in (rest, ap (λ k. k ∷ rest) q)

  abbrev pub after : List ℕ
  after = (behind w.rest w.here).0

  pub split : w.done ++ slot ∷ after ≡ w.lines.list fixed
  split = sym (ap (λ (is : List ℕ). w.done ++ is) (behind w.rest w.here).1) ∙ w.whole

  pub keyed : line_key v fixed (entry_at es slot) ≡ true
  keyed = sym ((w.lines.thread fixed).members slot) ∙ ap (is_on slot) (sym split) ∙ on_behind slot w.done (slot ∷ after) (first_on slot after)

  pub walk_held : IsHeld es slot
  walk_held = on_line_held v fixed es slot keyed

  pub walk_on : (next : Option ℕ) → next ≡ (links_at ls slot).next → Walks es ls v fixed share next (steps + 1)
  walk_on next on =
      let linked = subst (λ (is : List ℕ). IsLinked ls None is None) (sym split) (w.lines.thread fixed).linked in
      let own = (linked_split ls w.done (slot ∷ after) None None linked).1.0 in
      record {
        moment = w.moment;
        lines = w.lines;
        done = w.done ++ slot ∷ [];
        rest = after;
        whole = append_assoc w.done (slot ∷ []) after ∙ split;
        here = on ∙ ap (λ (l : Links). l.next) own;
        steps_are = omega (arith, w.steps_are, length-append w.done (slot ∷ []));
      }

-- ---- the live ones

-- what is of the segment has a row where it lives
row_of : (v a t : ℕ) (fixed : Bool) (o : Option Held) → line_key v fixed o ≡ true → (row : List ℕ × Entry) × (live_row v a t o ≡ cond (not (is_dead_in o a t)) (Some row) None)
row_of v a t fixed None k = let bad : false ≡ true = k in cc
row_of v a t fixed (Some e) k = (row, from (nat_eq e.vid v) (same_bool fixed (is_none e.last)) (is_young a t e.last) k)
  where
    row : List ℕ × Entry
    row = (e.mac, entry_of e)

    from : (b c y : Bool) → b && c ≡ true → cond (b && y) (Some row) None ≡ cond (not (not y)) (Some row) None
    from true c true k = refl
    from true c false k = refl
    from false c y k = let bad : false ≡ true = k in cc

pub none_dead : (v a t : ℕ) (fixed : Bool) (o : Option Held) → line_key v fixed o ≡ true → is_some (live_row v a t o) ≡ not (is_dead_in o a t)
none_dead v a t fixed o k = let r = row_of v a t fixed o k in ap is_some r.1 ∙ by (is_dead_in o a t) r.0
  where
    by : (d : Bool) (row : List ℕ × Entry) → is_some (cond (not d) (Some row) None) ≡ not d
    by true row = refl
    by false row = refl

-- as many rows as slots, where all live
all_live : (es : List (Option Held)) (v a t : ℕ) (fixed : Bool) (is : List ℕ) → ((i : ℕ) → is_on i is ≡ true → (line_key v fixed (entry_at es i) ≡ true) × (is_dead_in (entry_at es i) a t ≡ false)) → length (live_rows v a t (map (entry_at es) is)) ≡ length is
all_live es v a t fixed [] h = refl
all_live es v a t fixed (i ∷ is) h =
    let r = row_of v a t fixed (entry_at es i) (h i (first_on i is)).0 in
    ap (λ o. length (cons_option o (live_rows v a t (map (entry_at es) is)))) (r.1 ∙ ap (λ d. cond (not d) (Some r.0) None) (h i (first_on i is)).1)
    ∙ ap suc (all_live es v a t fixed is (λ j on. h j (on_behind j (i ∷ []) is on)))

-- what is fixed lives
fixed_lives : (v a t : ℕ) (o : Option Held) → line_key v true o ≡ true → is_dead_in o a t ≡ false
fixed_lives v a t None k = refl
fixed_lives v a t (Some e) k = from (nat_eq e.vid v) e.last k
  where
    from : (b : Bool) (last : Option ℕ) → b && same_bool true (is_none last) ≡ true → not (is_young a t last) ≡ false
    from b None k = refl
    from true (Some last) k = let bad : false ≡ true = k in cc
    from false (Some last) k = let bad : false ≡ true = k in cc

-- the order of what is left of a queue
aged_rest : (es : List (Option Held)) (xs ys : List ℕ) (low high : ℕ) → IsAged es low (xs ++ ys) high → (from : ℕ) × IsAged es from ys high
aged_rest es [] ys low high h = (low, h)
aged_rest es (x ∷ xs) ys low high h = aged_rest es xs ys (last_at es x) high h.1

rows_join : (es : List (Option Held)) (v a t : ℕ) (xs ys : List ℕ) → length (live_rows v a t (map (entry_at es) (xs ++ ys))) ≡ length (live_rows v a t (map (entry_at es) xs)) + length (live_rows v a t (map (entry_at es) ys))
rows_join es v a t [] ys = omega arith
rows_join es v a t (x ∷ xs) ys = from (live_row v a t (entry_at es x)) (rows_join es v a t xs ys)
  where
    from : (o : Option (List ℕ × Entry)) → length (live_rows v a t (map (entry_at es) (xs ++ ys))) ≡ length (live_rows v a t (map (entry_at es) xs)) + length (live_rows v a t (map (entry_at es) ys))
        → length (cons_option o (live_rows v a t (map (entry_at es) (xs ++ ys)))) ≡ length (cons_option o (live_rows v a t (map (entry_at es) xs))) + length (live_rows v a t (map (entry_at es) ys))
    from None k = k
    from (Some row) k = omega (arith, k)

-- ---- the dead ones were passed

pub record Counts (es : List (Option Held)) (ls : List Links) (v a t : ℕ) (share : Share) (cursor : Option ℕ) (steps count : ℕ) : Type 0 where
  pub walk : Walks es ls v false share cursor steps
  pub dead : length (live_rows v a t (map (entry_at es) walk.done)) ≡ 0
  pub left : count + steps ≡ share.count

pub count_starts : (es : List (Option Held)) (ls : List Links) (v a t : ℕ) (share : Share) (moment : ℕ) → IsLines es ls v share moment → Counts es ls v a t share share.queue.first 0 share.count
unfolding walk_starts
count_starts es ls v a t share moment h = record { walk = walk_starts es ls v false share moment share.queue.first h refl; dead = refl; left = omega arith }

-- the next one is dead, too
pub count_on : (es : List (Option Held)) (ls : List Links) (v a t : ℕ) (share : Share) (slot steps count count' : ℕ) (c : Counts es ls v a t share (Some slot) steps count) (next : Option ℕ)
    → is_some (live_row v a t (entry_at es slot)) ≡ false → next ≡ (links_at ls slot).next → count' + 1 ≡ count → Counts es ls v a t share next (steps + 1) count'
unfolding walk_on
count_on es ls v a t share slot steps count count' c next off on less = record {
  walk = walk_on es ls v false share slot steps c.walk next on;
  dead = omega (arith, rows_join es v a t c.walk.done (slot ∷ []), c.dead, none (live_row v a t (entry_at es slot)) off);
  left = omega (arith, c.left, less);
}
  where
    none : (o : Option (List ℕ × Entry)) → is_some o ≡ false → length (cons_option o []) ≡ 0
    none None off = refl
    none (Some row) off = let bad : true ≡ false = off in cc

-- there is one to pass, so the count isn't 0
pub count_some : (es : List (Option Held)) (ls : List Links) (v a t : ℕ) (share : Share) (slot steps count : ℕ) (c : Counts es ls v a t share (Some slot) steps count) → 0 < count
count_some es ls v a t share slot steps count c =
    let whole = ap (λ (is : List ℕ). length is) (split es ls v false share slot steps c.walk) in
    omega (arith, c.left, c.walk.steps_are, c.walk.lines.count, whole, length-append c.walk.done (slot ∷ after es ls v false share slot steps c.walk))

module _ (es : List (Option Held)) (ls : List Links) (v a t : ℕ) (share : Share) (cursor : Option ℕ) (steps count : ℕ) (c : Counts es ls v a t share cursor steps count) where
  -- all behind the dead ones live
  counted : length (live_rows v a t (map (entry_at es) c.walk.rest)) ≡ length c.walk.rest → CountsLive es v a t count
  counted rest =
      let h = c.walk.lines in
      let queue = ap (λ (is : List ℕ). length (live_rows v a t (map (entry_at es) is))) (sym c.walk.whole) ∙ rows_join es v a t c.walk.done c.walk.rest in
      let others = all_live es v a t true (h.list true) (λ i on. let k = sym ((h.thread true).members i) ∙ on in (k, fixed_lives v a t (entry_at es i) k)) in
      record {
        queue = h.list false;
        fixed = h.list true;
        aged = record { apart = (h.thread false).apart; members = (h.thread false).members };
        others = record { apart = (h.thread true).apart; members = (h.thread true).members };
        count = omega (arith, queue, others, c.dead, rest, c.left, c.walk.steps_are, h.count, ap (λ (is : List ℕ). length is) c.walk.whole, length-append c.walk.done c.walk.rest);
      }

  pub count_whole : c.walk.rest ≡ [] → CountsLive es v a t count
  count_whole none = counted (subst (λ (is : List ℕ). length (live_rows v a t (map (entry_at es) is)) ≡ length is) (sym none) refl)

  pub count_all : share.count ≤ steps → CountsLive es v a t count
  count_all far = count_whole (none c.walk.rest (omega (arith, far, c.walk.steps_are, c.walk.lines.count, ap (λ (is : List ℕ). length is) c.walk.whole, length-append c.walk.done c.walk.rest)))
    where
      none : (rest : List ℕ) → length rest ≤ 0 → rest ≡ []
      none [] e = refl
      none (i ∷ rest) e = absurd (omega arith)

pub count_ends : (es : List (Option Held)) (ls : List Links) (v a t : ℕ) (share : Share) (steps count : ℕ) → Counts es ls v a t share None steps count → CountsLive es v a t count
count_ends es ls v a t share steps count c = count_whole es ls v a t share None steps count c (none c.walk.rest c.walk.here)
  where
    none : (rest : List ℕ) → None ≡ first_of rest None → rest ≡ []
    none [] e = refl
    none (i ∷ rest) e = let bad : None ≡ Some i = e in cc

-- the next one lives, and so do those behind it
pub count_lives : (es : List (Option Held)) (ls : List Links) (v a t : ℕ) (share : Share) (slot steps count : ℕ) → Counts es ls v a t share (Some slot) steps count → is_some (live_row v a t (entry_at es slot)) ≡ true → CountsLive es v a t count
count_lives es ls v a t share slot steps count c on =
    let w = c.walk in
    let rest = behind es ls v false share slot steps w w.rest w.here in
    let after = rest.0 in
    let h = w.lines in
    let old = aged_rest es w.done (slot ∷ after) 0 w.moment (subst (λ (is : List ℕ). IsAged es 0 is w.moment) (sym (split es ls v false share slot steps w)) h.aged) in
    let key : (i : ℕ) → is_on i (slot ∷ after) ≡ true → line_key v false (entry_at es i) ≡ true =
    λ i is. sym ((h.thread false).members i) ∙ ap (is_on i) (sym (split es ls v false share slot steps w)) ∙ on_behind i w.done (slot ∷ after) is in
    let own = key slot (first_on slot after) in
    let lives : is_dead_in (entry_at es slot) a t ≡ false = dead_not (is_dead_in (entry_at es slot) a t) (sym (none_dead v a t false (entry_at es slot) own) ∙ on) in
    let all : (i : ℕ) → is_on i (slot ∷ after) ≡ true → (line_key v false (entry_at es i) ≡ true) × (is_dead_in (entry_at es i) a t ≡ false) =
    λ i is. (key i is, dead_of v (entry_at es i) a t (key i is) ∙ later_lives t (last_at es slot) (last_at es i) a (later after i old.0 w.moment old.1 is) (sym (dead_of v (entry_at es slot) a t own) ∙ lives)) in
    counted es ls v a t share (Some slot) steps count c (subst (λ (is : List ℕ). length (live_rows v a t (map (entry_at es) is)) ≡ length is) (sym rest.1) (all_live es v a t false (slot ∷ after) all))
  where
    dead_not : (d : Bool) → not d ≡ true → d ≡ false
    dead_not false k = refl
    dead_not true k = let bad : false ≡ true = k in cc

    later : (after : List ℕ) (i low high : ℕ) → IsAged es low (slot ∷ after) high → is_on i (slot ∷ after) ≡ true → last_at es slot ≤ last_at es i
    later after i low high k is = aged_least es (slot ∷ after) (last_at es slot) high i (omega arith, k.1) is
