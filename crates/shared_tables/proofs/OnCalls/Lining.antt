-- A walk along a line of a segment, and what both its lines list.
use Rattle.std.proofs.Common.{◌≡◌, ℕ, zero, suc, ◌+◌, ◌<◌, ◌≤◌, Bool, true, false, ◌&&◌, ◌||◌, List, [], ◌∷◌, ◌++◌, length, map, get_or, Option, Some, None, nat_eq, is_none, refl, sym, ap, ◌∙◌, subst, arith, inl, inr, ◌⊎◌, append-nil, append_assoc, length-append}
use Rattle.std.proofs.lemmas.Bool.{cases_lt}
use Rattle.std.proofs.lemmas.List.{get_or_past, length-map}
use Rattle.std.specs.FinMap.{from_entries}
use Rattle.std.specs.Option.{option_map, option_to_list}
use Rattle.std.specs.List.{cons_option}
use Rattle.filter_db.specs.declared.entry.Entry.{Entry}
use Rattle.filter_db.specs.Ageing.{same_table}
use Rattle.filter_db.specs.Rows.{Rows, AreUnique}
use Rattle.filter_db.specs.Table.{mac_cmp, live}
use Rattle.shared_tables.specs.declared.links.Links.{Links}
use Rattle.shared_tables.specs.declared.share.Share.{Share}
use Rattle.shared_tables.specs.Line.{first_of, is_on, IsApart, IsLinked}
use Rattle.shared_tables.specs.Listing.{live_row, live_rows, AreSlotsOf, HasLive, ListsLine}
use Rattle.shared_tables.specs.Pool.{Held, IfHeld, entry_at, links_at}
use Rattle.shared_tables.specs.Segments.{entry_of, kept_table}
use Rattle.shared_tables.specs.Shared.{IsUnique, Lacks, line_key, same_bool}
use Rattle.shared_tables.specs.SlotsOfSegments.{IsLines, line_at}
use Rattle.shared_tables.specs.LinkSteps.{IsHeld}
use Rattle.shared_tables.proofs.OnEntries.Linked.{by_bool, equal, first_on, is_on-append, linked_split, nat_eq_refl, on_behind, or_false}
use Rattle.shared_tables.proofs.OnCalls.ListingLemmas.{live_table, live_unique}
use Rattle.shared_tables.proofs.OnCalls.Tabled.{get-raw, hit, hit_held, held_hit, raw, raw_found, raw_lacks}
use Rattle.shared_tables.proofs.OnEntries.Threaded.{on_line_held}

-- ---- along a line

-- the rows of the slots that were passed are there, and the walk goes on at the cursor
pub record Lists (es : List (Option Held)) (ls : List Links) (v : ℕ) (fixed : Bool) (a t : ℕ) (old now : Rows) (cursor : Option ℕ) (steps count : ℕ) : Type 0 where
  pub done : List ℕ
  pub rest : List ℕ
  pub linked : IsLinked ls None (done ++ rest) None
  pub all : AreSlotsOf es v fixed (done ++ rest)
  pub here : cursor ≡ first_of rest None
  pub rows : now ≡ old ++ live_rows v a t (map (entry_at es) done)
  pub steps_are : length done ≡ steps
  pub few : length (done ++ rest) ≤ count

pub list_starts : (es : List (Option Held)) (ls : List Links) (v : ℕ) (fixed : Bool) (a t : ℕ) (old : Rows) (share : Share) (moment : ℕ) (cursor : Option ℕ)
    → IsLines es ls v share moment → cursor ≡ (line_at share fixed).first → Lists es ls v fixed a t old old cursor 0 share.count
list_starts es ls v fixed a t old share moment cursor h is = record {
  done = [];
  rest = h.list fixed;
  linked = (h.thread fixed).linked;
  all = record { apart = (h.thread fixed).apart; members = (h.thread fixed).members };
  here = is ∙ (h.thread fixed).begins;
  rows = sym (append-nil old);
  steps_are = refl;
  few = elim fixed as (λ b. length (h.list b) ≤ share.count) [ true ↦ omega (arith, h.count) | false ↦ omega (arith, h.count) ];
}

-- the slot at the cursor
record At (es : List (Option Held)) (ls : List Links) (v : ℕ) (fixed : Bool) (a t : ℕ) (old now : Rows) (slot steps count : ℕ) : Type 0 where
  done : List ℕ
  rest : List ℕ
  linked : IsLinked ls None (done ++ slot ∷ rest) None
  all : AreSlotsOf es v fixed (done ++ slot ∷ rest)
  rows : now ≡ old ++ live_rows v a t (map (entry_at es) done)
  steps_are : length done ≡ steps
  few : length (done ++ slot ∷ rest) ≤ count

stands : (es : List (Option Held)) (ls : List Links) (v : ℕ) (fixed : Bool) (a t : ℕ) (old now : Rows) (slot steps count : ℕ) → Lists es ls v fixed a t old now (Some slot) steps count → At es ls v fixed a t old now slot steps count
stands es ls v fixed a t old now slot steps count w = from w.rest w.here w.linked w.all w.few
  where
    from : (rest : List ℕ) → Some slot ≡ first_of rest None → IsLinked ls None (w.done ++ rest) None → AreSlotsOf es v fixed (w.done ++ rest) → length (w.done ++ rest) ≤ count → At es ls v fixed a t old now slot steps count
    from [] e l m f = let bad : Some slot ≡ None = e in cc
    from (i ∷ rest) e l m f =
        let q : i ≡ slot = (let p : Some slot ≡ Some i = e in cc) in
        record {
          done = w.done;
          rest = rest;
          linked = subst (λ k. IsLinked ls None (w.done ++ k ∷ rest) None) q l;
          all = subst (λ k. AreSlotsOf es v fixed (w.done ++ k ∷ rest)) q m;
          rows = w.rows;
          steps_are = w.steps_are;
          few = subst (λ k. length (w.done ++ k ∷ rest) ≤ count) q f;
        }

rows_more : (v a t : ℕ) (es : List (Option Held)) (is : List ℕ) (i : ℕ) (row : Option (List ℕ × Entry)) → row ≡ live_row v a t (entry_at es i)
    → live_rows v a t (map (entry_at es) is) ++ option_to_list row ≡ live_rows v a t (map (entry_at es) (is ++ i ∷ []))
rows_more v a t es [] i row is = one row ∙ ap (λ r. cons_option r []) is
  where
    one : (row : Option (List ℕ × Entry)) → option_to_list row ≡ cons_option row []
    one None = refl
    one (Some row) = refl
rows_more v a t es (j ∷ js) i row is = out (live_row v a t (entry_at es j)) (live_rows v a t (map (entry_at es) js)) ∙ ap (cons_option (live_row v a t (entry_at es j))) (rows_more v a t es js i row is)
  where
    out : (o : Option (List ℕ × Entry)) (rs : Rows) → cons_option o rs ++ option_to_list row ≡ cons_option o (rs ++ option_to_list row)
    out None rs = refl
    out (Some r) rs = refl

module _ (es : List (Option Held)) (ls : List Links) (v : ℕ) (fixed : Bool) (a t : ℕ) (old now : Rows) (slot steps count : ℕ) (w : Lists es ls v fixed a t old now (Some slot) steps count) where
  abbrev at : At es ls v fixed a t old now slot steps count
  at = stands es ls v fixed a t old now slot steps count w

  keyed : line_key v fixed (entry_at es slot) ≡ true
  keyed = sym (at.all.members slot) ∙ on_behind slot at.done (slot ∷ at.rest) (first_on slot at.rest)

  pub list_held : IsHeld es slot
  list_held = on_line_held v fixed es slot keyed

  pub list_on : (row : Option (List ℕ × Entry)) (new : Rows) (next : Option ℕ) → row ≡ live_row v a t (entry_at es slot) → new ≡ now ++ option_to_list row → next ≡ (links_at ls slot).next
      → Lists es ls v fixed a t old new next (steps + 1) count
  list_on row new next is put on =
      let whole : (at.done ++ slot ∷ []) ++ at.rest ≡ at.done ++ slot ∷ at.rest = append_assoc at.done (slot ∷ []) at.rest in
      let own = (linked_split ls at.done (slot ∷ at.rest) None None at.linked).1.0 in
      record {
        done = at.done ++ slot ∷ [];
        rest = at.rest;
        linked = subst (λ is. IsLinked ls None is None) (sym whole) at.linked;
        all = subst (AreSlotsOf es v fixed) (sym whole) at.all;
        here = on ∙ ap (λ (l : Links). l.next) own;
        rows = put ∙ ap (λ (rs : Rows). rs ++ option_to_list row) at.rows ∙ append_assoc old (live_rows v a t (map (entry_at es) at.done)) (option_to_list row) ∙ ap (λ (rs : Rows). old ++ rs) (rows_more v a t es at.done slot row is);
        steps_are = omega (arith, at.steps_are, length-append at.done (slot ∷ []));
        few = subst (λ (is : List ℕ). length is ≤ count) (sym whole) at.few;
      }

-- behind the last slot the whole line is listed
list_whole : (es : List (Option Held)) (ls : List Links) (v : ℕ) (fixed : Bool) (a t : ℕ) (old now : Rows) (cursor : Option ℕ) (steps count : ℕ) (w : Lists es ls v fixed a t old now cursor steps count) → w.rest ≡ [] → ListsLine es v fixed a t old now
list_whole es ls v fixed a t old now cursor steps count w none = record {
  slots = w.done;
  all = subst (AreSlotsOf es v fixed) (ap (λ (r : List ℕ). w.done ++ r) none ∙ append-nil w.done) w.all;
  rows = w.rows;
}

pub list_ends : (es : List (Option Held)) (ls : List Links) (v : ℕ) (fixed : Bool) (a t : ℕ) (old now : Rows) (steps count : ℕ) → Lists es ls v fixed a t old now None steps count → ListsLine es v fixed a t old now
list_ends es ls v fixed a t old now steps count w = list_whole es ls v fixed a t old now None steps count w (none w.rest w.here)
  where
    none : (rest : List ℕ) → None ≡ first_of rest None → rest ≡ []
    none [] e = refl
    none (i ∷ rest) e = let bad : None ≡ Some i = e in cc

pub list_all : (es : List (Option Held)) (ls : List Links) (v : ℕ) (fixed : Bool) (a t : ℕ) (old now : Rows) (cursor : Option ℕ) (steps count : ℕ) → count ≤ steps → Lists es ls v fixed a t old now cursor steps count → ListsLine es v fixed a t old now
list_all es ls v fixed a t old now cursor steps count far w = list_whole es ls v fixed a t old now cursor steps count w (none w.rest (omega (arith, w.few, w.steps_are, length-append w.done w.rest)))
  where
    none : (rest : List ℕ) → length rest ≤ 0 → rest ≡ []
    none [] e = refl
    none (i ∷ rest) e = absurd (omega arith)

-- ---- both lines

apart_join : (xs ys : List ℕ) → IsApart xs → IsApart ys → ((i : ℕ) → is_on i xs ≡ true → is_on i ys ≡ false) → IsApart (xs ++ ys)
apart_join [] ys ax ay off = ay
apart_join (x ∷ xs) ys ax ay off =
    (is_on-append x xs ys ∙ or_false (is_on x xs) (is_on x ys) ax.0 (off x (first_on x xs)), apart_join xs ys ax.1 ay (λ i on. off i (on_behind i (x ∷ []) xs on)))

-- a slot's place on the list
place_of : (s : ℕ) (is : List ℕ) → is_on s is ≡ true → (k : ℕ) × (k < length is) × (get_or is k 0 ≡ s)
place_of s [] on = let bad : false ≡ true = on in cc
place_of s (i ∷ is) on = by_bool (nat_eq s i) (λ yes. (0, omega arith, sym (equal s i yes))) (λ off. let rest = place_of s is (sym (ap (λ b. b || is_on s is) off) ∙ on) in (suc rest.0, omega (arith, rest.1), rest.2))

on_at : (is : List ℕ) (k : ℕ) → k < length is → is_on (get_or is k 0) is ≡ true
on_at [] k lt = absurd (omega arith)
on_at (i ∷ is) zero lt = first_on i is
on_at (i ∷ is) (suc k) lt = on_behind (get_or is k 0) (i ∷ []) is (on_at is k (omega (arith, lt)))

-- no slot has two places
one_place : (is : List ℕ) (j k : ℕ) → IsApart is → j < length is → k < length is → get_or is j 0 ≡ get_or is k 0 → j ≡ k
one_place [] j k apart lj lk same = absurd (omega arith)
one_place (i ∷ is) zero zero apart lj lk same = refl
one_place (i ∷ is) zero (suc k) apart lj lk same = let bad : true ≡ false = sym (on_at is k (omega (arith, lk))) ∙ ap (λ s. is_on s is) (sym same) ∙ apart.0 in cc
one_place (i ∷ is) (suc j) zero apart lj lk same = let bad : true ≡ false = sym (on_at is j (omega (arith, lj))) ∙ ap (λ s. is_on s is) same ∙ apart.0 in cc
one_place (i ∷ is) (suc j) (suc k) apart lj lk same = ap suc (one_place is j k apart.1 (omega (arith, lj)) (omega (arith, lk)) same)

-- what is held by an address, or that none is
held_or_not : (v : ℕ) (q : List ℕ) (es : List (Option Held)) → ((s : ℕ) × IfHeld (entry_at es s) v q) ⊎ Lacks es v q
held_or_not v q [] = inr (λ i h. h)
held_or_not v q (o ∷ es) = by_bool (hit v q o) (λ yes. inl (0, hit_held v q o yes)) (λ off. more off (held_or_not v q es))
  where
    none : hit v q o ≡ false → Lacks es v q → Lacks (o ∷ es) v q
    none off rest zero h = let bad : true ≡ false = sym (held_hit v q o h) ∙ off in cc
    none off rest (suc i) h = rest i h

    more : hit v q o ≡ false → ((s : ℕ) × IfHeld (entry_at es s) v q) ⊎ Lacks es v q → ((s : ℕ) × IfHeld (entry_at (o ∷ es) s) v q) ⊎ Lacks (o ∷ es) v q
    more off (inl found) = inl (suc found.0, found.1)
    more off (inr rest) = inr (none off rest)

-- no entry is fixed and ages
not_both : (v : ℕ) (o : Option Held) → line_key v false o ≡ true → line_key v true o ≡ false
not_both v None h = refl
not_both v (Some e) h = from (nat_eq e.vid v) (is_none e.last) h
  where
    from : (a b : Bool) → a && same_bool false b ≡ true → a && same_bool true b ≡ false
    from true true h = let bad : false ≡ true = h in cc
    from true false h = refl
    from false b h = refl

-- an entry of the segment is on one of its lines
on_one : (v : ℕ) (q : List ℕ) (o : Option Held) → IfHeld o v q → (line_key v false o || line_key v true o) ≡ true
on_one v q None h = absurd h
on_one v q (Some e) h = ap (λ a. (a && same_bool false (is_none e.last)) || (a && same_bool true (is_none e.last))) (subst (λ k. nat_eq e.vid k ≡ true) h.0 (nat_eq_refl e.vid)) ∙ from (is_none e.last)
  where
    from : (b : Bool) → (same_bool false b || same_bool true b) ≡ true
    from true = refl
    from false = refl

module _ (es : List (Option Held)) (v : ℕ) (unique : IsUnique es) (xs ys : List ℕ) (aged : AreSlotsOf es v false xs) (fixed : AreSlotsOf es v true ys) where
  abbrev all : List ℕ
  all = xs ++ ys

  abbrev os : List (Option Held)
  os = map (entry_at es) (xs ++ ys)

  apart : IsApart (xs ++ ys)
  apart = apart_join xs ys aged.apart fixed.apart (λ i on. fixed.members i ∙ not_both v (entry_at es i) (sym (aged.members i) ∙ on))

  at_place : (k : ℕ) → k < length (xs ++ ys) → entry_at os k ≡ entry_at es (get_or (xs ++ ys) k 0)
  at_place k lt = get_or-map_in (xs ++ ys) k lt
    where
      get_or-map_in : (is : List ℕ) (k : ℕ) → k < length is → entry_at (map (entry_at es) is) k ≡ entry_at es (get_or is k 0)
      get_or-map_in [] k lt = absurd (omega arith)
      get_or-map_in (i ∷ is) zero lt = refl
      get_or-map_in (i ∷ is) (suc k) lt = get_or-map_in is k (omega (arith, lt))

  within : (k : ℕ) (e : Held) → entry_at os k ≡ Some e → k < length (xs ++ ys)
  within k e is = from (cases_lt k (length (xs ++ ys)))
    where
      from : (k < length (xs ++ ys)) ⊎ (length (xs ++ ys) ≤ k) → k < length (xs ++ ys)
      from (inl lt) = lt
      from (inr le) = let bad : None ≡ Some e = sym (get_or_past os k None (omega (arith, le, length-map (xs ++ ys) (entry_at es)))) ∙ is in cc

  os_unique : IsUnique os
  os_unique i j e f is_e is_f same_vid same_mac =
      let li = within i e is_e in
      let lj = within j f is_f in
      one_place (xs ++ ys) i j apart li lj (unique (get_or (xs ++ ys) i 0) (get_or (xs ++ ys) j 0) e f (sym (at_place i li) ∙ is_e) (sym (at_place j lj) ∙ is_f) same_vid same_mac)

  os_lacks : (q : List ℕ) → Lacks es v q → Lacks os v q
  os_lacks q lacks k h = from (cases_lt k (length (xs ++ ys)))
    where
      from : (k < length (xs ++ ys)) ⊎ (length (xs ++ ys) ≤ k) → ⊥
      from (inl lt) = lacks (get_or (xs ++ ys) k 0) (subst (λ o. IfHeld o v q) (at_place k lt) h)
      from (inr le) = subst (λ o. IfHeld o v q) (get_or_past os k None (omega (arith, le, length-map (xs ++ ys) (entry_at es)))) h

  same_raw : (q : List ℕ) → raw v q os ≡ raw v q es
  same_raw q = from (held_or_not v q es)
    where
      from : ((s : ℕ) × IfHeld (entry_at es s) v q) ⊎ Lacks es v q → raw v q os ≡ raw v q es
      from (inr lacks) = raw_lacks v q os (os_lacks q lacks) ∙ sym (raw_lacks v q es lacks)
      from (inl found) =
          let s = found.0 in
          let on : is_on s (xs ++ ys) ≡ true = is_on-append s xs ys ∙ (λ i. aged.members s i || fixed.members s i) ∙ on_one v q (entry_at es s) found.1 in
          let place = place_of s (xs ++ ys) on in
          let there : entry_at os place.0 ≡ entry_at es s = at_place place.0 place.1 ∙ ap (entry_at es) place.2 in
          raw_found v q os place.0 os_unique (subst (λ o. IfHeld o v q) (sym there) found.1) ∙ ap (option_map entry_of) there ∙ sym (raw_found v q es s unique found.1)

  same_kept : kept_table v os ≡ kept_table v es
  same_kept = same_table (kept_table v os) (kept_table v es) (λ q. get-raw v os q ∙ same_raw q ∙ sym (get-raw v es q))

  joined : (a t : ℕ) → live_rows v a t (map (entry_at es) xs) ++ live_rows v a t (map (entry_at es) ys) ≡ live_rows v a t os
  joined a t = from xs
    where
      out : (o : Option (List ℕ × Entry)) (rs ss : Rows) → cons_option o rs ++ ss ≡ cons_option o (rs ++ ss)
      out None rs ss = refl
      out (Some r) rs ss = refl

      from : (is : List ℕ) → live_rows v a t (map (entry_at es) is) ++ live_rows v a t (map (entry_at es) ys) ≡ live_rows v a t (map (entry_at es) (is ++ ys))
      from [] = refl
      from (i ∷ is) = out (live_row v a t (entry_at es i)) (live_rows v a t (map (entry_at es) is)) (live_rows v a t (map (entry_at es) ys)) ∙ ap (cons_option (live_row v a t (entry_at es i))) (from is)

  -- the rows of both lines have each address once, and make the table that the rows of all slots make
  pub both_unique : (a t : ℕ) → AreUnique (live_rows v a t (map (entry_at es) xs) ++ live_rows v a t (map (entry_at es) ys))
  both_unique a t = subst AreUnique (sym (joined a t)) (live_unique v a t os os_unique)

  pub both_table : (a t : ℕ) → from_entries {R = mac_cmp} (live_rows v a t (map (entry_at es) xs) ++ live_rows v a t (map (entry_at es) ys)) ≡ from_entries {R = mac_cmp} (live_rows v a t es)
  both_table a t = ap (from_entries {R = mac_cmp}) (joined a t) ∙ live_table v a t os os_unique ∙ ap (live a t) same_kept ∙ sym (live_table v a t es unique)

-- so it is of what was listed
pub both_listed : (es : List (Option Held)) (v a t : ℕ) (none one both : Rows) → IsUnique es → none ≡ [] → ListsLine es v false a t none one → ListsLine es v true a t one both
    → AreUnique both × (from_entries {R = mac_cmp} both ≡ from_entries {R = mac_cmp} (live_rows v a t es))
both_listed es v a t none one both unique empty aged fixed =
    let is : both ≡ live_rows v a t (map (entry_at es) aged.slots) ++ live_rows v a t (map (entry_at es) fixed.slots) =
    fixed.rows ∙ ap (λ (rs : Rows). rs ++ live_rows v a t (map (entry_at es) fixed.slots)) (aged.rows ∙ ap (λ (rs : Rows). rs ++ live_rows v a t (map (entry_at es) aged.slots)) empty) in (
      subst AreUnique (sym is) (both_unique es v unique aged.slots fixed.slots aged.all fixed.all a t),
      ap (from_entries {R = mac_cmp}) is ∙ both_table es v unique aged.slots fixed.slots aged.all fixed.all a t,
    )

pub lines_listed : (es : List (Option Held)) (v a t : ℕ) (none one both : Rows) → IsUnique es → none ≡ [] → ListsLine es v false a t none one → ListsLine es v true a t one both → HasLive es v a t both
lines_listed es v a t none one both unique empty aged fixed = let k = both_listed es v a t none one both unique empty aged fixed in record { unique = k.0; table = k.1 }

-- and of the slots in their order
pub slots_listed : (es : List (Option Held)) (v a t : ℕ) (none all : Rows) → IsUnique es → none ≡ [] → all ≡ none ++ live_rows v a t es → HasLive es v a t all
slots_listed es v a t none all unique empty is =
    let same : all ≡ live_rows v a t es = is ∙ ap (λ (rs : Rows). rs ++ live_rows v a t es) empty in
    record { unique = subst AreUnique (sym same) (live_unique v a t es unique); table = ap (from_entries {R = mac_cmp}) same }
