-- The live entries of a segment, listed and put in order.
use Rattle.std.proofs.Common.{◌≡◌, ℕ, suc, ◌+◌, ◌<◌, ◌≤◌, Bool, true, false, cond, ◌&&◌, T, List, [], ◌∷◌, length, filter, get_or, Option, Some, None, nat_eq, refl, sym, ap, ◌∙◌, subst, arith}
use Rattle.std.proofs.lemmas.Bool.Decides.{nat_tests}
use Rattle.std.proofs.lemmas.List.{get_or-map}
use Rattle.std.proofs.lemmas.List.Sorted.{IsPermutation-map, IsPermutation-sym, Contains-permutation}
use Rattle.std.proofs.lemmas.Map.Keys.{IsDistinct-IsPermutation, apart_from_distinct, sorted_from_all_adjacent, sorted_head, sorted_tail}
use Rattle.std.proofs.lemmas.Map.Entries.{length-keys_of}
use Rattle.std.proofs.lemmas.Map.Views.{Contains-from_lookup, lookup-from_Contains}
use Rattle.std.specs.declared.cmp.Ordering.{Ordering}
use Rattle.std.specs.declared.cmp.Ordering.TheVariants.{Less, Equal, Greater}
use Rattle.std.specs.Cmp.{eq_by_cmp_equiv}
use Rattle.std.specs.List.{AllByRecursion, IsDistinct, cons_option}
use Rattle.std.specs.List.Sorted.{IsPermutation, IsSortedByKey, IsStrictlySortedBy}
use Rattle.std.specs.Map.{keys_of, lookup}
use Rattle.std.specs.Option.{option_map, unwrap_or}
use Rattle.std.specs.Ordering.{eq_by_cmp, is_eq, is_lt, ordering_reverse}
use Rattle.std.specs.FinMap.{empty, entries, find, from_entries, from_sorted, is_sorted, len-empty, len-entries, entries-from_sorted, get-from_entries, get-from_sorted}
use Rattle.std.specs.FinMap.Entries.{below_all}
use Rattle.filter_db.specs.declared.entry.Entry.{Entry}
use Rattle.filter_db.specs.Place.{no_place}
use Rattle.filter_db.specs.Table.{mac_cmp, is_live, live, nanoseconds}
use Rattle.filter_db.specs.Segment.{aged, aged_all, no_segment, segment_at}
use Rattle.filter_db.specs.Rows.{Rows, AreUnique}
use Rattle.filter_db.specs.Ageing.{mac_total, same_table, aged_all-aged_all}
use Rattle.filter_db.proofs.TableLemmas.{same_mac}
use Rattle.filter_db.proofs.RowsLemmas.{AreUnique-filter, from_entries-filter}
use Rattle.shared_tables.specs.Pool.{Held}
use Rattle.shared_tables.specs.Shared.{Shared, Rule, rule_at, span_of, IsUnique}
use Rattle.shared_tables.specs.Segments.{entry_of, rows_of, kept_table, kept_segment, kept_segments, segments_of}
use Rattle.shared_tables.specs.Listing.{live_rows}
use Rattle.shared_tables.proofs.OnEntries.Linked.{equal}
use Rattle.shared_tables.proofs.OnCalls.Tabled.{get-raw, raw_none, alone_of, tail_unique}

-- ---- the rows are those of the table that are live

one_row : (p : List ℕ × Entry → Bool) (b : Bool) (r : List ℕ × Entry) (rs live : Rows) → live ≡ filter p rs → cons_option (cond (b && p r) (Some r) None) live ≡ filter p (cond b (r ∷ rs) rs)
one_row p false r rs live is = is
one_row p true r rs live is = elim (p r) as (λ c. cons_option (cond c (Some r) None) live ≡ cond c (r ∷ filter p rs) (filter p rs)) [ true ↦ ap (λ xs. r ∷ xs) is | false ↦ is ]

pub live_rows_filter : (v a t : ℕ) (es : List (Option Held)) → live_rows v a t es ≡ filter (λ (row : List ℕ × Entry). is_live a t row.1) (rows_of v es)
live_rows_filter v a t [] = refl
live_rows_filter v a t (None ∷ es) = live_rows_filter v a t es
live_rows_filter v a t (Some e ∷ es) = one_row (λ (row : List ℕ × Entry). is_live a t row.1) (nat_eq e.vid v) (e.mac, entry_of e) (rows_of v es) (live_rows v a t es) (live_rows_filter v a t es)

-- each address has one of them
pub rows_unique : (v : ℕ) (es : List (Option Held)) → IsUnique es → AreUnique (rows_of v es)
rows_unique v [] u = tt
rows_unique v (None ∷ es) u = rows_unique v es (tail_unique None es u)
rows_unique v (Some e ∷ es) u = from (nat_eq e.vid v) refl (rows_unique v es (tail_unique (Some e) es u))
  where
    absent : nat_eq e.vid v ≡ true → find mac_cmp e.mac (rows_of v es) ≡ None
    absent of = sym (get-from_entries mac_total (rows_of v es) e.mac) ∙ get-raw v es e.mac ∙ raw_none v e.mac es (λ i. alone_of v e.mac (Some e ∷ es) 0 u (equal e.vid v of, refl) (suc i) (grind (arith, nat_tests)))

    from : (b : Bool) → nat_eq e.vid v ≡ b → AreUnique (rows_of v es) → AreUnique (cond b ((e.mac, entry_of e) ∷ rows_of v es) (rows_of v es))
    from true of rest = (absent of, rest)
    from false of rest = rest

pub live_unique : (v a t : ℕ) (es : List (Option Held)) → IsUnique es → AreUnique (live_rows v a t es)
live_unique v a t es u = subst AreUnique (sym (live_rows_filter v a t es)) (AreUnique-filter (λ (row : List ℕ × Entry). is_live a t row.1) (rows_of v es) (rows_unique v es u))

-- the table that they make
pub live_table : (v a t : ℕ) (es : List (Option Held)) → IsUnique es → from_entries {R = mac_cmp} (live_rows v a t es) ≡ live a t (kept_table v es)
live_table v a t es u = ap (from_entries {R = mac_cmp}) (live_rows_filter v a t es) ∙ from_entries-filter (is_live a t) (rows_of v es) (rows_unique v es u)

-- it is the one that the segment has
pub listed : (s : Shared) (v now : ℕ) (rule : Rule) → rule_at s.rules v ≡ Some rule → IsUnique s.entries → s.moment ≤ now
    → entries (from_entries {R = mac_cmp} (live_rows v (span_of (rule_at s.rules v)) now s.entries)) ≡ entries (segment_at v (aged_all now (segments_of s))).entries
listed s v now rule here u le =
    ap (λ o. entries (from_entries {R = mac_cmp} (live_rows v (span_of o) now s.entries))) here
    ∙ ap entries (live_table v (nanoseconds rule.ageing) now s.entries u)
    ∙ sym (ap (λ o. entries (unwrap_or (option_map (aged now) (option_map (kept_segment v s.entries) o)) no_segment).entries) here)
    ∙ sym (ap (λ segments. entries (segment_at v segments).entries) (aged_all-aged_all s.moment now (kept_segments s) le))

-- a VID without a segment has none
no_rows : {A : Type 0} (xs : List A) → length xs ≡ 0 → xs ≡ []
no_rows [] h = refl
no_rows (x ∷ xs) h = absurd (omega arith)

pub listed_none : (s : Shared) (v now : ℕ) → rule_at s.rules v ≡ None → [] ≡ entries (segment_at v (aged_all now (segments_of s))).entries
listed_none s v now none =
    sym (no_rows (entries (empty {X = Entry} {R = mac_cmp})) (sym (len-entries empty) ∙ len-empty mac_cmp Entry))
    ∙ sym (ap (λ o. entries (unwrap_or (option_map (aged now) (option_map (aged s.moment) (option_map (kept_segment v s.entries) o))) no_segment).entries) none)

-- ---- rows in the order of their addresses

abbrev ties : List ℕ → List ℕ → Bool
ties = eq_by_cmp mac_cmp

found_none : (k : List ℕ) (rs : Rows) → find mac_cmp k rs ≡ None → AllByRecursion (λ y. ties k y ≡ false) (keys_of rs)
found_none k [] h = tt
found_none k (r ∷ rs) h = from (ties k r.0) refl h (found_none k rs)
  where
    from : (b : Bool) → ties k r.0 ≡ b → cond b (Some r.1) (find mac_cmp k rs) ≡ None → (find mac_cmp k rs ≡ None → AllByRecursion (λ y. ties k y ≡ false) (keys_of rs)) → AllByRecursion (λ y. ties k y ≡ false) (keys_of (r ∷ rs))
    from true e x rest = cc
    from false e x rest = (e, rest x)

distinct : (rs : Rows) → AreUnique rs → IsDistinct ties (keys_of rs)
unfolding IsDistinct
distinct [] u = tt
distinct (r ∷ rs) u = (found_none r.0 rs u.0, distinct rs u.1)

find_lookup : (q : List ℕ) (rs : Rows) → find mac_cmp q rs ≡ lookup (ties q) rs
find_lookup q [] = refl
find_lookup q (r ∷ rs) = ap (cond (ties q r.0) (Some r.1)) (find_lookup q rs)

-- in another order an address has the same entry
carried : (xs ys : Rows) (q : List ℕ) (e : Entry) → IsDistinct ties (keys_of ys) → IsPermutation xs ys → find mac_cmp q xs ≡ Some e → find mac_cmp q ys ≡ Some e
carried xs ys q e d perm is =
    find_lookup q ys ∙ lookup-from_Contains (eq_by_cmp_equiv mac_total) q e ys d (Contains-permutation xs ys (q, e) perm (Contains-from_lookup (λ x y. same_mac x y) q e xs (sym (find_lookup q xs) ∙ is)))

same_found : (xs ys : Rows) (q : List ℕ) → IsDistinct ties (keys_of xs) → IsDistinct ties (keys_of ys) → IsPermutation xs ys → find mac_cmp q ys ≡ find mac_cmp q xs
same_found xs ys q dx dy perm = from (find mac_cmp q xs) refl (find mac_cmp q ys) refl
  where
    from : (o : Option Entry) → find mac_cmp q xs ≡ o → (p : Option Entry) → find mac_cmp q ys ≡ p → p ≡ o
    from None a None b = refl
    from None a (Some e) b = sym (carried ys xs q e dx (IsPermutation-sym xs ys perm) b) ∙ a
    from (Some e) a p b = sym b ∙ carried xs ys q e dy perm a

rising : (x y : List ℕ) → is_lt (mac_cmp y x) ≡ false → ties x y ≡ false → mac_cmp x y ≡ Less
rising x y above apart = from (mac_cmp x y) (mac_total.antisymm y x) above apart
  where
    from : (r : Ordering) → mac_cmp y x ≡ ordering_reverse r → is_lt (mac_cmp y x) ≡ false → is_eq r ≡ false → r ≡ Less
    from Less e a b = refl
    from Equal e a b = let bad : true ≡ false = b in cc
    from Greater e a b = let bad : true ≡ false = sym (ap is_lt e) ∙ a in cc

blank : List ℕ × Entry
blank = ([], record { place = no_place; last = None })

strictly : (ys : Rows) → IsDistinct ties (keys_of ys) → IsSortedByKey (λ (r : List ℕ × Entry). r.0) mac_cmp ys → IsStrictlySortedBy mac_cmp (keys_of ys)
strictly ys d up = sorted_from_all_adjacent mac_total (keys_of ys) [] (λ k within.
    let next : k + 1 < length ys = omega (arith, within, length-keys_of ys) in
    let key : (i : ℕ) → i < length ys → get_or (keys_of ys) i [] ≡ (get_or ys i blank).0 = λ i lt. get_or-map (λ (r : List ℕ × Entry). r.0) ys i blank [] lt in
    rising (get_or (keys_of ys) k []) (get_or (keys_of ys) (k + 1) [])
    (ap (λ y. is_lt (mac_cmp y (get_or (keys_of ys) k []))) (key (k + 1) next) ∙ ap (λ x. is_lt (mac_cmp (get_or ys (k + 1) blank).0 x)) (key k (omega (arith, next))) ∙ up k blank (omega arith) next)
    (apart_from_distinct ties (keys_of ys) k (k + 1) [] d (omega arith) within))

lower : (x : List ℕ) (rs : Rows) → AllByRecursion (λ y. mac_cmp x y ≡ Less) (keys_of rs) → T (below_all mac_cmp x rs)
lower x [] h = tt
lower x (r ∷ rs) h = subst (λ (o : Ordering). T (is_lt o && below_all mac_cmp x rs)) (sym h.0) (lower x rs h.1)

both : (a b : Bool) → T a → T b → T (a && b)
both true b x y = y
both false b x y = x

in_order : (rs : Rows) → IsStrictlySortedBy mac_cmp (keys_of rs) → T (is_sorted mac_cmp rs)
in_order [] h = tt
in_order (r ∷ rs) h = both (below_all mac_cmp r.0 rs) (is_sorted mac_cmp rs) (lower r.0 rs (sorted_head mac_cmp r.0 (keys_of rs) h)) (in_order rs (sorted_tail mac_cmp r.0 (keys_of rs) h))

pub ordered : (xs ys : Rows) → AreUnique xs → IsPermutation xs ys → IsSortedByKey (λ (r : List ℕ × Entry). r.0) mac_cmp ys → ys ≡ entries (from_entries {R = mac_cmp} xs)
ordered xs ys u perm up =
    let dx = distinct xs u in
    let dy : IsDistinct ties (keys_of ys) = IsDistinct-IsPermutation ties (λ x y. (eq_by_cmp_equiv mac_total).symm x y) (keys_of xs) (keys_of ys) (IsPermutation-map (λ (r : List ℕ × Entry). r.0) xs ys perm) dx in
    let h : T (is_sorted mac_cmp ys) = in_order ys (strictly ys dy up) in
    sym (entries-from_sorted mac_cmp ys h)
    ∙ ap entries (same_table (from_sorted ys) (from_entries xs) (λ q. get-from_sorted mac_cmp ys q h ∙ same_found xs ys q dx dy perm ∙ sym (get-from_entries mac_total xs q)))
