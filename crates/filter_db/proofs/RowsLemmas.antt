-- The table that a list of rows stands for.
use Rattle.std.proofs.Common.{◌≡◌, refl, sym, ap, ◌∙◌, subst, ℕ, zero, suc, ◌+◌, ◌<◌, ◌≤◌, Bool, true, false, cond, not, List, [], ◌∷◌, ◌++◌, length, filter, Option, Some, None, is_some, get_or, slice_set, position, nat_lt, slice_get, arith}
use Rattle.std.specs.Option.{option_map}
use Rattle.std.specs.List as list
use Rattle.std.specs.List.{position_or_len}
use Rattle.std.specs.Ordering.{eq_by_cmp}
use Rattle.std.specs.Cmp.{eq_by_cmp_equiv}
use Rattle.std.specs.FinMap.{find, insert, remove, len, from_entries, get-from_entries, get-remove, len-empty, from_entries_push}
use Rattle.std.proofs.lemmas.List.Folds.{find-set, find_past, find_at}
use Rattle.std.proofs.lemmas.List.Quantifiers.{position-Some}
use Rattle.std.proofs.lemmas.Option.{slice_get-get_or, slice_get_past}
use Rattle.std.proofs.lemmas.Bool.{false≢true, ltb-false}
use Rattle.filter_db.specs.declared.entry.Entry.{Entry}
use Rattle.filter_db.specs.Table.{mac_cmp, kept}
use Rattle.filter_db.specs.Rows.{Rows, AreUnique}
use Rattle.filter_db.specs.Ageing.{mac_total, mac_apart, same_table, get-kept, sifted}
use Rattle.filter_db.proofs.TableLemmas.{same_mac, get-set, len-set}

abbrev pub Row : Type 0
Row = List ℕ × Entry

-- a row is of this address
abbrev pub is_of : List ℕ → Row → Bool
is_of mac row = eq_by_cmp mac_cmp mac row.0

tied : (x y : List ℕ) → eq_by_cmp mac_cmp x y ≡ eq_by_cmp mac_cmp y x
tied x y = (eq_by_cmp_equiv mac_total).symm x y

none_first : (b : Bool) (e : Entry) (o : Option Entry) → cond b (Some e) o ≡ None → b ≡ false
none_first true e o h = cc
none_first false e o h = refl

none_behind : (b : Bool) (e : Entry) (o : Option Entry) → cond b (Some e) o ≡ None → o ≡ None
none_behind true e o h = cc
none_behind false e o h = h

skipped : (b : Bool) (e : Entry) (o : Option Entry) → b ≡ false → o ≡ None → cond b (Some e) o ≡ None
skipped true e o is none = absurd (false≢true (sym is))
skipped false e o is none = none

-- ---- fewer rows

found_in : (b : Bool) (r : Row) (rs : Rows) (q : List ℕ) → find mac_cmp q (cond b (r ∷ rs) rs) ≡ cond b (cond (eq_by_cmp mac_cmp q r.0) (Some r.1) (find mac_cmp q rs)) (find mac_cmp q rs)
found_in true r rs q = refl
found_in false r rs q = refl

either_way : {X : Type 0} (b : Bool) (x y : X) → x ≡ y → cond b x x ≡ y
either_way true x y h = h
either_way false x y h = h

-- an address without a row gets none
none-filter : (p : Row → Bool) (q : List ℕ) (rs : Rows) → find mac_cmp q rs ≡ None → find mac_cmp q (filter p rs) ≡ None
none-filter p q [] h = refl
none-filter p q (r ∷ rs) h =
    let rest = none-filter p q rs (none_behind (eq_by_cmp mac_cmp q r.0) r.1 _ h) in
    found_in (p r) r (filter p rs) q ∙ ap (λ b. cond (p r) (cond b (Some r.1) (find mac_cmp q (filter p rs))) (find mac_cmp q (filter p rs))) (none_first (eq_by_cmp mac_cmp q r.0) r.1 _ h) ∙ either_way (p r) _ _ rest

pub AreUnique-filter : (p : Row → Bool) (rs : Rows) → AreUnique rs → AreUnique (filter p rs)
AreUnique-filter p [] u = tt
AreUnique-filter p (r ∷ rs) u =
    elim (p r) as (λ b. AreUnique (cond b (r ∷ filter p rs) (filter p rs))) [
      | true ↦ (none-filter p r.0 rs u.0, AreUnique-filter p rs u.1)
      | false ↦ AreUnique-filter p rs u.1
    ]

pub length-filter : (p : Row → Bool) (rs : Rows) → length (filter p rs) ≤ length rs
length-filter p [] = omega arith
length-filter p (r ∷ rs) =
    elim (p r) as (λ b. length (cond b (r ∷ filter p rs) (filter p rs)) ≤ length (r ∷ rs)) [
      | true ↦ omega (arith, length-filter p rs)
      | false ↦ omega (arith, length-filter p rs)
    ]

-- the first row decides at its own address
at_own : (b : Bool) (e : Entry) (o : Option Entry) → o ≡ None → cond b (Some e) o ≡ cond b (Some e) None
at_own true e o h = refl
at_own false e o h = h

find-filter : (p : Entry → Bool) (q : List ℕ) (rs : Rows) → AreUnique rs → find mac_cmp q (filter (λ (r : Row). p r.1) rs) ≡ sifted p (find mac_cmp q rs)
find-filter p q [] u = refl
find-filter p q (r ∷ rs) u =
    let left : Rows = filter (λ (r : Row). p r.1) rs in
    let rest : find mac_cmp q left ≡ sifted p (find mac_cmp q rs) = find-filter p q rs u.1 in
    found_in (p r.1) r left q ∙
    (elim (eq_by_cmp mac_cmp q r.0) as (λ b. eq_by_cmp mac_cmp q r.0 ≡ b → cond (p r.1) (cond b (Some r.1) (find mac_cmp q left)) (find mac_cmp q left) ≡ sifted p (cond b (Some r.1) (find mac_cmp q rs))) [
      | true ↦ λ h.
          let none : find mac_cmp q rs ≡ None = subst (λ (k : List ℕ). find mac_cmp k rs ≡ None) (sym (same_mac q r.0 h)) u.0 in
          at_own (p r.1) r.1 _ (rest ∙ ap (sifted p) none)
      | false ↦ λ h. either_way (p r.1) _ _ rest
    ] refl)

-- rows that are kept by their entries
pub from_entries-filter : (p : Entry → Bool) (rs : Rows) → AreUnique rs → from_entries {R = mac_cmp} (filter (λ (r : Row). p r.1) rs) ≡ kept p (from_entries rs)
from_entries-filter p rs u = same_table _ _ (λ q.
    get-from_entries mac_total (filter (λ (r : Row). p r.1) rs) q
    ∙ find-filter p q rs u
    ∙ ap (sifted p) (sym (get-from_entries mac_total rs q))
    ∙ sym (get-kept p (from_entries rs) q))

-- ---- the rows of all other addresses

not_both : (own gone away : Bool) (e : Entry) (x : Option Entry) → (own ≡ true → gone ≡ away) → cond (not gone) (cond own (Some e) (cond away None x)) (cond away None x) ≡ cond away None (cond own (Some e) x)
not_both true gone away e x same = by gone away (same refl)
  where
    by : (g a : Bool) → g ≡ a → cond (not g) (Some e) (cond a None x) ≡ cond a None (Some e)
    by true true h = refl
    by true false h = absurd (false≢true (sym h))
    by false true h = absurd (false≢true h)
    by false false h = refl
not_both false gone away e x same = either_way (not gone) _ _ refl

find-without : (mac q : List ℕ) (rs : Rows) → find mac_cmp q (filter (λ (r : Row). not (is_of mac r)) rs) ≡ cond (eq_by_cmp mac_cmp q mac) None (find mac_cmp q rs)
find-without mac q [] = sym (either_way (eq_by_cmp mac_cmp q mac) None None refl)
find-without mac q (r ∷ rs) =
    found_in (not (is_of mac r)) r (filter (λ (s : Row). not (is_of mac s)) rs) q
    ∙ ap (λ o. cond (not (is_of mac r)) (cond (eq_by_cmp mac_cmp q r.0) (Some r.1) o) o) (find-without mac q rs)
    ∙ not_both (eq_by_cmp mac_cmp q r.0) (is_of mac r) (eq_by_cmp mac_cmp q mac) r.1 (find mac_cmp q rs) (λ h. tied mac r.0 ∙ ap (λ (k : List ℕ). eq_by_cmp mac_cmp k mac) (sym (same_mac q r.0 h)))

-- rows without those of an address
pub from_entries-without : (mac : List ℕ) (rs : Rows) → from_entries {R = mac_cmp} (filter (λ (r : Row). not (is_of mac r)) rs) ≡ remove (from_entries rs) mac
from_entries-without mac rs = same_table _ _ (λ q.
    get-from_entries mac_total (filter (λ (r : Row). not (is_of mac r)) rs) q
    ∙ find-without mac q rs
    ∙ ap (cond (eq_by_cmp mac_cmp q mac) None) (sym (get-from_entries mac_total rs q))
    ∙ sym (get-remove mac_total (from_entries rs) mac q))

-- ---- the row of an address

find-list : (mac : List ℕ) (rs : Rows) → find mac_cmp mac rs ≡ option_map (λ (r : Row). r.1) (list.find (is_of mac) rs)
find-list mac [] = refl
find-list mac (r ∷ rs) =
    elim (is_of mac r) as (λ b. cond b (Some r.1) (find mac_cmp mac rs) ≡ option_map (λ (x : Row). x.1) (cond b (Some r) (list.find (is_of mac) rs))) [
      | true ↦ refl
      | false ↦ find-list mac rs
    ]

picked : (b : Bool) (n i : ℕ) → cond b (Some n) None ≡ Some i → i ≡ n
picked true n i e = cc
picked false n i e = cc

not_picked : (b : Bool) (n : ℕ) → cond b (Some n) None ≡ None → b ≡ false
not_picked true n e = cc
not_picked false n e = refl

-- what `position` finds is the first row of the address
first_of : (mac : List ℕ) (rs : Rows) (i : ℕ) → position (is_of mac) rs ≡ Some i → i ≡ position_or_len (is_of mac) rs
first_of mac rs i e = picked (nat_lt (position_or_len (is_of mac) rs) (length rs)) (position_or_len (is_of mac) rs) i e

pub within : (mac : List ℕ) (rs : Rows) (i : ℕ) (d : Row) → position (is_of mac) rs ≡ Some i → i < length rs
within mac rs i d e = (position-Some (is_of mac) rs i d e).0

own_address : (mac : List ℕ) (rs : Rows) (i : ℕ) (d : Row) → position (is_of mac) rs ≡ Some i → (get_or rs i d).0 ≡ mac
own_address mac rs i d e = sym (same_mac mac (get_or rs i d).0 ((position-Some (is_of mac) rs i d e).1))

pub find-Some : (mac : List ℕ) (rs : Rows) (i : ℕ) (d : Row) → position (is_of mac) rs ≡ Some i → find mac_cmp mac rs ≡ Some (get_or rs i d).1
find-Some mac rs i d e =
    find-list mac rs ∙ ap (option_map (λ (r : Row). r.1))
    (find_at (is_of mac) rs ∙ ap (slice_get rs) (sym (first_of mac rs i e)) ∙ slice_get-get_or rs i d (within mac rs i d e))

pub find-None : (mac : List ℕ) (rs : Rows) → position (is_of mac) rs ≡ None → find mac_cmp mac rs ≡ None
find-None mac rs e =
    let n = position_or_len (is_of mac) rs in
    let past : length rs ≤ n = ltb-false n (length rs) (not_picked (nat_lt n (length rs)) n e) in
    find-list mac rs ∙ ap (option_map (λ (r : Row). r.1)) (find_at (is_of mac) rs ∙ slice_get_past rs n past)

-- ---- the row of an address is set

find-set_row : (mac : List ℕ) (e : Entry) (rs : Rows) (i : ℕ) (q : List ℕ) → position (is_of mac) rs ≡ Some i → find mac_cmp q (slice_set rs i (mac, e)) ≡ cond (eq_by_cmp mac_cmp q mac) (Some e) (find mac_cmp q rs)
find-set_row mac e rs i q found =
    elim (eq_by_cmp mac_cmp q mac) as (λ b. eq_by_cmp mac_cmp q mac ≡ b → find mac_cmp q (slice_set rs i (mac, e)) ≡ cond b (Some e) (find mac_cmp q rs)) [
      | true ↦ λ h.
          ap (λ (k : List ℕ). find mac_cmp k (slice_set rs i (mac, e))) (same_mac q mac h)
          ∙ find-list mac (slice_set rs i (mac, e))
          ∙ ap (option_map (λ (r : Row). r.1)) (find-set (is_of mac) rs i (mac, e) (first_of mac rs i found) (within mac rs i (mac, e) found) ((eq_by_cmp_equiv mac_total).refl mac))
      | false ↦ λ h.
          find-list q (slice_set rs i (mac, e))
          ∙ ap (option_map (λ (r : Row). r.1)) (find_past (is_of q) rs i (mac, e) (mac, e) (ap (λ (k : List ℕ). eq_by_cmp mac_cmp q k) (own_address mac rs i (mac, e) found) ∙ h) h)
          ∙ sym (find-list q rs)
    ] refl

pub from_entries-set : (mac : List ℕ) (e : Entry) (rs : Rows) (i : ℕ) → position (is_of mac) rs ≡ Some i → from_entries {R = mac_cmp} (slice_set rs i (mac, e)) ≡ insert (from_entries rs) mac e
from_entries-set mac e rs i found = same_table _ _ (λ q.
    get-from_entries mac_total (slice_set rs i (mac, e)) q
    ∙ find-set_row mac e rs i q found
    ∙ ap (cond (eq_by_cmp mac_cmp q mac) (Some e)) (sym (get-from_entries mac_total rs q))
    ∙ sym (get-set (from_entries rs) mac e q))

-- an address without a row gets none
none-set : (q mac : List ℕ) (e : Entry) (rs : Rows) (i : ℕ) (d : Row) → find mac_cmp q rs ≡ None → i < length rs → (get_or rs i d).0 ≡ mac → find mac_cmp q (slice_set rs i (mac, e)) ≡ None
none-set q mac e [] i d none in_range own = none
none-set q mac e (r ∷ rs) zero d none in_range own =
    skipped (eq_by_cmp mac_cmp q mac) e _ (ap (λ (k : List ℕ). eq_by_cmp mac_cmp q k) (sym own) ∙ none_first (eq_by_cmp mac_cmp q r.0) r.1 _ none) (none_behind (eq_by_cmp mac_cmp q r.0) r.1 _ none)
none-set q mac e (r ∷ rs) (suc i) d none in_range own =
    skipped (eq_by_cmp mac_cmp q r.0) r.1 _ (none_first (eq_by_cmp mac_cmp q r.0) r.1 _ none) (none-set q mac e rs i d (none_behind (eq_by_cmp mac_cmp q r.0) r.1 _ none) (omega arith) own)

AreUnique-set_at : (mac : List ℕ) (e : Entry) (rs : Rows) (i : ℕ) (d : Row) → AreUnique rs → i < length rs → (get_or rs i d).0 ≡ mac → AreUnique (slice_set rs i (mac, e))
AreUnique-set_at mac e [] i d u in_range own = u
AreUnique-set_at mac e (r ∷ rs) zero d u in_range own = (subst (λ (k : List ℕ). find mac_cmp k rs ≡ None) own u.0, u.1)
AreUnique-set_at mac e (r ∷ rs) (suc i) d u in_range own =
    (none-set r.0 mac e rs i d u.0 (omega arith) own, AreUnique-set_at mac e rs i d u.1 (omega arith) own)

pub AreUnique-set : (mac : List ℕ) (e : Entry) (rs : Rows) (i : ℕ) → position (is_of mac) rs ≡ Some i → AreUnique rs → AreUnique (slice_set rs i (mac, e))
AreUnique-set mac e rs i found u = AreUnique-set_at mac e rs i (mac, e) u (within mac rs i (mac, e) found) (own_address mac rs i (mac, e) found)

-- ---- a row behind the others

none-push : (q : List ℕ) (r : Row) (rs : Rows) → find mac_cmp q rs ≡ None → eq_by_cmp mac_cmp q r.0 ≡ false → find mac_cmp q (rs ++ r ∷ []) ≡ None
none-push q r [] none other = ap (λ b. cond b (Some r.1) None) other
none-push q r (s ∷ rs) none other =
    skipped (eq_by_cmp mac_cmp q s.0) s.1 _ (none_first (eq_by_cmp mac_cmp q s.0) s.1 _ none) (none-push q r rs (none_behind (eq_by_cmp mac_cmp q s.0) s.1 _ none) other)

pub AreUnique-push : (r : Row) (rs : Rows) → AreUnique rs → find mac_cmp r.0 rs ≡ None → AreUnique (rs ++ r ∷ [])
AreUnique-push r [] u new = (refl, tt)
AreUnique-push r (s ∷ rs) u new =
    let other : eq_by_cmp mac_cmp r.0 s.0 ≡ false = none_first (eq_by_cmp mac_cmp r.0 s.0) s.1 _ new in
    (none-push s.0 r rs u.0 (tied s.0 r.0 ∙ other), AreUnique-push r rs u.1 (none_behind (eq_by_cmp mac_cmp r.0 s.0) s.1 _ new))

pub from_entries-push : (mac : List ℕ) (e : Entry) (rs : Rows) → find mac_cmp mac rs ≡ None → from_entries {R = mac_cmp} (rs ++ (mac, e) ∷ []) ≡ insert (from_entries rs) mac e
from_entries-push mac e rs new = from_entries_push mac_total mac_apart rs mac e new

-- ---- as many rows as addresses

pub len-from_entries : (rs : Rows) → AreUnique rs → len (from_entries {R = mac_cmp} rs) ≡ length rs
len-from_entries [] u = len-empty mac_cmp Entry
len-from_entries (r ∷ rs) u =
    len-set (from_entries rs) r.0 r.1
    ∙ ap (λ o. cond (is_some o) (len (from_entries {R = mac_cmp} rs)) (len (from_entries {R = mac_cmp} rs) + 1)) (get-from_entries mac_total rs r.0 ∙ u.0)
    ∙ ap (λ n. n + 1) (len-from_entries rs u.1) ∙ omega arith
