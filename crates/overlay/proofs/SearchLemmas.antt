-- What is at a place of a finite map, and what is left when an entry is put there or taken from there.
use Rattle.std.proofs.Common.{◌≡◌, ℕ, zero, suc, ◌<◌, ◌≤◌, Bool, true, false, cond, not, ◌&&◌, T, List, [], ◌∷◌, length, get_or, Option, None, Some, Result, Ok, Err, refl, sym, ap, ◌∙◌, subst, arith, add-one}
use Rattle.std.specs.Prelude.{MatchResult}
use Rattle.std.specs.Result.{result_ok}
use Rattle.std.proofs.lemmas.Option.{none-some, same_Some}
use Rattle.std.specs.List.{insert as insert_at, remove as remove_at, HoldsAt, AllWithin}
use Rattle.std.specs.List.Sorted.{IsSearchInRange, IsBinarySearchResult, IsNonDecreasingBy}
use Rattle.std.proofs.lemmas.List.Sorted.{searchable_from_sorted}
use Rattle.std.specs.Ordering.{is_lt, is_eq, eq_by_cmp, ordering_reverse, ordering_index}
use Rattle.std.specs.declared.cmp.Ordering.{Ordering}
use Rattle.std.specs.declared.cmp.Ordering.TheVariants.{Less, Equal, Greater}
use Rattle.std.specs.Cmp.{IsTotalOrder}
use Rattle.std.proofs.lemmas.Cmp.{tied_back, alike_right, eq_by_cmp_equiv}
use Rattle.std.specs.FinMap.{FinMap, empty, empty_of_len, len-entries, same_map, get_tied, find, put, is_sorted, entries, entries_sorted, from_sorted, get, insert, remove, IsAntisymmetric, get-entries, get-remove, entries-insert, entries-from_sorted, same_entries_map}
use Rattle.std.specs.FinMap.Entries.{where_key, below_all, by_order, find-where_key, is_sorted-where_key, same_entries}
use Rattle.overlay.specs.Search.{IsAt, IsGapFor}

-- what is known of the place where a search found, and of the gap where it did not
pub found_place : {K V : Type 0} {R : K → K → Ordering} (m : FinMap R V) (k : K) (r : Result ℕ ℕ) (i : ℕ) → MatchResult r (IsAt m k) (IsGapFor m k) → Some i ≡ result_ok r → IsAt m k i
found_place m k (Ok j) i at is = subst (IsAt m k) (sym (same_Some i j is)) at
found_place m k (Err j) i gap is = absurd (none-some i (sym is))

pub gap_place : {K V : Type 0} {R : K → K → Ordering} (m : FinMap R V) (k : K) (r : Result ℕ ℕ) → MatchResult r (IsAt m k) (IsGapFor m k) → None ≡ result_ok r → (i : ℕ) × IsGapFor m k i
gap_place m k (Ok j) at is = absurd (none-some j is)
gap_place m k (Err j) gap is = (j, gap)

pub first_part : (a b : Bool) → T (a && b) → T a
first_part true b h = tt
first_part false b h = h

pub second_part : (a b : Bool) → T (a && b) → T b
second_part true b h = h
second_part false b h = absurd h

pub is_less : (r : Ordering) → T (is_lt r) → r ≡ Less
is_less Less h = refl
is_less Equal h = absurd h
is_less Greater h = absurd h

pub is_equal : (r : Ordering) → T (is_eq r) → r ≡ Equal
is_equal Less h = absurd h
is_equal Equal h = refl
is_equal Greater h = absurd h

turned : {A : Type 0} (b : Bool) (x y : A) → cond b y x ≡ cond (not b) x y
turned true x y = refl
turned false x y = refl

module _ {K : Type 0} {R : K → K → Ordering} (o : IsTotalOrder R) where
  pub greater_back : (x y : K) → R x y ≡ Less → R y x ≡ Greater
  greater_back x y less = o.antisymm y x ∙ ap ordering_reverse less

  pub less_back : (x y : K) → R x y ≡ Greater → R y x ≡ Less
  less_back x y greater = o.antisymm y x ∙ ap ordering_reverse greater

-- ---- lists of entries

module _ {K X : Type 0} {R : K → K → Ordering} (o : IsTotalOrder R) where
  below_at : (x : K) (es : List (K × X)) (i : ℕ) (d : K × X) → i < length es → T (below_all R x es) → R x (get_or es i d).0 ≡ Less
  below_at x [] i d lt below = absurd (omega arith)
  below_at x (e ∷ es) zero d lt below = is_less _ (first_part _ _ below)
  below_at x (e ∷ es) (suc i) d lt below = below_at x es i d (omega arith) (second_part _ _ below)

  -- an entry before one that ties with a key is below the key
  before_it : (e : K × X) (es : List (K × X)) (k : K) (at : ℕ) (d : K × X) → T (is_sorted R (e ∷ es)) → at < length es → R (get_or es at d).0 k ≡ Equal → R k e.0 ≡ Greater
  before_it e es k at d sorted lt equal = greater_back o e.0 k (sym (alike_right o (get_or es at d).0 k e.0 equal) ∙ below_at e.0 es at d lt (first_part _ _ sorted))

  pub find_found : (es : List (K × X)) (k : K) (at : ℕ) (d : K × X) → T (is_sorted R es) → at < length es → ((d : K × X) → R (get_or es at d).0 k ≡ Equal) → find R k es ≡ Some (get_or es at d).1
  find_found [] k at d sorted lt equal = absurd (omega arith)
  find_found (e ∷ es) k zero d sorted lt equal = ap (λ r. cond (is_eq r) (Some e.1) (find R k es)) (tied_back o e.0 k (equal e))
  find_found (e ∷ es) k (suc at) d sorted lt equal =
      ap (λ r. cond (is_eq r) (Some e.1) (find R k es)) (before_it e es k at d sorted (omega arith) (equal d))
      ∙ find_found es k at d (second_part _ _ sorted) (omega arith) equal

  -- all entries stay that are above one that ties with a key
  pub kept_above : (k x : K) (es : List (K × X)) → R x k ≡ Equal → T (below_all R x es) → where_key R (λ y. not (eq_by_cmp R k y)) es ≡ es
  kept_above k x [] tied below = refl
  kept_above k x (e ∷ es) tied below =
      let rest = where_key R (λ y. not (eq_by_cmp R k y)) es in
      ap (λ r. cond (not (is_eq r)) (e ∷ rest) rest) (sym (o.congr x k e.0 tied) ∙ is_less _ (first_part _ _ below))
      ∙ ap (λ (l : List (K × X)). e ∷ l) (kept_above k x es tied (second_part _ _ below))

  pub where_key_found : (es : List (K × X)) (k : K) (at : ℕ) → T (is_sorted R es) → at < length es → ((d : K × X) → R (get_or es at d).0 k ≡ Equal) → where_key R (λ y. not (eq_by_cmp R k y)) es ≡ remove_at es at
  where_key_found [] k at sorted lt equal = absurd (omega arith)
  where_key_found (e ∷ es) k zero sorted lt equal =
      let rest = where_key R (λ y. not (eq_by_cmp R k y)) es in
      ap (λ r. cond (not (is_eq r)) (e ∷ rest) rest) (tied_back o e.0 k (equal e)) ∙ kept_above k e.0 es (equal e) (first_part _ _ sorted)
  where_key_found (e ∷ es) k (suc at) sorted lt equal =
      let rest = where_key R (λ y. not (eq_by_cmp R k y)) es in
      ap (λ r. cond (not (is_eq r)) (e ∷ rest) rest) (before_it e es k at e sorted (omega arith) (equal e))
      ∙ ap (λ (l : List (K × X)). e ∷ l) (where_key_found es k at (second_part _ _ sorted) (omega arith) equal)

  pub find_gap : (es : List (K × X)) (k : K) (at : ℕ) → ((i : ℕ) (d : K × X) → i < at → R (get_or es i d).0 k ≡ Less) → ((i : ℕ) (d : K × X) → at ≤ i → i < length es → R (get_or es i d).0 k ≡ Greater) → find R k es ≡ None
  find_gap [] k at below above = refl
  find_gap (e ∷ es) k zero below above =
      ap (λ r. cond (is_eq r) (Some e.1) (find R k es)) (less_back o e.0 k (above 0 e (omega arith) (omega arith)))
      ∙ find_gap es k zero (λ i d lt. absurd (omega arith)) (λ i d le lt. above (suc i) d (omega arith) (omega arith))
  find_gap (e ∷ es) k (suc at) below above =
      ap (λ r. cond (is_eq r) (Some e.1) (find R k es)) (greater_back o e.0 k (below 0 e (omega arith)))
      ∙ find_gap es k at (λ i d lt. below (suc i) d (omega arith)) (λ i d le lt. above (suc i) d (omega arith) (omega arith))

  pub put_gap : (es : List (K × X)) (k : K) (v : X) (at : ℕ) → at ≤ length es → ((i : ℕ) (d : K × X) → i < at → R (get_or es i d).0 k ≡ Less) → ((i : ℕ) (d : K × X) → at ≤ i → i < length es → R (get_or es i d).0 k ≡ Greater) → put R k v es ≡ insert_at es at (k, v)
  put_gap [] k v zero le below above = refl
  put_gap [] k v (suc at) le below above = absurd (omega arith)
  put_gap (e ∷ es) k v zero le below above = ap (λ r. by_order r ((k, v) ∷ e ∷ es) ((e.0, v) ∷ es) (e ∷ put R k v es)) (less_back o e.0 k (above 0 e (omega arith) (omega arith)))
  put_gap (e ∷ es) k v (suc at) le below above =
      ap (λ r. by_order r ((k, v) ∷ e ∷ es) ((e.0, v) ∷ es) (e ∷ put R k v es)) (greater_back o e.0 k (below 0 e (omega arith)))
      ∙ ap (λ (l : List (K × X)). e ∷ l) (put_gap es k v at (omega arith) (λ i d lt. below (suc i) d (omega arith)) (λ i d le' lt. above (suc i) d (omega arith) (omega arith)))

  -- ---- maps

  pub entries-remove : IsAntisymmetric R → (m : FinMap R X) (k : K) → entries (remove m k) ≡ where_key R (λ y. not (eq_by_cmp R k y)) (entries m)
  entries-remove same m k =
      same_entries R o same (entries (remove m k)) (where_key R (λ y. not (eq_by_cmp R k y)) (entries m)) (entries_sorted (remove m k)) (is_sorted-where_key R (λ y. not (eq_by_cmp R k y)) (entries m) (entries_sorted m)) alike
    where
      alike : (q : K) → find R q (entries (remove m k)) ≡ find R q (where_key R (λ y. not (eq_by_cmp R k y)) (entries m))
      alike q =
          sym (get-entries (remove m k) q) ∙ get-remove o m k q
          ∙ ap (λ (b : Bool). cond b None (get m q)) ((eq_by_cmp_equiv o).symm q k)
          ∙ ap (λ (x : Option X). cond (eq_by_cmp R k q) None x) (get-entries m q)
          ∙ turned (eq_by_cmp R k q) (find R q (entries m)) None
          ∙ sym (find-where_key R (λ y. not (eq_by_cmp R k y)) q (λ x tied. ap (λ r. not (is_eq r)) (sym (alike_right o q x k tied))) (entries m))

  pub get_at : (m : FinMap R X) (k : K) (at : ℕ) (d : K × X) → IsAt m k at → get m k ≡ Some (get_or (entries m) at d).1
  get_at m k at d h = get-entries m k ∙ find_found (entries m) k at d (entries_sorted m) h.0 h.1

  pub get_in_gap : (m : FinMap R X) (k : K) (at : ℕ) → IsGapFor m k at → get m k ≡ None
  get_in_gap m k at h = get-entries m k ∙ find_gap (entries m) k at (λ i d lt. h.1 i d (omega arith) lt) h.2

  pub entries_put : (m : FinMap R X) (k : K) (v : X) (at : ℕ) → IsGapFor m k at → entries (insert m k v) ≡ insert_at (entries m) at (k, v)
  entries_put m k v at h = entries-insert o m k v ∙ put_gap (entries m) k v at h.0 (λ i d lt. h.1 i d (omega arith) lt) h.2

  pub entries_taken : IsAntisymmetric R → (m : FinMap R X) (k : K) (at : ℕ) → IsAt m k at → entries (remove m k) ≡ remove_at (entries m) at
  entries_taken same m k at h = entries-remove same m k ∙ where_key_found (entries m) k at (entries_sorted m) h.0 h.1

  -- the entries of a map that is shown so
  pub entries_shown : (es : List (K × X)) (m : FinMap R X) → T (is_sorted R es) → from_sorted es ≡ m → entries m ≡ es
  entries_shown es m sorted shown = ap entries (sym shown) ∙ entries-from_sorted R es sorted

  rises : (es : List (K × X)) (i : ℕ) (d : K × X) → T (is_sorted R es) → suc i < length es → R (get_or es i d).0 (get_or es (suc i) d).0 ≡ Less
  rises [] i d sorted lt = absurd (omega arith)
  rises (e ∷ es) zero d sorted lt = below_at e.0 es 0 d (omega arith) (first_part _ _ sorted)
  rises (e ∷ es) (suc i) d sorted lt = rises es i d (second_part _ _ sorted) (omega arith)

  -- what a search by key finds
  pub searched : (es : List (K × X)) (m : FinMap R X) (k : K) (r : Result ℕ ℕ) → T (is_sorted R es) → from_sorted es ≡ m → IsSearchInRange r (length es) → IsBinarySearchResult (λ (e : K × X). R e.0 k) es r → MatchResult r (IsAt m k) (IsGapFor m k)
  searched es m k r sorted shown bound position =
      subst (λ (l : List (K × X)). MatchResult r (λ at. (at < length l) × HoldsAt (λ e. R e.0 k ≡ Equal) l at) (λ at. (at ≤ length l) × AllWithin (λ e. R e.0 k ≡ Less) l 0 at × AllWithin (λ e. R e.0 k ≡ Greater) l at (length l)))
      (sym (entries_shown es m sorted shown)) (at_list r bound position)
    where
      rising : IsNonDecreasingBy (λ (e : K × X). ordering_index (R e.0 k)) es
      rising = searchable_from_sorted o (λ (e : K × X). e.0) es k (λ i d low lt. rw add-one (ap is_lt (greater_back o _ _ (rises es i d sorted (omega arith)))))

      at_list : (r : Result ℕ ℕ) → IsSearchInRange r (length es) → IsBinarySearchResult (λ (e : K × X). R e.0 k) es r → MatchResult r (λ at. (at < length es) × HoldsAt (λ e. R e.0 k ≡ Equal) es at) (λ at. (at ≤ length es) × AllWithin (λ e. R e.0 k ≡ Less) es 0 at × AllWithin (λ e. R e.0 k ≡ Greater) es at (length es))
      at_list (Ok at) bound position = (bound, position)
      at_list (Err at) bound position = let parted = position rising in (bound, parted.0, parted.1)

  pub from_sorted-entries : (m : FinMap R X) → from_sorted (entries m) ≡ m
  from_sorted-entries m = same_entries_map _ _ (entries-from_sorted R (entries m) (entries_sorted m))

  -- the map that no entries show
  pub from_sorted-none : ◌≡◌ {A = FinMap R X} (from_sorted []) empty
  from_sorted-none = empty_of_len (from_sorted []) (len-entries (from_sorted []) ∙ ap length (entries-from_sorted {X = X} R [] tt))

  -- what an entry that is put into its gap shows
  pub put_shown : (es new : List (K × X)) (m : FinMap R X) (k : K) (v : X) (at : ℕ) → T (is_sorted R es) → from_sorted es ≡ m → IsGapFor m k at → new ≡ insert_at es at (k, v) → (T (is_sorted R new)) × (from_sorted new ≡ insert m k v)
  put_shown es new m k v at sorted shown gap is =
      let same : new ≡ entries (insert m k v) = is ∙ ap (λ (l : List (K × X)). insert_at l at (k, v)) (sym (entries_shown es m sorted shown)) ∙ sym (entries_put m k v at gap) in
      (subst (λ (l : List (K × X)). T (is_sorted R l)) (sym same) (entries_sorted (insert m k v)), ap from_sorted same ∙ from_sorted-entries (insert m k v))

  -- what is shown when an entry is taken from its place
  pub taken_shown : IsAntisymmetric R → (es new : List (K × X)) (m : FinMap R X) (k : K) (at : ℕ) → T (is_sorted R es) → from_sorted es ≡ m → IsAt m k at → new ≡ remove_at es at → (T (is_sorted R new)) × (from_sorted new ≡ remove m k)
  taken_shown same_keys es new m k at sorted shown there is =
      let same : new ≡ entries (remove m k) = is ∙ ap (λ (l : List (K × X)). remove_at l at) (sym (entries_shown es m sorted shown)) ∙ sym (entries_taken same_keys m k at there) in
      (subst (λ (l : List (K × X)). T (is_sorted R l)) (sym same) (entries_sorted (remove m k)), ap from_sorted same ∙ from_sorted-entries (remove m k))

  -- to remove what isn't there changes nothing
  pub remove_none : IsAntisymmetric R → (m : FinMap R X) (k : K) → get m k ≡ None → m ≡ remove m k
  remove_none same m k none = same_map o same m (remove m k) (λ q. alike q (eq_by_cmp R q k) refl)
    where
      alike : (q : K) (b : Bool) → eq_by_cmp R q k ≡ b → get m q ≡ get (remove m k) q
      alike q true tied = get_tied o m k q (tied_back o q k (is_equal _ (subst T (sym tied) tt))) ∙ none ∙ sym (get-remove o m k q ∙ ap (λ (b : Bool). cond b None (get m q)) tied)
      alike q false apart = sym (get-remove o m k q ∙ ap (λ (b : Bool). cond b None (get m q)) apart)
