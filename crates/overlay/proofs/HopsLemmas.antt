-- The exceptions from the next hop as entries of a finite map.
use Rattle.std.proofs.Common.{◌≡◌, ℕ, zero, suc, ◌<◌, ◌≤◌, List, [], ◌∷◌, map, length, get_or, None, Some, Result, Ok, Err, refl, sym, ap, ◌∙◌, subst, arith}
use Rattle.std.specs.Prelude.{T, MatchResult}
use Rattle.std.specs.List.{insert as insert_at, AllWithin}
use Rattle.std.specs.List.Sorted.{IsSearchInRange, IsBinarySearchResult, IsNonDecreasingBy}
use Rattle.std.specs.declared.cmp.Ordering.{Ordering}
use Rattle.std.specs.declared.cmp.Ordering.TheVariants.{Less, Greater}
use Rattle.std.specs.Ordering.{nat_cmp, ordering_index}
use Rattle.std.specs.Cmp.Lexicographic.{slice_cmp, nat_list_cmp_total}
use Rattle.std.specs.FinMap.{FinMap, is_sorted, from_sorted, entries, get, insert, len, len-entries, get-empty}
use Rattle.std.proofs.lemmas.List.{get_or-map, length-map, nil_from_length}
use Rattle.wire.specs.declared.ip_udp.addr.Addr.TheVariants.{V4}
use Rattle.overlay.specs.declared.underlay.hops.Hop.{Hop}
use Rattle.overlay.specs.Exceptions.{exception}
use Rattle.overlay.specs.Search.{IsAt, IsGapFor}
use Rattle.overlay.proofs.SearchLemmas.{searched, entries_shown, get_at, put_shown, from_sorted-none}

abbrev Octets : Type 0
Octets = List ℕ

abbrev Shown : Type 0
Shown = FinMap (slice_cmp nat_cmp) Octets

no_hop : Hop
no_hop = record { addr = V4 []; mac = [] }

abbrev pub by : Octets → Hop → Ordering
by k h = slice_cmp nat_cmp (exception h).0 k

map-insert : (hops : List Hop) (at : ℕ) (h : Hop) → map exception (insert_at hops at h) ≡ insert_at (map exception hops) at (exception h)
map-insert hops zero h = refl
map-insert [] (suc at) h = refl
map-insert (g ∷ hops) (suc at) h = ap (λ (l : List (Octets × Octets)). exception g ∷ l) (map-insert hops at h)

module _ (hops : List Hop) (m : Shown) (sorted : T (is_sorted (slice_cmp nat_cmp) (map exception hops))) (shown : from_sorted (map exception hops) ≡ m) where
  pub entries_are : entries m ≡ map exception hops
  entries_are = entries_shown nat_list_cmp_total (map exception hops) m sorted shown

  pub length_is : len m ≡ length hops
  length_is = len-entries m ∙ ap length entries_are ∙ length-map hops exception

  pub within : (at : ℕ) → at < length (entries m) → at < length hops
  within at lt = omega (arith, lt, ap length entries_are, length-map hops exception)

  pub up_to : (at : ℕ) → at ≤ length (entries m) → at ≤ length hops
  up_to at le = omega (arith, le, ap length entries_are, length-map hops exception)

  -- what a search by the octets finds
  pub hop_searched : (k : Octets) (r : Result ℕ ℕ) → IsSearchInRange r (length hops) → IsBinarySearchResult (by k) hops r → MatchResult r (IsAt m k) (IsGapFor m k)
  hop_searched k r bound position = searched nat_list_cmp_total (map exception hops) m k r sorted shown (bound_of r bound) (position_of r bound position)
    where
      rising_of : IsNonDecreasingBy (λ (e : Octets × Octets). ordering_index (slice_cmp nat_cmp e.0 k)) (map exception hops) → IsNonDecreasingBy (λ h. ordering_index (by k h)) hops
      rising_of rising i j d le lt =
          let first : get_or (map exception hops) i (exception d) ≡ exception (get_or hops i d) = get_or-map exception hops i d (exception d) (omega arith) in
          let second : get_or (map exception hops) j (exception d) ≡ exception (get_or hops j d) = get_or-map exception hops j d (exception d) lt in
          subst (λ (e : Octets × Octets). ordering_index (slice_cmp nat_cmp e.0 k) ≤ ordering_index (by k (get_or hops j d))) first
          (subst (λ (e : Octets × Octets). ordering_index (slice_cmp nat_cmp (get_or (map exception hops) i (exception d)).0 k) ≤ ordering_index (slice_cmp nat_cmp e.0 k)) second
          (rising i j (exception d) le (omega (arith, length-map hops exception))))

      bound_of : (r : Result ℕ ℕ) → IsSearchInRange r (length hops) → IsSearchInRange r (length (map exception hops))
      bound_of (Ok at) bound = omega (arith, length-map hops exception)
      bound_of (Err at) bound = omega (arith, length-map hops exception)

      position_of : (r : Result ℕ ℕ) → IsSearchInRange r (length hops) → IsBinarySearchResult (by k) hops r → IsBinarySearchResult (λ (e : Octets × Octets). slice_cmp nat_cmp e.0 k) (map exception hops) r
      position_of (Ok at) bound position = λ d. ap (λ (e : Octets × Octets). slice_cmp nat_cmp e.0 k) (get_or-map exception hops at no_hop d bound) ∙ position no_hop
      position_of (Err at) bound position = λ rising.
          let parted : AllWithin (λ h. by k h ≡ Less) hops 0 at × AllWithin (λ h. by k h ≡ Greater) hops at (length hops) = position (λ i j d le lt. rising_of rising i j d le lt) in (
            λ i d low lt. ap (λ (e : Octets × Octets). slice_cmp nat_cmp e.0 k) (get_or-map exception hops i no_hop d (omega arith)) ∙ parted.0 i no_hop low lt,
            λ i d le lt. ap (λ (e : Octets × Octets). slice_cmp nat_cmp e.0 k) (get_or-map exception hops i no_hop d (omega (arith, length-map hops exception))) ∙ parted.1 i no_hop le (omega (arith, length-map hops exception)),
          )

  -- what is found at a place
  pub hop_at : (k : Octets) (at : ℕ) (h : Hop) → IsAt m k at → h ≡ get_or hops at h → get m k ≡ Some h.mac
  hop_at k at h there read =
      get_at nat_list_cmp_total m k at (exception h) there
      ∙ ap (λ (l : List (Octets × Octets)). Some (get_or l at (exception h)).1) entries_are
      ∙ ap (λ (e : Octets × Octets). Some e.1) (get_or-map exception hops at h (exception h) (within at there.0))
      ∙ ap (λ (g : Hop). Some g.mac) (sym read)

  -- what is found among none
  pub none_of : length hops ≡ 0 → (k : Octets) → get m k ≡ None
  none_of none k =
      ap (λ (n : Shown). get n k) (sym shown ∙ ap (λ (l : List Hop). from_sorted (map exception l)) (nil_from_length hops none) ∙ from_sorted-none nat_list_cmp_total)
      ∙ get-empty (slice_cmp nat_cmp) k

  -- what is shown with one more
  pub hop_put : (new : List Hop) (at : ℕ) (h : Hop) → IsGapFor m (exception h).0 at → new ≡ insert_at hops at h → (T (is_sorted (slice_cmp nat_cmp) (map exception new))) × (from_sorted (map exception new) ≡ insert m (exception h).0 h.mac)
  hop_put new at h gap is = put_shown nat_list_cmp_total (map exception hops) (map exception new) m (exception h).0 h.mac at sorted shown gap (ap (map exception) is ∙ map-insert hops at h)
