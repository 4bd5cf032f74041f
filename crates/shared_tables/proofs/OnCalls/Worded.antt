-- Words of live entries: the rows that they stand for, and these in the order of the words.
use Rattle.std.proofs.Common.{◌≡◌, ℕ, zero, suc, ◌+◌, ◌*◌, ◌/◌, ◌%◌, ◌<◌, ◌≤◌, ◌&&◌, nat_eq, Bool, true, false, List, [], ◌∷◌, ◌++◌, length, map, take, get_or, IfSome, Option, Some, None, IsSome, if◌then◌else◌, refl, sym, ap, ◌∙◌, subst, arith, append-nil}
use Rattle.std.proofs.lemmas.List.{get_or-map, length-map}
use Rattle.std.proofs.lemmas.List.Elements.{All-nil, All-push, filter_map-append}
use Rattle.std.proofs.lemmas.List.Sorted.{All-permutation, IsPermutation-map}
use Rattle.std.proofs.lemmas.Map.Keys.{ge_from_not_lt}
use Rattle.std.specs.Cmp.Lexicographic.{slice_cmp}
use Rattle.std.specs.Cmp.{ranked}
use Rattle.std.specs.FinMap.{entries, from_entries}
use Rattle.std.specs.List.{cons_option}
use Rattle.std.specs.List.Sorted.{IsPermutation, IsSorted, IsSortedByKey}
use Rattle.std.specs.Option.{option_to_list, unwrap_or}
use Rattle.std.specs.Ordering.{MatchOrdering, is_lt, nat_cmp, ordering_then}
use Rattle.std.specs.Slice.Scan.{big_endian}
use Rattle.std.specs.declared.cmp.Ordering.{Ordering}
use Rattle.std.specs.declared.cmp.Ordering.TheVariants.{Less, Equal, Greater}
use Rattle.filter_db.specs.declared.entry.Entry.{Entry}
use Rattle.filter_db.specs.Place.{no_place}
use Rattle.filter_db.specs.Rows.{Rows, AreUnique}
use Rattle.filter_db.specs.Table.{is_live, mac_cmp}
use Rattle.wire.specs.Octets.{IsText}
use Rattle.shared_tables.specs.declared.slots.Kind.{Kind}
use Rattle.shared_tables.specs.declared.slots.Kind.TheVariants as kind
use Rattle.shared_tables.specs.declared.slots.Slot.{Slot}
use Rattle.shared_tables.specs.Listing.{live_row, number_of, word_of, row_of, held_rows, AreHeld, row_in, rows_in, AreWords, HasAddress, IsAddress, IsWord}
use Rattle.shared_tables.specs.Pool.{Held, entry_at}
use Rattle.shared_tables.specs.Segments.{entry_of}
use Rattle.shared_tables.specs.Slots.{entry_by, entry_in}
use Rattle.shared_tables.proofs.OnCalls.ListingLemmas.{ordered}
use Rattle.shared_tables.proofs.OnTrees.Keys.{address_in-key}

-- ---- addresses in order as their numbers

start_decides : (m n : ℕ) (xs ys : List ℕ) → length xs ≡ length ys → IsText xs → m < n → big_endian m xs < big_endian n ys
start_decides m n [] [] same text lt = lt
start_decides m n [] (y ∷ ys) same text lt = absurd (omega arith)
start_decides m n (x ∷ xs) [] same text lt = absurd (omega arith)
start_decides m n (x ∷ xs) (y ∷ ys) same text lt =
    let small : x < 256 = text 0 in
    start_decides (m * 256 + x) (n * 256 + y) xs ys (omega arith) (λ i. text (suc i)) (omega (arith, small, lt))

less_number : (n : ℕ) (xs ys : List ℕ) → length xs ≡ length ys → IsText xs → is_lt (slice_cmp nat_cmp xs ys) ≡ true → big_endian n xs < big_endian n ys
less_number n [] [] same text h = let bad : false ≡ true = h in cc
less_number n [] (y ∷ ys) same text h = absurd (omega arith)
less_number n (x ∷ xs) [] same text h = absurd (omega arith)
less_number n (x ∷ xs) (y ∷ ys) same text h =
    from (nat_cmp x y) (ranked x y (nat_cmp x y) refl) h (less_number (n * 256 + x) xs ys (omega arith) (λ i. text (suc i)))
  where
    small : x < 256
    small = text 0

    from : (r : Ordering) → MatchOrdering r (x < y) (x ≡ y) (y < x) → is_lt (ordering_then r (slice_cmp nat_cmp xs ys)) ≡ true
        → (is_lt (slice_cmp nat_cmp xs ys) ≡ true → big_endian (n * 256 + x) xs < big_endian (n * 256 + x) ys) → big_endian n (x ∷ xs) < big_endian n (y ∷ ys)
    from Less lt is rest = start_decides (n * 256 + x) (n * 256 + y) xs ys (omega arith) (λ i. text (suc i)) (omega (arith, small, lt))
    from Equal eq is rest = subst (λ k. big_endian (n * 256 + x) xs < big_endian (n * 256 + k) ys) eq (rest is)
    from Greater gt is rest = let bad : false ≡ true = is in cc

not_less : (xs ys : List ℕ) → IsAddress xs → IsAddress ys → number_of ys ≤ number_of xs → is_lt (mac_cmp xs ys) ≡ false
not_less xs ys ax ay le = from (is_lt (mac_cmp xs ys)) refl
  where
    from : (b : Bool) → is_lt (mac_cmp xs ys) ≡ b → b ≡ false
    from false e = refl
    from true e = absurd (omega (arith, less_number 0 xs ys (ax.0 ∙ sym ay.0) ax.1 e, le))

-- ---- words in order

abbrev blank : List ℕ × Entry
blank = ([], record { place = no_place; last = None })

module _ (es : List (Option Held)) (v a t : ℕ) where
  abbrev row_or : ℕ → List ℕ × Entry
  row_or word = unwrap_or (row_in es v a t word) blank

  addressed : (word : ℕ) (o : Option (List ℕ × Entry)) → HasAddress word o → IsAddress (unwrap_or o blank).0 × (word / 1048576 ≡ number_of (unwrap_or o blank).0)
  addressed word None h = absurd h
  addressed word (Some row) h = h

  each_row : (words : List ℕ) → AreWords es v a t words → rows_in es v a t words ≡ map row_or words
  each_row [] all = refl
  each_row (w ∷ words) all = from (row_in es v a t w) (all 0 0 (omega arith)) ∙ ap (λ (rs : Rows). row_or w ∷ rs) (each_row words (λ k d lt. all (suc k) d (omega (arith, lt))))
    where
      from : (o : Option (List ℕ × Entry)) → HasAddress w o → cons_option o (rows_in es v a t words) ≡ unwrap_or o blank ∷ rows_in es v a t words
      from None h = absurd h
      from (Some row) h = refl

  rising : (words : List ℕ) → AreWords es v a t words → IsSorted nat_cmp words → IsSortedByKey (λ (r : List ℕ × Entry). r.0) mac_cmp (map row_or words)
  rising words all up k d low next =
      let beyond : k + 1 < length words = omega (arith, next, length-map words row_or) in
      let here : k < length words = omega (arith, beyond) in
      let one = get_or words k 0 in
      let two = get_or words (k + 1) 0 in
      let le : one ≤ two = ge_from_not_lt two one (up k 0 low beyond) in
      let p = addressed one (row_in es v a t one) (all k 0 here) in
      let q = addressed two (row_in es v a t two) (all (k + 1) 0 beyond) in
      let less : is_lt (mac_cmp (row_or two).0 (row_or one).0) ≡ false = not_less (row_or two).0 (row_or one).0 q.0 p.0 (omega (arith, le, p.1, q.1)) in
      ap (λ (r : List ℕ × Entry). is_lt (mac_cmp r.0 (get_or (map row_or words) k d).0)) (get_or-map row_or words (k + 1) 0 d beyond)
      ∙ ap (λ (r : List ℕ × Entry). is_lt (mac_cmp (row_or two).0 r.0)) (get_or-map row_or words k 0 d here)
      ∙ less

  pub sorted_words : (old new : List ℕ) → AreWords es v a t old → IsPermutation old new → AreWords es v a t new
  sorted_words old new all perm = All-permutation (IsWord es v a t) old new perm all

  pub words_ordered : (old new : List ℕ) → AreUnique (rows_in es v a t old) → AreWords es v a t old → IsPermutation old new → IsSorted nat_cmp new → rows_in es v a t new ≡ entries (from_entries {R = mac_cmp} (rows_in es v a t old))
  words_ordered old new unique all perm up =
      let all_new = sorted_words old new all perm in
      let as_old = each_row old all in
      let as_new = each_row new all_new in
      as_new
      ∙ ordered (map row_or old) (map row_or new) (subst AreUnique as_old unique) (IsPermutation-map row_or old new perm) (rising new all_new up)
      ∙ ap (λ (rs : Rows). entries (from_entries {R = mac_cmp} rs)) (sym as_old)

  -- ---- one word more

  is_word : (slot : ℕ) → slot < 1048576 → (o : Option Held) → entry_at es slot ≡ o → IfSome (live_row v a t o) (λ row. IsAddress row.0) → IfSome (word_of slot (live_row v a t o)) (IsWord es v a t)
  is_word slot few o is six = from (live_row v a t o) refl six
    where
      from : (r : Option (List ℕ × Entry)) → live_row v a t o ≡ r → IfSome r (λ row. IsAddress row.0) → IfSome (word_of slot r) (IsWord es v a t)
      from None e h = tt
      from (Some row) e h =
          let word = number_of row.0 * 1048576 + slot in
          let low : word % 1048576 ≡ slot = omega (arith, few) in
          let high : word / 1048576 ≡ number_of row.0 = omega (arith, few) in
          subst (HasAddress word) (sym (ap (λ i. live_row v a t (entry_at es i)) low ∙ ap (live_row v a t) is ∙ e)) (h, high)

  pub slot_word : (slot : ℕ) (o : Option Held) (word : Option ℕ) → slot < 1048576 → entry_at es slot ≡ o → word ≡ word_of slot (live_row v a t o) → IfSome (live_row v a t o) (λ row. IsAddress row.0) → IfSome word (IsWord es v a t)
  slot_word slot o word few is e six = subst (λ w. IfSome w (IsWord es v a t)) (sym e) (is_word slot few o is six)

  pub put_rows : (old : List ℕ) (slot : ℕ) (word : Option ℕ) (new : List ℕ) → slot < 1048576 → word ≡ word_of slot (live_row v a t (entry_at es slot)) → new ≡ old ++ option_to_list word
      → rows_in es v a t new ≡ rows_in es v a t old ++ option_to_list (live_row v a t (entry_at es slot))
  put_rows old slot word new few is put =
      ap (rows_in es v a t) put
      ∙ filter_map-append (row_in es v a t) old (option_to_list word)
      ∙ ap (λ (rs : Rows). rows_in es v a t old ++ rs) (ap (λ w. rows_in es v a t (option_to_list w)) is ∙ from (live_row v a t (entry_at es slot)) refl)
    where
      from : (r : Option (List ℕ × Entry)) → live_row v a t (entry_at es slot) ≡ r → rows_in es v a t (option_to_list (word_of slot r)) ≡ option_to_list r
      from None e = refl
      from (Some row) e =
          let low : (number_of row.0 * 1048576 + slot) % 1048576 ≡ slot = omega (arith, few) in
          ap (λ o. cons_option o []) (ap (λ i. live_row v a t (entry_at es i)) low ∙ e)

  pub put_words : (old : List ℕ) (word : Option ℕ) (new : List ℕ) → IfSome word (IsWord es v a t) → new ≡ old ++ option_to_list word → AreWords es v a t old → AreWords es v a t new
  put_words old None new is put all = subst (AreWords es v a t) (sym (put ∙ append-nil old)) all
  put_words old (Some word) new is put all = subst (AreWords es v a t) (sym put) (All-push (IsWord es v a t) old word all is)

  pub no_words : (words : List ℕ) → words ≡ [] → AreWords es v a t words
  no_words words none = subst (AreWords es v a t) (sym none) (All-nil (IsWord es v a t))

  pub no_rows : (words : List ℕ) → words ≡ [] → rows_in es v a t words ≡ []
  no_rows words none = ap (rows_in es v a t) none

  -- a live entry's row is that of what its slot holds
  some_held : (word : ℕ) (o : Option Held) → HasAddress word (live_row v a t o) → IsSome o × (row_of o ≡ live_row v a t o)
  some_held word None h = absurd h
  some_held word (Some e) h = (refl, from (nat_eq e.vid v && is_live a t (entry_of e)) (e.mac, entry_of e) h)
    where
      from : (b : Bool) (row : List ℕ × Entry) → HasAddress word (if b then Some row else None) → Some row ≡ (if b then Some row else None)
      from true row h = refl
      from false row h = absurd h

  pub are_held : (words : List ℕ) → AreWords es v a t words → AreHeld es words
  are_held words all k d lt = (some_held (get_or words k d) (entry_at es (get_or words k d % 1048576)) (all k d lt)).0

  pub held_live : (words : List ℕ) → AreWords es v a t words → held_rows es words ≡ rows_in es v a t words
  held_live [] all = refl
  held_live (w ∷ words) all =
      ap (λ o. cons_option o (held_rows es words)) (some_held w (entry_at es (w % 1048576)) (all 0 0 (omega arith))).1
      ∙ ap (cons_option (row_in es v a t w)) (held_live words (λ k d lt. all (suc k) d (omega (arith, lt))))

-- ---- row by row

next_held : (es : List (Option Held)) (words : List ℕ) (i d : ℕ) (row : List ℕ × Entry) → i < length words → Some row ≡ row_of (entry_at es (get_or words i d % 1048576)) → held_rows es (take i words) ++ row ∷ [] ≡ held_rows es (take (suc i) words)
next_held es [] i d row lt is = absurd (omega (arith, lt))
next_held es (w ∷ words) zero d row lt is = ap (λ o. cons_option o []) is
next_held es (w ∷ words) (suc i) d row lt is =
    out (row_of (entry_at es (w % 1048576))) (held_rows es (take i words)) (row ∷ []) ∙ ap (cons_option (row_of (entry_at es (w % 1048576)))) (next_held es words i d row (omega (arith, lt)) is)
  where
    out : (o : Option (List ℕ × Entry)) (rs ss : Rows) → cons_option o rs ++ ss ≡ cons_option o (rs ++ ss)
    out None rs ss = refl
    out (Some r) rs ss = refl

pub held_next : (es : List (Option Held)) (words : List ℕ) (i d : ℕ) (row : List ℕ × Entry) → i < length words → Some row ≡ row_of (entry_at es (get_or words i d % 1048576)) → held_rows es (take i words) ++ row ∷ [] ≡ held_rows es (take (i + 1) words)
held_next es words i d row lt is = let more : suc i ≡ i + 1 = omega arith in next_held es words i d row lt is ∙ ap (λ n. held_rows es (take n words)) more

pub held_in : (es : List (Option Held)) (i : ℕ) → IsSome (entry_at es i) → i < length es
held_in [] i h = let no : IsSome {T = Held} None = h in cc
held_in (o ∷ os) zero h = omega arith
held_in (o ∷ os) (suc i) h = omega (arith, held_in os i h)

pub all_taken : (words : List ℕ) (i : ℕ) → length words ≤ i → take i words ≡ words
all_taken [] zero h = refl
all_taken [] (suc i) h = refl
all_taken (w ∷ words) zero h = absurd (omega (arith, h))
all_taken (w ∷ words) (suc i) h = ap (λ (ws : List ℕ). w ∷ ws) (all_taken words i (omega (arith, h)))

-- ---- what slots hold

if_addressed : (b : Bool) (row : List ℕ × Entry) → IsAddress row.0 → IfSome (if b then Some row else None) (λ r. IsAddress r.0)
if_addressed false row h = tt
if_addressed true row h = h

pub row_addressed : (v a t : ℕ) (slot : Slot) → IfSome (live_row v a t (entry_in slot)) (λ r. IsAddress r.0)
row_addressed v a t slot = from slot.kind
  where
    from : (k : Kind) → IfSome (live_row v a t (entry_by k slot.key slot.last slot.place)) (λ r. IsAddress r.0)
    from kind.Free = tt
    from kind.Learned = if_addressed _ _ (address_in-key slot.key)
    from kind.Fixed = if_addressed _ _ (address_in-key slot.key)

pub entry_there : (xs zs : List Slot) (i : ℕ) (d : Slot) → i < length xs → entry_at (map entry_in (xs ++ zs)) i ≡ entry_in (get_or xs i d)
entry_there [] zs i d lt = absurd (omega arith)
entry_there (x ∷ xs) zs zero d lt = refl
entry_there (x ∷ xs) zs (suc i) d lt = entry_there xs zs i d (omega (arith, lt))
