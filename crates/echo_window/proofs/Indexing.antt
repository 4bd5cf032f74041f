-- Where frames are looked for.
use Rattle.std.proofs.Common.{◌≡◌, ◌≢◌, ◌⊎◌, inl, inr, ℕ, ◌+◌, ◌%◌, ◌<◌, ◌≤◌, Bool, true, false, eqb, List, [], ◌∷◌, ◌++◌, length, map, get_or, set, take, drop, refl, sym, ap, ◌∙◌, zero, suc, subst, arith, length-append, length-drop, length-set}
use Rattle.std.proofs.lemmas.List.{get_or_append_left, get_or-set_other, length-map, map-append}
use Rattle.std.proofs.Math.Seq.{get_or-append_seam}
use Rattle.std.proofs.lemmas.Bool.Decides.{eqb_tells}
use Rattle.std.proofs.lemmas.Grind.{get_or-set_at}
use Rattle.echo_window.specs.Bucket.{bucket_of}
use Rattle.echo_window.specs.Echo.{Arrival, Record, met_again}
use Rattle.echo_window.specs.Index.{AreAlike, IsAllAt, IsKept, IsLatest, IsLinked, IsPlaced, alikes, befores, buckets, index_of, places}
use Rattle.echo_window.specs.Laid.{came_of, laid, lengths}
use Rattle.echo_window.specs.declared.kept.Kept.{Kept}
use Rattle.echo_window.proofs.Laying.{laid-length, laid-put, lengths-put, lengths-set}

-- ---- the first frame goes

-- the first that is kept has the next number then
next-index : (first n i : ℕ) → first < 18446744073709551616 → index_of first n ≡ suc i → index_of ((first + 1) % 18446744073709551616) n ≡ i
next-index first n i low e = omega (arith, low, e)

latest-drop : (first x : ℕ) (bs : List ℕ) (end b n : ℕ) → first < 18446744073709551616 → IsLatest (x ∷ bs) (suc end) b (index_of first n) → IsLatest bs end b (index_of ((first + 1) % 18446744073709551616) n)
latest-drop first x bs end b n low h k l e = by (index_of first n) refl (h (suc k) (omega (arith, l)) e)
  where
    next : ℕ
    next = index_of ((first + 1) % 18446744073709551616) n

    by : (i : ℕ) → index_of first n ≡ i → (i < suc end) × (suc k ≤ i) × (get_or (x ∷ bs) i 0 ≡ b) → (next < end) × (k ≤ next) × (get_or bs next 0 ≡ b)
    by zero at old = absurd (omega (arith, old.1))
    by (suc i) at old =
        let here = next-index first n i low at in
        (omega (arith, here, old.0), omega (arith, here, old.1), ap (λ j. get_or bs j 0) here ∙ old.2)

linked-drop : (first x m : ℕ) (bs ns latest : List ℕ) → first < 18446744073709551616 → IsLinked first (x ∷ bs) (m ∷ ns) latest → IsLinked ((first + 1) % 18446744073709551616) bs ns latest
linked-drop first x m bs ns latest low h = record {
  last = λ b l. latest-drop first x bs (length bs) b (get_or latest b 0) low (h.last b l);
  before = λ j l. latest-drop first x bs j (get_or bs j 0) (get_or ns j 0) low (h.before (suc j) (omega (arith, l)));
}

-- ---- one more comes

latest-append : (x : ℕ) (bs : List ℕ) (end b i : ℕ) → end ≤ length bs → IsLatest bs end b i → IsLatest (bs ++ x ∷ []) end b i
latest-append x bs end b i few h k l e =
    let old = h k l (sym (get_or_append_left bs (x ∷ []) 0 k (omega (arith, l, few))) ∙ e) in
    (old.0, old.1, get_or_append_left bs (x ∷ []) 0 i (omega (arith, old.0, few)) ∙ old.2)

latest-other : (x : ℕ) (bs : List ℕ) (b i : ℕ) → b ≢ x → IsLatest bs (length bs) b i → IsLatest (bs ++ x ∷ []) (length bs + 1) b i
latest-other x bs b i other h k l e = by (eqb_tells k (length bs))
  where
    by : ((eqb k (length bs) ≡ true) × (k ≡ length bs)) ⊎ ((eqb k (length bs) ≡ false) × (k ≢ length bs)) → (i < length bs + 1) × (k ≤ i) × (get_or (bs ++ x ∷ []) i 0 ≡ b)
    by (inl at) = absurd (other (sym e ∙ ap (λ j. get_or (bs ++ x ∷ []) j 0) at.1 ∙ get_or-append_seam bs x [] 0))
    by (inr away) = let old = latest-append x bs (length bs) b i (omega arith) h k (omega (arith, l, away.1)) e in (omega (arith, old.0), old.1, old.2)

latest-new : (x : ℕ) (bs : List ℕ) → IsLatest (bs ++ x ∷ []) (length bs + 1) x (length bs)
latest-new x bs k l e = (omega arith, omega (arith, l), get_or-append_seam bs x [] 0)

linked-put : (first x n m : ℕ) (bs ns latest : List ℕ) → index_of first n ≡ length bs → m ≡ get_or latest x 0 → length ns ≡ length bs → x < length latest
    → IsLinked first bs ns latest → IsLinked first (bs ++ x ∷ []) (ns ++ m ∷ []) (set latest x n)
linked-put first x n m bs ns latest at is sizes inside h = record {
  last = λ b l. subst (λ k. IsLatest (bs ++ x ∷ []) k b (index_of first (get_or (set latest x n) b 0))) (sym size) (last b (omega (arith, l, length-set latest x n)) (eqb_tells b x));
  before = λ j l. before j (omega (arith, l, size)) (eqb_tells j (length bs));
}
  where
    size : length (bs ++ x ∷ []) ≡ length bs + 1
    size = length-append bs (x ∷ [])

    last : (b : ℕ) → b < length latest → ((eqb b x ≡ true) × (b ≡ x)) ⊎ ((eqb b x ≡ false) × (b ≢ x)) → IsLatest (bs ++ x ∷ []) (length bs + 1) b (index_of first (get_or (set latest x n) b 0))
    last b l (inl same) =
        subst (λ k. IsLatest (bs ++ x ∷ []) (length bs + 1) b (index_of first k)) (sym (get_or-set_at latest x b n 0 same.1 inside))
        (subst (λ k. IsLatest (bs ++ x ∷ []) (length bs + 1) k (index_of first n)) (sym same.1)
        (subst (λ k. IsLatest (bs ++ x ∷ []) (length bs + 1) x k) (sym at) (latest-new x bs)))
    last b l (inr other) =
        subst (λ k. IsLatest (bs ++ x ∷ []) (length bs + 1) b (index_of first k)) (sym (get_or-set_other latest x b n 0 other.1))
        (latest-other x bs b (index_of first (get_or latest b 0)) other.1 (h.last b l))

    before : (j : ℕ) → j < length bs + 1 → ((eqb j (length bs) ≡ true) × (j ≡ length bs)) ⊎ ((eqb j (length bs) ≡ false) × (j ≢ length bs))
        → IsLatest (bs ++ x ∷ []) j (get_or (bs ++ x ∷ []) j 0) (index_of first (get_or (ns ++ m ∷ []) j 0))
    before j l (inl end) =
        let own : get_or (bs ++ x ∷ []) j 0 ≡ x = ap (λ k. get_or (bs ++ x ∷ []) k 0) end.1 ∙ get_or-append_seam bs x [] 0 in
        let told : get_or (ns ++ m ∷ []) j 0 ≡ get_or latest x 0 = ap (λ k. get_or (ns ++ m ∷ []) k 0) (end.1 ∙ sym sizes) ∙ get_or-append_seam ns m [] 0 ∙ is in
        subst (λ k. IsLatest (bs ++ x ∷ []) j k (index_of first (get_or (ns ++ m ∷ []) j 0))) (sym own)
        (subst (λ k. IsLatest (bs ++ x ∷ []) j x (index_of first k)) (sym told)
        (subst (λ k. IsLatest (bs ++ x ∷ []) k x (index_of first (get_or latest x 0))) (sym end.1)
        (latest-append x bs (length bs) x (index_of first (get_or latest x 0)) (omega arith) (h.last x inside))))
    before j l (inr away) =
        let inner : j < length bs = omega (arith, l, away.1) in
        subst (λ k. IsLatest (bs ++ x ∷ []) j k (index_of first (get_or (ns ++ m ∷ []) j 0))) (sym (get_or_append_left bs (x ∷ []) 0 j inner))
        (subst (λ k. IsLatest (bs ++ x ∷ []) j (get_or bs j 0) (index_of first k)) (sym (get_or_append_left ns (m ∷ []) 0 j (omega (arith, inner, sizes))))
        (latest-append x bs j (get_or bs j 0) (index_of first (get_or ns j 0)) (omega (arith, inner)) (h.before j inner)))

-- ---- where they came in

alike-drop : (x p : ℕ) (f : Bool) (bs ps : List ℕ) (said : List Bool) → AreAlike (x ∷ bs) (p ∷ ps) (f ∷ said) → AreAlike bs ps said
alike-drop x p f bs ps said h = λ j i l m. h (suc j) (suc i) (omega (arith, l)) (omega (arith, m))

alike-put : (x p : ℕ) (f : Bool) (bs ps : List ℕ) (said : List Bool) → length ps ≡ length bs → length said ≡ length bs → (f ≡ true → (i : ℕ) → i < length bs → get_or bs i 0 ≡ x → get_or ps i 0 ≡ p) → AreAlike bs ps said
    → AreAlike (bs ++ x ∷ []) (ps ++ p ∷ []) (said ++ f ∷ [])
alike-put x p f bs ps said places_too said_too all h = λ j i l m s q. by j i (omega (arith, l, length-append bs (x ∷ []))) m s q (eqb_tells j (length bs))
  where
    by : (j i : ℕ) → j < length bs + 1 → i < j → get_or (said ++ f ∷ []) j false ≡ true → get_or (bs ++ x ∷ []) i 0 ≡ get_or (bs ++ x ∷ []) j 0
        → ((eqb j (length bs) ≡ true) × (j ≡ length bs)) ⊎ ((eqb j (length bs) ≡ false) × (j ≢ length bs)) → get_or (ps ++ p ∷ []) i 0 ≡ get_or (ps ++ p ∷ []) j 0
    by j i l m s q (inl at) =
        let inner : i < length bs = omega (arith, m, at.1) in
        let own : get_or (bs ++ x ∷ []) j 0 ≡ x = ap (λ k. get_or (bs ++ x ∷ []) k 0) at.1 ∙ get_or-append_seam bs x [] 0 in
        let place : get_or (ps ++ p ∷ []) j 0 ≡ p = ap (λ k. get_or (ps ++ p ∷ []) k 0) (at.1 ∙ sym places_too) ∙ get_or-append_seam ps p [] 0 in
        let flag : f ≡ true = sym (ap (λ k. get_or (said ++ f ∷ []) k false) (at.1 ∙ sym said_too) ∙ get_or-append_seam said f [] false) ∙ s in
        get_or_append_left ps (p ∷ []) 0 i (omega (arith, inner, places_too)) ∙ all flag i inner (sym (get_or_append_left bs (x ∷ []) 0 i inner) ∙ q ∙ own) ∙ sym place
    by j i l m s q (inr away) =
        let inner : j < length bs = omega (arith, l, away.1) in
        let lower : i < length bs = omega (arith, m, inner) in
        get_or_append_left ps (p ∷ []) 0 i (omega (arith, lower, places_too))
        ∙ h j i inner m (sym (get_or_append_left said (f ∷ []) false j (omega (arith, inner, said_too))) ∙ s)
        (sym (get_or_append_left bs (x ∷ []) 0 i lower) ∙ q ∙ get_or_append_left bs (x ∷ []) 0 j inner)
        ∙ sym (get_or_append_left ps (p ∷ []) 0 j (omega (arith, inner, places_too)))

-- ---- where their octets stand

placed-put : (passed : ℕ) (ks : List Kept) (k : Kept) → IsPlaced passed ks → k.at ≡ (passed + lengths ks) % 18446744073709551616 → passed < 18446744073709551616 → IsPlaced passed (ks ++ k ∷ [])
placed-put passed [] k h e low = (omega (arith, e, low), tt)
placed-put passed (j ∷ ks) k h e low = (h.0, placed-put ((passed + j.length) % 18446744073709551616) ks k h.1 (omega (arith, e)) (omega arith))

placed-set : (passed : ℕ) (ks : List Kept) (i : ℕ) (more d : Kept) → i < length ks → more.at ≡ (get_or ks i d).at → more.length ≡ (get_or ks i d).length → IsPlaced passed ks → IsPlaced passed (set ks i more)
placed-set passed [] i more d l a e h = absurd (omega (arith, l))
placed-set passed (j ∷ ks) zero more d l a e h = (a ∙ h.0, subst (λ n. IsPlaced ((passed + n) % 18446744073709551616) ks) (sym e) h.1)
placed-set passed (j ∷ ks) (suc i) more d l a e h = (h.0, placed-set ((passed + j.length) % 18446744073709551616) ks i more d (omega (arith, l)) a e h.1)

-- the octets of one begin behind those of the ones before it
pub placed-at : (passed : ℕ) (ks : List Kept) (i : ℕ) (d : Kept) → i < length ks → passed < 18446744073709551616 → IsPlaced passed ks → (get_or ks i d).at ≡ (passed + lengths (take i ks)) % 18446744073709551616
placed-at passed [] i d l low h = absurd (omega (arith, l))
placed-at passed (j ∷ ks) zero d l low h = omega (arith, h.0, low)
placed-at passed (j ∷ ks) (suc i) d l low h = omega (arith, placed-at ((passed + j.length) % 18446744073709551616) ks i d (omega (arith, l)) (omega arith) h.1)

-- ---- the lists that they stand for

pub buckets-length : (ks : List Kept) (row : List ℕ) → length (buckets (laid ks row)) ≡ length ks
buckets-length ks row = length-map (laid ks row) (λ (c : Arrival). bucket_of c.frame) ∙ laid-length ks row

-- what a frame tells, where one is in place of another that tells the same
same-told : {X : Type 0} (f : Kept → X) (ks : List Kept) (i : ℕ) (more d : Kept) → i < length ks → f more ≡ f (get_or ks i d) → map f (set ks i more) ≡ map f ks
same-told f [] i more d l e = refl
same-told f (j ∷ ks) zero more d l e = ap (λ x. x ∷ map f ks) e
same-told f (j ∷ ks) (suc i) more d l e = ap (λ xs. f j ∷ xs) (same-told f ks i more d (omega (arith, l)) e)

-- a frame that was met again has the bucket that it had
buckets-met : (m : Record) (came : List Arrival) (i : ℕ) → buckets (met_again m came i) ≡ buckets came
buckets-met m [] i = refl
buckets-met m (c ∷ came) zero = refl
buckets-met m (c ∷ came) (suc i) = ap (λ bs. bucket_of c.frame ∷ bs) (buckets-met m came i)

pub places-told : (ks : List Kept) (row : List ℕ) → places (laid ks row) ≡ map (λ (k : Kept). k.place) ks
places-told [] row = refl
places-told (k ∷ ks) row = ap (λ ps. k.place ∷ ps) (places-told ks (drop k.length row))

places-met : (m : Record) (came : List Arrival) (i : ℕ) → places (met_again m came i) ≡ places came
places-met m [] i = refl
places-met m (c ∷ came) zero = refl
places-met m (c ∷ came) (suc i) = ap (λ ps. c.place ∷ ps) (places-met m came i)

-- ---- all of it

pub kept-drop : (capacity more first passed : ℕ) (k : Kept) (ks : List Kept) (row latest : List ℕ) → capacity ≤ more
    → IsKept (k ∷ ks) row capacity first passed latest → IsKept ks (drop k.length row) more ((first + 1) % 18446744073709551616) ((passed + k.length) % 18446744073709551616) latest
kept-drop capacity more first passed k ks row latest room h = record {
  stands = record {
    whole = omega (arith, h.stands.whole, length-drop k.length row);
    few = omega (arith, h.stands.few);
    small = omega (arith, h.stands.small, length-drop k.length row);
    reserved = omega (arith, h.stands.reserved, room);
  };
  table = h.table;
  low = (omega arith, omega arith);
  linked = linked-drop first (bucket_of (take k.length row)) k.before (buckets (laid ks (drop k.length row))) (befores ks) latest h.low.0 h.linked;
  placed = h.placed.1;
  alike = alike-drop (bucket_of (take k.length row)) k.place k.alike (buckets (laid ks (drop k.length row))) (places (laid ks (drop k.length row))) (alikes ks) h.alike;
}

pub kept-met : (capacity first passed i : ℕ) (k more : Kept) (m : Record) (ks : List Kept) (row latest : List ℕ) → i < length ks → k ≡ get_or ks i k
    → more.at ≡ k.at → more.length ≡ k.length → more.before ≡ k.before → more.alike ≡ k.alike → laid (set ks i more) row ≡ met_again m (laid ks row) i
    → IsKept ks row capacity first passed latest → IsKept (set ks i more) row capacity first passed latest
kept-met capacity first passed i k more m ks row latest l here a e b f is h =
    let bs : buckets (laid (set ks i more) row) ≡ buckets (laid ks row) = ap (λ (cs : List Arrival). buckets cs) is ∙ buckets-met m (laid ks row) i in
    let ps : places (laid (set ks i more) row) ≡ places (laid ks row) = ap (λ (cs : List Arrival). places cs) is ∙ places-met m (laid ks row) i in
    let ns : befores (set ks i more) ≡ befores ks = same-told (λ (x : Kept). x.before) ks i more k l (b ∙ ap (λ (x : Kept). x.before) here) in
    let fs : alikes (set ks i more) ≡ alikes ks = same-told (λ (x : Kept). x.alike) ks i more k l (f ∙ ap (λ (x : Kept). x.alike) here) in
    record {
      stands = record {
        whole = lengths-set ks i more k l (e ∙ ap (λ (x : Kept). x.length) here) ∙ h.stands.whole;
        few = omega (arith, length-set ks i more, h.stands.few);
        small = h.stands.small;
        reserved = h.stands.reserved;
      };
      table = h.table;
      low = h.low;
      linked = subst (λ xs. IsLinked first xs (befores (set ks i more)) latest) (sym bs) (subst (λ xs. IsLinked first (buckets (laid ks row)) xs latest) (sym ns) h.linked);
      placed = placed-set passed ks i more k l (a ∙ ap (λ (x : Kept). x.at) here) (e ∙ ap (λ (x : Kept). x.length) here) h.placed;
      alike =
          subst (λ xs. AreAlike xs (places (laid (set ks i more) row)) (alikes (set ks i more))) (sym bs)
          (subst (λ xs. AreAlike (buckets (laid ks row)) xs (alikes (set ks i more))) (sym ps)
          (subst (λ xs. AreAlike (buckets (laid ks row)) (places (laid ks row)) xs) (sym fs) h.alike));
    }

pub kept-put : (capacity more first passed b : ℕ) (k : Kept) (text : List ℕ) (ks : List Kept) (row latest : List ℕ) → 4096 ≤ more → length ks + 1 ≤ 4096 → length row + length text ≤ 4194304
    → k.length ≡ length text → b ≡ bucket_of text → b < 16384 → k.before ≡ get_or latest b 0 → k.at ≡ (passed + length row) % 18446744073709551616
    → (k.alike ≡ true → IsAllAt (laid ks row) b k.place)
    → IsKept ks row capacity first passed latest → IsKept (ks ++ k ∷ []) (row ++ text) more first passed (set latest b ((first + length ks) % 18446744073709551616))
kept-put capacity more first passed b k text ks row latest room few small size is bound before at all h =
    let cs : laid (ks ++ k ∷ []) (row ++ text) ≡ laid ks row ++ came_of k text ∷ [] = laid-put ks row k text h.stands.whole size in
    let bs : buckets (laid (ks ++ k ∷ []) (row ++ text)) ≡ buckets (laid ks row) ++ b ∷ [] =
    ap (λ (l : List Arrival). buckets l) cs ∙ map-append (λ (c : Arrival). bucket_of c.frame) (laid ks row) (came_of k text ∷ []) ∙ ap (λ x. buckets (laid ks row) ++ x ∷ []) (sym is) in
    let ps : places (laid (ks ++ k ∷ []) (row ++ text)) ≡ places (laid ks row) ++ k.place ∷ [] =
    ap (λ (l : List Arrival). places l) cs ∙ map-append (λ (c : Arrival). c.place) (laid ks row) (came_of k text ∷ []) in
    let n = (first + length ks) % 18446744073709551616 in
    let size_b = buckets-length ks row in
    record {
      stands = record {
        whole = omega (arith, lengths-put ks k, length-append row text, h.stands.whole, size);
        few = omega (arith, length-append ks (k ∷ []), few);
        small = omega (arith, length-append row text, small);
        reserved = room;
      };
      table = length-set latest b n ∙ h.table;
      low = h.low;
      linked =
          subst (λ xs. IsLinked first xs (befores (ks ++ k ∷ [])) (set latest b n)) (sym bs)
          (subst (λ xs. IsLinked first (buckets (laid ks row) ++ b ∷ []) xs (set latest b n)) (sym (map-append (λ (x : Kept). x.before) ks (k ∷ [])))
          (linked-put first b n k.before (buckets (laid ks row)) (befores ks) latest (omega (arith, size_b, few, h.low.0)) before (length-map ks (λ (x : Kept). x.before) ∙ sym size_b) (omega (arith, bound, h.table)) h.linked));
      placed = placed-put passed ks k h.placed (at ∙ ap (λ x. (passed + x) % 18446744073709551616) (sym h.stands.whole)) h.low.1;
      alike =
          subst (λ xs. AreAlike xs (places (laid (ks ++ k ∷ []) (row ++ text))) (alikes (ks ++ k ∷ []))) (sym bs)
          (subst (λ xs. AreAlike (buckets (laid ks row) ++ b ∷ []) xs (alikes (ks ++ k ∷ []))) (sym ps)
          (subst (λ xs. AreAlike (buckets (laid ks row) ++ b ∷ []) (places (laid ks row) ++ k.place ∷ []) xs) (sym (map-append (λ (x : Kept). x.alike) ks (k ∷ [])))
          (alike-put b k.place k.alike (buckets (laid ks row)) (places (laid ks row)) (alikes ks) (length-map (laid ks row) (λ (c : Arrival). c.place) ∙ laid-length ks row ∙ sym size_b) (length-map ks (λ (x : Kept). x.alike) ∙ sym size_b)
          (λ q i l e. all q i (omega (arith, l, size_b, laid-length ks row)) e) h.alike)));
    }

pub kept-none : (capacity : ℕ) (ks : List Kept) (row latest : List ℕ) → ks ≡ [] → 4096 ≤ capacity → row ≡ [] → length latest ≡ 16384 → IsKept ks row capacity 1 0 latest
kept-none capacity ks row latest none room r size = subst (λ (xs : List Kept). IsKept xs row capacity 1 0 latest) (sym none) (record {
  stands = record { whole = omega (arith, ap (λ (xs : List ℕ). length xs) r); few = omega arith; small = omega (arith, ap (λ (xs : List ℕ). length xs) r); reserved = room };
  table = size;
  low = (omega arith, omega arith);
  linked = record { last = λ b l k m. absurd (omega (arith, m)); before = λ j l. absurd (omega (arith, l)) };
  placed = tt;
  alike = λ j i l. absurd (omega (arith, l));
})
