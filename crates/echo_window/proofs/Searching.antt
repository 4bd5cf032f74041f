-- Which of the frames that are kept a record is an echo of.
use Rattle.std.proofs.Common.{◌≡◌, ◌≢◌, ℕ, ◌<◌, ◌≤◌, Bool, true, false, not, nat_eq, nat_lt, eqb, ◌&&◌, if◌then◌else◌, List, length, map, get_or, Option, Some, None, refl, sym, ap, ◌∙◌, subst, arith, ◌⊎◌, inl, inr}
use borrow.Author.Tests.{ltb-false, ltb-true}
use Rattle.std.proofs.lemmas.Bool.{and_parts, eq-eqb, eqb-true}
use Rattle.std.proofs.lemmas.Bool.Decides.{eqb_tells}
use Rattle.std.proofs.lemmas.List.{get_or-map, length-map}
use Rattle.std.specs.List.{position}
use Rattle.wire.specs.Octets.{is_same}
use Rattle.wire.proofs.OctetsLemmas.{is_same-true}
use Rattle.echo_window.specs.Bucket.{bucket_of}
use Rattle.echo_window.specs.Echo.{Arrival, Record, first_met, is_awaited, is_echo_of, is_elsewhere, is_soon}
use Rattle.echo_window.specs.Index.{AreAlike, FindsFrom, IsAllAt, IsKept, IsLatest, IsLinked, alikes, befores, buckets, index_of, places}
use Rattle.echo_window.specs.Laid.{laid}
use Rattle.echo_window.specs.declared.kept.Kept.{Kept}
use Rattle.echo_window.proofs.Firsts.{first_at, first_nowhere}
use Rattle.echo_window.proofs.Indexing.{places-told}
use Rattle.echo_window.proofs.Laying.{laid-length}

-- ---- the first from an index on

module _ (test : Arrival → Bool) (came : List Arrival) (d : Arrival) where
  -- none from another index up to that one is it
  finds-rest : (begin end : ℕ) (found : Option ℕ) → begin ≤ end → ((k : ℕ) → begin ≤ k → k < end → test (get_or came k d) ≡ false) → FindsFrom test came d end found → FindsFrom test came d begin found
  finds-rest begin end (Some n) less none old = record {
    inside = old.inside;
    behind = omega (arith, less, old.behind);
    here = old.here;
    before = λ k m s. by k m s (nat_lt k end) refl;
  }
    where
      by : (k : ℕ) → begin ≤ k → k < n → (p : Bool) → nat_lt k end ≡ p → test (get_or came k d) ≡ false
      by k m s true z = none k m (ltb-true k end z)
      by k m s false z = old.before k (ltb-false k end z) s
  finds-rest begin end None less none old = λ k m s. by k m s (nat_lt k end) refl
    where
      by : (k : ℕ) → begin ≤ k → k < length came → (p : Bool) → nat_lt k end ≡ p → test (get_or came k d) ≡ false
      by k m s true z = none k m (ltb-true k end z)
      by k m s false z = old k (ltb-false k end z) s

  -- one more is looked at, and those behind it up to that index aren't it
  finds-more : (i end : ℕ) (q : Bool) (found : Option ℕ) → q ≡ test (get_or came i d) → i < length came → i < end → ((k : ℕ) → i < k → k < end → test (get_or came k d) ≡ false)
      → FindsFrom test came d end found → FindsFrom test came d i (if q then Some i else found)
  finds-more i end true found e l h none old = record { inside = l; behind = omega arith; here = sym e; before = λ k m s. absurd (omega (arith, m, s)) }
  finds-more i end false found e l h none old = finds-rest i end found (omega (arith, h)) (λ k m s. by k m s (eqb_tells k i)) old
    where
      by : (k : ℕ) → i ≤ k → k < end → ((eqb k i ≡ true) × (k ≡ i)) ⊎ ((eqb k i ≡ false) × (k ≢ i)) → test (get_or came k d) ≡ false
      by k m s (inl at) = ap (λ x. test (get_or came x d)) at.1 ∙ sym e
      by k m s (inr away) = none k (omega (arith, m, away.1)) s

  -- all were looked at
  finds-all : (found : Option ℕ) → FindsFrom test came d 0 found → found ≡ position test came
  finds-all (Some i) h = sym (first_at test came i d h.inside (λ k l. h.before k (omega arith) l) h.here)
  finds-all None h = sym (first_nowhere test came d (λ k l. h k (omega arith) l))

-- ---- a frame of another bucket

neither : (a : Bool) → (a && false) ≡ false
neither true = refl
neither false = refl

other-bucket : (w : ℕ) (m : Record) (c : Arrival) → bucket_of c.frame ≢ bucket_of m.frame → is_echo_of w m c ≡ false
other-bucket w m c other = by (is_same c.frame m.frame) refl
  where
    by : (q : Bool) → is_same c.frame m.frame ≡ q → is_echo_of w m c ≡ false
    by true same = absurd (other (ap bucket_of (is_same-true c.frame m.frame same)))
    by false apart = ap (λ q. (is_elsewhere m c && (is_soon w m c && is_awaited m c)) && q) apart ∙ neither (is_elsewhere m c && (is_soon w m c && is_awaited m c))

-- a frame of the record's own place
own-place : (w : ℕ) (m : Record) (c : Arrival) → c.place ≡ m.place → is_echo_of w m c ≡ false
own-place w m c same = ap (λ p. (not (nat_eq p m.place) && (is_soon w m c && is_awaited m c)) && is_same c.frame m.frame) same ∙ ap (λ q. (not q && (is_soon w m c && is_awaited m c)) && is_same c.frame m.frame) (eq-eqb m.place m.place refl)

-- a record is no echo of a frame that came in at its own place if it has its bucket
own-or-other : (w : ℕ) (m : Record) (came : List Arrival) (k : ℕ) → k < length came → (get_or (buckets came) k 0 ≡ bucket_of m.frame → get_or (places came) k 0 ≡ m.place)
    → is_echo_of w m (get_or came k (first_met m)) ≡ false
own-or-other w m came k l h = by (eqb_tells (bucket_of (get_or came k (first_met m)).frame) (bucket_of m.frame))
  where
    c : Arrival
    c = get_or came k (first_met m)

    by : ((eqb (bucket_of c.frame) (bucket_of m.frame) ≡ true) × (bucket_of c.frame ≡ bucket_of m.frame)) ⊎ ((eqb (bucket_of c.frame) (bucket_of m.frame) ≡ false) × (bucket_of c.frame ≢ bucket_of m.frame)) → is_echo_of w m c ≡ false
    by (inl same) = own-place w m c (sym (get_or-map (λ (x : Arrival). x.place) came k (first_met m) 0 l) ∙ h (get_or-map (λ (x : Arrival). bucket_of x.frame) came k (first_met m) 0 l ∙ same.1))
    by (inr other) = other-bucket w m c other.1

-- all with its bucket came in at its own place
pub all-own : (b w : ℕ) (m : Record) (came : List Arrival) → b ≡ bucket_of m.frame → IsAllAt came b m.place → None ≡ position (is_echo_of w m) came
all-own b w m came is all = sym (first_nowhere (is_echo_of w m) came (first_met m) (λ k l. own-or-other w m came k l (λ e. all k l (e ∙ sym is))))

-- ---- what is kept of the frames tells

pub record Shows (first : ℕ) (ks : List Kept) (latest : List ℕ) (came : List Arrival) : Type 0 where
  pub size : length ks ≡ length came
  pub table : length latest ≡ 16384
  pub linked : IsLinked first (buckets came) (befores ks) latest
  pub stand : places came ≡ map (λ k. k.place) ks
  pub alike : AreAlike (buckets came) (places came) (alikes ks)

pub shows : (capacity first passed : ℕ) (ks : List Kept) (row latest : List ℕ) (came : List Arrival) → laid ks row ≡ came → IsKept ks row capacity first passed latest → Shows first ks latest came
shows capacity first passed ks row latest came v h = subst (λ cs. Shows first ks latest cs) v (record {
  size = sym (laid-length ks row);
  table = h.table;
  linked = h.linked;
  stand = places-told ks row;
  alike = h.alike;
})

buckets-size : (came : List Arrival) → length (buckets came) ≡ length came
buckets-size came = length-map came (λ (c : Arrival). bucket_of c.frame)

-- those before one in its bucket came in where it did, where it says so
alike-before : (first : ℕ) (ks : List Kept) (latest : List ℕ) (came : List Arrival) (place i : ℕ) (k : Kept) → Shows first ks latest came → i < length came → k ≡ get_or ks i k → (k.alike && nat_eq k.place place) ≡ true
    → (x : ℕ) → x ≤ i → get_or (buckets came) x 0 ≡ get_or (buckets came) i 0 → get_or (places came) x 0 ≡ place
alike-before first ks latest came place i k s l here said x le e = by (eqb_tells x i)
  where
    parts : (k.alike ≡ true) × (nat_eq k.place place ≡ true)
    parts = and_parts k.alike (nat_eq k.place place) said

    own : get_or (places came) i 0 ≡ place
    own = ap (λ ps. get_or ps i 0) s.stand ∙ get_or-map (λ (x : Kept). x.place) ks i k 0 (omega (arith, l, s.size)) ∙ ap (λ (x : Kept). x.place) (sym here) ∙ eqb-true k.place place parts.1

    flag : get_or (alikes ks) i false ≡ true
    flag = get_or-map (λ (x : Kept). x.alike) ks i k false (omega (arith, l, s.size)) ∙ ap (λ (x : Kept). x.alike) (sym here) ∙ parts.0

    by : ((eqb x i ≡ true) × (x ≡ i)) ⊎ ((eqb x i ≡ false) × (x ≢ i)) → get_or (places came) x 0 ≡ place
    by (inl same) = ap (λ y. get_or (places came) y 0) same.1 ∙ own
    by (inr away) = s.alike i x (omega (arith, l, buckets-size came)) (omega (arith, le, away.1)) flag e ∙ own

-- the latest of a bucket
latest-is : (first : ℕ) (ks : List Kept) (latest : List ℕ) (came : List Arrival) (b i : ℕ) → Shows first ks latest came → b < 16384 → i ≡ index_of first (get_or latest b 0) → IsLatest (buckets came) (length came) b i
latest-is first ks latest came b i s few at =
    subst (λ x. IsLatest (buckets came) (length came) b x) (sym at)
    (subst (λ x. IsLatest (buckets came) x b (index_of first (get_or latest b 0))) (buckets-size came) (s.linked.last b (omega (arith, few, s.table))))

-- all with a bucket came in at a place, where there is none, or the latest of them says so
pub none-at : (first : ℕ) (ks : List Kept) (latest : List ℕ) (came : List Arrival) (b place i : ℕ) → Shows first ks latest came → b < 16384 → i ≡ index_of first (get_or latest b 0) → length came ≤ i → IsAllAt came b place
none-at first ks latest came b place i s few at far x l e = absurd (omega (arith, far, (latest-is first ks latest came b i s few at x l e).0))

pub all-at : (first : ℕ) (ks : List Kept) (latest : List ℕ) (came : List Arrival) (b place i : ℕ) (k : Kept) → Shows first ks latest came → b < 16384 → i ≡ index_of first (get_or latest b 0)
    → i < length came → k ≡ get_or ks i k → (k.alike && nat_eq k.place place) ≡ true → IsAllAt came b place
all-at first ks latest came b place i k s few at inside here said x l e =
    let last = latest-is first ks latest came b i s few at x l e in
    alike-before first ks latest came place i k s inside here said x last.1 (e ∙ sym last.2)

-- ---- along a bucket

-- what was found is the first of those from an index on; the next to look at is the latest before that
pub record Goes (came : List Arrival) (w : ℕ) (m : Record) (i end : ℕ) (found : Option ℕ) : Type 0 where
  pub few : end ≤ length came
  pub latest : IsLatest (buckets came) end (bucket_of m.frame) i
  pub first : FindsFrom (is_echo_of w m) came (first_met m) end found

pub goes-begin : (first : ℕ) (ks : List Kept) (latest : List ℕ) (came : List Arrival) (b w : ℕ) (m : Record) (i end : ℕ) → Shows first ks latest came → b ≡ bucket_of m.frame → b < 16384
    → i ≡ index_of first (get_or latest b 0) → end ≡ length came → Goes came w m i end None
goes-begin first ks latest came b w m i end s is few at all = subst (λ n. Goes came w m i n None) (sym all) (record {
  few = omega arith;
  latest = subst (λ n. IsLatest (buckets came) (length came) n i) is (latest-is first ks latest came b i s few at);
  first = λ k l n. absurd (omega (arith, l, n));
})

pub goes-on : (first : ℕ) (ks : List Kept) (latest : List ℕ) (came : List Arrival) (w : ℕ) (m : Record) (i i' end : ℕ) (k : Kept) (q : Bool) (found found' : Option ℕ) → Shows first ks latest came
    → i < end → k ≡ get_or ks i k → i' ≡ index_of first k.before → q ≡ is_echo_of w m (get_or came i (first_met m)) → found' ≡ (if q then Some i else found)
    → Goes came w m i end found → Goes came w m i' i found'
goes-on first ks latest came w m i i' end k q found found' s some here at asked said old = record {
  few = omega (arith, some, old.few);
  latest = λ n l e.
      let own = (old.latest n (omega (arith, l, some)) e).2 in
      let link = s.linked.before i (omega (arith, some, old.few, buckets-size came)) n l (e ∙ sym own) in
      subst (λ x. (x < i) × (n ≤ x) × (get_or (buckets came) x 0 ≡ bucket_of m.frame)) (ap (λ x. index_of first x) next ∙ sym at) (link.0, link.1, link.2 ∙ own);
  first = subst (λ x. FindsFrom (is_echo_of w m) came (first_met m) i x) (sym said)
      (finds-more (is_echo_of w m) came (first_met m) i end q found asked (omega (arith, some, old.few)) some
      (λ n l e. own-or-other w m came n (omega (arith, e, old.few)) (λ same. absurd (omega (arith, l, (old.latest n e same).1)))) old.first);
}
  where
    next : get_or (befores ks) i 0 ≡ k.before
    next = get_or-map (λ (x : Kept). x.before) ks i k 0 (omega (arith, some, old.few, s.size)) ∙ ap (λ (x : Kept). x.before) (sym here)

-- what was found is all that can be, where all before that with the record's bucket came in at its own place
goes-done : (came : List Arrival) (w : ℕ) (m : Record) (i end : ℕ) (found : Option ℕ) → Goes came w m i end found → ((x : ℕ) → x < end → get_or (buckets came) x 0 ≡ bucket_of m.frame → get_or (places came) x 0 ≡ m.place)
    → found ≡ position (is_echo_of w m) came
goes-done came w m i end found old all =
    finds-all (is_echo_of w m) came (first_met m) found
    (finds-rest (is_echo_of w m) came (first_met m) 0 end found (omega arith) (λ x l n. own-or-other w m came x (omega (arith, n, old.few)) (all x n)) old.first)

-- there is none
pub goes-end : (came : List Arrival) (w : ℕ) (m : Record) (i end : ℕ) (found : Option ℕ) → end ≤ i → Goes came w m i end found → found ≡ position (is_echo_of w m) came
goes-end came w m i end found far old = goes-done came w m i end found old (λ x l e. absurd (omega (arith, far, (old.latest x l e).0)))

-- the latest of them says so
pub goes-alike : (first : ℕ) (ks : List Kept) (latest : List ℕ) (came : List Arrival) (w : ℕ) (m : Record) (i end : ℕ) (k : Kept) (found : Option ℕ) → Shows first ks latest came → i < end → k ≡ get_or ks i k
    → (k.alike && nat_eq k.place m.place) ≡ true → Goes came w m i end found → found ≡ position (is_echo_of w m) came
goes-alike first ks latest came w m i end k found s some here said old =
    goes-done came w m i end found old
    (λ x l e. let last = old.latest x l e in alike-before first ks latest came m.place i k s (omega (arith, some, old.few)) here said x last.1 (e ∙ sym last.2))
