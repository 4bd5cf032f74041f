-- What is kept stays sound.
use Rattle.std.proofs.Common.{◌≡◌, ℕ, zero, suc, ◌+◌, ◌-◌, ◌<◌, ◌≤◌, nat_lt, nat_le, eqb, Bool, true, false, ◌&&◌, if◌then◌else◌, ◌==◌, Option, Some, None, slice_get, List, [], ◌∷◌, ◌++◌, length, get_or, set, drop, refl, sym, ap, ◌∙◌, subst, arith, length-append, length-set, length-drop}
use borrow.Author.Tests.{ltb-false, ltb-true}
use Rattle.std.proofs.lemmas.Bool.{eqb-true}
use Rattle.std.proofs.lemmas.List.{set-get_or}
use Rattle.std.proofs.lemmas.Option.{get_or_from_slice_get, slice_get_past}
use Rattle.record_match.specs.Bucket.{bucket_of}
use Rattle.record_match.specs.Kept.{IsSound, NoneBehind, NoneBetween, ends_with, ends_without, laid, linked, linked_at, sent_of}
use Rattle.record_match.specs.Match.{Sent}
use Rattle.record_match.specs.declared.kept.Ends.{Ends}
use Rattle.record_match.specs.declared.kept.Kept.{Kept}
use Rattle.record_match.proofs.Indexing.{first-with, index-drop, index-link, index-put, index-take}
use Rattle.record_match.proofs.Laying.{bucket-few, is_laid-put, is_laid-set, laid-at, laid-set}

pub sound-drop : (gone passed : ℕ) (k : Kept) (ks : List Kept) (row : List ℕ) (ends : List Ends) (capacity more : ℕ) (e : Ends) → IsSound gone passed (k ∷ ks) row ends capacity → capacity ≤ more
    → IsSound (gone + 1) (passed + k.length) ks (drop k.length row) (set ends k.bucket (ends_without gone (gone + 1) k.next (get_or ends k.bucket e))) more
sound-drop gone passed k ks row ends capacity more e s m =
    let few = s.is_laid.0.few in
    let within = s.is_laid.0.within in
    record {
      is_laid = s.is_laid.1;
      is_indexed = index-drop gone k ks ends e s.is_indexed (omega (arith, few, s.buckets));
      few = omega (arith, s.few);
      small = omega (arith, s.small, length-drop k.length row);
      records = omega (arith, s.records);
      octets = omega (arith, s.octets, within, length-drop k.length row);
      buckets = length-set ends k.bucket _ ∙ s.buckets;
      reserved = omega (arith, s.reserved, m);
    }

-- what stands at an index, whatever stands in for none
pub same-at : (ks : List Kept) (i : ℕ) (d e : Kept) → i < length ks → get_or ks i d ≡ get_or ks i e
same-at [] i d e lt = absurd (omega (arith, lt))
same-at (k ∷ ks) zero d e lt = refl
same-at (k ∷ ks) (suc i) d e lt = same-at ks i d e (omega (arith, lt))

pub sound-take : (gone passed : ℕ) (ks : List Kept) (row : List ℕ) (ends : List Ends) (capacity : ℕ) (i : ℕ) (k x : Kept) (e : Ends) → IsSound gone passed ks row ends capacity → i < length ks → k ≡ get_or ks i k
    → x ≡ record k { is_taken = true }
    → IsSound gone passed (set ks i x) row (set ends x.bucket (ends_without gone (gone + i + 1) x.next (get_or ends x.bucket e))) capacity
sound-take gone passed ks row ends capacity i k x e s lt here is =
    let at : x.at ≡ (get_or ks i k).at = ap (λ (y : Kept). y.at) is ∙ ap (λ (y : Kept). y.at) here in
    let bucket : x.bucket ≡ (get_or ks i k).bucket = ap (λ (y : Kept). y.bucket) is ∙ ap (λ (y : Kept). y.bucket) here in
    let missing : x.missing ≡ (get_or ks i k).missing = ap (λ (y : Kept). y.missing) is ∙ ap (λ (y : Kept). y.missing) here in
    let size : x.length ≡ (get_or ks i k).length = ap (λ (y : Kept). y.length) is ∙ ap (λ (y : Kept). y.length) here in
    let next : x.next ≡ (get_or ks i k).next = ap (λ (y : Kept). y.next) is ∙ ap (λ (y : Kept). y.next) here in
    record {
      is_laid = is_laid-set passed ks row i x k s.is_laid lt at bucket missing size;
      is_indexed = index-take gone ks ends i x e s.is_indexed lt
          (λ d l. bucket ∙ ap (λ (y : Kept). y.bucket) (same-at ks i k d lt)) (λ d l. next ∙ ap (λ (y : Kept). y.next) (same-at ks i k d lt))
          (ap (λ (y : Kept). y.is_taken) is) (omega (arith, bucket, bucket-few passed ks row i k s.is_laid lt, s.buckets));
      few = omega (arith, s.few, length-set ks i x);
      small = s.small;
      records = omega (arith, s.records, length-set ks i x);
      octets = s.octets;
      buckets = length-set ends x.bucket _ ∙ s.buckets;
      reserved = s.reserved;
    }

-- ---- a record gets a next one

pub record Links (gone passed : ℕ) (ks new : List Kept) (row : List ℕ) (ends : List Ends) (capacity : ℕ) : Type 0 where
  pub sound : IsSound gone passed new row ends capacity
  pub held : laid new row ≡ laid ks row
  pub count : length new ≡ length ks

unlinked : (gone passed : ℕ) (ks : List Kept) (row : List ℕ) (ends : List Ends) (capacity : ℕ) → IsSound gone passed ks row ends capacity → Links gone passed ks ks row ends capacity
unlinked gone passed ks row ends capacity s = record { sound = s; held = refl; count = refl }

stands-at : (ks : List Kept) (i : ℕ) (k : Kept) → slice_get ks i ≡ Some k → (i < length ks) × (get_or ks i k ≡ k)
stands-at ks i k h = by (nat_lt i (length ks)) refl
  where
    by : (q : Bool) → nat_lt i (length ks) ≡ q → (i < length ks) × (get_or ks i k ≡ k)
    by true l = (ltb-true i (length ks) l, get_or_from_slice_get ks i k k h)
    by false l = let none = slice_get_past ks i (ltb-false i (length ks) l) in absurd cc

pub sound-link : (gone passed : ℕ) (ks : List Kept) (row : List ℕ) (ends : List Ends) (capacity bucket number : ℕ) (e : Ends) → IsSound gone passed ks row ends capacity → e ≡ get_or ends bucket e → bucket < length ends
    → number ≡ gone + length ks + 1 → Links gone passed ks (linked gone e.last bucket number ks) row ends capacity
sound-link gone passed ks row ends capacity bucket number e s here few n = by (nat_lt gone e.last) refl
  where
    one : (k : Kept) (i : ℕ) → i < length ks → get_or ks i k ≡ k → k.bucket ≡ bucket → gone + i + 1 ≡ e.last → Links gone passed ks (set ks i (record k { next = number })) row ends capacity
    one k i lt at own last =
        let x : Kept = record k { next = number } in
        let known : (d : Kept) → k ≡ get_or ks i d = λ d. sym at ∙ same-at ks i k d lt in
        let none : NoneBetween gone ks x.bucket (gone + i + 1) x.next = λ j d l lo hi is.
        s.is_indexed.last bucket e few j d l (omega (arith, lo, last, ap (λ (y : Ends). y.last) here)) (omega (arith, hi, n)) (is ∙ own) in
        let held = laid-set ks row i x k (sent_of k []) lt (ap (λ (y : Kept). y.length) (sym at)) in
        record {
          sound = record {
            is_laid = is_laid-set passed ks row i x k s.is_laid lt (ap (λ (y : Kept). y.at) (sym at)) (ap (λ (y : Kept). y.bucket) (sym at)) (ap (λ (y : Kept). y.missing) (sym at)) (ap (λ (y : Kept). y.length) (sym at));
            is_indexed = index-link gone ks ends i x s.is_indexed lt (λ d l. ap (λ (y : Kept). y.bucket) (known d)) (λ d l t. ap (λ (y : Kept). y.is_taken) (known d) ∙ t) none (omega (arith, n));
            few = omega (arith, s.few, length-set ks i x);
            small = s.small;
            records = omega (arith, s.records, length-set ks i x);
            octets = s.octets;
            buckets = s.buckets;
            reserved = s.reserved;
          };
          held = held ∙ ap (λ (y : Sent). set (laid ks row) i y) (as-was k i lt at) ∙ set-get_or (laid ks row) i (sent_of k []);
          count = length-set ks i x;
        }
      where
        as-was : (k : Kept) (i : ℕ) → i < length ks → get_or ks i k ≡ k → sent_of (record k { next = number }) (get_or (laid ks row) i (sent_of k [])).octets ≡ get_or (laid ks row) i (sent_of k [])
        as-was k i lt at =
            let own = laid-at passed ks row i k (sent_of k []) s.is_laid lt in
            rw (own, at) refl

    found : (i : ℕ) (o : Option Kept) → slice_get ks i ≡ o → gone + i + 1 ≡ e.last → Links gone passed ks (linked_at bucket number ks i) row ends capacity
    found i None h last = rw (h, linked_at) (unlinked gone passed ks row ends capacity s)
    found i (Some k) h last = rw (h, linked_at) (bucketed (eqb k.bucket bucket) refl)
      where
        bucketed : (q : Bool) → eqb k.bucket bucket ≡ q → Links gone passed ks (if k.bucket == bucket then set ks i (record k { next = number }) else ks) row ends capacity
        bucketed true g = let at = stands-at ks i k h in rw g (one k i at.0 at.1 (eqb-true k.bucket bucket g) last)
        bucketed false g = rw g (unlinked gone passed ks row ends capacity s)

    by : (q : Bool) → nat_lt gone e.last ≡ q → Links gone passed ks (linked gone e.last bucket number ks) row ends capacity
    by false h = rw h (unlinked gone passed ks row ends capacity s)
    by true h = let l = ltb-true gone e.last h in rw h (found (e.last - gone - 1) (slice_get ks (e.last - gone - 1)) refl (omega (arith, l)))

-- ---- one more record

first-small : (gone number : ℕ) (e : Ends) → (ends_with gone number e).first ≤ number
first-small gone number e = by (nat_lt gone e.last && nat_le e.first e.last) refl
  where
    by : (q : Bool) → (nat_lt gone e.last && nat_le e.first e.last) ≡ q → (ends_with gone number e).first ≤ number
    by true h = rw h (omega arith)
    by false h = rw h (omega arith)

pub sound-put : (gone passed : ℕ) (ks : List Kept) (row : List ℕ) (ends : List Ends) (capacity more : ℕ) (k : Kept) (text : List ℕ) (number : ℕ) (e : Ends) → IsSound gone passed ks row ends capacity → e ≡ get_or ends k.bucket e
    → number ≡ gone + length ks + 1 → k.at ≡ passed + length row → k.bucket ≡ bucket_of k.missing text → k.bucket < 262144 → k.length ≡ length text → k.next ≡ 0
    → length ks < 1048576 → length row + length text ≤ 268435456 → gone + length ks < 4611686018427387904 → passed + length row + length text ≤ 4611686018427387904 → capacity ≤ more
    → IsSound gone passed (ks ++ k ∷ []) (row ++ text) (set ends k.bucket (ends_with gone number e)) more
sound-put gone passed ks row ends capacity more k text number e s here n at bucket few size next room small records octets reserved =
    let inside : k.bucket < length ends = omega (arith, few, s.buckets) in
    let first : NoneBetween gone ks k.bucket 0 e.first = subst (λ (y : Ends). NoneBetween gone ks k.bucket 0 y.first) (sym here) (s.is_indexed.first k.bucket e inside) in
    let last : NoneBehind gone ks k.bucket e.last = subst (λ (y : Ends). NoneBehind gone ks k.bucket y.last) (sym here) (s.is_indexed.last k.bucket e inside) in
    record {
      is_laid = is_laid-put passed ks row k text s.is_laid at bucket few size;
      is_indexed = index-put gone ks ends k number e s.is_indexed n next inside (first-with gone ks k.bucket number e n first last) (first-small gone number e);
      few = omega (arith, room, length-append ks (k ∷ []));
      small = omega (arith, small, length-append row text);
      records = omega (arith, records, length-append ks (k ∷ []));
      octets = omega (arith, octets, length-append row text);
      buckets = length-set ends k.bucket _ ∙ s.buckets;
      reserved = omega (arith, s.reserved, reserved);
    }
