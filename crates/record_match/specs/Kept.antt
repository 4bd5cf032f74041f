-- How a window keeps records: their octets one behind the other in one row, and numbers that say where to look. It serves
-- proofs.
use Rattle.std.specs.Prelude.{◌≡◌, ◌<◌, ◌≤◌, ◌==◌, ℕ, ◌+◌, ◌-◌, max, min, nat_lt, nat_le, ◌&&◌, if◌then◌else◌}
use Rattle.std.specs.Prelude.{true, List, [], ◌∷◌, drop, get_or, length, take, slice_get, set, Some, None}
use Rattle.record_match.specs.Bucket.{bucket_of}
use Rattle.record_match.specs.Match.{Record, Sent}
use Rattle.record_match.specs.declared.kept.Ends.{Ends}
use Rattle.record_match.specs.declared.kept.Kept.{Kept}
use Rattle.record_match.specs.declared.seen.Seen.{Seen}

-- what a record tells
abbrev pub told : Seen → Record
told s = record { moment = s.moment; octets = s.octets.now; missing = s.missing }

-- a record with its octets
abbrev pub sent_of : Kept → List ℕ → Sent
sent_of k octets = record { moment = k.moment; octets = octets; missing = k.missing; is_taken = k.is_taken }

-- records with their octets, which stand in one row
abbrev pub laid : List Kept → List ℕ → List Sent
laid [] row = []
laid (k ∷ ks) row = sent_of k (take k.length row) ∷ laid ks (drop k.length row)

-- the first record: so many octets were sent before it, it has the bucket of its octets, and the row has all of them
pub record IsFirst (at : ℕ) (k : Kept) (row : List ℕ) : Type 0 where
  pub at_is : k.at ≡ at
  pub bucket_is : k.bucket ≡ bucket_of k.missing (take k.length row)
  pub few : k.bucket < 262144
  pub within : k.length ≤ length row

-- the row has the octets of the records and no others; so many octets were sent before them
abbrev pub IsLaid : ℕ → List Kept → List ℕ → Type 0
IsLaid at [] row = row ≡ []
IsLaid at (k ∷ ks) row = IsFirst at k row × IsLaid (at + k.length) ks (drop k.length row)

-- of a bucket's records between two numbers, all were received; so many went before the first of these
abbrev pub NoneBetween : ℕ → List Kept → ℕ → ℕ → ℕ → Type 0
NoneBetween gone ks bucket low high =
    (i : ℕ) (d : Kept) → i < length ks → low < gone + i + 1 → gone + i + 1 < high → (get_or ks i d).bucket ≡ bucket
    → (get_or ks i d).is_taken ≡ true

-- and of those behind a number
abbrev pub NoneBehind : ℕ → List Kept → ℕ → ℕ → Type 0
NoneBehind gone ks bucket low = NoneBetween gone ks bucket low (gone + length ks + 1)

-- none that is awaited stands before the first record of its bucket, behind the last, or between one and the next; and the next
-- one has at most the number that comes next
pub record IsIndexed (gone : ℕ) (ks : List Kept) (ends : List Ends) : Type 0 where
  pub first : (b : ℕ) (e : Ends) → b < length ends → NoneBetween gone ks b 0 (get_or ends b e).first
  pub last : (b : ℕ) (e : Ends) → b < length ends → NoneBehind gone ks b (get_or ends b e).last
  pub next : (j : ℕ) (d : Kept) → j < length ks → NoneBetween gone ks (get_or ks j d).bucket (gone + j + 1) (get_or ks j d).next
  pub known : (j : ℕ) (d : Kept) → j < length ks → (get_or ks j d).next ≤ gone + length ks + 1

-- the number behind one, where the next one of its bucket has this number, or none has
abbrev pub behind : ℕ → ℕ → ℕ
behind number next = max next (number + 1)

-- the ends of a bucket once the record with this number was received or went
abbrev pub ends_without : ℕ → ℕ → ℕ → Ends → Ends
ends_without gone number next e = if max e.first (gone + 1) == number then record e { first = behind number next } else e

-- and once one with this number was sent
abbrev pub ends_with : ℕ → ℕ → Ends → Ends
ends_with gone number e = record {
  first = if nat_lt gone e.last && nat_le e.first e.last then min e.first number else number;
  last = number;
}

-- all of it, with the bounds
pub record IsSound (gone passed : ℕ) (ks : List Kept) (row : List ℕ) (ends : List Ends) (capacity : ℕ) : Type 0 where
  pub is_laid : IsLaid passed ks row
  pub is_indexed : IsIndexed gone ks ends
  pub few : length ks ≤ 1048576
  pub small : length row ≤ 268435456
  pub records : gone + length ks ≤ 4611686018427387904
  pub octets : passed + length row ≤ 4611686018427387904
  pub buckets : length ends ≡ 262144
  pub reserved : 1048576 ≤ capacity

-- records of which that at an index, where there is one and it is of this bucket, has this number as the next
abbrev pub linked_at : ℕ → ℕ → List Kept → ℕ → List Kept
linked_at bucket number ks i = elim (slice_get ks i)
    [ Some k ↦ (if k.bucket == bucket then set ks i (record k { next = number }) else ks) | None ↦ ks ]

-- the same of the last record of a bucket, by its number
abbrev pub linked : ℕ → ℕ → ℕ → ℕ → List Kept → List Kept
linked gone last bucket number ks = if nat_lt gone last then linked_at bucket number ks (last - gone - 1) else ks
