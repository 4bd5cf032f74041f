-- A text is a datagram and a tail exactly where no test of its places holds, and in one way.
use Rattle.std.proofs.Common.{◌≡◌, ◌↔◌, ℕ, ◌+◌, ◌<◌, ◌≤◌, true, false, ltb, List, [], ◌∷◌, ◌++◌, length, take, drop, sym, ap, ◌∙◌, subst, append_assoc, arith, inl, inr}
use Rattle.std.proofs.lemmas.Bool.{ltb-false, le-ltb, or_parts, or_from, cases_Bool, false≢true}
use Rattle.std.proofs.lemmas.List.{take-append-drop, take_at, length-append}
use Rattle.wire.specs.Octets.{IsText, octet, field, octets}
use Rattle.wire.proofs.OctetsLemmas.{field-append, cells8, octets2-field}
use Rattle.wire.specs.IpParts.{Parts, joined}
use Rattle.wire.specs.Udp.{sport, dport, udp_length, udp_sum, udp_header, IsUdpHeader, SplitsUdp, udp_parts, datagram, data_of, is_bad_udp}
use Rattle.wire.proofs.CutLemmas.{joined-cut, cut-joined, length-cut_head, length-cut_payload}

-- what the tests say where none holds
pub record IsGoodUdp (p : List ℕ) : Type 0 where
  pub room : 8 ≤ length p
  pub behind : 8 ≤ udp_length p
  pub there : udp_length p ≤ length p

pub IsGoodUdp-from : (p : List ℕ) → is_bad_udp p ≡ false → IsGoodUdp p
IsGoodUdp-from p h =
    let a = or_parts _ (ltb (length p) (udp_length p)) h in
    let b = or_parts (ltb (length p) 8) (ltb (udp_length p) 8) a.0 in
    record {
      room = ltb-false _ _ b.0;
      behind = ltb-false _ _ b.1;
      there = ltb-false _ _ a.1;
    }

pub IsGoodUdp-to : (p : List ℕ) → IsGoodUdp p → is_bad_udp p ≡ false
IsGoodUdp-to p g =
    or_from _ (ltb (length p) (udp_length p))
    (or_from (ltb (length p) 8) (ltb (udp_length p) 8) (le-ltb _ _ g.room) (le-ltb _ _ g.behind)) (le-ltb _ _ g.there)

-- a datagram that no test refuses is split by its length
pub found-udp : (p : List ℕ) → is_bad_udp p ≡ false → SplitsUdp p (udp_parts p)
found-udp p good =
    let g = IsGoodUdp-from p good in
    let m = udp_length p in
    let behind = g.behind in
    let h = take 8 p in
    let e : p ≡ h ++ drop 8 p = sym (take-append-drop 8 p) in
    let len : length h ≡ 8 = length-cut_head 8 m p g.room in
    let length_is : udp_length p ≡ udp_length h = ap (field 4 2) e ∙ field-append 4 2 h (drop 8 p) (omega arith) in
    let both = length-cut_payload 8 m p behind g.there in
    record {
      header = record { octets = len; total = omega (arith, both) };
      whole = sym (joined-cut 8 m p behind);
    }

pub split-as : (p : List ℕ) (v : Parts) → is_bad_udp p ≡ false → v ≡ udp_parts p → SplitsUdp p v
split-as p v good is = subst (λ (w : Parts). SplitsUdp p w) (sym is) (found-udp p good)

-- a split of a datagram is the one by its length
only_joined : (v : Parts) → IsUdpHeader v.head (length v.payload) → (is_bad_udp (joined v) ≡ false) × (udp_parts (joined v) ≡ v)
only_joined v k =
    let h = v.head in
    let rest = v.payload ++ v.tail in
    let p = joined v in
    let octets = k.octets in
    let total = k.total in
    let len = length-append h rest in
    let len_rest = length-append v.payload v.tail in
    let length_is : udp_length p ≡ udp_length h = field-append 4 2 h rest (omega arith) in (
      IsGoodUdp-to p record { room = omega arith; behind = omega arith; there = omega arith },
      cut-joined v 8 (udp_length p) octets (omega arith),
    )

pub only-udp : (p : List ℕ) (v : Parts) → SplitsUdp p v → (is_bad_udp p ≡ false) × (udp_parts p ≡ v)
only-udp p v k =
    let P : List ℕ → Type 0 = λ x. (is_bad_udp x ≡ false) × (udp_parts x ≡ v) in
    subst P (sym k.whole) (only_joined v k.header)

-- the tests hold exactly where there is no split
no_split : (p : List ℕ) → is_bad_udp p ≡ true → (v : Parts) → ¬ SplitsUdp p v
no_split p bad v k = false≢true (sym (only-udp p v k).0 ∙ bad)

bad_without : (p : List ℕ) → ((v : Parts) → ¬ SplitsUdp p v) → is_bad_udp p ≡ true
bad_without p none = elim (cases_Bool (is_bad_udp p)) [ inl bad ↦ bad | inr good ↦ absurd (none (udp_parts p) (found-udp p good)) ]

pub none-udp : (p : List ℕ) → (is_bad_udp p ≡ true) ↔ ((v : Parts) → ¬ SplitsUdp p v)
none-udp p = (no_split p, bad_without p)

-- the length counts the header and the data
pub length-data : (p : List ℕ) → is_bad_udp p ≡ false → 8 + length (data_of p) ≡ udp_length p
length-data p good =
    let g = IsGoodUdp-from p good in
    length-cut_payload 8 (udp_length p) p g.behind g.there

-- header and data of a split are the octets that the length counts
pub datagram-split : (p : List ℕ) (v : Parts) → SplitsUdp p v → datagram p ≡ v.head ++ v.payload
datagram-split p v k =
    let same = (only-udp p v k).1 in
    let octets = k.header.octets in
    let total = k.header.total in
    let rest = v.payload ++ v.tail in
    let length_is : udp_length p ≡ udp_length v.head = ap udp_length k.whole ∙ field-append 4 2 v.head rest (omega arith) in
    let len = length-append v.head v.payload in
    ap (take (udp_length p)) (k.whole ∙ sym (append_assoc v.head v.payload v.tail))
    ∙ take_at (v.head ++ v.payload) v.tail (udp_length p) (omega arith)

-- a header of 8 octets is those of its fields
pub header-fields : (p : List ℕ) → IsText p → is_bad_udp p ≡ false → take 8 p ≡ udp_header (sport p) (dport p) (udp_sum p) (data_of p)
header-fields p text good =
    let g = IsGoodUdp-from p good in
    let cells : take 8 p ≡ octet 0 p ∷ octet 1 p ∷ octet 2 p ∷ octet 3 p ∷ octet 4 p ∷ octet 5 p ∷ octet 6 p ∷ octet 7 p ∷ [] = ap (take 8) (cells8 p g.room) in
    let len = length-data p good in
    let fields : udp_header (sport p) (dport p) (udp_sum p) (data_of p) ≡ octet 0 p ∷ octet 1 p ∷ octet 2 p ∷ octet 3 p ∷ octet 4 p ∷ octet 5 p ∷ octet 6 p ∷ octet 7 p ∷ [] =
    ap (λ (x : ℕ). octets 2 (sport p) ++ (octets 2 (dport p) ++ (octets 2 x ++ octets 2 (udp_sum p)))) len
    ∙ ap (λ (x : List ℕ). x ++ (octets 2 (dport p) ++ (octets 2 (udp_length p) ++ octets 2 (udp_sum p)))) (octets2-field 0 p text)
    ∙ ap (λ (x : List ℕ). octet 0 p ∷ octet 1 p ∷ (x ++ (octets 2 (udp_length p) ++ octets 2 (udp_sum p)))) (octets2-field 2 p text)
    ∙ ap (λ (x : List ℕ). octet 0 p ∷ octet 1 p ∷ octet 2 p ∷ octet 3 p ∷ (x ++ octets 2 (udp_sum p))) (octets2-field 4 p text)
    ∙ ap (λ (x : List ℕ). octet 0 p ∷ octet 1 p ∷ octet 2 p ∷ octet 3 p ∷ octet 4 p ∷ octet 5 p ∷ x) (octets2-field 6 p text) in
    cells ∙ sym fields

-- and its fields are those that were put in
pub record HasFields (h : List ℕ) (from to sum : ℕ) (d : List ℕ) : Type 0 where
  pub sport_is : sport h ≡ from
  pub dport_is : dport h ≡ to
  pub sum_is : udp_sum h ≡ sum
  pub length_is : udp_length h ≡ 8 + length d

pub HasFields-from : (from to sum : ℕ) (d : List ℕ) → from < 65536 → to < 65536 → sum < 65536 → 8 + length d < 65536
    → HasFields (udp_header from to sum d) from to sum d
HasFields-from from to sum d a b c e = record { sport_is = omega arith; dport_is = omega arith; sum_is = omega arith; length_is = omega arith }

-- ---- a header is read the same with data and a tail behind it

pub record ReadsAs (p h : List ℕ) : Type 0 where
  pub sport_is : sport p ≡ sport h
  pub dport_is : dport p ≡ dport h
  pub length_is : udp_length p ≡ udp_length h
  pub sum_is : udp_sum p ≡ udp_sum h

ReadsAs-append : (h rest : List ℕ) → length h ≡ 8 → ReadsAs (h ++ rest) h
ReadsAs-append h rest eight = record {
  sport_is = field-append 0 2 h rest (omega arith);
  dport_is = field-append 2 2 h rest (omega arith);
  length_is = field-append 4 2 h rest (omega arith);
  sum_is = field-append 6 2 h rest (omega arith);
}

pub ReadsAs-from : (p : List ℕ) (v : Parts) → SplitsUdp p v → ReadsAs p v.head
ReadsAs-from p v k = subst (λ (x : List ℕ). ReadsAs x v.head) (sym k.whole) (ReadsAs-append v.head (v.payload ++ v.tail) k.header.octets)
