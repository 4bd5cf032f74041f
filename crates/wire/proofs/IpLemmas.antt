-- A text is a packet and a trailer exactly where no test of its places holds, and in one way.
use Rattle.std.proofs.Common.{◌≡◌, ℕ, ◌+◌, ◌*◌, ◌/◌, ◌%◌, ◌≤◌, true, false, not, ◌||◌, eqb, ltb, List, ◌++◌, length, take, drop, refl, sym, ap, ◌∙◌, subst, arith, inl, inr, ◌↔◌}
use Rattle.std.proofs.lemmas.Bool.{eqb-true, eq-eqb, ltb-false, le-ltb, or_parts, or_from, not-false, not_from_true, cases_Bool, false≢true}
use Rattle.std.proofs.lemmas.List.{take-append-drop, length-append}
use Rattle.wire.specs.Octets.{octet, field}
use Rattle.wire.proofs.OctetsLemmas.{octet-append, field-append, part-append}
use Rattle.wire.specs.Sum.{total, folded}
use Rattle.wire.specs.declared.ip_udp.addr.Addr.TheVariants.{V4, V6}
use Rattle.wire.specs.IpParts.{Parts, joined}
use Rattle.wire.specs.Ip.{Family, Ip4, Ip6, version, ihl, header_length, total_length, payload_length, IsHeader, IsHeader4, IsHeader6, SplitsIp, IsSumRight, is_fragment, protocol, source, destination, packet_parts, is_bad_ip, is_bad_ip_sum}
use Rattle.wire.proofs.CutLemmas.{joined-cut, cut-joined, length-cut_head, length-cut_payload}

-- a test of equality that fails, and one that holds
pub equal : (a b : ℕ) → not (eqb a b) ≡ false → a ≡ b
equal a b h = eqb-true a b (not-false (eqb a b) h)

pub not_other : (a b : ℕ) → a ≡ b → not (eqb a b) ≡ false
not_other a b e = not_from_true (eqb a b) (eq-eqb a b e)

-- what the tests say where none holds
pub record IsGood4 (r : List ℕ) : Type 0 where
  pub room : 20 ≤ length r
  pub version_is : version r ≡ 4
  pub shortest : 5 ≤ ihl r
  pub behind : header_length Ip4 r ≤ total_length r
  pub there : total_length r ≤ length r

pub IsGood4-from : (r : List ℕ) → is_bad_ip Ip4 r ≡ false → IsGood4 r
IsGood4-from r h =
    let a = or_parts _ (ltb (length r) (total_length r)) h in
    let b = or_parts _ (ltb (total_length r) (header_length Ip4 r)) a.0 in
    let c = or_parts _ (ltb (ihl r) 5) b.0 in
    let d = or_parts (ltb (length r) 20) (not (eqb (version r) 4)) c.0 in
    record {
      room = ltb-false _ _ d.0;
      version_is = equal (version r) 4 d.1;
      shortest = ltb-false _ _ c.1;
      behind = ltb-false _ _ b.1;
      there = ltb-false _ _ a.1;
    }

pub IsGood4-to : (r : List ℕ) → IsGood4 r → is_bad_ip Ip4 r ≡ false
IsGood4-to r g =
    or_from _ (ltb (length r) (total_length r))
    (or_from _ (ltb (total_length r) (header_length Ip4 r))
    (or_from _ (ltb (ihl r) 5)
    (or_from (ltb (length r) 20) (not (eqb (version r) 4)) (le-ltb _ _ g.room) (not_other (version r) 4 g.version_is))
    (le-ltb _ _ g.shortest)) (le-ltb _ _ g.behind)) (le-ltb _ _ g.there)

pub record IsGood6 (r : List ℕ) : Type 0 where
  pub room : 40 ≤ length r
  pub version_is : version r ≡ 6
  pub there : 40 + payload_length r ≤ length r

pub IsGood6-from : (r : List ℕ) → is_bad_ip Ip6 r ≡ false → IsGood6 r
IsGood6-from r h =
    let a = or_parts _ (ltb (length r) (40 + payload_length r)) h in
    let b = or_parts (ltb (length r) 40) (not (eqb (version r) 6)) a.0 in
    record {
      room = ltb-false _ _ b.0;
      version_is = equal (version r) 6 b.1;
      there = ltb-false _ _ a.1;
    }

pub IsGood6-to : (r : List ℕ) → IsGood6 r → is_bad_ip Ip6 r ≡ false
IsGood6-to r g =
    or_from _ (ltb (length r) (40 + payload_length r))
    (or_from (ltb (length r) 40) (not (eqb (version r) 6)) (le-ltb _ _ g.room) (not_other (version r) 6 g.version_is))
    (le-ltb _ _ g.there)

-- ---- a packet that no test refuses is split by its lengths

found4 : (r : List ℕ) → IsGood4 r → SplitsIp Ip4 r (packet_parts Ip4 r)
found4 r g =
    let n = header_length Ip4 r in
    let m = total_length r in
    let shortest = g.shortest in
    let behind = g.behind in
    let there = g.there in
    let h = take n r in
    let s = drop n r in
    let e : r ≡ h ++ s = sym (take-append-drop n r) in
    let len : length h ≡ n = length-cut_head n m r (omega arith) in
    let first : octet 0 r ≡ octet 0 h = ap (octet 0) e ∙ octet-append 0 h s (omega arith) in
    let total_is : total_length r ≡ total_length h = ap (field 2 2) e ∙ field-append 2 2 h s (omega arith) in
    let ihl_is : ihl r ≡ ihl h = ap (λ (x : ℕ). x % 16) first in
    let both = length-cut_payload n m r (omega arith) there in
    record {
      header = record {
        version = ap (λ (x : ℕ). x / 16) (sym first) ∙ g.version_is;
        shortest = omega arith;
        octets = len ∙ ap (λ (x : ℕ). 4 * x) ihl_is;
        total = omega (arith, both);
      };
      whole = sym (joined-cut n m r behind);
    }

found6 : (r : List ℕ) → IsGood6 r → SplitsIp Ip6 r (packet_parts Ip6 r)
found6 r g =
    let m = 40 + payload_length r in
    let room = g.room in
    let there = g.there in
    let h = take 40 r in
    let s = drop 40 r in
    let e : r ≡ h ++ s = sym (take-append-drop 40 r) in
    let len : length h ≡ 40 = length-cut_head 40 m r room in
    let first : octet 0 r ≡ octet 0 h = ap (octet 0) e ∙ octet-append 0 h s (omega arith) in
    let length_is : payload_length r ≡ payload_length h = ap (field 4 2) e ∙ field-append 4 2 h s (omega arith) in
    let both = length-cut_payload 40 m r (omega arith) there in
    record {
      header = record {
        version = ap (λ (x : ℕ). x / 16) (sym first) ∙ g.version_is;
        octets = len;
        total = omega (arith, both);
      };
      whole = sym (joined-cut 40 m r (omega arith));
    }

pub found-ip : (f : Family) (r : List ℕ) → is_bad_ip f r ≡ false → SplitsIp f r (packet_parts f r)
found-ip Ip4 r good = found4 r (IsGood4-from r good)
found-ip Ip6 r good = found6 r (IsGood6-from r good)

-- and so are parts that are the same
pub split-as : (f : Family) (r : List ℕ) (v : Parts) → is_bad_ip f r ≡ false → v ≡ packet_parts f r → SplitsIp f r v
split-as f r v good is = subst (λ (w : Parts). SplitsIp f r w) (sym is) (found-ip f r good)

-- ---- a split of a packet is the one by its lengths

only4 : (v : Parts) → IsHeader4 v.head (length v.payload) → (is_bad_ip Ip4 (joined v) ≡ false) × (packet_parts Ip4 (joined v) ≡ v)
only4 v k =
    let h = v.head in
    let rest = v.payload ++ v.tail in
    let r = joined v in
    let shortest = k.shortest in
    let octets = k.octets in
    let total = k.total in
    let len = length-append h rest in
    let len_rest = length-append v.payload v.tail in
    let first : octet 0 r ≡ octet 0 h = octet-append 0 h rest (omega arith) in
    let ihl_is : ihl r ≡ ihl h = ap (λ (x : ℕ). x % 16) first in
    let total_is : total_length r ≡ total_length h = field-append 2 2 h rest (omega arith) in (
      IsGood4-to r record {
        room = omega arith;
        version_is = ap (λ (x : ℕ). x / 16) first ∙ k.version;
        shortest = omega arith;
        behind = omega arith;
        there = omega arith;
      },
      cut-joined v (header_length Ip4 r) (total_length r) (omega arith) (omega arith),
    )

only6 : (v : Parts) → IsHeader6 v.head (length v.payload) → (is_bad_ip Ip6 (joined v) ≡ false) × (packet_parts Ip6 (joined v) ≡ v)
only6 v k =
    let h = v.head in
    let rest = v.payload ++ v.tail in
    let r = joined v in
    let octets = k.octets in
    let total = k.total in
    let len = length-append h rest in
    let len_rest = length-append v.payload v.tail in
    let first : octet 0 r ≡ octet 0 h = octet-append 0 h rest (omega arith) in
    let length_is : payload_length r ≡ payload_length h = field-append 4 2 h rest (omega arith) in (
      IsGood6-to r record {
        room = omega arith;
        version_is = ap (λ (x : ℕ). x / 16) first ∙ k.version;
        there = omega arith;
      },
      cut-joined v 40 (40 + payload_length r) octets (omega arith),
    )

only_joined : (f : Family) (v : Parts) → IsHeader f v.head (length v.payload) → (is_bad_ip f (joined v) ≡ false) × (packet_parts f (joined v) ≡ v)
only_joined Ip4 v k = only4 v k
only_joined Ip6 v k = only6 v k

pub only-ip : (f : Family) (r : List ℕ) (v : Parts) → SplitsIp f r v → (is_bad_ip f r ≡ false) × (packet_parts f r ≡ v)
only-ip f r v k =
    let P : List ℕ → Type 0 = λ x. (is_bad_ip f x ≡ false) × (packet_parts f x ≡ v) in
    subst P (sym k.whole) (only_joined f v k.header)

-- ---- the tests hold exactly where there is no split

no_split : (f : Family) (r : List ℕ) → is_bad_ip f r ≡ true → (v : Parts) → ¬ SplitsIp f r v
no_split f r bad v k = false≢true (sym (only-ip f r v k).0 ∙ bad)

bad_without : (f : Family) (r : List ℕ) → ((v : Parts) → ¬ SplitsIp f r v) → is_bad_ip f r ≡ true
bad_without f r none = elim (cases_Bool (is_bad_ip f r)) [ inl bad ↦ bad | inr good ↦ absurd (none (packet_parts f r) (found-ip f r good)) ]

pub none-ip : (f : Family) (r : List ℕ) → (is_bad_ip f r ≡ true) ↔ ((v : Parts) → ¬ SplitsIp f r v)
none-ip f r = (no_split f r, bad_without f r)

-- ---- a header is read the same with a payload and a trailer behind it

pub record ReadsAs (f : Family) (r h : List ℕ) : Type 0 where
  pub fragment_is : is_fragment f r ≡ is_fragment f h
  pub protocol_is : protocol f r ≡ protocol f h
  pub source_is : source f r ≡ source f h
  pub destination_is : destination f r ≡ destination f h

ReadsAs4 : (h rest : List ℕ) → 20 ≤ length h → ReadsAs Ip4 (h ++ rest) h
ReadsAs4 h rest long = record {
  fragment_is = ap (λ (x : ℕ). eqb (x / 8192 % 2) 1 || not (eqb (x % 8192) 0)) (field-append 6 2 h rest (omega arith));
  protocol_is = octet-append 9 h rest (omega arith);
  source_is = ap V4 (part-append 12 4 h rest (omega arith));
  destination_is = ap V4 (part-append 16 4 h rest (omega arith));
}

ReadsAs6 : (h rest : List ℕ) → length h ≡ 40 → ReadsAs Ip6 (h ++ rest) h
ReadsAs6 h rest long = record {
  fragment_is = ap (λ (x : ℕ). eqb x 44) (octet-append 6 h rest (omega arith));
  protocol_is = octet-append 6 h rest (omega arith);
  source_is = ap V6 (part-append 8 16 h rest (omega arith));
  destination_is = ap V6 (part-append 24 16 h rest (omega arith));
}

ReadsAs_joined : (f : Family) (v : Parts) → IsHeader f v.head (length v.payload) → ReadsAs f (joined v) v.head
ReadsAs_joined Ip4 v k =
    let shortest = k.shortest in
    let octets = k.octets in
    ReadsAs4 v.head (v.payload ++ v.tail) (omega arith)
ReadsAs_joined Ip6 v k = ReadsAs6 v.head (v.payload ++ v.tail) k.octets

pub ReadsAs-from : (f : Family) (r : List ℕ) (v : Parts) → SplitsIp f r v → ReadsAs f r v.head
ReadsAs-from f r v k = subst (λ (x : List ℕ). ReadsAs f x v.head) (sym k.whole) (ReadsAs_joined f v k.header)

-- the header checksum of a split is that of its header
pub IsSumRight-from : (f : Family) (r : List ℕ) → is_bad_ip_sum f r ≡ false → IsSumRight f (packet_parts f r).head
IsSumRight-from Ip4 r right = equal (folded (total (packet_parts Ip4 r).head)) 65535 right
IsSumRight-from Ip6 r right = tt

pub IsSumRight-to : (f : Family) (r : List ℕ) (v : Parts) → packet_parts f r ≡ v → IsSumRight f v.head → is_bad_ip_sum f r ≡ false
IsSumRight-to Ip4 r v e right = ap (λ (w : Parts). not (eqb (folded (total w.head)) 65535)) e ∙ not_other (folded (total v.head)) 65535 right
IsSumRight-to Ip6 r v e right = refl
