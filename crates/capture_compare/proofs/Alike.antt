-- Pairs of near records that are counted together.
use Rattle.std.proofs.Common.{◌≡◌, ◌∙◌, refl, sym, ap, subst, ℕ, ◌+◌, ◌-◌, ◌^◌, ◌<◌, ◌≤◌, min, eqb, nat_lt, Bool, true, false, ◌&&◌, if◌then◌else◌, is_some, option_map, List, [], ◌∷◌, ◌++◌, length, Option, Some, None, arith, length-append}
use Rattle.std.specs.Prelude.{IfSome}
use Rattle.std.specs.List.{FoldsTo}
use Rattle.std.proofs.lemmas.List.{append-nil, append_assoc}
use Rattle.std.proofs.lemmas.Bool.{eq-eqb, eqb-true, ltb-false, ltb-true}
use Rattle.wire.specs.Addr.{same_addr, same_kind}
use Rattle.wire.specs.declared.ip_udp.addr.Addr.{Addr}
use Rattle.wire.specs.declared.ip_udp.addr.Addr.TheVariants.{V4, V6}
use Rattle.wire.specs.declared.ip_udp.addr.Tunnel.{Tunnel}
use Rattle.wire.specs.declared.ip_udp.addr.Tunnel.TheVariants.{Vxlan, Geneve}
use Rattle.wire.proofs.OctetsLemmas.{is_same-refl, is_same-true}
use Rattle.capture_compare.specs.Difference.{same_vid}
use Rattle.capture_compare.specs.Differing.{Counted, counted, has_row, is_such, no_pairs, row_of, same_difference, same_segment, with_pair}
use Rattle.capture_compare.specs.DifferingLaws.{EachPairHasARow, EachRowCountsItsPairs, IsRowOf, first_such, row_in, such_in}
use Rattle.capture_compare.specs.Finding.{with_one}
use Rattle.capture_compare.specs.declared.lonely.difference.Difference.{Difference}
use Rattle.capture_compare.specs.declared.lonely.difference.Difference.TheVariants.{Vni, Kind, Remote, Tag, Length}
use Rattle.capture_compare.specs.declared.lonely.pairs.DifferenceRow.{DifferenceRow}
use Rattle.capture_compare.specs.declared.lonely.pairs.NearPair.{NearPair}
use Rattle.capture_compare.specs.declared.lonely.segment.RecordSegment.{RecordSegment}
use Rattle.capture_compare.specs.declared.lonely.segment.RecordSegment.TheVariants as segments

-- ---- what is the same

both-true : (a b : Bool) → (a && b) ≡ true → (a ≡ true) × (b ≡ true)
both-true true true h = (refl, refl)
both-true true false h = absurd cc
both-true false b h = absurd cc

kind-same : (a b : Tunnel) → same_kind a b ≡ true → a ≡ b
kind-same Vxlan Vxlan h = refl
kind-same Geneve Geneve h = refl
kind-same Vxlan Geneve h = absurd cc
kind-same Geneve Vxlan h = absurd cc

kind-refl : (a : Tunnel) → same_kind a a ≡ true
kind-refl Vxlan = refl
kind-refl Geneve = refl

addr-same : (a b : Addr) → same_addr a b ≡ true → a ≡ b
addr-same (V4 a) (V4 b) h = ap V4 (is_same-true a b h)
addr-same (V4 a) (V6 b) h = absurd cc
addr-same (V6 a) (V4 b) h = absurd cc
addr-same (V6 a) (V6 b) h = ap V6 (is_same-true a b h)

addr-refl : (a : Addr) → same_addr a a ≡ true
addr-refl (V4 a) = is_same-refl a
addr-refl (V6 a) = is_same-refl a

vid-same : (a b : Option ℕ) → same_vid a b ≡ true → a ≡ b
vid-same (Some a) (Some b) h = ap (λ (n : ℕ). Some n) (eqb-true a b h)
vid-same (Some a) None h = absurd cc
vid-same None (Some b) h = absurd cc
vid-same None None h = refl

vid-refl : (a : Option ℕ) → same_vid a a ≡ true
vid-refl (Some a) = eq-eqb a a refl
vid-refl None = refl

and-of : (a b : Bool) → a ≡ true → b ≡ true → (a && b) ≡ true
and-of a b h g = rw (h, g) refl

segment-same : (a b : RecordSegment) → same_segment a b ≡ true → a ≡ b
segment-same segments.Untagged segments.Untagged h = refl
segment-same (segments.Vlan a) (segments.Vlan b) h = ap (λ (n : ℕ). segments.Vlan n) (eqb-true a b h)
segment-same (segments.Tunnel k a) (segments.Tunnel l b) h =
    let both = both-true (same_kind k l) (eqb a b) h in
    ap (λ (x : Tunnel). segments.Tunnel x a) (kind-same k l both.0) ∙ ap (λ (n : ℕ). segments.Tunnel l n) (eqb-true a b both.1)
segment-same segments.NoTunnel segments.NoTunnel h = refl
segment-same a b h = absurd cc

segment-refl : (a : RecordSegment) → same_segment a a ≡ true
segment-refl segments.Untagged = refl
segment-refl (segments.Vlan a) = eq-eqb a a refl
segment-refl (segments.Tunnel k a) = and-of (same_kind k k) (eqb a a) (kind-refl k) (eq-eqb a a refl)
segment-refl segments.NoTunnel = refl

difference-same : (a b : Difference) → same_difference a b ≡ true → a ≡ b
difference-same (Vni a b) (Vni c d) h =
    let both = both-true (eqb a c) (eqb b d) h in
    ap (λ (n : ℕ). Vni n b) (eqb-true a c both.0) ∙ ap (λ (n : ℕ). Vni c n) (eqb-true b d both.1)
difference-same (Kind a b) (Kind c d) h =
    let both = both-true (same_kind a c) (same_kind b d) h in
    ap (λ (x : Tunnel). Kind x b) (kind-same a c both.0) ∙ ap (λ (x : Tunnel). Kind c x) (kind-same b d both.1)
difference-same (Remote a b) (Remote c d) h =
    let both = both-true (same_addr a c) (same_addr b d) h in
    ap (λ (x : Addr). Remote x b) (addr-same a c both.0) ∙ ap (λ (x : Addr). Remote c x) (addr-same b d both.1)
difference-same (Tag a b) (Tag c d) h =
    let both = both-true (same_vid a c) (same_vid b d) h in
    ap (λ (x : Option ℕ). Tag x b) (vid-same a c both.0) ∙ ap (λ (x : Option ℕ). Tag c x) (vid-same b d both.1)
difference-same (Length a b) (Length c d) h =
    let both = both-true (eqb a c) (eqb b d) h in
    ap (λ (n : ℕ). Length n b) (eqb-true a c both.0) ∙ ap (λ (n : ℕ). Length c n) (eqb-true b d both.1)
difference-same a b h = absurd cc

difference-refl : (a : Difference) → same_difference a a ≡ true
difference-refl (Vni a b) = and-of (eqb a a) (eqb b b) (eq-eqb a a refl) (eq-eqb b b refl)
difference-refl (Kind a b) = and-of (same_kind a a) (same_kind b b) (kind-refl a) (kind-refl b)
difference-refl (Remote a b) = and-of (same_addr a a) (same_addr b b) (addr-refl a) (addr-refl b)
difference-refl (Tag a b) = and-of (same_vid a a) (same_vid b b) (vid-refl a) (vid-refl b)
difference-refl (Length a b) = and-of (eqb a a) (eqb b b) (eq-eqb a a refl) (eq-eqb b b refl)

-- ---- which pairs are counted together

such-refl : (p : NearPair) → is_such p p ≡ true
such-refl p = and-of (same_segment p.segment p.segment) (same_difference p.difference p.difference) (segment-refl p.segment) (difference-refl p.difference)

such-on : (p q r : NearPair) → is_such p q ≡ true → is_such q r ≡ is_such p r
such-on p q r h =
    let both = both-true (same_segment p.segment q.segment) (same_difference p.difference q.difference) h in
    ap (λ (s : RecordSegment). same_segment s r.segment && same_difference q.difference r.difference) (sym (segment-same p.segment q.segment both.0))
    ∙ ap (λ (d : Difference). same_segment p.segment r.segment && same_difference d r.difference) (sym (difference-same p.difference q.difference both.1))

such-back : (p q : NearPair) → is_such p q ≡ true → is_such q p ≡ true
such-back p q h = such-on p q p h ∙ such-refl p

-- which of two is asked doesn't matter
such-both : (p q : NearPair) → is_such p q ≡ is_such q p
such-both p q = by (is_such p q) (is_such q p) refl refl
  where
    by : (a b : Bool) → is_such p q ≡ a → is_such q p ≡ b → is_such p q ≡ is_such q p
    by true b h g = h ∙ sym (such-back p q h)
    by false true h g = such-back q p g ∙ sym g
    by false false h g = h ∙ sym g

-- of two that aren't counted together one is with a third
not-such : (r q p : NearPair) → is_such r q ≡ true → is_such p q ≡ false → is_such r p ≡ false
not-such r q p g h = sym (such-on r q p g) ∙ such-both q p ∙ h

-- of two that are, both are with a third, or neither is
so-such : (r q p : NearPair) → is_such p q ≡ true → is_such r q ≡ is_such r p
so-such r q p h = such-both r q ∙ such-on p q r h ∙ such-both p r

-- ---- the row of a pair

-- that of another kind stays
other-row : (p q : NearPair) (rows : List DifferenceRow) → is_such p q ≡ false → row_in p (counted q rows) ≡ row_in p rows
other-row p q [] h = refl
other-row p q (r ∷ rows) h = by (is_such r.first q) refl (other-row p q rows h)
  where
    by : (b : Bool) → is_such r.first q ≡ b → row_in p (counted q rows) ≡ row_in p rows → row_in p (counted q (r ∷ rows)) ≡ row_in p (r ∷ rows)
    by true g rest = rw (g, not-such r.first q p g h) refl
    by false g rest = rw g (ap (λ (o : Option DifferenceRow). if is_such r.first p then Some r else o) rest)

-- that of its own kind counts one more
own-row : (p q : NearPair) (rows : List DifferenceRow) → is_such p q ≡ true → row_in p (counted q rows) ≡ option_map with_one (row_in p rows)
own-row p q [] h = refl
own-row p q (r ∷ rows) h = by (is_such r.first q) refl (own-row p q rows h)
  where
    by : (b : Bool) → is_such r.first q ≡ b → row_in p (counted q rows) ≡ option_map with_one (row_in p rows) → row_in p (counted q (r ∷ rows)) ≡ option_map with_one (row_in p (r ∷ rows))
    by true g rest = let own : is_such r.first p ≡ true = sym (so-such r.first q p h) ∙ g in rw (g, own) refl
    by false g rest = let own : is_such r.first p ≡ false = sym (so-such r.first q p h) ∙ g in rw (g, own) rest

has-own : (p q : NearPair) (rows : List DifferenceRow) → is_such p q ≡ true → has_row q rows ≡ is_some (row_in p rows)
has-own p q [] h = refl
has-own p q (r ∷ rows) h = by (is_such r.first q) refl (has-own p q rows h)
  where
    by : (b : Bool) → is_such r.first q ≡ b → has_row q rows ≡ is_some (row_in p rows) → has_row q (r ∷ rows) ≡ is_some (row_in p (r ∷ rows))
    by true g rest = let own : is_such r.first p ≡ true = sym (so-such r.first q p h) ∙ g in rw (g, own) refl
    by false g rest = let own : is_such r.first p ≡ false = sym (so-such r.first q p h) ∙ g in rw (g, own) rest

counted-length : (q : NearPair) (rows : List DifferenceRow) → length (counted q rows) ≡ length rows
counted-length q [] = refl
counted-length q (r ∷ rows) = by (is_such r.first q) refl (counted-length q rows)
  where
    by : (b : Bool) → is_such r.first q ≡ b → length (counted q rows) ≡ length rows → length (counted q (r ∷ rows)) ≡ length (r ∷ rows)
    by true g rest = rw g refl
    by false g rest = rw g (omega (arith, rest))

-- the first of two
abbrev either : {X : Type 0} → Option X → Option X → Option X
either (Some x) o = Some x
either None o = o

either-none : {X : Type 0} (o : Option X) → either o None ≡ o
either-none (Some x) = refl
either-none None = refl

row-append : (p : NearPair) (rows others : List DifferenceRow) → row_in p (rows ++ others) ≡ either (row_in p rows) (row_in p others)
row-append p [] others = refl
row-append p (r ∷ rows) others = by (is_such r.first p) refl (row-append p rows others)
  where
    by : (b : Bool) → is_such r.first p ≡ b → row_in p (rows ++ others) ≡ either (row_in p rows) (row_in p others) → row_in p (r ∷ rows ++ others) ≡ either (row_in p (r ∷ rows)) (row_in p others)
    by true g rest = rw g refl
    by false g rest = rw g rest

-- ---- pairs, one more behind them

abbrev one_of : Bool → ℕ
one_of b = if b then 1 else 0

one-true : (b : Bool) → b ≡ true → one_of b ≡ 1
one-true true h = refl
one-true false h = absurd cc

one-false : (b : Bool) → b ≡ false → one_of b ≡ 0
one-false true h = absurd cc
one-false false h = refl

such-more : (p q : NearPair) (qs : List NearPair) → such_in p (qs ++ q ∷ []) ≡ such_in p qs + one_of (is_such p q)
such-more p q [] = omega arith
such-more p q (x ∷ qs) = omega (arith, such-more p q qs)

first-more : (p q : NearPair) (qs : List NearPair) → first_such p (qs ++ q ∷ []) ≡ either (first_such p qs) (if is_such p q then Some q else None)
first-more p q [] = refl
first-more p q (x ∷ qs) = by (is_such p x) refl (first-more p q qs)
  where
    by : (b : Bool) → is_such p x ≡ b → first_such p (qs ++ q ∷ []) ≡ either (first_such p qs) (if is_such p q then Some q else None)
        → first_such p (x ∷ qs ++ q ∷ []) ≡ either (first_such p (x ∷ qs)) (if is_such p q then Some q else None)
    by true g rest = rw g refl
    by false g rest = rw g rest

-- ---- the law

-- of pairs a row is as it should be; and where there is none, there are none of its kind, or there are 1,024 rows
abbrev IsGood : NearPair → List NearPair → List DifferenceRow → Option DifferenceRow → Type 0
IsGood p front rows (Some row) = IsRowOf p front row
IsGood p front rows None = length rows < 1024 → (such_in p front ≡ 0) × (first_such p front ≡ None)

abbrev Good : NearPair → List NearPair → List DifferenceRow → Type 0
Good p front rows = IsGood p front rows (row_in p rows)

-- a pair of another kind changes nothing
keep : (p q : NearPair) (front : List NearPair) (rows others : List DifferenceRow) (o : Option DifferenceRow) → is_such p q ≡ false → length rows ≤ length others
    → IsGood p front rows o → IsGood p (front ++ q ∷ []) others o
keep p q front rows others (Some row) h more g =
    let none = one-false (is_such p q) h in
    let no_one = ap (λ (b : Bool). if b then Some q else None) h in
    record {
      count_is = g.count_is ∙ (let sum : such_in p front ≡ such_in p (front ++ q ∷ []) = omega (arith, such-more p q front, none) in ap (λ (n : ℕ). min n (2 ^ 64 - 1)) sum);
      first_is = first-more p q front ∙ ap (λ (o : Option NearPair). either (first_such p front) o) no_one ∙ either-none (first_such p front) ∙ g.first_is;
    }
keep p q front rows others None h more g = λ few.
    let none = one-false (is_such p q) h in
    let no_one = ap (λ (b : Bool). if b then Some q else None) h in
    let before = g (omega (arith, few, more)) in (
      omega (arith, such-more p q front, none, before.0),
      first-more p q front ∙ ap (λ (o : Option NearPair). either (first_such p front) o) no_one ∙ either-none (first_such p front) ∙ before.1,
    )

-- one of its own kind counts one more
more-of : (p q : NearPair) (front : List NearPair) (row : DifferenceRow) → is_such p q ≡ true → IsRowOf p front row → IsRowOf p (front ++ q ∷ []) (with_one row)
more-of p q front row h g =
    let one = one-true (is_such p q) h in
    record {
      count_is = omega (arith, such-more p q front, one, g.count_is);
      first_is = first-more p q front ∙ ap (λ (o : Option NearPair). either o (if is_such p q then Some q else None)) g.first_is;
    }

-- the first of its kind opens a row
first-of : (p q : NearPair) (front : List NearPair) → is_such p q ≡ true → such_in p front ≡ 0 → first_such p front ≡ None → IsRowOf p (front ++ q ∷ []) (row_of q)
first-of p q front h none no_one =
    let one = one-true (is_such p q) h in
    let own = ap (λ (b : Bool). if b then Some q else None) h in
    record {
      count_is = omega (arith, such-more p q front, one, none);
      first_is = first-more p q front ∙ ap (λ (o : Option NearPair). either o (if is_such p q then Some q else None)) no_one ∙ own;
    }

good-more : (p q : NearPair) (front : List NearPair) (c : Counted) → Good p front c.rows → Good p (front ++ q ∷ []) (with_pair q c).rows
good-more p q front c good = by (is_such p q) (has_row q c.rows) (nat_lt (length c.rows) 1024) refl refl refl
  where
    made : (rows : List DifferenceRow) (o : Option DifferenceRow) → (with_pair q c).rows ≡ rows → row_in p rows ≡ o → IsGood p (front ++ q ∷ []) rows o → Good p (front ++ q ∷ []) (with_pair q c).rows
    made rows o e f h =
        subst (λ (rs : List DifferenceRow). Good p (front ++ q ∷ []) rs) (sym e) (subst (λ (x : Option DifferenceRow). IsGood p (front ++ q ∷ []) rows x) (sym f) h)

    own : (o : Option DifferenceRow) → is_such p q ≡ true → is_some o ≡ true → IsGood p front c.rows o → IsGood p (front ++ q ∷ []) (counted q c.rows) (option_map with_one o)
    own (Some row) h some g = more-of p q front row h g
    own None h some g = absurd cc

    opened : (o : Option DifferenceRow) → is_such p q ≡ true → is_some o ≡ false → length c.rows < 1024 → IsGood p front c.rows o → IsGood p (front ++ q ∷ []) (c.rows ++ row_of q ∷ []) (either o (Some (row_of q)))
    opened (Some row) h none few g = absurd cc
    opened None h none few g = let before = g few in first-of p q front h before.0 before.1

    full : (o : Option DifferenceRow) → is_some o ≡ false → 1024 ≤ length c.rows → IsGood p (front ++ q ∷ []) c.rows o
    full (Some row) none many = absurd cc
    full None none many = λ few. absurd (omega (arith, few, many))

    by : (a h n : Bool) → is_such p q ≡ a → has_row q c.rows ≡ h → nat_lt (length c.rows) 1024 ≡ n → Good p (front ++ q ∷ []) (with_pair q c).rows
    by false true n ea eh en =
        made (counted q c.rows) (row_in p c.rows) (rw eh refl) (other-row p q c.rows ea)
        (keep p q front c.rows (counted q c.rows) (row_in p c.rows) ea (omega (arith, counted-length q c.rows)) good)
    by false false true ea eh en =
        let none : row_in p (row_of q ∷ []) ≡ None = let away : is_such q p ≡ false = such-both q p ∙ ea in rw away refl in
        made (c.rows ++ row_of q ∷ []) (row_in p c.rows) (rw (eh, en) refl)
        (row-append p c.rows (row_of q ∷ []) ∙ ap (λ (o : Option DifferenceRow). either (row_in p c.rows) o) none ∙ either-none (row_in p c.rows))
        (keep p q front c.rows (c.rows ++ row_of q ∷ []) (row_in p c.rows) ea (omega (arith, length-append c.rows (row_of q ∷ []))) good)
    by false false false ea eh en =
        made c.rows (row_in p c.rows) (rw (eh, en) refl) refl (keep p q front c.rows c.rows (row_in p c.rows) ea (omega arith) good)
    by true true n ea eh en =
        made (counted q c.rows) (option_map with_one (row_in p c.rows)) (rw eh refl) (own-row p q c.rows ea)
        (own (row_in p c.rows) ea (sym (has-own p q c.rows ea) ∙ eh) good)
    by true false true ea eh en =
        let one : row_in p (row_of q ∷ []) ≡ Some (row_of q) = let same : is_such q p ≡ true = such-both q p ∙ ea in rw same refl in
        made (c.rows ++ row_of q ∷ []) (either (row_in p c.rows) (Some (row_of q))) (rw (eh, en) refl)
        (row-append p c.rows (row_of q ∷ []) ∙ ap (λ (o : Option DifferenceRow). either (row_in p c.rows) o) one)
        (opened (row_in p c.rows) ea (sym (has-own p q c.rows ea) ∙ eh) (ltb-true (length c.rows) 1024 en) good)
    by true false false ea eh en =
        made c.rows (row_in p c.rows) (rw (eh, en) refl) refl (full (row_in p c.rows) (sym (has-own p q c.rows ea) ∙ eh) (ltb-false (length c.rows) 1024 en))

good-all : (p : NearPair) (front pairs : List NearPair) (c new : Counted) → Good p front c.rows → FoldsTo (λ old pair new. new ≡ with_pair pair old) c pairs new → Good p (front ++ pairs) new.rows
good-all p front [] c new good told =
    subst (λ (x : Counted). Good p (front ++ []) x.rows) told (subst (λ (qs : List NearPair). Good p qs c.rows) (sym (append-nil front)) good)
good-all p front (q ∷ pairs) c new good told =
    let next : Good p (front ++ q ∷ []) told.0.rows = subst (λ (x : Counted). Good p (front ++ q ∷ []) x.rows) (sym told.1) (good-more p q front c good) in
    subst (λ (qs : List NearPair). Good p qs new.rows) (append_assoc front (q ∷ []) pairs) (good-all p (front ++ q ∷ []) pairs told.0 new next told.2)

good-of : (p : NearPair) (pairs : List NearPair) (c : Counted) → FoldsTo (λ old pair new. new ≡ with_pair pair old) no_pairs pairs c → Good p pairs c.rows
good-of p pairs c told = good-all p [] pairs no_pairs c (λ few. (refl, refl)) told

pub each_row_counts_its_pairs : EachRowCountsItsPairs
each_row_counts_its_pairs pairs c p told = by (row_in p c.rows) (good-of p pairs c told)
  where
    by : (o : Option DifferenceRow) → IsGood p pairs c.rows o → IfSome o (IsRowOf p pairs)
    by (Some row) good = good
    by None good = tt

pub each_pair_has_a_row : EachPairHasARow
each_pair_has_a_row pairs c p told none few = by (row_in p c.rows) none (good-of p pairs c told)
  where
    by : (o : Option DifferenceRow) → o ≡ None → IsGood p pairs c.rows o → such_in p pairs ≡ 0
    by (Some row) e good = absurd cc
    by None e good = (good few).0
