-- Parts put in order of their numbers are the whole.
use Rattle.std.proofs.Common.{◌≡◌, ◌<◌, ℕ, ◌+◌, arith, Bool, true, false, cond, List, [], ◌∷◌, ◌++◌, map, filter, Option, None, refl, sym, ap, ◌∙◌}
use Rattle.std.specs.Prelude.{nat_lt, count_by, sum}
use Rattle.std.specs.List.{AllByRecursion}
use Rattle.std.proofs.lemmas.Bool.{le-ltb, lt-ltb}
use Rattle.std.proofs.lemmas.List.{append-nil}
use Rattle.std.proofs.lemmas.List.Sums.{sum_by-cons}
use Rattle.timeline.specs.declared.timeline.Cut.{Cut}
use Rattle.timeline.proofs.KnownEvents.{all-append}
use Rattle.noninterference.proofs.Lists.{all-map, all-filter}
use Rattle.segment_set.specs.Segments.{Segments, holds}
use Rattle.capture_run.specs.Among.{cuts_among}
use Rattle.part_merge.specs.Merged.{Piece, put_in, sorted, side_by_side, merged}
use Rattle.segment_parts.specs.Pieces.{Told, all_pieces, pieces_in}

-- ---- pieces in order

-- all come behind a number
abbrev Behind : ℕ → List Piece → Type 0
Behind k ps = AllByRecursion (λ (p : Piece). k < p.number) ps

-- it stays in front of what is put in behind it
put-behind : (p q : Piece) (ps : List Piece) → p.number < q.number → put_in q (p ∷ ps) ≡ p ∷ put_in q ps
put-behind p q ps h = ap (λ (b : Bool). cond b (p ∷ put_in q ps) (q ∷ p ∷ ps)) (lt-ltb p.number q.number h)

put-front : (p : Piece) (ps : List Piece) → Behind p.number ps → put_in p ps ≡ p ∷ ps
put-front p [] h = refl
put-front p (q ∷ qs) h = ap (λ (b : Bool). cond b (q ∷ put_in p qs) (p ∷ q ∷ qs)) (le-ltb q.number p.number (omega (arith, h.0)))

behind-put : (k : ℕ) (p : Piece) (ps : List Piece) → k < p.number → Behind k ps → Behind k (put_in p ps)
behind-put k p [] h all = (h, tt)
behind-put k p (q ∷ qs) h all = by (nat_lt q.number p.number) (behind-put k p qs h all.1)
  where
    by : (b : Bool) → Behind k (put_in p qs) → Behind k (cond b (q ∷ put_in p qs) (p ∷ q ∷ qs))
    by true rest = (all.0, rest)
    by false rest = (h, all)

behind-order : (k : ℕ) (ps : List Piece) → Behind k ps → Behind k (sorted ps)
behind-order k [] h = tt
behind-order k (p ∷ ps) h = behind-put k p (sorted ps) h.0 (behind-order k ps h.1)

-- the first of all in front
order-front : (p : Piece) (ps : List Piece) → Behind p.number ps → sorted (p ∷ ps) ≡ p ∷ sorted ps
order-front p ps h = put-front p (sorted ps) (behind-order p.number ps h)

-- and behind some others
order-behind : (p : Piece) (ps before after : List Piece) → Behind p.number ps → sorted before ≡ p ∷ sorted after → sorted (ps ++ before) ≡ p ∷ sorted (ps ++ after)
order-behind p [] before after h same = same
order-behind p (q ∷ qs) before after h same =
    ap (put_in q) (order-behind p qs before after h.1 same) ∙ put-behind p q (sorted (qs ++ after)) h.0

-- ---- parts

-- how many of them have it
abbrev count_of : Option ℕ → List Segments → ℕ
count_of x parts = count_by (λ (part : Segments). holds part x) parts

count-cons : (x : Option ℕ) (part : Segments) (parts : List Segments) → count_of x (part ∷ parts) ≡ cond (holds part x) 1 0 + count_of x parts
count-cons x part parts = sum_by-cons (λ (q : Segments). cond (holds q x) 1 0) part parts

none-left : (b : Bool) (a c : ℕ) → b ≡ true → a ≡ cond b 1 0 + c → a ≡ 1 → c ≡ 0
none-left true a c is sum one = omega (arith, sum, one)
none-left false a c is sum one = absurd cc

as-many : (b : Bool) (a c : ℕ) → b ≡ false → a ≡ cond b 1 0 + c → a ≡ c
as-many true a c is sum = absurd cc
as-many false a c is sum = omega (arith, sum)

none-here : (b : Bool) (a c : ℕ) → a ≡ cond b 1 0 + c → a ≡ 0 → b ≡ false
none-here true a c sum none = absurd (omega (arith, sum, none))
none-here false a c sum none = refl

-- what stands in any of them, part by part
abbrev spread : List Segments → List Told → List Piece
spread parts ts = side_by_side (map (λ (part : Segments). pieces_in part ts) parts)

-- the pieces of a part, where the first is one of them or not
pieces-by : (part : Segments) (t : Told) (ts : List Told) (b : Bool) → holds part t.segment ≡ b → pieces_in part (t ∷ ts) ≡ cond b (t.piece ∷ pieces_in part ts) (pieces_in part ts)
pieces-by part t ts b is =
    ap (λ (c : Bool). all_pieces (cond c (t ∷ rest) rest)) is ∙ by b
  where
    rest : List Told
    rest = filter (λ (u : Told). holds part u.segment) ts

    by : (b : Bool) → all_pieces (cond b (t ∷ rest) rest) ≡ cond b (t.piece ∷ all_pieces rest) (all_pieces rest)
    by true = refl
    by false = refl

-- no part has the first
spread-none : (parts : List Segments) (t : Told) (ts : List Told) → count_of t.segment parts ≡ 0 → spread parts (t ∷ ts) ≡ spread parts ts
spread-none [] t ts none = refl
spread-none (part ∷ parts) t ts none =
    let apart : holds part t.segment ≡ false = none-here (holds part t.segment) _ _ (count-cons t.segment part parts) none in
    let others : count_of t.segment parts ≡ 0 = sym (as-many (holds part t.segment) _ _ apart (count-cons t.segment part parts)) ∙ none in
    λ i. pieces-by part t ts false apart i ++ spread-none parts t ts others i

behind-pieces : (k : ℕ) (part : Segments) (ts : List Told) → AllByRecursion (λ (t : Told). k < t.piece.number) ts → Behind k (pieces_in part ts)
behind-pieces k part ts h =
    all-map (λ (t : Told). k < t.piece.number) (λ (p : Piece). k < p.number) (λ (t : Told). t.piece) (λ t later. later) (filter (λ (t : Told). holds part t.segment) ts)
    (all-filter (λ (t : Told). k < t.piece.number) (λ (t : Told). holds part t.segment) ts h)

behind-spread : (k : ℕ) (parts : List Segments) (ts : List Told) → AllByRecursion (λ (t : Told). k < t.piece.number) ts → Behind k (spread parts ts)
behind-spread k [] ts h = tt
behind-spread k (part ∷ parts) ts h = all-append (λ (p : Piece). k < p.number) (pieces_in part ts) (spread parts ts) (behind-pieces k part ts h) (behind-spread k parts ts h)

-- one part has the first
spread-one : (parts : List Segments) (t : Told) (ts : List Told) → AllByRecursion (λ (u : Told). t.piece.number < u.piece.number) ts → count_of t.segment parts ≡ 1
    → sorted (spread parts (t ∷ ts)) ≡ t.piece ∷ sorted (spread parts ts)
spread-one [] t ts h one = absurd (omega (arith, one))
spread-one (part ∷ parts) t ts h one = by (holds part t.segment) refl (spread-one parts t ts h)
  where
    by : (b : Bool) → holds part t.segment ≡ b → (count_of t.segment parts ≡ 1 → sorted (spread parts (t ∷ ts)) ≡ t.piece ∷ sorted (spread parts ts))
        → sorted (pieces_in part (t ∷ ts) ++ spread parts (t ∷ ts)) ≡ t.piece ∷ sorted (pieces_in part ts ++ spread parts ts)
    by true is rest =
        let none : count_of t.segment parts ≡ 0 = none-left (holds part t.segment) _ _ is (count-cons t.segment part parts) one in
        ap sorted (λ i. pieces-by part t ts true is i ++ spread-none parts t ts none i)
        ∙ order-front t.piece (pieces_in part ts ++ spread parts ts) (behind-spread t.piece.number (part ∷ parts) ts h)
    by false is rest =
        ap (λ (l : List Piece). sorted (l ++ spread parts (t ∷ ts))) (pieces-by part t ts false is)
        ∙ order-behind t.piece (pieces_in part ts) (spread parts (t ∷ ts)) (spread parts ts) (behind-pieces t.piece.number part ts h)
        (rest (sym (as-many (holds part t.segment) _ _ is (count-cons t.segment part parts)) ∙ one))

-- ---- all

-- each number is greater than those before it
abbrev pub AreRising : List Told → Type 0
AreRising [] = Unit {0}
AreRising (t ∷ ts) = AllByRecursion (λ (u : Told). t.piece.number < u.piece.number) ts × AreRising ts

spread-nothing : (parts : List Segments) → spread parts [] ≡ []
spread-nothing [] = refl
spread-nothing (part ∷ parts) = spread-nothing parts

pub merged-whole : (parts : List Segments) (ts : List Told) → AreRising ts → AllByRecursion (λ (t : Told). count_of t.segment parts ≡ 1) ts
    → merged (map (λ (part : Segments). pieces_in part ts) parts) ≡ all_pieces ts
merged-whole parts [] rising one = ap sorted (spread-nothing parts)
merged-whole parts (t ∷ ts) rising one = spread-one parts t ts rising.0 one.0 ∙ ap (λ (l : List Piece). t.piece ∷ l) (merged-whole parts ts rising.1 one.1)

-- ---- cuts

cuts-none : (parts : List Segments) (cuts : List Cut) → count_of None parts ≡ 0 → side_by_side (map (λ (part : Segments). cuts_among part cuts) parts) ≡ []
cuts-none [] cuts none = refl
cuts-none (part ∷ parts) cuts none =
    let apart : holds part None ≡ false = none-here (holds part None) _ _ (count-cons None part parts) none in
    let others : count_of None parts ≡ 0 = sym (as-many (holds part None) _ _ apart (count-cons None part parts)) ∙ none in
    λ i. cond (apart i) cuts [] ++ cuts-none parts cuts others i

-- the lines of cut captures stand in one part
pub cuts-whole : (parts : List Segments) (cuts : List Cut) → count_of None parts ≡ 1 → side_by_side (map (λ (part : Segments). cuts_among part cuts) parts) ≡ cuts
cuts-whole [] cuts one = absurd (omega (arith, one))
cuts-whole (part ∷ parts) cuts one = by (holds part None) refl (cuts-whole parts cuts)
  where
    by : (b : Bool) → holds part None ≡ b → (count_of None parts ≡ 1 → side_by_side (map (λ (q : Segments). cuts_among q cuts) parts) ≡ cuts)
        → cond (holds part None) cuts [] ++ side_by_side (map (λ (q : Segments). cuts_among q cuts) parts) ≡ cuts
    by true is rest =
        (λ i. cond (is i) cuts [] ++ cuts-none parts cuts (none-left (holds part None) _ _ is (count-cons None part parts) one) i) ∙ append-nil cuts
    by false is rest =
        ap (λ (c : Bool). cond c cuts [] ++ side_by_side (map (λ (q : Segments). cuts_among q cuts) parts)) is
        ∙ rest (sym (as-many (holds part None) _ _ is (count-cons None part parts)) ∙ one)

-- ---- sums

sum-cons : (n : ℕ) (ns : List ℕ) → sum (n ∷ ns) ≡ n + sum ns
sum-cons n ns = sum_by-cons (λ (x : ℕ). x) n ns

sum-none : (parts : List Segments) (x : Option ℕ) (f : Segments → ℕ) (k : ℕ) → ((part : Segments) → f part ≡ cond (holds part x) k 0) → count_of x parts ≡ 0 → sum (map f parts) ≡ 0
sum-none [] x f k each none = refl
sum-none (part ∷ parts) x f k each none =
    let apart : holds part x ≡ false = none-here (holds part x) _ _ (count-cons x part parts) none in
    let others : count_of x parts ≡ 0 = sym (as-many (holds part x) _ _ apart (count-cons x part parts)) ∙ none in
    let here : f part ≡ 0 = each part ∙ ap (λ (b : Bool). cond b k 0) apart in
    omega (arith, sum-cons (f part) (map f parts), here, sum-none parts x f k each others)

-- a number that one part has, and the others as 0
pub sum-one : (parts : List Segments) (x : Option ℕ) (f : Segments → ℕ) (k : ℕ) → ((part : Segments) → f part ≡ cond (holds part x) k 0) → count_of x parts ≡ 1 → sum (map f parts) ≡ k
sum-one [] x f k each one = absurd (omega (arith, one))
sum-one (part ∷ parts) x f k each one = by (holds part x) refl (sum-one parts x f k each)
  where
    by : (b : Bool) → holds part x ≡ b → (count_of x parts ≡ 1 → sum (map f parts) ≡ k) → sum (f part ∷ map f parts) ≡ k
    by true is rest =
        let here : f part ≡ k = each part ∙ ap (λ (c : Bool). cond c k 0) is in
        let others : sum (map f parts) ≡ 0 = sum-none parts x f k each (none-left (holds part x) _ _ is (count-cons x part parts) one) in
        omega (arith, sum-cons (f part) (map f parts), here, others)
    by false is rest =
        let here : f part ≡ 0 = each part ∙ ap (λ (c : Bool). cond c k 0) is in
        omega (arith, sum-cons (f part) (map f parts), here, rest (sym (as-many (holds part x) _ _ is (count-cons x part parts)) ∙ one))
