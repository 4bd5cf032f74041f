-- What counts come to behind rows of events.
use Rattle.std.proofs.Common.{◌≡◌, ◌<◌, ◌≤◌, ℕ, ◌+◌, ◌-◌, ◌^◌, min, nat_eq, Bool, true, false, cond, if◌then◌else◌, List, [], ◌∷◌, length, get_or, set, refl, sym, ◌∙◌, arith, length-set, zero-add, get_or-set_other, get_or-set_same}
use Rattle.std.proofs.lemmas.Bool.{eqb-false, eqb-true}
use Rattle.std.proofs.lemmas.List.{get_or-replicate, length-replicate}
use Rattle.std.proofs.lemmas.List.Sums.{sum_by-cons}
use Rattle.std.specs.List.{count_by}
use Rattle.both_ways.specs.Laws.{CountsWhatIsLeftOut, happens_at, left_out, stands_at}
use Rattle.both_ways.specs.Sieve.{Seen, behind, behind_all, fresh, happened, happens_in, is_input, is_taken}
use Rattle.both_ways.specs.Told.{place_of}
use Rattle.timeline.specs.declared.event.Event.{Event}
use Rattle.timeline.specs.declared.event.Happening.{Happening}
use Rattle.timeline.specs.declared.event.Happening.TheVariants as happenings

-- one more where an event isn't input and is a record at the place
abbrev more : Bool → Bool → ℕ
more is_input is_there = cond is_input 0 (cond is_there 1 0)

-- numbers up to a greatest one
as_it_is : (m a : ℕ) → a ≤ m → a ≡ min m (a + 0)
as_it_is m a h = omega arith

at_most : (m a b : ℕ) → a ≡ min m b → a ≤ m
at_most m a b h = omega arith

in_turn : (m a b n x y t : ℕ) → x ≡ min m (a + b) → y ≡ min m (x + n) → t ≡ b + n → y ≡ min m (a + t)
in_turn m a b n x y t h k l = omega arith

along : (a m n : ℕ) → m ≡ n → a < m → a < n
along a m n e h = omega arith

below : (m a : ℕ) → a ≡ 0 → a ≤ m
below m a h = omega arith

from_none : (m a n x : ℕ) → a ≡ 0 → x ≡ min m (a + n) → x ≡ min m n
from_none m a n x h k = omega arith

-- a count at a place, where one at another or at the same place is counted
counted_there : (q : Bool) (counts : List ℕ) (at place m : ℕ) → nat_eq at place ≡ q → place < length counts → get_or counts place 0 ≤ m
    → get_or (set counts at (min m (get_or counts at 0 + 1))) place 0 ≡ min m (get_or counts place 0 + cond q 1 0)
counted_there true counts at place m h there few =
    let e : at ≡ place = eqb-true at place h in
    let same : get_or (set counts place (min m (get_or counts place 0 + 1))) place 0 ≡ min m (get_or counts place 0 + 1) = get_or-set_same counts place (min m (get_or counts place 0 + 1)) 0 there in
    cc
counted_there false counts at place m h there few =
    let v = min m (get_or counts at 0 + 1) in
    let other : get_or (set counts at v) place 0 ≡ get_or counts place 0 = get_or-set_other counts at place v 0 (λ e. eqb-false at place h (sym e)) in
    other ∙ as_it_is m (get_or counts place 0) few

-- the same of a record that may be input
record_counts : (q : Bool) (counts : List ℕ) (at place m : ℕ) → place < length counts → get_or counts place 0 ≤ m
    → get_or (if q then counts else set counts at (min m (get_or counts at 0 + 1))) place 0 ≡ min m (get_or counts place 0 + more q (nat_eq at place))
record_counts true counts at place m there few = as_it_is m (get_or counts place 0) few
record_counts false counts at place m there few = counted_there (nat_eq at place) counts at place m refl there few

record_length : (q : Bool) (counts : List ℕ) (at v : ℕ) → length (if q then counts else set counts at v) ≡ length counts
record_length true counts at v = refl
record_length false counts at v = length-set counts at v

-- of what happens
happened_counts : (s : Seen) (moment number : ℕ) (h : Happening) (place : ℕ) → place < length s.counts → get_or s.counts place 0 ≤ 2 ^ 64 - 1
    → get_or (happened s moment number h).counts place 0 ≡ min (2 ^ 64 - 1) (get_or s.counts place 0 + more (happens_in s moment h) (happens_at place h))
happened_counts s moment number (happenings.Change index) place there few = as_it_is (2 ^ 64 - 1) (get_or s.counts place 0) few
happened_counts s moment number (happenings.Record tap c) place there few =
    record_counts (is_input s tap moment c) s.counts (place_of tap) place (2 ^ 64 - 1) there few

happened_length : (s : Seen) (moment number : ℕ) (h : Happening) → length (happened s moment number h).counts ≡ length s.counts
happened_length s moment number (happenings.Change index) = refl
happened_length s moment number (happenings.Record tap c) =
    record_length (is_input s tap moment c) s.counts (place_of tap) (min (2 ^ 64 - 1) (get_or s.counts (place_of tap) 0 + 1))

-- how many stand at a place, with one more in front
count_more : (q : Bool) (p : Event → Bool) (e : Event) (es : List Event) → count_by p (if q then es else e ∷ es) ≡ more q (p e) + count_by p es
count_more true p e es = sym (zero-add (count_by p es))
count_more false p e es = sum_by-cons (λ x. cond (p x) 1 0) e es

-- of some events in a row
counts_behind : (s : Seen) (es : List Event) (place : ℕ) → place < length s.counts → get_or s.counts place 0 ≤ 2 ^ 64 - 1
    → get_or (behind_all s es).counts place 0 ≡ min (2 ^ 64 - 1) (get_or s.counts place 0 + count_by (stands_at place) (left_out s es))
counts_behind s [] place there few = as_it_is (2 ^ 64 - 1) (get_or s.counts place 0) few
counts_behind s (e ∷ es) place there few =
    let m = 2 ^ 64 - 1 in
    let k = behind s e in
    let size : length k.counts ≡ length s.counts = happened_length s e.moment e.number e.happening in
    let one = happened_counts s e.moment e.number e.happening place there few in
    let rest = counts_behind k es place (along place (length s.counts) (length k.counts) (sym size) there) (at_most m (get_or k.counts place 0) (get_or s.counts place 0 + more (is_taken s e) (stands_at place e)) one) in
    in_turn m (get_or s.counts place 0) (more (is_taken s e) (stands_at place e)) (count_by (stands_at place) (left_out k es)) (get_or k.counts place 0) (get_or (behind_all k es).counts place 0)
    (count_by (stands_at place) (left_out s (e ∷ es))) one rest (count_more (is_taken s e) (stands_at place) e (left_out k es))

pub counts_what_is_left_out : CountsWhatIsLeftOut
counts_what_is_left_out within S cs es place there =
    let s = fresh within S cs in
    let none : get_or s.counts place 0 ≡ 0 = get_or-replicate 256 place 0 0 there in
    let few : get_or s.counts place 0 ≤ 2 ^ 64 - 1 = below (2 ^ 64 - 1) (get_or s.counts place 0) none in
    let here : place < length s.counts = along place 256 (length s.counts) (sym (length-replicate {A = ℕ} 256 0)) there in
    from_none (2 ^ 64 - 1) (get_or s.counts place 0) (count_by (stands_at place) (left_out s es)) (get_or (behind_all s es).counts place 0) none (counts_behind s es place here few)
