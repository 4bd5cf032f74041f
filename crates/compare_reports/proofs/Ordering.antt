-- Pairs that are behind another.
use Rattle.std.proofs.Common.{◌≡◌, ℕ, ◌+◌, ◌-◌, ◌^◌, ◌≤◌, max, min, nat_lt, Bool, true, false, ◌||◌, if◌then◌else◌, List, [], ◌∷◌, refl, sym, ap, ◌∙◌, subst, arith}
use Rattle.std.proofs.lemmas.Bool.{lt-ltb, ltb-false, ltb-true, le-ltb}
use Rattle.std.specs.List.{FoldsTo}
use Rattle.record_match.specs.Lengths.{one_more}
use Rattle.record_match.specs.Settled.{Fact, Both, ReceivedAlone, SentAlone}
use Rattle.compare_reports.specs.Printed.{BehindIsOfItsFacts, behind_among, is_any_later, is_behind, no_order, order_with}
use Rattle.compare_reports.specs.declared.order.Order.{Order}

lt-max : (m a b : ℕ) → (nat_lt m b || nat_lt m a) ≡ nat_lt m (max a b)
lt-max m a b = by (nat_lt m b) (nat_lt m a) refl refl
  where
    by : (p q : Bool) → nat_lt m b ≡ p → nat_lt m a ≡ q → (p || q) ≡ nat_lt m (max a b)
    by true q h g = sym (lt-ltb m (max a b) (omega (arith, ltb-true m b h)))
    by false true h g = sym (lt-ltb m (max a b) (omega (arith, ltb-true m a g)))
    by false false h g = sym (le-ltb m (max a b) (omega (arith, ltb-false m b h, ltb-false m a g)))

-- the latest moment tells whether one is later
abbrev IsLatest : List Fact → ℕ → Type 0
IsLatest front latest = (m : ℕ) → is_any_later m front ≡ nat_lt m latest

latest-with : (front : List Fact) (fact : Fact) (o : Order) → IsLatest front o.latest → IsLatest (fact ∷ front) (order_with fact o).latest
latest-with front (Both moment n r) o h m = ap (λ (q : Bool). nat_lt m moment || q) (h m) ∙ lt-max m o.latest moment
latest-with front (ReceivedAlone n r) o h m = h m
latest-with front (SentAlone n r) o h m = h m

counts-one : (front : List Fact) (fact : Fact) (o : Order) → IsLatest front o.latest → (order_with fact o).behind ≡ (if is_behind front fact then one_more o.behind else o.behind)
counts-one front (Both moment n r) o h = ap (λ (q : Bool). if q then one_more o.behind else o.behind) (sym (h moment))
counts-one front (ReceivedAlone n r) o h = refl
counts-one front (SentAlone n r) o h = refl

-- one more where something is so, up to the greatest number
pub more-if : (q : Bool) (count so_far others final : ℕ) → count ≡ (if q then one_more so_far else so_far) → final ≡ min (count + others) (2 ^ 64 - 1)
    → so_far ≤ 2 ^ 64 - 1 → final ≡ min (so_far + ((if q then 1 else 0) + others)) (2 ^ 64 - 1)
more-if true count so_far others final e f few = omega (arith, e, f, few)
more-if false count so_far others final e f few = omega (arith, e, f, few)

pub fits-if : (q : Bool) (count so_far : ℕ) → count ≡ (if q then one_more so_far else so_far) → so_far ≤ 2 ^ 64 - 1 → count ≤ 2 ^ 64 - 1
fits-if true count so_far e few = omega (arith, e, few)
fits-if false count so_far e few = omega (arith, e, few)

all-behind : (front facts : List Fact) (o new : Order) → IsLatest front o.latest → o.behind ≤ 2 ^ 64 - 1 → FoldsTo (λ old fact new. new ≡ order_with fact old) o facts new
    → new.behind ≡ min (o.behind + behind_among front facts) (2 ^ 64 - 1)
all-behind front [] o new h few told = omega (arith, few, ap (λ (x : Order). x.behind) told)
all-behind front (fact ∷ facts) o new h few told =
    let now : told.0 ≡ order_with fact o = told.1 in
    let one : told.0.behind ≡ (if is_behind front fact then one_more o.behind else o.behind) = ap (λ (x : Order). x.behind) now ∙ counts-one front fact o h in
    let latest : IsLatest (fact ∷ front) told.0.latest = subst (λ (x : Order). IsLatest (fact ∷ front) x.latest) (sym now) (latest-with front fact o h) in
    more-if (is_behind front fact) told.0.behind o.behind (behind_among (fact ∷ front) facts) new.behind one
    (all-behind (fact ∷ front) facts told.0 new latest (fits-if (is_behind front fact) told.0.behind o.behind one few) told.2) few

pub behind_is_of_its_facts : BehindIsOfItsFacts
behind_is_of_its_facts facts order told =
    let none : 0 + behind_among [] facts ≡ behind_among [] facts = omega arith in
    all-behind [] facts no_order order (λ m. sym (le-ltb m 0 (omega arith))) (omega arith) told ∙ ap (λ (n : ℕ). min n (2 ^ 64 - 1)) none
