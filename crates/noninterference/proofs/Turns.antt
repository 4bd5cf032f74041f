-- Events that stand by moment, and those of one moment by source, are told by those of each source.
use Rattle.std.proofs.Common.{◌≡◌, ◌∙◌, refl, sym, ap, subst, ℕ, ◌≤◌, arith, Bool, true, false, cond, List, [], ◌∷◌}
use Rattle.std.specs.List.{AllByRecursion}
use Rattle.std.proofs.lemmas.Bool.{eq-eqb}
use Rattle.timeline.specs.declared.source.Source.{Source}
use Rattle.timeline.specs.declared.source.Source.TheVariants as sources
use Rattle.timeline.specs.declared.source.Tap.{Tap}
use Rattle.timeline.specs.declared.source.Tap.TheVariants as taps
use Rattle.endpoint_core.specs.Event.{Event}
use Rattle.endpoint_core.specs.Step.{State, after}
use Rattle.noninterference.specs.Alone.{concerns, only}
use Rattle.noninterference.specs.Coming.{source_of, is_tap, is_source, from_source}
use Rattle.noninterference.proofs.Lists.{all-filter}

-- ---- the order of sources: changes, ports rising, underlay

abbrev pub TapTie : Tap → Tap → Type 0
TapTie (taps.Port port) (taps.Port other) = port ≤ other
TapTie (taps.Port port) taps.Underlay = Unit {0}
TapTie taps.Underlay (taps.Port port) = ⊥
TapTie taps.Underlay taps.Underlay = Unit {0}

abbrev pub Tie : Source → Source → Type 0
Tie sources.Changes other = Unit {0}
Tie (sources.Tap tap) sources.Changes = ⊥
Tie (sources.Tap tap) (sources.Tap other) = TapTie tap other

pub tap_tie-itself : (tap : Tap) → TapTie tap tap
tap_tie-itself (taps.Port port) = omega arith
tap_tie-itself taps.Underlay = tt

tie-itself : (source : Source) → Tie source source
tie-itself sources.Changes = tt
tie-itself (sources.Tap tap) = tap_tie-itself tap

tap_tie-both : (tap other : Tap) → TapTie tap other → TapTie other tap → tap ≡ other
tap_tie-both (taps.Port port) (taps.Port other) h k = let same : port ≡ other = omega (arith, h, k) in ap taps.Port same
tap_tie-both (taps.Port port) taps.Underlay h k = absurd k
tap_tie-both taps.Underlay (taps.Port port) h k = absurd h
tap_tie-both taps.Underlay taps.Underlay h k = refl

tie-both : (source other : Source) → Tie source other → Tie other source → source ≡ other
tie-both sources.Changes sources.Changes h k = refl
tie-both sources.Changes (sources.Tap tap) h k = absurd k
tie-both (sources.Tap tap) sources.Changes h k = absurd h
tie-both (sources.Tap tap) (sources.Tap other) h k = ap sources.Tap (tap_tie-both tap other h k)

pub is_tap-itself : (tap : Tap) → is_tap tap tap ≡ true
is_tap-itself (taps.Port port) = eq-eqb port port refl
is_tap-itself taps.Underlay = refl

is_source-itself : (source : Source) → is_source source source ≡ true
is_source-itself sources.Changes = refl
is_source-itself (sources.Tap tap) = is_tap-itself tap

-- ---- the order of events

-- each stands so to all behind it
abbrev pub InTurn : {A : Type 0} → (A → A → Type 0) → List A → Type 0
InTurn R [] = Unit {0}
InTurn R (x ∷ xs) = AllByRecursion (R x) xs × InTurn R xs

-- it may come before the other
abbrev pub Before : Event → Event → Type 0
Before e f = (e.at ≤ f.at) × (e.at ≡ f.at → Tie (source_of e.input) (source_of f.input))

before-itself : (e : Event) → Before e e
before-itself e = (omega arith, λ same. tie-itself (source_of e.input))

from_own : (e : Event) (es : List Event) → from_source (source_of e.input) (e ∷ es) ≡ e ∷ from_source (source_of e.input) es
from_own e es = ap (λ b. cond b (e ∷ from_source (source_of e.input) es) (from_source (source_of e.input) es)) (is_source-itself (source_of e.input))

-- the first of its source stands behind the first of all
before_first : (x y : Event) (xs ys : List Event) → AllByRecursion (Before y) ys → ((source : Source) → from_source source (x ∷ xs) ≡ from_source source (y ∷ ys)) → Before y x
before_first x y xs ys h same =
    let all : AllByRecursion (Before y) (from_source (source_of x.input) (y ∷ ys)) =
    all-filter (Before y) (λ e. is_source (source_of x.input) (source_of e.input)) (y ∷ ys) (before-itself y, h) in
    let found : AllByRecursion (Before y) (x ∷ from_source (source_of x.input) xs) =
    subst (AllByRecursion (Before y)) (sym (same (source_of x.input)) ∙ from_own x xs) all in
    found.0

tails_by : (a : Bool) (x y : Event) (l k : List Event) → cond a (x ∷ l) l ≡ cond a (y ∷ k) k → l ≡ k
tails_by true x y l k same = cc
tails_by false x y l k same = same

pub same_by_source : (es fs : List Event) → InTurn Before es → InTurn Before fs → ((source : Source) → from_source source es ≡ from_source source fs) → es ≡ fs
same_by_source [] [] h k same = refl
same_by_source [] (y ∷ ys) h k same = let own = from_own y ys in let both = same (source_of y.input) in absurd cc
same_by_source (x ∷ xs) [] h k same = let own = from_own x xs in let both = same (source_of x.input) in absurd cc
same_by_source (x ∷ xs) (y ∷ ys) h k same =
    let before : Before y x = before_first x y xs ys k.0 same in
    let behind : Before x y = before_first y x ys xs h.0 (λ source. sym (same source)) in
    let together : x.at ≡ y.at = omega (arith, before.0, behind.0) in
    let source : source_of x.input ≡ source_of y.input = tie-both (source_of x.input) (source_of y.input) (behind.1 together) (before.1 (sym together)) in
    let own = from_own x xs in
    let other : from_source (source_of x.input) (y ∷ ys) ≡ y ∷ from_source (source_of x.input) ys =
    ap (λ b. cond b (y ∷ from_source (source_of x.input) ys) (from_source (source_of x.input) ys)) (ap (λ t. is_source t (source_of y.input)) source ∙ is_source-itself (source_of y.input)) in
    let here = same (source_of x.input) in
    let head : x ≡ y = cc in
    let tails : (t : Source) → from_source t xs ≡ from_source t ys =
    λ t. tails_by (is_source t (source_of x.input)) x y (from_source t xs) (from_source t ys)
    (same t ∙ ap (λ u. cond (is_source t u) (y ∷ from_source t ys) (from_source t ys)) (sym source)) in
    let rest = same_by_source xs ys h.1 k.1 tails in
    cc

-- ---- what concerns a segment stands in the same order

all-only : (P : Event → Type 0) (vid : ℕ) (s : State) (es : List Event) → AllByRecursion P es → AllByRecursion P (only vid s es)
all-only P vid s [] h = tt
all-only P vid s (e ∷ es) h = by (concerns vid s e) (all-only P vid (after s e) es h.1)
  where
    by : (b : Bool) → AllByRecursion P (only vid (after s e) es) → AllByRecursion P (cond b (e ∷ only vid (after s e) es) (only vid (after s e) es))
    by true rest = (h.0, rest)
    by false rest = rest

pub turn-only : (R : Event → Event → Type 0) (vid : ℕ) (s : State) (es : List Event) → InTurn R es → InTurn R (only vid s es)
turn-only R vid s [] h = tt
turn-only R vid s (e ∷ es) h = by (concerns vid s e) (turn-only R vid (after s e) es h.1)
  where
    by : (b : Bool) → InTurn R (only vid (after s e) es) → InTurn R (cond b (e ∷ only vid (after s e) es) (only vid (after s e) es))
    by true rest = (all-only (R e) vid (after s e) es h.0, rest)
    by false rest = rest
