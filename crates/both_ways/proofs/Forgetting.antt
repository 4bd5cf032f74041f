-- What is forgotten along rows of events.
use Rattle.std.proofs.Common.{◌≡◌, ◌≤◌, ℕ, ◌+◌, ◌-◌, ◌^◌, min, suc, List, [], ◌∷◌, ◌++◌, length, Option, Some, None, refl, ap, sym, ◌∙◌, arith}
use Rattle.both_ways.specs.Laws.{CountsWhatIsForgotten, forgotten_ages, least, lost_to, lost_when}
use Rattle.both_ways.specs.Sieve.{Seen, behind, behind_all, entering, fresh, happened, window_asked, window_with}
use Rattle.echo_window.specs.Echo.{Record, Window, lesser, with_age, with_ages}
use Rattle.echo_window.specs.declared.forgotten.Forgotten.{Forgotten}
use Rattle.timeline.specs.Captured.{Captured}
use Rattle.timeline.specs.declared.event.Event.{Event}
use Rattle.timeline.specs.declared.event.Happening.{Happening}
use Rattle.timeline.specs.declared.event.Happening.TheVariants as happenings
use Rattle.timeline.specs.declared.source.Tap.{Tap}
use Rattle.timeline.specs.declared.source.Tap.TheVariants.{Port, Underlay as AtUnderlay}

-- ages behind others
with_both : (f : Forgotten) (first more : List ℕ) → with_ages f (first ++ more) ≡ with_ages (with_ages f first) more
with_both f [] more = refl
with_both f (age ∷ first) more = with_both (with_age f age) first more

-- when a frame comes in, and when a window is asked
lost_here : (w : Window) (o : Option Record) → (window_with w o).forgotten ≡ with_ages w.forgotten (lost_to w o)
lost_here w None = refl
lost_here w (Some r) = refl

asked_keeps : (w : Window) (tap : Tap) (moment : ℕ) (c : Captured) → (window_asked w tap moment c).forgotten ≡ w.forgotten
asked_keeps w (Port port) moment c = refl
asked_keeps w AtUnderlay moment c = refl

-- at what happens
lost_then : (s : Seen) (moment number : ℕ) (h : Happening) → (happened s moment number h).window.forgotten ≡ with_ages s.window.forgotten (lost_when s moment number h)
lost_then s moment number (happenings.Change index) = refl
lost_then s moment number (happenings.Record tap c) =
    let w = window_asked s.window tap moment c in
    let o = entering s tap moment number c in
    lost_here w o ∙ ap (λ (f : Forgotten). with_ages f (lost_to w o)) (asked_keeps s.window tap moment c)

-- along some events
lost_along : (s : Seen) (es : List Event) → (behind_all s es).window.forgotten ≡ with_ages s.window.forgotten (forgotten_ages s es)
lost_along s [] = refl
lost_along s (e ∷ es) =
    let k = behind s e in
    lost_along k es
    ∙ ap (λ (f : Forgotten). with_ages f (forgotten_ages k es)) (lost_then s e.moment e.number e.happening)
    ∙ sym (with_both s.window.forgotten (lost_when s e.moment e.number e.happening) (forgotten_ages k es))

-- how many they are
one_more : (m a n : ℕ) → min (min (a + 1) m + n) m ≡ min (a + suc n) m
one_more m a n = omega arith

count_is : (f : Forgotten) (ages : List ℕ) → f.count ≤ 2 ^ 64 - 1 → (with_ages f ages).count ≡ min (f.count + length ages) (2 ^ 64 - 1)
count_is f [] h = omega (arith, h)
count_is f (age ∷ ages) h = count_is (with_age f age) ages (omega arith) ∙ one_more (2 ^ 64 - 1) f.count (length ages)

-- the least of two that may not be there
abbrev both : Option ℕ → Option ℕ → Option ℕ
both o None = o
both o (Some n) = Some (lesser o n)

lesser_of : (o p : Option ℕ) (n : ℕ) → both (Some (lesser o n)) p ≡ both o (Some (lesser p n))
lesser_of None None n = refl
lesser_of None (Some k) n = ap Some (omega arith)
lesser_of (Some m) None n = refl
lesser_of (Some m) (Some k) n = ap Some (omega arith)

least_is : (f : Forgotten) (ages : List ℕ) → (with_ages f ages).least_age ≡ both f.least_age (least ages)
least_is f [] = refl
least_is f (age ∷ ages) = least_is (with_age f age) ages ∙ lesser_of f.least_age (least ages) age

both_none : (o : Option ℕ) → both None o ≡ o
both_none None = refl
both_none (Some n) = refl

-- what was forgotten is told by both
same : {a b : ℕ} {o p : Option ℕ} → a ≡ b → o ≡ p → ◌≡◌ {A = Forgotten} (record { count = a; least_age = o }) (record { count = b; least_age = p })
same h k = cc

turned : (m n : ℕ) → min (0 + n) m ≡ min m n
turned m n = omega arith

pub counts_what_is_forgotten : CountsWhatIsForgotten
counts_what_is_forgotten within S cs es =
    let s = fresh within S cs in
    let ages = forgotten_ages s es in
    lost_along s es
    ∙ same (count_is s.window.forgotten ages (omega arith) ∙ turned (2 ^ 64 - 1) (length ages)) (least_is s.window.forgotten ages ∙ both_none (least ages))
