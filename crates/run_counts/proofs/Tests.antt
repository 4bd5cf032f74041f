-- What tests tell.
use Rattle.std.proofs.Common.{◌≡◌, ap, refl, ℕ, Bool, true, false, Option, Some, None}
use Rattle.std.specs.Prelude.{◌&&◌, ◌==◌}
use Rattle.std.proofs.lemmas.Bool.{eq-eqb, eqb-true}
use Rattle.timeline.specs.declared.source.Tap.{Tap}
use Rattle.timeline.specs.declared.source.Tap.TheVariants.{Port, Underlay}
use Rattle.endpoint_core.specs.Counts.{is_mark, same_segment}
use Rattle.run_counts.specs.Totals.{same_tap}

pub both_of : (a b : Bool) → (a && b) ≡ true → (a ≡ true) × (b ≡ true)
both_of true b h = (refl, h)
both_of false b h = absurd cc

pub both : (a b : Bool) → a ≡ true → b ≡ true → (a && b) ≡ true
both true b ha hb = hb
both false b ha hb = absurd cc

segment_refl : (s : Option ℕ) → same_segment s s ≡ true
segment_refl None = refl
segment_refl (Some v) = eq-eqb v v refl

segment_same : (s u : Option ℕ) → same_segment s u ≡ true → s ≡ u
segment_same None None h = refl
segment_same None (Some u) h = absurd cc
segment_same (Some v) None h = absurd cc
segment_same (Some v) (Some u) h = ap Some (eqb-true v u h)

pub mark_refl : (s : Option ℕ) (n : ℕ) → is_mark s n (record { segment = s; number = n }) ≡ true
mark_refl s n = both _ _ (segment_refl s) (eq-eqb n n refl)

pub mark_same : (s u : Option ℕ) (n k : ℕ) → is_mark s n (record { segment = u; number = k }) ≡ true → (s ≡ u) × (n ≡ k)
mark_same s u n k h = let here = both_of (same_segment s u) (n == k) h in (segment_same s u here.0, eqb-true n k here.1)

pub tap_refl : (p : Tap) → same_tap p p ≡ true
tap_refl (Port p) = eq-eqb p p refl
tap_refl Underlay = refl

pub tap_same : (p q : Tap) → same_tap p q ≡ true → p ≡ q
tap_same (Port p) (Port q) h = ap Port (eqb-true p q h)
tap_same (Port p) Underlay h = absurd cc
tap_same Underlay (Port q) h = absurd cc
tap_same Underlay Underlay h = refl
