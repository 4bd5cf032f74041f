-- A change of the tables of all segments, one after another.
use Rattle.std.proofs.Common.{◌≡◌, ℕ, ◌+◌, ◌<◌, ◌≤◌, ◌==◌, Bool, true, false, cond, nat_lt, Option, Some, None, refl, sym, ap, ◌∙◌, subst, arith}
use Rattle.std.specs.Prelude.{is_some}
use Rattle.std.specs.Option.{option_map}
use Rattle.std.proofs.Math.Path.{fun_ext}
use Rattle.std.proofs.lemmas.Bool.{eqb-true, eqb-false, lt-ltb, le-ltb}
use Rattle.std.proofs.lemmas.Bool.Decides.{nat_tests}
use Rattle.filter_db.specs.Segment.{Segment, Segments, aged, aged_all, adjusted}

-- the segments below n changed
abbrev pub so_far : (Segment → Segment) → ℕ → ℕ → Segments → Segments
so_far f t n segments = λ w. cond (nat_lt w n) (option_map f (aged_all t segments w)) (aged_all t segments w)

not_below : (n : ℕ) → nat_lt n n ≡ false
not_below n = le-ltb n n (omega arith)

below_next : (n : ℕ) → nat_lt n (n + 1) ≡ true
below_next n = grind (arith, nat_tests)

same_below : (w n : ℕ) → (w ≡ n → ⊥) → nat_lt w (n + 1) ≡ nat_lt w n
same_below w n other = grind (arith, nat_tests)

-- and the one at n
pub more-changed : (f : Segment → Segment) (t n : ℕ) (base cur new : Segments) → ((w : ℕ) → aged_all t cur w ≡ so_far f t n base w) → aged_all t new ≡ adjusted n f (aged_all t cur) → (w : ℕ) → aged_all t new w ≡ so_far f t (n + 1) base w
more-changed f t n base cur new before is w = ap (λ (s : Segments). s w) is ∙ by (w == n) refl
  where
    by : (b : Bool) → (w == n) ≡ b → cond b (option_map f (aged_all t cur w)) (aged_all t cur w) ≡ so_far f t (n + 1) base w
    by true same = subst (λ (v : ℕ). option_map f (aged_all t cur v) ≡ so_far f t (n + 1) base v) (sym (eqb-true w n same)) here
      where
        here : option_map f (aged_all t cur n) ≡ so_far f t (n + 1) base n
        here =
            ap (option_map f) (before n ∙ ap (λ (b : Bool). cond b (option_map f (aged_all t base n)) (aged_all t base n)) (not_below n))
            ∙ sym (ap (λ (b : Bool). cond b (option_map f (aged_all t base n)) (aged_all t base n)) (below_next n))
    by false other = before w ∙ ap (λ (b : Bool). cond b (option_map f (aged_all t base w)) (aged_all t base w)) (sym (same_below w n (eqb-false w n other)))

none_there : (f : Segment → Segment) (t : ℕ) (o : Option Segment) (b c : Bool) → is_some o ≡ false → cond b (option_map f (option_map (aged t) o)) (option_map (aged t) o) ≡ cond c (option_map f (option_map (aged t) o)) (option_map (aged t) o)
none_there f t None true true none = refl
none_there f t None true false none = refl
none_there f t None false true none = refl
none_there f t None false false none = refl
none_there f t (Some s) b c none = absurd (cc)

-- all, where those from n on are absent
pub all-changed : (f : Segment → Segment) (t n : ℕ) (base cur : Segments) → ((w : ℕ) → aged_all t cur w ≡ so_far f t n base w) → ((w : ℕ) → is_some (base w) ≡ true → w < n) → (w : ℕ) → aged_all t cur w ≡ option_map f (aged_all t base w)
all-changed f t n base cur before few w = before w ∙ by (is_some (base w)) refl
  where
    by : (b : Bool) → is_some (base w) ≡ b → so_far f t n base w ≡ option_map f (aged_all t base w)
    by true there = ap (λ (b : Bool). cond b (option_map f (aged_all t base w)) (aged_all t base w)) (lt-ltb w n (few w there))
    by false none = none_there f t (base w) (nat_lt w n) true none

-- where none stands below n
pub none-changed : (f : Segment → Segment) (t n : ℕ) (base : Segments) → ((w : ℕ) → is_some (base w) ≡ true → n ≤ w) → (w : ℕ) → aged_all t base w ≡ so_far f t n base w
none-changed f t n base many w = by (is_some (base w)) refl
  where
    by : (b : Bool) → is_some (base w) ≡ b → aged_all t base w ≡ so_far f t n base w
    by true there = sym (ap (λ (b : Bool). cond b (option_map f (aged_all t base w)) (aged_all t base w)) (le-ltb w n (many w there)))
    by false none = none_there f t (base w) false (nat_lt w n) none

unchanged : (b : Bool) (f : Segment → Segment) (o : Option Segment) → o ≡ None → o ≡ cond b (option_map f o) o
unchanged true f None none = refl
unchanged true f (Some s) none = absurd (cc)
unchanged false f o none = refl

-- a segment that isn't there doesn't change
pub adjusted-none : (f : Segment → Segment) (t vid : ℕ) (segments : Segments) → segments vid ≡ None → aged_all t segments ≡ adjusted vid f (aged_all t segments)
adjusted-none f t vid segments none = fun_ext (λ w. by w (w == vid) refl)
  where
    by : (w : ℕ) (b : Bool) → (w == vid) ≡ b → aged_all t segments w ≡ cond b (option_map f (aged_all t segments w)) (aged_all t segments w)
    by w true own = unchanged true f (aged_all t segments w) (ap (λ (v : ℕ). aged_all t segments v) (eqb-true w vid own) ∙ ap (option_map (aged t)) none)
    by w false other = refl
