-- What segments that come, go and get other limits do to the sum of the limits and to their number.
use Rattle.std.proofs.Common.{inl, inr, ◌⊎◌, ◌≡◌, ◌≢◌, ℕ, zero, suc, ◌+◌, ◌<◌, ◌≤◌, ◌==◌, cond, Bool, true, false, Option, Some, None, IsSome, is_some, refl, ap, ◌∙◌, arith}
use Rattle.std.proofs.Math.Path.{fun_ext}
use Rattle.std.proofs.lemmas.Bool.{cases_lt, eq-eqb, ne_eqb}
use Rattle.std.proofs.lemmas.List.Sums.{sum_by-cons}
use Rattle.std.specs.Option.{option_map}
use Rattle.std.specs.List.{sum_by, range_with_len}
use Rattle.filter_db.specs.declared.tables.TableRule.{TableRule}
use Rattle.filter_db.specs.Segment.{Segment, Segments, aged, aged_all, adjusted, new_segment}
use Rattle.filter_db.specs.Standing.{limit_in, sum_of_limits, segment_count, numbers_of_12_bits, added, removed, set_limit_in}

-- ---- sums over numbers that follow one another

behind : (f g : ℕ → ℕ) (v : ℕ) → ((w : ℕ) → w ≢ v → f w ≡ g w) → (a n : ℕ) → v < a → sum_by f (range_with_len a n) ≡ sum_by g (range_with_len a n)
behind f g v same a zero lt = refl
behind f g v same a (suc n) lt =
    let rest = behind f g v same (a + 1) n (omega (arith, lt)) in
    let first = same a (λ e. omega (arith, e, lt)) in
    omega (arith, rest, first, sum_by-cons f a (range_with_len (a + 1) n), sum_by-cons g a (range_with_len (a + 1) n))

-- terms that differ at one number alone
changed : (f g : ℕ → ℕ) (v : ℕ) → ((w : ℕ) → w ≢ v → f w ≡ g w) → (a n : ℕ) → a ≤ v → v < a + n → sum_by f (range_with_len a n) + g v ≡ sum_by g (range_with_len a n) + f v
changed f g v same a zero le lt = absurd (omega (arith, le, lt))
changed f g v same a (suc n) le lt = from (cases_lt a v) (λ before. changed f g v same (a + 1) n (omega (arith, before)) (omega (arith, lt)))
  where
    from : (a < v) ⊎ (v ≤ a) → (a < v → sum_by f (range_with_len (a + 1) n) + g v ≡ sum_by g (range_with_len (a + 1) n) + f v) → sum_by f (range_with_len a (suc n)) + g v ≡ sum_by g (range_with_len a (suc n)) + f v
    from (inl before) more =
        let rest = more before in
        let first = same a (λ e. omega (arith, e, before)) in
        omega (arith, rest, first, sum_by-cons f a (range_with_len (a + 1) n), sum_by-cons g a (range_with_len (a + 1) n))
    from (inr at) more =
        let here : a ≡ v = omega (arith, le, at) in
        let rest = behind f g v same (a + 1) n (omega (arith, at)) in
        omega (arith, rest, ap f here, ap g here, sum_by-cons f a (range_with_len (a + 1) n), sum_by-cons g a (range_with_len (a + 1) n))

-- ---- sums over segments

abbrev sum_over : (Option Segment → ℕ) → Segments → ℕ
sum_over weight segments = sum_by (λ vid. weight (segments vid)) numbers_of_12_bits

abbrev one_in : Option Segment → ℕ
one_in o = cond (is_some o) 1 0

sum_same : (weight : Option Segment → ℕ) (xs ys : Segments) → ((vid : ℕ) → weight (xs vid) ≡ weight (ys vid)) → sum_over weight xs ≡ sum_over weight ys
sum_same weight xs ys same = ap (λ (f : ℕ → ℕ). sum_by f numbers_of_12_bits) (fun_ext same)

sum_changed : (weight : Option Segment → ℕ) (xs ys : Segments) (v : ℕ) → v < 4096 → ((w : ℕ) → w ≢ v → xs w ≡ ys w) → sum_over weight xs + weight (ys v) ≡ sum_over weight ys + weight (xs v)
unfolding numbers_of_12_bits
sum_changed weight xs ys v lt same = changed (λ w. weight (xs w)) (λ w. weight (ys w)) v (λ w other. ap weight (same w other)) 0 4096 (omega arith) (omega (arith, lt))

limits_changed : (xs ys : Segments) (v : ℕ) → v < 4096 → ((w : ℕ) → w ≢ v → xs w ≡ ys w) → sum_of_limits xs + limit_in (ys v) ≡ sum_of_limits ys + limit_in (xs v)
unfolding sum_of_limits
limits_changed xs ys v lt same = sum_changed limit_in xs ys v lt same

count_changed : (xs ys : Segments) (v : ℕ) → v < 4096 → ((w : ℕ) → w ≢ v → xs w ≡ ys w) → segment_count xs + one_in (ys v) ≡ segment_count ys + one_in (xs v)
unfolding segment_count
count_changed xs ys v lt same = sum_changed one_in xs ys v lt same

-- segments with the same limits
pub sum_of_limits-same : (xs ys : Segments) → ((vid : ℕ) → limit_in (xs vid) ≡ limit_in (ys vid)) → sum_of_limits xs ≡ sum_of_limits ys
unfolding sum_of_limits
sum_of_limits-same xs ys same = sum_same limit_in xs ys same

-- segments of the same VIDs
pub segment_count-same : (xs ys : Segments) → ((vid : ℕ) → is_some (xs vid) ≡ is_some (ys vid)) → segment_count xs ≡ segment_count ys
unfolding segment_count
segment_count-same xs ys same = sum_same one_in xs ys (λ vid. ap (λ (b : Bool). let r : ℕ = cond b 1 0 in r) (same vid))

-- ---- at a later moment

limit_in-aged : (t : ℕ) (o : Option Segment) → limit_in (option_map (aged t) o) ≡ limit_in o
limit_in-aged t None = refl
limit_in-aged t (Some s) = refl

is_some-aged : (t : ℕ) (o : Option Segment) → is_some (option_map (aged t) o) ≡ is_some o
is_some-aged t None = refl
is_some-aged t (Some s) = refl

pub sum_of_limits-aged_all : (t : ℕ) (segments : Segments) → sum_of_limits (aged_all t segments) ≡ sum_of_limits segments
sum_of_limits-aged_all t segments = sum_of_limits-same (aged_all t segments) segments (λ vid. limit_in-aged t (segments vid))

pub segment_count-aged_all : (t : ℕ) (segments : Segments) → segment_count (aged_all t segments) ≡ segment_count segments
segment_count-aged_all t segments = segment_count-same (aged_all t segments) segments (λ vid. is_some-aged t (segments vid))

-- ---- a segment changes, and keeps its limit

limit_in-change : (b : Bool) (change : Segment → Segment) → ((s : Segment) → (change s).limit ≡ s.limit) → (o : Option Segment) → limit_in (cond b (option_map change o) o) ≡ limit_in o
limit_in-change true change keeps None = refl
limit_in-change true change keeps (Some s) = keeps s
limit_in-change false change keeps o = refl

is_some-change : (b : Bool) (change : Segment → Segment) (o : Option Segment) → is_some (cond b (option_map change o) o) ≡ is_some o
is_some-change true change None = refl
is_some-change true change (Some s) = refl
is_some-change false change o = refl

pub sum_of_limits-adjusted : (v : ℕ) (change : Segment → Segment) (segments : Segments) → ((s : Segment) → (change s).limit ≡ s.limit) → sum_of_limits (adjusted v change segments) ≡ sum_of_limits segments
sum_of_limits-adjusted v change segments keeps = sum_of_limits-same (adjusted v change segments) segments (λ w. limit_in-change (w == v) change keeps (segments w))

pub segment_count-adjusted : (v : ℕ) (change : Segment → Segment) (segments : Segments) → segment_count (adjusted v change segments) ≡ segment_count segments
segment_count-adjusted v change segments = segment_count-same (adjusted v change segments) segments (λ w. is_some-change (w == v) change (segments w))

-- ---- a segment comes

added-own : (rule : TableRule) (segments : Segments) → added rule segments rule.vid ≡ Some (new_segment rule)
added-own rule segments = ap (λ b. cond b (Some (new_segment rule)) (segments rule.vid)) (eq-eqb rule.vid rule.vid refl)

pub added-other : (rule : TableRule) (segments : Segments) (w : ℕ) → w ≢ rule.vid → added rule segments w ≡ segments w
added-other rule segments w other = ap (λ b. cond b (Some (new_segment rule)) (segments w)) (ne_eqb w rule.vid other)

pub sum_of_limits-added : (rule : TableRule) (segments : Segments) → rule.vid < 4096 → segments rule.vid ≡ None → sum_of_limits (added rule segments) ≡ sum_of_limits segments + rule.limit
sum_of_limits-added rule segments lt absent =
    omega (arith, limits_changed (added rule segments) segments rule.vid lt (λ w other. added-other rule segments w other), ap limit_in absent, ap limit_in (added-own rule segments))

pub segment_count-added : (rule : TableRule) (segments : Segments) → rule.vid < 4096 → segments rule.vid ≡ None → segment_count (added rule segments) ≡ segment_count segments + 1
segment_count-added rule segments lt absent =
    omega (arith, count_changed (added rule segments) segments rule.vid lt (λ w other. added-other rule segments w other), ap one_in absent, ap one_in (added-own rule segments))

-- ---- a segment goes

removed-own : (v : ℕ) (segments : Segments) → removed v segments v ≡ None
removed-own v segments = ap (λ b. cond b None (segments v)) (eq-eqb v v refl)

pub removed-other : (v : ℕ) (segments : Segments) (w : ℕ) → w ≢ v → removed v segments w ≡ segments w
removed-other v segments w other = ap (λ b. cond b None (segments w)) (ne_eqb w v other)

pub sum_of_limits-removed : (v : ℕ) (segments : Segments) → v < 4096 → sum_of_limits (removed v segments) + limit_in (segments v) ≡ sum_of_limits segments
sum_of_limits-removed v segments lt =
    omega (arith, limits_changed (removed v segments) segments v lt (λ w other. removed-other v segments w other), ap limit_in (removed-own v segments))

pub segment_count-removed : (v : ℕ) (segments : Segments) → v < 4096 → IsSome (segments v) → segment_count (removed v segments) + 1 ≡ segment_count segments
segment_count-removed v segments lt there =
    let one : one_in (segments v) ≡ 1 = ap (λ (b : Bool). let r : ℕ = cond b 1 0 in r) there in
    omega (arith, count_changed (removed v segments) segments v lt (λ w other. removed-other v segments w other), ap one_in (removed-own v segments), one)

-- ---- a segment gets another limit

limited-own : (v limit : ℕ) (segments : Segments) → IsSome (segments v) → limit_in (adjusted v (set_limit_in limit) segments v) ≡ limit
limited-own v limit segments there = ap (λ b. limit_in (cond b (option_map (set_limit_in limit) (segments v)) (segments v))) (eq-eqb v v refl) ∙ from (segments v) there
  where
    from : (o : Option Segment) → IsSome o → limit_in (option_map (set_limit_in limit) o) ≡ limit
    from None h = let bad : false ≡ true = h in cc
    from (Some s) h = refl

pub sum_of_limits-set_limit_in : (v limit : ℕ) (segments : Segments) → v < 4096 → IsSome (segments v) → sum_of_limits (adjusted v (set_limit_in limit) segments) + limit_in (segments v) ≡ sum_of_limits segments + limit
sum_of_limits-set_limit_in v limit segments lt there =
    omega (arith, limits_changed (adjusted v (set_limit_in limit) segments) segments v lt (λ w other. ap (λ b. cond b (option_map (set_limit_in limit) (segments w)) (segments w)) (ne_eqb w v other)), limited-own v limit segments there)
