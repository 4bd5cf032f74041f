-- What is kept of a summary, and what it tells.
use Rattle.std.proofs.Common.{◌≡◌, ◌≢◌, ◌∙◌, ap, sym, refl, subst, ℕ, zero, suc, ◌<◌, ◌⊎◌, inl, inr, Bool, true, false, cond, List, ◌++◌, length, replicate, slice_index_or, slice_set, Option, Some, None, Result, Ok, Err, OnOk, is_ok, arith}
use Rattle.std.proofs.Math.Path.{fun_ext}
use Rattle.std.specs.Prelude.{◌==◌, ◌&&◌, if◌then◌else◌, nat_le, nat_lt}
use Rattle.std.proofs.lemmas.Bool.{cases_eq, cond-false, cond-true, eq-eqb, leb-true, ltb-true, ne_eqb}
use Rattle.std.proofs.lemmas.List.{get_or-set_other, get_or-set_same}
use Rattle.timeline.specs.declared.source.Tap.{Tap}
use Rattle.endpoint_core.specs.Fault.{number_of as fault_number}
use Rattle.endpoint_core.specs.declared.state.fault.ChangeFault.{ChangeFault}
use Rattle.endpoint_core.specs.Counts.{Counts, is_mark}
use Rattle.run_counts.specs.Keeping.{flow_in, refusals_in}
use Rattle.run_counts.specs.Totals.{flow_with}
use Rattle.run_counts.specs.declared.flow.Flow.{Flow}
use Rattle.run_counts.specs.Told.{Told, sum_of, together}
use Rattle.run_counts.specs.Kept.{Kept, count_in, index_of, is_kept, is_row, row_of, told_in}
use Rattle.run_counts.specs.Rows.{with_row}
use Rattle.run_counts.specs.declared.parts.row.Row.{Row}
use Rattle.run_counts.specs.declared.parts.row.Row.TheVariants.{Count, Refused}
use Rattle.run_counts.proofs.Tests.{both, both_of, mark_same}
use Rattle.run_counts.proofs.Words.{fault_small}

-- ---- two are told alike

abbrev pub told : Counts → (Tap → Flow) → (Tap → Flow) → (ChangeFault → ℕ) → ℕ → List Tap → Told
told counts came left refused partial cut = record { counts = counts; totals = record { came = came; left = left; refused = refused; partial = partial }; cut = cut }

pub told_same : (c d : Counts) (x y p q : Tap → Flow) (r u : ChangeFault → ℕ) (v w : ℕ) (m n : List Tap) → ((s : Option ℕ) (k : ℕ) → c s k ≡ d s k) → ((tap : Tap) → x tap ≡ y tap)
    → ((tap : Tap) → p tap ≡ q tap) → ((fault : ChangeFault) → r fault ≡ u fault) → v ≡ w → m ≡ n → told c x p r v m ≡ told d y q u w n
told_same c d x y p q r u v w m n counts came left refused partial cut =
    let one : c ≡ d = fun_ext (λ s. fun_ext (λ k. counts s k)) in
    let two : x ≡ y = fun_ext came in
    let three : p ≡ q = fun_ext left in
    let four : r ≡ u = fun_ext refused in
    λ t. record { counts = one t; totals = record { came = two t; left = three t; refused = four t; partial = partial t }; cut = cut t }

-- ---- none

pub zeros : (n i : ℕ) → ◌≡◌ {A = ℕ} (slice_index_or (replicate n 0) i 0) 0
zeros zero i = refl
zeros (suc n) zero = refl
zeros (suc n) (suc i) = zeros n i

-- ---- two parts

sum_count : (a b n : List ℕ) → ((i : ℕ) → slice_index_or n i 0 ≡ sum_of (slice_index_or a i 0) (slice_index_or b i 0)) → (s : Option ℕ) (k : ℕ)
    → count_in n s k ≡ sum_of (count_in a s k) (count_in b s k)
sum_count a b n sums s k = by (is_kept s k)
  where
    by : (q : Bool) → cond q (slice_index_or n (index_of s k) 0) 0 ≡ sum_of (cond q (slice_index_or a (index_of s k) 0) 0) (cond q (slice_index_or b (index_of s k) 0) 0)
    by true = sums (index_of s k)
    by false = refl

pub together_is : (a b n : Kept) → ((i : ℕ) → slice_index_or n.counts i 0 ≡ sum_of (slice_index_or a.counts i 0) (slice_index_or b.counts i 0))
    → ((i : ℕ) → slice_index_or n.refused i 0 ≡ sum_of (slice_index_or a.refused i 0) (slice_index_or b.refused i 0))
    → ((tap : Tap) → flow_in n.came tap ≡ flow_with (flow_in a.came tap) (flow_in b.came tap))
    → ((tap : Tap) → flow_in n.left tap ≡ flow_with (flow_in a.left tap) (flow_in b.left tap))
    → n.partial ≡ sum_of a.partial b.partial → n.cut ≡ a.cut ++ b.cut → told_in n ≡ together (told_in a) (told_in b)
together_is a b n counts refused came left partial cut =
    told_same _ _ _ _ _ _ _ _ _ _ _ _ (sum_count a.counts b.counts n.counts counts) came left (λ fault. refused (fault_number fault)) partial cut

-- ---- a row

-- two counts that stand in one place are one
index_same : (s : Option ℕ) (n : ℕ) (u : Option ℕ) (k : ℕ) → is_kept s n ≡ true → is_kept u k ≡ true → index_of s n ≡ index_of u k → is_mark s n (record { segment = u; number = k }) ≡ true
index_same s n u k a b is = by s u (both_of (nat_lt n 41) (is_row s) a).1 (both_of (nat_lt k 41) (is_row u) b).1 rows
  where
    low : n < 41
    low = ltb-true n 41 (both_of (nat_lt n 41) (is_row s) a).0

    small : k < 41
    small = ltb-true k 41 (both_of (nat_lt k 41) (is_row u) b).0

    rows : row_of s ≡ row_of u
    rows = let first = low in let second = small in omega (arith, is, first, second)

    same : n ≡ k
    same = let at = rows in omega (arith, is, at)

    by : (s u : Option ℕ) → is_row s ≡ true → is_row u ≡ true → row_of s ≡ row_of u → is_mark s n (record { segment = u; number = k }) ≡ true
    by None None p q at = eq-eqb n k same
    by None (Some w) p q at = absurd (omega (arith, at, leb-true 1 w (both_of (nat_le 1 w) (nat_le w 4094) q).0))
    by (Some v) None p q at = absurd (omega (arith, at, leb-true 1 v (both_of (nat_le 1 v) (nat_le v 4094) p).0))
    by (Some v) (Some w) p q at = both (v == w) (n == k) (eq-eqb v w at) (eq-eqb n k same)

mark_at : (s u : Option ℕ) (n k : ℕ) → is_mark s n (record { segment = u; number = k }) ≡ true → index_of s n ≡ index_of u k
mark_at s u n k h = let here = mark_same s u n k h in ap (λ x. index_of x n) here.0 ∙ ap (index_of u) here.1

module _ (counts : List ℕ) (u : Option ℕ) (k count : ℕ) where
  -- a count that is kept is set
  set_kept : index_of u k < length counts → is_kept u k ≡ true → (s : Option ℕ) (n : ℕ)
      → count_in (slice_set counts (index_of u k) count) s n ≡ (if is_mark s n (record { segment = u; number = k }) && is_kept s n then count else count_in counts s n)
  set_kept inside there s n = by (is_kept s n) refl (is_mark s n (record { segment = u; number = k })) refl
    where
      by : (b : Bool) → is_kept s n ≡ b → (m : Bool) → is_mark s n (record { segment = u; number = k }) ≡ m
          → cond b (slice_index_or (slice_set counts (index_of u k) count) (index_of s n) 0) 0 ≡ cond (m && b) count (cond b (slice_index_or counts (index_of s n) 0) 0)
      by false h false g = refl
      by false h true g = refl
      by true h true g =
          ap (λ i. slice_index_or (slice_set counts (index_of u k) count) i 0) (mark_at s u n k g) ∙ get_or-set_same counts (index_of u k) count 0 inside
      by true h false g =
          get_or-set_other counts (index_of u k) (index_of s n) count 0
          (λ at. let no : true ≡ false = sym (index_same s n u k h there at) ∙ g in absurd cc)

-- a cause's count
set_refused : (refused : List ℕ) (number count : ℕ) → length refused ≡ 15 → (fault : ChangeFault)
    → refusals_in (slice_set refused number count) fault ≡ (if fault_number fault == number then count else refusals_in refused fault)
set_refused refused number count size fault = by (cases_eq (fault_number fault) number)
  where
    by : (fault_number fault ≡ number) ⊎ (fault_number fault ≢ number) → refusals_in (slice_set refused number count) fault ≡ (if fault_number fault == number then count else refusals_in refused fault)
    by (inl is) =
        let low : fault_number fault < 15 = (fault_small fault).1 in
        let inside : number < length refused = omega (arith, size, is, low) in
        ap (λ i. slice_index_or (slice_set refused number count) i 0) is ∙ get_or-set_same refused number count 0 inside ∙ sym (cond-true _ _ _ (eq-eqb (fault_number fault) number is))
    by (inr not) = get_or-set_other refused number (fault_number fault) count 0 not ∙ sym (cond-false _ _ _ (ne_eqb (fault_number fault) number not))

pub with_count : (k : Kept) (segment : Option ℕ) (number count : ℕ) → index_of segment number < length k.counts → is_kept segment number ≡ true
    → told (count_in (slice_set k.counts (index_of segment number) count)) (flow_in k.came) (flow_in k.left) (refusals_in k.refused) k.partial k.cut ≡ with_row (told_in k) (Count segment number count)
with_count k segment number count inside is =
    told_same _ _ _ _ _ _ _ _ _ _ _ _ (set_kept k.counts segment number count inside is) (λ tap. refl) (λ tap. refl) (λ fault. refl) refl refl

pub with_refused : (k : Kept) (number count : ℕ) → length k.refused ≡ 15
    → told (count_in k.counts) (flow_in k.came) (flow_in k.left) (refusals_in (slice_set k.refused number count)) k.partial k.cut ≡ with_row (told_in k) (Refused number count)
with_refused k number count size =
    told_same _ _ _ _ _ _ _ _ _ _ _ _ (λ s n. refl) (λ tap. refl) (λ tap. refl) (set_refused k.refused number count size) refl refl

-- ---- a part is taken

sums_at : (n ws xs ys a b : List ℕ) → n ≡ ws → xs ≡ a → ys ≡ b → ((i : ℕ) → slice_index_or ws i 0 ≡ sum_of (slice_index_or xs i 0) (slice_index_or ys i 0))
    → (i : ℕ) → slice_index_or n i 0 ≡ sum_of (slice_index_or a i 0) (slice_index_or b i 0)
sums_at n ws xs ys a b new first second sums i =
    ap (λ (l : List ℕ). slice_index_or l i 0) new ∙ sums i
    ∙ ap (λ (l : List ℕ). sum_of (slice_index_or l i 0) (slice_index_or ys i 0)) first
    ∙ ap (λ (l : List ℕ). sum_of (slice_index_or a i 0) (slice_index_or l i 0)) second

-- p and q are kept of a and b, and n behind them; xs and ys are the counts of p and q, ws the new ones, and zs the cut captures of q
pub added : {X E : Type 0} (r : Result X E) (a b p q n : Kept) (ws xs ys : List ℕ) (zs : List Tap) → p ≡ a → q ≡ b → n.counts ≡ ws → xs ≡ p.counts → ys ≡ q.counts
    → ((i : ℕ) → slice_index_or ws i 0 ≡ sum_of (slice_index_or xs i 0) (slice_index_or ys i 0))
    → ((i : ℕ) → slice_index_or n.refused i 0 ≡ sum_of (slice_index_or p.refused i 0) (slice_index_or q.refused i 0))
    → ((tap : Tap) → flow_in n.came tap ≡ flow_with (flow_in p.came tap) (flow_in q.came tap))
    → ((tap : Tap) → flow_in n.left tap ≡ flow_with (flow_in p.left tap) (flow_in q.left tap))
    → n.partial ≡ sum_of p.partial q.partial → zs ≡ q.cut → n.cut ≡ (if is_ok r then p.cut ++ zs else p.cut) → OnOk r (told_in n ≡ together (told_in a) (told_in b))
added (Ok u) a b p q n ws xs ys zs of other new first second sums refused came left partial cuts cut =
    together_is p q n (sums_at n.counts ws xs ys p.counts q.counts new first second sums) refused came left partial (cut ∙ ap (λ (l : List Tap). p.cut ++ l) cuts)
    ∙ ap (λ (s : Kept). together (told_in s) (told_in q)) of
    ∙ ap (λ (s : Kept). together (told_in a) (told_in s)) other
added (Err e) a b p q n ws xs ys zs of other new first second sums refused came left partial cuts cut = tt

-- ---- a row is taken

-- p is kept of k
pub count_set : (k p : Kept) (row : Row) (segment : Option ℕ) (number count index : ℕ) → p ≡ k → row ≡ Count segment number count → is_kept segment number ≡ true
    → index ≡ index_of segment number → index < length p.counts
    → told (count_in (slice_set p.counts index count)) (flow_in p.came) (flow_in p.left) (refusals_in p.refused) p.partial p.cut ≡ with_row (told_in k) row
count_set k p row segment number count index of is there at inside =
    ap (λ (i : ℕ). told (count_in (slice_set p.counts i count)) (flow_in p.came) (flow_in p.left) (refusals_in p.refused) p.partial p.cut) at
    ∙ with_count p segment number count (subst (λ (i : ℕ). i < length p.counts) at inside) there
    ∙ ap (λ (s : Kept). with_row (told_in s) (Count segment number count)) of
    ∙ ap (with_row (told_in k)) (sym is)

pub refused_set : (k p : Kept) (row : Row) (number count index : ℕ) (refused : List ℕ) → p ≡ k → row ≡ Refused number count → index ≡ number → length p.refused ≡ 15
    → refused ≡ slice_set p.refused index count
    → told (count_in p.counts) (flow_in p.came) (flow_in p.left) (refusals_in refused) p.partial p.cut ≡ with_row (told_in k) row
refused_set k p row number count index refused of is at size set =
    ap (λ (l : List ℕ). told (count_in p.counts) (flow_in p.came) (flow_in p.left) (refusals_in l) p.partial p.cut) (set ∙ ap (λ (i : ℕ). slice_set p.refused i count) at)
    ∙ with_refused p number count size
    ∙ ap (λ (s : Kept). with_row (told_in s) (Refused number count)) of
    ∙ ap (with_row (told_in k)) (sym is)
