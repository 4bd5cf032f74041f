-- Delays in rows, and what a rank is among them.
use Rattle.std.proofs.Common.{◌≡◌, ◌≢◌, ◌<◌, ◌≤◌, ℕ, ◌+◌, ◌-◌, ◌*◌, ◌^◌, ◌==◌, nat_lt, nat_le, min, Bool, true, false, if◌then◌else◌, suc}
use Rattle.std.proofs.Common.{List, [], ◌∷◌, length, get_or, map, refl, sym, ap, ◌∙◌, subst, arith}
use Rattle.std.proofs.lemmas.Bool.{eqb-true, eqb-false, ne_eqb, le-leb, le-ltb, leb-false, leb-true, lt-leb, lt-ltb, ltb-false, ltb-true}
use Rattle.std.proofs.lemmas.Nat.{mul-le, row_fits}
use Rattle.record_match.specs.Delays.{Delays, IsOf, IsRanked, below, count_in, rounded, row_at, row_of, step_of, up_to}

-- how many delays are in rows before one
abbrev rows_below : ℕ → ℕ → List ℕ → ℕ
rows_below step k [] = 0
rows_below step k (d ∷ ds) = (if nat_lt (row_of step d) k then 1 else 0) + rows_below step k ds

none_below : (step : ℕ) (ds : List ℕ) → rows_below step 0 ds ≡ 0
none_below step [] = refl
none_below step (d ∷ ds) = rw (le-ltb (row_of step d) 0 (omega arith)) (omega (arith, none_below step ds))

all_below : (step : ℕ) (ds : List ℕ) → rows_below step 4194304 ds ≡ length ds
all_below step [] = refl
all_below step (d ∷ ds) = rw (lt-ltb (row_of step d) 4194304 (omega arith)) (omega (arith, all_below step ds))

-- one row more
one_row_more : (step k : ℕ) (ds : List ℕ) → rows_below step (k + 1) ds ≡ rows_below step k ds + count_in step k ds
one_row_more step k [] = refl
one_row_more step k (d ∷ ds) = by (one_row_more step k ds) (nat_lt (row_of step d) k) refl
  where
    by : (rows_below step (k + 1) ds ≡ rows_below step k ds + count_in step k ds) → (q : Bool) → nat_lt (row_of step d) k ≡ q → rows_below step (k + 1) (d ∷ ds) ≡ rows_below step k (d ∷ ds) + count_in step k (d ∷ ds)
    by ih true e =
        let less = ltb-true (row_of step d) k e in
        rw (e, lt-ltb (row_of step d) (k + 1) (omega (arith, less)), ne_eqb (row_of step d) k (λ same. omega (arith, same, less)))
        (omega (arith, ih))
    by ih false e = at ih (row_of step d == k) refl
      where
        at : (rows_below step (k + 1) ds ≡ rows_below step k ds + count_in step k ds) → (q : Bool) → (row_of step d == k) ≡ q → rows_below step (k + 1) (d ∷ ds) ≡ rows_below step k (d ∷ ds) + count_in step k (d ∷ ds)
        at ih true g =
            let same = eqb-true (row_of step d) k g in
            rw (e, g, lt-ltb (row_of step d) (k + 1) (omega (arith, same))) (omega (arith, ih))
        at ih false g =
            let more = ltb-false (row_of step d) k e in let other : row_of step d ≢ k = eqb-false (row_of step d) k g in
            rw (e, g, le-ltb (row_of step d) (k + 1) (omega (arith, more, other))) (omega (arith, ih))

-- a row has at most all of them
few_in : (step k : ℕ) (ds : List ℕ) → count_in step k ds ≤ length ds
few_in step k [] = omega arith
few_in step k (d ∷ ds) = by (few_in step k ds) (row_of step d == k) refl
  where
    by : count_in step k ds ≤ length ds → (q : Bool) → (row_of step d == k) ≡ q → count_in step k (d ∷ ds) ≤ length (d ∷ ds)
    by ih true e = rw e (omega (arith, ih))
    by ih false e = rw e (omega (arith, ih))

-- ---- numbers of rows

at_none : (k : ℕ) → k + 0 ≡ k
at_none k = omega arith

none_before : (n : ℕ) → 0 + n ≡ n
none_before n = omega arith

one_at_none : (k : ℕ) → k + 1 ≡ k + 0 + 1
one_at_none k = omega arith

one_on : (k i : ℕ) → k + suc i ≡ k + 1 + i
one_on k i = omega arith

one_back : (k i : ℕ) → k + 1 + i ≡ k + (i + 1)
one_back k i = omega arith

two_back : (k i : ℕ) → k + 1 + i + 1 ≡ k + (i + 1) + 1
two_back k i = omega arith

-- a rank is found in a row of some, the first of which has this number
record IsFound (step k rank : ℕ) (ds : List ℕ) (size row : ℕ) : Type 0 where
  inside : row < size
  fewer : rows_below step (k + row) ds < rank
  enough : rank ≤ rows_below step (k + row + 1) ds

found : (step k all rank : ℕ) (ds ns : List ℕ) → ((i : ℕ) → i < length ns → get_or ns i 0 ≡ count_in step (k + i) ds)
    → rows_below step k ds + rank ≡ all → 0 < rank → all ≤ rows_below step (k + length ns) ds → IsFound step k all ds (length ns) (row_at rank ns)
found step k all rank ds [] rows sum some few =
    absurd (omega (arith, sum, some, subst (λ (x : ℕ). all ≤ rows_below step x ds) (at_none k) few))
found step k all rank ds (n ∷ ns) rows sum some few =
    by (λ further more. found step (k + 1) all (rank - n) ds ns (λ i h. rows (suc i) (omega (arith, h)) ∙ ap (λ (x : ℕ). count_in step x ds) (one_on k i)) further more
    (subst (λ (x : ℕ). all ≤ rows_below step x ds) (one_on k (length ns)) few)) (nat_le rank n) refl
  where
    first : n ≡ count_in step k ds
    first = rows 0 (omega arith) ∙ ap (λ (x : ℕ). count_in step x ds) (at_none k)

    next : rows_below step (k + 1) ds ≡ rows_below step k ds + n
    next = one_row_more step k ds ∙ ap (λ (x : ℕ). rows_below step k ds + x) (sym first)

    by : (rows_below step (k + 1) ds + (rank - n) ≡ all → 0 < rank - n → IsFound step (k + 1) all ds (length ns) (row_at (rank - n) ns))
        → (q : Bool) → nat_le rank n ≡ q → IsFound step k all ds (length (n ∷ ns)) (row_at rank (n ∷ ns))
    by further true e =
        let within = leb-true rank n e in
        rw e (record {
          inside = omega arith;
          fewer = subst (λ (x : ℕ). rows_below step x ds < all) (sym (at_none k)) (omega (arith, sum, some));
          enough = subst (λ (x : ℕ). all ≤ rows_below step x ds) (one_at_none k) (omega (arith, sum, within, next));
        })
    by further false e =
        let more = leb-false rank n e in
        let rest = further (omega (arith, sum, more, next)) (omega (arith, more)) in
        let row : ℕ = row_at (rank - n) ns in
        rw e (record {
          inside = omega (arith, rest.inside);
          fewer = subst (λ (x : ℕ). rows_below step x ds < all) (one_back k row) rest.fewer;
          enough = subst (λ (x : ℕ). all ≤ rows_below step x ds) (two_back k row) rest.enough;
        })

-- whole steps are less where rows are
below_rounded : (step row : ℕ) (ds : List ℕ) → 0 < step → below (row * step) (map (rounded step) ds) ≡ rows_below step row ds
below_rounded step row [] some = refl
below_rounded step row (d ∷ ds) some = by (below_rounded step row ds some) (nat_lt (row_of step d) row) refl
  where
    by : (below (row * step) (map (rounded step) ds) ≡ rows_below step row ds) → (q : Bool) → nat_lt (row_of step d) row ≡ q → below (row * step) (map (rounded step) (d ∷ ds)) ≡ rows_below step row (d ∷ ds)
    by ih true e =
        let fits = row_fits (row_of step d) step row step (ltb-true (row_of step d) row e) (omega arith) in
        rw (e, lt-ltb (row_of step d * step) (row * step) (omega (arith, fits, some))) (omega (arith, ih))
    by ih false e =
        let fits = mul-le row step (row_of step d) step (ltb-false (row_of step d) row e) (omega arith) in
        rw (e, le-ltb (row_of step d * step) (row * step) fits) (omega (arith, ih))

up_to_rounded : (step row : ℕ) (ds : List ℕ) → 0 < step → up_to (row * step) (map (rounded step) ds) ≡ rows_below step (row + 1) ds
up_to_rounded step row [] some = refl
up_to_rounded step row (d ∷ ds) some = by (up_to_rounded step row ds some) (nat_lt (row_of step d) (row + 1)) refl
  where
    by : (up_to (row * step) (map (rounded step) ds) ≡ rows_below step (row + 1) ds) → (q : Bool) → nat_lt (row_of step d) (row + 1) ≡ q
        → up_to (row * step) (map (rounded step) (d ∷ ds)) ≡ rows_below step (row + 1) (d ∷ ds)
    by ih true e =
        let less = ltb-true (row_of step d) (row + 1) e in
        let fits = mul-le (row_of step d) step row step (omega (arith, less)) (omega arith) in
        rw (e, le-leb (row_of step d * step) (row * step) fits) (omega (arith, ih))
    by ih false e =
        let more = ltb-false (row_of step d) (row + 1) e in
        let fits = row_fits row step (row_of step d) step (omega (arith, more)) (omega arith) in
        rw (e, lt-leb (row_of step d * step) (row * step) (omega (arith, fits, some))) (omega (arith, ih))

-- a number that could still grow
pub whole : (n m : ℕ) → n ≤ m → m < 2 ^ 64 → min n (2 ^ 64 - 1) ≡ n
whole n m few most = omega (arith, few, most)

some_step : (within : ℕ) → 0 < step_of within
some_step within = omega arith

-- what a table tells of a rank
pub ranked : (within : ℕ) (t : Delays) (ds : List ℕ) (rank : ℕ) → IsOf within t ds → length ds < 2 ^ 64 → 0 < rank → rank ≤ length ds
    → IsRanked rank (map (rounded (step_of within)) ds) (min (row_at rank t.rows) 4194303 * t.step)
ranked within t ds rank is few some most =
    let step : ℕ = step_of within in
    let rows : (i : ℕ) → i < length t.rows → get_or t.rows i 0 ≡ count_in step (0 + i) ds =
    λ i h. is.rows i (omega (arith, h, is.size)) ∙ whole (count_in step i ds) (length ds) (few_in step i ds) few
    ∙ ap (λ (x : ℕ). count_in step x ds) (sym (none_before i)) in
    let all : rows_below step (0 + length t.rows) ds ≡ length ds =
    ap (λ (x : ℕ). rows_below step x ds) (none_before (length t.rows) ∙ is.size) ∙ all_below step ds in
    let f = found step 0 rank rank ds t.rows rows (omega (arith, none_below step ds)) some (omega (arith, most, all)) in
    let row : ℕ = row_at rank t.rows in
    let fewer : rows_below step row ds < rank = subst (λ (x : ℕ). rows_below step x ds < rank) (none_before row) f.fewer in
    let enough : rank ≤ rows_below step (row + 1) ds =
    subst (λ (x : ℕ). rank ≤ rows_below step x ds) (ap (λ (x : ℕ). x + 1) (none_before row)) f.enough in
    let here : row ≡ min row 4194303 = omega (arith, f.inside, is.size) in
    let product : row * step ≡ min row 4194303 * t.step = λ i. here i * sym is.step i in
    let positive : 0 < step = some_step within in
    subst (λ (n : ℕ). IsRanked rank (map (rounded step) ds) n) product (record {
      fewer = omega (arith, fewer, below_rounded step row ds positive);
      enough = omega (arith, enough, up_to_rounded step row ds positive);
    })
