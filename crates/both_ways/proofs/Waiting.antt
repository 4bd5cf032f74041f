-- What frames that came in still wait for: one that was sent may be told to be of any of several, and a window takes the first.
use Rattle.std.proofs.Common.{◌≡◌, ◌≢◌, ◌<◌, ◌≤◌, ℕ, zero, suc, ◌+◌, Bool, true, false, cond, not, nat_eq, nat_le, ◌&&◌}
use Rattle.std.proofs.Common.{List, [], ◌∷◌, ◌++◌, length, get_or, set, Some, refl, sym, ap, ◌∙◌, arith, get_or-set_other}
use Rattle.std.specs.Prelude.{is_some, option_map}
use Rattle.std.specs.List.{find, position}
use Rattle.std.proofs.lemmas.Bool.{true≢false, eqb-true, eqb-false, eq-eqb, leb-true, le-leb, and_parts}
use Rattle.std.proofs.lemmas.List.Quantifiers.{position-Some}
use Rattle.echo_window.specs.Echo.{Arrival, Record, first_met, is_awaited, is_echo_of, is_elsewhere, is_soon, met_again, met_at, origin_of}
use Rattle.wire.specs.Octets.{is_same}
use Rattle.wire.proofs.OctetsLemmas.{is_same-true}

-- how many frames pass a test
abbrev pub how_many : (Arrival → Bool) → List Arrival → ℕ
how_many p [] = 0
how_many p (c ∷ cs) = cond (p c) 1 0 + how_many p cs

-- a frame may yet be met at a place, as these octets, at a moment that isn't before its own
abbrev pub waits : ℕ → ℕ → List ℕ → ℕ → Arrival → Bool
waits w place frame t c = nat_le t (c.moment + w) && ((not (nat_eq c.place place) && get_or c.awaited place false) && is_same c.frame frame)

-- none came in before its forerunner, and all between two moments
abbrev pub Rise : ℕ → List Arrival → ℕ → Type 0
Rise low [] high = low ≤ high
Rise low (c ∷ cs) high = (low ≤ c.moment) × Rise c.moment cs high

pub rise_high : (low high more : ℕ) (cs : List Arrival) → high ≤ more → Rise low cs high → Rise low cs more
rise_high low high more [] h k = omega (arith, h, k)
rise_high low high more (c ∷ cs) h k = (k.0, rise_high c.moment high more cs h k.1)

pub rise_low : (less low high : ℕ) (cs : List Arrival) → less ≤ low → Rise low cs high → Rise less cs high
rise_low less low high [] h k = omega (arith, h, k)
rise_low less low high (c ∷ cs) h k = (omega (arith, h, k.0), k.1)

rise_le : (low high : ℕ) (cs : List Arrival) → Rise low cs high → low ≤ high
rise_le low high [] k = k
rise_le low high (c ∷ cs) k = omega (arith, k.0, rise_le c.moment high cs k.1)

-- ---- tests of one frame

one_less : (p q : Bool) → (p ≡ true → q ≡ true) → cond p 1 0 ≤ cond q 1 0
one_less true true h = omega arith
one_less true false h = absurd (true≢false (sym (h refl)))
one_less false q h = omega arith

pub one_same : {p q : Bool} → p ≡ q → ◌≡◌ {A = ℕ} (cond p 1 0) (cond q 1 0)
one_same e = cc

one_most : (p : Bool) → cond p 1 0 ≤ 1
one_most true = omega arith
one_most false = omega arith

echo_so : (a s t w e : Bool) → ((a && ((s && t) && w)) && e) ≡ true → (t && ((a && w) && e)) ≡ true
echo_so true true true true e h = h
echo_so true true true false e h = absurd (true≢false (sym h))
echo_so true true false w e h = absurd (true≢false (sym h))
echo_so true false t w e h = absurd (true≢false (sym h))
echo_so false s t w e h = absurd (true≢false (sym h))

so_echo : (a s t w e : Bool) → s ≡ true → (t && ((a && w) && e)) ≡ true → ((a && ((s && t) && w)) && e) ≡ true
so_echo true true true true e k h = h
so_echo true true true false e k h = absurd (true≢false (sym h))
so_echo false true true w e k h = absurd (true≢false (sym h))
so_echo a true false w e k h = absurd (true≢false (sym h))
so_echo a false t w e k h = absurd (true≢false (sym k))

-- one that is met waits for it
echo_waits : (w : ℕ) (r : Record) (c : Arrival) → is_echo_of w r c ≡ true → waits w r.place r.frame r.moment c ≡ true
echo_waits w r c = echo_so (is_elsewhere r c) (nat_le c.moment r.moment) (nat_le r.moment (c.moment + w)) (is_awaited r c) (is_same c.frame r.frame)

-- and one that waits is met, where it came no later
waits_echo : (w : ℕ) (r : Record) (c : Arrival) → c.moment ≤ r.moment → waits w r.place r.frame r.moment c ≡ true → is_echo_of w r c ≡ true
waits_echo w r c l = so_echo (is_elsewhere r c) (nat_le c.moment r.moment) (nat_le r.moment (c.moment + w)) (is_awaited r c) (is_same c.frame r.frame) (le-leb c.moment r.moment l)

-- one that waits longer
sooner : (w place : ℕ) (frame : List ℕ) (t u : ℕ) (c : Arrival) → t ≤ u → waits w place frame u c ≡ true → waits w place frame t c ≡ true
sooner w place frame t u c l h =
    let both = and_parts (nat_le u (c.moment + w)) ((not (nat_eq c.place place) && get_or c.awaited place false) && is_same c.frame frame) h in
    let late = leb-true u (c.moment + w) both.0 in
    let here : nat_le t (c.moment + w) ≡ true = le-leb t (c.moment + w) (omega (arith, l, late)) in
    rw (here, both.1) refl

-- ---- once it was met

cleared : (l : List Bool) (i : ℕ) → get_or (set l i false) i false ≡ false
cleared [] i = refl
cleared (x ∷ l) zero = refl
cleared (x ∷ l) (suc i) = cleared l i

no_more : (l : List Bool) (i j : ℕ) → get_or (set l i false) j false ≡ true → get_or l j false ≡ true
no_more [] i j h = h
no_more (x ∷ l) zero zero h = absurd (true≢false (sym h))
no_more (x ∷ l) zero (suc j) h = h
no_more (x ∷ l) (suc i) zero h = h
no_more (x ∷ l) (suc i) (suc j) h = no_more l i j h

-- it waits there no more
pub never_waits : (t a e : Bool) → (t && ((a && false) && e)) ≡ false
never_waits true true e = refl
never_waits true false e = refl
never_waits false a e = refl

met_waits_not : (w place : ℕ) (frame : List ℕ) (t : ℕ) (c : Arrival) → waits w place frame t (met_at place c) ≡ false
met_waits_not w place frame t c = rw (cleared c.awaited place) (never_waits (nat_le t (c.moment + w)) (not (nat_eq c.place place)) (is_same c.frame frame))

-- and for nothing that it didn't wait for before
swapped : (t a v w e : Bool) → (v ≡ true → w ≡ true) → (t && ((a && v) && e)) ≡ true → (t && ((a && w) && e)) ≡ true
swapped true true true w e k h = rw (k refl) h
swapped true true false w e k h = absurd (true≢false (sym h))
swapped true false v w e k h = absurd (true≢false (sym h))
swapped false a v w e k h = absurd (true≢false (sym h))

met_waits : (w at place : ℕ) (frame : List ℕ) (t : ℕ) (c : Arrival) → waits w place frame t (met_at at c) ≡ true → waits w place frame t c ≡ true
met_waits w at place frame t c =
    swapped (nat_le t (c.moment + w)) (not (nat_eq c.place place)) (get_or (set c.awaited at false) place false) (get_or c.awaited place false) (is_same c.frame frame) (no_more c.awaited at place)

swapped_echo : (a s v w e : Bool) → (v ≡ true → w ≡ true) → ((a && (s && v)) && e) ≡ true → ((a && (s && w)) && e) ≡ true
swapped_echo true true true w e k h = rw (k refl) h
swapped_echo true true false w e k h = absurd (true≢false (sym h))
swapped_echo true false v w e k h = absurd (true≢false (sym h))
swapped_echo false s v w e k h = absurd (true≢false (sym h))

pub met_echo : (w at : ℕ) (r : Record) (c : Arrival) → is_echo_of w r (met_at at c) ≡ true → is_echo_of w r c ≡ true
met_echo w at r c = swapped_echo (is_elsewhere r c) (is_soon w r c) (is_awaited r (met_at at c)) (is_awaited r c) (is_same c.frame r.frame) (no_more c.awaited at r.place)

-- it waits for the rest as before: at other places
met_elsewhere : (w at place : ℕ) (frame : List ℕ) (t : ℕ) (c : Arrival) → place ≢ at → waits w place frame t (met_at at c) ≡ waits w place frame t c
met_elsewhere w at place frame t c n = rw (get_or-set_other c.awaited at place false false n) refl

met_other : (w at place : ℕ) (frame : List ℕ) (t : ℕ) (c : Arrival) → waits w place frame t c ≡ false → waits w place frame t (met_at at c) ≡ false
met_other w at place frame t c none = by (waits w place frame t (met_at at c)) refl
  where
    by : (q : Bool) → waits w place frame t (met_at at c) ≡ q → q ≡ false
    by true h = absurd (true≢false (sym (met_waits w at place frame t c h) ∙ none))
    by false h = refl

neither : (a b : Bool) → (a && (b && false)) ≡ false
neither true true = refl
neither true false = refl
neither false b = refl

-- ---- how many of some

how_many_less : (p q : Arrival → Bool) (cs : List Arrival) → ((c : Arrival) → p c ≡ true → q c ≡ true) → how_many p cs ≤ how_many q cs
how_many_less p q [] h = omega arith
how_many_less p q (c ∷ cs) h = omega (arith, one_less (p c) (q c) (h c), how_many_less p q cs h)

pub how_many_put : (p : Arrival → Bool) (cs : List Arrival) (c : Arrival) → how_many p (cs ++ c ∷ []) ≡ how_many p cs + cond (p c) 1 0
how_many_put p [] c = omega arith
how_many_put p (d ∷ cs) c = omega (arith, how_many_put p cs c)

-- ---- where one is met

-- a window keeps as many as still wait, wherever and whenever one is looked for
abbrev pub Enough : ℕ → ℕ → List Arrival → List Arrival → Type 0
Enough w now owed came = (place : ℕ) (frame : List ℕ) (t : ℕ) → now ≤ t → how_many (waits w place frame t) owed ≤ how_many (waits w place frame t) came

module _ (w : ℕ) (r : Record) where
  not_itself : is_echo_of w r (first_met r) ≡ true → ⊥
  not_itself h = true≢false (sym (rw (eq-eqb r.place r.place refl) at h))

  not_waiting : (u : ℕ) (c : Arrival) → r.moment ≤ u → c.moment ≤ r.moment → is_echo_of w r c ≡ false → waits w r.place r.frame u c ≡ false
  not_waiting u c l m none = by (waits w r.place r.frame u c) refl
    where
      by : (q : Bool) → waits w r.place r.frame u c ≡ q → q ≡ false
      by true h = absurd (true≢false (sym (waits_echo w r c m (sooner w r.place r.frame r.moment u c l h)) ∙ none))
      by false h = refl

  -- of those that are owed, one goes
  pub owed_less : (u : ℕ) (cs : List Arrival) (n : ℕ) → r.moment ≤ u → is_echo_of w r (get_or cs n (first_met r)) ≡ true
      → how_many (waits w r.place r.frame u) (met_again r cs n) + 1 ≤ how_many (waits w r.place r.frame r.moment) cs
  owed_less u [] n l e = absurd (not_itself e)
  owed_less u (c ∷ cs) zero l e =
      let gone = one_same (met_waits_not w r.place r.frame u c) in
      let was = one_same (echo_waits w r c e) in
      omega (arith, gone, was, how_many_less (waits w r.place r.frame u) (waits w r.place r.frame r.moment) cs (λ d. sooner w r.place r.frame r.moment u d l))
  owed_less u (c ∷ cs) (suc n) l e =
      omega (arith, one_less (waits w r.place r.frame u c) (waits w r.place r.frame r.moment c) (sooner w r.place r.frame r.moment u c l), owed_less u cs n l e)

  -- and there are no more than before
  pub no_gain : (test : Arrival → Bool) (cs : List Arrival) (n : ℕ) → ((c : Arrival) → test (met_at r.place c) ≡ true → test c ≡ true) → how_many test (met_again r cs n) ≤ how_many test cs
  no_gain test [] n h = omega arith
  no_gain test (c ∷ cs) zero h = omega (arith, one_less (test (met_at r.place c)) (test c) (h c))
  no_gain test (c ∷ cs) (suc n) h = omega (arith, no_gain test cs n h)

  -- where another test is asked, none goes
  no_loss : (test : Arrival → Bool) (cs : List Arrival) (i : ℕ) → i < length cs → is_echo_of w r (get_or cs i (first_met r)) ≡ true
      → ((c : Arrival) → is_echo_of w r c ≡ true → test (met_at r.place c) ≡ test c) → how_many test (met_again r cs i) ≡ how_many test cs
  no_loss test [] i l e h = absurd (omega (arith, l))
  no_loss test (c ∷ cs) zero l e h = ap (λ q. cond q 1 0 + how_many test cs) (h c e)
  no_loss test (c ∷ cs) (suc i) l e h = ap (λ n. cond (test c) 1 0 + n) (no_loss test cs i (omega (arith, l)) e h)

  -- those that came no sooner than one that waits long enough wait so, too
  as_long : (u low : ℕ) (cs : List Arrival) → r.moment ≤ u → u ≤ low + w → Rise low cs r.moment → how_many (waits w r.place r.frame u) cs ≡ how_many (waits w r.place r.frame r.moment) cs
  as_long u low [] l m k = refl
  as_long u low (c ∷ cs) l m k =
      let late : nat_le u (c.moment + w) ≡ true = le-leb u (c.moment + w) (omega (arith, m, k.0)) in
      let here : nat_le r.moment (c.moment + w) ≡ true = le-leb r.moment (c.moment + w) (omega (arith, l, m, k.0)) in
      let same : waits w r.place r.frame u c ≡ waits w r.place r.frame r.moment c = rw (late, here) refl in
      omega (arith, one_same same, as_long u c.moment cs l (omega (arith, m, k.0)) k.1)

  -- so of the frames of a window the first goes, which waits least long of all that might
  first_goes : (u low : ℕ) (cs : List Arrival) (i : ℕ) → r.moment ≤ u → Rise low cs r.moment → i < length cs
      → ((k : ℕ) → k < i → is_echo_of w r (get_or cs k (first_met r)) ≡ false) → is_echo_of w r (get_or cs i (first_met r)) ≡ true
      → (n : ℕ) → n ≤ how_many (waits w r.place r.frame u) cs → n + 1 ≤ how_many (waits w r.place r.frame r.moment) cs
      → n ≤ how_many (waits w r.place r.frame u) (met_again r cs i)
  first_goes u low [] i l k there before here n h g = absurd (omega (arith, there))
  first_goes u low (c ∷ cs) zero l k there before here n h g = by (nat_le u (c.moment + w)) refl
    where
      by : (q : Bool) → nat_le u (c.moment + w) ≡ q → n ≤ cond (waits w r.place r.frame u (met_at r.place c)) 1 0 + how_many (waits w r.place r.frame u) cs
      by true e = omega (arith, g, one_most (waits w r.place r.frame r.moment c), as_long u c.moment cs l (leb-true u (c.moment + w) e) k.1)
      by false e =
          let none : waits w r.place r.frame u c ≡ false = rw e refl in
          omega (arith, h, one_same none)
  first_goes u low (c ∷ cs) (suc i) l k there before here n h g =
      let came = rise_le c.moment r.moment cs k.1 in
      let none = before 0 (omega arith) in
      let late = one_same (not_waiting u c l came none) in
      let soon = one_same (not_waiting r.moment c (omega arith) came none) in
      omega (arith, first_goes u c.moment cs i l k.1 (omega (arith, there)) (λ j m. before (suc j) (omega (arith, m))) here n (omega (arith, h, late)) (omega (arith, g, soon)))

  other_frame : (place : ℕ) (frame : List ℕ) (u : ℕ) (c : Arrival) → is_same r.frame frame ≡ false → is_echo_of w r c ≡ true → waits w place frame u c ≡ false
  other_frame place frame u c other e =
      let same : c.frame ≡ r.frame = is_same-true c.frame r.frame (and_parts (is_elsewhere r c && (is_soon w r c && is_awaited r c)) (is_same c.frame r.frame) e).1 in
      let none : is_same c.frame frame ≡ false = ap (λ f. is_same f frame) same ∙ other in
      rw none (neither (nat_le u (c.moment + w)) (not (nat_eq c.place place) && get_or c.awaited place false))

  pub met_enough : (low : ℕ) (owed came : List Arrival) (n i : ℕ) → Rise low came r.moment → Enough w r.moment owed came → is_echo_of w r (get_or owed n (first_met r)) ≡ true
      → position (is_echo_of w r) came ≡ Some i → Enough w r.moment (met_again r owed n) (met_again r came i)
  met_enough low owed came n i k enough e at place frame u l = by (nat_eq place r.place) (is_same r.frame frame) refl refl
    where
      there : (i < length came) × (is_echo_of w r (get_or came i (first_met r)) ≡ true) × ((j : ℕ) → j < i → is_echo_of w r (get_or came j (first_met r)) ≡ false)
      there = position-Some (is_echo_of w r) came i (first_met r) at

      fewer : (p : ℕ) (f : List ℕ) → how_many (waits w p f u) (met_again r owed n) ≤ how_many (waits w p f u) came
      fewer p f = omega (arith, no_gain (waits w p f u) owed n (met_waits w r.place p f u), enough p f u l)

      here : how_many (waits w r.place r.frame u) (met_again r owed n) ≤ how_many (waits w r.place r.frame u) (met_again r came i)
      here =
          first_goes u low came i l k there.0 there.2 there.1 (how_many (waits w r.place r.frame u) (met_again r owed n)) (fewer r.place r.frame)
          (omega (arith, owed_less u owed n l e, enough r.place r.frame r.moment (omega arith)))

      by : (p q : Bool) → nat_eq place r.place ≡ p → is_same r.frame frame ≡ q → how_many (waits w place frame u) (met_again r owed n) ≤ how_many (waits w place frame u) (met_again r came i)
      by true true h g = rw (eqb-true place r.place h, ← is_same-true r.frame frame g) here
      by false q h g = rw (no_loss (waits w place frame u) came i there.0 there.1 (λ c m. met_elsewhere w r.place place frame u c (eqb-false place r.place h))) (fewer place frame)
      by true false h g =
          let none = λ (c : Arrival) (m : is_echo_of w r c ≡ true). met_other w r.place place frame u c (other_frame place frame u c g m) ∙ sym (other_frame place frame u c g m) in
          rw (no_loss (waits w place frame u) came i there.0 there.1 none) (fewer place frame)

  -- and what waits is found
  pub found : (low : ℕ) (cs : List Arrival) → Rise low cs r.moment → 1 ≤ how_many (waits w r.place r.frame r.moment) cs → is_some (option_map origin_of (find (is_echo_of w r) cs)) ≡ true
  found low [] k h = absurd (omega (arith, h))
  found low (c ∷ cs) k h = by (is_echo_of w r c) refl (found c.moment cs k.1)
    where
      by : (q : Bool) → is_echo_of w r c ≡ q
          → (1 ≤ how_many (waits w r.place r.frame r.moment) cs → is_some (option_map origin_of (find (is_echo_of w r) cs)) ≡ true)
          → is_some (option_map origin_of (cond q (Some c) (find (is_echo_of w r) cs))) ≡ true
      by true e rest = refl
      by false e rest = rest (omega (arith, h, one_same (not_waiting r.moment c (omega arith) (rise_le c.moment r.moment cs k.1) e)))
