-- What a window keeps of frames that came in, of which some are owed yet.
use Rattle.std.proofs.Common.{◌≡◌, ◌<◌, ◌≤◌, ℕ, zero, suc, ◌+◌, ◌-◌, Bool, true, false, cond, not, nat_eq, nat_le, nat_lt, ◌&&◌, if◌then◌else◌}
use Rattle.std.proofs.Common.{List, [], ◌∷◌, ◌++◌, length, get_or, Option, Some, None, refl, sym, ap, ◌∙◌, arith}
use Rattle.std.specs.Prelude.{is_some, option_map}
use Rattle.std.specs.List.{find, list_all, position, position_or_len, slice_get}
use Rattle.std.proofs.lemmas.Bool.{true≢false, leb-true, ltb-true, ltb-false}
use Rattle.std.proofs.lemmas.List.Folds.{find_at}
use Rattle.std.proofs.lemmas.List.Quantifiers.{position-Some}
use Rattle.std.proofs.lemmas.Option.{slice_get_past}
use Rattle.both_ways.proofs.Waiting.{Enough, Rise, found, how_many, how_many_put, met_echo, met_enough, never_waits, no_gain, one_same, owed_less, rise_high, rise_low, waits}
use Rattle.echo_window.specs.Echo.{Arrival, Record, after, crowded_by, crowded_out, echo_of, entered, first_met, fits, is_echo_of, is_met_everywhere, met_again, newest, origin_of, recent}
use Rattle.wire.specs.Octets.{is_same}

-- no frame that didn't come in
abbrev pub Few : ℕ → List Arrival → List Arrival → Type 0
Few w came kept = (r : Record) → how_many (is_echo_of w r) kept ≤ how_many (is_echo_of w r) came

-- at a moment, of the frames that came in, and of those the ones that are still owed
pub record Keeps (w now : ℕ) (came owed kept : List Arrival) : Type 0 where
  pub rising : Rise 0 kept now
  pub few : Few w came kept
  pub enough : Enough w now owed kept

pub keeps_later : (w now more : ℕ) (came owed kept : List Arrival) → now ≤ more → Keeps w now came owed kept → Keeps w more came owed kept
keeps_later w now more came owed kept h k = record {
  rising = rise_high 0 now more kept h k.rising;
  few = k.few;
  enough = λ place frame t l. k.enough place frame t (omega (arith, h, l));
}

-- those that came in too early wait for nothing
rise_recent : (w t low high : ℕ) (cs : List Arrival) → Rise low cs high → Rise low (recent w t cs) high
rise_recent w t low high [] k = k
rise_recent w t low high (c ∷ cs) k = by (nat_lt (c.moment + w) t) (rise_low low c.moment high (recent w t cs) k.0 (rise_recent w t c.moment high cs k.1))
  where
    by : (q : Bool) → Rise low (recent w t cs) high → Rise low (if q then recent w t cs else c ∷ cs) high
    by true rest = rest
    by false rest = k

few_recent : (w t : ℕ) (p : Arrival → Bool) (cs : List Arrival) → how_many p (recent w t cs) ≤ how_many p cs
few_recent w t p [] = omega arith
few_recent w t p (c ∷ cs) = by (nat_lt (c.moment + w) t) (few_recent w t p cs)
  where
    by : (q : Bool) → how_many p (recent w t cs) ≤ how_many p cs → how_many p (if q then recent w t cs else c ∷ cs) ≤ how_many p (c ∷ cs)
    by true rest = omega (arith, rest)
    by false rest = omega arith

past : (w place : ℕ) (frame : List ℕ) (t u : ℕ) (c : Arrival) → t ≤ u → nat_lt (c.moment + w) t ≡ true → waits w place frame u c ≡ false
past w place frame t u c l h = by (nat_le u (c.moment + w)) refl
  where
    by : (q : Bool) → nat_le u (c.moment + w) ≡ q → (q && ((not (nat_eq c.place place) && get_or c.awaited place false) && is_same c.frame frame)) ≡ false
    by true e = absurd (omega (arith, l, leb-true u (c.moment + w) e, ltb-true (c.moment + w) t h))
    by false e = refl

enough_recent : (w place : ℕ) (frame : List ℕ) (t u : ℕ) (cs : List Arrival) → t ≤ u → how_many (waits w place frame u) cs ≤ how_many (waits w place frame u) (recent w t cs)
enough_recent w place frame t u [] l = omega arith
enough_recent w place frame t u (c ∷ cs) l = by (nat_lt (c.moment + w) t) refl (enough_recent w place frame t u cs l)
  where
    by : (q : Bool) → nat_lt (c.moment + w) t ≡ q → how_many (waits w place frame u) cs ≤ how_many (waits w place frame u) (recent w t cs)
        → how_many (waits w place frame u) (c ∷ cs) ≤ how_many (waits w place frame u) (if q then recent w t cs else c ∷ cs)
    by true h rest = omega (arith, rest, one_same (past w place frame t u c l h))
    by false h rest = omega arith

keeps_recent : (w now : ℕ) (came owed kept : List Arrival) → Keeps w now came owed kept → Keeps w now came owed (recent w now kept)
keeps_recent w now came owed kept k = record {
  rising = rise_recent w now 0 now kept k.rising;
  few = λ r. omega (arith, few_recent w now (is_echo_of w r) kept, k.few r);
  enough = λ place frame t l. omega (arith, enough_recent w place frame now t kept l, k.enough place frame t l);
}

-- one came in, and none goes for want of room that may be met again
not_awaited : (places : List Bool) (place : ℕ) → list_all not places ≡ true → get_or places place false ≡ false
not_awaited [] place h = refl
not_awaited (true ∷ places) place h = absurd (true≢false (sym h))
not_awaited (false ∷ places) zero h = refl
not_awaited (false ∷ places) (suc place) h = not_awaited places place h

done : (w place : ℕ) (frame : List ℕ) (t : ℕ) (c : Arrival) → is_met_everywhere c ≡ true → waits w place frame t c ≡ false
done w place frame t c h = rw (not_awaited c.awaited place h) (never_waits (nat_le t (c.moment + w)) (not (nat_eq c.place place)) (is_same c.frame frame))

none_owed : (m w place : ℕ) (frame : List ℕ) (t : ℕ) (cs : List Arrival) → crowded_out m cs ≡ [] → how_many (waits w place frame t) (newest cs) ≡ how_many (waits w place frame t) cs
none_owed m w place frame t [] h = refl
none_owed m w place frame t (c ∷ cs) h = by (fits (c ∷ cs)) (is_met_everywhere c) refl h (none_owed m w place frame t cs)
  where
    by : (q r : Bool) → is_met_everywhere c ≡ r → (if q then [] else (if r then [] else (m - c.moment) ∷ []) ++ crowded_out m cs) ≡ []
        → (crowded_out m cs ≡ [] → how_many (waits w place frame t) (newest cs) ≡ how_many (waits w place frame t) cs)
        → how_many (waits w place frame t) (if q then c ∷ cs else newest cs) ≡ how_many (waits w place frame t) (c ∷ cs)
    by true r e none rest = refl
    by false true e none rest = omega (arith, rest none, one_same (done w place frame t c e))
    by false false e none rest = absurd cc

few_newest : (p : Arrival → Bool) (cs : List Arrival) → how_many p (newest cs) ≤ how_many p cs
few_newest p [] = omega arith
few_newest p (c ∷ cs) = by (fits (c ∷ cs)) (few_newest p cs)
  where
    by : (q : Bool) → how_many p (newest cs) ≤ how_many p cs → how_many p (if q then c ∷ cs else newest cs) ≤ how_many p (c ∷ cs)
    by true rest = omega arith
    by false rest = omega arith

rise_newest : (low high : ℕ) (cs : List Arrival) → Rise low cs high → Rise low (newest cs) high
rise_newest low high [] k = k
rise_newest low high (c ∷ cs) k = by (fits (c ∷ cs)) (rise_low low c.moment high (newest cs) k.0 (rise_newest c.moment high cs k.1))
  where
    by : (q : Bool) → Rise low (newest cs) high → Rise low (if q then c ∷ cs else newest cs) high
    by true rest = k
    by false rest = rest

rise_put : (low high : ℕ) (cs : List Arrival) (c : Arrival) → high ≤ c.moment → Rise low cs high → Rise low (cs ++ c ∷ []) c.moment
rise_put low high [] c h k = (omega (arith, h, k), omega arith)
rise_put low high (d ∷ cs) c h k = (k.0, rise_put d.moment high cs c h k.1)

put_too : (p : Arrival → Bool) (xs ys : List Arrival) (c : Arrival) → how_many p xs ≤ how_many p ys → how_many p (xs ++ c ∷ []) ≤ how_many p (ys ++ c ∷ [])
put_too p xs ys c h = omega (arith, h, how_many_put p xs c, how_many_put p ys c)

pub keeps_one_more : (w : ℕ) (r : Record) (came owed kept : List Arrival) → crowded_by (recent w r.moment kept) r ≡ [] → Keeps w r.moment came owed kept
    → Keeps w r.moment (came ++ first_met r ∷ []) (owed ++ first_met r ∷ []) (entered w kept r)
keeps_one_more w r came owed kept none k =
    let here = keeps_recent w r.moment came owed kept k in
    let put : Keeps w r.moment (came ++ first_met r ∷ []) (owed ++ first_met r ∷ []) (recent w r.moment kept ++ first_met r ∷ []) = record {
      rising = rise_put 0 r.moment (recent w r.moment kept) (first_met r) (omega arith) here.rising;
      few = λ q. put_too (is_echo_of w q) (recent w r.moment kept) came (first_met r) (here.few q);
      enough = λ place frame t l. put_too (waits w place frame t) owed (recent w r.moment kept) (first_met r) (here.enough place frame t l);
    } in
    let all = recent w r.moment kept ++ first_met r ∷ [] in
    record {
      rising = rise_newest 0 r.moment all put.rising;
      few = λ q. omega (arith, few_newest (is_echo_of w q) all, put.few q);
      enough = λ place frame t l. omega (arith, none_owed r.moment w place frame t all none, put.enough place frame t l);
    }

-- a record at a port is no echo of any that came in
none_found : (p : Arrival → Bool) (cs : List Arrival) → how_many p cs ≡ 0 → find p cs ≡ None
none_found p [] h = refl
none_found p (c ∷ cs) h = by (p c) h (none_found p cs)
  where
    by : (q : Bool) → cond q 1 0 + how_many p cs ≡ 0 → (how_many p cs ≡ 0 → find p cs ≡ None) → cond q (Some c) (find p cs) ≡ None
    by true e rest = absurd (omega (arith, e))
    by false e rest = rest (omega (arith, e))

found_none : (p : Arrival → Bool) (cs : List Arrival) → option_map origin_of (find p cs) ≡ None → how_many p cs ≡ 0
found_none p [] h = refl
found_none p (c ∷ cs) h = by (p c) h (found_none p cs)
  where
    by : (q : Bool) → option_map origin_of (cond q (Some c) (find p cs)) ≡ None
        → (option_map origin_of (find p cs) ≡ None → how_many p cs ≡ 0) → cond q 1 0 + how_many p cs ≡ 0
    by true e rest = absurd cc
    by false e rest = omega (arith, rest e)

counted : (p : Arrival → Bool) (cs : List Arrival) (i : ℕ) (d : Arrival) → i < length cs → p (get_or cs i d) ≡ true → 1 ≤ how_many p cs
counted p [] i d l h = absurd (omega (arith, l))
counted p (c ∷ cs) zero d l h = omega (arith, one_same h)
counted p (c ∷ cs) (suc i) d l h = omega (arith, counted p cs i d (omega (arith, l)) h)

none_more : (a b : ℕ) → a ≤ b → b ≡ 0 → a ≡ 0
none_more a b h e = omega (arith, h, e)

pub no_echo : (w : ℕ) (r : Record) (came owed kept : List Arrival) → echo_of w came r ≡ None → Keeps w r.moment came owed kept → is_some (echo_of w kept r) ≡ false
no_echo w r came owed kept new k =
    rw (none_found (is_echo_of w r) kept (none_more (how_many (is_echo_of w r) kept) (how_many (is_echo_of w r) came) (k.few r) (found_none (is_echo_of w r) came new))) refl

pub keeps_unmet : (w : ℕ) (r : Record) (came owed kept : List Arrival) → echo_of w came r ≡ None → Keeps w r.moment came owed kept → Keeps w r.moment came owed (after w kept r)
keeps_unmet w r came owed kept new k = by (position (is_echo_of w r) (recent w r.moment kept)) refl
  where
    here : Keeps w r.moment came owed (recent w r.moment kept)
    here = keeps_recent w r.moment came owed kept k

    by : (o : Option ℕ) → position (is_echo_of w r) (recent w r.moment kept) ≡ o → Keeps w r.moment came owed (elim o [ Some i ↦ met_again r (recent w r.moment kept) i | None ↦ recent w r.moment kept ])
    by None e = here
    by (Some i) e =
        let at = position-Some (is_echo_of w r) (recent w r.moment kept) i (first_met r) e in
        absurd (omega (arith, counted (is_echo_of w r) (recent w r.moment kept) i (first_met r) at.0 at.1, here.few r, found_none (is_echo_of w r) came new))

-- one at a port was sent for a frame that is owed there
pub an_echo : (w : ℕ) (r : Record) (came owed kept : List Arrival) (n : ℕ) → is_echo_of w r (get_or owed n (first_met r)) ≡ true → Keeps w r.moment came owed kept
    → is_some (echo_of w kept r) ≡ true
an_echo w r came owed kept n e k =
    found w r 0 kept k.rising (omega (arith, owed_less w r r.moment owed n (omega arith) e, k.enough r.place r.frame r.moment (omega arith)))

found_nowhere : (p : Arrival → Bool) (cs : List Arrival) → position p cs ≡ None → find p cs ≡ None
found_nowhere p cs e = rw (find_at p cs) (by (nat_lt (position_or_len p cs) (length cs)) refl)
  where
    by : (q : Bool) → nat_lt (position_or_len p cs) (length cs) ≡ q → slice_get cs (position_or_len p cs) ≡ None
    by true h = let some : position p cs ≡ Some (position_or_len p cs) = rw h refl in absurd cc
    by false h = slice_get_past cs (position_or_len p cs) (ltb-false (position_or_len p cs) (length cs) h)

rise_met : (r : Record) (low high : ℕ) (cs : List Arrival) (i : ℕ) → Rise low cs high → Rise low (met_again r cs i) high
rise_met r low high [] i k = k
rise_met r low high (c ∷ cs) zero k = k
rise_met r low high (c ∷ cs) (suc i) k = (k.0, rise_met r c.moment high cs i k.1)

pub keeps_met : (w : ℕ) (r : Record) (came owed kept : List Arrival) (n : ℕ) → is_echo_of w r (get_or owed n (first_met r)) ≡ true → Keeps w r.moment came owed kept
    → Keeps w r.moment came (met_again r owed n) (after w kept r)
keeps_met w r came owed kept n e k = by (position (is_echo_of w r) (recent w r.moment kept)) refl
  where
    here : Keeps w r.moment came owed (recent w r.moment kept)
    here = keeps_recent w r.moment came owed kept k

    by : (o : Option ℕ) → position (is_echo_of w r) (recent w r.moment kept) ≡ o
        → Keeps w r.moment came (met_again r owed n) (elim o [ Some i ↦ met_again r (recent w r.moment kept) i | None ↦ recent w r.moment kept ])
    by None at =
        let none : echo_of w (recent w r.moment kept) r ≡ None = ap (option_map origin_of) (found_nowhere (is_echo_of w r) (recent w r.moment kept) at) in
        absurd (true≢false (sym (an_echo w r came owed (recent w r.moment kept) n e here) ∙ ap is_some none))
    by (Some i) at = record {
      rising = rise_met r 0 r.moment (recent w r.moment kept) i here.rising;
      few = λ q. omega (arith, no_gain w r (is_echo_of w q) (recent w r.moment kept) i (met_echo w r.place q), here.few q);
      enough = met_enough w r 0 owed (recent w r.moment kept) n i here.rising here.enough e at;
    }
