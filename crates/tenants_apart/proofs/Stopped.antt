-- Two runs, either of which may have stopped.
use Rattle.std.proofs.Common.{◌≡◌, ◌∙◌, refl, sym, ap, ℕ, List, [], ◌∷◌, ◌++◌, inl, inr}
use Rattle.endpoint_core.specs.Settings.{Settings}
use Rattle.endpoint_core.specs.Event.{Event, IsRising}
use Rattle.endpoint_core.specs.Step.{State, opened, after, state_after}
use Rattle.noninterference.specs.Leaving.{Row, rows, departures_in, lines_in}
use Rattle.tenants_apart.specs.Own.{Needs, IsEnough, part_of, own_events, room_replies, IsOneFront}
use Rattle.tenants_apart.proofs.Events.{read-alike}
use Rattle.tenants_apart.proofs.Running.{row_of, same-head, same-tail}
use Rattle.tenants_apart.proofs.Telling.{Reads, reads-departures, reads-lines}

-- of two fronts of one list one is a front of the other
longer : {A : Type 0} (x y : A) (xs ys : List A) → x ≡ y → IsOneFront xs ys → IsOneFront (x ∷ xs) (y ∷ ys)
longer x y xs ys same (inl front) = inl (front.0, λ i. same i ∷ front.1 i)
longer x y xs ys same (inr front) = inr (front.0, λ i. sym same i ∷ front.1 i)

two-fronts : {A : Type 0} (xs more ys others : List A) → xs ++ more ≡ ys ++ others → IsOneFront xs ys
two-fronts [] more ys others same = inl (ys, refl)
two-fronts (x ∷ xs) more [] others same = inr (x ∷ xs, refl)
two-fronts (x ∷ xs) more (y ∷ ys) others same =
    longer x y xs ys (same-head x y (xs ++ more) (ys ++ others) same) (two-fronts xs more ys others (same-tail x y (xs ++ more) (ys ++ others) same))

rows-append : (s : State) (es later : List Event) → rows s (es ++ later) ≡ rows s es ++ rows (state_after s es) later
rows-append s [] later = refl
rows-append s (e ∷ es) later = ap (λ l. row_of s e ∷ l) (rows-append (after s e) es later)

module _ (vid : ℕ) (needs : Needs) (S T : Settings) (es later fs others : List Event) (up : IsRising 0 (es ++ later)) (rising : IsRising 0 (fs ++ others))
    (enough : IsEnough vid needs S (es ++ later)) (same : part_of vid needs S ≡ part_of vid needs T) (events : own_events vid needs S (es ++ later) ≡ own_events vid needs T (fs ++ others)) (replies : room_replies vid S (es ++ later) ≡ room_replies vid T (fs ++ others)) where
  read-stopped : {A : Type 0} (f : List Row → List A) → Reads A vid needs f → IsOneFront (f (rows (opened S) es)) (f (rows (opened T) fs))
  read-stopped f reads =
      let mine = rows (state_after (opened S) es) later in
      let theirs = rows (state_after (opened T) fs) others in
      two-fronts (f (rows (opened S) es)) (f mine) (f (rows (opened T) fs)) (f theirs)
      (sym (ap f (rows-append (opened S) es later) ∙ reads.append (rows (opened S) es) mine)
      ∙ read-alike vid needs f reads S T (es ++ later) (fs ++ others) up rising enough same events replies
      ∙ ap f (rows-append (opened T) fs others)
      ∙ reads.append (rows (opened T) fs) theirs)

  pub leaving-stopped : IsOneFront (departures_in vid (rows (opened S) es)) (departures_in vid (rows (opened T) fs))
  leaving-stopped = read-stopped (departures_in vid) (reads-departures vid needs)

  pub lines-stopped : IsOneFront (lines_in vid (rows (opened S) es)) (lines_in vid (rows (opened T) fs))
  lines-stopped = read-stopped (lines_in vid) (reads-lines vid needs)
