-- Rooms of flood lists by their places, where a row or a room changes.
use Rattle.std.proofs.Common.{◌≡◌, ◌<◌, ℕ, Bool, true, false, not, ◌||◌, ◌==◌, List, length, get_or, set, Option, Some, None, Result, Ok, Err, refl, sym, ap, ◌∙◌, subst, inl, inr, arith}
use Rattle.std.specs.Prelude.{IfOk, OnErr, is_some, nat_le}
use Rattle.std.proofs.lemmas.Bool.{cases_eq, ne_eqb, ltb-true}
use Rattle.std.proofs.lemmas.List.{length-set, get_or-set_same, get_or-set_other}
use Rattle.overlay.specs.UnderlayFlood.{Entries, has_room, is_wide}
use Rattle.overlay.proofs.SeatLemmas.{read_at}
use Rattle.overlay.specs.Seats.{HasRooms, gives, is_wide_at}

-- one of three, the third in another form
pub or_false : (a b c : Bool) → c ≡ false → (a || b || c) ≡ true → (a || b) ≡ true
or_false true b c is holds = refl
or_false false true c is holds = refl
or_false false false c is holds = sym is ∙ holds

pub or_more : (a b c : Bool) → (a || b) ≡ true → (a || b || c) ≡ true
or_more true b c holds = refl
or_more false true c holds = refl
or_more false false c holds = absurd (false-true holds)
  where
    false-true : false ≡ true → ⊥
    false-true e = absurd cc

pub or_same : (a b c d e : Bool) → (d || e) ≡ (b || c) → (a || b || c) ≡ true → (a || d || e) ≡ true
or_same true b c d e same holds = refl
or_same false b c d e same holds = same ∙ holds

-- a list that has a room isn't one of 16
wide_other : (l : Entries) → is_wide l ≡ true → not (length l == 16) ≡ true
wide_other l wide = ap not (ne_eqb (length l) 16 (λ same. omega (arith, ltb-true 16 (length l) wide, same)))

-- a list with a room beside it, where it needs one, takes entries
pub roomy : (most : ℕ) (l : Entries) (room : Option ℕ) → (nat_le most 16 || is_some room || is_wide l) ≡ true → has_room most l room ≡ true
roomy most l room kept = by (nat_le most 16) (is_some room) (is_wide l) refl kept
  where
    by : (a b c : Bool) → is_wide l ≡ c → (a || b || c) ≡ true → (a || (not (length l == 16) || b)) ≡ true
    by true b c is holds = refl
    by false true c is holds = last (not (length l == 16))
      where
        last : (d : Bool) → (d || true) ≡ true
        last true = refl
        last false = refl
    by false false c is holds = ap (λ (d : Bool). d || false) (wide_other l (is ∙ holds))

-- what a list keeps that has given up an entry, beside what it gave
pub gave : {E : Type 0} (r : Result (Option ℕ) E) (old new : Entries) → IfOk r (λ room. (is_some room || is_wide new) ≡ is_wide old) → OnErr r (new ≡ old) → (gives r || is_wide new) ≡ is_wide old
gave (Ok room) old new kept same = kept
gave (Err e) old new kept same = ap is_wide same

pub gave_beside : (a b c d g : Bool) → d ≡ (b || g) → (e : Bool) → (g || e) ≡ c → (a || b || c) ≡ true → (a || d || e) ≡ true
gave_beside a b c d g is e kept holds =
    ap (λ (x : Bool). a || x || e) is ∙ by a b g e (subst (λ (x : Bool). (a || b || x) ≡ true) (sym kept) holds)
  where
    by : (a b g e : Bool) → (a || b || (g || e)) ≡ true → (a || (b || g) || e) ≡ true
    by true b g e h = refl
    by false true g e h = refl
    by false false g e h = h

module _ {R : Type 0} (flood : R → Entries) (most : ℕ) where
  -- what there is for a row at a place
  pub rooms_there : (rows : List (Option R)) (rooms : List (Option ℕ)) (k : ℕ) (row : R) (room : Option ℕ) → HasRooms flood most rows rooms → k < length rows → get_or rows k None ≡ Some row
      → room ≡ get_or rooms k None → (nat_le most 16 || is_some room || is_wide (flood row)) ≡ true
  rooms_there rows rooms k row room has lt there read =
      ap (λ (x : Option ℕ). nat_le most 16 || is_some x || is_wide (flood row)) read
      ∙ sym (ap (λ (x : Option R). nat_le most 16 || is_some (get_or rooms k None) || is_wide_at flood x) there) ∙ has.each k lt

  -- the same, of a row and a room as they are read
  pub rooms_read : (rows : List (Option R)) (rooms : List (Option ℕ)) (p : ℕ) (y : Option R) (row : R) (room : Option ℕ) → HasRooms flood most rows rooms → p < length rows → y ≡ get_or rows p y → y ≡ Some row
      → room ≡ get_or rooms p room → (nat_le most 16 || is_some room || is_wide (flood row)) ≡ true
  rooms_read rows rooms p y row room has lt read is read_room =
      rooms_there rows rooms p row room has lt (sym (read_at rows p p y read refl lt) ∙ is) (read_at rooms p p room read_room refl (let l : p < length rooms = omega (arith, lt, has.size) in l))

  -- with a row and a room at one place that keep it
  pub rooms_at : (rows : List (Option R)) (rooms : List (Option ℕ)) (j : ℕ) (row : Option R) (room : Option ℕ) → HasRooms flood most rows rooms
      → (nat_le most 16 || is_some room || is_wide_at flood row) ≡ true → HasRooms flood most (set rows j row) (set rooms j room)
  rooms_at rows rooms j row room has kept = record {
    size = length-set rooms j room ∙ has.size ∙ sym (length-set rows j row);
    each = λ k lt. by k (let l : k < length rows = omega (arith, lt, length-set rows j row) in l);
  }
    where
      by : (k : ℕ) → k < length rows → (nat_le most 16 || is_some (get_or (set rooms j room) k None) || is_wide_at flood (get_or (set rows j row) k None)) ≡ true
      by k lt = elim (cases_eq k j) [
        | inl same ↦
            let lt_row : j < length rows = omega (arith, lt, same) in
            let lt_room : j < length rooms = omega (arith, lt_row, has.size) in
            let here : get_or (set rooms j room) k None ≡ room = ap (λ (i : ℕ). get_or (set rooms j room) i None) same ∙ get_or-set_same rooms j room None lt_room in
            let there : get_or (set rows j row) k None ≡ row = ap (λ (i : ℕ). get_or (set rows j row) i None) same ∙ get_or-set_same rows j row None lt_row in
            rw (here, there) kept
        | inr ne ↦ rw (get_or-set_other rooms j k room None ne, get_or-set_other rows j k row None ne) (has.each k lt)
      ]

  -- with a row that keeps it beside the room at its place
  pub rooms_row : (rows : List (Option R)) (rooms : List (Option ℕ)) (j : ℕ) (row : Option R) → HasRooms flood most rows rooms
      → (nat_le most 16 || is_some (get_or rooms j None) || is_wide_at flood row) ≡ true → HasRooms flood most (set rows j row) rooms
  rooms_row rows rooms j row has kept = record {
    size = has.size ∙ sym (length-set rows j row);
    each = λ k lt. by k (let l : k < length rows = omega (arith, lt, length-set rows j row) in l);
  }
    where
      by : (k : ℕ) → k < length rows → (nat_le most 16 || is_some (get_or rooms k None) || is_wide_at flood (get_or (set rows j row) k None)) ≡ true
      by k lt = elim (cases_eq k j) [
        | inl same ↦
            let lt_row : j < length rows = omega (arith, lt, same) in
            let there : get_or (set rows j row) k None ≡ row = ap (λ (i : ℕ). get_or (set rows j row) i None) same ∙ get_or-set_same rows j row None lt_row in
            rw (there) (ap (λ (i : ℕ). nat_le most 16 || is_some (get_or rooms i None) || is_wide_at flood row) same ∙ kept)
        | inr ne ↦ rw (get_or-set_other rows j k row None ne) (has.each k lt)
      ]

  -- a row at a free place
  pub rooms_put : (rows : List (Option R)) (rooms : List (Option ℕ)) (j : ℕ) (row : R) → HasRooms flood most rows rooms → get_or rows j None ≡ None → j < length rows
      → HasRooms flood most (set rows j (Some row)) rooms
  rooms_put rows rooms j row has free lt =
      let a = nat_le most 16 in
      let b = is_some (get_or rooms j None) in
      rooms_row rows rooms j (Some row) has (or_more a b (is_wide (flood row)) (or_false a b (is_wide_at flood (get_or rows j None)) (ap (is_wide_at flood) free) (has.each j lt)))

  -- a room, where one is needed, at each place
  pub rooms_from : (rows : List (Option R)) (rooms : List (Option ℕ)) → length rooms ≡ length rows
      → ((k : ℕ) → k < length rows → (nat_le most 16 || is_some (get_or rooms k None)) ≡ true) → HasRooms flood most rows rooms
  rooms_from rows rooms size each = record {
    size = size;
    each = λ k lt. or_more (nat_le most 16) (is_some (get_or rooms k None)) (is_wide_at flood (get_or rows k None)) (each k lt);
  }

  -- a row that is taken from its place, and the room of its list that goes back there
  pub rooms_emptied : (rows : List (Option R)) (rooms : List (Option ℕ)) (p q : ℕ) (y x : Option R) (old new : Option ℕ) → HasRooms flood most rows rooms → p < length rows → q ≡ p → y ≡ get_or rows p y → x ≡ y
      → old ≡ get_or rooms q old → is_some new ≡ (is_some old || is_wide_at flood x) → HasRooms flood most (set rows p None) (set rooms q new)
  rooms_emptied rows rooms p q y x old new has lt same read taken read_room kept =
      let lt_room : p < length rooms = omega (arith, lt, has.size) in
      let here : x ≡ get_or rows p None = taken ∙ read_at rows p p y read refl lt in
      let there : old ≡ get_or rooms p None = read_at rooms q p old read_room same lt_room in
      let held : (nat_le most 16 || (is_some old || is_wide_at flood x)) ≡ true = rw (here, there) (grouped (nat_le most 16) (is_some (get_or rooms p None)) (is_wide_at flood (get_or rows p None)) (has.each p lt)) in
      rw same (rooms_at rows rooms p None new has (gone (nat_le most 16) (is_some new) (ap (λ (b : Bool). nat_le most 16 || b) kept ∙ held)))
    where
      grouped : (a b c : Bool) → (a || b || c) ≡ true → (a || (b || c)) ≡ true
      grouped true b c h = refl
      grouped false b c h = h

      gone : (a b : Bool) → (a || b) ≡ true → (a || b || false) ≡ true
      gone true b h = refl
      gone false true h = refl
      gone false false h = h
