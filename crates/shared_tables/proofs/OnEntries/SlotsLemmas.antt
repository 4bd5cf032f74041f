-- What a write to one slot leaves of the columns and of the free list.
use Rattle.std.proofs.Common.{cond, is_some, true, ◌≡◌, ℕ, zero, suc, ◌+◌, ◌-◌, ◌^◌, ◌<◌, List, [], ◌∷◌, ◌++◌, length, length-append, map, get_or, set, replicate, Option, Some, None, IfSome, IsSome, vec_capacity, refl, sym, ap, ◌∙◌, subst, arith}
use Rattle.std.proofs.lemmas.List.Sums.{sum_by-append}
use Rattle.std.proofs.lemmas.List.{map-append, get_or_append_left, get_or_past, length-replicate, set-append_left, map-set, get_or-map, get_or-set_same, get_or-set_other, length-set, length-map}
use Rattle.std.proofs.Math.Seq.{map-set_same}
use Rattle.std.proofs.lemmas.List.Sums.{sum_by-set}
use Rattle.shared_tables.specs.declared.slots.Slot.{Slot}
use Rattle.shared_tables.specs.declared.links.Links.{Links}
use Rattle.shared_tables.specs.declared.slots.Slots.TheInside.{Inside}
use Rattle.shared_tables.specs.declared.slots.Kind.{Kind}
use Rattle.shared_tables.specs.declared.slots.Kind.TheVariants as kind
use Rattle.filter_db.specs.declared.place.Place.{Place}
use Rattle.shared_tables.specs.Bucket.{vid_in, mac_in}
use Rattle.shared_tables.specs.Pool.{Pool, Held, IfHeld, entry_at, links_at, vacancy, free_count, renewed, readdressed, place_in, taken, freed, alone}
use Rattle.shared_tables.specs.TreesOfSlots.{key_in}
use Rattle.shared_tables.proofs.OnTrees.Keys.{key_of-key}
use Rattle.shared_tables.specs.Slots.{entry_in, entry_by, kind_of, moment_of, line_of, pool_with, pool_of, no_slot, all_slots, IsAbsent, IsFreeList, IsFreeAll, IsStocked, IsWithin}

pub same_pool : {es fs : List (Option Held)} {ls ms : List Links} (v : ℕ) → es ≡ fs → ls ≡ ms
    → ◌≡◌ {A = Pool} (record { entries = es; lines = ls; visited = v }) (record { entries = fs; lines = ms; visited = v })
same_pool v p r = λ i. record { entries = p i; lines = r i; visited = v }

-- the slot that was read
read : (xs : List Slot) (i : ℕ) (old : Slot) → i < length xs → old ≡ get_or xs i old → (e : Option Held) → get_or (map entry_in xs) i e ≡ entry_in old
read xs i old lt is e = get_or-map entry_in xs i old e lt ∙ ap entry_in (sym is)

-- an entry that is there, behind a slot's line
line_held : (s : Slot) → IsSome (entry_in s) → line_of s ≡ s.line
line_held s h = held (entry_in s) h where
  held : (e : Option Held) → IsSome e → cond (is_some e) s.line alone ≡ s.line
  held (Some e) h = refl
  held None h = cc

held_old : (xs : List Slot) (i : ℕ) (old : Slot) → i < length xs → old ≡ get_or xs i old → IsSome (entry_at (map entry_in xs) i) → IsSome (entry_in old)
held_old xs i old lt is held = subst (λ (o : Option Held). IsSome o) (read xs i old lt is None) held

-- what a slot has on its line
own_links : (xs : List Slot) (v i : ℕ) (old : Slot) → i < length xs → old ≡ get_or xs i old → IsSome (entry_in old) → old.line ≡ links_at (pool_with xs v).lines i
own_links xs v i old lt is held = sym (line_held old held) ∙ sym (get_or-map line_of xs i old alone lt ∙ ap line_of (sym is))

-- a write of other neighbours
pub pool-set_links : (xs : List Slot) (v i : ℕ) (links : Links) (old : Slot) → i < length xs → old ≡ get_or xs i old → IsSome (entry_in old)
    → pool_with (set xs i (record old { line = links })) v ≡ record (pool_with xs v) { lines = set (map line_of xs) i links }
pool-set_links xs v i links old lt is held =
    same_pool v (map-set_same entry_in xs i (record old { line = links }) old (ap entry_in is))
    (map-set line_of xs i (record old { line = links }) ∙ ap (set (map line_of xs) i) (line_held (record old { line = links }) held))

-- a write of another entry beside the same neighbours
pub pool-set_entry : (xs : List Slot) (v i : ℕ) (s old : Slot) → i < length xs → old ≡ get_or xs i old → s.line ≡ old.line → is_some (entry_in s) ≡ is_some (entry_in old)
    → pool_with (set xs i s) v ≡ record (pool_with xs v) { entries = set (map entry_in xs) i (entry_in s) }
pool-set_entry xs v i s old lt is line same =
    same_pool v (map-set entry_in xs i s)
    (map-set_same line_of xs i s old (ap (λ l. cond (is_some (entry_in s)) l alone) line ∙ ap (λ b. cond b old.line alone) same ∙ ap line_of is))

-- a whole slot written
pub pool-set : (xs : List Slot) (v i : ℕ) (s : Slot)
    → pool_with (set xs i s) v ≡ record (pool_with xs v) { entries = set (map entry_in xs) i (entry_in s); lines = set (map line_of xs) i (line_of s) }
pool-set xs v i s = same_pool v (map-set entry_in xs i s) (map-set line_of xs i s)

-- what the free list says of a slot on it
module _ (xs : List Slot) where
  -- a slot that holds an entry isn't on it
  off_list : (i : ℕ) → IsSome (entry_in (get_or xs i no_slot)) → (is : List ℕ) (f : Option ℕ) → IsFreeList xs f is → IsAbsent i is
  off_list i held [] f h = tt
  off_list i held (j ∷ is) f h =
      (λ e. let none : IsSome {T = Held} None = subst (λ (o : Option Held). IsSome o) (ap (λ k. (entry_in (get_or xs k no_slot))) (sym e) ∙ h.2) held in cc, off_list i held is _ h.4)

  -- a write elsewhere leaves it
  kept_list : (i : ℕ) (s : Slot) (is : List ℕ) (f : Option ℕ) → IsAbsent i is → IsFreeList xs f is → IsFreeList (set xs i s) f is
  kept_list i s [] f a h = h
  kept_list i s (j ∷ is) f a h =
      let at_j : get_or (set xs i s) j no_slot ≡ get_or xs j no_slot = get_or-set_other xs i j s no_slot a.0 in (
        h.0,
        subst (λ n. j < n) (sym (length-set xs i s)) h.1,
        ap entry_in at_j ∙ h.2,
        h.3,
        subst (λ (o : Option ℕ). IsFreeList (set xs i s) o is) (ap (λ (t : Slot). t.line.next) (sym at_j)) (kept_list i s is _ a.1 h.4),
      )

  -- how many are free after a write
  counted : (i : ℕ) (s : Slot) → i < length xs
      → free_count (map entry_in (set xs i s)) + vacancy (entry_in (get_or xs i no_slot)) ≡ free_count (map entry_in xs) + vacancy (entry_in s)
  counted i s lt =
      let lt' : i < length (map entry_in xs) = subst (λ n. i < n) (sym (length-map xs entry_in)) lt in
      ap (λ es. free_count es + vacancy (entry_in (get_or xs i no_slot))) (map-set entry_in xs i s)
      ∙ ap (λ e. free_count (set (map entry_in xs) i (entry_in s)) + vacancy e) (sym (get_or-map entry_in xs i no_slot None lt))
      ∙ sum_by-set vacancy (map entry_in xs) i (entry_in s) None lt'

  vacancy_some : (e : Option Held) → IsSome e → vacancy e ≡ 0
  vacancy_some (Some e) h = refl
  vacancy_some None h = cc

  -- an entry in place of an entry
  pub keeps_free : (i : ℕ) (s : Slot) (f : Option ℕ) (is : List ℕ) → i < length xs → IsSome (entry_in (get_or xs i no_slot)) → IsSome (entry_in s) → IsFreeAll xs f is → IsFreeAll (set xs i s) f is
  keeps_free i s f is lt held some h = record {
    list = kept_list i s is f (off_list i held is f h.list) h.list;
    all = omega (arith, h.all, counted i s lt, vacancy_some _ held, vacancy_some _ some);
  }

  -- an entry goes
  pub frees : (i : ℕ) (s : Slot) (f : Option ℕ) (is : List ℕ) → i < length xs → IsSome (entry_in (get_or xs i no_slot)) → entry_in s ≡ None → s.line.next ≡ f → IsFreeAll xs f is → IsFreeAll (set xs i s) (Some i) (i ∷ is)
  frees i s f is lt held none next h =
      let off : IsAbsent i is = off_list i held is f h.list in
      let at_i : get_or (set xs i s) i no_slot ≡ s = get_or-set_same xs i s no_slot lt in
      record {
        list = (
          refl,
          subst (λ n. i < n) (sym (length-set xs i s)) lt,
          ap entry_in at_i ∙ none,
          off,
          subst (λ (o : Option ℕ). IsFreeList (set xs i s) o is) (sym (ap (λ (t : Slot). t.line.next) at_i ∙ next)) (kept_list i s is f off h.list),
        );
        all = omega (arith, h.all, counted i s lt, vacancy_some _ held, ap vacancy none);
      }

  -- an entry comes
  pub takes : (i : ℕ) (s : Slot) (is : List ℕ) → IsSome (entry_in s) → IsFreeAll xs (Some i) (i ∷ is) → IsFreeAll (set xs i s) (get_or xs i no_slot).line.next is
  takes i s is some h = record {
    list = kept_list i s is _ h.list.3 h.list.4;
    all = omega (arith, h.all, counted i s h.list.1, vacancy_some _ some, ap vacancy h.list.2);
  }

-- A pool and a slot's number as a method sees them: e is the value's `.view_is`, q is the number's.
module _ (xs : List Slot) (v i slot : ℕ) (now : Pool) (e : pool_with xs v ≡ now) (q : i ≡ slot) where
  pub forth : (P : Pool → ℕ → Type 0) → P (pool_with xs v) i → P now slot
  forth P p = subst (λ s. P now s) q (subst (λ w. P w i) e p)

  pub back : (P : Pool → ℕ → Type 0) → P now slot → P (pool_with xs v) i
  back P p = subst (λ w. P w i) (sym e) (subst (λ s. P now s) (sym q) p)

  pub in_range : slot < length now.entries → i < length xs
  in_range h = subst (λ k. i < k) (length-map xs entry_in) (back (λ w s. s < length w.entries) h)

  pub held_at : slot < length now.entries → IsSome (entry_at now.entries slot) → IsSome (entry_in (get_or xs i no_slot))
  held_at lt h = subst (λ (o : Option Held). IsSome o) (get_or-map entry_in xs i no_slot None (in_range lt)) (back (λ w s. IsSome (entry_at w.entries s)) h)

  pub entry_read : (old : Slot) → old ≡ get_or xs i old → slot < length now.entries → entry_in old ≡ entry_at now.entries slot
  entry_read old is lt = sym (read xs i old (in_range lt) is None) ∙ forth (λ w s. entry_at (map entry_in xs) i ≡ entry_at w.entries s) refl

  pub links_read : (old : Slot) → old ≡ get_or xs i old → slot < length now.entries → IsSome (entry_at now.entries slot) → old.line ≡ links_at now.lines slot
  links_read old is lt h =
      own_links xs v i old (in_range lt) is (held_old xs i old (in_range lt) is (back (λ w s. IsSome (entry_at w.entries s)) h)) ∙ forth (λ w s. links_at (pool_with xs v).lines i ≡ links_at w.lines s) refl

  pub held_old_at : (old : Slot) → old ≡ get_or xs i old → slot < length now.entries → IsSome (entry_at now.entries slot) → IsSome (entry_in old)
  held_old_at old is lt h = held_old xs i old (in_range lt) is (back (λ w s. IsSome (entry_at w.entries s)) h)

pub is_some-renewed : (o : Option Held) (place : Place) (last : Option ℕ) → is_some (renewed o place last) ≡ is_some o
is_some-renewed None place last = refl
is_some-renewed (Some e) place last = refl

pub is_some-readdressed : (o : Option Held) (vid : ℕ) (mac : List ℕ) → is_some (readdressed o vid mac) ≡ is_some o
is_some-readdressed None vid mac = refl
is_some-readdressed (Some e) vid mac = refl

pub some_renewed : (o : Option Held) (place : Place) (last : Option ℕ) → IsSome o → IsSome (renewed o place last)
some_renewed None place last h = h
some_renewed (Some e) place last h = refl

-- a write of another place and moment
pub pool-renew : (xs : List Slot) (v i : ℕ) (place : Place) (last : Option ℕ) (s old : Slot) → i < length xs → old ≡ get_or xs i old → s.line ≡ old.line → entry_in s ≡ renewed (entry_in old) place last
    → pool_with (set xs i s) v ≡ record (pool_with xs v) { entries = set (map entry_in xs) i (renewed (entry_at (map entry_in xs) i) place last) }
pool-renew xs v i place last s old lt is line e =
    pool-set_entry xs v i s old lt is line (ap is_some e ∙ is_some-renewed (entry_in old) place last)
    ∙ ap (λ o. record (pool_with xs v) { entries = set (map entry_in xs) i o }) (e ∙ ap (λ o. renewed o place last) (sym (read xs i old lt is None)))

-- the fields of a renewed slot
pub renewed_entry : (kind : Kind) (key was : ℕ) (before place : Place) (last : Option ℕ) → IsSome (entry_by kind key was before) → entry_by (kind_of last) key (moment_of last) place ≡ renewed (entry_by kind key was before) place last
renewed_entry kind.Free key was before place last h = cc
renewed_entry kind.Learned key was before place None h = refl
renewed_entry kind.Learned key was before place (Some t) h = refl
renewed_entry kind.Fixed key was before place None h = refl
renewed_entry kind.Fixed key was before place (Some t) h = refl

-- the address that a slot holds is its key's
pub held_by : (kind : Kind) (key last : ℕ) (place : Place) (vid : ℕ) (mac : List ℕ) → IsSome (entry_by kind key last place)
    → (IfHeld (entry_by kind key last place) vid mac → (vid_in key ≡ vid) × (mac_in key ≡ mac)) × ((vid_in key ≡ vid) × (mac_in key ≡ mac) → IfHeld (entry_by kind key last place) vid mac)
held_by kind.Free key last place vid mac h = cc
held_by kind.Learned key last place vid mac h = (λ x. x, λ x. x)
held_by kind.Fixed key last place vid mac h = (λ x. x, λ x. x)

-- ---- slots that aren't there yet

-- behind those that were made there are free ones alone
none_behind : (xs : List Slot) (k i : ℕ) → get_or (xs ++ replicate k no_slot) i no_slot ≡ get_or xs i no_slot
none_behind [] zero i = refl
none_behind [] (suc k) zero = refl
none_behind [] (suc k) (suc i) = none_behind [] k i
none_behind (x ∷ xs) k zero = refl
none_behind (x ∷ xs) k (suc i) = none_behind xs k i

-- so a slot that holds an entry was made
held_made : (xs : List Slot) (i : ℕ) → IsSome (entry_in (get_or xs i no_slot)) → i < length xs
held_made [] i h = let no : IsSome {T = Held} None = h in cc
held_made (x ∷ xs) zero h = omega arith
held_made (x ∷ xs) (suc i) h = omega (arith, held_made xs i h)

-- a write to one that was made
pub all-set : (size : ℕ) (xs : List Slot) (i : ℕ) (s : Slot) → i < length xs → all_slots size (set xs i s) ≡ set (all_slots size xs) i s
all-set size xs i s made = ap (λ n. set xs i s ++ replicate (size - n) no_slot) (length-set xs i s) ∙ sym (set-append_left xs (replicate (size - length xs) no_slot) i s made)

-- one more is made
push_set : (xs : List Slot) (k : ℕ) (s : Slot) → (xs ++ s ∷ []) ++ replicate k no_slot ≡ set (xs ++ replicate (suc k) no_slot) (length xs) s
push_set [] k s = refl
push_set (x ∷ xs) k s = ap (λ ys. x ∷ ys) (push_set xs k s)

pub all-push : (size : ℕ) (xs : List Slot) (s : Slot) → length xs < size → all_slots size (xs ++ s ∷ []) ≡ set (all_slots size xs) (length xs) s
all-push size xs s lt =
    let one_less : suc (size - length (xs ++ s ∷ [])) ≡ size - length xs = omega (arith, lt, length-append xs (s ∷ [])) in
    push_set xs (size - length (xs ++ s ∷ [])) s ∙ ap (λ n. set (xs ++ replicate n no_slot) (length xs) s) one_less

pub made_still : (xs : List Slot) (i : ℕ) (s : Slot) {size room : ℕ} → IsWithin (length xs) size room → IsWithin (length (set xs i s)) size room
made_still xs i s {size} {room} h = subst (λ n. IsWithin n size room) (sym (length-set xs i s)) h

pub free_of_all : (size : ℕ) (xs : List Slot) → free_count (map entry_in (all_slots size xs)) ≡ free_count (map entry_in xs) + (size - length xs)
free_of_all size xs =
    ap free_count (map-append entry_in xs (replicate (size - length xs) no_slot))
    ∙ sum_by-append vacancy (map entry_in xs) (map entry_in (replicate (size - length xs) no_slot))
    ∙ ap (λ n. free_count (map entry_in xs) + n) (each (size - length xs))
  where
    each : (k : ℕ) → free_count (map entry_in (replicate k no_slot)) ≡ k
    each zero = refl
    each (suc k) = omega (arith, sum_by-append vacancy (None ∷ []) (map entry_in (replicate k no_slot)), each k)

-- A slot that holds an entry, as a method reads it: e and q are as above.
module _ (a : Inside) (i slot : ℕ) (now : Pool) (e : pool_of a ≡ now) (q : i ≡ slot) (lt : slot < length now.entries) (held : IsSome (entry_at now.entries slot)) where
  abbrev every : List Slot
  every = all_slots a.size a.slots.items

  pub own_held : IsSome (entry_in (get_or a.slots.items i no_slot))
  own_held = subst (λ (s : Slot). IsSome (entry_in s)) (none_behind a.slots.items (a.size - length a.slots.items) i) (held_at every a.visited.total i slot now e q lt held)

  pub made : i < length a.slots.items
  made = held_made a.slots.items i own_held

  module _ (old : Slot) (is : old ≡ get_or a.slots.items i old) where
    among : old ≡ get_or every i old
    among = is ∙ sym (get_or_append_left a.slots.items (replicate (a.size - length a.slots.items) no_slot) old i made)

    pub own_entry : entry_in old ≡ entry_at now.entries slot
    own_entry = entry_read every a.visited.total i slot now e q old among lt

    pub own_line : old.line ≡ links_at now.lines slot
    own_line = links_read every a.visited.total i slot now e q old among lt held

    pub own_some : IsSome (entry_in old)
    own_some = held_old_at every a.visited.total i slot now e q old among lt held

-- A slot that a method writes, which holds an entry before and after: is says that it was read there, e and q are as above.
module _ (a : Inside) (i slot : ℕ) (now : Pool) (e : pool_of a ≡ now) (q : i ≡ slot) (lt : slot < length now.entries) (held : IsSome (entry_at now.entries slot)) (old s : Slot) (is : old ≡ get_or a.slots.items i old) where
  abbrev xs : List Slot
  xs = all_slots a.size a.slots.items

  abbrev v : ℕ
  v = a.visited.total

  is_made : i < length a.slots.items
  is_made = made a i slot now e q lt held

  is_among : old ≡ get_or xs i old
  is_among = among a i slot now e q lt held old is

  as_written : pool_with (all_slots a.size (set a.slots.items i s)) v ≡ pool_with (set xs i s) v
  as_written = ap (λ ys. pool_with ys v) (all-set a.size a.slots.items i s is_made)

  -- the free list is the same
  written_free : IsSome (entry_in s) → IsStocked a → ((free : List ℕ) × IsFreeAll (set a.slots.items i s) a.free free) × IsWithin (length (set a.slots.items i s)) a.size (vec_capacity a.slots)
  written_free some h = ((h.0.0, keeps_free a.slots.items i s a.free h.0.0 is_made (own_held a i slot now e q lt held) some h.0.1), made_still a.slots.items i s h.1)

  held_before : IsSome (entry_in old)
  held_before = own_some a i slot now e q lt held old is

  -- it has another place and another moment
  module _ (place : Place) (last : Option ℕ) (entry : entry_in s ≡ renewed (entry_in old) place last) where
    pub renewed_free : IsStocked a → ((free : List ℕ) × IsFreeAll (set a.slots.items i s) a.free free) × IsWithin (length (set a.slots.items i s)) a.size (vec_capacity a.slots)
    renewed_free = written_free (subst (λ (o : Option Held). IsSome o) (sym entry) (some_renewed (entry_in old) place last held_before))

    pub renewed_pool : s.line ≡ old.line
        → pool_with (all_slots a.size (set a.slots.items i s)) a.visited.total ≡ record now { entries = set now.entries slot (renewed (entry_at now.entries slot) place last) }
    renewed_pool line =
        as_written
        ∙ forth xs v i slot now e q (λ w k. pool_with (set xs i s) v ≡ record w { entries = set w.entries k (renewed (entry_at w.entries k) place last) })
        (pool-renew xs v i place last s old (in_range xs v i slot now e q lt) is_among line entry)

  pub place_read : place_in (entry_in old) ≡ place_in (entry_at now.entries slot)
  place_read = ap place_in (entry_read xs v i slot now e q old is_among lt)

  -- it has another address
  module _ (vid : ℕ) (mac : List ℕ) (entry : entry_in s ≡ readdressed (entry_in old) vid mac) where
    pub readdressed_free : IsStocked a → ((free : List ℕ) × IsFreeAll (set a.slots.items i s) a.free free) × IsWithin (length (set a.slots.items i s)) a.size (vec_capacity a.slots)
    readdressed_free = written_free (subst (λ (o : Option Held). IsSome o) (sym entry) (subst (λ b. b ≡ true) (sym (is_some-readdressed (entry_in old) vid mac)) held_before))

    pub readdressed_pool : s.line ≡ old.line
        → pool_with (all_slots a.size (set a.slots.items i s)) a.visited.total ≡ record now { entries = set now.entries slot (readdressed (entry_at now.entries slot) vid mac) }
    readdressed_pool line =
        as_written
        ∙ forth xs v i slot now e q (λ w k. pool_with (set xs i s) v ≡ record w { entries = set w.entries k (readdressed (entry_at w.entries k) vid mac) })
        (pool-set_entry xs v i s old (in_range xs v i slot now e q lt) is_among line (ap is_some entry ∙ is_some-readdressed (entry_in old) vid mac)
        ∙ ap (λ o. record (pool_with xs v) { entries = set (map entry_in xs) i o }) (entry ∙ ap (λ o. readdressed o vid mac) (sym (read xs i old (in_range xs v i slot now e q lt) is_among None))))

  -- it has other neighbours
  module _ (links : Links) (linked : s ≡ record old { line = links }) where
    pub linked_free : IsStocked a → ((free : List ℕ) × IsFreeAll (set a.slots.items i s) a.free free) × IsWithin (length (set a.slots.items i s)) a.size (vec_capacity a.slots)
    linked_free = written_free (subst (λ (o : Option Held). IsSome o) (sym (ap entry_in linked)) held_before)

    pub linked_pool : pool_with (all_slots a.size (set a.slots.items i s)) a.visited.total ≡ record now { lines = set now.lines slot links }
    linked_pool =
        as_written
        ∙ ap (λ (x : Slot). pool_with (set xs i x) v) linked
        ∙ forth xs v i slot now e q (λ w k. pool_with (set xs i (record old { line = links })) v ≡ record w { lines = set w.lines k links })
        (pool-set_links xs v i links old (in_range xs v i slot now e q lt) is_among held_before)

-- a slot that an entry takes, and one that it leaves
pub pool-taken : (xs : List Slot) (v i : ℕ) (s : Slot) (e : Held) → entry_in s ≡ Some e → s.line ≡ alone → pool_with (set xs i s) v ≡ taken (pool_with xs v) i e
pool-taken xs v i s e entry line =
    pool-set xs v i s
    ∙ same_pool v (ap (set (map entry_in xs) i) entry) (ap (set (map line_of xs) i) (ap (λ o. cond (is_some o) s.line alone) entry ∙ line))

pub pool-freed : (xs : List Slot) (v i : ℕ) (s : Slot) → entry_in s ≡ None → pool_with (set xs i s) v ≡ freed (pool_with xs v) i
pool-freed xs v i s entry =
    pool-set xs v i s
    ∙ same_pool v (ap (set (map entry_in xs) i) entry) (ap (set (map line_of xs) i) (ap (λ o. cond (is_some o) s.line alone) entry))

-- the free list with its first slot apart
pub record TakesFirst (xs : List Slot) (i : ℕ) : Type 0 where
  pub rest : List ℕ
  pub free : IsFreeAll xs (Some i) (i ∷ rest)

pub first_taken : (xs : List Slot) (f : Option ℕ) (i : ℕ) (is : List ℕ) → IsFreeAll xs f is → f ≡ Some i → TakesFirst xs i
first_taken xs f i [] h e = let no : None ≡ Some i = sym h.list ∙ e in cc
first_taken xs f i (j ∷ is) h e =
    let same : j ≡ i = unwrap_ap j i (sym h.list.0 ∙ e) in
    record { rest = is; free = subst (λ k. IsFreeAll xs (Some k) (k ∷ is)) same (subst (λ (o : Option ℕ). IsFreeAll xs o (j ∷ is)) h.list.0 h) }
  where
    unwrap_ap : (j i : ℕ) → ◌≡◌ {A = Option ℕ} (Some j) (Some i) → j ≡ i
    unwrap_ap j i e = cc

-- ---- slots that are made

each_alike : {A B : Type 0} (f : A → B) (n : ℕ) (x : A) → map f (replicate n x) ≡ replicate n (f x)
each_alike f zero x = refl
each_alike f (suc n) x = ap (λ ys. f x ∷ ys) (each_alike f n x)

-- none was made yet
pub none_made : (size visited : ℕ) → pool_with (all_slots size []) visited ≡ record { entries = replicate size None; lines = replicate size alone; visited = visited }
none_made size visited =
    let whole : size - 0 ≡ size = omega arith in
    ap (λ k. pool_with (replicate k no_slot) visited) whole ∙ same_pool visited (each_alike entry_in size no_slot) (each_alike line_of size no_slot)

-- where no slot that was made is free, there is room for another one
pub has_room : (size : ℕ) (xs : List Slot) (f : Option ℕ) (is : List ℕ) → IsFreeAll xs f is → f ≡ None → 0 < free_count (map entry_in (all_slots size xs)) → length xs < size
has_room size xs f [] h none pos = omega (arith, h.all, free_of_all size xs, pos)
has_room size xs f (i ∷ is) h none pos = let e : Some i ≡ None = sym h.list.0 ∙ none in cc

-- a free slot that was made is one of all, and so is the next one that is made
pub free_in_all : (size : ℕ) (xs : List Slot) (i : ℕ) → i < length xs → entry_in (get_or xs i no_slot) ≡ None → (i < length (map entry_in (all_slots size xs))) × (entry_at (map entry_in (all_slots size xs)) i ≡ None)
free_in_all size xs i lt none =
    let every = all_slots size xs in
    let within : i < length every = omega (arith, lt, length-append xs (replicate (size - length xs) no_slot)) in (
      subst (λ k. i < k) (sym (length-map every entry_in)) within,
      get_or-map entry_in every i no_slot None within ∙ ap entry_in (none_behind xs (size - length xs) i) ∙ none,
    )

pub next_in_all : (size : ℕ) (xs : List Slot) → length xs < size → (length xs < length (map entry_in (all_slots size xs))) × (entry_at (map entry_in (all_slots size xs)) (length xs) ≡ None)
next_in_all size xs lt =
    let every = all_slots size xs in
    let within : length xs < length every = omega (arith, lt, length-append xs (replicate (size - length xs) no_slot), length-replicate (size - length xs) no_slot) in (
      subst (λ k. length xs < k) (sym (length-map every entry_in)) within,
      get_or-map entry_in every (length xs) no_slot None within ∙ ap entry_in (none_behind xs (size - length xs) (length xs) ∙ get_or_past xs (length xs) no_slot (omega arith)),
    )

-- one more leaves none free
pub frees_none : (xs : List Slot) (s : Slot) (f : Option ℕ) (is : List ℕ) → IsFreeAll xs f is → f ≡ None → IsSome (entry_in s) → IsFreeAll (xs ++ s ∷ []) f []
frees_none xs s f [] h none some = record {
  list = none;
  all = omega (arith, h.all, ap free_count (map-append entry_in xs (s ∷ [])), sum_by-append vacancy (map entry_in xs) (entry_in s ∷ []), vacancy_some xs (entry_in s) some);
}
frees_none xs s f (i ∷ is) h none some = let e : Some i ≡ None = sym h.list.0 ∙ none in cc

-- the fields of a slot with another address
pub readdressed_entry : (kind : Kind) (key new last : ℕ) (place : Place) (vid : ℕ) (mac : List ℕ) → IsSome (entry_by kind key last place) → vid_in new ≡ vid → mac_in new ≡ mac → entry_by kind new last place ≡ readdressed (entry_by kind key last place) vid mac
readdressed_entry kind.Free key new last place vid mac h v m = cc
readdressed_entry kind.Learned key new last place vid mac h v m = λ i. Some (record { vid = v i; mac = m i; place = place; last = Some last })
readdressed_entry kind.Fixed key new last place vid mac h v m = λ i. Some (record { vid = v i; mac = m i; place = place; last = None })

-- the key of what a slot holds is its own
pub key_is : (kind : Kind) (key last : ℕ) (place : Place) → key < 2 ^ 64 → IsSome (entry_by kind key last place) → key ≡ key_in (entry_by kind key last place)
key_is kind.Free key last place fits h = cc
key_is kind.Learned key last place fits h = sym (key_of-key key fits)
key_is kind.Fixed key last place fits h = sym (key_of-key key fits)

pub key_held : (kind : Kind) (key last : ℕ) (place : Place) → IsSome (entry_by kind key last place) → IfHeld (entry_by kind key last place) (vid_in key) (mac_in key)
key_held kind.Free key last place h = cc
key_held kind.Learned key last place h = (refl, refl)
key_held kind.Fixed key last place h = (refl, refl)

-- what is so of a slot's place is so of that of its entry
pub of_place : (P : Place → Type 0) (s : Slot) → P s.place → IfSome (entry_in s) (λ e. P e.place)
of_place P s h = from s.kind
  where
    from : (k : Kind) → IfSome (entry_by k s.key s.last s.place) (λ e. P e.place)
    from kind.Free = tt
    from kind.Learned = h
    from kind.Fixed = h
