-- The outlets of one step, counted.
use Rattle.std.proofs.Common.{◌≡◌, ℕ, zero, suc, ◌+◌, ◌≤◌, ◌<◌, Bool, true, false, cond, not, refl, sym, ap, ◌∙◌, subst, Option, Some, None, Result, Ok, Err, List, [], ◌∷◌, ◌++◌, map, length, arith, eqb, le_trans}
use Rattle.std.specs.List.{filter, range_with_len, AllByRecursion}
use Rattle.std.proofs.lemmas.Bool.{false≢true, and_parts}
use Rattle.std.proofs.lemmas.Bool.Decides.{nat_tests}
use Rattle.wire.specs.Address.{is_group}
use Rattle.wire.specs.Frame.{Frame}
use Rattle.wire.specs.declared.ether.reason.Reason.{Reason}
use Rattle.wire.specs.declared.ether.reason.Reason.TheVariants.{SamePlace, Horizon, Unreachable}
use Rattle.filter_db.specs.declared.place.Place.{Place}
use Rattle.filter_db.specs.declared.place.Place.TheVariants.{Local, Remote}
use Rattle.filter_db.specs.Place.{same_place}
use Rattle.filter_db.specs.Table.{Table, stands}
use Rattle.overlay.specs.declared.underlay.settings.Underlay.{Underlay}
use Rattle.overlay.specs.UnderlaySettings.{is_own}
use Rattle.tunnel_learning.specs.Bridge.{Config, Target, place_of, in_one_group, is_shut, is_local_outlet, is_remote_outlet, local_places, remote_places, or_no_outlet, everywhere, toward, outlets}
use Rattle.mesh_delivery.specs.Offspring.{IsLocal, is_remote_of}
use Rattle.mesh_delivery.proofs.Counting.{how_many, how_many-append, how_many-filter, none_kept, one_at_most}

-- the places of a verdict
abbrev pub places_of : Result (List Place) Reason → List Place
places_of (Ok places) = places
places_of (Err reason) = []

abbrev pub is_local_at : ℕ → Place → Bool
is_local_at port (Local p) = eqb p port
is_local_at port (Remote kind a) = false

-- ---- a single place

single : (test : Place → Bool) (a b d : Bool) (to : Place) → how_many test (places_of (cond a (Err SamePlace) (cond b (Err Horizon) (cond d (Err Unreachable) (Ok (to ∷ [])))))) ≤ 1
single test true b d to = omega arith
single test false true d to = omega arith
single test false false true to = omega arith
single test false false false to = one_at_most (test to)

no_single_if : (test : Place → Bool) (a b d : Bool) (to : Place) → (test to ≡ true → a ≡ true) → how_many test (places_of (cond a (Err SamePlace) (cond b (Err Horizon) (cond d (Err Unreachable) (Ok (to ∷ [])))))) ≡ 0
no_single_if test true b d to h = refl
no_single_if test false true d to h = refl
no_single_if test false false true to h = refl
no_single_if test false false false to h = by (test to) h
  where
    by : (t : Bool) → (t ≡ true → false ≡ true) → cond t 1 0 + 0 ≡ 0
    by true k = absurd (false≢true (k refl))
    by false k = refl

-- ---- flooding

places-everywhere : (c : Config) (from : Place) → places_of (everywhere c from) ≡ local_places c from ++ remote_places c from
places-everywhere c from = by (local_places c from ++ remote_places c from)
  where
    by : (places : List Place) → places_of (or_no_outlet places) ≡ places
    by [] = refl
    by (x ∷ xs) = refl

-- below k no number comes; each comes once
not_below : (k n p : ℕ) → p < k → how_many (is_local_at p) (map Local (range_with_len k n)) ≡ 0
not_below k zero p h = refl
not_below k (suc n) p h = none_more (eqb k p) _ (apart k p h) (not_below (k + 1) n p (omega arith))
  where
    apart : (a b : ℕ) → b < a → eqb a b ≡ false
    apart a b l = grind (arith, nat_tests)

    none_more : (b : Bool) (m : ℕ) → b ≡ false → m ≡ 0 → cond b 1 0 + m ≡ 0
    none_more true m e f = absurd (false≢true (sym e))
    none_more false m e f = omega arith

once_each : (k n p : ℕ) → how_many (is_local_at p) (map Local (range_with_len k n)) ≤ 1
once_each k zero p = omega arith
once_each k (suc n) p = more (eqb k p) _ (once_each (k + 1) n p) (λ e. not_below (k + 1) n p (equal_is k p e))
  where
    equal_is : (a b : ℕ) → eqb a b ≡ true → b < a + 1
    equal_is a b e = grind (arith, nat_tests)

    more : (b : Bool) (m : ℕ) → m ≤ 1 → (b ≡ true → m ≡ 0) → cond b 1 0 + m ≤ 1
    more true m l z = let e : m ≡ 0 = z refl in omega arith
    more false m l z = omega arith

no_remote_local : (U : Underlay) (xs : List ℕ) → how_many (is_remote_of U) (map Local xs) ≡ 0
no_remote_local U [] = refl
no_remote_local U (x ∷ xs) = ap (λ (n : ℕ). 0 + n) (no_remote_local U xs)

map_remote : (U : Underlay) (flood : List Target) → how_many (is_remote_of U) (map place_of flood) ≡ how_many (λ r. is_own U r.addr) flood
map_remote U [] = refl
map_remote U (x ∷ xs) = ap (λ (n : ℕ). cond (is_own U x.addr) 1 0 + n) (map_remote U xs)

no_local_remote : (p : ℕ) (flood : List Target) → how_many (is_local_at p) (map place_of flood) ≡ 0
no_local_remote p [] = refl
no_local_remote p (x ∷ xs) = ap (λ (n : ℕ). 0 + n) (no_local_remote p xs)

everywhere-count : (test : Place → Bool) (c : Config) (from : Place) → how_many test (places_of (everywhere c from)) ≡ how_many test (local_places c from) + how_many test (remote_places c from)
everywhere-count test c from = ap (how_many test) (places-everywhere c from) ∙ how_many-append test (local_places c from) (remote_places c from)

-- none of the remotes is a local place
remote_side : (c : Config) (from : Place) (p : ℕ) → how_many (is_local_at p) (remote_places c from) ≤ 0
remote_side c from p =
    subst (λ (n : ℕ). how_many (is_local_at p) (remote_places c from) ≤ n) (no_local_remote p c.flood) (how_many-filter (is_local_at p) (is_remote_outlet c from) (map place_of c.flood))

-- none of the local places is a remote
local_side : (c : Config) (from : Place) (U : Underlay) → how_many (is_remote_of U) (local_places c from) ≤ 0
local_side c from U =
    subst (λ (n : ℕ). how_many (is_remote_of U) (local_places c from) ≤ n) (no_remote_local U (range_with_len 1 (length c.up)))
    (how_many-filter (is_remote_of U) (is_local_outlet c from) (map Local (range_with_len 1 (length c.up))))

everywhere-local : (c : Config) (from : Place) (p : ℕ) → how_many (is_local_at p) (places_of (everywhere c from)) ≤ 1
everywhere-local c from p =
    subst (λ (n : ℕ). n ≤ 1) (sym (everywhere-count (is_local_at p) c from))
    (by (how_many-filter (is_local_at p) (is_local_outlet c from) (map Local (range_with_len 1 (length c.up)))) (once_each 1 (length c.up) p) (remote_side c from p))
  where
    by : {a b n : ℕ} → a ≤ n → n ≤ 1 → b ≤ 0 → a + b ≤ 1
    by h k l = omega arith

everywhere-remote : (c : Config) (from : Place) (U : Underlay) → how_many (is_remote_of U) (places_of (everywhere c from)) ≤ how_many (λ r. is_own U r.addr) c.flood
everywhere-remote c from U =
    subst (λ (n : ℕ). n ≤ how_many (λ r. is_own U r.addr) c.flood) (sym (everywhere-count (is_remote_of U) c from))
    (by (local_side c from U) (how_many-filter (is_remote_of U) (is_remote_outlet c from) (map place_of c.flood)) (map_remote U c.flood))
  where
    by : {a b m n : ℕ} → a ≤ 0 → b ≤ m → m ≡ n → a + b ≤ n
    by h k l = omega arith

-- ---- the four facts of one step

toward_local : (c : Config) (from : Place) (p : ℕ) (o : Option Place) → how_many (is_local_at p) (places_of (toward c from o)) ≤ 1
toward_local c from p None = everywhere-local c from p
toward_local c from p (Some to) = single (is_local_at p) (same_place to from) (in_one_group c from to) (is_shut c to) to

-- a frame goes at most once to each local port
pub outlets-local : (c : Config) (from : Place) (f : Frame) (m : Table) (p : ℕ) → how_many (is_local_at p) (places_of (outlets c from f m)) ≤ 1
outlets-local c from f m p = toward_local c from p (cond (is_group f.dst) None (stands f.dst m))

toward_remote : (c : Config) (from : Place) (U : Underlay) → how_many (λ r. is_own U r.addr) c.flood ≤ 1 → (o : Option Place) → how_many (is_remote_of U) (places_of (toward c from o)) ≤ 1
toward_remote c from U once None = le_trans (everywhere-remote c from U) once
toward_remote c from U once (Some to) = single (is_remote_of U) (same_place to from) (in_one_group c from to) (is_shut c to) to

-- and to at most one remote place of each endpoint, where the flood list has at most one
pub outlets-remote : (c : Config) (from : Place) (f : Frame) (m : Table) (U : Underlay) → how_many (λ r. is_own U r.addr) c.flood ≤ 1 → how_many (is_remote_of U) (places_of (outlets c from f m)) ≤ 1
outlets-remote c from f m U once = toward_remote c from U once (cond (is_group f.dst) None (stands f.dst m))

same_local : (p : ℕ) (to : Place) → is_local_at p to ≡ true → same_place to (Local p) ≡ true
same_local p (Local q) h = h
same_local p (Remote kind a) h = absurd (false≢true h)

-- an outlet of a flood isn't the place that the frame came from
not_itself : (c : Config) (p : ℕ) (to : Place) → is_local_outlet c (Local p) to ≡ true → is_local_at p to ≡ false
not_itself c p to h = by (is_local_at p to) (same_local p to) (and_parts (not (is_shut c to)) (not (same_place to (Local p))) h).1
  where
    by : (b : Bool) → (b ≡ true → same_place to (Local p) ≡ true) → not (same_place to (Local p)) ≡ true → b ≡ false
    by true same other = absurd (false≢true (ap not (sym (same refl)) ∙ other))
    by false same other = refl

toward_back : (c : Config) (p : ℕ) (o : Option Place) → how_many (is_local_at p) (places_of (toward c (Local p) o)) ≡ 0
toward_back c p None =
    everywhere-count (is_local_at p) c (Local p)
    ∙ by (none_kept (is_local_at p) (is_local_outlet c (Local p)) (not_itself c p) (map Local (range_with_len 1 (length c.up)))) (remote_side c (Local p) p)
  where
    by : {a b : ℕ} → a ≡ 0 → b ≤ 0 → a + b ≡ 0
    by h k = omega arith
toward_back c p (Some to) = no_single_if (is_local_at p) (same_place to (Local p)) (in_one_group c (Local p) to) (is_shut c to) to (same_local p to)

-- never to the port that it came from
pub outlets-back : (c : Config) (p : ℕ) (f : Frame) (m : Table) → how_many (is_local_at p) (places_of (outlets c (Local p) f m)) ≡ 0
outlets-back c p f m = toward_back c p (cond (is_group f.dst) None (stands f.dst m))

-- ---- from a remote

filtered_out : (keep : Place → Bool) (flood : List Target) → AllByRecursion (λ r. keep (place_of r) ≡ false) flood → filter keep (map place_of flood) ≡ []
filtered_out keep [] h = refl
filtered_out keep (x ∷ xs) h =
    ap (λ (b : Bool). cond b (place_of x ∷ filter keep (map place_of xs)) (filter keep (map place_of xs))) h.0 ∙ filtered_out keep xs h.1

locals : (keep : Place → Bool) (xs : List ℕ) → AllByRecursion IsLocal (filter keep (map Local xs))
locals keep [] = tt
locals keep (x ∷ xs) = by (locals keep xs) (keep (Local x))
  where
    by : AllByRecursion IsLocal (filter keep (map Local xs)) → (b : Bool) → AllByRecursion IsLocal (cond b (Local x ∷ filter keep (map Local xs)) (filter keep (map Local xs)))
    by rest true = (tt, rest)
    by rest false = rest

append_none : {X : Type 0} (xs : List X) → xs ++ [] ≡ xs
append_none [] = refl
append_none (x ∷ xs) = ap (λ ys. x ∷ ys) (append_none xs)

single_local : (a b d : Bool) (to : Place) → ((k : _) (addr : _) → to ≡ Remote k addr → b ≡ true) → AllByRecursion IsLocal (places_of (cond a (Err SamePlace) (cond b (Err Horizon) (cond d (Err Unreachable) (Ok (to ∷ []))))))
single_local true b d to h = tt
single_local false true d to h = tt
single_local false false true to h = tt
single_local false false false (Local q) h = (tt, tt)
single_local false false false (Remote kind a) h = absurd (false≢true (h kind a refl))

-- a frame goes to local places alone, where each remote that is known is of the horizon group that it came from
pub outlets-far : (c : Config) (from : Place) (f : Frame) (m : Table) → AllByRecursion (λ r. in_one_group c from (place_of r) ≡ true) c.flood
    → ((to : Place) → stands f.dst m ≡ Some to → (kind : _) (addr : _) → to ≡ Remote kind addr → in_one_group c from to ≡ true) → AllByRecursion IsLocal (places_of (outlets c from f m))
outlets-far c from f m flood known = aimed (cond (is_group f.dst) None (stands f.dst m)) (chosen (is_group f.dst))
  where
    chosen : (b : Bool) (to : Place) → cond b None (stands f.dst m) ≡ Some to → (kind : _) (addr : _) → to ≡ Remote kind addr → in_one_group c from to ≡ true
    chosen true to e = absurd cc
    chosen false to e = known to e

    out : (rs : List Target) → AllByRecursion (λ r. in_one_group c from (place_of r) ≡ true) rs → AllByRecursion (λ r. is_remote_outlet c from (place_of r) ≡ false) rs
    out [] h = tt
    out (r ∷ rs) h = (ap not h.0, out rs h.1)

    aimed : (o : Option Place) → ((to : Place) → o ≡ Some to → (kind : _) (addr : _) → to ≡ Remote kind addr → in_one_group c from to ≡ true) → AllByRecursion IsLocal (places_of (toward c from o))
    aimed None h =
        subst (AllByRecursion IsLocal)
        (sym (places-everywhere c from ∙ ap (λ (xs : List Place). local_places c from ++ xs) (filtered_out (is_remote_outlet c from) c.flood (out c.flood flood)) ∙ append_none (local_places c from)))
        (locals (is_local_outlet c from) (range_with_len 1 (length c.up)))
    aimed (Some to) h = single_local (same_place to from) (in_one_group c from to) (is_shut c to) to (h to refl)
