-- Where a frame goes: to ports that are there and to endpoints by addresses, and to no more than 767 of them.
use Rattle.std.proofs.Common.{◌≡◌, refl, sym, ap, ℕ, zero, suc, ◌+◌, ◌<◌, ◌≤◌, arith, Bool, true, false, cond, not, ◌&&◌, List, [], ◌∷◌, ◌++◌, length, length-append, map, slice_index_or, Option, Some, None, Ok, Err, IfOk}
use Rattle.std.specs.Prelude.{IfSome, is_some}
use Rattle.std.specs.List.{AllByRecursion, range_with_len}
use Rattle.std.specs.FinMap.{get}
use Rattle.std.proofs.lemmas.Bool.{false≢true}
use Rattle.std.proofs.lemmas.List.FromFn.{length-map-range_with_len}
use Rattle.std.proofs.lemmas.List.Sums.{count_by-le-length, length-filter}
use Rattle.timeline.proofs.KnownEvents.{all-append}
use Rattle.wire.specs.Address.{is_group}
use Rattle.wire.specs.Frame.{Frame}
use Rattle.wire.specs.declared.ether.reason.Reason.TheVariants.{Horizon, SamePlace, Unreachable}
use Rattle.wire.specs.Addr.{IsAddr}
use Rattle.overlay.specs.Flood.{Entries}
use Rattle.overlay.specs.declared.flood.remote.Remote.{Remote as Endpoint}
use Rattle.filter_db.specs.Place.{same_place}
use Rattle.filter_db.specs.Table.{Table, stands}
use Rattle.filter_db.specs.declared.place.Place.{Place}
use Rattle.filter_db.specs.declared.place.Place.TheVariants.{Local, Remote}
use Rattle.tunnel_learning.specs.Bridge.{Config, everywhere, in_one_group, is_local_outlet, is_remote_outlet, is_shut, is_up_at, local_places, or_no_outlet, outlets, place_of, remote_places, serves, to_place, toward}
use Rattle.noninterference.proofs.Lists.{all-filter}
use Rattle.part_files.proofs.Remotes.{IsFar, IsFlood}
use Rattle.part_files.proofs.Stations.{Stand, stands-at}

-- a port that is there, of so many, or an endpoint by an address
abbrev pub IsOutlet : ℕ → Place → Type 0
IsOutlet n (Local port) = (1 ≤ port) × (port ≤ n)
IsOutlet n (Remote kind addr) = IsAddr addr

pub outlet-far : (n : ℕ) (place : Place) → IsOutlet n place → IsFar place
outlet-far n (Local port) is = tt
outlet-far n (Remote kind addr) is = is

-- some of them, at most 767
abbrev pub AreOutlets : ℕ → List Place → Type 0
AreOutlets n places = AllByRecursion (IsOutlet n) places × (length places ≤ 767)

-- ---- one place

inside : (up : List Bool) (k : ℕ) → slice_index_or up k false ≡ true → k < length up
inside [] k there = absurd (false≢true there)
inside (b ∷ up) zero there = omega arith
inside (b ∷ up) (suc k) there = omega (arith, inside up k there)

up-there : (up : List Bool) (port : ℕ) → is_up_at up port ≡ true → (1 ≤ port) × (port ≤ length up)
up-there up zero there = absurd (false≢true there)
up-there up (suc k) there = (omega arith, omega (arith, inside up k there))

left : (a b : Bool) → a && b ≡ true → a ≡ true
left true b h = refl
left false b h = h

not-not : (b : Bool) → not b ≡ false → b ≡ true
not-not true h = refl
not-not false h = absurd (false≢true (sym h))

unshut-outlet : (c : Config) (to : Place) → is_shut c to ≡ false → IsFar to → IsOutlet (length c.up) to
unshut-outlet c (Local port) unshut far = up-there c.up port (left (is_up_at c.up port) (is_some (get c.members port)) (not-not (serves c port) unshut))
unshut-outlet c (Remote kind addr) unshut far = far

to-outlet : (c : Config) (from to : Place) → IsFar to → IfOk (to_place c from to) (AreOutlets (length c.up))
to-outlet c from to far = by (same_place to from) (in_one_group c from to) (is_shut c to) refl
  where
    by : (a b d : Bool) → is_shut c to ≡ d → IfOk (cond a (Err SamePlace) (cond b (Err Horizon) (cond d (Err Unreachable) (Ok (to ∷ []))))) (AreOutlets (length c.up))
    by true b d is = tt
    by false true d is = tt
    by false false true is = tt
    by false false false is = ((unshut-outlet c to is far, tt), omega arith)

-- ---- everywhere

ports-from : (n first count : ℕ) → 1 ≤ first → first + count ≤ n + 1 → AllByRecursion (IsOutlet n) (map Local (range_with_len first count))
ports-from n first zero low high = tt
ports-from n first (suc count) low high = ((low, omega (arith, high)), ports-from n (first + 1) count (omega arith) (omega (arith, high)))

remotes-are : (n : ℕ) (flood : Entries) → AllByRecursion (λ (r : Endpoint). IsAddr r.addr) flood → AllByRecursion (IsOutlet n) (map place_of flood)
remotes-are n [] all = tt
remotes-are n (r ∷ rs) all = (all.0, remotes-are n rs all.1)

length-remotes : (flood : Entries) → length (map place_of flood) ≡ length flood
length-remotes [] = refl
length-remotes (r ∷ rs) = ap suc (length-remotes rs)

or-none : (n : ℕ) (places : List Place) → AreOutlets n places → IfOk (or_no_outlet places) (AreOutlets n)
or-none n [] are = tt
or-none n (x ∷ xs) are = are

everywhere-outlets : (c : Config) (from : Place) → length c.up ≤ 255 → IsFlood c.flood → IfOk (everywhere c from) (AreOutlets (length c.up))
everywhere-outlets c from few flood =
    let n = length c.up in
    let near = map Local (range_with_len 1 n) in
    let far = map place_of c.flood in
    or-none n (local_places c from ++ remote_places c from) (
      all-append (IsOutlet n) (local_places c from) (remote_places c from)
          (all-filter (IsOutlet n) (is_local_outlet c from) near (ports-from n 1 n (omega arith) (omega arith)))
          (all-filter (IsOutlet n) (is_remote_outlet c from) far (remotes-are n c.flood flood.1)),
      omega (
        arith,
        few,
        flood.0,
        length-append (local_places c from) (remote_places c from),
        length-filter (is_local_outlet c from) near,
        count_by-le-length (is_local_outlet c from) near,
        length-filter (is_remote_outlet c from) far,
        count_by-le-length (is_remote_outlet c from) far,
        length-map-range_with_len Local 1 n,
        length-remotes c.flood,
      ),
    )

-- ---- any frame

pub outlets-are : (c : Config) (from : Place) (f : Frame) (m : Table) → length c.up ≤ 255 → IsFlood c.flood → Stand IsFar m → IfOk (outlets c from f m) (AreOutlets (length c.up))
outlets-are c from f m few flood all = by (is_group f.dst) (stands f.dst m) (stands-at IsFar f.dst m all)
  where
    toward-are : (o : Option Place) → IfSome o IsFar → IfOk (toward c from o) (AreOutlets (length c.up))
    toward-are None own = everywhere-outlets c from few flood
    toward-are (Some to) own = to-outlet c from to own

    by : (b : Bool) (o : Option Place) → IfSome o IsFar → IfOk (toward c from (cond b None o)) (AreOutlets (length c.up))
    by true o own = toward-are None tt
    by false o own = toward-are o own
