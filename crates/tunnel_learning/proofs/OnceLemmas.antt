-- The outlets of a frame are distinct.
use Rattle.std.proofs.Common.{◌≡◌, ◌≢◌, ℕ, ◌+◌, ◌-◌, ◌<◌, ◌≤◌, List, [], ◌∷◌, ◌++◌, length, map, get_or, refl, if◌then◌else◌, Option, Some, None, Result, Ok, Err, IfOk, sym, ap, ◌∙◌, subst, arith, inl, inr}
use Rattle.std.specs.List.{All, AllPairs, range_with_len}
use Rattle.std.proofs.lemmas.Bool.{cases_lt, cond_both}
use Rattle.std.proofs.lemmas.List.{get_or_append_left, get_or-append_right, get_or-map, length-append, length-map}
use Rattle.std.proofs.lemmas.List.Kept.{AllPairs-filter}
use Rattle.std.proofs.lemmas.List.Elements.{All-filter, All-map}
use Rattle.std.proofs.lemmas.List.FromFn.{get_or-map-range_with_len, length-map-range_with_len}
use Rattle.wire.specs.declared.ip_udp.addr.Addr.TheVariants.{V4}
use Rattle.wire.specs.declared.ip_udp.addr.Tunnel.TheVariants.{Vxlan}
use Rattle.wire.specs.Address.{is_group}
use Rattle.wire.specs.declared.ether.reason.Reason.{Reason}
use Rattle.wire.specs.declared.ether.reason.Reason.TheVariants.{SamePlace, Horizon, Unreachable}
use Rattle.filter_db.specs.Place.{same_place}
use Rattle.filter_db.specs.declared.place.Place.{Place}
use Rattle.filter_db.specs.declared.place.Place.TheVariants.{Local, Remote}
use Rattle.filter_db.specs.Table.{stands}
use Rattle.tunnel_learning.specs.Bridge.{Config, Target, toward, to_place, or_no_outlet, local_places, remote_places, in_one_group, is_shut, is_local_outlet, is_remote_outlet, place_of}
use Rattle.tunnel_learning.specs.Once.{AreDistinct, LeavesOnceAtEachPlace}

-- two lists of distinct places, none of them in both
apart : (xs ys : List Place) → AreDistinct xs → AreDistinct ys → ((i j : ℕ) (d : Place) → i < length xs → j < length ys → get_or xs i d ≢ get_or ys j d) → AreDistinct (xs ++ ys)
apart xs ys left right across i j d lt end =
    let whole = length-append xs ys in
    elim (cases_lt j (length xs)) [
      | inl both_left ↦ λ e. left i j d lt both_left (sym (get_or_append_left xs ys d i (omega arith)) ∙ e ∙ get_or_append_left xs ys d j both_left)
      | inr right_one ↦ elim (cases_lt i (length xs)) [
        | inl here ↦ λ e. across i (j - length xs) d here (omega arith) (sym (get_or_append_left xs ys d i here) ∙ e ∙ behind j right_one)
        | inr there ↦ λ e. right (i - length xs) (j - length xs) d (omega arith) (omega arith) (sym (behind i there) ∙ e ∙ behind j right_one)
      ]
    ]
  where
    behind : (k : ℕ) → length xs ≤ k → get_or (xs ++ ys) k d ≡ get_or ys (k - length xs) d
    behind k h = get_or-append_right xs ys (length xs) k d refl h

locals-distinct : (n : ℕ) → AreDistinct (map Local (range_with_len 1 n))
locals-distinct n i j d lt end =
    let count = length-map-range_with_len Local 1 n in
    let first = get_or-map-range_with_len Local 1 n i (1 + i) d (omega arith) (omega arith) in
    let second = get_or-map-range_with_len Local 1 n j (1 + j) d (omega arith) (omega arith) in
    λ e. let same : Local (1 + i) ≡ Local (1 + j) = sym first ∙ e ∙ second in
    let numbers : 1 + i ≡ 1 + j = cc in absurd (omega arith)

-- the two sides of a flood
IsLocal : Place → Type 0
IsLocal (Local p) = Unit {0}
IsLocal (Remote k a) = ⊥

IsRemote : Place → Type 0
IsRemote (Local p) = ⊥
IsRemote (Remote k a) = Unit {0}

two_sides : (x : Place) → IsLocal x → IsRemote x → ⊥
unfolding IsLocal IsRemote
two_sides (Local p) l r = r
two_sides (Remote k a) l r = l

-- the target that a remote is
target_of : Place → Target
target_of (Local p) = record { tunnel = Vxlan; addr = V4 [] }
target_of (Remote k a) = record { tunnel = k; addr = a }

remotes-distinct : (flood : List Target) → AllPairs (λ (x : Target) (y : Target). x ≢ y) flood → AreDistinct (map place_of flood)
unfolding target_of
remotes-distinct flood distinct i j d lt end =
    let t = target_of d in
    let inside : j < length flood = omega (arith, length-map flood place_of) in
    let first = get_or-map place_of flood i t d (omega arith) in
    let second = get_or-map place_of flood j t d inside in
    λ e. distinct i j t lt inside (ap target_of (sym first ∙ e ∙ second))

local_side : (c : Config) (from : Place) → All IsLocal (local_places c from)
unfolding IsLocal
local_side c from = All-filter (is_local_outlet c from) IsLocal (map Local (range_with_len 1 (length c.up))) (All-map IsLocal Local (range_with_len 1 (length c.up)) (λ k d lt. tt))

remote_side : (c : Config) (from : Place) → All IsRemote (remote_places c from)
unfolding IsRemote
remote_side c from = All-filter (is_remote_outlet c from) IsRemote (map place_of c.flood) (All-map IsRemote place_of c.flood (λ k d lt. tt))

flood-distinct : (c : Config) (from : Place) → AllPairs (λ (x : Target) (y : Target). x ≢ y) c.flood → AreDistinct (local_places c from ++ remote_places c from)
flood-distinct c from distinct =
    apart (local_places c from) (remote_places c from)
    (AllPairs-filter (λ (x : Place) (y : Place). x ≢ y) (is_local_outlet c from) (map Local (range_with_len 1 (length c.up))) (locals-distinct (length c.up)))
    (AllPairs-filter (λ (x : Place) (y : Place). x ≢ y) (is_remote_outlet c from) (map place_of c.flood) (remotes-distinct c.flood distinct))
    (λ i j d here there e. two_sides (get_or (local_places c from) i d) (local_side c from i d here) (subst IsRemote (sym e) (remote_side c from j d there)))

some_outlets : (places : List Place) → AreDistinct places → IfOk (or_no_outlet places) AreDistinct
some_outlets [] h = tt
some_outlets (to ∷ places) h = h

one_outlet : (to : Place) → AreDistinct (to ∷ [])
one_outlet to i j d lt end = absurd (omega arith)

known : (c : Config) (from to : Place) → IfOk (to_place c from to) AreDistinct
known c from to =
    let P : Result (List Place) Reason → Type 0 = λ r. IfOk r AreDistinct in
    cond_both (same_place to from) (Err SamePlace) _ P (λ e. tt)
    (λ e. cond_both (in_one_group c from to) (Err Horizon) _ P (λ e'. tt)
    (λ e'. cond_both (is_shut c to) (Err Unreachable) (Ok (to ∷ [])) P (λ e''. tt) (λ e''. one_outlet to)))

aimed : (c : Config) (from : Place) (to : Option Place) → AllPairs (λ (x : Target) (y : Target). x ≢ y) c.flood → IfOk (toward c from to) AreDistinct
aimed c from None distinct = some_outlets (local_places c from ++ remote_places c from) (flood-distinct c from distinct)
aimed c from (Some to) distinct = known c from to

pub once : LeavesOnceAtEachPlace
once c from f m distinct = aimed c from (if is_group f.dst then None else stands f.dst m) distinct
