-- Where a frame goes is told by which ports serve its segment, and not by how many there are.
use Rattle.std.proofs.Common.{◌≡◌, ◌∙◌, refl, sym, ap, ℕ, zero, suc, ◌+◌, ◌<◌, arith, Bool, false, cond, not, ◌&&◌, ◌==◌, List, [], ◌∷◌, ◌++◌, map, filter, length, Option, Some, None, Ok, Err, append-nil}
use Rattle.std.proofs.Math.Path.{fun_ext}
use Rattle.std.proofs.lemmas.List.{get_or_past}
use Rattle.std.proofs.lemmas.List.FromFn.{filter_of_map_range_with_len_more}
use Rattle.std.specs.List.{range_with_len}
use Rattle.std.specs.Prelude.{is_some}
use Rattle.std.specs.FinMap.{get}
use Rattle.wire.specs.Address.{is_group}
use Rattle.wire.specs.Frame.{Frame}
use Rattle.wire.specs.declared.ether.reason.Reason.TheVariants.{SamePlace, Horizon, Unreachable}
use Rattle.wire.specs.declared.ip_udp.addr.Tunnel.{Tunnel}
use Rattle.wire.specs.declared.ip_udp.addr.Tunnel.TheVariants.{Vxlan, Geneve}
use Rattle.filter_db.specs.Place.{same_place}
use Rattle.filter_db.specs.Table.{Table, stands}
use Rattle.filter_db.specs.declared.place.Place.{Place}
use Rattle.filter_db.specs.declared.place.Place.TheVariants.{Local, Remote}
use Rattle.tunnel_learning.specs.Bridge.{Config, is_up_at, serves, group_of, in_one_group, is_shut, is_local_outlet, local_places, remote_places, place_of, or_no_outlet, toward, outlets}

-- what passes stands among the first so many
first-pass : (p : Place → Bool) (n k : ℕ) → ((q : ℕ) → n < q → p (Local q) ≡ false) → filter p (map Local (range_with_len 1 (n + k))) ≡ filter p (map Local (range_with_len 1 n))
first-pass p n zero none = ap (λ m. filter p (map Local (range_with_len 1 m))) (let same : n + 0 ≡ n = omega arith in same)
first-pass p n (suc k) none =
    ap (λ m. filter p (map Local (range_with_len 1 m))) (let same : n + suc k ≡ (n + k) + 1 = omega arith in same)
    ∙ filter_of_map_range_with_len_more p Local 1 (n + k) (suc (n + k)) (omega arith)
    ∙ ap (λ (b : Bool). filter p (map Local (range_with_len 1 (n + k))) ++ cond b (Local (suc (n + k)) ∷ []) []) (none (suc (n + k)) (omega arith))
    ∙ append-nil (filter p (map Local (range_with_len 1 (n + k))))
    ∙ first-pass p n k none

abbrev pub up_as : Config → List Bool → Config
up_as c up = record c { up = up }

group-same : (c : Config) (u v : List Bool) (k : Tunnel) → group_of (up_as c u) k ≡ group_of (up_as c v) k
group-same c u v Vxlan = refl
group-same c u v Geneve = refl

horizon-same : (c : Config) (u v : List Bool) (from to : Place) → in_one_group (up_as c u) from to ≡ in_one_group (up_as c v) from to
horizon-same c u v (Remote k a) (Remote l b) = λ i. group-same c u v k i == group-same c u v l i
horizon-same c u v (Remote k a) (Local q) = refl
horizon-same c u v (Local p) to = refl

-- a port that isn't there is down
down-past : (u : List Bool) (q : ℕ) → length u < q → is_up_at u q ≡ false
down-past u zero past = refl
down-past u (suc k) past = get_or_past u k false (omega (arith, past))

none-past : (c : Config) (u : List Bool) (from : Place) (q : ℕ) → length u < q → is_local_outlet (up_as c u) from (Local q) ≡ false
none-past c u from q past = ap (λ (b : Bool). not (not (b && is_some (get c.members q))) && not (same_place (Local q) from)) (down-past u q past)

module _ (c : Config) (u v : List Bool) (same : (q : ℕ) → serves (up_as c u) q ≡ serves (up_as c v) q) where
  shut-same : (to : Place) → is_shut (up_as c u) to ≡ is_shut (up_as c v) to
  shut-same (Local q) = ap not (same q)
  shut-same (Remote k a) = refl

  local-same : (from : Place) → local_places (up_as c u) from ≡ local_places (up_as c v) from
  local-same from =
      let tests : is_local_outlet (up_as c u) from ≡ is_local_outlet (up_as c v) from = fun_ext (λ to. ap (λ (b : Bool). not b && not (same_place to from)) (shut-same to)) in
      sym (first-pass (is_local_outlet (up_as c u) from) (length u) (length v) (none-past c u from))
      ∙ ap (λ p. filter p (map Local (range_with_len 1 (length u + length v)))) tests
      ∙ ap (λ n. filter (is_local_outlet (up_as c v) from) (map Local (range_with_len 1 n))) (let turned : length u + length v ≡ length v + length u = omega arith in turned)
      ∙ first-pass (is_local_outlet (up_as c v) from) (length v) (length u) (none-past c v from)

  remote-same : (from : Place) → remote_places (up_as c u) from ≡ remote_places (up_as c v) from
  remote-same from = ap (λ p. filter p (map place_of c.flood)) (fun_ext (λ to. ap not (horizon-same c u v from to)))

  toward-same : (from : Place) (o : Option Place) → toward (up_as c u) from o ≡ toward (up_as c v) from o
  toward-same from None = λ i. or_no_outlet (local-same from i ++ remote-same from i)
  toward-same from (Some to) = λ i.
      cond (same_place to from) (Err SamePlace) (cond (horizon-same c u v from to i) (Err Horizon) (cond (shut-same to i) (Err Unreachable) (Ok (to ∷ []))))

  pub outlets-same : (from : Place) (f : Frame) (m : Table) → outlets (up_as c u) from f m ≡ outlets (up_as c v) from f m
  outlets-same from f m = toward-same from (cond (is_group f.dst) None (stands f.dst m))
