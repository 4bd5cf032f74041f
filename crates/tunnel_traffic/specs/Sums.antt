-- The traffic of both, together: the laws of its counts. It states no standard.
use Rattle.std.proofs.Common.{◌≡◌, ℕ, ◌+◌, min, refl, arith}
use Rattle.tunnel_traffic.specs.Traffic.{no_traffic, traffic_with}
use Rattle.tunnel_traffic.specs.declared.rows.traffic.Traffic.{Traffic}

module _ (m : ℕ) where
  abbrev sum : ℕ → ℕ → ℕ
  sum a b = min m (a + b)

  pub sum_grouped : (a b c : ℕ) → sum a (sum b c) ≡ sum (sum a b) c
  sum_grouped a b c = omega arith

  pub sum_turned : (a b : ℕ) → sum a b ≡ sum b a
  sum_turned a b = omega arith

  pub sum_whole : (a b : ℕ) → sum (sum a b) 0 ≡ sum a b
  sum_whole a b = omega arith

abbrev most : ℕ
most = 18446744073709551615

pub with_grouped : (a b c : Traffic) → traffic_with a (traffic_with b c) ≡ traffic_with (traffic_with a b) c
with_grouped a b c = λ i. record {
  came = sum_grouped most a.came b.came c.came i;
  came_octets = sum_grouped most a.came_octets b.came_octets c.came_octets i;
  left = sum_grouped most a.left b.left c.left i;
  left_octets = sum_grouped most a.left_octets b.left_octets c.left_octets i;
}

pub with_turned : (a b : Traffic) → traffic_with a b ≡ traffic_with b a
with_turned a b = λ i. record {
  came = sum_turned most a.came b.came i;
  came_octets = sum_turned most a.came_octets b.came_octets i;
  left = sum_turned most a.left b.left i;
  left_octets = sum_turned most a.left_octets b.left_octets i;
}

pub with_whole : (a b : Traffic) → traffic_with (traffic_with a b) no_traffic ≡ traffic_with a b
with_whole a b = λ i. record {
  came = sum_whole most a.came b.came i;
  came_octets = sum_whole most a.came_octets b.came_octets i;
  left = sum_whole most a.left b.left i;
  left_octets = sum_whole most a.left_octets b.left_octets i;
}

pub nothing_is : traffic_with no_traffic no_traffic ≡ no_traffic
nothing_is = refl
