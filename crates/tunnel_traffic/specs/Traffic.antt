-- Traffic in both directions. It states no standard. A count ends at the greatest number of 64 bits.
use Rattle.std.specs.Prelude.{ℕ, ◌+◌, ◌-◌, ◌^◌, min}
use Rattle.tunnel_traffic.specs.declared.rows.traffic.Traffic.{Traffic}

-- two counts together
abbrev pub sum_of : ℕ → ℕ → ℕ
sum_of m n = min (2 ^ 64 - 1) (m + n)

-- none
abbrev pub no_traffic : Traffic
no_traffic = record { came = 0; came_octets = 0; left = 0; left_octets = 0 }

-- a packet of so many octets that came
abbrev pub came_of : ℕ → Traffic
came_of octets = record { came = 1; came_octets = octets; left = 0; left_octets = 0 }

-- a packet of so many octets that left
abbrev pub left_of : ℕ → Traffic
left_of octets = record { came = 0; came_octets = 0; left = 1; left_octets = octets }

-- the traffic of both
abbrev pub traffic_with : Traffic → Traffic → Traffic
traffic_with a b = record {
  came = sum_of a.came b.came;
  came_octets = sum_of a.came_octets b.came_octets;
  left = sum_of a.left b.left;
  left_octets = sum_of a.left_octets b.left_octets;
}
