-- Tables of runs stay such as traffic is counted.
use Rattle.std.proofs.Common.{◌≡◌, ◌∙◌, refl, ℕ, ◌+◌, ◌^◌, ◌<◌, Bool, true, false, cond, nat_lt, List, [], ◌∷◌, drop, arith}
use Rattle.std.specs.Prelude.{All, min}
use Rattle.std.specs.List.{AllByRecursion}
use Rattle.std.proofs.lemmas.List.{length-take}
use Rattle.std.proofs.lemmas.List.Elements.{All-drop, All-from_recursion, All-nil, All-take, recursion_from_All}
use Rattle.ranked_rows.proofs.Places.{rising_first, rising_more}
use Rattle.ranked_rows.specs.Rows as ranked
use Rattle.ranked_rows.specs.Rows.{with_counts}
use Rattle.tunnel_traffic.specs.Key.{rank}
use Rattle.tunnel_traffic.specs.TrafficRows.{Rows, TrafficRow, counted, counted_all, no_rows, row_of, together}
use Rattle.tunnel_traffic.specs.Traffic.{no_traffic, traffic_with}
use Rattle.tunnel_traffic.specs.declared.rows.key.TunnelKey.{TunnelKey}
use Rattle.tunnel_traffic.specs.declared.rows.traffic.Traffic.{Traffic}
use Rattle.tunnel_traffic.specs.Tables.{ArePackets, IsEndpoint, IsNetwork, IsRow, IsTable, IsTold, IsTraffic, Tunnels, both}

abbrev with_traffic : TunnelKey → Traffic → List TrafficRow → List TrafficRow
with_traffic key traffic rows = with_counts rank traffic_with key traffic rows

abbrev total : List TrafficRow → Traffic
total rows = ranked.total traffic_with no_traffic rows

-- ---- tables of any keys and traffic

module _ (IsKey : TunnelKey → Type 0) (IsCount : Traffic → Type 0) (none : IsCount no_traffic) (sum : (a b : Traffic) → IsCount a → IsCount b → IsCount (traffic_with a b)) where
  each_with : (key : TunnelKey) (traffic : Traffic) (rows : List TrafficRow) → IsKey key → IsCount traffic → AllByRecursion (IsRow IsKey IsCount) rows
      → AllByRecursion (IsRow IsKey IsCount) (with_traffic key traffic rows)
  each_with key traffic [] is_key is_count all = (record { key = is_key; count = is_count }, tt)
  each_with key traffic (row ∷ rows) is_key is_count all =
      by (nat_lt (rank row.key) (rank key)) (nat_lt (rank key) (rank row.key)) (each_with key traffic rows is_key is_count all.1)
    where
      by : (p q : Bool) → AllByRecursion (IsRow IsKey IsCount) (with_traffic key traffic rows)
          → AllByRecursion (IsRow IsKey IsCount) (cond p (row ∷ with_traffic key traffic rows) (cond q (row_of key traffic ∷ row ∷ rows) (row_of row.key (traffic_with row.counts traffic) ∷ rows)))
      by true q more = (all.0, more)
      by false true more = (record { key = is_key; count = is_count }, (all.0, all.1))
      by false false more = (record { key = all.0.key; count = sum row.counts traffic all.0.count is_count }, all.1)

  total_is : (rows : List TrafficRow) → AllByRecursion (IsRow IsKey IsCount) rows → IsCount (total rows)
  total_is [] all = none
  total_is (row ∷ rows) all = sum row.counts (total rows) all.0.count (total_is rows all.1)

  kept : (table : Rows) (key : TunnelKey) (traffic : Traffic) → IsTable IsKey IsCount table → IsKey key → IsCount traffic → IsTable IsKey IsCount (counted table key traffic)
  kept table key traffic is is_key is_count =
      let more : List TrafficRow = with_traffic key traffic table.rows in
      let all : All (IsRow IsKey IsCount) more =
      All-from_recursion (IsRow IsKey IsCount) more (each_with key traffic table.rows is_key is_count (recursion_from_All (IsRow IsKey IsCount) table.rows is.each)) in
      record {
        each = All-take (IsRow IsKey IsCount) 4096 more all;
        rise = rising_first rank 4096 0 more (rising_more rank traffic_with 0 key traffic table.rows (omega arith) is.rise);
        few = omega (arith, length-take 4096 more);
        others = sum table.others (total (drop 4096 more)) is.others (total_is (drop 4096 more) (recursion_from_All (IsRow IsKey IsCount) (drop 4096 more) (All-drop (IsRow IsKey IsCount) 4096 more all)));
      }

  kept_all : (table : Rows) (rows : List TrafficRow) → IsTable IsKey IsCount table → AllByRecursion (IsRow IsKey IsCount) rows → IsTable IsKey IsCount (counted_all table rows)
  kept_all table [] is all = is
  kept_all table (row ∷ rows) is all =
      kept_all (counted table row.key row.counts) rows (kept table row.key row.counts is all.0.key all.0.count) all.1

  kept_together : (table other : Rows) → IsTable IsKey IsCount table → IsTable IsKey IsCount other → IsTable IsKey IsCount (together table other)
  kept_together table other one two =
      let all : IsTable IsKey IsCount (counted_all table other.rows) = kept_all table other.rows one (recursion_from_All (IsRow IsKey IsCount) other.rows two.each) in
      record { each = all.each; rise = all.rise; few = all.few; others = sum (counted_all table other.rows).others other.others all.others two.others }

  nothing : IsTable IsKey IsCount no_rows
  nothing = record { each = All-nil (IsRow IsKey IsCount); rise = tt; few = omega arith; others = none }

-- ---- counts

abbrev most : ℕ
most = 18446744073709551615

below : (m n : ℕ) → min most (m + n) < 2 ^ 64
below m n = omega arith

none_first : (m n : ℕ) → min most (m + n) ≡ 0 → m ≡ 0
none_first m n is = omega (arith, is)

none_second : (m n : ℕ) → min most (m + n) ≡ 0 → n ≡ 0
none_second m n is = omega (arith, is)

no_packets : ArePackets no_traffic
no_packets = record { packets = refl; fits = omega arith }

more_packets : (a b : Traffic) → ArePackets a → ArePackets b → ArePackets (traffic_with a b)
more_packets a b one two = record {
  packets = (λ i. traffic_with (one.packets i) (two.packets i)) ∙ refl;
  fits = below a.came b.came;
}

nothing_passed : IsTraffic no_traffic
nothing_passed = record { came = omega arith; came_octets = omega arith; left = omega arith; left_octets = omega arith; silent = λ c l. refl }

more_passed : (a b : Traffic) → IsTraffic a → IsTraffic b → IsTraffic (traffic_with a b)
more_passed a b one two = record {
  came = below a.came b.came;
  came_octets = below a.came_octets b.came_octets;
  left = below a.left b.left;
  left_octets = below a.left_octets b.left_octets;
  silent = λ c l.
      let first : a ≡ no_traffic = one.silent (none_first a.came b.came c) (none_first a.left b.left l) in
      let second : b ≡ no_traffic = two.silent (none_second a.came b.came c) (none_second a.left b.left l) in
      λ i. traffic_with (first i) (second i);
}

-- ---- both tables

pub kept_unknown : (table : Rows) (key : TunnelKey) (traffic : Traffic) → IsTable IsNetwork ArePackets table → IsNetwork key → ArePackets traffic
    → IsTable IsNetwork ArePackets (counted table key traffic)
kept_unknown table key traffic is is_key is_count = kept IsNetwork ArePackets no_packets more_packets table key traffic is is_key is_count

pub kept_remotes : (table : Rows) (key : TunnelKey) (traffic : Traffic) → IsTable IsEndpoint IsTraffic table → IsEndpoint key → IsTraffic traffic
    → IsTable IsEndpoint IsTraffic (counted table key traffic)
kept_remotes table key traffic is is_key is_count = kept IsEndpoint IsTraffic nothing_passed more_passed table key traffic is is_key is_count

pub none_unknown : IsTable IsNetwork ArePackets no_rows
none_unknown = nothing IsNetwork ArePackets no_packets more_packets

pub none_remotes : IsTable IsEndpoint IsTraffic no_rows
none_remotes = nothing IsEndpoint IsTraffic nothing_passed more_passed

pub told_both : (a b : Tunnels) → IsTold a → IsTold b → IsTold (both a b)
told_both a b one two = record {
  unknown = kept_together IsNetwork ArePackets no_packets more_packets a.unknown b.unknown one.unknown two.unknown;
  remotes = kept_together IsEndpoint IsTraffic nothing_passed more_passed a.remotes b.remotes one.remotes two.remotes;
}
