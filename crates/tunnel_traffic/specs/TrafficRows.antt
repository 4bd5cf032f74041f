-- Tables of traffic, in the order of the ranks of tunnels. It states no standard.
--     all_traffic      the traffic of all tunnels, as a finite map in the order of its keys
--     Rows, shown      its first rows, and what the others come to
--     counted, together      the same with more traffic, and with all of another table
-- What such tables are is stated of any keys and counts; here it is read with tunnels and traffic.
use Rattle.std.specs.Prelude.{ℕ, List}
use Rattle.ranked_rows.specs.Rows as ranked
use Rattle.ranked_rows.specs.declared.key_count.KeyCount.{KeyCount}
use Rattle.tunnel_traffic.specs.Key.{rank}
use Rattle.tunnel_traffic.specs.Traffic.{no_traffic, traffic_with}
use Rattle.tunnel_traffic.specs.declared.rows.key.TunnelKey.{TunnelKey}
use Rattle.tunnel_traffic.specs.declared.rows.traffic.Traffic.{Traffic}
pub use Rattle.ranked_rows.specs.Rows.{row_of}

-- ---- finite maps, as lists in the order of their keys

-- a key and its traffic
abbrev pub TrafficRow : Type 0
TrafficRow = KeyCount TunnelKey Traffic

-- with the traffic of many rows, one after another
abbrev pub all_traffic : List TrafficRow → List TrafficRow → List TrafficRow
all_traffic rows others = ranked.all_counts rank traffic_with rows others

-- ---- tables

-- some rows, and what the others come to
abbrev pub Rows : Type 0
Rows = ranked.Rows TunnelKey Traffic

-- so many first rows of a map
abbrev pub shown : ℕ → List TrafficRow → Rows
shown most rows = ranked.shown traffic_with no_traffic most rows

-- a table of no traffic
abbrev pub no_rows : Rows
no_rows = ranked.no_rows no_traffic

-- with more traffic of a key, in a table of 4,096 rows
abbrev pub counted : Rows → TunnelKey → Traffic → Rows
counted table key traffic = ranked.counted rank traffic_with no_traffic table key traffic

-- with the traffic of many rows
abbrev pub counted_all : Rows → List TrafficRow → Rows
counted_all table rows = ranked.counted_all rank traffic_with no_traffic table rows

-- with more of the others
abbrev pub with_others : Rows → Traffic → Rows
with_others table traffic = ranked.with_others traffic_with table traffic

-- with all that another table shows
abbrev pub together : Rows → Rows → Rows
together table other = ranked.together rank traffic_with no_traffic table other
