-- Tables that are filled row by row, as their lines tell them.
use Rattle.std.proofs.Common.{◌≡◌, ◌∙◌, ap, sym, refl, ℕ, ◌+◌, ◌^◌, ◌<◌, ◌≤◌, Bool, true, false, cond, List, [], ◌∷◌, ◌++◌, arith, length}
use Rattle.std.specs.Prelude.{◌==◌, ◌&&◌, if◌then◌else◌, min}
use Rattle.std.specs.List.{AllByRecursion, flat_map}
use Rattle.std.proofs.lemmas.Bool.{eqb-true}
use Rattle.std.proofs.lemmas.List.{drop_all, take_all}
use Rattle.std.proofs.lemmas.List.Elements.{recursion_from_All}
use Rattle.ranked_rows.proofs.Merging.{alone}
use Rattle.ranked_rows.specs.Rows.{AreRising, total}
use Rattle.tunnel_traffic.specs.Key.{rank}
use Rattle.tunnel_traffic.specs.TrafficRows.{Rows, TrafficRow, counted, counted_all, no_rows, shown}
use Rattle.tunnel_traffic.specs.Traffic.{no_traffic, traffic_with}
use Rattle.tunnel_traffic.specs.declared.rows.traffic.Traffic.{Traffic}
use Rattle.tunnel_traffic.proofs.Sums.{all_shown, sums}
use Rattle.tunnel_traffic.specs.Tables.{Tunnels, no_tunnels}
use Rattle.tunnel_traffic.specs.Tables.{ArePackets, IsNetwork, IsRow, IsTold, IsTraffic, packets_of}
use Rattle.tunnel_traffic.specs.Rows.{told_by, with_row}
use Rattle.tunnel_traffic.specs.declared.told.row.Row.{Row}
use Rattle.tunnel_traffic.specs.declared.told.row.Row.TheVariants.{Unknown, UnknownOthers, Remote, RemoteOthers}

-- counted one after another they are the table
pub filled : (rows : List TrafficRow) → AreRising rank rows → length rows ≤ 4096 → counted_all no_rows rows ≡ record { rows = rows; others = no_traffic }
filled rows rise few =
    all_shown rows ∙ ap (shown 4096) (alone rank traffic_with no_traffic sums 0 rows rise)
    ∙ (λ i. record { rows = take_all 4096 rows few i; others = ap (total traffic_with no_traffic) (drop_all 4096 rows few) i })

-- ---- the lines of tables

abbrev pub unknown_row : TrafficRow → List Row
unknown_row row = Unknown row.key row.counts.came ∷ []

abbrev pub remote_row : TrafficRow → List Row
remote_row row = Remote row.key row.counts ∷ []

-- nothing where there are none
abbrev pub unknown_others_row : Traffic → List Row
unknown_others_row traffic = if traffic.came == 0 then [] else UnknownOthers traffic.came ∷ []

abbrev pub remote_others_row : Traffic → List Row
remote_others_row traffic = if (traffic.came == 0) && (traffic.left == 0) then [] else RemoteOthers traffic ∷ []

-- all of them
abbrev pub rows_told : Tunnels → List Row
rows_told t = flat_map unknown_row t.unknown.rows ++ unknown_others_row t.unknown.others ++ flat_map remote_row t.remotes.rows ++ remote_others_row t.remotes.others

told_append : (t : Tunnels) (xs ys : List Row) → told_by t (xs ++ ys) ≡ told_by (told_by t xs) ys
told_append t [] ys = refl
told_append t (x ∷ xs) ys = told_append (with_row t x) xs ys

abbrev tables : Rows → Rows → Tunnels
tables unknown remotes = record { unknown = unknown; remotes = remotes }

unknown_counted : (unknown remotes : Rows) (rows : List TrafficRow) → AllByRecursion (IsRow IsNetwork ArePackets) rows
    → told_by (tables unknown remotes) (flat_map unknown_row rows) ≡ tables (counted_all unknown rows) remotes
unknown_counted unknown remotes [] all = refl
unknown_counted unknown remotes (row ∷ rows) all =
    ap (λ (traffic : Traffic). told_by (tables (counted unknown row.key traffic) remotes) (flat_map unknown_row rows)) (sym all.0.count.packets)
    ∙ unknown_counted (counted unknown row.key row.counts) remotes rows all.1

remotes_counted : (unknown remotes : Rows) (rows : List TrafficRow) → told_by (tables unknown remotes) (flat_map remote_row rows) ≡ tables unknown (counted_all remotes rows)
remotes_counted unknown remotes [] = refl
remotes_counted unknown remotes (row ∷ rows) = remotes_counted unknown (counted remotes row.key row.counts) rows

-- a count of 64 bits on its own
count_alone : (n : ℕ) → n < 2 ^ 64 → min 18446744073709551615 (0 + n) ≡ n
count_alone n fits = omega arith

abbrev table : List TrafficRow → Traffic → Rows
table rows others = record { rows = rows; others = others }

packets_alone : (traffic : Traffic) → ArePackets traffic → traffic_with no_traffic (packets_of traffic.came) ≡ traffic
packets_alone traffic is = (λ i. record { came = count_alone traffic.came is.fits i; came_octets = 0; left = 0; left_octets = 0 }) ∙ sym is.packets

traffic_alone : (traffic : Traffic) → IsTraffic traffic → traffic_with no_traffic traffic ≡ traffic
traffic_alone traffic is = λ i. record {
  came = count_alone traffic.came is.came i;
  came_octets = count_alone traffic.came_octets is.came_octets i;
  left = count_alone traffic.left is.left i;
  left_octets = count_alone traffic.left_octets is.left_octets i;
}

unknown_further : (rows : List TrafficRow) (others : Traffic) (remotes : Rows) → ArePackets others
    → told_by (tables (table rows no_traffic) remotes) (unknown_others_row others) ≡ tables (table rows others) remotes
unknown_further rows others remotes is = by (others.came == 0) refl
  where
    by : (b : Bool) → (others.came == 0) ≡ b → told_by (tables (table rows no_traffic) remotes) (cond b [] (UnknownOthers others.came ∷ [])) ≡ tables (table rows others) remotes
    by true h = ap (λ (o : Traffic). tables (table rows o) remotes) (ap packets_of (sym (eqb-true others.came 0 h)) ∙ sym is.packets)
    by false h = ap (λ (o : Traffic). tables (table rows o) remotes) (packets_alone others is)

both_of : (a b : Bool) → (a && b) ≡ true → (a ≡ true) × (b ≡ true)
both_of true b h = (refl, h)
both_of false b h = absurd cc

remotes_further : (unknown : Rows) (rows : List TrafficRow) (others : Traffic) → IsTraffic others
    → told_by (tables unknown (table rows no_traffic)) (remote_others_row others) ≡ tables unknown (table rows others)
remotes_further unknown rows others is = by ((others.came == 0) && (others.left == 0)) refl
  where
    by : (b : Bool) → ((others.came == 0) && (others.left == 0)) ≡ b
        → told_by (tables unknown (table rows no_traffic)) (cond b [] (RemoteOthers others ∷ [])) ≡ tables unknown (table rows others)
    by true h =
        let zero = both_of (others.came == 0) (others.left == 0) h in
        ap (λ (o : Traffic). tables unknown (table rows o)) (sym (is.silent (eqb-true others.came 0 zero.0) (eqb-true others.left 0 zero.1)))
    by false h = ap (λ (o : Traffic). tables unknown (table rows o)) (traffic_alone others is)

-- what the lines of tables tell together are these tables
pub told_back : (t : Tunnels) → IsTold t → told_by no_tunnels (rows_told t) ≡ t
told_back t is =
    let u : List TrafficRow = t.unknown.rows in
    let r : List TrafficRow = t.remotes.rows in
    let one : List Row = flat_map unknown_row u in
    let two : List Row = unknown_others_row t.unknown.others in
    let three : List Row = flat_map remote_row r in
    let four : List Row = remote_others_row t.remotes.others in
    let each = recursion_from_All (IsRow IsNetwork ArePackets) u is.unknown.each in
    let first : told_by no_tunnels one ≡ tables (table u no_traffic) no_rows =
    unknown_counted no_rows no_rows u each ∙ ap (λ (x : Rows). tables x no_rows) (filled u is.unknown.rise is.unknown.few) in
    let second : told_by no_tunnels (one ++ two) ≡ tables (table u t.unknown.others) no_rows =
    told_append no_tunnels one two ∙ ap (λ (x : Tunnels). told_by x two) first ∙ unknown_further u t.unknown.others no_rows is.unknown.others in
    let third : told_by no_tunnels ((one ++ two) ++ three) ≡ tables (table u t.unknown.others) (table r no_traffic) =
    told_append no_tunnels (one ++ two) three ∙ ap (λ (x : Tunnels). told_by x three) second ∙ remotes_counted (table u t.unknown.others) no_rows r
    ∙ ap (λ (x : Rows). tables (table u t.unknown.others) x) (filled r is.remotes.rise is.remotes.few) in
    told_append no_tunnels ((one ++ two) ++ three) four ∙ ap (λ (x : Tunnels). told_by x four) third
    ∙ remotes_further (table u t.unknown.others) r t.remotes.others is.remotes.others
