-- The live entries of segments as lines of text: `segment 10 02:00:00:00:00:07 p2 seen 7000000000 age 3.000000000`,
-- and `segment 10 02:00:00:00:00:09 192.0.2.2 fixed`. It states no standard.
use Rattle.std.specs.Prelude.{ℕ, max, ◌-◌, ◌/◌, ◌%◌, if◌then◌else◌, Bool, List, [], ◌∷◌}
use Rattle.std.specs.Prelude.{◌++◌, length, replicate, codes, decimal, Option, Some, None}
use Rattle.std.specs.FinMap.{entries}
use Rattle.std.specs.List.{flat_map, range_with_len}
use Rattle.wire.specs.Octets.{octet}
use Rattle.segment_set.specs.Segments.{Segments, holds}
use Rattle.filter_db.specs.declared.entry.Entry.{Entry}
use Rattle.endpoint_core.specs.Step.{State, has_two_tunnels, passed}
use Rattle.endpoint_core.specs.Text.{hex_octet, place_text}

-- six pairs of hexadecimal digits between colons
unfoldable pub mac_text : List ℕ → List ℕ
mac_text mac =
    hex_octet (octet 0 mac) ++ 58 ∷ hex_octet (octet 1 mac) ++ 58 ∷ hex_octet (octet 2 mac) ++ 58
    ∷ hex_octet (octet 3 mac) ++ 58 ∷ hex_octet (octet 4 mac) ++ 58 ∷ hex_octet (octet 5 mac)

-- a number below 1,000,000,000 in nine digits
unfoldable pub nine_digits : ℕ → List ℕ
nine_digits n = replicate (9 - length (decimal n)) 48 ++ decimal n

-- nanoseconds as seconds with nine decimals
unfoldable pub age_text : ℕ → List ℕ
age_text age = decimal (age / 1000000000) ++ 46 ∷ nine_digits (age % 1000000000)

-- the last moment at which a station was seen, in nanoseconds, and its age at a moment; or that the entry is fixed
unfoldable pub seen_text : ℕ → Option ℕ → List ℕ
seen_text now None = codes "fixed"
seen_text now (Some last) = codes "seen " ++ decimal last ++ codes " age " ++ age_text (now - last)

-- the line of an entry of a segment; the kind of a remote's tunnel is told where the segment has two
unfoldable pub entry_line : Bool → ℕ → ℕ → List ℕ × Entry → List ℕ
entry_line two_tunnels now vid row =
    codes "segment " ++ decimal vid ++ codes " " ++ mac_text row.0 ++ codes " "
    ++ place_text two_tunnels row.1.place ++ codes " " ++ seen_text now row.1.last ++ 10 ∷ []

-- the lines of a segment, its addresses rising
abbrev pub segment_lines : State → ℕ → List ℕ
segment_lines s vid = flat_map (entry_line (has_two_tunnels s.bridges.settings.overlay vid) s.moment vid) (entries (s.bridges.tables vid))

-- the lines of a segment that is asked for, and none of another
abbrev pub lines_among : Segments → State → ℕ → List ℕ
lines_among segments s vid = if holds segments (Some vid) then segment_lines s vid else []

-- the VIDs that a segment may have (IEEE 802.1Q, 9.6)
unfoldable pub vids : List ℕ
vids = range_with_len 1 4094

-- what is shown of a state: as it is behind its last event, or as it is at a moment up to which nothing more comes, where that
-- isn't before
abbrev pub shown_at : Option ℕ → State → State
shown_at None s = s
shown_at (Some moment) s = passed (max moment s.moment) s

-- the lines of all segments that are asked for, their VIDs rising; a whole run asks for all
abbrev pub tables_text : Segments → State → List ℕ
tables_text segments s = flat_map (lines_among segments s) vids
