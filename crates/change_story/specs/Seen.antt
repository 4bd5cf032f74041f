-- How what a check saw is printed. It states no standard. One line, begun by two spaces; as
--       segment 10
--       port p9 of 3
--       mac at p2 seen at 5000000000, entries 3 of at most 1024
use Rattle.std.specs.Prelude.{ℕ, ◌/◌, if◌then◌else◌, List, [], ◌∷◌, ◌++◌, codes, decimal, Option, Some, None}
use Rattle.std.specs.List.{flat_map}
use Rattle.wire.specs.declared.ip_udp.addr.Tunnel.{Tunnel}
use Rattle.filter_db.specs.declared.entry.Entry.{Entry}
use Rattle.change_story.specs.Words.{group_word, listed_word, member_word, port_text, stood_text, tunnel_word, up_word}
use Rattle.change_story.specs.declared.seen.Seen.{Seen}
use Rattle.change_story.specs.declared.seen.Seen.TheVariants as seen

-- ---- values

-- the tunnel that is meant
abbrev pub tunnel_text : Option Tunnel → Option Tunnel → List ℕ
tunnel_text named (Some kind) = codes "tunnel " ++ tunnel_word kind
tunnel_text (Some kind) None = codes "no tunnel " ++ tunnel_word kind
tunnel_text None None = codes "no tunnel"

-- where a MAC address stands
abbrev pub mac_stood : Option Entry → List ℕ
mac_stood None = codes "mac unknown"
mac_stood (Some e) = codes "mac at " ++ stood_text e

-- how many entries there are
abbrev pub entries_text : ℕ → ℕ → List ℕ
entries_text entries limit = codes "entries " ++ decimal entries ++ codes " of at most " ++ decimal limit

-- ---- lines

-- what a check saw
abbrev pub words : Seen → List ℕ
words (seen.Segment vid there) = (if there then [] else codes "no ") ++ codes "segment " ++ decimal vid
words (seen.Port port ports) = port_text port ++ codes " of " ++ decimal ports
words (seen.Tunnel named found) = tunnel_text named found
words (seen.Usable usable) = if usable then codes "addr usable" else codes "addr of nobody"
words (seen.AddrGroup group) = codes "addr " ++ group_word group
words (seen.Family there) = if there then codes "own address of its family" else codes "no own address of its family"
words (seen.Own own) = if own then codes "addr the endpoint's own" else codes "addr another endpoint's"
words (seen.Listed listed) = codes "addr" ++ listed_word listed
words (seen.FloodRoom remotes most) = codes "flood list has " ++ decimal remotes ++ codes ", at most " ++ decimal most
words (seen.MacGroup group) = codes "mac " ++ group_word group
words (seen.Room stood entries limit) = mac_stood stood ++ codes ", " ++ entries_text entries limit
words (seen.Stood stood) = mac_stood stood
words (seen.Ageing seconds) = codes "ageing " ++ decimal seconds ++ codes ", 10 to 1000000"
words (seen.Limit limit most) = codes "limit " ++ decimal limit ++ codes ", 1 to " ++ decimal most
words (seen.Vnis free) = if free then codes "vnis free" else codes "vnis taken"
words (seen.Segments segments most) = codes "segments " ++ decimal segments ++ codes ", at most " ++ decimal most
words (seen.Pool room) = codes "pool has room for " ++ decimal room
words (seen.AgeingBefore span) = codes "ageing before " ++ decimal (span / 1000000000)
words (seen.Learning on) = if on then codes "learning before on" else codes "learning before off"
words (seen.Member port egress) = port_text port ++ member_word egress
words (seen.Up port up) = port_text port ++ codes " " ++ up_word up
words (seen.Entries entries limit) = entries_text entries limit

-- a line of its own
abbrev pub seen_line : Seen → List ℕ
seen_line x = codes "  " ++ words x ++ 10 ∷ []

-- all of them
abbrev pub seen_text : List Seen → List ℕ
seen_text xs = flat_map seen_line xs
