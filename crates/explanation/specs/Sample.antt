-- The built-in sample: a learning bridge of three ports, and four frames of 60 octets. It states no standard.
use Rattle.std.specs.Prelude.{ℕ, ◌*◌, List, [], ◌∷◌, ◌++◌, codes, map, replicate}
use Rattle.std.specs.List.{flat_map}
use Rattle.pcap.specs.Record.{Record}
use Rattle.pcap.specs.Written.{whole_frame, written}
use Rattle.explanation.specs.declared.sample.built_in.Passing.{Passing}

-- each line is ended by LF
abbrev pub lines : List (List ℕ) → List ℕ
lines texts = flat_map (λ text. text ++ 10 ∷ []) texts

-- its settings, as a text
abbrev pub settings_text : List ℕ
settings_text = lines (
    codes "version = 1" ∷
    codes "[underlay]" ∷
    codes "mac = \"02:00:00:00:aa:01\"" ∷
    codes "next_hop = \"02:00:00:00:aa:fe\"" ∷
    codes "ip4 = \"192.0.2.1\"" ∷
    codes "ip6 = \"2001:db8::1\"" ∷
    codes "[[port]]" ∷
    codes "pvid = 10" ∷
    codes "[[port]]" ∷
    codes "pvid = 10" ∷
    codes "[[port]]" ∷
    codes "pvid = 10" ∷
    codes "[[segment]]" ∷
    codes "vid = 10" ∷
    codes "vni = 5000" ∷
    codes "tunnel = \"vxlan\"" ∷
    codes "untagged = [1, 2, 3]" ∷
    codes "tagged = []" ∷
    codes "flood = []" ∷ [])

-- seconds in nanoseconds
abbrev pub nanoseconds : ℕ → ℕ
nanoseconds seconds = seconds * 1000000000

-- the addresses, the type, and zero octets behind it
abbrev pub frame : Passing → List ℕ
frame p = p.dst ++ (p.src ++ (p.kind ++ replicate 46 0))

-- a frame as a record of a capture
abbrev pub record_of : Passing → Record
record_of p = whole_frame (nanoseconds p.second) (frame p)

-- the capture of some frames
abbrev pub capture_of : List Passing → List ℕ
capture_of frames = written (map record_of frames)

-- the address of everybody, and those of two stations
abbrev pub everybody : List ℕ
everybody = replicate 6 255

-- the address of a station by its number
abbrev pub station : ℕ → List ℕ
station n = 2 ∷ 0 ∷ 0 ∷ 0 ∷ 0 ∷ n ∷ []

-- a frame that passes at a second
abbrev pub passes : ℕ → List ℕ → List ℕ → ℕ → Passing
passes at dst src kind = record { second = at; dst = dst; src = src; kind = 8 ∷ kind ∷ [] }

-- what comes at each port: 0806 is ARP, 0800 IPv4
abbrev pub captures : List (List ℕ)
captures =
    capture_of (passes 1 everybody (station 1) 6 ∷ passes 3 (station 2) (station 1) 0 ∷ [])
    ∷ capture_of (passes 2 (station 1) (station 2) 0 ∷ passes 4 (station 2) (station 2) 0 ∷ [])
    ∷ capture_of [] ∷ []
