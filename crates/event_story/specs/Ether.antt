-- What the tests of an Ethernet header saw. It states no standard.
use Rattle.std.specs.Prelude.{ℕ, ◌==◌, nat_lt, not, Bool, false, if◌then◌else◌, List, length, take, Option, Some, None}
use Rattle.wire.specs.Octets.{part}
use Rattle.wire.specs.Address.{is_group, is_reserved}
use Rattle.wire.specs.Ether.{Split, Untagged, WithTag, CutShort, tag_split}
use Rattle.wire.specs.Tag.{vid_of, pcp_of, dei_of}
use Rattle.event_story.specs.declared.fact.Fact.{Fact}
use Rattle.event_story.specs.declared.fact.Fact.TheVariants as facts

-- there is a whole Ethernet header
abbrev pub if_whole : {A : Type 0} → List ℕ → A → Option A
if_whole b found = if nat_lt (length b) 14 then None else Some found

-- both addresses, or that there are too few octets
abbrev pub header_fact : List ℕ → Fact
header_fact b = if nat_lt (length b) 14 then facts.Short (length b) else facts.Ether (part 6 6 b) (take 6 b)

-- whether the source is a group's address
abbrev pub source_fact : List ℕ → Option Fact
source_fact b = if_whole b (facts.Source (is_group (part 6 6 b)))

-- whether the destination is a group's address, or reserved
abbrev pub destination_fact : List ℕ → Option Fact
destination_fact b = if_whole b (facts.Destination (is_group (take 6 b)) (is_reserved (take 6 b)))

-- the tag behind the addresses
abbrev pub tag_told : Split → Fact
tag_told (Untagged body) = facts.NoTag
tag_told (WithTag tci body) = facts.Tag (vid_of tci) (pcp_of tci) (dei_of tci)
tag_told CutShort = facts.CutTag

-- the tag of a frame
abbrev pub tag_fact : List ℕ → Option Fact
tag_fact b = if_whole b (tag_told (tag_split b))

-- the VID of a tag, 0 where there is none
abbrev pub tag_vid : Split → ℕ
tag_vid (Untagged body) = 0
tag_vid (WithTag tci body) = vid_of tci
tag_vid CutShort = 0

-- the same of a frame
abbrev pub vid_in : List ℕ → ℕ
vid_in b = if nat_lt (length b) 14 then 0 else tag_vid (tag_split b)

-- there is a tag with a VID
abbrev pub tells_vid : Split → Bool
tells_vid (Untagged body) = false
tells_vid (WithTag tci body) = not (vid_of tci == 0)
tells_vid CutShort = false

-- the same of a frame
abbrev pub has_vid : List ℕ → Bool
has_vid b = if nat_lt (length b) 14 then false else tells_vid (tag_split b)
