-- How the members of the segments stand in words, by bits. It states no standard.
--     has_bit      a bit of a word
--     stands_in      there is a segment
--     is_member_in      a port is a member of it
--     egress_in      how its frames leave at a port
--     segments_in      all segments
use Rattle.std.specs.Prelude.{ℕ, ◌+◌, ◌*◌, ◌/◌, ◌%◌, ◌==◌, Bool, true, false, if◌then◌else◌, List, map, slice_index_or, Option, Some, None}
use Rattle.std.specs.Int.{bit_at}
use Rattle.std.specs.List.{range_with_len}
use Rattle.overlay.specs.declared.ports.member.Egress.{Egress}
use Rattle.overlay.specs.declared.ports.member.Egress.TheVariants.{Tagged, Untagged}
use Rattle.overlay.specs.Places.{placed}
use Rattle.overlay.specs.Ports.{Members, Segments}

-- a bit of the word at a place is 1
abbrev pub has_bit : List ℕ → ℕ → ℕ → Bool
has_bit words place bit = bit_at (slice_index_or words place 0) bit == 1

-- where the word of a VID stands that has the member bit of a port: each 64 ports have two columns of 4,096 words
abbrev pub place_of : ℕ → ℕ → ℕ
place_of vid port = port / 64 * 8192 + vid

-- there is a segment of this VID: the bit that a port 0 would have
abbrev pub stands_in : List ℕ → ℕ → Bool
stands_in words vid = has_bit words vid 0

-- a port is a member of it
abbrev pub is_member_in : List ℕ → ℕ → ℕ → Bool
is_member_in words vid port = has_bit words (place_of vid port) (port % 64)

-- how its frames leave at a port, by a bit in each of the two columns; none where it is no member
abbrev pub egress_in : List ℕ → ℕ → ℕ → Option Egress
egress_in words vid port =
    if is_member_in words vid port
    then (if has_bit words (place_of vid port + 4096) (port % 64) then Some Untagged else Some Tagged)
    else None

-- frames leave untagged
abbrev pub is_untagged : Option Egress → Bool
is_untagged (Some Untagged) = true
is_untagged _ = false

-- its members among so many ports
unfoldable pub members_in : ℕ → List ℕ → ℕ → Members
members_in count words vid = placed 1 (map (egress_in words vid) (range_with_len 1 count))

-- them, where there is such a segment
unfoldable pub segment_in : ℕ → List ℕ → ℕ → Option Members
segment_in count words vid = if stands_in words vid then Some (members_in count words vid) else None

-- the numbers of 12 bits, of which VIDs are some
unfoldable pub vid_count : ℕ
vid_count = 4096

-- all segments by their VIDs
unfoldable pub segments_in : ℕ → List ℕ → Segments
segments_in count words = placed 0 (map (segment_in count words) (range_with_len 0 vid_count))
