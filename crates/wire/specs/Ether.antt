-- How the tag of a frame is split off (IEEE 802.1Q, 9.6).
use Rattle.std.specs.Prelude.{◌≡◌, ℕ, ◌<◌, ◌≤◌, nat_lt, Bool, true, false, List, length, drop, if◌then◌else◌}
use Rattle.wire.specs.Octets.{field}
use Rattle.wire.specs.Frame.{frame_of, frame_behind_tag, plain, tagged}
use Rattle.wire.specs.Tag.{begins_tag, vid_of}
use Rattle.wire.specs.declared.ether.ether_view.Tagging.{Tagging}
use Rattle.wire.specs.declared.ether.ether_view.Tagging.TheVariants.{Plain, Tagged, Cut}

-- behind the addresses stands the type of a tag
abbrev pub has_tag : List ℕ → Bool
has_tag b = begins_tag (drop 12 b)

-- the text b is that of a frame without a tag and with this body; or of one with this tag and this body; or it has a
-- tag's type and no room for a tag and a body of 2 octets
abbrev pub SplitsTag : List ℕ → Tagging → Type 0
SplitsTag b (Plain body) = (has_tag b ≡ false) × (b ≡ plain (frame_of b))
    × (body.now ≡ (frame_of b).body) × (2 ≤ length body.now)
SplitsTag b (Tagged tci body) =
    (has_tag b ≡ true) × (b ≡ tagged (frame_behind_tag b) (vid_of tci))
    × (tci ≡ field 14 2 b) × (body.now ≡ (frame_behind_tag b).body) × (2 ≤ length body.now)
SplitsTag b Cut = (has_tag b ≡ true) × (length b < 18)

-- the same as a value, without where it lies in memory
pub data Split : Type 0 where
  Untagged : (body : List ℕ) → Split
  WithTag : (tci : ℕ) (body : List ℕ) → Split
  CutShort : Split

-- the same of what reading a tag answers
abbrev pub seen : Tagging → Split
seen (Plain body) = Untagged body.now
seen (Tagged tci body) = WithTag tci body.now
seen Cut = CutShort

-- the one way to split a text
abbrev pub tag_split : List ℕ → Split
tag_split b =
    if has_tag b
    then (if nat_lt (length b) 18 then CutShort else WithTag (field 14 2 b) (drop 16 b))
    else Untagged (drop 12 b)
