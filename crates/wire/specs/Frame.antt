-- A frame as a bridge sees it, and its texts without a tag and with one (IEEE 802.1Q, 6.8 and 9.6).
use Rattle.std.specs.Prelude.{◌≡◌, ◌<◌, ◌≤◌, ℕ, ◌+◌, Bool, false, List, ◌++◌, length, take, drop}
use Rattle.wire.specs.Octets.{field, part}
use Rattle.wire.specs.Tag.{tag_text, tci_of, pcp_of, dei_of}

-- destination, source, priority and drop eligible bit, and a body that begins with the type: no tag is in it
pub record Frame : Type 0 where
  pub dst : List ℕ
  pub src : List ℕ
  pub pcp : ℕ
  pub dei : Bool
  pub body : List ℕ

-- two addresses of 6 octets, a priority of 3 bits, and a body of at least 2 octets, the type
pub record IsFrame (f : Frame) : Type 0 where
  pub dst : length f.dst ≡ 6
  pub src : length f.src ≡ 6
  pub pcp : f.pcp < 8
  pub body : 2 ≤ length f.body

-- the text of a frame without a tag, and with a tag of this VLAN identifier
abbrev pub plain : Frame → List ℕ
plain f = f.dst ++ (f.src ++ f.body)

-- its octets with a tag of this VID (IEEE 802.1Q, 9.5 and 9.6)
abbrev pub tagged : Frame → ℕ → List ℕ
tagged f vid = f.dst ++ (f.src ++ (tag_text (tci_of f.pcp f.dei vid) ++ f.body))

-- the octets of a frame without a tag
abbrev pub size : Frame → ℕ
size f = 12 + length f.body

-- the frame that a text without a tag is, and the one that a text with a tag is
abbrev pub frame_of : List ℕ → Frame
frame_of b = record { dst = take 6 b; src = part 6 6 b; pcp = 0; dei = false; body = drop 12 b }

-- the frame that these octets are behind one tag
abbrev pub frame_behind_tag : List ℕ → Frame
frame_behind_tag b =
    record { dst = take 6 b; src = part 6 6 b; pcp = pcp_of (field 14 2 b); dei = dei_of (field 14 2 b); body = drop 16 b }
