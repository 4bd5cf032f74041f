-- What is sent: a text in four parts. It states no standard.
use Rattle.std.specs.Prelude.{ℕ, List, [], ◌++◌}
use Rattle.wire.specs.Frame.{Frame, plain, tagged}
use Rattle.wire.specs.Tag.{tag_text, tci_of}
use Rattle.overlay.specs.declared.ports.member.Egress.{Egress}
use Rattle.overlay.specs.declared.ports.member.Egress.TheVariants.{Tagged, Untagged}

-- an emission, in the order in which it is sent: outer headers, the addresses of the frame, a tag, the frame's body
pub record Parts : Type 0 where
  pub head : List ℕ
  pub addresses : List ℕ
  pub tag : List ℕ
  pub body : List ℕ

-- the octets that are sent
abbrev pub text : Parts → List ℕ
text e = e.head ++ (e.addresses ++ (e.tag ++ e.body))

-- nothing
abbrev pub no_parts : Parts
no_parts = record { head = []; addresses = []; tag = []; body = [] }

-- the frame with this head and this tag
abbrev pub around : List ℕ → List ℕ → Frame → Parts
around head tag f = record { head = head; addresses = f.dst ++ f.src; tag = tag; body = f.body }

-- ---- at a local port (IEEE 802.1Q, 8.8)

-- the frame with the segment's VID in a tag, or without a tag, as the port's egress says
abbrev pub local_text : ℕ → Egress → Frame → List ℕ
local_text vid Tagged f = tagged f vid
local_text vid Untagged f = plain f

-- the tag that is put in
abbrev pub local_tag : ℕ → Egress → Frame → List ℕ
local_tag vid Tagged f = tag_text (tci_of f.pcp f.dei vid)
local_tag vid Untagged f = []

-- its parts: no head, and around this tag the frame, whatever tag it came with
abbrev pub local_parts : ℕ → Egress → Frame → Parts
local_parts vid egress f = around [] (local_tag vid egress f) f
