-- A view, read as captures are (draft-ietf-opsawg-pcapng): what came at an interface. It serves `specs/Run`.
--     read_at, left_out_at      what is read of an interface, and how much is left out
--     ReadsBack      the law
use Rattle.std.specs.Prelude.{◌≡◌, ◌==◌, ◌&&◌, ◌%◌, ◌+◌, ◌<◌, ◌≤◌, ◌^◌, ◌++◌, ◌∷◌, not, ℕ, Bool, if◌then◌else◌, List, [], length}
use Rattle.std.specs.List.{AllByRecursion, flat_map}
use Rattle.pcap.specs.Record.{Record, last_moment, longest}
use Rattle.pcapng_input.specs.Reading.{EndsWhole, packets_of}
use Rattle.pcapng_input.specs.declared.interface.Selection.TheVariants.{Number}
use Rattle.run_view.specs.Blocks.{Item, Noted, Packet, Remark, Shown, head_text, longest_comment, text_of}

-- a packet keeps to the limits of a capture, and is of one of so many ports or of the underlay
pub record IsWithin (ports : ℕ) (p : Packet) (r : Remark) : Type 0 where
  pub interface : p.interface ≤ ports
  pub moment : p.moment ≤ last_moment
  pub original : p.original < 2 ^ 32
  pub octets : length p.octets ≤ longest
  pub comment : length r.comment ≤ longest_comment
  pub direction : r.direction < 2 ^ 32

-- what is told does
abbrev pub Keeps : ℕ → Item → Type 0
Keeps ports (Shown p r) = IsWithin ports p r
Keeps ports (Noted moment message) = (moment ≤ last_moment) × (length message ≤ longest_comment)

-- its direction says that it left
abbrev pub has_left : Remark → Bool
has_left r = r.direction % 4 == 2

-- what is read of an interface: what came there
abbrev pub read_at : ℕ → Item → List Record
read_at q (Shown p r) =
    if not (has_left r) && q == p.interface then record { moment = p.moment; original = p.original; octets = p.octets } ∷ [] else []
read_at q (Noted moment message) = []

-- how many are left out: what left there
abbrev pub left_out_at : ℕ → List Item → ℕ
left_out_at q [] = 0
left_out_at q (Shown p r ∷ items) = (if has_left r && q == p.interface then 1 else 0) + left_out_at q items
left_out_at q (Noted moment message ∷ items) = left_out_at q items

-- a law: of each interface of a view what came there is read, as it was told, and the text ends whole
abbrev pub ReadsBack : Type 0
ReadsBack = (ports q : ℕ) (items : List Item) → ports ≤ 255 → AllByRecursion (Keeps ports) items
    → packets_of (Number q) (head_text ports ++ text_of items)
    ≡ record { records = flat_map (read_at q) items; end = EndsWhole; left_out = left_out_at q items }
