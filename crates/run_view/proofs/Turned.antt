-- A view whose directions are turned round is read as what left.
use Rattle.std.proofs.Common.{◌≡◌, ◌∙◌, ap, refl, ℕ, ◌^◌, ◌<◌, ◌≤◌, Bool, true, false, not, ◌&&◌, List, [], ◌∷◌, ◌++◌, map, arith}
use Rattle.std.specs.Prelude.{◌==◌, ◌%◌, if◌then◌else◌}
use Rattle.std.specs.List.{AllByRecursion, flat_map}
use Rattle.pcap.specs.Record.{Record}
use Rattle.pcapng_input.specs.Reading.{EndsWhole, packets_of}
use Rattle.pcapng_input.specs.declared.interface.Selection.TheVariants.{Number}
use Rattle.run_view.specs.Blocks.{Item, Noted, Packet, Remark, Shown, head_text, inbound, outbound, text_of}
use Rattle.run_view.specs.Left.{left_at, turned}
use Rattle.run_view.specs.Reading.{IsWithin, Keeps, has_left, left_out_at, read_at}
use Rattle.run_view.proofs.Packets.{record_of}
use Rattle.run_view.proofs.Reading.{whole_read}

turned_fits : (b : Bool) → (if b then inbound else outbound) < 2 ^ 32
turned_fits true = omega arith
turned_fits false = omega arith

turned_keeps : (ports : ℕ) (items : List Item) → AllByRecursion (Keeps ports) items → AllByRecursion (Keeps ports) (map turned items)
turned_keeps ports [] keeps = tt
turned_keeps ports (Shown p r ∷ items) keeps =
    let within : IsWithin ports p r = keeps.0 in (
      record {
        interface = within.interface;
        moment = within.moment;
        original = within.original;
        octets = within.octets;
        comment = within.comment;
        direction = turned_fits (has_left r);
      },
      turned_keeps ports items keeps.1,
    )
turned_keeps ports (Noted moment message ∷ items) keeps = (keeps.0, turned_keeps ports items keeps.1)

one_turned : (q : ℕ) (p : Packet) (r : Remark) → read_at q (turned (Shown p r)) ≡ left_at q (Shown p r)
one_turned q p r = by (has_left r)
  where
    by : (b : Bool)
        → ◌≡◌ {A = List Record} (if not ((if b then inbound else outbound) % 4 == 2) && q == p.interface then record_of p ∷ [] else [])
        (if b && q == p.interface then record_of p ∷ [] else [])
    by true = refl
    by false = refl

all_turned : (q : ℕ) (items : List Item) → flat_map (read_at q) (map turned items) ≡ flat_map (left_at q) items
all_turned q [] = refl
all_turned q (Shown p r ∷ items) =
    ap (λ (t : List Record). t ++ flat_map (read_at q) (map turned items)) (one_turned q p r)
    ∙ ap (λ (t : List Record). left_at q (Shown p r) ++ t) (all_turned q items)
all_turned q (Noted moment message ∷ items) = all_turned q items

pub turned_read : (ports q : ℕ) (items : List Item) → ports ≤ 255 → AllByRecursion (Keeps ports) items
    → packets_of (Number q) (head_text ports ++ text_of (map turned items))
    ≡ record { records = flat_map (left_at q) items; end = EndsWhole; left_out = left_out_at q (map turned items) }
turned_read ports q items few keeps =
    whole_read ports q (map turned items) few (turned_keeps ports items keeps)
    ∙ ap (λ (records : List Record). record { records = records; end = EndsWhole; left_out = left_out_at q (map turned items) }) (all_turned q items)
