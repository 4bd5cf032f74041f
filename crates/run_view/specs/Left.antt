-- What left, in the view of a run (draft-ietf-opsawg-pcapng, 4.3) and in its output captures (pcap-savefile(5)).
--     left_at      the records of what left at an interface
--     turned      an item whose direction is turned round
--     ReadsWhatLeft, TellsWhatLeft      the laws
use Rattle.std.specs.Prelude.{◌≡◌, ◌==◌, ◌&&◌, ◌≤◌, ◌-◌, ◌++◌, ◌∷◌, ℕ, if◌then◌else◌, List, [], length, map}
use Rattle.std.specs.List.{AllByRecursion, flat_map, range_with_len}
use Rattle.pcap.specs.Record.{Record}
use Rattle.pcap.specs.Written.{written}
use Rattle.pcapng_input.specs.Reading.{EndsWhole, packets_of}
use Rattle.pcapng_input.specs.declared.interface.Selection.TheVariants.{Number}
use Rattle.overlay.specs.declared.settings.change.TimedChange.{TimedChange}
use Rattle.timeline.specs.declared.event.Event.{Event}
use Rattle.endpoint_core.specs.Settings.{Settings}
use Rattle.endpoint_core.specs.Step.{opened}
use Rattle.segment_set.specs.Segments.{Segments}
use Rattle.capture_run.specs.Outputs.{Outputs}
use Rattle.capture_run.specs.Writing.{empty_outputs}
use Rattle.stream_run.specs.Sights.{sights}
use Rattle.stream_run.specs.Steps.{changes_of, texts_behind}
use Rattle.run_view.specs.Blocks.{Item, Noted, Shown, head_text, inbound, outbound, text_of}
use Rattle.run_view.specs.Reading.{Keeps, has_left, left_out_at}
use Rattle.run_view.specs.Run.{run_items}

-- what left at an interface: its moment, its length and its octets
abbrev pub left_at : ℕ → Item → List Record
left_at q (Shown p r) =
    if has_left r && q == p.interface then record { moment = p.moment; original = p.original; octets = p.octets } ∷ [] else []
left_at q (Noted moment message) = []

-- ---- read

-- a packet that left is told as one that came, and all others as ones that left
abbrev pub turned : Item → Item
turned (Shown p r) = Shown p (record { comment = r.comment; direction = if has_left r then inbound else outbound; event = r.event })
turned (Noted moment message) = Noted moment message

-- a law: where all directions of a view are turned round, what is read of an interface is what left there, as it was told
abbrev pub ReadsWhatLeft : Type 0
ReadsWhatLeft = (ports q : ℕ) (items : List Item) → ports ≤ 255 → AllByRecursion (Keeps ports) items
    → packets_of (Number q) (head_text ports ++ text_of (map turned items))
    ≡ record { records = flat_map (left_at q) items; end = EndsWhole; left_out = left_out_at q (map turned items) }

-- ---- of a run

-- each output capture of a run on so many ports has what left at its interface, in order, and nothing else
pub record HoldWhatLeft (ports : ℕ) (items : List Item) (o : Outputs) : Type 0 where
  pub at_ports : o.ports ≡ map (λ port. written (flat_map (left_at (port - 1)) items)) (range_with_len 1 ports)
  pub at_underlay : o.underlay ≡ written (flat_map (left_at ports) items)

-- a law: what left in the view of a run, of any events, is what its output captures hold
abbrev pub TellsWhatLeft : Type 0
TellsWhatLeft = (segments : Segments) (S : Settings) (changes : List TimedChange) (es : List Event)
    → HoldWhatLeft (length S.ports.ports)
    (run_items (length S.ports.ports) changes (sights segments (changes_of changes) (opened S) 0 es))
    (texts_behind segments changes (opened S) (empty_outputs (length S.ports.ports)) es)
