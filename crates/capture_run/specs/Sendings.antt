-- What an endpoint sends in a run, and the captures of it. It states no standard.
--     Sending, sent_by      what leaves at a place, by an answer
--     capture_of      the capture of what leaves at some places
use Rattle.std.specs.Prelude.{ℕ, ◌==◌, Bool, true, false, List, [], map, filter, Option, Some, None, Ok, Err}
use Rattle.std.specs.List.{filter_map, range_with_len}
use Rattle.filter_db.specs.declared.place.Place.{Place}
use Rattle.filter_db.specs.declared.place.Place.TheVariants.{Local, Remote}
use Rattle.pcap.specs.Record.{Record}
use Rattle.pcap.specs.Written.{whole_frame, written}
use Rattle.endpoint_core.specs.Decision.{Sent}
use Rattle.endpoint_core.specs.Step.{Answer, Decided, Replied}

-- octets that leave at a place at a moment
pub record Sending : Type 0 where
  pub moment : ℕ
  pub place : Place
  pub octets : List ℕ

-- ---- by what was answered

-- what was sent of an outcome, where something was
abbrev pub sending_of : ℕ → Sent → Option Sending
sending_of moment outcome =
    elim outcome.sent [ Ok octets ↦ Some (record { moment = moment; place = outcome.place; octets = octets }) | Err reason ↦ None ]

-- of the outcomes those that were sent, in order
abbrev pub sendings_of : ℕ → List Sent → List Sending
sendings_of moment outcomes = filter_map (sending_of moment) outcomes

-- what an answer sends
abbrev pub sent_by : ℕ → Answer → List Sending
sent_by moment (Decided decision) = sendings_of moment decision.outcomes
sent_by moment (Replied fault) = []

-- ---- captures

-- it left at this port
abbrev pub is_at_port : ℕ → Sending → Bool
is_at_port port s = elim s.place [ Local p ↦ p == port | Remote kind addr ↦ false ]

-- it left for the underlay
abbrev pub is_at_underlay : Sending → Bool
is_at_underlay s = elim s.place [ Local p ↦ false | Remote kind addr ↦ true ]

-- its record in a capture
abbrev pub record_of : Sending → Record
record_of s = whole_frame s.moment s.octets

-- the header, and a record for each sending that passes, in order
abbrev pub capture_of : (Sending → Bool) → List Sending → List ℕ
capture_of passes sendings = written (map record_of (filter passes sendings))

-- one for each port, port 1 first
abbrev pub port_captures : ℕ → List Sending → List (List ℕ)
port_captures ports sendings = map (λ port. capture_of (is_at_port port) sendings) (range_with_len 1 ports)

-- the capture of what left for the underlay
abbrev pub underlay_capture : List Sending → List ℕ
underlay_capture sendings = capture_of is_at_underlay sendings
