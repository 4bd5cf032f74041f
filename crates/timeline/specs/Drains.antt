-- What the outputs of a run hold. It states no standard.
--     Drains      those of a run
--     PortsOut      the captures of its ports hold nothing back
use Rattle.std.specs.Prelude.{◌≡◌, ◌<◌, ℕ, false, List, [], length, slice_index_or, Option}
use Rattle.pcap.specs.Sink.{Drain}

-- those of a run: that of port 1 first
pub record Drains : Type 0 where
  pub ports : List Drain
  pub underlay : Drain
  pub decisions : Drain

-- the output of the lines is no sink, so it gives up at no time
abbrev pub drains : List Drain → Drain → Option (List ℕ) → ℕ → List ℕ → Drains
drains ports underlay written failures held = record {
  ports = ports;
  underlay = underlay;
  decisions = record { written = written; failures = failures; is_failed = false; held = held };
}

-- the captures of the ports hold nothing back; no run has more than 255
abbrev pub PortsOut : List Drain → Type 0
PortsOut ports = (x : Drain) (k : ℕ) → k < length ports → k < 255 → (slice_index_or ports k x).held ≡ []
