-- The captures that are cut, by where their sources stand at the end of a run; it serves the contract of the run.
use Rattle.std.specs.Prelude.{ℕ, ◌+◌, if◌then◌else◌, List, [], ◌∷◌, slice_index_or, Option, Some, None}
use Rattle.std.specs.Option.{option_to_list}
use Rattle.std.specs.List.{cons_option}
use Rattle.pcap.specs.Source.{Stream, ends_cut}
use Rattle.timeline.specs.declared.source.Tap.{Tap}
use Rattle.timeline.specs.declared.source.Tap.TheVariants.{Port, Underlay}
use Rattle.timeline.specs.declared.timeline.Cut.{Cut}
use Rattle.stream_run.specs.Begun.{no_turn}
use Rattle.stream_run.specs.declared.turn.Turn.{Turn}

-- the cut rest behind so many records of a source, where it ended with one
abbrev pub cut_behind : Tap → Stream → ℕ → Option Cut
cut_behind tap s done = if ends_cut s.standing then Some (record { tap = tap; whole = done }) else None

-- those of the ports, rising from this one, and then that of the underlay
abbrev pub cuts_from : ℕ → List Stream → Stream → List Turn → List Cut
cuts_from port [] underlay turns = option_to_list (cut_behind Underlay underlay (slice_index_or turns port no_turn).done)
cuts_from port (s ∷ ports) underlay turns =
    cons_option (cut_behind (Port port) s (slice_index_or turns port no_turn).done) (cuts_from (port + 1) ports underlay turns)

-- those of all captures of a run
abbrev pub cuts_at : List Stream → Stream → List Turn → List Cut
cuts_at ports underlay turns = cuts_from 1 ports underlay turns
