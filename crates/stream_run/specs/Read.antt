-- How far the captures of a run are read. It states no standard.
--     StandsBehind      so many records of a source were events, and the next one is lent
--     IsRead      the same, as a turn counts them
--     ReadsWith      no read failed, or just one, where a source gave up
use Rattle.std.specs.Prelude.{◌≡◌, ◌≢◌, ◌<◌, ◌≤◌, ℕ, ◌+◌, ◌-◌, max, List, [], ◌∷◌, ◌++◌}
use Rattle.std.specs.Prelude.{length, map, slice_index_or, Option, Some, None, Result, Ok, Err}
use Rattle.pcap.specs.Capture.{opened}
use Rattle.pcap.specs.Next.{End, Faulty}
use Rattle.pcap.specs.Record.{Record}
use Rattle.pcap.specs.declared.text.record.RecordFault.{RecordFault}
use Rattle.pcap.specs.InTurn.{IsReading}
use Rattle.pcap.specs.Source.{Stream, after_end, lent}
use Rattle.pcap.specs.Supply.{GivesUp}
use Rattle.timeline.specs.Events.{greatest}
use Rattle.timeline.specs.declared.source.Tap.{Tap}
use Rattle.timeline.specs.declared.source.Tap.TheVariants as taps
use Rattle.stream_run.specs.declared.fault.StreamFault.{StreamFault}
use Rattle.stream_run.specs.declared.fault.StreamFault.TheVariants as stream
use Rattle.stream_run.specs.declared.turn.Turn.{Turn}

-- behind n - 1 whole records of a capture stands one with this fault
pub record IsFaulty (octets : List ℕ) (n : ℕ) (fault : RecordFault) : Type 0 where
  pub whole : List Record
  pub reading : opened octets ≡ Ok (record { records = whole; end = Faulty fault })
  pub number : n ≡ length whole + 1

-- ---- one source

-- its next record is lent, or all were and it ended without a fault
pub record Lends (octets : List ℕ) (done : List Record) (r : Record) (s : Stream) : Type 0 where
  pub reading : IsReading octets (done ++ r ∷ []) s
  pub lends : lent s.standing ≡ Some r

-- all records of a capture were lent
pub record IsDone (octets : List ℕ) (done : List Record) (s : Stream) : Type 0 where
  pub end : End
  pub reading : opened octets ≡ Ok (record { records = done; end = end })
  pub stands : s.standing ≡ after_end end
  pub no_fault : (fault : RecordFault) → end ≢ Faulty fault

-- a source stands behind some records: it lends the next, or there is none
abbrev pub StandsBehind : List ℕ → List Record → Option ℕ → Stream → Type 0
StandsBehind octets done (Some moment) s = (r : Record) × (moment ≡ max r.moment (greatest done)) × Lends octets done r s
StandsBehind octets done None s = IsDone octets done s

-- so many of its records came, and the turn tells the moment of the next one
pub record IsRead (octets : List ℕ) (t : Turn) (s : Stream) : Type 0 where
  pub done : List Record
  pub count : t.done ≡ length done
  pub stands : StandsBehind octets done t.next s

-- ---- the cause of a fault

-- how often its reads failed
abbrev pub failures_of : Stream → ℕ
failures_of s = s.supply.failures

-- no read failed, or just one, where the source gave up
pub record AreQuiet (old : List Stream) (old_underlay : Stream) (new : List Stream) (new_underlay : Stream) : Type 0 where
  pub ports : map failures_of new ≡ map failures_of old
  pub underlay : failures_of new_underlay ≡ failures_of old_underlay

-- the source of a capture has given up
abbrev pub GivesUpAt : Tap → List Stream → Stream → List Stream → Stream → Type 0
GivesUpAt (taps.Port port) old old_underlay new new_underlay =
    (d : Stream) → (0 < port) × (port ≤ length old)
    × GivesUp (slice_index_or old (port - 1) d).supply (slice_index_or new (port - 1) d).supply
GivesUpAt taps.Underlay old old_underlay new new_underlay = GivesUp old_underlay.supply new_underlay.supply

module _ {T : Type 0} where
  abbrev pub ReadsWith : List Stream → Stream → List Stream → Stream → Result T StreamFault → Type 0
  ReadsWith old old_underlay new new_underlay (Err (stream.Read place)) = GivesUpAt place old old_underlay new new_underlay
  ReadsWith old old_underlay new new_underlay result = AreQuiet old old_underlay new new_underlay
