-- What the first fetches tell of the octets of a run's captures.
use Rattle.std.proofs.Common.{◌≡◌, ◌≢◌, ◌∙◌, refl, sym, subst, ℕ, ◌+◌, ◌<◌, ◌≤◌, inl, inr, List, [], length, slice_index_or, slice_set, arith, Ok, Err}
use Rattle.std.proofs.lemmas.List.{length-set}
use Rattle.pcap.specs.InTurn.{IsReading}
use Rattle.pcap.specs.Source.{Stream}
use Rattle.overlay.specs.declared.settings.change.TimedChange.{TimedChange}
use Rattle.timeline.specs.declared.source.Tap.{Tap}
use Rattle.timeline.specs.declared.source.Tap.TheVariants.{Port, Underlay}
use Rattle.capture_run.specs.declared.fault.RunFault.TheVariants as faults
use Rattle.stream_run.specs.Fetched.{IsFetched}
use Rattle.stream_run.specs.Over.{BeginsIn}
use Rattle.stream_run.specs.Read.{IsRead}
use Rattle.stream_run.specs.Steps.{AreRead, FetchesAt, IsAt, octets_at, source_at}
use Rattle.stream_run.specs.declared.fault.StreamFault.{StreamFault}
use Rattle.stream_run.specs.declared.fault.StreamFault.TheVariants as stream
use Rattle.stream_run.specs.declared.turn.Turn.{Turn}
use Rattle.stream_run.proofs.Reading.{one_place}
use Rattle.stream_run.proofs.Readying.{changed_here, ports_as_many, set_each, unchanged}

-- of the sources in front of this index the first record was fetched, and the others were opened
pub record AreReadBelow (from : ℕ) (texts : List (List ℕ)) (text : List ℕ) (turns : List Turn) (ports : List Stream) (underlay : Stream) : Type 0 where
  pub many : length texts ≡ length ports
  pub read : (place : Tap) (index : ℕ) (t : Turn) → IsAt (length ports) index place → index < from → IsRead (octets_at texts text place) (slice_index_or turns index t) (source_at ports underlay place)
  pub opened : (place : Tap) (index : ℕ) → IsAt (length ports) index place → from ≤ index → IsReading (octets_at texts text place) [] (source_at ports underlay place)

place_first : (n index : ℕ) (place : Tap) → IsAt n index place → 1 ≤ index
place_first n index (Port p) at = omega (arith, at.0, at.1)
place_first n index Underlay at = omega (arith, at)

place_last : (n index : ℕ) (place : Tap) → IsAt n index place → index < n + 2
place_last n index (Port p) at = omega (arith, at.0, at.2)
place_last n index Underlay at = omega (arith, at)

pub none_read : (texts : List (List ℕ)) (text : List ℕ) (turns : List Turn) (ports : List Stream) (underlay : Stream) → length texts ≡ length ports
    → ((place : Tap) (index : ℕ) → IsAt (length ports) index place → IsReading (octets_at texts text place) [] (source_at ports underlay place)) → AreReadBelow 1 texts text turns ports underlay
none_read texts text turns ports underlay many opened = record {
  many = many;
  read = λ place index t at lt. let first = place_first (length ports) index place at in absurd (omega (arith, first, lt));
  opened = λ place index at le. opened place index at;
}

pub all_read : (texts : List (List ℕ)) (text : List ℕ) (turns : List Turn) (ports : List Stream) (underlay : Stream) → AreReadBelow (length ports + 2) texts text turns ports underlay → AreRead texts text turns ports underlay
all_read texts text turns ports underlay below = record { many = below.many; each = λ place index t at. below.read place index t at (place_last (length ports) index place at) }

pub read_below : (changes : List TimedChange) (texts : List (List ℕ)) (text : List ℕ) (index : ℕ) (ports new : List Stream) (underlay new_underlay : Stream) (turns : List Turn) (turn : Turn)
    → AreReadBelow index texts text turns ports underlay → 0 < index → index < length turns → FetchesAt changes index 0 0 ports underlay new new_underlay (Ok turn)
    → AreReadBelow (index + 1) texts text (slice_set turns index turn) new new_underlay
read_below changes texts text index ports new underlay new_underlay turns turn below first there (inl h) = absurd (omega (arith, h.0, first))
read_below changes texts text index ports new underlay new_underlay turns turn below first there (inr (place, s, at, changed, fetch)) =
    let many : length new ≡ length ports = ports_as_many place ports new underlay new_underlay s changed in
    record { many = below.many ∙ sym many; read = λ other k t is_at lt. reads many other k t is_at lt; opened = λ other k is_at le. opens many other k is_at le }
  where
    reads : length new ≡ length ports → (other : Tap) (k : ℕ) (t : Turn) → IsAt (length new) k other → k < index + 1 → IsRead (octets_at texts text other) (slice_index_or (slice_set turns index turn) k t) (source_at new new_underlay other)
    reads many other k t is_at lt =
        set_each (λ k (x : Turn). IsAt (length new) k other → k < index + 1 → IsRead (octets_at texts text other) x (source_at new new_underlay other)) turns index turn there
        (λ d j within apart at_j below_it.
        let also = subst (λ n. IsAt n j other) many at_j in
        rw (unchanged (length ports) index j place other ports new underlay new_underlay s refl at also apart changed) (below.read other j d also (less j apart below_it)))
        (λ at_j below_it.
        let also = subst (λ n. IsAt n index other) many at_j in
        let same : place ≡ other = one_place (length ports) index place other at also in
        rw (changed_here (length ports) index place other ports new underlay new_underlay s refl at also changed) (subst (λ p. IsRead (octets_at texts text p) turn s) same here))
        t k (omega (arith, lt, there, length-set turns index turn)) is_at lt
      where
        less : (j : ℕ) → j ≢ index → j < index + 1 → j < index
        less j apart lt = omega (arith, apart, lt)

        here : IsRead (octets_at texts text place) turn s
        here = record { done = []; count = fetch.count; stands = fetch.told (octets_at texts text place) [] (below.opened place index at (omega arith)) refl refl }

    opens : length new ≡ length ports → (other : Tap) (k : ℕ) → IsAt (length new) k other → index + 1 ≤ k → IsReading (octets_at texts text other) [] (source_at new new_underlay other)
    opens many other k is_at le =
        let also = subst (λ n. IsAt n k other) many is_at in
        rw (unchanged (length ports) index k place other ports new underlay new_underlay s refl at also (λ e. omega (arith, e, le)) changed) (below.opened other k also (omega (arith, le)))

pub fault_below : (changes : List TimedChange) (texts : List (List ℕ)) (text : List ℕ) (index : ℕ) (ports new : List Stream) (underlay new_underlay : Stream) (turns new_turns : List Turn) (fault : StreamFault)
    → AreReadBelow index texts text turns ports underlay → FetchesAt changes index 0 0 ports underlay new new_underlay (Err fault) → BeginsIn {T = Unit {0}} texts text new_turns new new_underlay (Err fault)
fault_below changes texts text index ports new underlay new_underlay turns new_turns fault below (inl h) = let never = h.3 in absurd cc
fault_below changes texts text index ports new underlay new_underlay turns new_turns fault below (inr (place, s, at, changed, fetch)) =
    by fault (fetch.told (octets_at texts text place) [] (below.opened place index at (omega arith)) refl refl)
  where
    by : (fault : StreamFault) → IsFetched (octets_at texts text place) [] place s (Err fault) → BeginsIn {T = Unit {0}} texts text new_turns new new_underlay (Err fault)
    by (stream.Run (faults.Record p n f)) (same, faulty, is) = rw same (record { index = index; at = subst (λ m. IsAt m index place) (sym below.many) at; faulty = faulty }, is)
    by (stream.Run (faults.Settings f)) h = absurd h
    by (stream.Run (faults.Changes f)) h = absurd h
    by (stream.Run faults.PortCount) h = absurd h
    by (stream.Run (faults.Capture p f)) h = absurd h
    by (stream.Run faults.OutOfMemory) h = absurd h
    by (stream.Read p) h = tt
    by (stream.Write target) h = absurd h
