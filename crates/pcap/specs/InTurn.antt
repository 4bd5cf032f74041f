-- Whole runs: all records of a capture in turn, and all texts that were put. It states no standard.
use Rattle.std.specs.Prelude.{◌≡◌, ◌≢◌, ℕ, false, List, [], ◌∷◌, ◌++◌, MatchBool, Option, Some, None, Result, Ok, Err}
use Rattle.std.specs.Io.KnownBytes.{Appends}
use Rattle.std.specs.List.{concat}
use Rattle.pcap.specs.Capture.{opened}
use Rattle.pcap.specs.Next.{End}
use Rattle.pcap.specs.Reading.{Reading, records}
use Rattle.pcap.specs.Record.{Record}
use Rattle.pcap.specs.declared.text.style.Style.{Style}
use Rattle.pcap.specs.Sink.{AppendsPart, Drain, IsPut}
use Rattle.pcap.specs.Source.{Stream, IsFilled, IsOpened, Open, after_end, answer, lent}
use Rattle.pcap.specs.Supply.{Spends, Supply}
use Rattle.pcap.specs.declared.stream.fault.SourceFault.{SourceFault}
use Rattle.pcap.specs.declared.stream.fault.SourceFault.TheVariants as fault
use Rattle.pcap.specs.declared.stream.fault.WriteFault.{WriteFault}

-- ---- a source

-- calls of `fill` that each lent one of these records
abbrev pub LendsInTurn : Stream → List Record → Stream → Type 0
LendsInTurn old [] new = old ≡ new
LendsInTurn old (r ∷ rs) new =
    (next : Stream) × IsFilled {T = Unit {0}} old next (Ok tt) × (lent next.standing ≡ Some r) × LendsInTurn next rs new

-- a call of `open` that answered Ok, and calls of `fill` that each lent one of these records
pub record IsReadTo (old : Stream) (rs : List Record) (new : Stream) : Type 0 where
  pub begun : Stream
  pub opened : IsOpened {T = Unit {0}} old begun (Ok tt)
  pub is_open : answer begun.standing ≡ Ok tt
  pub lends : LendsInTurn begun rs new

-- some records in front of a reading
abbrev pub with_records : List Record → Reading → Reading
with_records rs reading = record { records = rs ++ reading.records; end = reading.end }

-- what is read then: these are the first records of the input's octets, and what the input has left holds the others
pub record IsReading (text : List ℕ) (rs : List Record) (new : Stream) : Type 0 where
  pub style : Style
  pub last : Option Record
  pub stands : new.standing ≡ Open style last
  pub rest : List ℕ
  pub left : new.supply.rest ≡ Some rest
  pub records : opened text ≡ Ok (with_records rs (records style rest))

-- a law: the records that are lent one after another are those of the input's octets
abbrev pub LendsWhatIsThere : Type 0
LendsWhatIsThere = (old new : Stream) (rs : List Record) (text : List ℕ)
    → old.supply.rest ≡ Some text → IsReadTo old rs new → IsReading text rs new

-- one more call of `fill`, which lent none and answered no `Read`
pub record IsReadOut (old new : Stream) (result : Result (Unit {0}) SourceFault) : Type 0 where
  pub filled : IsFilled old new result
  pub answered : result ≡ answer new.standing
  pub lends_none : lent new.standing ≡ None
  pub no_failure : result ≢ Err fault.Read

-- these are all records of the input's octets, and they end as the source stands
pub record IsWhole (text : List ℕ) (rs : List Record) (new : Stream) : Type 0 where
  pub end : End
  pub records : opened text ≡ Ok (record { records = rs; end = end })
  pub stands : new.standing ≡ after_end end

-- a law: where no more is lent, all were, and the fault or the cut rest is the one that the octets end with
abbrev pub LendsAllThatIsThere : Type 0
LendsAllThatIsThere =
    (old mid new : Stream) (rs : List Record) (text : List ℕ) (result : Result (Unit {0}) SourceFault)
    → old.supply.rest ≡ Some text → IsReadTo old rs mid → IsReadOut mid new result → IsWhole text rs new

-- a law: the reads of calls that were made one after another count together, so that over its life a source makes no more
-- of them than it was given
abbrev pub SpendsTogether : Type 0
SpendsTogether = (old mid new : Supply) → Spends old mid → Spends mid new → Spends old new

-- ---- a sink

-- calls of a sink that each put one of these texts, whatever they answered
abbrev pub PutsInTurn : Drain → List (List ℕ) → Drain → Type 0
PutsInTurn old [] new = old ≡ new
PutsInTurn old (text ∷ texts) new =
    (next : Drain) × (result : Result (Unit {0}) WriteFault) × IsPut old next text result × PutsInTurn next texts new

-- a law: what was written is these texts side by side, and after a fault a part of them
abbrev pub WritesWhatWasPut : Type 0
WritesWhatWasPut = (old new : Drain) (texts : List (List ℕ)) → old.is_failed ≡ false → PutsInTurn old texts new
    → MatchBool new.is_failed (AppendsPart old.written new.written (concat texts)) (Appends old.written new.written (concat texts))
