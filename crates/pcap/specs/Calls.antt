-- What `next` and `is_cut` answer, by what is left of a capture. It states no standard.
use Rattle.std.specs.Prelude.{◌≡◌, Bool, true, false, List, [], ◌∷◌, ◌++◌, map, Option, Some, None, Result, Ok, Err, IfOk, IfSome}
use Rattle.std.specs.Iterator.{YieldsFirst, YieldsThen}
use Rattle.pcap.specs.Next.{End, Whole, Cut, Faulty}
use Rattle.pcap.specs.Reading.{Reading, whole}
use Rattle.pcap.specs.Record.{IsWithinLimits, Record}
use Rattle.pcap.specs.declared.text.record.RecordFault.{RecordFault}

-- `next` answers the first record, or the fault that the records end with
abbrev pub next_by : List Record → End → Option (Result Record RecordFault)
next_by (r ∷ rs) end = Some (Ok r)
next_by [] Whole = None
next_by [] Cut = None
next_by [] (Faulty fault) = Some (Err fault)

-- the answer of a call of `next`
abbrev pub next_answer : Reading → Option (Result Record RecordFault)
next_answer reading = next_by reading.records reading.end

-- and leaves the other records, or nothing behind a fault
abbrev pub left_by : List Record → End → Reading
left_by (r ∷ rs) end = record { records = rs; end = end }
left_by [] Whole = whole []
left_by [] Cut = record { records = []; end = Cut }
left_by [] (Faulty fault) = whole []

-- what it leaves
abbrev pub left_after : Reading → Reading
left_after reading = left_by reading.records reading.end

-- all that is handed out, in turn: the records, and the fault that they end with
abbrev pub faults_of : End → List (Result Record RecordFault)
faults_of Whole = []
faults_of Cut = []
faults_of (Faulty fault) = Err fault ∷ []

-- all answers in turn
abbrev pub answers : Reading → List (Result Record RecordFault)
answers reading = map (λ r. Ok r) reading.records ++ faults_of reading.end

-- a call of `next`
pub record IsNext (old : Reading) (answer : Option (Result Record RecordFault)) (new : Reading) : Type 0 where
  pub gives : answer ≡ next_answer old
  pub leaves : new ≡ left_after old
  pub in_turn : YieldsFirst answers old answer new
  pub limits : IfSome answer (λ found. IfOk found IsWithinLimits)

-- behind the last record stands a rest that is no whole one
abbrev pub ends_cut : End → Bool
ends_cut Whole = false
ends_cut Cut = true
ends_cut (Faulty fault) = false

-- `is_cut` says so where no record is left
abbrev pub is_cut_by : List Record → End → Bool
is_cut_by [] end = ends_cut end
is_cut_by (r ∷ rs) end = false

-- what is left is nothing but a cut rest
abbrev pub is_cut : Reading → Bool
is_cut reading = is_cut_by reading.records reading.end

-- a law: whoever calls `next` until it answers None has taken all in turn, `is_cut` says then how the records ended, and
-- nothing comes any more
pub record HasTaken (old : Reading) (taken : List (Result Record RecordFault)) (now : Reading) : Type 0 where
  pub all : taken ≡ answers old
  pub end : is_cut now ≡ ends_cut old.end
  pub nothing_left : answers now ≡ []

-- calls until None hand out all in turn
abbrev pub TakesAllInTurn : Type 0
TakesAllInTurn = (old now : Reading) (taken : List (Result Record RecordFault))
    → YieldsThen IsNext old taken None now → HasTaken old taken now
