-- A source of records, and what its calls make of it. It states no standard.
use Rattle.std.specs.Prelude.{◌≡◌, ◌<◌, ◌≤◌, ◌+◌, ℕ, max, Bool, true, false, List, [], length}
use Rattle.std.specs.Prelude.{drop, Option, Some, None, Result, Ok, Err, IfSome, option_map, ⊤}
use Rattle.pcap.specs.Header.{style_of}
use Rattle.pcap.specs.Next.{End, Whole, Cut, Faulty, Next, Another, Ends, next_of}
use Rattle.pcap.specs.Record.{Record}
use Rattle.pcap.specs.declared.text.header.CaptureFault.{CaptureFault}
use Rattle.pcap.specs.declared.text.style.Style.{Style}
use Rattle.pcap.specs.Fault.{capture_fault, record_fault}
use Rattle.pcap.specs.Supply.{GivesUp, StopsShort, Supply, most_of}
use Rattle.pcap.specs.declared.stream.fault.SourceFault.{SourceFault}
use Rattle.pcap.specs.declared.stream.fault.SourceFault.TheVariants as fault

-- where a source stands: new; open, with the record that was fetched last, if any; at the end, with a rest before it that
-- is no whole record or without; failed
pub data Standing : Type 0 where
  New : Standing
  Open : (style : Style) (last : Option Record) → Standing
  Ended : (is_cut : Bool) → Standing
  Failed : (fault : SourceFault) → Standing

-- a source: where it stands, its input with what was read ahead in front of what it has left, and the octets that were
-- read ahead
pub record Stream : Type 0 where
  pub standing : Standing
  pub supply : Supply
  pub ahead : List ℕ

-- the input alone, without what was read ahead
abbrev pub below : Stream → Supply
below s = record s.supply { rest = option_map (drop (length s.ahead)) s.supply.rest }

-- how many octets may still come
abbrev pub most_left : Stream → ℕ
most_left s = most_of s.ahead s.supply.reads

-- the record that is lent
abbrev pub lent : Standing → Option Record
lent New = None
lent (Open style last) = last
lent (Ended is_cut) = None
lent (Failed fault) = None

-- what a record takes of its capture: 16 octets and its own
abbrev pub taken_by : Record → ℕ
taken_by r = 16 + length r.octets

-- for a record that is lent no more reads were made than it lacked octets of those that were read ahead
abbrev pub ReadsWhatLacks : List ℕ → Supply → Supply → Standing → Type 0
ReadsWhatLacks ahead old new standing =
    IfSome (lent standing) (λ r. old.reads + length ahead ≤ new.reads + max (taken_by r) (length ahead))

-- how the capture writes its numbers, while it is open
abbrev pub style_at : Standing → Option Style
style_at New = None
style_at (Open style last) = Some style
style_at (Ended is_cut) = None
style_at (Failed fault) = None

-- whether the end came with a rest before it that is no whole record
abbrev pub ends_cut : Standing → Bool
ends_cut New = false
ends_cut (Open style last) = false
ends_cut (Ended is_cut) = is_cut
ends_cut (Failed fault) = false

-- what `open` and `fill` answer
abbrev pub answer : Standing → Result (Unit {0}) SourceFault
answer New = Ok tt
answer (Open style last) = Ok tt
answer (Ended is_cut) = Ok tt
answer (Failed fault) = Err fault

-- where a source stands by the global header, and by what comes next
abbrev pub after_header : Result Style CaptureFault → Standing
after_header (Ok style) = Open style None
after_header (Err fault) = Failed (capture_fault fault)

-- how a source stands behind the last record
abbrev pub after_end : End → Standing
after_end Whole = Ended false
after_end Cut = Ended true
after_end (Faulty fault) = Failed (record_fault fault)

-- and behind what comes next
abbrev pub after_next : Style → Next → Standing
after_next style (Another r rest) = Open style (Some r)
after_next style (Ends end) = after_end end

-- the octets behind it: a record's fault shows in its first 16
abbrev pub left_by_end : List ℕ → End → List ℕ
left_by_end text Whole = []
left_by_end text Cut = []
left_by_end text (Faulty fault) = drop 16 text

-- the octets that what comes next leaves
abbrev pub left_by_next : List ℕ → Next → List ℕ
left_by_next text (Another r rest) = rest
left_by_next text (Ends end) = left_by_end text end

-- some header was read; where the input tells its octets, it is theirs
pub record ReadsHeader (old new : Supply) (standing : Standing) : Type 0 where
  pub header : Result Style CaptureFault
  pub standing_is : standing ≡ after_header header
  pub octets : IfSome old.rest (λ text. (header ≡ style_of text) × (new.rest ≡ Some (drop 24 text)))
  pub quiet : new.failures ≡ old.failures

-- something came next; where the input tells its octets, it is what comes next in them
pub record ReadsNext (style : Style) (old new : Supply) (standing : Standing) : Type 0 where
  pub next : Next
  pub standing_is : standing ≡ after_next style next
  pub octets : IfSome old.rest (λ text. (next ≡ next_of style text) × (new.rest ≡ Some (left_by_next text next)))
  pub quiet : new.failures ≡ old.failures

-- octets in front of which no whole header stands
abbrev pub IsShortHeader : List ℕ → Type 0
IsShortHeader taken = length taken < 24

-- octets that would be a cut rest, or none: no whole record, and no fault
abbrev pub IsUnfinished : Next → Type 0
IsUnfinished (Another r rest) = ⊥
IsUnfinished (Ends Whole) = ⊤
IsUnfinished (Ends Cut) = ⊤
IsUnfinished (Ends (Faulty fault)) = ⊥

-- octets that don't settle what comes next
abbrev pub IsShortRecord : Style → List ℕ → Type 0
IsShortRecord style taken = IsUnfinished (next_of style taken)

module _ {T : Type 0} where
  -- one fact for the fault `Read`, and one for all other answers
  abbrev pub MatchRead : Result T SourceFault → Type 0 → Type 0 → Type 0
  MatchRead (Err fault.Read) P Q = P
  MatchRead (Err fault.NotPcap) P Q = Q
  MatchRead (Err fault.BadLink) P Q = Q
  MatchRead (Err fault.TooLarge) P Q = Q
  MatchRead (Err fault.BadFraction) P Q = Q
  MatchRead (Ok x) P Q = Q

  -- `open`
  abbrev pub IsOpened : Stream → Stream → Result T SourceFault → Type 0
  IsOpened old new result = MatchRead result (GivesUp old.supply new.supply) (ReadsHeader old.supply new.supply new.standing)

  -- `fill`: at the end, and after a fault, nothing changes
  abbrev pub IsFilledFrom : Standing → Stream → Stream → Result T SourceFault → Type 0
  IsFilledFrom New old new result = new ≡ old
  IsFilledFrom (Open style last) old new result =
      MatchRead result (GivesUp old.supply new.supply) (ReadsNext style old.supply new.supply new.standing)
  IsFilledFrom (Ended is_cut) old new result = new ≡ old
  IsFilledFrom (Failed fault) old new result = new ≡ old

  abbrev pub IsFilled : Stream → Stream → Result T SourceFault → Type 0
  IsFilled old new result = IsFilledFrom old.standing old new result

  -- `Read` comes only where a read failed, or where the octets of all reads that were left don't settle what comes next
  abbrev pub OpensToTheBound : Stream → Stream → Result T SourceFault → Type 0
  OpensToTheBound old new result = MatchRead result (StopsShort IsShortHeader (length old.ahead) old.supply new.supply) ⊤

  -- the same of `fill`, by where the source stood
  abbrev pub FillsToTheBoundFrom : Standing → Stream → Stream → Result T SourceFault → Type 0
  FillsToTheBoundFrom New old new result = ⊤
  FillsToTheBoundFrom (Open style last) old new result = MatchRead result
      (StopsShort (IsShortRecord style) (length old.ahead) old.supply new.supply) ⊤
  FillsToTheBoundFrom (Ended is_cut) old new result = ⊤
  FillsToTheBoundFrom (Failed fault) old new result = ⊤

  abbrev pub FillsToTheBound : Stream → Stream → Result T SourceFault → Type 0
  FillsToTheBound old new result = FillsToTheBoundFrom old.standing old new result

-- ---- read ahead

-- another record comes, without a fault
abbrev pub is_another : Next → Bool
is_another (Another r rest) = true
is_another (Ends end) = false

-- whether octets hold what an open source lends next
abbrev pub holds_from : Standing → List ℕ → Bool
holds_from New octets = false
holds_from (Open style last) octets = is_another (next_of style octets)
holds_from (Ended is_cut) octets = false
holds_from (Failed fault) octets = false

-- whether those that were read ahead do, so that the next record takes no read
abbrev pub holds_next : Stream → Bool
holds_next s = holds_from s.standing s.ahead
