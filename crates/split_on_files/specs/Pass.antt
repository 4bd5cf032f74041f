-- A pass over a pcapng text, which tells all its interfaces at once.
use Rattle.std.specs.Prelude.{◌≡◌, ◌≤◌, ℕ, ◌+◌, ◌*◌, Bool, true, false, List, [], length, Option, None, Some, IfSome}
use Rattle.pcap.specs.Written.{written_header}
use Rattle.pcapng_input.specs.Adapted.{Told, told_behind, told_end, told_text}
use Rattle.pcapng_input.specs.Adapter.{Gathered}
use Rattle.pcapng_input.specs.Block.{AnotherBlock, Block, next_block}
use Rattle.pcapng_input.specs.Filled.{IsFilled, OfTexts, octets_left, text_left}
use Rattle.pcapng_input.specs.declared.filling.Filled.TheVariants as filled
use Rattle.pcapng_input.specs.Reading.{EndsCut, EndsFaulty, EndsWhole, TextEnd}
use Rattle.pcapng_input.specs.declared.fault.PcapngFault.{PcapngFault}
use Rattle.pcapng_input.specs.declared.interface.Selection.TheVariants.{Number}
use Rattle.split_on_files.specs.Lanes.{Section, beginning, lane_at, told_of}
use Rattle.split_on_files.specs.Steps.{Lanes, TellsDescribed, given_to, told_at_fault}
use Rattle.split_on_files.specs.declared.capture_split.lane.Lane.{Lane}
use Rattle.split_on_files.specs.declared.capture_split.step.Step.{Step}
use Rattle.split_on_files.specs.declared.capture_split.step.Step.TheVariants as step
use Rattle.split_on_files.specs.declared.capture_split.taken.Taken.{Taken}
use Rattle.split_on_files.specs.declared.capture_split.taken.Taken.TheVariants as taken

-- how a whole or a cut text ends
abbrev pub end_of : Bool → TextEnd
end_of true = EndsCut
end_of false = EndsWhole

-- what is told of an interface where the text ends: its own fault where it has one
abbrev pub told_at_end : Lane → Bool → Option PcapngFault → Told
told_at_end lane is_cut None = told_end lane.left_out (end_of is_cut)
told_at_end lane is_cut (Some own) = told_end lane.left_out (EndsFaulty own)

-- of the interface with this number is told what the step gives to it, and then what is told behind
abbrev pub TellsNext : Lanes → Lanes → List ℕ → ℕ → Option (List ℕ) → Option (List ℕ) → Step → Type 0
TellsNext old new record_text number text behind (step.Ended is_cut) =
    IfSome text (λ text. told_of old.section old.lanes number text
    ≡ told_at_end (lane_at old.lanes number) is_cut (lane_at old.lanes number).fault)
TellsNext old new record_text number text behind (step.Block (taken.Refused fault)) =
    IfSome text (λ text. told_of old.section old.lanes number text
    ≡ told_at_fault (lane_at old.lanes number) fault (lane_at old.lanes number).fault)
TellsNext old new record_text number text behind (step.Block t) =
    OfTexts (λ text rest. told_of old.section old.lanes number text
    ≡ told_behind (given_to number t record_text) (told_of new.section new.lanes number rest)) text behind

-- the same of each interface, by what an input has left
abbrev pub TellsEach : Lanes → Lanes → Gathered → Gathered → List ℕ → Step → Type 0
TellsEach old new before after record_text s = (number : ℕ) → TellsNext old new record_text number (text_left before) (text_left after) s

-- a text begins with a block that describes an interface so, or describes none
pub record BeginsDescribed (old new : Section) (text : List ℕ) (t : Taken) (name : List ℕ) : Type 0 where
  pub block : Block
  pub rest : List ℕ
  pub next : AnotherBlock block rest ≡ next_block old.order text
  pub described : TellsDescribed old new block t name

-- an interface that the next block describes is told as such, with its number in its section and its name, and no other block is
abbrev pub StepsDescribed : Section → Section → Option (List ℕ) → List ℕ → Step → Type 0
StepsDescribed old new text name (step.Block (taken.Described number)) =
    IfSome text (λ text. BeginsDescribed old new text (taken.Described number) name)
StepsDescribed old new text name s = length new.interfaces ≤ length old.interfaces

-- the same where what comes next stands in what is held. It serves proofs.
abbrev pub TellsHeld : Lanes → Lanes → Gathered → Gathered → List ℕ → Step → Type 0
TellsHeld old new held after record_text s =
    (before : Gathered) → IsFilled old.section.order before held filled.Next → TellsEach old new before after record_text s

abbrev pub DescribesHeld : Section → Section → Gathered → List ℕ → Step → Type 0
DescribesHeld old new held name s =
    (before : Gathered) → IsFilled old.order before held filled.Next → StepsDescribed old new (text_left before) name s

-- numbers of blocks and places fit 64 bits whatever is still read: of reads of so many octets no more than 2^45 are made
pub record IsPlaced (l : Lanes) (g : Gathered) : Type 0 where
  pub blocks : l.section.blocks ≤ l.section.offset
  pub offset : l.section.offset + octets_left g ≤ 35184372088832 * 327680

-- a law: in front of a text is told of each interface what is read where it's asked for, behind the capture's header
abbrev pub TellsAsAsked : Type 0
TellsAsAsked = (number : ℕ) (text : List ℕ)
    → told_text (Number number) text ≡ told_behind written_header (told_of beginning [] number text)
