-- What the state of an adapted input means, and what it keeps to. It serves proofs.
use Rattle.std.specs.Prelude.{◌≡◌, ◌<◌, ◌≤◌, ℕ, ◌+◌, ◌-◌, ◌*◌, nat_lt, if◌then◌else◌, Bool}
use Rattle.std.specs.Prelude.{false, List, [], ◌++◌, length, drop, Option, Some, None, ⊤}
use Rattle.pcap.specs.Style.{number_of}
use Rattle.pcap.specs.declared.text.style.Order.{Order}
use Rattle.pcapng_input.specs.Adapted.{Begun, Faulty, Over, Passing, Plain, Stand, Told, Within}
use Rattle.pcapng_input.specs.Adapted.{is_of_one, packets_closing, told_behind, told_reading}
use Rattle.pcapng_input.specs.Adapter.{Gathered, KeepsTold, told}
use Rattle.pcapng_input.specs.Block.{longest_block, order_at}
use Rattle.pcapng_input.specs.Reading.{Context, packets_in, start}
use Rattle.pcapng_input.specs.declared.interface.Selection.{Selection}
use Rattle.pcapng_input.specs.declared.settle.Settled.{Settled}
use Rattle.pcapng_input.specs.declared.settle.Settled.TheVariants as settled
use Rattle.pcapng_input.specs.declared.state.State.{State}
use Rattle.pcapng_input.specs.declared.state.State.TheVariants as state

-- where an input stands by its state
abbrev pub stand_of : State → Context → Stand
stand_of state.Begun context = Begun
stand_of state.Plain context = Plain
stand_of state.Within context = Within context
stand_of (state.Passing order size left) context = Passing context order size left
stand_of state.NoMemory context = Within context
stand_of state.Over context = Over context.left_out
stand_of (state.Faulty fault) context = Faulty context.left_out fault

-- how many octets of a block are wanted: its first 12, and then all, by the length that these tell
abbrev pub size_wanted : ℕ → ℕ
size_wanted size = if nat_lt size 12 then 12 else size

-- the same by the byte order
abbrev pub wanted_by : Option Order → List ℕ → ℕ
wanted_by None held = 12
wanted_by (Some order) held = size_wanted (number_of order 4 (drop 4 held))

-- the same by the octets that were read of it
unfoldable pub wanted_size : Option Order → List ℕ → ℕ
wanted_size section held = if nat_lt (length held) 12 then 12 else wanted_by (order_at section held) held

-- how many octets can be read at most
abbrev pub most_octets : ℕ
most_octets = 35184372088832 * 327680

-- a place is so far in front that its numbers fit 64 bits whatever is still read
pub record IsPlaced (context : Context) (passed : ℕ) (below : Gathered) : Type 0 where
  pub blocks : context.blocks ≤ context.offset
  pub offset : context.offset + passed + length below.held + below.supply.reads * 327680 ≤ most_octets

-- what is held of a block is a part of it that has room
pub record IsPart (section : Option Order) (held : List ℕ) : Type 0 where
  pub part : length held < wanted_size section held
  pub room : wanted_size section held ≤ longest_block

-- only the last length of a block that is passed over is held
pub record IsPassed (context : Context) (size left : ℕ) (below : Gathered) : Type 0 where
  pub fits : left + 4 ≤ size
  pub part : length below.held < 4
  pub none : 0 < left → below.held ≡ []
  pub placed : IsPlaced context (size - (left + 4)) below

-- a state is sound
abbrev pub IsSound : State → Context → Gathered → Type 0
IsSound state.Begun context below = (length below.held < 4) × (context ≡ start) × IsPlaced context 0 below
IsSound state.Plain context below = below.held ≡ []
IsSound state.Within context below = IsPlaced context 0 below
IsSound (state.Passing order size left) context below = IsPassed context size left below
IsSound state.NoMemory context below = ⊤
IsSound state.Over context below = ⊤
IsSound (state.Faulty fault) context below = ⊤

-- the packets of what is held and the rest are told like this
abbrev pub TellsBlock : Selection → Context → List ℕ → Told → List ℕ → Type 0
TellsBlock selection context held told rest = told_reading (packets_in selection context (held ++ rest)) ≡ told

-- the rest is empty, unless there was more to read
abbrev pub IsRest : Bool → List ℕ → Type 0
IsRest is_more rest = is_more ≡ false → rest ≡ []

-- what is made of the octets held of a block
abbrev pub IsSettled : Selection → Context → Context → List ℕ → List ℕ → Bool → Settled → Type 0
IsSettled selection old new held ready is_more settled.Unfinished = (ready ≡ []) × (new ≡ old) × IsPart old.order held
IsSettled selection old new held ready is_more (settled.Long order size) =
    (ready ≡ []) × (new ≡ old) × (length held + 4 ≤ size) × (12 ≤ length held) × (length held < wanted_size old.order held)
    × ((rest : List ℕ)
    → TellsBlock selection old held (told_reading (packets_closing selection old order size (drop (size - 4) (held ++ rest)))) rest)
IsSettled selection old new held ready is_more settled.Taken =
    (new.blocks ≡ old.blocks + 1) × (old.offset + 12 ≤ new.offset) × (new.offset ≤ old.offset + length held)
    × ((rest : List ℕ) → TellsBlock selection old held (told_behind ready (told_reading (packets_in selection new rest))) rest)
IsSettled selection old new held ready is_more settled.Ended =
    (new ≡ old) × ((rest : List ℕ) → IsRest is_more rest
    → TellsBlock selection old held (record { octets = ready; fault = None; left_out = old.left_out }) rest)
IsSettled selection old new held ready is_more (settled.Refused fault) =
    (ready ≡ []) × (new ≡ old) × ((rest : List ℕ) → IsRest is_more rest
    → TellsBlock selection old held (record { octets = []; fault = Some fault; left_out = old.left_out }) rest)
IsSettled selection old new held ready is_more settled.NoMemory = (ready ≡ []) × (new ≡ old)

-- a block that is passed over has its second length behind so many octets
abbrev pub IsLongIn : ℕ → Settled → Type 0
IsLongIn octets settled.Unfinished = ⊤
IsLongIn octets (settled.Long order size) = 4 + octets ≤ size
IsLongIn octets settled.Taken = ⊤
IsLongIn octets settled.Ended = ⊤
IsLongIn octets (settled.Refused fault) = ⊤
IsLongIn octets settled.NoMemory = ⊤

-- where an input stands behind what was made of so many octets in front of what is held
abbrev pub state_settled : ℕ → Settled → State
state_settled octets settled.Unfinished = state.Within
state_settled octets (settled.Long order size) = state.Passing order size (size - (4 + octets))
state_settled octets settled.Taken = state.Within
state_settled octets settled.Ended = state.Over
state_settled octets (settled.Refused fault) = state.Faulty fault
state_settled octets settled.NoMemory = state.NoMemory

-- what is held then
abbrev pub held_settled : List ℕ → ℕ → Settled → List ℕ
held_settled held octets settled.Unfinished = held
held_settled held octets (settled.Long order size) = []
held_settled held octets settled.Taken = drop octets held
held_settled held octets settled.Ended = held
held_settled held octets (settled.Refused fault) = held
held_settled held octets settled.NoMemory = held

-- how many steps may still be made, of reads below and of octets that are held
abbrev pub steps_within : Gathered → ℕ
steps_within below = below.supply.reads * 327681 + length below.held + 1

-- the same where an input stands: none at the end and at a fault
abbrev pub steps_at : Stand → Gathered → ℕ
steps_at Begun below = steps_within below
steps_at Plain below = steps_within below
steps_at (Within context) below = steps_within below
steps_at (Passing context order size left) below = steps_within below
steps_at (Over left_out) below = 0
steps_at (Faulty left_out fault) below = 0

-- and by its state: none where memory was refused
abbrev pub steps_of : State → Gathered → ℕ
steps_of state.Begun below = steps_within below
steps_of state.Plain below = steps_within below
steps_of state.Within below = steps_within below
steps_of (state.Passing order size left) below = steps_within below
steps_of state.NoMemory below = 0
steps_of state.Over below = 0
steps_of (state.Faulty fault) below = 0

-- there are fewer steps than there were
abbrev pub IsLess : State → Gathered → State → Gathered → Type 0
IsLess old before new after = steps_of new after < steps_of old before

-- where more octets of a block are wanted: it is passed over where there is no room for all
abbrev pub wanting_by : Option Order → List ℕ → Settled
wanting_by None held = settled.Unfinished
wanting_by (Some order) held =
    let size = number_of order 4 (drop 4 held) in
    if nat_lt longest_block size then settled.Long order size else settled.Unfinished

-- what is told stays the same from an input that has nothing ready to this state of it
abbrev pub Leads : Selection → Stand → Gathered → Context → List ℕ → Gathered → State → Type 0
Leads selection stand old context ready new state =
    KeepsTold (told (record { selection = selection; ready = []; stand = stand; below = old }))
    (told (record { selection = selection; ready = ready; stand = stand_of state context; below = new }))

-- what isn't looked at yet isn't asked for one interface
abbrev pub IsTaken : Selection → State → Type 0
IsTaken selection state.Begun = is_of_one selection ≡ false
IsTaken selection state.Plain = ⊤
IsTaken selection state.Within = ⊤
IsTaken selection (state.Passing order size left) = ⊤
IsTaken selection state.NoMemory = ⊤
IsTaken selection state.Over = ⊤
IsTaken selection (state.Faulty fault) = ⊤
