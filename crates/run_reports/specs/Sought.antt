-- Names that ask for the first event of a kind: dropped for a reason, or with a frame from or to an address. It states no standard.
--     Reasons      the reasons that a name asks for
--     reasons_sought, addresses_sought      what names ask for
--     foreseen      what is decided of an event
--     passing_of      where the frame of an event came, and its addresses
--     is_first      an event is the first of what is sought
use Rattle.std.specs.Prelude.{ℕ, zero, suc, not, nat_le, nat_eq, ◌==◌, ◌&&◌, ◌||◌, Bool, true, false, if◌then◌else◌, List, []}
use Rattle.std.specs.Prelude.{◌∷◌, ◌++◌, codes, length, map, take, nat_lt, Option, Some, None, option_and_then, Result, Ok, Err}
use Rattle.std.specs.List.{list_any}
use Rattle.std.specs.Ordering.{eq_by_cmp}
use Rattle.std.specs.Str.{bytes_eq}
use Rattle.line_words.specs.Numbers.{number_of}
use Rattle.config_text.specs.Address.{mac_of}
use Rattle.wire.specs.Octets.{part}
use Rattle.wire.specs.Reason.{number_of as reason_number}
use Rattle.wire.specs.declared.ether.reason.Reason.{Reason}
use Rattle.wire.specs.declared.ether.reason.Refused.{Refused}
use Rattle.filter_db.specs.Table.{mac_cmp}
use Rattle.timeline.specs.declared.event.Event.{Event}
use Rattle.timeline.specs.declared.event.Happening.{Happening}
use Rattle.timeline.specs.declared.event.Happening.TheVariants.{Change, Record}
use Rattle.timeline.specs.declared.source.Tap.{Tap}
use Rattle.timeline.specs.declared.source.Tap.TheVariants.{Port, Underlay}
use Rattle.endpoint_core.specs.Arrival.{came_by}
use Rattle.endpoint_core.specs.Arrival.{Arrival}
use Rattle.endpoint_core.specs.Decision.{Decision}
use Rattle.endpoint_core.specs.Event.{frame_at, packet_at}
use Rattle.endpoint_core.specs.Step.{Answer, Decided, Replied, State, answer}
use Rattle.event_story.specs.Story.{can_come}
use Rattle.run_reports.specs.declared.wanted.Reasons.{Reasons}
use Rattle.run_reports.specs.declared.wanted.Reasons.TheVariants.{No, One, Every}
use Rattle.run_reports.specs.declared.sought.SoughtReason.{SoughtReason}
use Rattle.run_reports.specs.declared.sought.SoughtAddress.{SoughtAddress}
use Rattle.run_reports.specs.declared.passing.Passing.{Passing}

-- ---- what a name asks for

-- what stands behind these letters at the front of a text
abbrev pub behind : List ℕ → List ℕ → Option (List ℕ)
behind [] text = Some text
behind (c ∷ cs) [] = None
behind (c ∷ cs) (d ∷ ds) = if c == d then behind cs ds else None

-- a reason by its number, 1 to 40
abbrev pub one_reason : Option ℕ → Reasons
one_reason None = No
one_reason (Some n) = if nat_le 1 n && nat_le n 40 then One n else No

-- the reasons of a word: any, or a number
abbrev pub reasons_of : Option (List ℕ) → Reasons
reasons_of None = No
reasons_of (Some word) = if bytes_eq word (codes "any") then Every else one_reason (number_of word)

-- the reasons that a name asks for: drop:30, drop:any
abbrev pub reasons_in : List ℕ → Reasons
reasons_in name = reasons_of (behind (codes "drop:") name)

-- the address that a name asks for: mac:02:00:00:00:00:03
abbrev pub address_in : List ℕ → Option (List ℕ)
address_in name = option_and_then mac_of (behind (codes "mac:") name)

-- ---- what names ask for, each from its place in the list of all on

-- so many numbers from one on
abbrev pub numbers_from : ℕ → ℕ → List ℕ
numbers_from n zero = []
numbers_from n (suc k) = n ∷ numbers_from (suc n) k

-- their numbers
abbrev pub numbers_in : Reasons → List ℕ
numbers_in No = []
numbers_in (One n) = n ∷ []
numbers_in Every = numbers_from 1 40

-- a reason of which no event came yet
abbrev pub reason_at : ℕ → ℕ → SoughtReason
reason_at place number = record { number = number; place = place; is_met = false }

-- the reasons that these names ask for
abbrev pub reasons_sought : ℕ → List (List ℕ) → List SoughtReason
reasons_sought place [] = []
reasons_sought place (name ∷ names) = map (reason_at place) (numbers_in (reasons_in name)) ++ reasons_sought (suc place) names

-- an address at a tap from which no event came yet
abbrev pub address_at : ℕ → List ℕ → Tap → SoughtAddress
address_at place address tap = record { address = address; tap = tap; place = place; is_met = false }

-- ports 1 to 255, and the underlay
abbrev pub every_tap : List Tap
every_tap = map (λ port. Port port) (numbers_from 1 255) ++ Underlay ∷ []

-- an address at each tap
abbrev pub addresses_at : ℕ → Option (List ℕ) → List SoughtAddress
addresses_at place None = []
addresses_at place (Some address) = map (address_at place address) every_tap

-- the addresses that these names ask for
abbrev pub addresses_sought : ℕ → List (List ℕ) → List SoughtAddress
addresses_sought place [] = []
addresses_sought place (name ∷ names) = addresses_at place (address_in name) ++ addresses_sought (suc place) names

-- ---- the reasons of an event

-- what is decided of a frame or a packet; nothing of a change
abbrev pub decision_in : Answer → Option Decision
decision_in (Decided d) = Some d
decision_in (Replied fault) = None

-- the same of what happens
abbrev pub foreseen_of : State → Event → Happening → Option Decision
foreseen_of s e (Change index) = None
foreseen_of s e (Record (Port port) c) = decision_in (answer s (frame_at e.moment port c.original c.octets))
foreseen_of s e (Record Underlay c) = decision_in (answer s (packet_at e.moment c.original c.octets))

-- what is decided of an event that comes to an endpoint in this state; nothing, where it can't come
abbrev pub foreseen : State → Event → Option Decision
foreseen s e = if can_come s e then foreseen_of s e e.happening else None

-- a reason has this number
abbrev pub is_reason : ℕ → Option Reason → Bool
is_reason number None = false
is_reason number (Some reason) = nat_eq (reason_number reason) number

-- why nothing was sent
abbrev pub unsent : {A : Type 0} → Result A Reason → Option Reason
unsent (Ok sent) = None
unsent (Err reason) = Some reason

-- the frame or packet was dropped for the reason of this number, or isn't sent at an outlet for it
abbrev pub is_for : ℕ → Decision → Bool
is_for number d = is_reason number d.dropped || list_any (λ o. is_reason number (unsent o.sent)) d.outcomes

-- the same, where there is a decision
abbrev pub has_reason : Option Decision → SoughtReason → Bool
has_reason None k = false
has_reason (Some d) k = is_for k.number d

-- ---- the addresses of an event

-- the addresses of a frame of 14 octets or more
abbrev pub passing_at : Tap → List ℕ → Option Passing
passing_at tap b = if nat_lt (length b) 14 then None else Some (record { tap = tap; destination = take 6 b; source = part 6 6 b })

-- those of the frame that a packet brings
abbrev pub passing_by : Result Arrival Refused → Option Passing
passing_by (Ok x) = Some (record { tap = Underlay; destination = x.frame.dst; source = x.frame.src })
passing_by (Err refused) = None

-- where the frame of an event came, and its addresses: that of a port as it is, that of a packet where it comes to a segment
abbrev pub passing_of : State → Happening → Option Passing
passing_of s (Change index) = None
passing_of s (Record (Port port) c) = passing_at (Port port) c.octets
passing_of s (Record Underlay c) = passing_by (came_by s.bridges.settings.overlay c.original c.octets)

-- two taps are one
abbrev pub same_tap : Tap → Tap → Bool
same_tap (Port a) (Port b) = nat_eq a b
same_tap (Port a) Underlay = false
same_tap Underlay (Port b) = false
same_tap Underlay Underlay = true

-- the frame came there, from the address or to it
abbrev pub is_with : Passing → SoughtAddress → Bool
is_with p k = same_tap k.tap p.tap && (eq_by_cmp mac_cmp k.address p.destination || eq_by_cmp mac_cmp k.address p.source)

-- the same, where there is a frame
abbrev pub has_address : Option Passing → SoughtAddress → Bool
has_address None k = false
has_address (Some p) k = is_with p k

-- ---- the first

-- with an event of which this is decided
abbrev pub reason_met : Option Decision → SoughtReason → SoughtReason
reason_met d k = record k { is_met = k.is_met || has_reason d k }

abbrev pub is_new_reason : Option Decision → SoughtReason → Bool
is_new_reason d k = not k.is_met && has_reason d k

-- with an event that has the reasons of these numbers
abbrev pub met_by : (ℕ → Bool) → SoughtReason → SoughtReason
met_by has k = record k { is_met = k.is_met || has k.number }

abbrev pub is_new_by : (ℕ → Bool) → SoughtReason → Bool
is_new_by has k = not k.is_met && has k.number

-- with an event whose frame is this one
abbrev pub address_met : Option Passing → SoughtAddress → SoughtAddress
address_met p k = record k { is_met = k.is_met || has_address p k }

abbrev pub is_new_address : Option Passing → SoughtAddress → Bool
is_new_address p k = not k.is_met && has_address p k

-- an event is the first of something that is sought
abbrev pub is_first : List SoughtReason → List SoughtAddress → State → Event → Bool
is_first reasons addresses s e =
    list_any (is_new_reason (foreseen s e)) reasons || list_any (is_new_address (passing_of s e.happening)) addresses
