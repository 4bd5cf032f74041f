-- The key of a record: two records are the same where their keys are. It states no standard.
--     carried_key    the key of a packet by what it carries
--     key_by         the key of a record, by the manner of comparing
--     missing_of     how many octets of a record weren't captured
use Rattle.std.specs.Prelude.{ℕ, ◌-◌, ◌&&◌, nat_lt, not, Bool, if◌then◌else◌, List, [], ◌∷◌, ◌++◌, length, take, Option, Some, None}
use Rattle.pcap.specs.Record.{Record}
use Rattle.wire.specs.Address.{is_reserved}
use Rattle.wire.specs.Octets.{octets}
use Rattle.wire.specs.Addr.{address}
use Rattle.wire.specs.declared.ip_udp.addr.Tunnel.{Tunnel}
use Rattle.wire.specs.declared.ip_udp.addr.Tunnel.TheVariants.{Vxlan, Geneve}
use Rattle.capture_compare.specs.Tunnelled.{Tunnelled, tunnelled_whole}
use Rattle.capture_compare.specs.declared.carried.key.Key.{Key as AKey}
use Rattle.capture_compare.specs.declared.carried.key.Sameness.{Sameness}
use Rattle.capture_compare.specs.declared.carried.key.Sameness.TheVariants.{Whole, Carried}
use Rattle.capture_compare.specs.declared.carried.key.Manner.{Manner}
use Rattle.capture_compare.specs.declared.carried.tunnels.Tunnels.{Tunnels}

-- how many octets of a record weren't captured: none of a whole one, else it is cut
abbrev pub missing_of : Record → ℕ
missing_of r = r.original - length r.octets

-- a key: the octets that are compared, and how many of its record are missing
pub record Key : Type 0 where
  pub octets : List ℕ
  pub missing : ℕ

-- without where it lies in memory
abbrev pub as_key : AKey → Key
as_key k = record { octets = k.octets.now; missing = k.missing }

-- the octet that a key begins with: 1 and 2 by the kind of tunnel; 0 goes before what is no packet of a tunnel
abbrev pub mark : Tunnel → ℕ
mark Vxlan = 1
mark Geneve = 2

-- a text behind its length in one octet
abbrev pub counted : List ℕ → List ℕ
counted t = length t ∷ t

-- all that a tunnel carries, side by side
abbrev pub carried_text : Tunnelled → List ℕ
carried_text t =
    mark t.kind
    ∷ (counted (address t.source) ++ (counted (address t.destination) ++ (octets 3 t.vni ++ (counted t.options ++ t.inner))))

-- the octets by what is carried: of what is no packet of a tunnel its own octets, marked as such
abbrev pub text_by : List ℕ → Option Tunnelled → List ℕ
text_by b None = 0 ∷ b
text_by b (Some t) = carried_text t

abbrev pub carried_key : Tunnels → ℕ → List ℕ → List ℕ
carried_key T missing b = text_by b (tunnelled_whole T missing b)

-- what is compared of a record with these octets, of which so many more are missing
abbrev pub keyed : Sameness → ℕ → List ℕ → List ℕ
keyed Whole missing b = b
keyed (Carried tunnels) missing b = carried_key tunnels missing b

-- the key of a record
abbrev pub key_by : Manner → Record → Key
key_by m r = record { octets = keyed m.sameness (missing_of r) r.octets; missing = missing_of r }

-- what a room for keys holds of it: nothing where its own octets are compared
abbrev pub held_by : Sameness → ℕ → List ℕ → List ℕ
held_by Whole missing b = []
held_by (Carried tunnels) missing b = carried_key tunnels missing b

-- what is compared of a record with these octets, by what a room holds
abbrev pub key_in : Sameness → List ℕ → List ℕ → List ℕ
key_in Whole b held = b
key_in (Carried tunnels) b held = held

-- ---- what is left aside

-- a frame goes to one of the addresses that no bridge forwards, 01-80-C2-00-00-00 to 01-80-C2-00-00-0F (IEEE 802.1Q, 8.6.3,
-- table 8-1): what a switch sends or takes itself, as STP, LACP, pause and LLDP
abbrev pub goes_to_reserved : List ℕ → Bool
goes_to_reserved b = not (nat_lt (length b) 14) && is_reserved (take 6 b)

-- a record is left aside
abbrev pub is_ignored : Manner → List ℕ → Bool
is_ignored m b = m.ignores_reserved && goes_to_reserved b

-- the key of a record, where it isn't left aside
abbrev pub told_by : Manner → Record → Option Key
told_by m r = if is_ignored m r.octets then None else Some (key_by m r)
