-- Columns: what the value of a key means, or nothing where its type or its range is wrong. It states no standard.
use Rattle.std.specs.Prelude.{ℕ, ℤ, pos, negsuc, List, [], ◌∷◌, Bool, ◌&&◌, not, nat_eq}
use Rattle.std.specs.Prelude.{Option, Some, None, nat_le, if◌then◌else◌, option_and_then}
use Rattle.std.specs.Cmp.Lexicographic.{pointwise}
use Rattle.toml.specs.Data.{Data, as_integer, as_bool, as_str}
use Rattle.wire.specs.Address.{is_group as is_group_mac}
use Rattle.wire.specs.declared.ip_udp.addr.Addr.{Addr}
use Rattle.wire.specs.declared.ip_udp.addr.Addr.TheVariants.{V4, V6}
use Rattle.wire.specs.Addr.{is_usable, is_group}
use Rattle.config_text.specs.Address.{kept_if, mac_of, ip4_of, ip6_of, addr_of}

-- a whole number of a range
abbrev pub in_range : ℕ → ℕ → ℤ → Option ℕ
in_range low high (pos n) = if nat_le low n && nat_le n high then Some n else None
in_range low high (negsuc n) = None

-- a whole number, both ends included
abbrev pub range : ℕ → ℕ → Data → Option ℕ
range low high d = option_and_then (in_range low high) (as_integer d)

-- true or false
abbrev pub truth : Data → Option Bool
truth d = as_bool d

-- a string, by what it writes
abbrev pub text : {A : Type 0} → (List ℕ → Option A) → Data → Option A
text reading d = option_and_then reading (as_str d)

-- words, each with what it stands for
abbrev pub word_in : {A : Type 0} → List (List ℕ × A) → List ℕ → Option A
word_in [] s = None
word_in (w ∷ ws) s = if pointwise nat_eq s w.0 then Some w.1 else word_in ws s

-- one of these words
abbrev pub one_of : {A : Type 0} → List (List ℕ × A) → Data → Option A
one_of words d = text (word_in words) d

-- a MAC address
abbrev pub any_mac : Data → Option (List ℕ)
any_mac d = text mac_of d

-- a MAC address that is no group's
abbrev pub is_individual : List ℕ → Bool
is_individual mac = not (is_group_mac mac)

-- a MAC address of a single station
abbrev pub individual_mac : Data → Option (List ℕ)
individual_mac d = kept_if is_individual (text mac_of d)

-- an address of either family
abbrev pub any_addr : Data → Option Addr
any_addr d = text addr_of d

-- an address that one endpoint can have: usable, and no group's
abbrev pub is_endpoint : Addr → Bool
is_endpoint a = is_usable a && not (is_group a)

-- an address of a single endpoint
abbrev pub endpoint_addr : Data → Option Addr
endpoint_addr d = kept_if is_endpoint (text addr_of d)

-- an IPv4 address of a single endpoint
abbrev pub own_ip4 : Data → Option (List ℕ)
own_ip4 d = kept_if (λ ip. is_endpoint (V4 ip)) (text ip4_of d)

-- an IPv6 address of a single endpoint
abbrev pub own_ip6 : Data → Option (List ℕ)
own_ip6 d = kept_if (λ ip. is_endpoint (V6 ip)) (text ip6_of d)

-- a list from its items in order, each put behind those before it
abbrev pub gathered : {L : Type 0} → (L → Data → Option L) → L → List Data → Option L
gathered put list [] = Some list
gathered put list (d ∷ ds) = option_and_then (λ longer. gathered put longer ds) (put list d)
