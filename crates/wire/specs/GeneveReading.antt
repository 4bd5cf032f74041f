-- What stands at the places of a Geneve packet, and why a text is none or isn't taken (RFC 8926, 3.4 and
-- 3.5).
use Rattle.std.specs.Prelude.{◌≡◌, ℕ, ◌+◌, ◌*◌, ◌/◌, ◌%◌, ◌==◌, nat_lt, nat_le, Bool, false, not, IsTrue}
use Rattle.std.specs.Prelude.{if◌then◌else◌, List, [], ◌∷◌, ◌++◌, length, drop, Option, Some, None, is_none}
use Rattle.wire.specs.Octets.{IsText, octet, field, part}
use Rattle.wire.specs.First.{first}
use Rattle.wire.specs.declared.ether.reason.Reason.{Reason}
use Rattle.wire.specs.declared.ether.reason.Reason.TheVariants as reason
use Rattle.wire.specs.Vxlan.{IsVni}
use Rattle.wire.specs.GeneveOptions.{TunnelOption, AreOptionTexts, allowed, options_in, option_list}
use Rattle.wire.specs.Geneve.{IsGeneve, geneve_header}
use Rattle.wire.specs.declared.geneve.view.GeneveFault.{GeneveFault}
use Rattle.wire.specs.declared.geneve.view.GeneveFault.TheVariants.{ShortTunnel, BadVersion, Control, NotEthernet}
use Rattle.wire.specs.declared.geneve.view.GeneveFault.TheVariants.{BadOptions, CriticalOption}

-- ---- the parts by their places

-- the octets of the options: four times Opt Len
abbrev pub options_length : List ℕ → ℕ
options_length text = 4 * (octet 0 text % 64)

-- the octets of the header with its options
abbrev pub head_length : List ℕ → ℕ
head_length text = 8 + options_length text

-- the VNI: octets 4 to 6
abbrev pub geneve_vni : List ℕ → ℕ
geneve_vni text = field 4 3 text

-- the options that stand behind the first 8 octets, where their lengths add up
abbrev pub options_of : List ℕ → Option (List TunnelOption)
options_of text = options_in (part 8 (options_length text) text)

-- the same as a list: none where they don't
abbrev pub geneve_options : List ℕ → List TunnelOption
geneve_options text = option_list (part 8 (options_length text) text)

-- the inner text: what stands behind the header with its options
abbrev pub geneve_inner : List ℕ → List ℕ
geneve_inner text = drop (head_length text) text

-- ---- the faults

-- there is no room for a header without options
abbrev pub is_short : List ℕ → Bool
is_short text = nat_lt (length text) 8

-- the version isn't 0
abbrev pub has_other_version : List ℕ → Bool
has_other_version text = not (octet 0 text / 64 == 0)

-- there is no room for the options
abbrev pub are_options_short : List ℕ → Bool
are_options_short text = nat_lt (length text) (head_length text)

-- the bit O is 1
abbrev pub is_control : List ℕ → Bool
is_control text = nat_le 128 (octet 1 text)

-- the protocol type isn't that of Ethernet frames
abbrev pub is_no_frame : List ℕ → Bool
is_no_frame text = not (field 2 2 text == 0x6558)

-- there are options, and not each critical one is known
abbrev pub is_refused : List (ℕ × ℕ) → Option (List TunnelOption) → Bool
is_refused known None = false
is_refused known (Some options) = not (allowed known options)

-- the faults of the options' text: its lengths don't add up, or a critical option isn't known
abbrev pub option_faults : List (ℕ × ℕ) → List ℕ → List (GeneveFault × Bool)
option_faults known text =
    (BadOptions, is_none (options_in text))
    ∷ (CriticalOption, is_refused known (options_in text))
    ∷ []

-- the faults of a text, in the order of the checks
abbrev pub geneve_faults : List (ℕ × ℕ) → List ℕ → List (GeneveFault × Bool)
geneve_faults known text =
    (ShortTunnel, is_short text)
    ∷ (BadVersion, has_other_version text)
    ∷ (ShortTunnel, are_options_short text)
    ∷ (Control, is_control text)
    ∷ (NotEthernet, is_no_frame text)
    ∷ (BadOptions, is_none (options_of text))
    ∷ (CriticalOption, is_refused known (options_of text))
    ∷ []

-- the reason of a drop that a fault is
abbrev pub reason_of : GeneveFault → Reason
reason_of ShortTunnel = reason.ShortTunnel
reason_of BadVersion = reason.BadVersion
reason_of Control = reason.Control
reason_of NotEthernet = reason.NotEthernet
reason_of BadOptions = reason.BadOptions
reason_of CriticalOption = reason.CriticalOption

-- ---- how the faults and the form belong together

-- a text that has none of the faults is a packet whose options are allowed
abbrev pub PacketWhereNothingHolds : Type 0
PacketWhereNothingHolds =
    (known : List (ℕ × ℕ)) (text : List ℕ) → IsText text → first (geneve_faults known text) ≡ None
    → IsGeneve text (geneve_vni text) (geneve_options text) (geneve_inner text)
    × IsTrue (allowed known (geneve_options text))

-- a packet has no fault but that of options that aren't allowed, and no other VNI, options and inner text than those at
-- their places
abbrev pub PacketNowhereElse : Type 0
PacketNowhereElse =
    (known : List (ℕ × ℕ)) (text : List ℕ) (vni : ℕ) (options : List TunnelOption) (inner : List ℕ)
    → IsGeneve text vni options inner
    → (first (geneve_faults known text) ≡ (if allowed known options then None else Some CriticalOption))
    × (geneve_vni text ≡ vni) × (geneve_options text ≡ options) × (geneve_inner text ≡ inner)

-- the header that is sent, with any text behind it, is a packet without options
abbrev pub PacketSent : Type 0
PacketSent = (vni : ℕ) (inner : List ℕ) → IsVni vni → IsGeneve (geneve_header vni ++ inner) vni [] inner

-- a text whose lengths add up is the texts of the options that are read
abbrev pub OptionsWhereTheyAdd : Type 0
OptionsWhereTheyAdd =
    (text : List ℕ) (options : List TunnelOption) → IsText text → options_in text ≡ Some options → AreOptionTexts options text

-- the texts of options are read as these
abbrev pub OptionsNowhereElse : Type 0
OptionsNowhereElse =
    (text : List ℕ) (options : List TunnelOption) → AreOptionTexts options text → options_in text ≡ Some options
