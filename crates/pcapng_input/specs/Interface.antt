-- Interfaces (draft-ietf-opsawg-pcapng, 4.2): a link type and 16 reserved bits, a snapshot length of 32 bits, and options.
use Rattle.std.specs.Prelude.{ℕ, ◌==◌, nat_lt, if◌then◌else◌, Bool, true, false, List, length, drop, Option, Some, None, Result, Ok, Err}
use Rattle.wire.specs.Octets.{is_same, octet}
use Rattle.pcap.specs.Style.{number_of}
use Rattle.pcap.specs.declared.text.style.Order.{Order}
use Rattle.pcapng_input.specs.Options.{OptionList, block_options, option_value}
use Rattle.pcapng_input.specs.declared.fault.BlockFault.{BlockFault}
use Rattle.pcapng_input.specs.declared.fault.BlockFault.TheVariants.{ShortBlock}
use Rattle.pcapng_input.specs.declared.interface.Interface.{Interface}
use Rattle.pcapng_input.specs.declared.interface.Selection.{Selection}
use Rattle.pcapng_input.specs.declared.interface.Selection.TheVariants.{All, Number, Name}

-- the name is that one
abbrev pub is_named : List ℕ → Option (List ℕ) → Bool
is_named selected None = false
is_named selected (Some name) = is_same name selected

-- an interface with this number in its section and this name is selected
abbrev pub selects : Selection → ℕ → Option (List ℕ) → Bool
selects All number name = true
selects (Number selected) number name = selected == number
selects (Name selected) number name = is_named selected.now name

-- the length of a tick by the option `if_tsresol`, an octet: a microsecond without it
abbrev pub resolution_of : Option (List ℕ) → Result ℕ BlockFault
resolution_of None = Ok 6
resolution_of (Some value) = if length value == 0 then Err ShortBlock else Ok (octet 0 value)

-- the seconds that are added by the option `if_tsoffset`, 64 bits: none without it
abbrev pub offset_of : Order → Option (List ℕ) → Result ℕ BlockFault
offset_of order None = Ok 0
offset_of order (Some value) = if nat_lt (length value) 8 then Err ShortBlock else Ok (number_of order 8 value)

-- the interface with this link type and this snapshot length, once its clock is known
abbrev pub interface_by : Bool → Order → List ℕ → Result ℕ BlockFault → Result ℕ BlockFault → Result Interface BlockFault
interface_by is_selected order body (Err fault) offset = Err fault
interface_by is_selected order body (Ok resolution) (Err fault) = Err fault
interface_by is_selected order body (Ok resolution) (Ok offset) = Ok (record {
  is_selected = is_selected;
  link = number_of order 2 body;
  snap = number_of order 4 (drop 4 body);
  resolution = resolution;
  offset = offset;
})

-- the interface that a body and its options say: option 2 is `if_name`, 9 `if_tsresol`, 14 `if_tsoffset`
abbrev pub described_by : Selection → ℕ → Order → List ℕ → OptionList → Result Interface BlockFault
described_by selection number order body list =
    if list.is_whole
    then interface_by (selects selection number (option_value 2 list.options)) order body
    (resolution_of (option_value 9 list.options)) (offset_of order (option_value 14 list.options))
    else Err ShortBlock

-- the interface with this number in its section that the body of a description says
unfoldable pub described : Selection → ℕ → Order → List ℕ → Result Interface BlockFault
described selection number order body =
    if nat_lt (length body) 8 then Err ShortBlock else described_by selection number order body (block_options order (drop 8 body))

-- the name that the body of a description tells, in its option `if_name`
unfoldable pub name_told : Order → List ℕ → Option (List ℕ)
name_told order body = if nat_lt (length body) 8 then None else option_value 2 (block_options order (drop 8 body)).options
