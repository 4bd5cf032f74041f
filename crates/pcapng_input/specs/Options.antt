-- Options of a block (draft-ietf-opsawg-pcapng, 3.5): a code and a length of 16 bits each, and a value, padded to 32 bits.
use Rattle.std.specs.Prelude.{ℕ, zero, suc, ◌+◌, ◌*◌, ◌/◌, ◌==◌, nat_lt, if◌then◌else◌, Bool}
use Rattle.std.specs.Prelude.{true, false, List, [], ◌∷◌, length, drop, Option, option_map}
use Rattle.std.specs.List.{find}
use Rattle.wire.specs.Octets.{part}
use Rattle.pcap.specs.Style.{number_of}
use Rattle.pcap.specs.declared.text.style.Order.{Order}

-- an option: its code and its value
pub record BlockOption : Type 0 where
  pub code : ℕ
  pub value : List ℕ

-- a length padded to 32 bits
abbrev pub padded : ℕ → ℕ
padded size = (size + 3) / 4 * 4

-- another option and the text behind it, or the end of the options; they end whole or within one
pub data NextOption : Type 0 where
  AnotherOption : (option : BlockOption) (rest : List ℕ) → NextOption
  NoOption : (is_whole : Bool) → NextOption

-- the option of this length that a text begins with
abbrev pub block_option_at : Order → ℕ → List ℕ → BlockOption
block_option_at order size text = record { code = number_of order 2 text; value = part 4 size text }

-- what an option's text begins with, by the length of its value
abbrev pub option_by_length : Order → ℕ → List ℕ → NextOption
option_by_length order size text =
    if nat_lt (length text) (4 + padded size) then NoOption false
    else AnotherOption (block_option_at order size text) (drop (4 + padded size) text)

-- what comes next in a text of options: code 0 ends them, and so does the end of the block
unfoldable pub next_option : Order → List ℕ → NextOption
next_option order text =
    if nat_lt (length text) 4 then NoOption true
    else if number_of order 2 text == 0 then NoOption true
    else option_by_length order (number_of order 2 (drop 2 text)) text

-- some options, and whether they end whole
pub record OptionList : Type 0 where
  pub options : List BlockOption
  pub is_whole : Bool

-- an option in front of others
abbrev pub option_before : BlockOption → OptionList → OptionList
option_before option others = record { options = option ∷ others.options; is_whole = others.is_whole }

-- what comes next, and the options of the text behind it
abbrev pub options_by : (List ℕ → OptionList) → NextOption → OptionList
options_by more (AnotherOption option rest) = option_before option (more rest)
options_by more (NoOption is_whole) = record { options = []; is_whole = is_whole }

-- the options of a text, where there are fewer than n
unfoldable pub first_options : ℕ → Order → List ℕ → OptionList
first_options zero order text = record { options = []; is_whole = true }
first_options (suc n) order text = options_by (first_options n order) (next_option order text)

-- the options of a text; there are no more than it has octets
unfoldable pub block_options : Order → List ℕ → OptionList
block_options order text = first_options (suc (length text)) order text

-- the value of the first option with this code
abbrev pub option_value : ℕ → List BlockOption → Option (List ℕ)
option_value code options = option_map (λ option. option.value) (find (λ option. option.code == code) options)
