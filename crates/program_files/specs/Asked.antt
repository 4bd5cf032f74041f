-- The interfaces that the words of a command line ask for behind a capture's file: all without words, one by its number, which is
-- of digits alone, or those of a name. It states no standard.
use Rattle.std.specs.Prelude.{◌≡◌, ◌<◌, ◌^◌, ℕ, List, Option, Some, None}
use Rattle.std.specs.Str.Parse.{IsNumeral, digits_value}
use Rattle.pcapng_input.specs.declared.interface.Selection.{Selection}
use Rattle.pcapng_input.specs.declared.interface.Selection.TheVariants.{All, Number, Name}

-- digits alone, of a number that an interface can have
abbrev pub IsNumber : List ℕ → Type 0
IsNumber text = IsNumeral 10 text × (digits_value 10 text < 2 ^ 32)

-- these interfaces are asked for
abbrev pub IsAsked : Option (List ℕ) → Selection → Type 0
IsAsked words All = words ≡ None
IsAsked words (Number number) = (text : List ℕ) × (words ≡ Some text) × IsNumber text × (number ≡ digits_value 10 text)
IsAsked words (Name name) = (words ≡ Some name.now) × ¬ (IsNumber name.now)
