-- A time on a command line: a number in decimal digits without leading zeros, and a unit (`10ms`). It states no standard.
use Rattle.std.specs.Prelude.{◌≡◌, ◌<◌, ℕ, ◌*◌, ◌^◌, ◌++◌, List, Some, codes}
use Rattle.line_words.specs.Numbers.{number_of}
use Rattle.command_line.specs.declared.time.Unit.{Unit}
use Rattle.command_line.specs.declared.time.Unit.TheVariants as units

-- how a unit is written
abbrev pub word_of : Unit → List ℕ
word_of units.Nanosecond = codes "ns"
word_of units.Microsecond = codes "us"
word_of units.Millisecond = codes "ms"
word_of units.Second = codes "s"

-- how many nanoseconds it is
abbrev pub size_of : Unit → ℕ
size_of units.Nanosecond = 1
size_of units.Microsecond = 10 ^ 3
size_of units.Millisecond = 10 ^ 6
size_of units.Second = 10 ^ 9

-- a text is a time of so many nanoseconds in this unit
pub record IsIn (unit : Unit) (text : List ℕ) (time : ℕ) : Type 0 where
  pub digits : List ℕ
  pub count : ℕ
  pub text_is : text ≡ digits ++ word_of unit
  pub digits_are : number_of digits ≡ Some count
  pub time_is : time ≡ count * size_of unit
  pub small : time < 2 ^ 64

-- a text is a time of so many nanoseconds
abbrev pub IsTime : List ℕ → ℕ → Type 0
IsTime text time = (unit : Unit) × IsIn unit text time
