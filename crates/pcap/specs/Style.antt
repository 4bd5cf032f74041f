-- How a capture writes its numbers (pcap-savefile(5)).
use Rattle.std.specs.Prelude.{ℕ, List, [], ◌∷◌}
use Rattle.byteorder.specs.Endian.{big_bytes, big_number, little_bytes, little_number}
use Rattle.pcap.specs.declared.text.style.Order.{Order}
use Rattle.pcap.specs.declared.text.style.Order.TheVariants.{Big, Little}
use Rattle.pcap.specs.declared.text.style.Precision.{Precision}
use Rattle.pcap.specs.declared.text.style.Precision.TheVariants.{Micro, Nano}
use Rattle.pcap.specs.declared.text.style.Style.{Style}

-- the n octets that spell a number, in a byte order
abbrev pub octets_of : Order → ℕ → ℕ → List ℕ
octets_of Big = big_bytes
octets_of Little = little_bytes

-- the number that the first n octets of a text spell, in a byte order
abbrev pub number_of : Order → ℕ → List ℕ → ℕ
number_of Big = big_number
number_of Little = little_number

-- a second in nanoseconds
abbrev pub second : ℕ
second = 1000000000

-- how many fractions a second has
abbrev pub fractions_of : Precision → ℕ
fractions_of Micro = 1000000
fractions_of Nano = 1000000000

-- how many nanoseconds a fraction has
abbrev pub nanoseconds_of : Precision → ℕ
nanoseconds_of Micro = 1000
nanoseconds_of Nano = 1

-- the magic number of a capture
abbrev pub magic_of : Precision → ℕ
magic_of Micro = 0xA1B2C3D4
magic_of Nano = 0xA1B23C4D

-- the styles that there are
abbrev pub styles : List Style
styles =
    record { order = Big; precision = Micro }
    ∷ record { order = Big; precision = Nano }
    ∷ record { order = Little; precision = Micro }
    ∷ record { order = Little; precision = Nano }
    ∷ []
