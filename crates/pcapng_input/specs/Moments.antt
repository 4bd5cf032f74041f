-- Moments of an interface (draft-ietf-opsawg-pcapng, 4.2 and 4.3): a count of ticks since 1970, which `if_tsresol` says the
-- length of, and `if_tsoffset` how many seconds to add to.
use Rattle.std.specs.Prelude.{ℕ, ◌+◌, ◌-◌, ◌*◌, ◌/◌, ◌^◌, nat_lt, if◌then◌else◌, Option, Some, None}
use Rattle.pcap.specs.Record.{last_moment}
use Rattle.pcap.specs.Style.{second}

-- how many ticks a second has: a power of 10, or of 2 where the high bit is set
abbrev pub ticks_a_second : ℕ → ℕ
ticks_a_second resolution = if nat_lt resolution 128 then 10 ^ resolution else 2 ^ (resolution - 128)

-- ticks in nanoseconds, rounded down
unfoldable pub ticks_in_nanoseconds : ℕ → ℕ → ℕ
ticks_in_nanoseconds resolution ticks = ticks * second / ticks_a_second resolution

-- a number of 64 bits is negative from here on (two's complement)
abbrev pub sign_bit : ℕ
sign_bit = 9223372036854775808

-- 2 ^ 64
abbrev pub round : ℕ
round = 18446744073709551616

-- a moment that a classic capture can tell
abbrev pub tellable : ℕ → Option ℕ
tellable moment = if nat_lt last_moment moment then None else Some moment

-- nanoseconds moved by a signed number of seconds, where a classic capture can tell them
unfoldable pub offset_moment : ℕ → ℕ → Option ℕ
offset_moment offset moment =
    if nat_lt offset sign_bit then tellable (moment + offset * second)
    else if nat_lt moment ((round - offset) * second) then None
    else tellable (moment - (round - offset) * second)
