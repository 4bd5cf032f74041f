-- Where records of the same octets are looked for. It serves proofs: what a window answers doesn't depend on it.
use Rattle.std.specs.Prelude.{ℕ, zero, suc, ◌+◌, ◌-◌, ◌*◌, ◌/◌, ◌%◌, ◌^◌, nat_lt, if◌then◌else◌, List, length, drop}
use Rattle.byteorder.specs.Endian.{little_number}

-- the bucket of so many octets with this sum of words and this last word, of 262,144
abbrev pub bucket_by : ℕ → ℕ → ℕ → ℕ
bucket_by sum last count =
    ((((sum + last) % 18446744073709551616 + count) % 18446744073709551616) * 11400714819323198485) % 18446744073709551616 /
    70368744177664

-- the sum of a text's first words of eight octets, modulo 2^64
abbrev pub word_sum : ℕ → List ℕ → ℕ
word_sum zero octets = 0
word_sum (suc n) octets = (word_sum n octets + little_number 8 (drop (8 * n) octets)) % 2 ^ 64

-- the last eight octets as a word; 0 where there are fewer
abbrev pub last_word : List ℕ → ℕ
last_word octets = if nat_lt (length octets) 8 then 0 else little_number 8 (drop (length octets - 8) octets)

-- the bucket of a record with these octets, of which so many more are missing
unfoldable pub bucket_of : ℕ → List ℕ → ℕ
bucket_of missing octets = bucket_by (word_sum (length octets / 8) octets) (last_word octets) (length octets + missing)
