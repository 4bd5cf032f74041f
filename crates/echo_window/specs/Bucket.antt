-- Where frames of the same octets are looked for. It serves proofs: what a window answers doesn't depend on it.
use Rattle.std.specs.Prelude.{ℕ, ◌+◌, ◌-◌, ◌*◌, ◌/◌, ◌%◌, List, length}
use Rattle.byteorder.specs.Endian.{little_from}

-- a sum with the word of eight octets that stands at a place of a text, the lowest first; behind the text's end stand zeros
abbrev pub with_word : ℕ → ℕ → List ℕ → ℕ
with_word sum place text = ((sum + little_from place 8 text) % 18446744073709551616 * 11400714819323198485) % 18446744073709551616

-- the sum of a text's length, the words of its first 60 octets, of which the second begins within the first, and its last word
abbrev pub sum_of : List ℕ → ℕ
sum_of text =
    let begun = with_word (with_word (with_word (length text) 0 text) 4 text) 12 text in
    let first = with_word (with_word (with_word (with_word (with_word begun 20 text) 28 text) 36 text) 44 text) 52 text in
    with_word first (length text - 8) text

-- the bucket of a text, of 16,384
unfoldable pub bucket_of : List ℕ → ℕ
bucket_of text = sum_of text / 1125899906842624
