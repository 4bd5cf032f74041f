-- The number of a slot, if there is one, in one word. It states no standard.
use Rattle.std.specs.Prelude.{ℕ, Option, Some, None, nat_eq, if◌then◌else◌}

-- the slot that a word names; the greatest of 32 bits names none
abbrev pub slot_in : ℕ → Option ℕ
slot_in word = if nat_eq word 4294967295 then None else Some word

-- and the word that names a slot
abbrev pub word_of : Option ℕ → ℕ
word_of None = 4294967295
word_of (Some number) = number
