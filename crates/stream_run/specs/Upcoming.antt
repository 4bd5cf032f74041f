-- The moment of a next event in one word. It states no standard.
use Rattle.std.specs.Prelude.{◌-◌, ◌^◌, ◌==◌, if◌then◌else◌, ℕ, Bool, false, nat_lt, Option, Some, None}

-- the moment that a word holds: the greatest word, a moment that no event has, says that there is none
abbrev pub moment_in : ℕ → Option ℕ
moment_in word = if word == 2 ^ 64 - 1 then None else Some word

-- and the word that holds a moment
abbrev pub word_of : Option ℕ → ℕ
word_of None = 2 ^ 64 - 1
word_of (Some moment) = moment

-- there is an event, and it comes before a moment
abbrev pub comes_before : Option ℕ → ℕ → Bool
comes_before None m = false
comes_before (Some moment) m = nat_lt moment m
