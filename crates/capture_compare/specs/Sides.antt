-- How many of each side. It states no standard.
use Rattle.std.specs.Prelude.{ℕ, List, ◌++◌, codes, decimal}

-- how many of those sent and of those received are what a word says, with a text between the two
unfoldable pub sides_words : List ℕ → List ℕ → ℕ → ℕ → List ℕ
sides_words word between sent received =
    codes "sent " ++ word ++ codes " " ++ decimal sent ++ between ++ codes "received " ++ word ++ codes " " ++ decimal received
