-- The lines that tell how many records were left aside. It states no standard.
use Rattle.std.specs.Prelude.{ℕ, List, ◌++◌, codes, Option, Some, None}
use Rattle.timeline.specs.declared.source.Tap.{Tap}
use Rattle.timeline.specs.Words.{tap_word}
use Rattle.capture_compare.specs.declared.aside.Aside.{Aside}
use Rattle.capture_compare.specs.Sides.{sides_words}

-- of two captures that stand for themselves, one fact a line
abbrev pub aside_lines : Aside → List ℕ
aside_lines a = sides_words (codes "left aside") (codes "\n") a.sent a.received ++ codes "\n"

-- behind the name of a place, one line
abbrev pub aside_line : Aside → List ℕ
aside_line a = codes ": " ++ sides_words (codes "left aside") (codes ", ") a.sent a.received ++ codes "\n"

-- of two captures, or of a place
abbrev pub aside_text : Option Tap → Aside → List ℕ
aside_text None a = aside_lines a
aside_text (Some tap) a = tap_word tap ++ aside_line a
