-- The lines that tell how many records are cut, and which capture ends within one. They state no standard.
use Rattle.std.specs.Prelude.{ℕ, ◌==◌, ◌&&◌, if◌then◌else◌, List, [], ◌++◌, codes, decimal, Option}
use Rattle.timeline.specs.declared.source.Tap.{Tap}
use Rattle.record_match.specs.declared.cut.Cut.{Cut}
use Rattle.capture_compare.specs.Lonely.{side_word}
use Rattle.capture_compare.specs.Tables.{place_words}
use Rattle.capture_compare.specs.declared.fault.Side.{Side}

-- how many of each side
unfoldable pub cut_words : Cut → List ℕ
cut_words c = codes "cut: sent " ++ decimal c.sent ++ codes ", received " ++ decimal c.received ++ codes "\n"

-- of two captures, or of a place; where none is, there is no line
abbrev pub cut_text : Option Tap → Cut → List ℕ
cut_text at c = if c.sent == 0 && c.received == 0 then [] else place_words at ++ cut_words c

-- a capture of two, or of a place, ends within a record
abbrev pub cut_end : Option Tap → Side → List ℕ
cut_end at side = place_words at ++ side_word side ++ codes ": cut\n"
