-- How many records were sent, were received and are both, and the lines that tell it. It states no standard.
use Rattle.std.specs.Prelude.{ℕ, ◌+◌, ◌-◌, ◌^◌, ◌==◌, ◌&&◌, min, Bool, List, ◌++◌, codes, decimal}
use Rattle.record_match.specs.Compared.{Counted}
use Rattle.timeline.specs.Words.{tap_word}
use Rattle.capture_compare.specs.Sides.{sides_words}
use Rattle.capture_compare.specs.declared.lines.counts.Counts.{Counts}
use Rattle.capture_compare.specs.declared.lines.counts.Scope.{Scope}
use Rattle.capture_compare.specs.declared.lines.counts.Scope.TheVariants as scopes

-- of no place
abbrev pub no_counts : Counts
no_counts = record { sent = 0; received = 0; both = 0 }

-- those of a comparison
abbrev pub counts_of : Counted → Counts
counts_of c = record { sent = c.sent; received = c.received; both = c.both }

-- a sum, up to the greatest number of 64 bits
abbrev pub sum_of : ℕ → ℕ → ℕ
sum_of m n = min (m + n) (2 ^ 64 - 1)

-- those of two places
abbrev pub sums_of : Counts → Counts → Counts
sums_of c d = record { sent = sum_of c.sent d.sent; received = sum_of c.received d.received; both = sum_of c.both d.both }

-- no record was sent or received
abbrev pub is_none : Counts → Bool
is_none c = c.sent == 0 && c.received == 0

-- each record that was sent was received, and no other
abbrev pub is_same : Counts → Bool
is_same c = c.sent == c.both && c.received == c.both

-- how many were sent, were received and are both, with a text between each two
unfoldable pub all_words : List ℕ → Counts → List ℕ
all_words between c =
    codes "sent " ++ decimal c.sent ++ between ++ codes "received " ++ decimal c.received ++ between ++ codes "both " ++ decimal c.both

-- these behind a front, then how many of each side are alone, and a line feed
abbrev pub count_words : List ℕ → List ℕ → Counts → List ℕ
count_words front between c =
    front ++ all_words between c ++ between ++ sides_words (codes "alone") between (c.sent - c.both) (c.received - c.both) ++ codes "\n"

-- the lines of counts: of two captures, of a place, of all places, of a segment, and of none
abbrev pub counts_text : Scope → Counts → List ℕ
counts_text scopes.Pair c = count_words (codes "") (codes "\n") c
counts_text (scopes.Place tap) c = tap_word tap ++ count_words (codes ": ") (codes ", ") c
counts_text scopes.All c = codes "all" ++ count_words (codes ": ") (codes ", ") c
counts_text (scopes.Segment vid) c = codes "segment " ++ decimal vid ++ count_words (codes ": ") (codes ", ") c
counts_text scopes.NoSegment c = codes "no segment" ++ count_words (codes ": ") (codes ", ") c
