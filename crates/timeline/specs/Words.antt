-- The words for where events come from. It states no standard.
use Rattle.std.specs.Prelude.{ℕ, List, ◌++◌, codes, decimal}
use Rattle.timeline.specs.declared.event.Happening.{Happening}
use Rattle.timeline.specs.declared.event.Happening.TheVariants as happenings
use Rattle.timeline.specs.declared.source.Source.{Source}
use Rattle.timeline.specs.declared.source.Source.TheVariants as sources
use Rattle.timeline.specs.declared.source.Tap.{Tap}
use Rattle.timeline.specs.declared.source.Tap.TheVariants as taps

-- p1 for port 1, u for the underlay
abbrev pub tap_word : Tap → List ℕ
tap_word (taps.Port port) = codes "p" ++ decimal port
tap_word taps.Underlay = codes "u"

-- c for the changes, and the word of a tap
abbrev pub source_word : Source → List ℕ
source_word sources.Changes = codes "c"
source_word (sources.Tap tap) = tap_word tap

-- where an event comes from
abbrev pub source_of : Happening → Source
source_of (happenings.Change index) = sources.Changes
source_of (happenings.Record tap captured) = sources.Tap tap
