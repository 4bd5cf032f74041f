-- What a sieve of these rows takes in: all but what comes in at port 2.
use Rattle.std.proofs.Common.{◌≡◌, refl, Bool, true, if◌then◌else◌, not, ◌==◌, List, [], ◌∷◌}
use Rattle.timeline.specs.Words.{source_of}
use Rattle.timeline.specs.declared.event.Event.{Event}
use Rattle.timeline.specs.declared.source.Source.{Source}
use Rattle.timeline.specs.declared.source.Source.TheVariants as sources
use Rattle.timeline.specs.declared.source.Tap.TheVariants as taps

-- a source that isn't port 2
abbrev pub is_elsewhere : Source → Bool
is_elsewhere (sources.Tap (taps.Port port)) = not (port == 2)
is_elsewhere (sources.Tap taps.Underlay) = true
is_elsewhere sources.Changes = true

-- the events of such sources
abbrev pub elsewhere : List Event → List Event
elsewhere [] = []
elsewhere (e ∷ es) = if is_elsewhere (source_of e.happening) then e ∷ elsewhere es else elsewhere es

pub elsewhere_none : elsewhere [] ≡ []
elsewhere_none = refl
