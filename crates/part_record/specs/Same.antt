-- Whether two parts are of one run. It states no standard.
use Rattle.std.specs.Prelude.{◌≡◌, ℕ, zero, suc, ◌+◌, List, Option, None, Some, nat_lt, Bool, slice_get}
use Rattle.timeline.specs.declared.source.Tap.{Tap}
use Rattle.timeline.specs.declared.source.Tap.TheVariants as taps
use Rattle.part_record.specs.Record.{Facts}
use Rattle.part_record.specs.declared.same.Difference.{Difference}
use Rattle.part_record.specs.declared.same.Difference.TheVariants as differences

-- all facts but the segments and the number of its own events are the same
abbrev pub AreOfOneRun : Facts → Facts → Type 0
AreOfOneRun f g = record f { segments = g.segments; events = g.events } ≡ g

-- the digest of a capture, where there is one
abbrev pub capture_of : Facts → Tap → Option (List ℕ)
capture_of f (taps.Port zero) = None
capture_of f (taps.Port (suc port)) = slice_get f.ports port
capture_of f taps.Underlay = Some f.underlay

-- two records tell the same of this
abbrev pub Agrees : Difference → Facts → Facts → Type 0
Agrees differences.Settings f g = f.settings ≡ g.settings
Agrees differences.Changes f g = f.changes ≡ g.changes
Agrees (differences.Capture tap) f g = capture_of f tap ≡ capture_of g tap
Agrees differences.Both f g = f.both ≡ g.both

-- the place of a fact's line, where the captures of 255 ports could stand
abbrev pub place : Difference → ℕ
place differences.Settings = 0
place differences.Changes = 1
place (differences.Capture (taps.Port port)) = 1 + port
place (differences.Capture taps.Underlay) = 257
place differences.Both = 258

-- the line of one fact stands before that of another
abbrev pub comes_before : Difference → Difference → Bool
comes_before d e = nat_lt (place d) (place e)
