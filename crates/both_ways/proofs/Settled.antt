-- Where segments send frames out is known by the settings in force.
use Rattle.std.proofs.Common.{◌≡◌, ℕ, List, [], ◌∷◌, refl}
use Rattle.both_ways.specs.Laws.{SendsByTheSettings}
use Rattle.both_ways.specs.Sieve.{Seen, behind, behind_all, fresh, happened}
use Rattle.both_ways.specs.Told.{outlets}
use Rattle.timeline.specs.declared.event.Event.{Event}
use Rattle.timeline.specs.declared.event.Happening.{Happening}
use Rattle.timeline.specs.declared.event.Happening.TheVariants as happenings

pub known_behind : (s : Seen) (moment number : ℕ) (h : Happening) → s.sends_at ≡ outlets s.settings.ports → (happened s moment number h).sends_at ≡ outlets (happened s moment number h).settings.ports
known_behind s moment number (happenings.Change index) known = refl
known_behind s moment number (happenings.Record tap c) known = known

known_behind_all : (s : Seen) (es : List Event) → s.sends_at ≡ outlets s.settings.ports → (behind_all s es).sends_at ≡ outlets (behind_all s es).settings.ports
known_behind_all s [] known = known
known_behind_all s (e ∷ es) known = known_behind_all (behind s e) es (known_behind s e.moment e.number e.happening known)

pub sends_by_the_settings : SendsByTheSettings
sends_by_the_settings within S cs es = known_behind_all (fresh within S cs) es refl
