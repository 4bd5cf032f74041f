-- Neighbouring ports that a flood leaves out for the same cause, told as one. It states no standard.
use Rattle.std.specs.Prelude.{ℕ, ◌+◌, ◌==◌, if◌then◌else◌, List, [], ◌∷◌, Option, Some, None}
use Rattle.std.specs.Option.{option_map_or}
use Rattle.event_story.specs.declared.fact.Fact.{Fact}
use Rattle.event_story.specs.declared.fact.Fact.TheVariants as facts

-- ports that are down, and those of a fact that are down, too, and follow them
abbrev pub down_joined : ℕ → ℕ → Fact → Option Fact
down_joined first last (facts.PortsDown next end) = if next == last + 1 then Some (facts.PortsDown first end) else None
down_joined first last other = None

-- the same of ports that are no members
abbrev pub outside_joined : ℕ → ℕ → Fact → Option Fact
outside_joined first last (facts.NoMembers next end) = if next == last + 1 then Some (facts.NoMembers first end) else None
outside_joined first last other = None

-- two facts as one, where both tell the same cause, and the ports of the second follow those of the first
abbrev pub joined : Fact → Fact → Option Fact
joined (facts.PortsDown first last) other = down_joined first last other
joined (facts.NoMembers first last) other = outside_joined first last other
joined one other = None

-- a fact and those behind it, of which it takes in the first ones as long as they join it
abbrev pub folded_from : Fact → List Fact → List Fact
folded_from f [] = f ∷ []
folded_from f (g ∷ gs) = option_map_or (λ both. folded_from both gs) (joined f g) (f ∷ folded_from g gs)

-- facts in their order, those as one that follow each other and join
abbrev pub folded : List Fact → List Fact
folded [] = []
folded (f ∷ fs) = folded_from f fs
