-- What a rule's members leave of a segment. It states no standard.
use Rattle.std.specs.Prelude.{ℕ, unwrap_or}
use Rattle.std.specs.FinMap.{empty, insert}
use Rattle.overlay.specs.Ports.{Ports, Members, members_at}

-- the members of a segment, none where there is no such segment
abbrev pub members_or_none : Ports → ℕ → Members
members_or_none s vid = unwrap_or (members_at s vid) empty

-- with these members of a segment
abbrev pub with_members : Ports → ℕ → Members → Ports
with_members s vid members = record s { segments = insert s.segments vid members }
