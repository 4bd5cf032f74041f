-- Which record that was received alone is near one that was sent alone. It states no standard.
--     near_by             what of a record that was received differs from one that was sent, where it is near
--     near_in, without    the first of some that is near, and those that are left
--     since               those that may still be near
--     held_with           those that are held, once one more was received alone
--     near_at, left_at    the one that is near one that was sent alone, and those that are held then
use Rattle.std.specs.Prelude.{ℕ, ◌+◌, ◌-◌, ◌==◌, ◌&&◌, nat_le, nat_lt, if◌then◌else◌, Bool, false, List, [], ◌∷◌, ◌++◌}
use Rattle.std.specs.Prelude.{drop, length, take, Option, Some, None}
use Rattle.record_match.specs.Match.{Record, is_within}
use Rattle.capture_compare.specs.Difference.{difference_by}
use Rattle.capture_compare.specs.declared.lonely.difference.Difference.{Difference}
use Rattle.capture_compare.specs.declared.lonely.near.Named.{Named}
use Rattle.capture_compare.specs.declared.lonely.segment.Reading.{Reading}

-- a record that was received alone, with its number in its capture, from 1
pub record Alone : Type 0 where
  pub number : ℕ
  pub seen : Record

-- what of a record that was received differs from one that was sent, where it may be that one by its moment, and as many octets
-- of both are missing
abbrev pub near_by : Reading → ℕ → Record → Record → Option Difference
near_by reading within sent received =
    if is_within within sent.moment received.moment
    then (if sent.missing == received.missing then difference_by reading sent.missing sent.octets received.octets else None)
    else None

-- the one with this number, where it differs in one thing, or else the first of the others
abbrev pub near_or : ℕ → Option Difference → Option Named → Option Named
near_or number (Some d) others = Some (record { number = number; difference = d })
near_or number None others = others

-- of some that were received one after another, the first that differs in one thing
abbrev pub near_in : Reading → ℕ → Record → List Alone → Option Named
near_in reading within sent [] = None
near_in reading within sent (a ∷ held) = near_or a.number (near_by reading within sent a.seen) (near_in reading within sent held)

-- by whether the first of some is near: it goes, or else it stays in front of what is left of the others
abbrev pub left_by : Option Difference → Alone → List Alone → List Alone → List Alone
left_by (Some d) a others left = others
left_by None a others left = a ∷ left

-- the others: the one isn't named again
abbrev pub without : Reading → ℕ → Record → List Alone → List Alone
without reading within sent [] = []
without reading within sent (a ∷ held) = left_by (near_by reading within sent a.seen) a held (without reading within sent held)

-- ---- those that are held

-- those behind the first ones that are earlier than a moment
abbrev pub since : ℕ → List Alone → List Alone
since moment [] = []
since moment (a ∷ held) = if nat_lt a.seen.moment moment then since moment held else a ∷ held

-- the first one is earlier
abbrev pub is_first_before : ℕ → List Alone → Bool
is_first_before moment [] = false
is_first_before moment (a ∷ held) = nat_lt a.seen.moment moment

-- how many octets some have together
abbrev pub octets_in : List Alone → ℕ
octets_in [] = 0
octets_in (a ∷ held) = length a.seen.octets + octets_in held

-- as many are held as a window holds of what was sent: 1,048,576 records and 268,435,456 octets
abbrev pub has_room : ℕ → List Alone → Bool
has_room octets held = nat_lt (length held) 1048576 && nat_le (octets_in held + octets) 268435456

-- one more, where there is room
abbrev pub put : Alone → List Alone → List Alone
put a held = if has_room (length a.seen.octets) held then held ++ a ∷ [] else held

-- once one more was received alone: those that were received more than so much before it are near none that is told to be sent alone
-- from now on
abbrev pub held_with : ℕ → Alone → List Alone → List Alone
held_with within a held = put a (since (a.seen.moment - within) held)

-- the one that is near a record that was sent alone, of the first 256 that were received no earlier
abbrev pub near_at : Reading → ℕ → Record → List Alone → Option Named
near_at reading within sent held = near_in reading within sent (take 256 (since sent.moment held))

-- and those that are held then: the next one that is told to be sent alone was sent no earlier
abbrev pub left_at : Reading → ℕ → Record → List Alone → List Alone
left_at reading within sent held =
    without reading within sent (take 256 (since sent.moment held)) ++ drop 256 (since sent.moment held)
