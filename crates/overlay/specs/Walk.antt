-- A walk over the member ports of a segment, rising. It states no standard.
--     IsAt      a position says what was told, and has what is left of a word
--     members_above      the members that are left
use Rattle.std.specs.Prelude.{◌≡◌, ◌<◌, ◌≤◌, ℕ, ◌+◌, ◌-◌, ◌*◌, false, List, slice_index_or}
use Rattle.std.specs.Int.{bit_at}
use Rattle.std.specs.List.{filter, range_with_len}
use Rattle.overlay.specs.Bits.{is_member_in}
use Rattle.overlay.specs.declared.ports.walk.Position.{Position}

-- the members of a segment, of ports up to this many, with numbers above one
abbrev pub members_above : List ℕ → ℕ → ℕ → ℕ → List ℕ
members_above words vid ports after = filter (is_member_in words vid) (range_with_len (after + 1) (ports - after))

-- the members up to a number were told, and the rest of a word has those above it
pub record IsAt (words : List ℕ) (vid : ℕ) (at : Position) : Type 0 where
  pub within : at.after < at.column * 64 + 64
  pub passed : (p : ℕ) → at.after < p → p < at.column * 64 → is_member_in words vid p ≡ false
  pub told : (bit : ℕ) → bit < 64 → at.column * 64 + bit ≤ at.after → bit_at at.rest bit ≡ 0
  pub left : (bit : ℕ) → bit < 64 → at.after < at.column * 64 + bit
      → bit_at at.rest bit ≡ bit_at (slice_index_or words (at.column * 8192 + vid) 0) bit
