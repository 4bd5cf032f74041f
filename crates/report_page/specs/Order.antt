-- Numbers in order, the largest first. It states no standard.
use Rattle.std.specs.Prelude.{ℕ, zero, suc, ◌==◌, nat_lt, if◌then◌else◌, List, [], take}
use Rattle.std.specs.List.{insert, position_or_len}

-- a place put among others: in front of the first of which there is less
abbrev pub placed : (ℕ → ℕ) → ℕ → List ℕ → List ℕ
placed size place others = insert others (position_or_len (λ other. nat_lt (size other) (size place)) others) place

-- those of so many places from 0 on of which there is something: the largest first, and of two as large the lower first
unfoldable pub in_order : (ℕ → ℕ) → ℕ → List ℕ
in_order size zero = []
in_order size (suc count) = if size count == 0 then in_order size count else placed size count (in_order size count)

-- forty of them at most
unfoldable pub largest : (ℕ → ℕ) → ℕ → List ℕ
largest size count = take 40 (in_order size count)
