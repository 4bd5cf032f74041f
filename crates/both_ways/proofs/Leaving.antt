-- The ports by which a frame may leave.
use Rattle.std.proofs.Common.{◌≤◌, ◌+◌, ℕ, zero, suc, List, [], ◌∷◌, length, sym, subst, arith, inl, inr}
use Rattle.std.proofs.lemmas.Bool.{cases_Bool, cond-true, cond-false}
use Rattle.std.specs.List.{filter, range_with_len}
use Rattle.both_ways.specs.Members.{IsThere}
use Rattle.overlay.specs.Row.{Row, is_member, member_ports}

-- each of some ports is there
abbrev pub AreThere : Row → List ℕ → Type 0
AreThere row [] = Unit {0}
AreThere row (p ∷ ps) = IsThere row p × AreThere row ps

some_there : (row : Row) (a n : ℕ) → 1 ≤ a → a + n ≤ length row.ports + 1 → AreThere row (filter (is_member row) (range_with_len a n))
some_there row a zero low high = tt
some_there row a (suc n) low high =
    let rest = some_there row (a + 1) n (omega arith) (omega arith) in
    elim (cases_Bool (is_member row a)) [
      | inl is ↦ subst (AreThere row) (sym (cond-true (is_member row a) _ _ is)) ((low, omega arith), rest)
      | inr lacks ↦ subst (AreThere row) (sym (cond-false (is_member row a) (a ∷ filter (is_member row) (range_with_len (a + 1) n)) _ lacks)) rest
    ]

-- so each member is
pub members_there : (row : Row) → AreThere row (member_ports row)
members_there row = some_there row 1 (length row.ports) (omega arith) (omega arith)
