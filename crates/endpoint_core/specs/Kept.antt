-- What an endpoint keeps, and the state that this is. It states no standard.
use Rattle.std.specs.Prelude.{refl, ℕ, List}
use Rattle.std.specs.Coded.{Coded, code_by, coded×, coded_ℕ, coded_list}
use Rattle.endpoint_core.specs.Held.{Held, state_at}
use Rattle.endpoint_core.specs.Code.{held_code}
use Rattle.endpoint_core.specs.Cells.{Cells, count_in}
use Rattle.endpoint_core.specs.Step.{State}

-- what an endpoint keeps: what it holds, its counts, and the moment of its last event
pub record Kept : Type 0 where
  pub held : Held
  pub cells : Cells
  -- that of the last step
  pub moment : ℕ

-- counts are stored as the pair of their rows
abbrev pub cells_code : Coded Cells
cells_code =
    code_by (List ℕ × List (List ℕ)) (coded× (coded_list coded_ℕ) (coded_list (coded_list coded_ℕ)))
    (λ c. (c.nowhere, c.segments)) (λ p. record { nowhere = p.0; segments = p.1 }) (λ _. refl)

-- stored as its three parts
abbrev pub kept_code : Coded Kept
kept_code =
    code_by (Held × (Cells × ℕ)) (coded× held_code (coded× cells_code coded_ℕ))
    (λ k. (k.held, (k.cells, k.moment))) (λ p. record { held = p.0; cells = p.1.0; moment = p.1.1 }) (λ _. refl)

-- the state of the machine that this is
abbrev pub state_of : Kept → State
state_of k = record { bridges = state_at k.moment k.held; counts = count_in k.cells; moment = k.moment }
