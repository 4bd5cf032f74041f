-- Room for octets that are held back. It serves proofs.
use Rattle.std.specs.Prelude.{◌≤◌, ℕ, List, length}

-- the octets that it holds, how many more find room before it grows, and how many it may hold
pub record Room : Type 0 where
  pub held : List ℕ
  pub free : ℕ
  pub size : ℕ

-- what is held lies in front, and as much as may be held is reserved
pub record Grows (octets : List ℕ) (held size capacity : ℕ) : Type 0 where
  pub holds : held ≤ length octets
  pub bounded : length octets ≤ size
  pub reserved : size ≤ capacity
