-- What a record of a capture tells of a frame. It states no standard.
use Rattle.std.specs.Prelude.{ℕ, List}

-- the length of the frame, and the octets of it that were captured
pub record Captured : Type 0 where
  pub original : ℕ
  pub octets : List ℕ
