-- Sums of words, with the carries dropped.
use Rattle.std.proofs.Common.{◌≡◌, ℕ, arith}
use Rattle.sha2.specs.Sha256.{add32}

-- a word and a constant, added at once or in turn
pub key_added : (s w k : ℕ) → add32 s (add32 w k) ≡ add32 (add32 s k) w
key_added s w k = omega arith

-- four words in another order
pub four_added : (a b c d : ℕ) → add32 (add32 (add32 a b) c) d ≡ add32 (add32 (add32 d b) c) a
four_added a b c d = omega arith

-- no word is added
pub none_added : (a b : ℕ) → add32 (add32 a b) 0 ≡ add32 a b
none_added a b = omega arith
