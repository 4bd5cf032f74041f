-- A text as three parts side by side. It states no standard.
use Rattle.std.specs.Prelude.{ℕ, List, ◌++◌, take, drop}

-- a header, what it carries, and what stands behind that and is no part of it
pub record Parts : Type 0 where
  pub head : List ℕ
  pub payload : List ℕ
  pub tail : List ℕ

-- the parts, side by side
abbrev pub joined : Parts → List ℕ
joined v = v.head ++ (v.payload ++ v.tail)

-- a text cut behind its first n octets, and behind its first m
abbrev pub cut : ℕ → ℕ → List ℕ → Parts
cut n m b = record { head = take n b; payload = drop n (take m b); tail = drop m b }
