-- The path of a key: names, and the numbers of the tables of lists, joined by dots; as segment.2.tunnel.1.vni.
-- It states no standard.
use Rattle.std.specs.Prelude.{ℕ, List, [], ◌∷◌, ◌++◌, nat_le, Bool, false, ◌&&◌, Option, Some, option_and_then, codes, if◌then◌else◌}
use Rattle.text_advice.specs.Search.{Block, block_of, table_in}
use Rattle.text_advice.specs.declared.path.Spot as code

-- the number of a table of a list: a part that begins with a digit
abbrev pub is_number : List ℕ → Bool
is_number [] = false
is_number (c ∷ cs) = nat_le 48 c && nat_le c 57

-- a name behind that of the table around it
abbrev pub joined : List ℕ → List ℕ → List ℕ
joined [] name = name
joined (c ∷ cs) name = (c ∷ cs) ++ 46 ∷ name

-- a path without its numbers, behind names that are joined
abbrev pub plain : List ℕ → List (List ℕ) → List ℕ
plain names [] = names
plain names (p ∷ ps) = plain (if is_number p then names else joined names p) ps

-- a table of a text, and a key that is looked for there; no key where the table itself is meant
pub record Spot : Type 0 where
  pub block : Block
  pub key : List ℕ

-- what the code holds of one
abbrev pub spot_of : code.Spot → Spot
spot_of t = record { block = block_of t.block; key = t.key.now }

-- what a path means within a table: its last part is a key, and those before it are tables, each the first of its name where
-- no number stands behind
abbrev pub target : List ℕ → Block → List (List ℕ) → Option Spot
target around b [] = Some (record { block = b; key = [] })
target around b (p ∷ []) = Some (record { block = b; key = p })
target around b (p ∷ q ∷ ps) =
    if is_number q
    then option_and_then (λ c. target (joined around p) c ps) (table_in around (joined around p) q b)
    else option_and_then (λ c. target (joined around p) c (q ∷ ps)) (table_in around (joined around p) (codes "1") b)
