-- What is told of a part's outputs. It states no standard.
use Rattle.std.specs.Prelude.{◌≡◌, ◌<◌, ℕ, zero, suc, ◌+◌, ◌^◌, List, [], ◌∷◌, ◌++◌, length, codes, decimal, All}
use Rattle.octet_sums.specs.declared.fletcher.sum.OctetSum.{OctetSum}
use Rattle.part_record.specs.InTurn.{lines_in_turn}
use Rattle.part_record.specs.declared.outputs.OutputFacts.{OutputFacts}

-- what can be told of an output: numbers of 64 bits
pub record IsTold (s : OctetSum) : Type 0 where
  pub octets : s.octets < 2 ^ 64
  pub first : s.first < 2 ^ 64
  pub second : s.second < 2 ^ 64

pub record IsOutput (f : OutputFacts) : Type 0 where
  pub records : f.records < 2 ^ 64
  pub sum : IsTold f.sum

-- what can be told of the outputs of a part with so many ports: of the decision lines, of the underlay's capture and of each
-- port's
pub record AreOutputs (ports : ℕ) (outputs : List OutputFacts) : Type 0 where
  pub each : All IsOutput outputs
  pub all : length outputs ≡ ports + 2

-- the word of an output's line, with the space behind it: the decision lines come first, then the underlay's capture, then
-- those of port 1, port 2 and so on
abbrev pub output_word : ℕ → List ℕ
output_word zero = codes "output decisions "
output_word (suc zero) = codes "output u "
output_word (suc (suc k)) = codes "output p" ++ (decimal (suc k) ++ codes " ")

-- the end of a line, with a space between each two numbers: how many octets, and their two sums
abbrev pub sums : OctetSum → List ℕ
sums s = decimal s.octets ++ 32 ∷ (decimal s.first ++ 32 ∷ (decimal s.second ++ 10 ∷ []))

-- and in front of it how many records or lines
abbrev pub numbers : OutputFacts → List ℕ
numbers f = decimal f.records ++ 32 ∷ sums f.sum

-- the line of an output
abbrev pub output_line : ℕ → OutputFacts → List ℕ
output_line place f = output_word place ++ numbers f

-- the lines of the outputs from this place on
abbrev pub output_lines : ℕ → List OutputFacts → List ℕ
output_lines place fs = lines_in_turn output_line place fs
