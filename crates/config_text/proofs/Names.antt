-- The names of lists whose tables' paths have room for a key.
use Rattle.std.proofs.Common.{ℕ, ◌≤◌, List, length, lit≤, arith}
use Rattle.std.specs.Prelude.{decimal}
use Rattle.std.proofs.lemmas.Fmt.{length-decimal-le}
use Rattle.config_text.specs.Table.{FitNumbers}

-- a name of 15 octets, and ten thousand tables
pub fit_numbers : (name : List ℕ) (count : ℕ) → length name ≤ 15 → count ≤ 10000 → FitNumbers 22 name count
fit_numbers name count short few k within =
    let digits : length (decimal k) ≤ 5 = length-decimal-le 5 k (lit≤ tt) (omega (arith, few, within)) (omega (arith, few, within)) in
    omega (arith, short, digits)

-- a name of 14 octets, and a hundred thousand tables
pub fit_more_numbers : (name : List ℕ) (count : ℕ) → length name ≤ 14 → count ≤ 100000 → FitNumbers 22 name count
fit_more_numbers name count short few k within =
    let digits : length (decimal k) ≤ 6 = length-decimal-le 6 k (lit≤ tt) (omega (arith, few, within)) (omega (arith, few, within)) in
    omega (arith, short, digits)

-- a name of 7 octets, and ten thousand tables less one: before a key of them there is room for a list of tables
pub fit_thousands : (name : List ℕ) (count : ℕ) → length name ≤ 7 → count ≤ 9999 → FitNumbers 13 name count
fit_thousands name count short few k within =
    let digits : length (decimal k) ≤ 4 = length-decimal-le 4 k (lit≤ tt) (omega (arith, few, within)) (omega (arith, few, within)) in
    omega (arith, short, digits)
