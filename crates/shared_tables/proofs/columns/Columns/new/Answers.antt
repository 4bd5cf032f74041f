use Rattle.std.proofs.Common.{◌≡◌, ℕ, ◌+◌, ◌*◌, ◌++◌, List, [], length, replicate, refl, ap, ◌∙◌, arith, length-append}
use Rattle.std.specs.List.{range_with_len}
use Rattle.std.proofs.lemmas.List.{append_assoc, length-replicate}
use Rattle.std.proofs.lemmas.List.FromFn.{length-range_with_len}
use Rattle.shared_tables.proofs.OnTrees.ColumnsLemmas.{split, parts, bare_words}
use Rattle.shared_tables.proofs.columns.Columns.new.Goals as goal

pub fill-requires-2 : goal.fill-requires-2
fill-requires-2 c =
    let n = c.args.size in
    let start : c.in_ok-numbers.numbers.items ≡ [] = c.in_ok-numbers.ensures.items in
    omega (
      arith,
      ap length start,
      ap length c.fill.ensures.items,
      ap length c.count_up.ensures.items,
      length-append c.in_ok-numbers.numbers.items (replicate (262144 + 2 * n) 4294967295),
      length-append c.fill.new.numbers.items (range_with_len 0 n),
      length-replicate {A = ℕ} (262144 + 2 * n) 4294967295,
      length-range_with_len 0 n,
      c.in_ok-numbers.ensures.capacity,
      c.fill.ensures.capacity,
      c.count_up.ensures.capacity,
    )

pub invariant_of-result : goal.invariant_of-result
invariant_of-result c =
    let n = c.args.size in
    let start : c.in_ok-numbers.numbers.items ≡ [] = c.in_ok-numbers.ensures.items in
    record {
      roots = omega arith;
      leaves = omega arith;
      forks = omega (
        arith,
        ap length start,
        ap length c.fill.ensures.items,
        ap length c.count_up.ensures.items,
        ap length c.fill-2.ensures.items,
        length-append c.in_ok-numbers.numbers.items (replicate (262144 + 2 * n) 4294967295),
        length-append c.fill.new.numbers.items (range_with_len 0 n),
        length-append c.count_up.new.numbers.items (replicate n 0),
        length-replicate {A = ℕ} n 0,
        length-replicate {A = ℕ} (262144 + 2 * n) 4294967295,
        length-range_with_len 0 n,
      );
    }

pub returns : goal.returns
returns c =
    let n = c.args.size in
    let words : List ℕ = replicate (262144 + 2 * n) 4294967295 in
    let leaves : List ℕ = range_with_len 0 n in
    let forks : List ℕ = replicate n 0 in
    let one : c.fill.new.numbers.items ≡ words = c.fill.ensures.items ∙ ap (λ (xs : List ℕ). xs ++ words) c.in_ok-numbers.ensures.items in
    let two : c.count_up.new.numbers.items ≡ words ++ leaves = c.count_up.ensures.items ∙ ap (λ (xs : List ℕ). xs ++ leaves) one in
    let all : c.fill-2.new.numbers.items ≡ words ++ (leaves ++ forks) = c.fill-2.ensures.items ∙ ap (λ (xs : List ℕ). xs ++ forks) two ∙ append_assoc words leaves forks in
    ap (split (262144 + 2 * n) (262144 + 2 * n + n)) all
    ∙ parts words leaves forks (262144 + 2 * n) (262144 + 2 * n + n) (length-replicate {A = ℕ} (262144 + 2 * n) 4294967295) (omega (arith, length-range_with_len 0 n))
    ∙ ap (λ (ws : List ℕ). record { words = ws; leaves = leaves; forks = forks }) (bare_words (2 * n) 4294967295 refl)
