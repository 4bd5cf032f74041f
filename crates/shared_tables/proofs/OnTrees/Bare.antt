-- What holds of the trees and the entries holds of trees without leaves.
use Rattle.std.proofs.Common.{inl, inr, ◌⊎◌, ◌≡◌, ℕ, ◌+◌, ◌*◌, ◌<◌, ◌≤◌, List, replicate, Option, None, refl, sym, ap, ◌∙◌, subst, arith}
use Rattle.std.proofs.Math.ListN.{length-replicate}
use Rattle.std.proofs.lemmas.Bool.{cases_lt}
use Rattle.std.proofs.lemmas.List.{get_or-replicate, get_or_past}
use Rattle.std.proofs.lemmas.List.Folds.{sum_by-replicate}
use Rattle.std.proofs.lemmas.List.FromFn.{length-range_with_len, get_or-range_with_len}
use Rattle.shared_tables.specs.declared.trees.Target.TheVariants as target
use Rattle.shared_tables.specs.Pool.{Held, entry_at}
use Rattle.shared_tables.specs.Line.{weight}
use Rattle.shared_tables.specs.Shared.{tree_key}
use Rattle.shared_tables.specs.TreeColumns.{Trees, target_in, target_at, number_at, child_of, bare_trees}
use Rattle.shared_tables.specs.Bucket.{IsKey}
use Rattle.shared_tables.specs.TreesOfSlots.{key_in, IsTreeOf, StandsAt, Keeps, AreTreesOf}
use Rattle.shared_tables.proofs.OnTrees.TreesOfLemmas.{nothing_word}

module _ (n : ℕ) (few : n ≤ 1048576) where
  abbrev w : Trees
  w = bare_trees n

  abbrev es : List (Option Held)
  es = replicate n None

  nothing : (p : ℕ) → target_at w.words p ≡ target.Nothing
  nothing p = from (cases_lt p (1048576 + 2 * n))
    where
      from : (p < 1048576 + 2 * n) ⊎ (1048576 + 2 * n ≤ p) → target_at w.words p ≡ target.Nothing
      from (inl lt) = ap target_in (get_or-replicate (1048576 + 2 * n) p 4294967295 4294967295 lt) ∙ nothing_word
      from (inr le) = ap target_in (get_or_past w.words p 4294967295 (omega (arith, le, length-replicate {A = ℕ} (1048576 + 2 * n) 4294967295))) ∙ nothing_word

  free : (i : ℕ) → entry_at es i ≡ None
  free i = from (cases_lt i n)
    where
      from : (i < n) ⊎ (n ≤ i) → entry_at es i ≡ None
      from (inl lt) = get_or-replicate n i None None lt
      from (inr le) = get_or_past es i None (omega (arith, le, length-replicate {A = Option Held} n None))

  no_tree : (c : ℕ) → IsTreeOf es w.words c
  no_tree c = record {
    tree = None;
    rooted = nothing c;
    parted = tt;
    members = λ i. sym (ap (tree_key c) (free i));
    size = omega (arith, sum_by-replicate {X = Option Held} (weight (tree_key c)) n None);
  }

  keeps : (i : ℕ) → i < n → Keeps w (λ m. m) (number_at w.leaves i) i
  keeps i lt =
      let is : number_at w.leaves i ≡ i = omega (arith, get_or-range_with_len 0 n i 0 lt) in
      subst (λ m. Keeps w (λ k. k) m i) (sym is) (record { there = omega (arith, lt, length-replicate {A = ℕ} n 0); kept = refl; bare = (nothing (child_of i 0), nothing (child_of i 1)) })

  pub bare_trees_of : AreTreesOf es w
  bare_trees_of = record {
    sizes = record {
      words = omega (arith, length-replicate {A = ℕ} (1048576 + 2 * n) 4294967295, length-replicate {A = ℕ} n 0);
      leaves = omega (arith, length-range_with_len 0 n, length-replicate {A = ℕ} n 0);
      few = omega (arith, few, length-replicate {A = ℕ} n 0);
    };
    slots = omega (arith, length-replicate {A = ℕ} n 0, length-replicate {A = Option Held} n None);
    keys = λ i. subst (λ (o : Option Held). IsKey (key_in o)) (sym (free i)) (omega arith);
    numbered = λ c lt. no_tree c;
    stands = λ p. subst (StandsAt es w p) (sym (nothing p)) tt;
    keeper = λ m. m;
    frees = λ i lt is. keeps i (omega (arith, lt, length-replicate {A = Option Held} n None));
    spares = λ c lt some. absurd (some (nothing c));
  }
