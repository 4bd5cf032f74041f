-- What holds of the trees and the entries holds when a slot has left its tree.
use Rattle.std.proofs.Common.{inl, inr, ◌⊎◌, ◌≡◌, ◌≢◌, ℕ, ◌<◌, ◌≤◌, List, set, Option, Some, None, sym, ap, subst, arith}
use Rattle.std.proofs.lemmas.Bool.{cases_lt}
use Rattle.shared_tables.specs.Pool.{Held, entry_at, tree_in}
use Rattle.shared_tables.specs.Bucket.{tree_of}
use Rattle.shared_tables.specs.TreeColumns.{Trees, Uproots, MayGo, number_at}
use Rattle.shared_tables.specs.TreesOfSlots.{Belongs, AreTreesOf}
use Rattle.shared_tables.proofs.OnTrees.Buckets.{tree_there}
use Rattle.shared_tables.proofs.OnTrees.Places.{own_tree}
use Rattle.shared_tables.proofs.OnTrees.Clearing as clear
use Rattle.shared_tables.proofs.OnTrees.Pruning as prune

module _ (es : List (Option Held)) (w w' : Trees) (h : AreTreesOf es w) (e : Held) (s : ℕ) (here : entry_at es s ≡ Some e) (u : Uproots w w' (tree_in (entry_at es s)) s) where
  -- it is its own tree
  own : Uproots w w' (tree_of e.vid e.mac) s
  own = subst (λ c. Uproots w w' c s) (ap tree_in here) u

  -- without the only leaf of its tree, or without a leaf beside others
  abbrev Either : Type 0
  Either = (number_at w.leaves s < 1048576) ⊎ (1048576 ≤ number_at w.leaves s)

  pub uproot_trees : AreTreesOf (set es s None) w'
  uproot_trees = from (cases_lt (number_at w.leaves s) 1048576)
    where
      from : Either → AreTreesOf (set es s None) w'
      from (inl root) = subst (AreTreesOf (set es s None)) (sym (own.alone root)) (clear.clear_trees es w h e s here root)
      from (inr behind) = subst (AreTreesOf (set es s None)) (sym (own.behind behind)) (prune.prune_trees es w h e s here behind)

  -- where another key belongs, it belongs afterwards
  pub uproot_belongs : (c key : ℕ) → c < 1048576 → (leaf : Option ℕ) → leaf ≢ Some s → Belongs w.words c key leaf → Belongs w'.words c key leaf
  uproot_belongs c key lt leaf ne b = from (cases_lt (number_at w.leaves s) 1048576)
    where
      from : Either → Belongs w'.words c key leaf
      from (inl root) = subst (λ (x : Trees). Belongs x.words c key leaf) (sym (own.alone root)) (clear.clear_belongs es w h e s here root c key leaf ne b)
      from (inr behind) = subst (λ (x : Trees). Belongs x.words c key leaf) (sym (own.behind behind)) (prune.prune_belongs es w h e s here behind c key lt leaf ne b)

module _ (es : List (Option Held)) (w : Trees) (h : AreTreesOf es w) (e : Held) (s : ℕ) (here : entry_at es s ≡ Some e) where
  -- what letting it go reads is there
  pub may_go : MayGo w (tree_in (entry_at es s)) s
  may_go = subst (λ c. MayGo w c s) (sym (ap tree_in here)) (from (cases_lt (number_at w.leaves s) 1048576))
    where
      from : (number_at w.leaves s < 1048576) ⊎ (1048576 ≤ number_at w.leaves s) → MayGo w (tree_of e.vid e.mac) s
      from (inl root) = record {
        number_there = tree_there e.vid e.mac;
        slot_there = (own_tree es w h e s here).has_leaf;
        place = clear.place_lt es w h e s here root;
        above = λ le. absurd (omega (arith, le, root));
        sibling = λ le. absurd (omega (arith, le, root));
      }
      from (inr behind) = record {
        number_there = tree_there e.vid e.mac;
        slot_there = (own_tree es w h e s here).has_leaf;
        place = prune.place_lt es w h e s here behind;
        above = λ _. prune.above_lt es w h e s here behind;
        sibling = λ _. prune.rest_named es w h e s here behind;
      }
