-- What holds of the trees and the entries holds when a tree loses its last leaf.
use Rattle.std.proofs.Common.{◌≡◌, ◌≢◌, ℕ, ◌+◌, ◌<◌, true, false, cond, ◌||◌, List, length, set, Option, Some, None, nat_eq, refl, sym, ap, ◌∙◌, subst, arith}
use Rattle.std.proofs.lemmas.List.{length-set}
use Rattle.shared_tables.specs.declared.trees.Target.{Target}
use Rattle.shared_tables.specs.declared.trees.Target.TheVariants as target
use Rattle.shared_tables.specs.Bucket.{tree_of}
use Rattle.shared_tables.specs.Pool.{Held, entry_at}
use Rattle.shared_tables.specs.Line.{is_on}
use Rattle.shared_tables.specs.Shared.{tree_key}
use Rattle.shared_tables.specs.Tree.{Tree, Leaf, leaves, IsTree, descend}
use Rattle.shared_tables.specs.TreeColumns.{Trees, target_at, number_at, child_of, cleared}
use Rattle.shared_tables.specs.TreesOfSlots.{IsRooted, LeadsTo, IsTreeOf, Belongs, HasChildren, StandsAt, spare_of, Keeps, AreTreesOf}
use Rattle.shared_tables.proofs.OnEntries.Linked.{by_bool, equal, nat_eq_refl}
use Rattle.shared_tables.proofs.OnTrees.Buckets.{tree_excl}
use Rattle.shared_tables.proofs.OnTrees.Places.{OwnTree, own_tree, place_root, leaf_place, leaf_alone}
use Rattle.shared_tables.proofs.OnTrees.TreeLemmas.{same_tree}
use Rattle.shared_tables.proofs.OnTrees.Grafting.{one_more, weight_is}
use Rattle.shared_tables.proofs.OnTrees.Planting.{root_child, root_frame}
use Rattle.shared_tables.proofs.OnTrees.TreesOfLemmas.{apart, differ, nothing_word, written_same, written_other, entry_same, entry_other, keys_gone, held_beside, leaf_there, tree_beside}

-- the only leaf of a tree goes
module _ (es : List (Option Held)) (w : Trees) (h : AreTreesOf es w) (e : Held) (s : ℕ) (here : entry_at es s ≡ Some e) (root : number_at w.leaves s < 1048576) where
  abbrev pub c : ℕ
  c = tree_of e.vid e.mac

  abbrev n : ℕ
  n = number_at w.leaves s

  abbrev at : ℕ → Target
  at = target_at w.words

  own : OwnTree es w c s
  own = own_tree es w h e s here

  at_root : at c ≡ target.Leaf s
  at_root = ap at (sym (place_root c n root)) ∙ leaf_place es w h s c c own.whole.tree (λ _. refl) own.whole.rooted (own.whole.members s ∙ own.keyed)

  pub place_lt : n < length w.words
  place_lt = omega (arith, root, h.sizes.words)

  abbrev es' : List (Option Held)
  es' = set es s None

  abbrev w' : Trees
  w' = cleared w c

  abbrev at' : ℕ → Target
  at' = target_at w'.words

  at_none : at' c ≡ target.Nothing
  at_none = written_same w.words c 4294967295 (omega (arith, own.in_range, h.sizes.words)) ∙ nothing_word

  at_else : (p : ℕ) → p ≢ c → at' p ≡ at p
  at_else p ne = written_other w.words c 4294967295 p ne

  child_same : (m z : ℕ) → at' (child_of m z) ≡ at (child_of m z)
  child_same m z = root_child w.words c 4294967295 own.in_range m z

  tree_is : own.whole.tree ≡ Leaf s
  tree_is = same_tree at (at c) own.whole.tree (Leaf s) own.whole.rooted at_root

  tree_mine : IsTreeOf es' w'.words c
  tree_mine = record {
    tree = None;
    rooted = at_none;
    parted = tt;
    members = λ i. by_bool (nat_eq i s)
        (λ yes. sym (ap (λ k. tree_key c (entry_at es' k)) (equal i s yes) ∙ ap (tree_key c) (entry_same es s None own.in_pool)))
        (λ no. sym (ap (tree_key c) (entry_other es s i None (apart i s no)) ∙ sym (own.whole.members i) ∙ ap (λ t. is_on i (leaves t)) tree_is ∙ ap (λ a. a || false) no));
    size = omega (arith, ap (λ t. length (leaves t)) tree_is, own.whole.size, one_more es c s None own.in_pool, weight_is c (entry_at es s) true own.keyed, weight_is c None false refl);
  }

  tree_other : (c' : ℕ) → c' < 1048576 → nat_eq c' c ≡ false → IsTreeOf es' w'.words c'
  tree_other c' clt ne =
      let k = h.numbered c' clt in
      tree_beside es w.words w'.words c' s None own.in_pool (tree_excl c c' ne (entry_at es s) own.keyed) refl k
      (subst (λ t. IsRooted at' t k.tree) (sym (at_else c' (apart c' c ne))) (root_frame w.words c 4294967295 own.in_range (at c') k.tree k.rooted))

  not_own : (p : ℕ) → p ≢ c → at p ≢ target.Leaf s
  not_own p ne q = ne (sym (leaf_alone es w h c p s own.keyed q) ∙ place_root c n root)

  forks_stay : (m : ℕ) → HasChildren w.words m → HasChildren w'.words m
  forks_stay m k = (λ q. k.0 (sym (child_same m 0) ∙ q), λ q. k.1 (sym (child_same m 1) ∙ q))

  stays : (p : ℕ) → p ≢ c → (t : Target) → at p ≡ t → StandsAt es w p t → StandsAt es' w' p t
  stays p ne target.Nothing q k = tt
  stays p ne (target.Leaf i) q k =
      let away : i ≢ s = λ r. not_own p ne (q ∙ ap target.Leaf r) in
      (k.0, held_beside es s i None away k.1)
  stays p ne (target.Fork m x) q k = (k.0, k.1, forks_stay m k.2)

  standing_at : (p : ℕ) → StandsAt es' w' p (at' p)
  standing_at p = by_bool (nat_eq p c)
      (λ yes. subst (λ q. StandsAt es' w' q (at' q)) (sym (equal p c yes)) (subst (StandsAt es' w' c) (sym at_none) tt))
      (λ no. subst (StandsAt es' w' p) (sym (at_else p (apart p c no))) (stays p (apart p c no) (at p) refl (h.stands p)))

  spare : Keeps w h.keeper n (1048576 + c)
  spare = subst (λ t. Keeps w h.keeper (spare_of w t) (1048576 + c)) at_root (h.spares c own.in_range (leaf_there (at c) s at_root))

  -- the slot keeps the tree's fork
  keeper' : ℕ → ℕ
  keeper' m = cond (nat_eq m n) s (h.keeper m)

  keeps : (m k : ℕ) → k ≢ 1048576 + c → Keeps w h.keeper m k → Keeps w' keeper' m k
  unfolding keeper'
  keeps m k ne was =
      let away : m ≢ n = λ q. ne (sym was.kept ∙ ap h.keeper q ∙ spare.kept) in
      record {
        there = was.there;
        kept = ap (λ a. cond a s (h.keeper m)) (differ m n away) ∙ was.kept;
        bare = (child_same m 0 ∙ was.bare.0, child_same m 1 ∙ was.bare.1);
      }

  keeps_own : Keeps w' keeper' n s
  unfolding keeper'
  keeps_own = record {
    there = spare.there;
    kept = ap (λ a. cond a s (h.keeper n)) (nat_eq_refl n);
    bare = (child_same n 0 ∙ spare.bare.0, child_same n 1 ∙ spare.bare.1);
  }

  frees : (i : ℕ) → i < length es' → entry_at es' i ≡ None → Keeps w' keeper' (number_at w'.leaves i) i
  frees i ilt is = by_bool (nat_eq i s)
      (λ yes. subst (λ k. Keeps w' keeper' (number_at w'.leaves k) k) (sym (equal i s yes)) keeps_own)
      (λ no.
      let few : length es < 1048577 = omega (arith, h.slots, h.sizes.few) in
      let away : i ≢ s = apart i s no in
      let within : i < length es = subst (λ z. i < z) (length-set es s None) ilt in
      keeps (number_at w.leaves i) i (λ q. absurd (omega (arith, q, within, few))) (h.frees i within (sym (entry_other es s i None away) ∙ is)))

  spares : (c' : ℕ) → c' < 1048576 → at' c' ≢ target.Nothing → Keeps w' keeper' (spare_of w' (at' c')) (1048576 + c')
  spares c' clt some =
      let ne : c' ≢ c = λ q. some (ap at' q ∙ at_none) in
      subst (λ t. Keeps w' keeper' (spare_of w' t) (1048576 + c')) (sym (at_else c' ne))
      (same_spare (at c') (keeps (spare_of w (at c')) (1048576 + c') (λ q. ne (omega (arith, q))) (h.spares c' clt (λ q. some (at_else c' ne ∙ q)))))
    where
      same_spare : (t : Target) → Keeps w' keeper' (spare_of w t) (1048576 + c') → Keeps w' keeper' (spare_of w' t) (1048576 + c')
      same_spare target.Nothing k = k
      same_spare (target.Leaf i) k = k
      same_spare (target.Fork m x) k = k

  pub clear_trees : AreTreesOf es' w'
  clear_trees = record {
    sizes = record {
      words = omega (arith, length-set w.words c 4294967295, h.sizes.words);
      leaves = h.sizes.leaves;
      few = h.sizes.few;
    };
    slots = omega (arith, h.slots, length-set es s None);
    keys = keys_gone es s own.in_pool h.keys;
    numbered = λ c' clt. by_bool (nat_eq c' c) (λ yes. subst (IsTreeOf es' w'.words) (sym (equal c' c yes)) tree_mine) (λ no. tree_other c' clt no);
    stands = standing_at;
    keeper = keeper';
    frees = frees;
    spares = spares;
  }

  -- where another key belongs, it belongs afterwards
  rooted_leads : (c' key : ℕ) (t : Option Tree) (leaf : Option ℕ) → leaf ≢ Some s → LeadsTo key t leaf → IsRooted at (at c') t → IsRooted at' (at' c') t
  rooted_leads c' key None leaf ne leads k = by_bool (nat_eq c' c) (λ yes. ap at' (equal c' c yes) ∙ at_none) (λ no. at_else c' (apart c' c no) ∙ k)
  rooted_leads c' key (Some t) None ne leads k = absurd leads
  rooted_leads c' key (Some t) (Some leaf) ne leads k = by_bool (nat_eq c' c)
      (λ yes.
      let is : t ≡ Leaf s = same_tree at (at c') t (Leaf s) k (ap at (equal c' c yes) ∙ at_root) in
      let same : s ≡ leaf = subst (λ u. descend key u ≡ leaf) is leads in
      absurd (ne (ap Some (sym same))))
      (λ no. subst (λ x. IsTree at' x t) (sym (at_else c' (apart c' c no))) (root_frame w.words c 4294967295 own.in_range (at c') (Some t) k))

  pub clear_belongs : (c' key : ℕ) (leaf : Option ℕ) → leaf ≢ Some s → Belongs w.words c' key leaf → Belongs w'.words c' key leaf
  clear_belongs c' key leaf ne b = record { tree = b.tree; rooted = rooted_leads c' key b.tree leaf ne b.leads b.rooted; leads = b.leads }
