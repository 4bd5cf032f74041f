-- What holds of the trees and the entries holds when a tree gets its first leaf.
use Rattle.std.proofs.Common.{◌≡◌, ◌≢◌, ℕ, ◌+◌, ◌<◌, true, false, cond, ◌||◌, List, length, set, Option, Some, None, nat_eq, refl, sym, ap, ◌∙◌, subst, arith}
use Rattle.std.proofs.lemmas.List.{length-set}
use Rattle.shared_tables.specs.declared.trees.Target.{Target}
use Rattle.shared_tables.specs.declared.trees.Target.TheVariants as target
use Rattle.shared_tables.specs.Bucket.{key_of, IsKey, tree_of}
use Rattle.shared_tables.specs.Pool.{Held, entry_at}
use Rattle.shared_tables.specs.Line.{is_on}
use Rattle.shared_tables.specs.Shared.{tree_key}
use Rattle.shared_tables.specs.Tree.{Tree, Leaf}
use Rattle.shared_tables.specs.TreeColumns.{Trees, target_at, number_at, child_of, planted}
use Rattle.shared_tables.specs.TreesOfSlots.{leaves_of, IsRooted, IsTreeOf, HasChildren, IsPlaced, StandsAt, spare_of, Keeps, AreTreesOf}
use Rattle.shared_tables.proofs.OnEntries.Linked.{by_bool, equal, nat_eq_refl}
use Rattle.shared_tables.proofs.OnTrees.Buckets.{tree_small, tree_excl}
use Rattle.shared_tables.proofs.OnTrees.TreeLemmas.{tree_there, tree_frame}
use Rattle.shared_tables.proofs.OnTrees.Grafting.{free_off, one_more, weight_is}
use Rattle.shared_tables.proofs.OnTrees.TreesOfLemmas.{apart, differ, leaf_word, written_same, written_other, entry_same, entry_other, keys_set, held_beside, held_here, not_free, tree_beside}

-- only the root of one tree changes
module _ (words : List ℕ) (c v : ℕ) (c_lt : c < 1048576) where
  pub root_child : (m s : ℕ) → target_at (set words c v) (child_of m s) ≡ target_at words (child_of m s)
  root_child m s = written_other words c v (child_of m s) (λ q. absurd (omega (arith, q, c_lt)))

  pub root_frame : (here : Target) (t : Option Tree) → IsRooted (target_at words) here t → IsRooted (target_at (set words c v)) here t
  root_frame here None h = h
  root_frame here (Some t) h = tree_frame (target_at words) (target_at (set words c v)) (λ m s lt. root_child m s) here t h

-- a free slot as the first leaf of a tree
module _ (es : List (Option Held)) (w : Trees) (h : AreTreesOf es w) (e : Held) (s : ℕ) (lt : s < length es) (free : entry_at es s ≡ None) (none : target_at w.words (tree_of e.vid e.mac) ≡ target.Nothing) where
  abbrev c : ℕ
  c = tree_of e.vid e.mac

  abbrev n : ℕ
  n = number_at w.leaves s

  abbrev at : ℕ → Target
  at = target_at w.words

  abbrev es' : List (Option Held)
  es' = set es s (Some e)

  abbrev w' : Trees
  w' = planted w c s

  abbrev at' : ℕ → Target
  at' = target_at w'.words

  c_lt : c < 1048576
  c_lt = tree_small e.vid e.mac

  s_lt : s < length w.leaves
  s_lt = omega (arith, lt, h.slots, h.sizes.leaves)

  own_fork : Keeps w h.keeper n s
  own_fork = h.frees s lt free

  at_root : at' c ≡ target.Leaf s
  at_root = written_same w.words c s (omega (arith, c_lt, h.sizes.words)) ∙ leaf_word s (omega (arith, lt, h.slots, h.sizes.few))

  at_else : (p : ℕ) → p ≢ c → at' p ≡ at p
  at_else p ne = written_other w.words c s p ne

  child_same : (m z : ℕ) → at' (child_of m z) ≡ at (child_of m z)
  child_same m z = root_child w.words c s c_lt m z

  keyed : tree_key c (Some e) ≡ true
  keyed = nat_eq_refl c

  old : IsTreeOf es w.words c
  old = h.numbered c c_lt

  -- the tree had no leaves
  empty : (t : Option Tree) → IsRooted at (at c) t → length (leaves_of t) ≡ 0 × ((i : ℕ) → is_on i (leaves_of t) ≡ false)
  empty None k = (refl, λ i. refl)
  empty (Some t) k = absurd (tree_there at (at c) t k none)

  tree_mine : IsTreeOf es' w'.words c
  tree_mine =
      let was = empty old.tree old.rooted in
      record {
        tree = Some (Leaf s);
        rooted = at_root;
        parted = tt;
        members = λ i. by_bool (nat_eq i s)
            (λ yes. ap (λ a. a || false) yes ∙ sym (ap (λ k. tree_key c (entry_at es' k)) (equal i s yes) ∙ ap (tree_key c) (entry_same es s (Some e) lt) ∙ keyed))
            (λ no. ap (λ a. a || false) no ∙ sym (was.1 i) ∙ old.members i ∙ sym (ap (tree_key c) (entry_other es s i (Some e) (apart i s no))));
        size = omega (arith, was.0, old.size, one_more es c s (Some e) lt, weight_is c (entry_at es s) false (free_off es c s free), weight_is c (Some e) true keyed);
      }

  tree_other : (c' : ℕ) → c' < 1048576 → nat_eq c' c ≡ false → IsTreeOf es' w'.words c'
  tree_other c' clt ne =
      let k = h.numbered c' clt in
      tree_beside es w.words w'.words c' s (Some e) lt (free_off es c' s free) (tree_excl c c' ne (Some e) keyed) k
      (subst (λ t. IsRooted at' t k.tree) (sym (at_else c' (apart c' c ne))) (root_frame w.words c s c_lt (at c') k.tree k.rooted))

  forks_stay : (m : ℕ) → HasChildren w.words m → HasChildren w'.words m
  forks_stay m k = (λ q. k.0 (sym (child_same m 0) ∙ q), λ q. k.1 (sym (child_same m 1) ∙ q))

  stays : (p : ℕ) (t : Target) → StandsAt es w p t → StandsAt es' w' p t
  stays p target.Nothing k = tt
  stays p (target.Leaf i) k = (k.0, held_beside es s i (Some e) (not_free es i s k.1 free) k.1)
  stays p (target.Fork m x) k = (k.0, k.1, forks_stay m k.2)

  -- the slot's number is the fork that it kept
  root_placed : IsPlaced n c
  root_placed = record { behind = λ le. absurd (omega (arith, le, c_lt)); root = λ _. omega (arith, own_fork.there, h.sizes.few) }

  standing_at : (p : ℕ) → StandsAt es' w' p (at' p)
  standing_at p = by_bool (nat_eq p c)
      (λ yes. subst (λ q. StandsAt es' w' q (at' q)) (sym (equal p c yes)) (subst (StandsAt es' w' c) (sym at_root) (root_placed, held_here es s e lt)))
      (λ no. subst (StandsAt es' w' p) (sym (at_else p (apart p c no))) (stays p (at p) (h.stands p)))

  -- the tree keeps the slot's fork
  keeper' : ℕ → ℕ
  keeper' m = cond (nat_eq m n) (1048576 + c) (h.keeper m)

  keeps : (m k : ℕ) → k ≢ s → Keeps w h.keeper m k → Keeps w' keeper' m k
  unfolding keeper'
  keeps m k ne was =
      let away : m ≢ n = λ q. ne (sym was.kept ∙ ap h.keeper q ∙ own_fork.kept) in
      record {
        there = was.there;
        kept = ap (λ a. cond a (1048576 + c) (h.keeper m)) (differ m n away) ∙ was.kept;
        bare = (child_same m 0 ∙ was.bare.0, child_same m 1 ∙ was.bare.1);
      }

  keeps_own : Keeps w' keeper' n (1048576 + c)
  unfolding keeper'
  keeps_own = record {
    there = own_fork.there;
    kept = ap (λ a. cond a (1048576 + c) (h.keeper n)) (nat_eq_refl n);
    bare = (child_same n 0 ∙ own_fork.bare.0, child_same n 1 ∙ own_fork.bare.1);
  }

  frees : (i : ℕ) → i < length es' → entry_at es' i ≡ None → Keeps w' keeper' (number_at w'.leaves i) i
  frees i ilt is =
      let away : i ≢ s = λ q. let bad : Some e ≡ None = sym (entry_same es s (Some e) lt) ∙ ap (entry_at es') (sym q) ∙ is in cc in
      keeps (number_at w.leaves i) i away (h.frees i (subst (λ z. i < z) (length-set es s (Some e)) ilt) (sym (entry_other es s i (Some e) away) ∙ is))

  spares : (c' : ℕ) → c' < 1048576 → at' c' ≢ target.Nothing → Keeps w' keeper' (spare_of w' (at' c')) (1048576 + c')
  spares c' clt some = by_bool (nat_eq c' c)
      (λ yes. subst (λ x. Keeps w' keeper' (spare_of w' (at' x)) (1048576 + x)) (sym (equal c' c yes)) (subst (λ t. Keeps w' keeper' (spare_of w' t) (1048576 + c)) (sym at_root) keeps_own))
      (λ no.
      let few : length es < 1048577 = omega (arith, h.slots, h.sizes.few) in
      let stays_there : at' c' ≡ at c' = at_else c' (apart c' c no) in
      subst (λ t. Keeps w' keeper' (spare_of w' t) (1048576 + c')) (sym stays_there)
      (same_spare (at c') (keeps (spare_of w (at c')) (1048576 + c') (λ q. absurd (omega (arith, q, lt, few))) (h.spares c' clt (λ q. some (stays_there ∙ q))))))
    where
      same_spare : (t : Target) → Keeps w' keeper' (spare_of w t) (1048576 + c') → Keeps w' keeper' (spare_of w' t) (1048576 + c')
      same_spare target.Nothing k = k
      same_spare (target.Leaf i) k = k
      same_spare (target.Fork m x) k = k

  pub plant_trees : IsKey (key_of e.vid e.mac) → AreTreesOf es' w'
  plant_trees own = record {
    sizes = record {
      words = omega (arith, length-set w.words c s, h.sizes.words);
      leaves = h.sizes.leaves;
      few = h.sizes.few;
    };
    slots = omega (arith, h.slots, length-set es s (Some e));
    keys = keys_set es s (Some e) lt own h.keys;
    numbered = λ c' clt. by_bool (nat_eq c' c) (λ yes. subst (IsTreeOf es' w'.words) (sym (equal c' c yes)) tree_mine) (λ no. tree_other c' clt no);
    stands = standing_at;
    keeper = keeper';
    frees = frees;
    spares = spares;
  }
