-- Where what has a number stands, and that it stands there alone.
use Rattle.std.proofs.Common.{inl, inr, ◌⊎◌, ◌≡◌, ◌≢◌, ℕ, ◌<◌, ◌≤◌, true, false, cond, List, length, Option, Some, None, nat_lt, refl, sym, ap, ◌∙◌, subst, arith}
use Rattle.std.proofs.lemmas.Bool.{cases_lt}
use Rattle.std.proofs.lemmas.Bool.Decides.{nat_tests}
use Rattle.shared_tables.specs.declared.trees.Target.{Target}
use Rattle.shared_tables.specs.declared.trees.Target.TheVariants as target
use Rattle.shared_tables.specs.Bucket.{tree_of}
use Rattle.shared_tables.specs.Pool.{Held, entry_at}
use Rattle.shared_tables.specs.Line.{is_on}
use Rattle.shared_tables.specs.Shared.{tree_key}
use Rattle.shared_tables.specs.Tree.{Tree, Leaf, Fork, leaves, IsTree, descend}
use Rattle.shared_tables.specs.TreeColumns.{Trees, target_at, number_at, child_of, place_by}
use Rattle.shared_tables.specs.TreesOfSlots.{leaves_of, IsRooted, IsPlaced, StandsAt, AreTreesOf}
use Rattle.shared_tables.proofs.OnEntries.Linked.{by_bool, nat_eq_refl}
use Rattle.shared_tables.proofs.OnEntries.Threaded.{in_entries}
use Rattle.shared_tables.proofs.OnTrees.Buckets.{tree_same, tree_small}
use Rattle.shared_tables.proofs.OnTrees.TreeLemmas.{same_tree, tree_there, tree_leaf, only_leaf, other_right, on_left, descend_on}
use Rattle.shared_tables.proofs.OnTrees.TreesOfLemmas.{leaf_there, fork_stands, HasTree, some_tree}

-- a slot, and the tree in which the entry stands that it holds
pub record OwnTree (es : List (Option Held)) (w : Trees) (c s : ℕ) : Type 0 where
  pub in_range : c < 1048576
  pub keyed : tree_key c (entry_at es s) ≡ true
  pub in_pool : s < length es
  pub has_leaf : s < length w.leaves
  pub whole : HasTree es w.words c

pub own_tree : (es : List (Option Held)) (w : Trees) → AreTreesOf es w → (e : Held) (s : ℕ) → entry_at es s ≡ Some e → OwnTree es w (tree_of e.vid e.mac) s
own_tree es w h e s here =
    let c = tree_of e.vid e.mac in
    let in_range : c < 1048576 = tree_small e.vid e.mac in
    let keyed : tree_key c (entry_at es s) ≡ true = ap (tree_key c) here ∙ nat_eq_refl c in
    let in_pool : s < length es = in_entries (tree_key c) refl es s keyed in
    let old = h.numbered c in_range in
    record {
      in_range = in_range;
      keyed = keyed;
      in_pool = in_pool;
      has_leaf = omega (arith, in_pool, h.slots, h.sizes.leaves);
      whole = some_tree es w.words c (there (target_at w.words) c old.tree (old.members s ∙ keyed) old.rooted) old;
    }
  where
    there : (at : ℕ → Target) (c : ℕ) (t : Option Tree) → is_on s (leaves_of t) ≡ true → IsRooted at (at c) t → at c ≢ target.Nothing
    there at c None on k = let bad : false ≡ true = on in cc
    there at c (Some t) on k = tree_there at (at c) t k

-- a small number is that of what stands at a root
pub place_root : (c n : ℕ) → n < 1048576 → place_by c n ≡ c
unfolding place_by
place_root c n lt =
    let yes : nat_lt n 1048576 ≡ true = grind (arith, nat_tests, lt) in
    ap (λ b. cond b c n) yes

-- each other one is a place
pub place_behind : (c n : ℕ) → 1048576 ≤ n → place_by c n ≡ n
unfolding place_by
place_behind c n le =
    let no : nat_lt n 1048576 ≡ false = grind (arith, nat_tests, le) in
    ap (λ b. cond b c n) no

-- a number says a place of a tree
pub placed : (c p n : ℕ) → (p < 1048576 → p ≡ c) → IsPlaced n p → place_by c n ≡ p
placed c p n home k = from (cases_lt p 1048576)
  where
    from : (p < 1048576) ⊎ (1048576 ≤ p) → place_by c n ≡ p
    from (inl lt) = place_root c n (k.root lt) ∙ sym (home lt)
    from (inr le) = place_behind c n (omega (arith, le, k.behind le)) ∙ k.behind le

-- a place behind a fork is its own number
pub placed_child : (p : ℕ) → 1048576 ≤ p → IsPlaced p p
placed_child p le = record { behind = λ _. refl; root = λ lt. absurd (omega (arith, lt, le)) }

-- no other place has its number
pub placed_alone : (n p q : ℕ) → 1048576 ≤ q → IsPlaced n p → IsPlaced n q → p ≡ q
placed_alone n p q le k j = from (cases_lt p 1048576)
  where
    from : (p < 1048576) ⊎ (1048576 ≤ p) → p ≡ q
    from (inl lt) = absurd (omega (arith, k.root lt, j.behind le, le))
    from (inr behind) = sym (k.behind behind) ∙ j.behind le

module _ (es : List (Option Held)) (w : Trees) (h : AreTreesOf es w) where
  abbrev at : ℕ → Target
  at = target_at w.words

  pub leaf_placed : (p i : ℕ) → at p ≡ target.Leaf i → IsPlaced (number_at w.leaves i) p
  leaf_placed p i q = (subst (StandsAt es w p) q (h.stands p)).0

  pub fork_placed : (p n b : ℕ) → at p ≡ target.Fork n b → IsPlaced (number_at w.forks n) p
  fork_placed p n b q = (subst (StandsAt es w p) q (h.stands p)).0

  -- a leaf of a tree stands where its number says
  pub leaf_place : (i c p : ℕ) (t : Tree) → (p < 1048576 → p ≡ c) → IsTree at (at p) t → is_on i (leaves t) ≡ true → at (place_by c (number_at w.leaves i)) ≡ target.Leaf i
  leaf_place i c p (Leaf j) home k on =
      let same = only_leaf i j on in
      ap (λ x. at (place_by c (number_at w.leaves x))) same ∙ ap at (placed c p (number_at w.leaves j) home (leaf_placed p j k)) ∙ k ∙ ap target.Leaf (sym same)
  leaf_place i c p (Fork n b l r) home k on = by_bool (is_on i (leaves l))
      (λ yes. leaf_place i c (child_of n 0) l (λ lt. absurd (omega (arith, lt))) k.1 yes)
      (λ no. leaf_place i c (child_of n 1) r (λ lt. absurd (omega (arith, lt))) k.2 (other_right i n b l r on no))

  -- the root at which a slot stands is that of its tree
  pub leaf_root : (c p i : ℕ) → tree_key c (entry_at es i) ≡ true → at p ≡ target.Leaf i → p < 1048576 → p ≡ c
  leaf_root c p i keyed q lt =
      let k = some_tree es w.words p (leaf_there (at p) i q) (h.numbered p lt) in
      tree_same p c (entry_at es i) (sym (k.members i) ∙ tree_leaf at (at p) i k.tree q k.rooted) keyed

  -- a slot stands at one place
  pub leaf_alone : (c p i : ℕ) → tree_key c (entry_at es i) ≡ true → at p ≡ target.Leaf i → place_by c (number_at w.leaves i) ≡ p
  leaf_alone c p i keyed q = placed c p (number_at w.leaves i) (leaf_root c p i keyed q) (leaf_placed p i q)

  -- a fork that stands at two roots has leaves of both trees
  fork_root : (p q n b d : ℕ) → at p ≡ target.Fork n b → at q ≡ target.Fork n d → p < 1048576 → q < 1048576 → p ≡ q
  fork_root p q n b d one two plt qlt =
      let k = some_tree es w.words p (fork_stands (at p) n b one) (h.numbered p plt) in
      let j = some_tree es w.words q (fork_stands (at q) n d two) (h.numbered q qlt) in
      from k.tree j.tree k.rooted j.rooted k.members j.members
    where
      from : (t u : Tree) → IsTree at (at p) t → IsTree at (at q) u → ((i : ℕ) → is_on i (leaves t) ≡ tree_key p (entry_at es i)) → ((i : ℕ) → is_on i (leaves u) ≡ tree_key q (entry_at es i)) → p ≡ q
      from (Leaf i) u k j m o = let bad : target.Fork n b ≡ target.Leaf i = sym one ∙ k in cc
      from (Fork x a l r) (Leaf i) k j m o = let bad : target.Fork n d ≡ target.Leaf i = sym two ∙ j in cc
      from (Fork x a l r) (Fork y e l' r') k j m o =
          let is : target.Fork n b ≡ target.Fork x a = sym one ∙ k.0 in
          let so : target.Fork n d ≡ target.Fork y e = sym two ∙ j.0 in
          let same : x ≡ y = cc in
          let left : l ≡ l' = same_tree at (at (child_of y 0)) l l' (subst (λ z. IsTree at (at (child_of z 0)) l) same k.1) j.1 in
          let i = descend 0 l in
          let here : is_on i (leaves (Fork x a l r)) ≡ true = on_left i x a l r (descend_on 0 l) in
          let there : is_on i (leaves (Fork y e l' r')) ≡ true = on_left i y e l' r' (subst (λ t. is_on i (leaves t) ≡ true) left (descend_on 0 l)) in
          tree_same p q (entry_at es i) (sym (m i) ∙ here) (sym (o i) ∙ there)

  -- a fork stands at one place
  pub fork_alone : (p q n b d : ℕ) → at p ≡ target.Fork n b → at q ≡ target.Fork n d → p ≡ q
  fork_alone p q n b d one two = from (cases_lt p 1048576) (cases_lt q 1048576)
    where
      from : (p < 1048576) ⊎ (1048576 ≤ p) → (q < 1048576) ⊎ (1048576 ≤ q) → p ≡ q
      from (inl plt) (inl qlt) = fork_root p q n b d one two plt qlt
      from k (inr le) = placed_alone (number_at w.forks n) p q le (fork_placed p n b one) (fork_placed q n d two)
      from (inr le) (inl qlt) = sym (placed_alone (number_at w.forks n) q p le (fork_placed q n d two) (fork_placed p n b one))
