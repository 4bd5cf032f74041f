-- What holds of the trees and the entries holds when a leaf beside others has gone.
use Rattle.std.proofs.Common.{inl, inr, ◌⊎◌, ◌≡◌, ◌≢◌, ℕ, ◌+◌, ◌-◌, ◌/◌, ◌%◌, ◌<◌, ◌≤◌, Bool, true, false, cond, List, length, set, get_or, Option, Some, None, nat_eq, refl, sym, ap, ◌∙◌, subst, arith, length-append}
use Rattle.std.proofs.lemmas.List.{length-set}
use Rattle.shared_tables.specs.declared.trees.Target.{Target}
use Rattle.shared_tables.specs.declared.trees.Target.TheVariants as target
use Rattle.shared_tables.specs.Bucket.{tree_of}
use Rattle.shared_tables.specs.Pool.{Held, entry_at}
use Rattle.shared_tables.specs.Line.{is_on}
use Rattle.shared_tables.specs.Shared.{tree_key}
use Rattle.shared_tables.specs.Tree.{Tree, Leaf, Fork, leaves, IsTree, descend, without}
use Rattle.shared_tables.specs.TreeColumns.{Trees, Names, target_at, number_at, child_of, place_by, standing, pruned}
use Rattle.shared_tables.specs.TreesOfSlots.{keys_of, key_in, leaves_of, IsRooted, AnyParted, LeadsTo, IsTreeOf, Belongs, HasChildren, IsPlaced, StandsAt, spare_of, Keeps, AreTreesOf}
use Rattle.shared_tables.proofs.OnEntries.Linked.{by_bool, equal, nat_eq_refl}
use Rattle.shared_tables.proofs.OnTrees.Buckets.{tree_excl}
use Rattle.shared_tables.proofs.OnTrees.TreeLemmas.{true_false, by_side, same_tree, some_leaf, tree_there, only_leaf, other_right, descend_own, parted_frame, prune_length, prune_parted, prune_on, prune_off, prune_leads, pruned_to, prune_frame_at, left_tree, IsLeft, IsShorter}
use Rattle.shared_tables.proofs.OnTrees.Grafting.{one_more, weight_is}
use Rattle.shared_tables.proofs.OnTrees.Places.{OwnTree, own_tree, place_behind, placed, placed_alone, leaf_placed, fork_placed, leaf_place, leaf_alone, fork_alone}
use Rattle.shared_tables.proofs.OnTrees.TreesOfLemmas.{apart, differ, nothing_word, in_words, written_same, written_other, number_same, number_other, entry_same, entry_other, keys_gone, held_beside, not_free, leaf_there, fork_stands, tree_beside, some_tree, of_some_tree, belongs_leads}

-- a target that isn't the fork stays
to_same : (fork : ℕ) (rest t : Target) → ((b : ℕ) → t ≢ target.Fork fork b) → pruned_to fork rest t ≡ t
to_same fork rest target.Nothing ne = refl
to_same fork rest (target.Leaf i) ne = refl
to_same fork rest (target.Fork m c) ne = ap (λ a. cond a rest (target.Fork m c)) (differ m fork (λ q. ne c (ap (λ k. target.Fork k c) q)))

to_rest : (fork b : ℕ) (rest : Target) → pruned_to fork rest (target.Fork fork b) ≡ rest
to_rest fork b rest = ap (λ a. cond a rest (target.Fork fork b)) (nat_eq_refl fork)

to_there : (fork : ℕ) (rest t : Target) → rest ≢ target.Nothing → t ≢ target.Nothing → pruned_to fork rest t ≢ target.Nothing
to_there fork rest target.Nothing r ne e = ne refl
to_there fork rest (target.Leaf i) r ne e = ne e
to_there fork rest (target.Fork m c) r ne e = go (nat_eq m fork) e
  where
    go : (a : Bool) → cond a rest (target.Fork m c) ≡ target.Nothing → ⊥
    go true e = r e
    go false e = ne e

-- where a target stands, others stay where they stood
standing_leaf : (t : Target) (place : ℕ) (w : Trees) (i : ℕ) → t ≢ target.Leaf i → number_at (standing t place w).leaves i ≡ number_at w.leaves i
standing_leaf target.Nothing place w i ne = refl
standing_leaf (target.Leaf j) place w i ne = number_other w.leaves j place i (λ q. ne (ap target.Leaf (sym q)))
standing_leaf (target.Fork m c) place w i ne = refl

standing_fork : (t : Target) (place : ℕ) (w : Trees) (n : ℕ) → ((b : ℕ) → t ≢ target.Fork n b) → number_at (standing t place w).forks n ≡ number_at w.forks n
standing_fork target.Nothing place w n ne = refl
standing_fork (target.Leaf j) place w n ne = refl
standing_fork (target.Fork m c) place w n ne = number_other w.forks m place n (λ q. ne c (ap (λ k. target.Fork k c) (sym q)))

standing_leaves : (t : Target) (place : ℕ) (w : Trees) → length (standing t place w).leaves ≡ length w.leaves
standing_leaves target.Nothing place w = refl
standing_leaves (target.Leaf j) place w = length-set w.leaves j place
standing_leaves (target.Fork m c) place w = refl

standing_forks : (t : Target) (place : ℕ) (w : Trees) → length (standing t place w).forks ≡ length w.forks
standing_forks target.Nothing place w = refl
standing_forks (target.Leaf j) place w = refl
standing_forks (target.Fork m c) place w = length-set w.forks m place

-- where a fork of a tree stands
record ForkPlace (at : ℕ → Target) (c fork : ℕ) : Type 0 where
  place : ℕ
  home : place < 1048576 → place ≡ c
  bit : ℕ
  here : at place ≡ target.Fork fork bit
  tree : Tree
  stands : IsTree at (at place) tree

-- the fork before a leaf that stands behind one
fork_before : (at : ℕ → Target) (c s fork side : ℕ) → side < 2 → ((p : ℕ) → at p ≡ target.Leaf s → p ≡ child_of fork side) → (p : ℕ) (t : Tree) → (p < 1048576 → p ≡ c) → IsTree at (at p) t → is_on s (leaves t) ≡ true → (at p ≡ target.Leaf s) ⊎ ForkPlace at c fork
fork_before at c s fork side two only p (Leaf i) home h on = inl (h ∙ ap target.Leaf (sym (only_leaf s i on)))
fork_before at c s fork side two only p (Fork n b l r) home h on = by_bool (is_on s (leaves l))
    (λ yes. from 0 (omega arith) (fork_before at c s fork side two only (child_of n 0) l (λ lt. absurd (omega (arith, lt))) h.1 yes))
    (λ no. from 1 (omega arith) (fork_before at c s fork side two only (child_of n 1) r (λ lt. absurd (omega (arith, lt))) h.2 (other_right s n b l r on no)))
  where
    from : (z : ℕ) → z < 2 → (at (child_of n z) ≡ target.Leaf s) ⊎ ForkPlace at c fork → (at p ≡ target.Leaf s) ⊎ ForkPlace at c fork
    from z zlt (inl q) =
        let same : n ≡ fork = omega (arith, only (child_of n z) q, zlt, two) in
        inr (record { place = p; home = home; bit = b; here = h.0 ∙ ap (λ k. target.Fork k b) same; tree = Fork n b l r; stands = h })
    from z zlt (inr k) = inr k

module _ (es : List (Option Held)) (w : Trees) (h : AreTreesOf es w) (e : Held) (s : ℕ) (here : entry_at es s ≡ Some e) (behind : 1048576 ≤ number_at w.leaves s) where
  abbrev c : ℕ
  c = tree_of e.vid e.mac

  abbrev place : ℕ
  place = number_at w.leaves s

  abbrev fork : ℕ
  fork = (place - 1048576) / 2

  abbrev side : ℕ
  side = (place - 1048576) % 2

  abbrev at : ℕ → Target
  at = target_at w.words

  abbrev es' : List (Option Held)
  es' = set es s None

  abbrev w' : Trees
  w' = pruned w c fork side s

  abbrev at' : ℕ → Target
  at' = target_at w'.words

  two : side < 2
  two = omega arith

  place_is : place ≡ child_of fork side
  place_is = omega (arith, behind)

  own : OwnTree es w c s
  own = own_tree es w h e s here

  on_mine : is_on s (leaves own.whole.tree) ≡ true
  on_mine = own.whole.members s ∙ own.keyed

  at_place : at place ≡ target.Leaf s
  at_place = ap at (sym (place_behind c place behind)) ∙ leaf_place es w h s c c own.whole.tree (λ _. refl) own.whole.rooted on_mine

  at_own : at (child_of fork side) ≡ target.Leaf s
  at_own = ap at (sym place_is) ∙ at_place

  pub place_lt : place < length w.words
  place_lt = in_words w.words place (leaf_there (at place) s at_place)

  fork_lt : fork < length w.forks
  fork_lt = omega (arith, place_lt, behind, h.sizes.words)

  only : (p : ℕ) → at p ≡ target.Leaf s → p ≡ child_of fork side
  only p q = sym (leaf_alone es w h c p s own.keyed q) ∙ place_behind c place behind ∙ place_is

  not_root : at c ≢ target.Leaf s
  not_root q = omega (arith, sym (place_behind c place behind) ∙ leaf_alone es w h c c s own.keyed q, behind, own.in_range)

  before : ForkPlace at c fork
  before = from (fork_before at c s fork side two only c own.whole.tree (λ _. refl) own.whole.rooted on_mine)
    where
      from : (at c ≡ target.Leaf s) ⊎ ForkPlace at c fork → ForkPlace at c fork
      from (inl q) = absurd (not_root q)
      from (inr k) = k

  abbrev above : ℕ
  above = number_at w.forks fork

  -- where it stands
  abbrev top : ℕ
  top = place_by c above

  top_is : top ≡ before.place
  top_is = placed c before.place above before.home (fork_placed es w h before.place fork before.bit before.here)

  at_above : at top ≡ target.Fork fork before.bit
  at_above = ap at top_is ∙ before.here

  above_placed : IsPlaced above top
  above_placed = fork_placed es w h top fork before.bit at_above

  above_there : at top ≢ target.Nothing
  above_there = fork_stands (at top) fork before.bit at_above

  pub above_lt : top < length w.words
  above_lt = in_words w.words top above_there

  children : HasChildren w.words fork
  children = (subst (StandsAt es w before.place) before.here (h.stands before.place)).2

  abbrev rest : Target
  rest = at (child_of fork (1 - side))

  other_lt : 1 - side < 2
  other_lt = omega arith

  rest_there : rest ≢ target.Nothing
  rest_there = by_side side two
      (λ z. subst (λ x. at (child_of fork (1 - x)) ≢ target.Nothing) (sym z) children.1)
      (λ o. subst (λ x. at (child_of fork (1 - x)) ≢ target.Nothing) (sym o) children.0)

  rest_not : rest ≢ target.Leaf s
  rest_not q = omega (arith, only (child_of fork (1 - side)) q, two)

  -- a fork isn't behind itself
  shorter : (b : ℕ) (t : Tree) → IsTree at (target.Fork fork b) t → (z : ℕ) → z < 2 → at (child_of fork z) ≢ target.Fork fork b
  shorter b (Leaf i) k z zlt q = let bad : target.Fork fork b ≡ target.Leaf i = k in cc
  shorter b (Fork m x l r) k z zlt q =
      let p : target.Fork fork b ≡ target.Fork m x = k.0 in
      let same : m ≡ fork = cc in
      by_side z zlt
      (λ e0. let l_is : l ≡ Fork m x l r = same_tree at (target.Fork fork b) l (Fork m x l r) (subst (λ y. IsTree at y l) (ap (λ n. at (child_of n 0)) same ∙ ap (λ y. at (child_of fork y)) (sym e0) ∙ q) k.1) k in
      absurd (omega (arith, ap (λ t. length (leaves t)) l_is, length-append (leaves l) (leaves r), some_leaf r)))
      (λ e1. let r_is : r ≡ Fork m x l r = same_tree at (target.Fork fork b) r (Fork m x l r) (subst (λ y. IsTree at y r) (ap (λ n. at (child_of n 1)) same ∙ ap (λ y. at (child_of fork y)) (sym e1) ∙ q) k.2) k in
      absurd (omega (arith, ap (λ t. length (leaves t)) r_is, length-append (leaves l) (leaves r), some_leaf l)))

  -- it stands at no place of its own
  not_behind : (z : ℕ) → z < 2 → top ≢ child_of fork z
  not_behind z zlt q = shorter before.bit before.tree (subst (λ y. IsTree at y before.tree) before.here before.stands) z zlt (ap at (sym q) ∙ at_above)

  -- where it stands alone
  fork_only : (p b : ℕ) → at p ≡ target.Fork fork b → p ≡ top
  fork_only p b q = fork_alone es w h p top fork b before.bit q at_above

  rest_not_fork : (b : ℕ) → rest ≢ target.Fork fork b
  rest_not_fork b q = not_behind (1 - side) other_lt (sym (fork_only (child_of fork (1 - side)) b q))

  -- ---- what stands where

  child_lt : (z : ℕ) → z < 2 → child_of fork z < length w.words
  child_lt z q = omega (arith, q, h.sizes.words, fork_lt)

  abbrev sibling : ℕ
  sibling = get_or w.words (child_of fork (1 - side)) 4294967295

  abbrev words1 : List ℕ
  words1 = set w.words top sibling

  abbrev words2 : List ℕ
  words2 = set words1 (child_of fork 0) 4294967295

  words1_len : length words1 ≡ length w.words
  words1_len = length-set w.words top sibling

  words2_len : length words2 ≡ length w.words
  words2_len = length-set words1 (child_of fork 0) 4294967295 ∙ words1_len

  sides_apart : child_of fork 0 ≢ child_of fork 1
  sides_apart q = omega (arith, q)

  at_one : at' (child_of fork 1) ≡ target.Nothing
  at_one = written_same words2 (child_of fork 1) 4294967295 (omega (arith, child_lt 1 (omega arith), words2_len)) ∙ nothing_word

  at_zero : at' (child_of fork 0) ≡ target.Nothing
  at_zero = written_other words2 (child_of fork 1) 4294967295 (child_of fork 0) sides_apart ∙ written_same words1 (child_of fork 0) 4294967295 (omega (arith, child_lt 0 (omega arith), words1_len)) ∙ nothing_word

  at_rest : at' top ≡ rest
  at_rest =
      written_other words2 (child_of fork 1) 4294967295 top (not_behind 1 (omega arith))
      ∙ written_other words1 (child_of fork 0) 4294967295 top (not_behind 0 (omega arith))
      ∙ written_same w.words top sibling above_lt

  at_else : (p : ℕ) → p ≢ top → p ≢ child_of fork 0 → p ≢ child_of fork 1 → at' p ≡ at p
  at_else p q r t = written_other words2 (child_of fork 1) 4294967295 p t ∙ written_other words1 (child_of fork 0) 4294967295 p r ∙ written_other w.words top sibling p q

  moves : (p : ℕ) → at p ≢ target.Nothing → p ≢ child_of fork 0 → p ≢ child_of fork 1 → at' p ≡ pruned_to fork rest (at p)
  moves p some r t = by_bool (nat_eq p top)
      (λ yes. ap at' (equal p top yes) ∙ at_rest ∙ sym (to_rest fork before.bit rest) ∙ ap (pruned_to fork rest) (sym at_above) ∙ ap (λ q. pruned_to fork rest (at q)) (sym (equal p top yes)))
      (λ no. at_else p (apart p top no) r t ∙ sym (to_same fork rest (at p) (λ b q. apart p top no (fork_only p b q))))

  moves_there : (p : ℕ) → at p ≢ target.Nothing → p ≢ child_of fork 0 → p ≢ child_of fork 1 → at' p ≢ target.Nothing
  moves_there p some r t = subst (λ y. y ≢ target.Nothing) (sym (moves p some r t)) (to_there fork rest (at p) rest_there some)

  root_not : (p z : ℕ) → p < 1048576 → p ≢ child_of fork z
  root_not p z plt q = omega (arith, plt, q)

  -- ---- the trees

  abbrev left : Option Tree
  left = without (keys_of es s) own.whole.tree

  own_way : descend (keys_of es s) own.whole.tree ≡ s
  own_way = descend_own (keys_of es) s own.whole.tree own.whole.parted on_mine

  off_left : is_on s (leaves_of left) ≡ false
  off_left = prune_off (keys_of es) s own.whole.tree own.whole.parted on_mine

  tree_left : (o : Option Tree) → left ≡ o → IsTreeOf es' w'.words c
  tree_left o is = from o is
      (subst (IsShorter (length (leaves own.whole.tree))) is (prune_length (keys_of es s) own.whole.tree))
      (subst (AnyParted (keys_of es)) is (prune_parted (keys_of es s) (keys_of es) own.whole.tree own.whole.parted))
      (subst (λ u. is_on s (leaves_of u) ≡ false) is off_left)
      (λ j ne. subst (λ u. is_on j (leaves_of u) ≡ is_on j (leaves own.whole.tree)) is (prune_on (keys_of es s) j s own.whole.tree ne own_way))
      (subst (IsLeft at at' s fork side two at_own moves (keys_of es) only (at c)) is (left_tree at at' s fork side two at_own moves (keys_of es) only (at c) own.whole.tree own.whole.rooted own.whole.parted on_mine))
    where
      from : (o : Option Tree) → left ≡ o → IsShorter (length (leaves own.whole.tree)) o → AnyParted (keys_of es) o → is_on s (leaves_of o) ≡ false
          → ((j : ℕ) → nat_eq j s ≡ false → is_on j (leaves_of o) ≡ is_on j (leaves own.whole.tree)) → IsLeft at at' s fork side two at_own moves (keys_of es) only (at c) o → IsTreeOf es' w'.words c
      from None is short parted off on k = absurd (not_root k)
      from (Some u) is short parted off on k =
          let same : (i : ℕ) → is_on i (leaves u) ≡ true → keys_of es' i ≡ keys_of es i = λ i there. ap key_in (entry_other es s i None (λ q. true_false (is_on i (leaves u)) there (ap (λ j. is_on j (leaves u)) q ∙ off))) in
          of_some_tree es' w'.words c (record {
            tree = u;
            rooted = subst (λ y. IsTree at' y u) (sym (moves c (tree_there at (at c) own.whole.tree own.whole.rooted) (root_not c 0 own.in_range) (root_not c 1 own.in_range))) k.1;
            parted = parted_frame (keys_of es) (keys_of es') u same parted;
            members = λ i. by_bool (nat_eq i s)
                (λ yes. ap (λ j. is_on j (leaves u)) (equal i s yes) ∙ off ∙ sym (ap (λ j. tree_key c (entry_at es' j)) (equal i s yes) ∙ ap (tree_key c) (entry_same es s None own.in_pool)))
                (λ no. on i no ∙ own.whole.members i ∙ sym (ap (tree_key c) (entry_other es s i None (apart i s no))));
            size = omega (arith, short, own.whole.size, one_more es c s None own.in_pool, weight_is c (entry_at es s) true own.keyed, weight_is c None false refl);
          })

  nothing_stays : (p : ℕ) → p < 1048576 → at p ≡ target.Nothing → at' p ≡ target.Nothing
  nothing_stays p plt q = at_else p (λ r. above_there (ap at (sym r) ∙ q)) (root_not p 0 plt) (root_not p 1 plt) ∙ q

  rooted_other : (c' : ℕ) → c' < 1048576 → (t : Option Tree) → is_on s (leaves_of t) ≡ false → IsRooted at (at c') t → IsRooted at' (at' c') t
  rooted_other c' clt None off k = nothing_stays c' clt k
  rooted_other c' clt (Some t) off k = prune_frame_at at at' s fork side two at_own moves c' clt t k off

  tree_other : (c' : ℕ) → c' < 1048576 → nat_eq c' c ≡ false → IsTreeOf es' w'.words c'
  tree_other c' clt ne =
      let k = h.numbered c' clt in
      let off : tree_key c' (entry_at es s) ≡ false = tree_excl c c' ne (entry_at es s) own.keyed in
      tree_beside es w.words w'.words c' s None own.in_pool off refl k (rooted_other c' clt k.tree (k.members s ∙ off) k.rooted)

  numbered : (c' : ℕ) → c' < 1048576 → IsTreeOf es' w'.words c'
  numbered c' clt = by_bool (nat_eq c' c) (λ yes. subst (IsTreeOf es' w'.words) (sym (equal c' c yes)) (tree_left left refl)) (λ no. tree_other c' clt no)

  -- ---- who stands where

  abbrev moved : Trees
  moved = standing rest above w

  leaves_len : length w'.leaves ≡ length w.leaves
  leaves_len = length-set moved.leaves s fork ∙ standing_leaves rest above w

  forks_len : length w'.forks ≡ length w.forks
  forks_len = standing_forks rest above w

  number_own : number_at w'.leaves s ≡ fork
  number_own = number_same moved.leaves s fork (omega (arith, own.has_leaf, standing_leaves rest above w))

  number_else : (i : ℕ) → i ≢ s → rest ≢ target.Leaf i → number_at w'.leaves i ≡ number_at w.leaves i
  number_else i ne q = number_other moved.leaves s fork i ne ∙ standing_leaf rest above w i q

  not_child : (m z y : ℕ) → z < 2 → y < 2 → m ≢ fork → child_of m z ≢ child_of fork y
  not_child m z y zlt ylt ne q = ne (omega (arith, q, zlt, ylt))

  children_stay : (m : ℕ) → m ≢ fork → HasChildren w.words m → HasChildren w'.words m
  children_stay m ne k = (
    moves_there (child_of m 0) k.0 (not_child m 0 0 (omega arith) (omega arith) ne) (not_child m 0 1 (omega arith) (omega arith) ne),
    moves_there (child_of m 1) k.1 (not_child m 1 0 (omega arith) (omega arith) ne) (not_child m 1 1 (omega arith) (omega arith) ne),
  )

  rests : (t : Target) → rest ≡ t → StandsAt es w (child_of fork (1 - side)) t → StandsAt es' w' top t
  rests target.Nothing q k = tt
  rests (target.Leaf i) q k =
      let away : i ≢ s = λ r. rest_not (q ∙ ap target.Leaf r) in
      let into : number_at moved.leaves i ≡ above = ap (λ (t : Target). number_at (standing t above w).leaves i) q ∙ number_same w.leaves i above (omega (arith, k.1.in_pool, h.slots, h.sizes.leaves)) in
      (subst (λ x. IsPlaced x top) (sym (number_other moved.leaves s fork i away ∙ into)) above_placed, held_beside es s i None away k.1)
  rests (target.Fork m x) q k =
      let away : m ≢ fork = λ r. rest_not_fork x (q ∙ ap (λ n. target.Fork n x) r) in
      let into : number_at moved.forks m ≡ above = ap (λ (t : Target). number_at (standing t above w).forks m) q ∙ number_same w.forks m above k.1 in
      (subst (λ x. IsPlaced x top) (sym into) above_placed, subst (λ z. m < z) (sym forks_len) k.1, children_stay m away k.2)

  stays : (p : ℕ) → p ≢ top → p ≢ child_of fork 0 → p ≢ child_of fork 1 → (t : Target) → at p ≡ t → StandsAt es w p t → StandsAt es' w' p t
  stays p ne r t target.Nothing q k = tt
  stays p ne r t (target.Leaf i) q k =
      let away : i ≢ s = λ x. no_side p side two r t (only p (q ∙ ap target.Leaf x)) in
      let other : rest ≢ target.Leaf i = λ x. no_side p (1 - side) other_lt r t (placed_alone (number_at w.leaves i) p (child_of fork (1 - side)) (omega arith) k.0 (leaf_placed es w h (child_of fork (1 - side)) i x)) in
      (subst (λ x. IsPlaced x p) (sym (number_else i away other)) k.0, held_beside es s i None away k.1)
    where
      no_side : (p z : ℕ) → z < 2 → p ≢ child_of fork 0 → p ≢ child_of fork 1 → p ≢ child_of fork z
      no_side p z zlt r t q = by_side z zlt (λ e0. r (q ∙ ap (child_of fork) e0)) (λ e1. t (q ∙ ap (child_of fork) e1))
  stays p ne r t (target.Fork m x) q k =
      let away : m ≢ fork = λ y. ne (fork_only p x (q ∙ ap (λ n. target.Fork n x) y)) in
      let other : (b : ℕ) → rest ≢ target.Fork m b = λ b y. no_side p (1 - side) other_lt r t (fork_alone es w h p (child_of fork (1 - side)) m x b q y) in
      (subst (λ x. IsPlaced x p) (sym (standing_fork rest above w m other)) k.0, subst (λ z. m < z) (sym forks_len) k.1, children_stay m away k.2)
    where
      no_side : (p z : ℕ) → z < 2 → p ≢ child_of fork 0 → p ≢ child_of fork 1 → p ≢ child_of fork z
      no_side p z zlt r t q = by_side z zlt (λ e0. r (q ∙ ap (child_of fork) e0)) (λ e1. t (q ∙ ap (child_of fork) e1))

  standing_at : (p : ℕ) → StandsAt es' w' p (at' p)
  standing_at p = by_bool (nat_eq p top)
      (λ yes. subst (λ q. StandsAt es' w' q (at' q)) (sym (equal p top yes)) (subst (StandsAt es' w' top) (sym at_rest) (rests rest refl (h.stands (child_of fork (1 - side))))))
      (λ no. by_bool (nat_eq p (child_of fork 0))
      (λ yes. subst (λ q. StandsAt es' w' q (at' q)) (sym (equal p (child_of fork 0) yes)) (subst (StandsAt es' w' (child_of fork 0)) (sym at_zero) tt))
      (λ no'. by_bool (nat_eq p (child_of fork 1))
      (λ yes. subst (λ q. StandsAt es' w' q (at' q)) (sym (equal p (child_of fork 1) yes)) (subst (StandsAt es' w' (child_of fork 1)) (sym at_one) tt))
      (λ nor. subst (StandsAt es' w' p) (sym (at_else p (apart p top no) (apart p (child_of fork 0) no') (apart p (child_of fork 1) nor))) (stays p (apart p top no) (apart p (child_of fork 0) no') (apart p (child_of fork 1) nor) (at p) refl (h.stands p)))))

  -- ---- who keeps what

  keeper' : ℕ → ℕ
  keeper' m = cond (nat_eq m fork) s (h.keeper m)

  keeps : (m k : ℕ) → Keeps w h.keeper m k → Keeps w' keeper' m k
  unfolding keeper'
  keeps m k was =
      let away : m ≢ fork = λ q. children.0 (ap (λ n. at (child_of n 0)) (sym q) ∙ was.bare.0) in
      let bare : (z : ℕ) → z < 2 → at (child_of m z) ≡ target.Nothing → at' (child_of m z) ≡ target.Nothing = λ z zlt none.
      at_else (child_of m z) (λ q. above_there (ap at (sym q) ∙ none)) (not_child m z 0 zlt (omega arith) away) (not_child m z 1 zlt (omega arith) away) ∙ none in
      record {
        there = subst (λ z. m < z) (sym forks_len) was.there;
        kept = ap (λ a. cond a s (h.keeper m)) (differ m fork away) ∙ was.kept;
        bare = (bare 0 (omega arith) was.bare.0, bare 1 (omega arith) was.bare.1);
      }

  keeps_own : Keeps w' keeper' fork s
  unfolding keeper'
  keeps_own = record {
    there = subst (λ z. fork < z) (sym forks_len) fork_lt;
    kept = ap (λ a. cond a s (h.keeper fork)) (nat_eq_refl fork);
    bare = (at_zero, at_one);
  }

  frees : (i : ℕ) → i < length es' → entry_at es' i ≡ None → Keeps w' keeper' (number_at w'.leaves i) i
  frees i ilt is = by_bool (nat_eq i s)
      (λ yes. subst (λ k. Keeps w' keeper' (number_at w'.leaves k) k) (sym (equal i s yes)) (subst (λ m. Keeps w' keeper' m s) (sym number_own) keeps_own))
      (λ no.
      let away : i ≢ s = apart i s no in
      let was : entry_at es i ≡ None = sym (entry_other es s i None away) ∙ is in
      let other : rest ≢ target.Leaf i = λ q. not_free es i i (subst (StandsAt es w (child_of fork (1 - side))) q (h.stands (child_of fork (1 - side)))).1 was refl in
      subst (λ m. Keeps w' keeper' m i) (sym (number_else i away other)) (keeps (number_at w.leaves i) i (h.frees i (subst (λ z. i < z) (length-set es s None) ilt) was)))

  -- what stands at the fork's place has its number
  spare_rest : (t : Target) → rest ≡ t → StandsAt es w (child_of fork (1 - side)) t → spare_of w' t ≡ above
  spare_rest target.Nothing q k = absurd (rest_there q)
  spare_rest (target.Leaf i) q k =
      let away : i ≢ s = λ r. rest_not (q ∙ ap target.Leaf r) in
      number_other moved.leaves s fork i away ∙ ap (λ (t : Target). number_at (standing t above w).leaves i) q ∙ number_same w.leaves i above (omega (arith, k.1.in_pool, h.slots, h.sizes.leaves))
  spare_rest (target.Fork m x) q k = ap (λ (t : Target). number_at (standing t above w).forks m) q ∙ number_same w.forks m above k.1

  -- and what stands elsewhere at a root its own
  spare_else : (p : ℕ) → p < 1048576 → (t : Target) → at p ≡ t → StandsAt es w p t → spare_of w' t ≡ spare_of w t
  spare_else p plt target.Nothing q k = refl
  spare_else p plt (target.Leaf i) q k =
      let away : i ≢ s = λ x. absurd (omega (arith, plt, only p (q ∙ ap target.Leaf x))) in
      let other : rest ≢ target.Leaf i = λ x. absurd (omega (arith, plt, placed_alone (number_at w.leaves i) p (child_of fork (1 - side)) (omega arith) k.0 (leaf_placed es w h (child_of fork (1 - side)) i x))) in
      number_else i away other
  spare_else p plt (target.Fork m x) q k = standing_fork rest above w m (λ b y. absurd (omega (arith, plt, fork_alone es w h p (child_of fork (1 - side)) m x b q y)))

  spare_same : (c' : ℕ) → c' < 1048576 → spare_of w' (at' c') ≡ spare_of w (at c')
  spare_same c' clt = by_bool (nat_eq c' top)
      (λ yes.
      ap (λ p. spare_of w' (at' p)) (equal c' top yes) ∙ ap (spare_of w') at_rest ∙ spare_rest rest refl (h.stands (child_of fork (1 - side)))
      ∙ ap (spare_of w) (sym at_above) ∙ ap (λ p. spare_of w (at p)) (sym (equal c' top yes)))
      (λ no. ap (spare_of w') (at_else c' (apart c' top no) (root_not c' 0 clt) (root_not c' 1 clt)) ∙ spare_else c' clt (at c') refl (h.stands c'))

  spares : (c' : ℕ) → c' < 1048576 → at' c' ≢ target.Nothing → Keeps w' keeper' (spare_of w' (at' c')) (1048576 + c')
  spares c' clt some = subst (λ m. Keeps w' keeper' m (1048576 + c')) (sym (spare_same c' clt)) (keeps (spare_of w (at c')) (1048576 + c') (h.spares c' clt (λ none. some (nothing_stays c' clt none))))

  words_len : length w'.words ≡ length w.words
  words_len = length-set words2 (child_of fork 1) 4294967295 ∙ words2_len

  pub prune_trees : AreTreesOf es' w'
  prune_trees = record {
    sizes = record {
      words = omega (arith, words_len, forks_len, h.sizes.words);
      leaves = omega (arith, leaves_len, forks_len, h.sizes.leaves);
      few = omega (arith, forks_len, h.sizes.few);
    };
    slots = omega (arith, forks_len, h.slots, length-set es s None);
    keys = keys_gone es s own.in_pool h.keys;
    numbered = numbered;
    stands = standing_at;
    keeper = keeper';
    frees = frees;
    spares = spares;
  }

  named : (p : ℕ) (t : Target) → StandsAt es w p t → Names w t
  named p target.Nothing k = tt
  named p (target.Leaf i) k = omega (arith, k.1.in_pool, h.slots, h.sizes.leaves)
  named p (target.Fork m x) k = k.1

  pub rest_named : Names w rest
  rest_named = named (child_of fork (1 - side)) rest (h.stands (child_of fork (1 - side)))

  -- ---- where another key belongs, it belongs afterwards

  left_rooted : (o : Option Tree) → IsLeft at at' s fork side two at_own moves (keys_of es) only (at c) o → IsRooted at' (at' c) o
  left_rooted None k = absurd (not_root k)
  left_rooted (Some u) k = subst (λ y. IsTree at' y u) (sym (moves c (tree_there at (at c) own.whole.tree own.whole.rooted) (root_not c 0 own.in_range) (root_not c 1 own.in_range))) k.1

  belongs_mine : (key leaf : ℕ) → leaf ≢ s → descend key own.whole.tree ≡ leaf → Belongs w'.words c key (Some leaf)
  belongs_mine key leaf ne way = record {
    tree = left;
    rooted = left_rooted left (left_tree at at' s fork side two at_own moves (keys_of es) only (at c) own.whole.tree own.whole.rooted own.whole.parted on_mine);
    leads = prune_leads (keys_of es s) key s leaf own.whole.tree (differ leaf s ne) own_way way;
  }

  belongs_beside : (c' key : ℕ) → c' < 1048576 → nat_eq c' c ≡ false → (leaf : Option ℕ) → Belongs w.words c' key leaf → Belongs w'.words c' key leaf
  belongs_beside c' key clt ne leaf b = record { tree = b.tree; rooted = from b.tree b.rooted; leads = b.leads }
    where
      k : IsTreeOf es w.words c'
      k = h.numbered c' clt

      off : tree_key c' (entry_at es s) ≡ false
      off = tree_excl c c' ne (entry_at es s) own.keyed

      from : (t : Option Tree) → IsRooted at (at c') t → IsRooted at' (at' c') t
      from None r = nothing_stays c' clt r
      from (Some t) r =
          let other = some_tree es w.words c' (tree_there at (at c') t r) k in
          let same : t ≡ other.tree = same_tree at (at c') t other.tree r other.rooted in
          rooted_other c' clt (Some t) (ap (λ u. is_on s (leaves u)) same ∙ other.members s ∙ off) r

  pub prune_belongs : (c' key : ℕ) → c' < 1048576 → (leaf : Option ℕ) → leaf ≢ Some s → Belongs w.words c' key leaf → Belongs w'.words c' key leaf
  prune_belongs c' key clt leaf ne b = by_bool (nat_eq c' c)
      (λ yes. subst (λ x. Belongs w'.words x key leaf) (sym (equal c' c yes)) (here_belongs leaf ne (subst (λ x. Belongs w.words x key leaf) (equal c' c yes) b)))
      (λ no. belongs_beside c' key clt no leaf b)
    where
      here_belongs : (leaf : Option ℕ) → leaf ≢ Some s → Belongs w.words c key leaf → Belongs w'.words c key leaf
      here_belongs None ne b = absurd (empty b.tree b.rooted b.leads)
        where
          empty : (t : Option Tree) → IsRooted at (at c) t → LeadsTo key t None → ⊥
          empty None r l = tree_there at (at c) own.whole.tree own.whole.rooted r
          empty (Some t) r l = absurd l
      here_belongs (Some leaf) ne b = belongs_mine key leaf (λ q. ne (ap Some q)) (belongs_leads es w.words c key leaf b own.whole)
