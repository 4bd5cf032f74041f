-- What holds of the trees and the entries holds when a leaf has come beside another.
use Rattle.std.proofs.Common.{◌≡◌, ◌≢◌, ℕ, ◌+◌, ◌-◌, ◌<◌, Bool, true, false, cond, ◌||◌, List, length, set, Option, Some, None, nat_eq, refl, sym, ap, ◌∙◌, subst, arith}
use Rattle.std.proofs.lemmas.List.{length-set}
use Rattle.std.proofs.lemmas.List.Sums.{sum_by-set}
use Rattle.std.proofs.lemmas.Nat.Bits.{bit_at-lt}
use Rattle.std.specs.Int.{bit_at}
use Rattle.std.specs.List.{sum_by}
use Rattle.shared_tables.specs.declared.trees.Target.{Target}
use Rattle.shared_tables.specs.declared.trees.Target.TheVariants as target
use Rattle.shared_tables.specs.Bucket.{key_of, IsKey, tree_of}
use Rattle.shared_tables.specs.Pool.{Held, entry_at}
use Rattle.shared_tables.specs.Line.{is_on, weight}
use Rattle.shared_tables.specs.Shared.{tree_key}
use Rattle.shared_tables.specs.LinkSteps.{IsHeld}
use Rattle.shared_tables.specs.Tree.{Tree, leaves, descend, with_twig}
use Rattle.shared_tables.specs.TreeColumns.{Trees, target_at, number_at, child_of, fork_word, place_by, grafted}
use Rattle.shared_tables.specs.TreesOfSlots.{keys_of, key_in, leaves_of, IsRooted, IsTreeOf, Belongs, HasChildren, IsPlaced, StandsAt, spare_of, Keeps, AreTreesOf}
use Rattle.shared_tables.proofs.OnEntries.Linked.{by_bool, equal, nat_eq_refl}
use Rattle.shared_tables.proofs.OnEntries.Threaded.{in_entries}
use Rattle.shared_tables.proofs.OnTrees.Buckets.{tree_small, tree_excl}
use Rattle.shared_tables.proofs.OnTrees.TreeLemmas.{true_false, by_side, descend_on, grafted_to, graft_length, graft_on, graft_parted, graft_frame_at, graft_tree_at}
use Rattle.shared_tables.proofs.OnTrees.Places.{placed_child, leaf_placed, leaf_place, leaf_alone}
use Rattle.shared_tables.proofs.OnTrees.TreesOfLemmas.{some_of_key, apart, differ, leaf_word, fork_is, in_words, written_same, written_other, number_same, number_other, entry_same, entry_other, keys_set, held_beside, held_here, not_free, bare_at, not_bare, leaf_there, HasTree, tree_beside, some_tree, of_some_tree, belongs_there, belongs_leads}

-- a target that isn't the leaf stays
to_same : (leaf n b : ℕ) (t : Target) → t ≢ target.Leaf leaf → grafted_to leaf n b t ≡ t
to_same leaf n b target.Nothing ne = refl
to_same leaf n b (target.Leaf i) ne = ap (λ c. cond c (target.Fork n b) (target.Leaf i)) (differ i leaf (λ e. ne (ap target.Leaf e)))
to_same leaf n b (target.Fork m c) ne = refl

to_leaf : (leaf n b : ℕ) → grafted_to leaf n b (target.Leaf leaf) ≡ target.Fork n b
to_leaf leaf n b = ap (λ c. cond c (target.Fork n b) (target.Leaf leaf)) (nat_eq_refl leaf)

to_there : (leaf n b : ℕ) (t : Target) → t ≢ target.Nothing → grafted_to leaf n b t ≢ target.Nothing
to_there leaf n b target.Nothing ne e = ne refl
to_there leaf n b (target.Leaf i) ne e = go (nat_eq i leaf) e
  where
    go : (c : Bool) → cond c (target.Fork n b) (target.Leaf i) ≡ target.Nothing → ⊥
    go true e = let bad : target.Fork n b ≡ target.Nothing = e in cc
    go false e = let bad : target.Leaf i ≡ target.Nothing = e in cc
to_there leaf n b (target.Fork m c) ne e = let bad : target.Fork m c ≡ target.Nothing = e in cc

-- what is free is in no tree
pub free_off : (es : List (Option Held)) (c s : ℕ) → entry_at es s ≡ None → tree_key c (entry_at es s) ≡ false
free_off es c s free = ap (tree_key c) free

-- how the number of a tree's entries changes
pub one_more : (es : List (Option Held)) (c s : ℕ) (o : Option Held) → s < length es → sum_by (weight (tree_key c)) (set es s o) + weight (tree_key c) (entry_at es s) ≡ sum_by (weight (tree_key c)) es + weight (tree_key c) o
one_more es c s o lt = sum_by-set (weight (tree_key c)) es s o None lt

pub weight_is : (c : ℕ) (o : Option Held) (b : Bool) → tree_key c o ≡ b → weight (tree_key c) o ≡ cond b 1 0
weight_is c o b h = ap (λ a. cond a 1 0) h

module _ (es : List (Option Held)) (w : Trees) (h : AreTreesOf es w) (e : Held) (s : ℕ) (lt : s < length es) (free : entry_at es s ≡ None)
    (leaf : ℕ) (belongs : Belongs w.words (tree_of e.vid e.mac) (key_of e.vid e.mac) (Some leaf)) where
  abbrev c : ℕ
  c = tree_of e.vid e.mac

  abbrev key : ℕ
  key = key_of e.vid e.mac

  abbrev n : ℕ
  n = number_at w.leaves s

  abbrev number : ℕ
  number = number_at w.leaves leaf

  abbrev place : ℕ
  place = place_by c number

  abbrev at : ℕ → Target
  at = target_at w.words

  abbrev es' : List (Option Held)
  es' = set es s (Some e)

  c_lt : c < 1048576
  c_lt = tree_small e.vid e.mac

  mine : HasTree es w.words c
  mine = some_tree es w.words c (belongs_there w.words c key leaf belongs) (h.numbered c c_lt)

  way : descend key mine.tree ≡ leaf
  way = belongs_leads es w.words c key leaf belongs mine

  on_mine : is_on leaf (leaves mine.tree) ≡ true
  on_mine = subst (λ i. is_on i (leaves mine.tree) ≡ true) way (descend_on key mine.tree)

  pub leaf_key : tree_key c (entry_at es leaf) ≡ true
  leaf_key = sym (mine.members leaf) ∙ on_mine

  pub leaf_held : IsHeld es leaf
  leaf_held = record { in_pool = in_entries (tree_key c) refl es leaf leaf_key; held = some_of_key c (entry_at es leaf) leaf_key }

  pub leaf_not : leaf ≢ s
  leaf_not = not_free es leaf s leaf_held free

  at_place : at place ≡ target.Leaf leaf
  at_place = leaf_place es w h leaf c c mine.tree (λ _. refl) mine.rooted on_mine

  pub place_lt : place < length w.words
  place_lt = in_words w.words place (leaf_there (at place) leaf at_place)

  own_fork : Keeps w h.keeper n s
  own_fork = h.frees s lt free

  pub fork_lt : n < length w.forks
  fork_lt = own_fork.there

  child_lt : (z : ℕ) → z < 2 → child_of n z < length w.words
  child_lt z q = omega (arith, q, h.sizes.words, fork_lt)

  pub s_lt : s < length w.leaves
  s_lt = omega (arith, lt, h.slots, h.sizes.leaves)

  pub leaf_lt : leaf < length w.leaves
  leaf_lt = omega (arith, leaf_held.in_pool, h.slots, h.sizes.leaves)

  not_child : (p z : ℕ) → z < 2 → at p ≢ target.Nothing → p ≢ child_of n z
  not_child p z q some = not_bare w.words n z p q own_fork.bare some

  place_there : at place ≢ target.Nothing
  place_there = leaf_there (at place) leaf at_place

  module _ (b : ℕ) (small : b < 64) (differs : bit_at (keys_of es leaf) b + bit_at (key_of e.vid e.mac) b ≡ 1) where
    abbrev side : ℕ
    side = bit_at key b

    abbrev w' : Trees
    w' = grafted w c leaf s b side

    abbrev at' : ℕ → Target
    at' = target_at w'.words

    two : side < 2
    two = bit_at-lt key b

    other_lt : 1 - side < 2
    other_lt = omega arith

    sides_apart : child_of n (1 - side) ≢ child_of n side
    sides_apart q = omega (arith, q, two)

    -- ---- what stands where

    abbrev words1 : List ℕ
    words1 = set w.words place (fork_word n b)

    abbrev words2 : List ℕ
    words2 = set words1 (child_of n side) s

    words1_len : length words1 ≡ length w.words
    words1_len = length-set w.words place _

    words2_len : length words2 ≡ length w.words
    words2_len = length-set words1 (child_of n side) s ∙ words1_len

    at_other : at' (child_of n (1 - side)) ≡ target.Leaf leaf
    at_other = written_same words2 (child_of n (1 - side)) leaf (omega (arith, child_lt (1 - side) other_lt, words2_len)) ∙ leaf_word leaf (omega (arith, leaf_held.in_pool, h.slots, h.sizes.few))

    at_own : at' (child_of n side) ≡ target.Leaf s
    at_own =
        written_other words2 (child_of n (1 - side)) leaf (child_of n side) (λ q. sides_apart (sym q))
        ∙ written_same words1 (child_of n side) s (omega (arith, child_lt side two, words1_len)) ∙ leaf_word s (omega (arith, lt, h.slots, h.sizes.few))

    at_there : at' place ≡ target.Fork n b
    at_there =
        written_other words2 (child_of n (1 - side)) leaf place (not_child place (1 - side) other_lt place_there)
        ∙ written_other words1 (child_of n side) s place (not_child place side two place_there)
        ∙ written_same w.words place (fork_word n b) place_lt ∙ fork_is n b (omega (arith, fork_lt, h.sizes.few)) small

    at_else : (p : ℕ) → p ≢ place → p ≢ child_of n side → p ≢ child_of n (1 - side) → at' p ≡ at p
    at_else p q r t = written_other words2 (child_of n (1 - side)) leaf p t ∙ written_other words1 (child_of n side) s p r ∙ written_other w.words place (fork_word n b) p q

    not_leaf : (p : ℕ) → p ≢ place → at p ≢ target.Leaf leaf
    not_leaf p ne q = ne (sym (leaf_alone es w h c p leaf leaf_key q))

    moves : (p : ℕ) → at p ≢ target.Nothing → at' p ≡ grafted_to leaf n b (at p)
    moves p some = by_bool (nat_eq p place)
        (λ yes. ap at' (equal p place yes) ∙ at_there ∙ sym (to_leaf leaf n b) ∙ ap (grafted_to leaf n b) (sym at_place) ∙ ap (λ q. grafted_to leaf n b (at q)) (sym (equal p place yes)))
        (λ no. at_else p (apart p place no) (not_child p side two some) (not_child p (1 - side) other_lt some) ∙ sym (to_same leaf n b (at p) (not_leaf p (apart p place no))))

    moves_there : (p : ℕ) → at p ≢ target.Nothing → at' p ≢ target.Nothing
    moves_there p some = subst (λ t. t ≢ target.Nothing) (sym (moves p some)) (to_there leaf n b (at p) some)

    -- ---- the trees

    keyed : tree_key c (Some e) ≡ true
    keyed = nat_eq_refl c

    tree_mine : IsTreeOf es' w'.words c
    tree_mine =
        let same : (i : ℕ) → is_on i (leaves mine.tree) ≡ true → keys_of es' i ≡ keys_of es i = λ i on. ap key_in (entry_other es s i (Some e) (λ q. true_false (tree_key c (entry_at es i)) (sym (mine.members i) ∙ on) (ap (λ k. tree_key c (entry_at es k)) q ∙ free_off es c s free))) in
        let new : keys_of es' s ≡ key = ap key_in (entry_same es s (Some e) lt) in
        of_some_tree es' w'.words c (record {
          tree = with_twig key s n b mine.tree;
          rooted = graft_tree_at at at' leaf n b moves (keys_of es) key s at_own at_other c mine.tree mine.rooted mine.parted way;
          parted = graft_parted key s n b (keys_of es) (keys_of es') new mine.tree same (subst (λ i. bit_at (keys_of es i) b + bit_at key b ≡ 1) (sym way) differs) mine.parted;
          members = λ i. graft_on key s n b i mine.tree ∙ by_bool (nat_eq i s)
              (λ yes. ap (λ a. a || is_on i (leaves mine.tree)) yes ∙ sym (ap (λ k. tree_key c (entry_at es' k)) (equal i s yes) ∙ ap (tree_key c) (entry_same es s (Some e) lt) ∙ keyed))
              (λ no. ap (λ a. a || is_on i (leaves mine.tree)) no ∙ mine.members i ∙ sym (ap (tree_key c) (entry_other es s i (Some e) (apart i s no))));
          size = omega (arith, graft_length key s n b mine.tree, mine.size, one_more es c s (Some e) lt, weight_is c (entry_at es s) false (free_off es c s free), weight_is c (Some e) true keyed);
        })

    nothing_stays : (p : ℕ) → p < 1048576 → at p ≡ target.Nothing → at' p ≡ target.Nothing
    nothing_stays p plt e = at_else p (λ q. place_there (ap at (sym q) ∙ e)) (λ q. absurd (omega (arith, plt, q))) (λ q. absurd (omega (arith, plt, q))) ∙ e

    rooted_other : (c' : ℕ) → c' < 1048576 → (t : Option Tree) → is_on leaf (leaves_of t) ≡ false → IsRooted at (at c') t → IsRooted at' (at' c') t
    rooted_other c' clt None off k = nothing_stays c' clt k
    rooted_other c' clt (Some t) off k = graft_frame_at at at' leaf n b moves c' t k off

    tree_other : (c' : ℕ) → c' < 1048576 → nat_eq c' c ≡ false → IsTreeOf es' w'.words c'
    tree_other c' clt ne =
        let old = h.numbered c' clt in
        let off : tree_key c' (entry_at es leaf) ≡ false = tree_excl c c' ne (entry_at es leaf) leaf_key in
        tree_beside es w.words w'.words c' s (Some e) lt (free_off es c' s free) (tree_excl c c' ne (Some e) keyed) old (rooted_other c' clt old.tree (old.members leaf ∙ off) old.rooted)

    numbered : (c' : ℕ) → c' < 1048576 → IsTreeOf es' w'.words c'
    numbered c' clt = by_bool (nat_eq c' c) (λ yes. subst (IsTreeOf es' w'.words) (sym (equal c' c yes)) tree_mine) (λ no. tree_other c' clt no)

    -- ---- who stands where

    leaves_len : length (set w.leaves s (child_of n side)) ≡ length w.leaves
    leaves_len = length-set w.leaves s (child_of n side)

    number_leaf : number_at w'.leaves leaf ≡ child_of n (1 - side)
    number_leaf = number_same (set w.leaves s (child_of n side)) leaf (child_of n (1 - side)) (omega (arith, leaf_lt, leaves_len))

    number_own : number_at w'.leaves s ≡ child_of n side
    number_own = number_other (set w.leaves s (child_of n side)) leaf (child_of n (1 - side)) s (λ q. leaf_not (sym q)) ∙ number_same w.leaves s (child_of n side) s_lt

    number_else : (i : ℕ) → i ≢ leaf → i ≢ s → number_at w'.leaves i ≡ number_at w.leaves i
    number_else i p q = number_other (set w.leaves s (child_of n side)) leaf (child_of n (1 - side)) i p ∙ number_other w.leaves s (child_of n side) i q

    forks_len : length w'.forks ≡ length w.forks
    forks_len = length-set w.forks n number

    children_stay : (m : ℕ) → HasChildren w.words m → HasChildren w'.words m
    children_stay m k = (moves_there (child_of m 0) k.0, moves_there (child_of m 1) k.1)

    own_children : HasChildren w'.words n
    own_children = by_side side two
        (λ z. (leaf_there _ s (ap (λ x. at' (child_of n x)) (sym z) ∙ at_own), leaf_there _ leaf (ap (λ x. at' (child_of n (1 - x))) (sym z) ∙ at_other)))
        (λ o. (leaf_there _ leaf (ap (λ x. at' (child_of n (1 - x))) (sym o) ∙ at_other), leaf_there _ s (ap (λ x. at' (child_of n x)) (sym o) ∙ at_own)))

    not_own : (m : ℕ) → HasChildren w.words m → m ≢ n
    not_own m k q = k.0 (ap (λ x. at (child_of x 0)) q ∙ own_fork.bare.0)

    stays : (p : ℕ) → p ≢ place → (t : Target) → at p ≡ t → StandsAt es w p t → StandsAt es' w' p t
    stays p ne target.Nothing q k = tt
    stays p ne (target.Leaf i) q k =
        let away : i ≢ s = not_free es i s k.1 free in
        (subst (λ x. IsPlaced x p) (sym (number_else i (λ r. not_leaf p ne (q ∙ ap target.Leaf r)) away)) k.0, held_beside es s i (Some e) away k.1)
    stays p ne (target.Fork m x) q k =
        (subst (λ x. IsPlaced x p) (sym (number_other w.forks n number m (not_own m k.2))) k.0, subst (λ z. m < z) (sym forks_len) k.1, children_stay m k.2)

    to_target : (p : ℕ) (t : Target) → at' p ≡ t → StandsAt es' w' p t → StandsAt es' w' p (at' p)
    to_target p t q k = subst (StandsAt es' w' p) (sym q) k

    standing_at : (p : ℕ) → StandsAt es' w' p (at' p)
    standing_at p = by_bool (nat_eq p place)
        (λ yes. subst (λ q. StandsAt es' w' q (at' q)) (sym (equal p place yes)) (to_target place (target.Fork n b) at_there (subst (λ x. IsPlaced x place) (sym (number_same w.forks n number fork_lt)) (leaf_placed es w h place leaf at_place), subst (λ z. n < z) (sym forks_len) fork_lt, own_children)))
        (λ no. by_bool (nat_eq p (child_of n side))
        (λ yes. subst (λ q. StandsAt es' w' q (at' q)) (sym (equal p (child_of n side) yes)) (to_target (child_of n side) (target.Leaf s) at_own (subst (λ x. IsPlaced x (child_of n side)) (sym number_own) (placed_child (child_of n side) (omega arith)), held_here es s e lt)))
        (λ no'. by_bool (nat_eq p (child_of n (1 - side)))
        (λ yes. subst (λ q. StandsAt es' w' q (at' q)) (sym (equal p (child_of n (1 - side)) yes)) (to_target (child_of n (1 - side)) (target.Leaf leaf) at_other (subst (λ x. IsPlaced x (child_of n (1 - side))) (sym number_leaf) (placed_child (child_of n (1 - side)) (omega arith)), held_beside es s leaf (Some e) leaf_not leaf_held)))
        (λ nor. to_target p (at p) (at_else p (apart p place no) (apart p (child_of n side) no') (apart p (child_of n (1 - side)) nor)) (stays p (apart p place no) (at p) refl (h.stands p)))))

    -- ---- who keeps what

    keeps : (m k : ℕ) → k ≢ s → Keeps w h.keeper m k → Keeps w' h.keeper m k
    keeps m k ne old =
        let away : m ≢ n = λ q. ne (sym old.kept ∙ ap h.keeper q ∙ own_fork.kept) in
        let bare : (z : ℕ) → z < 2 → at' (child_of m z) ≡ target.Nothing = λ z zlt.
        let none : at (child_of m z) ≡ target.Nothing = bare_at w.words m z zlt old.bare in
        at_else (child_of m z) (λ q. place_there (ap at (sym q) ∙ none)) (λ q. away (omega (arith, q, zlt, two))) (λ q. away (omega (arith, q, zlt, other_lt))) ∙ none in
        record { there = subst (λ z. m < z) (sym forks_len) old.there; kept = old.kept; bare = (bare 0 (omega arith), bare 1 (omega arith)) }

    frees : (i : ℕ) → i < length es' → entry_at es' i ≡ None → Keeps w' h.keeper (number_at w'.leaves i) i
    frees i ilt none =
        let away : i ≢ s = λ q. let bad : Some e ≡ None = sym (entry_same es s (Some e) lt) ∙ ap (entry_at es') (sym q) ∙ none in cc in
        let was : entry_at es i ≡ None = sym (entry_other es s i (Some e) away) ∙ none in
        let beside : i ≢ leaf = λ q. not_free es leaf i leaf_held was (sym q) in
        subst (λ m. Keeps w' h.keeper m i) (sym (number_else i beside away)) (keeps (number_at w.leaves i) i away (h.frees i (subst (λ z. i < z) (length-set es s (Some e)) ilt) was))

    -- what another place has keeps its number
    spare_else : (p : ℕ) → p ≢ place → (t : Target) → at p ≡ t → StandsAt es w p t → spare_of w' t ≡ spare_of w t
    spare_else p ne target.Nothing q k = refl
    spare_else p ne (target.Leaf i) q k = number_else i (λ r. not_leaf p ne (q ∙ ap target.Leaf r)) (not_free es i s k.1 free)
    spare_else p ne (target.Fork m x) q k = number_other w.forks n number m (not_own m k.2)

    spare_same : (c' : ℕ) → c' < 1048576 → spare_of w' (at' c') ≡ spare_of w (at c')
    spare_same c' clt = by_bool (nat_eq c' place)
        (λ yes.
        ap (λ p. spare_of w' (at' p)) (equal c' place yes) ∙ ap (spare_of w') at_there ∙ number_same w.forks n number fork_lt
        ∙ ap (spare_of w) (sym at_place) ∙ ap (λ p. spare_of w (at p)) (sym (equal c' place yes)))
        (λ no.
        ap (spare_of w') (at_else c' (apart c' place no) (λ q. absurd (omega (arith, clt, q))) (λ q. absurd (omega (arith, clt, q))))
        ∙ spare_else c' (apart c' place no) (at c') refl (h.stands c'))

    spares : (c' : ℕ) → c' < 1048576 → at' c' ≢ target.Nothing → Keeps w' h.keeper (spare_of w' (at' c')) (1048576 + c')
    spares c' clt some =
        let few : length es < 1048577 = omega (arith, h.slots, h.sizes.few) in
        subst (λ m. Keeps w' h.keeper m (1048576 + c')) (sym (spare_same c' clt))
        (keeps (spare_of w (at c')) (1048576 + c') (λ q. absurd (omega (arith, q, lt, few))) (h.spares c' clt (λ none. some (nothing_stays c' clt none))))

    words_len : length w'.words ≡ length w.words
    words_len = length-set words2 (child_of n (1 - side)) leaf ∙ words2_len

    leaves'_len : length w'.leaves ≡ length w.leaves
    leaves'_len = length-set (set w.leaves s (child_of n side)) leaf (child_of n (1 - side)) ∙ leaves_len

    pub graft_trees : IsKey (key_of e.vid e.mac) → AreTreesOf es' w'
    graft_trees own = record {
      sizes = record {
        words = omega (arith, words_len, forks_len, h.sizes.words);
        leaves = omega (arith, leaves'_len, forks_len, h.sizes.leaves);
        few = omega (arith, forks_len, h.sizes.few);
      };
      slots = omega (arith, forks_len, h.slots, length-set es s (Some e));
      keys = keys_set es s (Some e) lt own h.keys;
      numbered = numbered;
      stands = standing_at;
      keeper = h.keeper;
      frees = frees;
      spares = spares;
    }
