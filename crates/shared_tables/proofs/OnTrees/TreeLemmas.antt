-- How a tree changes.
use Rattle.std.proofs.Common.{◌≡◌, ◌≢◌, ℕ, zero, suc, ◌+◌, ◌-◌, ◌<◌, Bool, true, false, cond, ◌||◌, length, Option, Some, None, nat_eq, refl, sym, ap, ◌∙◌, subst, arith, length-append}
use Rattle.std.specs.Int.{bit_at}
use Rattle.std.proofs.lemmas.Nat.Bits.{bit_at-lt}
use Rattle.shared_tables.specs.declared.trees.Target.{Target}
use Rattle.shared_tables.specs.declared.trees.Target.TheVariants as target
use Rattle.shared_tables.specs.Line.{is_on}
use Rattle.shared_tables.specs.TreeColumns.{child_of}
use Rattle.shared_tables.specs.Tree.{Tree, Leaf, Fork, leaves, IsTree, HaveBit, IsParted, by_bit, descend, twig, with_twig, with_left, with_right, without}
use Rattle.shared_tables.specs.TreesOfSlots.{leaves_of, AnyParted, LeadsTo}
use Rattle.shared_tables.proofs.OnEntries.Linked.{is_on-append, by_bool, equal, nat_eq_refl, nat_eq_sym, or_is_true}

-- a tree has a leaf
pub some_leaf : (t : Tree) → 0 < length (leaves t)
some_leaf (Leaf i) = omega arith
some_leaf (Fork n b l r) = omega (arith, some_leaf l, length-append (leaves l) (leaves r))

-- or, and its parts
pub left_false : (a b : Bool) → a || b ≡ false → a ≡ false
left_false true b h = h
left_false false b h = refl

pub right_false : (a b : Bool) → a || b ≡ false → b ≡ false
right_false true b h = let no : true ≡ false = h in cc
right_false false b h = h

both_false : (a b : Bool) → a ≡ false → b ≡ false → a || b ≡ false
both_false a b h k = ap (λ c. c || b) h ∙ k

left_true : (a b : Bool) → a ≡ true → a || b ≡ true
left_true a b h = ap (λ c. c || b) h

pub true_false : {A : Type 0} → (b : Bool) → b ≡ true → b ≡ false → A
true_false b h k = let bad : true ≡ false = sym h ∙ k in cc

module _ (i n b : ℕ) (l r : Tree) where
  pub off_left : is_on i (leaves (Fork n b l r)) ≡ false → is_on i (leaves l) ≡ false
  off_left off = left_false _ (is_on i (leaves r)) (sym (is_on-append i (leaves l) (leaves r)) ∙ off)

  pub off_right : is_on i (leaves (Fork n b l r)) ≡ false → is_on i (leaves r) ≡ false
  off_right off = right_false (is_on i (leaves l)) _ (sym (is_on-append i (leaves l) (leaves r)) ∙ off)

  pub off_both : is_on i (leaves l) ≡ false → is_on i (leaves r) ≡ false → is_on i (leaves (Fork n b l r)) ≡ false
  off_both p q = is_on-append i (leaves l) (leaves r) ∙ both_false _ _ p q

  pub on_left : is_on i (leaves l) ≡ true → is_on i (leaves (Fork n b l r)) ≡ true
  on_left on = is_on-append i (leaves l) (leaves r) ∙ left_true _ _ on

  pub on_right : is_on i (leaves r) ≡ true → is_on i (leaves (Fork n b l r)) ≡ true
  on_right on = is_on-append i (leaves l) (leaves r) ∙ or_is_true (is_on i (leaves l)) _ on

-- a slot that is on no side isn't there; so one that is there is on the other
pub other_right : (i n b : ℕ) (l r : Tree) → is_on i (leaves (Fork n b l r)) ≡ true → is_on i (leaves l) ≡ false → is_on i (leaves r) ≡ true
other_right i n b l r on off = by_bool (is_on i (leaves r)) (λ yes. yes) (λ no. true_false _ on (off_both i n b l r off no))

pub other_left : (i n b : ℕ) (l r : Tree) → is_on i (leaves (Fork n b l r)) ≡ true → is_on i (leaves r) ≡ false → is_on i (leaves l) ≡ true
other_left i n b l r on off = by_bool (is_on i (leaves l)) (λ yes. yes) (λ no. true_false _ on (off_both i n b l r no off))

-- a bit is 0, or else 1
pub by_side : {A : Type 0} → (bit : ℕ) → bit < 2 → (bit ≡ 0 → A) → (bit ≡ 1 → A) → A
by_side zero lt f g = f refl
by_side (suc zero) lt f g = g refl
by_side (suc (suc k)) lt f g = let bad : ⊥ = omega (arith, lt) in absurd bad

-- the leaf that is alone on a list
pub only_leaf : (i j : ℕ) → is_on i (leaves (Leaf j)) ≡ true → i ≡ j
only_leaf i j on = by_bool (nat_eq i j) (λ yes. equal i j yes) (λ no. true_false _ on (both_false _ _ no refl))

pub leaf_on : (i : ℕ) → is_on i (leaves (Leaf i)) ≡ true
leaf_on i = left_true _ _ (nat_eq_refl i)

-- where a key that a leaf has leads
module _ (keys : ℕ → ℕ) (i : ℕ) where
  -- with bit 0, the leaf isn't on the right
  pub not_right : (n b : ℕ) (l r : Tree) → IsParted keys (Fork n b l r) → bit_at (keys i) b ≡ 0 → is_on i (leaves r) ≡ false
  not_right n b l r h z = by_bool (is_on i (leaves r)) (λ yes. let bad : ⊥ = omega (arith, h.1 i yes, z) in absurd bad) (λ no. no)

  pub not_left : (n b : ℕ) (l r : Tree) → IsParted keys (Fork n b l r) → bit_at (keys i) b ≡ 1 → is_on i (leaves l) ≡ false
  not_left n b l r h o = by_bool (is_on i (leaves l)) (λ yes. let bad : ⊥ = omega (arith, h.0 i yes, o) in absurd bad) (λ no. no)

-- by_bit at a bit
pub at_zero : {A : Type 0} → (bit : ℕ) → bit ≡ 0 → (x y : A) → by_bit bit x y ≡ x
at_zero bit h x y = ap (λ n. by_bit n x y) h

pub at_one : {A : Type 0} → (bit : ℕ) → bit ≡ 1 → (x y : A) → by_bit bit x y ≡ y
at_one bit h x y = ap (λ n. by_bit n x y) h

-- a key leads to a leaf
pub descend_on : (key : ℕ) (t : Tree) → is_on (descend key t) (leaves t) ≡ true
descend_on key (Leaf i) = leaf_on i
descend_on key (Fork n b l r) = by_side (bit_at key b) (bit_at-lt key b)
    (λ z. subst (λ j. is_on j (leaves (Fork n b l r)) ≡ true) (sym (at_zero _ z (descend key l) (descend key r))) (on_left _ n b l r (descend_on key l)))
    (λ o. subst (λ j. is_on j (leaves (Fork n b l r)) ≡ true) (sym (at_one _ o (descend key l) (descend key r))) (on_right _ n b l r (descend_on key r)))

-- a leaf's own key leads to it
pub descend_own : (keys : ℕ → ℕ) (i : ℕ) (t : Tree) → IsParted keys t → is_on i (leaves t) ≡ true → descend (keys i) t ≡ i
descend_own keys i (Leaf j) h on = sym (only_leaf i j on)
descend_own keys i (Fork n b l r) h on = by_side (bit_at (keys i) b) (bit_at-lt (keys i) b)
    (λ z. at_zero _ z _ _ ∙ descend_own keys i l h.2 (other_left i n b l r on (not_right keys i n b l r h z)))
    (λ o. at_one _ o _ _ ∙ descend_own keys i r h.3 (other_right i n b l r on (not_left keys i n b l r h o)))

-- what stands at the places is one tree
pub same_tree : (at : ℕ → Target) (here : Target) (t u : Tree) → IsTree at here t → IsTree at here u → t ≡ u
same_tree at here (Leaf i) (Leaf j) h k = let p : target.Leaf i ≡ target.Leaf j = sym h ∙ k in let q : i ≡ j = cc in ap Leaf q
same_tree at here (Leaf i) (Fork n b l r) h k = let bad : target.Leaf i ≡ target.Fork n b = sym h ∙ k.0 in cc
same_tree at here (Fork n b l r) (Leaf j) h k = let bad : target.Fork n b ≡ target.Leaf j = sym h.0 ∙ k in cc
same_tree at here (Fork n b l r) (Fork m c l' r') h k =
    let p : target.Fork n b ≡ target.Fork m c = sym h.0 ∙ k.0 in
    let q : n ≡ m = cc in
    let w : b ≡ c = cc in
    let left : l ≡ l' = same_tree at (at (child_of n 0)) l l' h.1 (subst (λ x. IsTree at (at (child_of x 0)) l') (sym q) k.1) in
    let right : r ≡ r' = same_tree at (at (child_of n 1)) r r' h.2 (subst (λ x. IsTree at (at (child_of x 1)) r') (sym q) k.2) in
    λ i. Fork (q i) (w i) (left i) (right i)

-- the same places, and other keys that the leaves have in common
pub parted_frame : (keys keys' : ℕ → ℕ) (t : Tree) → ((i : ℕ) → is_on i (leaves t) ≡ true → keys' i ≡ keys i) → IsParted keys t → IsParted keys' t
parted_frame keys keys' (Leaf i) same h = tt
parted_frame keys keys' (Fork n b l r) same h = (
  λ i on. ap (λ k. bit_at k b) (same i (on_left i n b l r on)) ∙ h.0 i on,
  λ i on. ap (λ k. bit_at k b) (same i (on_right i n b l r on)) ∙ h.1 i on,
  parted_frame keys keys' l (λ i on. same i (on_left i n b l r on)) h.2,
  parted_frame keys keys' r (λ i on. same i (on_right i n b l r on)) h.3,
)

pub tree_there : (at : ℕ → Target) (here : Target) (t : Tree) → IsTree at here t → here ≢ target.Nothing
tree_there at here (Leaf i) h none = let bad : target.Leaf i ≡ target.Nothing = sym h ∙ none in cc
tree_there at here (Fork n b l r) h none = let bad : target.Fork n b ≡ target.Nothing = sym h.0 ∙ none in cc

-- the tree from a leaf's target on
pub tree_leaf : (at : ℕ → Target) (here : Target) (i : ℕ) (t : Tree) → here ≡ target.Leaf i → IsTree at here t → is_on i (leaves t) ≡ true
tree_leaf at here i (Leaf j) e h = let p : target.Leaf i ≡ target.Leaf j = sym e ∙ h in let q : i ≡ j = cc in subst (λ k. is_on i (leaves (Leaf k)) ≡ true) q (leaf_on i)
tree_leaf at here i (Fork n b l r) e h = let bad : target.Leaf i ≡ target.Fork n b = sym e ∙ h.0 in cc

-- the same behind all forks
pub tree_frame : (at at' : ℕ → Target) → ((m s : ℕ) → s < 2 → at' (child_of m s) ≡ at (child_of m s)) → (here : Target) (t : Tree) → IsTree at here t → IsTree at' here t
tree_frame at at' same here (Leaf i) h = h
tree_frame at at' same here (Fork m c l r) h = (
  h.0,
  subst (λ x. IsTree at' x l) (sym (same m 0 (omega arith))) (tree_frame at at' same (at (child_of m 0)) l h.1),
  subst (λ x. IsTree at' x r) (sym (same m 1 (omega arith))) (tree_frame at at' same (at (child_of m 1)) r h.2),
)

-- ---- a leaf comes

-- the target that stands where this one stood: a fork where the leaf stood
abbrev pub grafted_to : ℕ → ℕ → ℕ → Target → Target
grafted_to leaf n b target.Nothing = target.Nothing
grafted_to leaf n b (target.Leaf i) = cond (nat_eq i leaf) (target.Fork n b) (target.Leaf i)
grafted_to leaf n b (target.Fork m c) = target.Fork m c

swap : (a b : Bool) → a || (b || false) ≡ b || (a || false)
swap true true = refl
swap true false = refl
swap false true = refl
swap false false = refl

or_first : (a b c : Bool) → (a || b) || c ≡ a || (b || c)
or_first true b c = refl
or_first false b c = refl

or_second : (a b c : Bool) → b || (a || c) ≡ a || (b || c)
or_second true true c = refl
or_second true false c = refl
or_second false b c = refl

module _ (key x n b : ℕ) where
  pub graft_length : (t : Tree) → length (leaves (with_twig key x n b t)) ≡ length (leaves t) + 1
  graft_length (Leaf i) = by_side (bit_at key b) (bit_at-lt key b)
      (λ z. ap (λ t. length (leaves t)) (at_zero _ z (Fork n b (Leaf x) (Leaf i)) (Fork n b (Leaf i) (Leaf x))) ∙ omega arith)
      (λ o. ap (λ t. length (leaves t)) (at_one _ o (Fork n b (Leaf x) (Leaf i)) (Fork n b (Leaf i) (Leaf x))) ∙ omega arith)
  graft_length (Fork m c l r) = by_side (bit_at key c) (bit_at-lt key c)
      (λ z. ap (λ t. length (leaves t)) (at_zero _ z (Fork m c (with_twig key x n b l) r) (Fork m c l (with_twig key x n b r)))
      ∙ omega (arith, graft_length l, length-append (leaves l) (leaves r), length-append (leaves (with_twig key x n b l)) (leaves r)))
      (λ o. ap (λ t. length (leaves t)) (at_one _ o (Fork m c (with_twig key x n b l) r) (Fork m c l (with_twig key x n b r)))
      ∙ omega (arith, graft_length r, length-append (leaves l) (leaves r), length-append (leaves l) (leaves (with_twig key x n b r))))

  pub graft_on : (j : ℕ) (t : Tree) → is_on j (leaves (with_twig key x n b t)) ≡ nat_eq j x || is_on j (leaves t)
  graft_on j (Leaf i) = by_side (bit_at key b) (bit_at-lt key b)
      (λ z. ap (λ t. is_on j (leaves t)) (at_zero _ z (Fork n b (Leaf x) (Leaf i)) (Fork n b (Leaf i) (Leaf x))))
      (λ o. ap (λ t. is_on j (leaves t)) (at_one _ o (Fork n b (Leaf x) (Leaf i)) (Fork n b (Leaf i) (Leaf x))) ∙ swap (nat_eq j i) (nat_eq j x))
  graft_on j (Fork m c l r) =
      let whole : is_on j (leaves (Fork m c l r)) ≡ is_on j (leaves l) || is_on j (leaves r) = is_on-append j (leaves l) (leaves r) in
      by_side (bit_at key c) (bit_at-lt key c)
      (λ z. ap (λ t. is_on j (leaves t)) (at_zero _ z (Fork m c (with_twig key x n b l) r) (Fork m c l (with_twig key x n b r)))
      ∙ is_on-append j (leaves (with_twig key x n b l)) (leaves r)
      ∙ ap (λ a. a || is_on j (leaves r)) (graft_on j l)
      ∙ or_first (nat_eq j x) (is_on j (leaves l)) (is_on j (leaves r)) ∙ ap (λ a. nat_eq j x || a) (sym whole))
      (λ o. ap (λ t. is_on j (leaves t)) (at_one _ o (Fork m c (with_twig key x n b l) r) (Fork m c l (with_twig key x n b r)))
      ∙ is_on-append j (leaves l) (leaves (with_twig key x n b r))
      ∙ ap (λ a. is_on j (leaves l) || a) (graft_on j r)
      ∙ or_second (nat_eq j x) (is_on j (leaves l)) (is_on j (leaves r)) ∙ ap (λ a. nat_eq j x || a) (sym whole))

  module _ (keys keys' : ℕ → ℕ) (new : keys' x ≡ key) where
    -- the key has the bit of each fork on its way
    come : (c value : ℕ) (t : Tree) → bit_at key c ≡ value → ((i : ℕ) → is_on i (leaves t) ≡ true → keys' i ≡ keys i) → HaveBit keys c value t → HaveBit keys' c value (with_twig key x n b t)
    come c value t own same h i on = by_bool (nat_eq i x)
        (λ yes. ap (λ k. bit_at k c) (ap keys' (equal i x yes) ∙ new) ∙ own)
        (λ no. let was : is_on i (leaves t) ≡ true = sym (ap (λ a. a || is_on i (leaves t)) no) ∙ sym (graft_on i t) ∙ on in ap (λ k. bit_at k c) (same i was) ∙ h i was)

    stay : (c value : ℕ) (t : Tree) → ((i : ℕ) → is_on i (leaves t) ≡ true → keys' i ≡ keys i) → HaveBit keys c value t → HaveBit keys' c value t
    stay c value t same h i on = ap (λ k. bit_at k c) (same i on) ∙ h i on

    alone : (i c value : ℕ) → bit_at (keys' i) c ≡ value → HaveBit keys' c value (Leaf i)
    alone i c value e j on = ap (λ k. bit_at (keys' k) c) (only_leaf j i on) ∙ e

    pub graft_parted : (t : Tree) → ((i : ℕ) → is_on i (leaves t) ≡ true → keys' i ≡ keys i) → bit_at (keys (descend key t)) b + bit_at key b ≡ 1 → IsParted keys t → IsParted keys' (with_twig key x n b t)
    graft_parted (Leaf i) same differs h =
        let kept : bit_at (keys' i) b ≡ bit_at (keys i) b = ap (λ k. bit_at k b) (same i (leaf_on i)) in
        let own : bit_at (keys' x) b ≡ bit_at key b = ap (λ k. bit_at k b) new in
        by_side (bit_at key b) (bit_at-lt key b)
        (λ z. subst (IsParted keys') (sym (at_zero _ z (Fork n b (Leaf x) (Leaf i)) (Fork n b (Leaf i) (Leaf x)))) (alone x b 0 (own ∙ z), alone i b 1 (omega (arith, kept, differs, z)), tt, tt))
        (λ o. subst (IsParted keys') (sym (at_one _ o (Fork n b (Leaf x) (Leaf i)) (Fork n b (Leaf i) (Leaf x)))) (alone i b 0 (omega (arith, kept, differs, o)), alone x b 1 (own ∙ o), tt, tt))
    graft_parted (Fork m c l r) same differs h =
        let left : (i : ℕ) → is_on i (leaves l) ≡ true → keys' i ≡ keys i = λ i on. same i (on_left i m c l r on) in
        let right : (i : ℕ) → is_on i (leaves r) ≡ true → keys' i ≡ keys i = λ i on. same i (on_right i m c l r on) in
        by_side (bit_at key c) (bit_at-lt key c)
        (λ z. subst (IsParted keys') (sym (at_zero _ z (Fork m c (with_twig key x n b l) r) (Fork m c l (with_twig key x n b r))))
        (come c 0 l z left h.0, stay c 1 r right h.1, graft_parted l left (subst (λ i. bit_at (keys i) b + bit_at key b ≡ 1) (at_zero _ z (descend key l) (descend key r)) differs) h.2, parted_frame keys keys' r right h.3))
        (λ o. subst (IsParted keys') (sym (at_one _ o (Fork m c (with_twig key x n b l) r) (Fork m c l (with_twig key x n b r))))
        (stay c 0 l left h.0, come c 1 r o right h.1, parted_frame keys keys' l left h.2, graft_parted r right (subst (λ i. bit_at (keys i) b + bit_at key b ≡ 1) (at_one _ o (descend key l) (descend key r)) differs) h.3))

module _ (at at' : ℕ → Target) (leaf n b : ℕ) (moves : (p : ℕ) → at p ≢ target.Nothing → at' p ≡ grafted_to leaf n b (at p)) where
  -- what isn't the leaf stands as it stood
  graft_stands : (here : Target) (t : Tree) → IsTree at here t → is_on leaf (leaves t) ≡ false → grafted_to leaf n b here ≡ here
  graft_stands here (Leaf i) h off = ap (grafted_to leaf n b) h ∙ ap (λ c. cond c (target.Fork n b) (target.Leaf i)) (nat_eq_sym leaf i (left_false _ false off)) ∙ sym h
  graft_stands here (Fork m c l r) h off = ap (grafted_to leaf n b) h.0 ∙ sym h.0

  -- from another place on
  pub graft_same : (p : ℕ) (t : Tree) → IsTree at (at p) t → is_on leaf (leaves t) ≡ false → at' p ≡ at p
  graft_same p t h off = moves p (tree_there at _ t h) ∙ graft_stands _ t h off

  pub graft_frame : (here : Target) (t : Tree) → IsTree at here t → is_on leaf (leaves t) ≡ false → IsTree at' here t
  graft_frame here (Leaf i) h off = h
  graft_frame here (Fork m c l r) h off =
      let p = off_left leaf m c l r off in
      let q = off_right leaf m c l r off in (
        h.0,
        subst (λ x. IsTree at' x l) (sym (graft_same (child_of m 0) l h.1 p)) (graft_frame (at (child_of m 0)) l h.1 p),
        subst (λ x. IsTree at' x r) (sym (graft_same (child_of m 1) r h.2 q)) (graft_frame (at (child_of m 1)) r h.2 q),
      )

  -- from a root on
  pub graft_frame_at : (p : ℕ) (t : Tree) → IsTree at (at p) t → is_on leaf (leaves t) ≡ false → IsTree at' (at' p) t
  graft_frame_at p t h off = subst (λ x. IsTree at' x t) (sym (graft_same p t h off)) (graft_frame _ t h off)

  module _ (keys : ℕ → ℕ) (key x : ℕ) (own : at' (child_of n (bit_at key b)) ≡ target.Leaf x) (other : at' (child_of n (1 - bit_at key b)) ≡ target.Leaf leaf) where
    twigged : (side : ℕ) → side < 2 → at' (child_of n side) ≡ target.Leaf x → at' (child_of n (1 - side)) ≡ target.Leaf leaf → IsTree at' (target.Fork n b) (twig n b side x leaf)
    twigged zero lt own other = (refl, own, other)
    twigged (suc zero) lt own other = (refl, other, own)
    twigged (suc (suc k)) lt own other = let bad : ⊥ = omega (arith, lt) in absurd bad

    step : (p : ℕ) (t : Tree) → IsTree at (at p) t → IsTree at' (grafted_to leaf n b (at p)) (with_twig key x n b t) → IsTree at' (at' p) (with_twig key x n b t)
    step p t h k = subst (λ y. IsTree at' y (with_twig key x n b t)) (sym (moves p (tree_there at _ t h))) k

    graft_tree : (here : Target) (t : Tree) → IsTree at here t → IsParted keys t → descend key t ≡ leaf → IsTree at' (grafted_to leaf n b here) (with_twig key x n b t)
    graft_tree here (Leaf i) h parted is =
        let to : grafted_to leaf n b here ≡ target.Fork n b = ap (grafted_to leaf n b) h ∙ ap (λ c. cond c (target.Fork n b) (target.Leaf i)) (subst (λ j. nat_eq i j ≡ true) is (nat_eq_refl i)) in
        subst (λ x'. IsTree at' x' (twig n b (bit_at key b) x i)) (sym to)
        (subst (λ j. IsTree at' (target.Fork n b) (twig n b (bit_at key b) x j)) (sym is) (twigged (bit_at key b) (bit_at-lt key b) own other))
    graft_tree here (Fork m c l r) h parted is = by_side (bit_at key c) (bit_at-lt key c)
        (λ z.
        let way : descend key l ≡ leaf = sym (at_zero _ z (descend key l) (descend key r)) ∙ is in
        let on : is_on leaf (leaves l) ≡ true = subst (λ j. is_on j (leaves l) ≡ true) way (descend_on key l) in
        subst (IsTree at' (grafted_to leaf n b here)) (sym (at_zero _ z (Fork m c (with_twig key x n b l) r) (Fork m c l (with_twig key x n b r))))
        (ap (grafted_to leaf n b) h.0, step (child_of m 0) l h.1 (graft_tree (at (child_of m 0)) l h.1 parted.2 way), graft_frame_at _ r h.2 (not_right keys leaf m c l r parted (parted.0 leaf on))))
        (λ o.
        let way : descend key r ≡ leaf = sym (at_one _ o (descend key l) (descend key r)) ∙ is in
        let on : is_on leaf (leaves r) ≡ true = subst (λ j. is_on j (leaves r) ≡ true) way (descend_on key r) in
        subst (IsTree at' (grafted_to leaf n b here)) (sym (at_one _ o (Fork m c (with_twig key x n b l) r) (Fork m c l (with_twig key x n b r))))
        (ap (grafted_to leaf n b) h.0, graft_frame_at _ l h.1 (not_left keys leaf m c l r parted (parted.1 leaf on)), step (child_of m 1) r h.2 (graft_tree (at (child_of m 1)) r h.2 parted.3 way)))

    pub graft_tree_at : (p : ℕ) (t : Tree) → IsTree at (at p) t → IsParted keys t → descend key t ≡ leaf → IsTree at' (at' p) (with_twig key x n b t)
    graft_tree_at p t h parted way = step p t h (graft_tree _ t h parted way)

-- ---- a leaf goes

-- one leaf fewer
abbrev pub IsShorter : ℕ → Option Tree → Type 0
IsShorter size None = size ≡ 1
IsShorter size (Some t) = size ≡ length (leaves t) + 1

module _ (key : ℕ) where
  -- what is told of both sides is told of the fork
  fork_without : (P : Option Tree → Type 0) (n b : ℕ) (l r : Tree) → (bit_at key b ≡ 0 → P (Some (with_left n b (without key l) r))) → (bit_at key b ≡ 1 → P (Some (with_right n b l (without key r)))) → P (without key (Fork n b l r))
  fork_without P n b l r left right = by_side (bit_at key b) (bit_at-lt key b)
      (λ z. subst P (sym (at_zero _ z (Some (with_left n b (without key l) r)) (Some (with_right n b l (without key r))))) (left z))
      (λ o. subst P (sym (at_one _ o (Some (with_left n b (without key l) r)) (Some (with_right n b l (without key r))))) (right o))

  pub prune_length : (t : Tree) → IsShorter (length (leaves t)) (without key t)
  prune_length (Leaf i) = refl
  prune_length (Fork n b l r) = fork_without (IsShorter (length (leaves (Fork n b l r)))) n b l r (λ z. left (without key l) (prune_length l)) (λ o. right (without key r) (prune_length r))
    where
      left : (w : Option Tree) → IsShorter (length (leaves l)) w → IsShorter (length (leaves (Fork n b l r))) (Some (with_left n b w r))
      left None h = omega (arith, h, length-append (leaves l) (leaves r))
      left (Some u) h = omega (arith, h, length-append (leaves l) (leaves r), length-append (leaves u) (leaves r))

      right : (w : Option Tree) → IsShorter (length (leaves r)) w → IsShorter (length (leaves (Fork n b l r))) (Some (with_right n b l w))
      right None h = omega (arith, h, length-append (leaves l) (leaves r))
      right (Some u) h = omega (arith, h, length-append (leaves l) (leaves r), length-append (leaves l) (leaves u))

  -- what is left was there
  sub_on : (i : ℕ) (t : Tree) → is_on i (leaves_of (without key t)) ≡ true → is_on i (leaves t) ≡ true
  sub_on i (Leaf j) = λ on. let bad : false ≡ true = on in cc
  sub_on i (Fork n b l r) = fork_without (λ w. is_on i (leaves_of w) ≡ true → is_on i (leaves (Fork n b l r)) ≡ true) n b l r (λ z. left (without key l) (sub_on i l)) (λ o. right (without key r) (sub_on i r))
    where
      left : (w : Option Tree) → (is_on i (leaves_of w) ≡ true → is_on i (leaves l) ≡ true) → is_on i (leaves_of (Some (with_left n b w r))) ≡ true → is_on i (leaves (Fork n b l r)) ≡ true
      left None h on = on_right i n b l r on
      left (Some u) h on = by_bool (is_on i (leaves r)) (λ yes. on_right i n b l r yes) (λ no. on_left i n b l r (h (other_left i n b u r on no)))

      right : (w : Option Tree) → (is_on i (leaves_of w) ≡ true → is_on i (leaves r) ≡ true) → is_on i (leaves_of (Some (with_right n b l w))) ≡ true → is_on i (leaves (Fork n b l r)) ≡ true
      right None h on = on_left i n b l r on
      right (Some u) h on = by_bool (is_on i (leaves l)) (λ yes. on_left i n b l r yes) (λ no. on_right i n b l r (h (other_right i n b l u on no)))

  pub prune_parted : (keys : ℕ → ℕ) (t : Tree) → IsParted keys t → AnyParted keys (without key t)
  prune_parted keys (Leaf i) h = tt
  prune_parted keys (Fork n b l r) h = fork_without (AnyParted keys) n b l r (λ z. left (without key l) (sub l) (prune_parted keys l h.2)) (λ o. right (without key r) (sub r) (prune_parted keys r h.3))
    where
      sub : (t : Tree) (i : ℕ) → is_on i (leaves_of (without key t)) ≡ true → is_on i (leaves t) ≡ true
      sub t i on = sub_on i t on

      left : (w : Option Tree) → ((i : ℕ) → is_on i (leaves_of w) ≡ true → is_on i (leaves l) ≡ true) → AnyParted keys w → AnyParted keys (Some (with_left n b w r))
      left None s k = h.3
      left (Some u) s k = (λ i on. h.0 i (s i on), h.1, k, h.3)

      right : (w : Option Tree) → ((i : ℕ) → is_on i (leaves_of w) ≡ true → is_on i (leaves r) ≡ true) → AnyParted keys w → AnyParted keys (Some (with_right n b l w))
      right None s k = h.2
      right (Some u) s k = (h.0, λ i on. h.1 i (s i on), h.2, k)

  -- another slot stays
  pub prune_on : (j x : ℕ) (t : Tree) → nat_eq j x ≡ false → descend key t ≡ x → is_on j (leaves_of (without key t)) ≡ is_on j (leaves t)
  prune_on j x (Leaf i) ne is = sym (both_false (nat_eq j i) false (subst (λ k. nat_eq j k ≡ false) (sym is) ne) refl)
  prune_on j x (Fork n b l r) ne is = fork_without (λ w. is_on j (leaves_of w) ≡ is_on j (leaves (Fork n b l r))) n b l r
      (λ z. left (without key l) (prune_on j x l ne (sym (at_zero _ z (descend key l) (descend key r)) ∙ is)))
      (λ o. right (without key r) (prune_on j x r ne (sym (at_one _ o (descend key l) (descend key r)) ∙ is)))
    where
      left : (w : Option Tree) → is_on j (leaves_of w) ≡ is_on j (leaves l) → is_on j (leaves_of (Some (with_left n b w r))) ≡ is_on j (leaves (Fork n b l r))
      left None h = sym (is_on-append j (leaves l) (leaves r) ∙ ap (λ a. a || is_on j (leaves r)) (sym h))
      left (Some u) h = is_on-append j (leaves u) (leaves r) ∙ ap (λ a. a || is_on j (leaves r)) h ∙ sym (is_on-append j (leaves l) (leaves r))

      plain : (a : Bool) → a || false ≡ a
      plain true = refl
      plain false = refl

      right : (w : Option Tree) → is_on j (leaves_of w) ≡ is_on j (leaves r) → is_on j (leaves_of (Some (with_right n b l w))) ≡ is_on j (leaves (Fork n b l r))
      right None h = sym (is_on-append j (leaves l) (leaves r) ∙ ap (λ a. is_on j (leaves l) || a) (sym h) ∙ plain (is_on j (leaves l)))
      right (Some u) h = is_on-append j (leaves l) (leaves u) ∙ ap (λ a. is_on j (leaves l) || a) h ∙ sym (is_on-append j (leaves l) (leaves r))

  -- and another key leads where it led
  pub prune_leads : (k x leaf : ℕ) (t : Tree) → nat_eq leaf x ≡ false → descend key t ≡ x → descend k t ≡ leaf → LeadsTo k (without key t) (Some leaf)
  prune_leads k x leaf (Leaf i) ne is way = true_false (nat_eq leaf x) (subst (λ j. nat_eq leaf j ≡ true) (sym way ∙ is) (nat_eq_refl leaf)) ne
  prune_leads k x leaf (Fork n b l r) ne is way = fork_without (λ w. LeadsTo k w (Some leaf)) n b l r
      (λ z. left (without key l) (prune_leads k x leaf l ne (sym (at_zero _ z (descend key l) (descend key r)) ∙ is)))
      (λ o. right (without key r) (prune_leads k x leaf r ne (sym (at_one _ o (descend key l) (descend key r)) ∙ is)))
    where
      left : (w : Option Tree) → (descend k l ≡ leaf → LeadsTo k w (Some leaf)) → LeadsTo k (Some (with_left n b w r)) (Some leaf)
      left w h = by_side (bit_at k b) (bit_at-lt k b)
          (λ z. zero w (h (sym (at_zero _ z (descend k l) (descend k r)) ∙ way)) z)
          (λ o. one w (sym (at_one _ o (descend k l) (descend k r)) ∙ way) o)
        where
          zero : (w : Option Tree) → LeadsTo k w (Some leaf) → bit_at k b ≡ 0 → LeadsTo k (Some (with_left n b w r)) (Some leaf)
          zero None h z = absurd h
          zero (Some u) h z = at_zero _ z (descend k u) (descend k r) ∙ h

          one : (w : Option Tree) → descend k r ≡ leaf → bit_at k b ≡ 1 → LeadsTo k (Some (with_left n b w r)) (Some leaf)
          one None h o = h
          one (Some u) h o = at_one _ o (descend k u) (descend k r) ∙ h

      right : (w : Option Tree) → (descend k r ≡ leaf → LeadsTo k w (Some leaf)) → LeadsTo k (Some (with_right n b l w)) (Some leaf)
      right w h = by_side (bit_at k b) (bit_at-lt k b)
          (λ z. zero w (sym (at_zero _ z (descend k l) (descend k r)) ∙ way) z)
          (λ o. one w (h (sym (at_one _ o (descend k l) (descend k r)) ∙ way)) o)
        where
          zero : (w : Option Tree) → descend k l ≡ leaf → bit_at k b ≡ 0 → LeadsTo k (Some (with_right n b l w)) (Some leaf)
          zero None h z = h
          zero (Some u) h z = at_zero _ z (descend k l) (descend k u) ∙ h

          one : (w : Option Tree) → LeadsTo k w (Some leaf) → bit_at k b ≡ 1 → LeadsTo k (Some (with_right n b l w)) (Some leaf)
          one None h o = absurd h
          one (Some u) h o = at_one _ o (descend k l) (descend k u) ∙ h

-- the slot itself goes
pub prune_off : (keys : ℕ → ℕ) (x : ℕ) (t : Tree) → IsParted keys t → is_on x (leaves t) ≡ true → is_on x (leaves_of (without (keys x) t)) ≡ false
prune_off keys x (Leaf i) h on = refl
prune_off keys x (Fork n b l r) h on = fork_without (keys x) (λ w. is_on x (leaves_of w) ≡ false) n b l r
    (λ z. let off = not_right keys x n b l r h z in left (without (keys x) l) off (prune_off keys x l h.2 (other_left x n b l r on off)))
    (λ o. let off = not_left keys x n b l r h o in right (without (keys x) r) off (prune_off keys x r h.3 (other_right x n b l r on off)))
  where
    left : (w : Option Tree) → is_on x (leaves r) ≡ false → is_on x (leaves_of w) ≡ false → is_on x (leaves_of (Some (with_left n b w r))) ≡ false
    left None off h = off
    left (Some u) off h = off_both x n b u r h off

    right : (w : Option Tree) → is_on x (leaves l) ≡ false → is_on x (leaves_of w) ≡ false → is_on x (leaves_of (Some (with_right n b l w))) ≡ false
    right None off h = off
    right (Some u) off h = off_both x n b l u off h

-- the target that stands where this one stood: where the fork stood, what stands beside the leaf
abbrev pub pruned_to : ℕ → Target → Target → Target
pruned_to fork rest target.Nothing = target.Nothing
pruned_to fork rest (target.Leaf i) = target.Leaf i
pruned_to fork rest (target.Fork m c) = cond (nat_eq m fork) rest (target.Fork m c)

child_fork : (m n s t : ℕ) → s < 2 → t < 2 → child_of m s ≡ child_of n t → m ≡ n
child_fork m n s t p q e = omega (arith, p, q, e)

child_side : (m n s t : ℕ) → s < 2 → t < 2 → child_of m s ≡ child_of n t → s ≡ t
child_side m n s t p q e = omega (arith, p, q, e)

module _ (at at' : ℕ → Target) (x fork side : ℕ) (two : side < 2) (here_x : at (child_of fork side) ≡ target.Leaf x)
    (moves : (p : ℕ) → at p ≢ target.Nothing → p ≢ child_of fork 0 → p ≢ child_of fork 1 → at' p ≡ pruned_to fork (at (child_of fork (1 - side))) (at p)) where
  abbrev rest : Target
  rest = at (child_of fork (1 - side))

  -- a tree that has the fork has the leaf
  has_leaf : (m c : ℕ) (l r : Tree) → m ≡ fork → IsTree at (at (child_of m 0)) l → IsTree at (at (child_of m 1)) r → is_on x (leaves (Fork m c l r)) ≡ true
  has_leaf m c l r same h k = by_side side two
      (λ z. on_left x m c l r (tree_leaf at _ x l (ap (λ n. at (child_of n 0)) same ∙ subst (λ s. at (child_of fork s) ≡ target.Leaf x) z here_x) h))
      (λ o. on_right x m c l r (tree_leaf at _ x r (ap (λ n. at (child_of n 1)) same ∙ subst (λ s. at (child_of fork s) ≡ target.Leaf x) o here_x) k))

  other_fork : (m c : ℕ) (l r : Tree) → IsTree at (at (child_of m 0)) l → IsTree at (at (child_of m 1)) r → is_on x (leaves (Fork m c l r)) ≡ false → nat_eq m fork ≡ false
  other_fork m c l r h k off = by_bool (nat_eq m fork) (λ yes. true_false _ (has_leaf m c l r (equal m fork yes) h k) off) (λ no. no)

  not_child : (m s t : ℕ) → s < 2 → t < 2 → nat_eq m fork ≡ false → child_of m s ≢ child_of fork t
  not_child m s t p q ne e = true_false (nat_eq m fork) (subst (λ k. nat_eq m k ≡ true) (child_fork m fork s t p q e) (nat_eq_refl m)) ne

  prune_stands : (here : Target) (t : Tree) → IsTree at here t → is_on x (leaves t) ≡ false → pruned_to fork rest here ≡ here
  prune_stands here (Leaf i) h off = ap (pruned_to fork rest) h ∙ sym h
  prune_stands here (Fork m c l r) h off = ap (pruned_to fork rest) h.0 ∙ ap (λ b. cond b rest (target.Fork m c)) (other_fork m c l r h.1 h.2 off) ∙ sym h.0

  -- from another place on
  prune_same : (p : ℕ) (t : Tree) → p ≢ child_of fork 0 → p ≢ child_of fork 1 → IsTree at (at p) t → is_on x (leaves t) ≡ false → at' p ≡ at p
  prune_same p t z o h off = moves p (tree_there at _ t h) z o ∙ prune_stands _ t h off

  pub prune_frame : (here : Target) (t : Tree) → IsTree at here t → is_on x (leaves t) ≡ false → IsTree at' here t
  prune_frame here (Leaf i) h off = h
  prune_frame here (Fork m c l r) h off =
      let ne = other_fork m c l r h.1 h.2 off in
      let p = off_left x m c l r off in
      let q = off_right x m c l r off in (
        h.0,
        subst (λ y. IsTree at' y l) (sym (prune_same (child_of m 0) l (not_child m 0 0 (omega arith) (omega arith) ne) (not_child m 0 1 (omega arith) (omega arith) ne) h.1 p)) (prune_frame (at (child_of m 0)) l h.1 p),
        subst (λ y. IsTree at' y r) (sym (prune_same (child_of m 1) r (not_child m 1 0 (omega arith) (omega arith) ne) (not_child m 1 1 (omega arith) (omega arith) ne) h.2 q)) (prune_frame (at (child_of m 1)) r h.2 q),
      )

  -- a root is behind no fork
  not_root : (p side' : ℕ) → p < 1048576 → p ≢ child_of fork side'
  not_root p side' lt e = omega (arith, lt, e)

  -- from a root on
  pub prune_frame_at : (p : ℕ) → p < 1048576 → (t : Tree) → IsTree at (at p) t → is_on x (leaves t) ≡ false → IsTree at' (at' p) t
  prune_frame_at p lt t h off = subst (λ y. IsTree at' y t) (sym (prune_same p t (not_root p 0 lt) (not_root p 1 lt) h off)) (prune_frame _ t h off)

  module _ (keys : ℕ → ℕ) (only : (p : ℕ) → at p ≡ target.Leaf x → p ≡ child_of fork side) where
    -- what is left stands where the tree stood
    abbrev pub IsLeft : Target → Option Tree → Type 0
    IsLeft here None = here ≡ target.Leaf x
    IsLeft here (Some t) = (here ≢ target.Leaf x) × IsTree at' (pruned_to fork rest here) t

    isn't_leaf : (here : Target) (m c : ℕ) → here ≡ target.Fork m c → here ≢ target.Leaf x
    isn't_leaf here m c e leaf = let bad : target.Fork m c ≡ target.Leaf x = sym e ∙ leaf in cc

    same_to : (here : Target) (m c : ℕ) → here ≡ target.Fork m c → m ≡ fork → pruned_to fork rest here ≡ rest
    same_to here m c h e = ap (pruned_to fork rest) h ∙ ap (λ b. cond b rest (target.Fork m c)) (subst (λ k. nat_eq m k ≡ true) e (nat_eq_refl m))

    other_to : (here : Target) (m c : ℕ) → here ≡ target.Fork m c → nat_eq m fork ≡ false → pruned_to fork rest here ≡ target.Fork m c
    other_to here m c h ne = ap (pruned_to fork rest) h ∙ ap (λ b. cond b rest (target.Fork m c)) ne

    goes : (m s : ℕ) → s < 2 → nat_eq m fork ≡ false → (t u : Tree) → IsTree at (at (child_of m s)) t → IsTree at' (pruned_to fork rest (at (child_of m s))) u → IsTree at' (at' (child_of m s)) u
    goes m s lt ne t u k v = subst (λ y. IsTree at' y u) (sym (moves (child_of m s) (tree_there at _ t k) (not_child m s 0 lt (omega arith) ne) (not_child m s 1 lt (omega arith) ne))) v

    stays : (m s : ℕ) → s < 2 → nat_eq m fork ≡ false → (t : Tree) → IsTree at (at (child_of m s)) t → is_on x (leaves t) ≡ false → IsTree at' (at' (child_of m s)) t
    stays m s lt ne t k off = goes m s lt ne t t k (subst (λ y. IsTree at' y t) (sym (prune_stands _ t k off)) (prune_frame _ t k off))

    from_left : (here : Target) (m c : ℕ) (l r : Tree) → IsTree at here (Fork m c l r) → bit_at (keys x) c ≡ 0 → is_on x (leaves r) ≡ false → (w : Option Tree) → IsLeft (at (child_of m 0)) w → IsLeft here (Some (with_left m c w r))
    from_left here m c l r h z off None k =
        let place = only (child_of m 0) k in
        let same : m ≡ fork = child_fork m fork 0 side (omega arith) two place in
        let left_one : 0 ≡ side = child_side m fork 0 side (omega arith) two place in
        let beside : rest ≡ at (child_of m 1) = ap (λ s. at (child_of fork (1 - s))) (sym left_one) ∙ ap (λ n. at (child_of n 1)) (sym same) in
        (isn't_leaf here m c h.0, subst (λ y. IsTree at' y r) (sym (same_to here m c h.0 same ∙ beside)) (prune_frame (at (child_of m 1)) r h.2 off))
    from_left here m c l r h z off (Some u) k =
        let ne : nat_eq m fork ≡ false = by_bool (nat_eq m fork)
        (λ yes. by_side side two
        (λ s. absurd (k.0 (ap (λ n. at (child_of n 0)) (equal m fork yes) ∙ subst (λ s'. at (child_of fork s') ≡ target.Leaf x) s here_x)))
        (λ s. true_false _ (tree_leaf at _ x r (ap (λ n. at (child_of n 1)) (equal m fork yes) ∙ subst (λ s'. at (child_of fork s') ≡ target.Leaf x) s here_x) h.2) off))
        (λ no. no) in
        (isn't_leaf here m c h.0, (other_to here m c h.0 ne, goes m 0 (omega arith) ne l u h.1 k.1, stays m 1 (omega arith) ne r h.2 off))

    from_right : (here : Target) (m c : ℕ) (l r : Tree) → IsTree at here (Fork m c l r) → bit_at (keys x) c ≡ 1 → is_on x (leaves l) ≡ false → (w : Option Tree) → IsLeft (at (child_of m 1)) w → IsLeft here (Some (with_right m c l w))
    from_right here m c l r h o off None k =
        let place = only (child_of m 1) k in
        let same : m ≡ fork = child_fork m fork 1 side (omega arith) two place in
        let right_one : 1 ≡ side = child_side m fork 1 side (omega arith) two place in
        let beside : rest ≡ at (child_of m 0) = ap (λ s. at (child_of fork (1 - s))) (sym right_one) ∙ ap (λ n. at (child_of n 0)) (sym same) in
        (isn't_leaf here m c h.0, subst (λ y. IsTree at' y l) (sym (same_to here m c h.0 same ∙ beside)) (prune_frame (at (child_of m 0)) l h.1 off))
    from_right here m c l r h o off (Some u) k =
        let ne : nat_eq m fork ≡ false = by_bool (nat_eq m fork)
        (λ yes. by_side side two
        (λ s. true_false _ (tree_leaf at _ x l (ap (λ n. at (child_of n 0)) (equal m fork yes) ∙ subst (λ s'. at (child_of fork s') ≡ target.Leaf x) s here_x) h.1) off)
        (λ s. absurd (k.0 (ap (λ n. at (child_of n 1)) (equal m fork yes) ∙ subst (λ s'. at (child_of fork s') ≡ target.Leaf x) s here_x))))
        (λ no. no) in
        (isn't_leaf here m c h.0, (other_to here m c h.0 ne, stays m 0 (omega arith) ne l h.1 off, goes m 1 (omega arith) ne r u h.2 k.1))

    pub left_tree : (here : Target) (t : Tree) → IsTree at here t → IsParted keys t → is_on x (leaves t) ≡ true → IsLeft here (without (keys x) t)
    left_tree here (Leaf i) h parted on = h ∙ ap target.Leaf (sym (only_leaf x i on))
    left_tree here (Fork m c l r) h parted on = fork_without (keys x) (IsLeft here) m c l r
        (λ z. let off = not_right keys x m c l r parted z in from_left here m c l r h z off (without (keys x) l) (left_tree (at (child_of m 0)) l h.1 parted.2 (other_left x m c l r on off)))
        (λ o. let off = not_left keys x m c l r parted o in from_right here m c l r h o off (without (keys x) r) (left_tree (at (child_of m 1)) r h.2 parted.3 (other_right x m c l r on off)))

-- ---- a leaf gets another key

-- the key leads to the leaf that gets it
pub parted_again : (keys keys' : ℕ → ℕ) (s : ℕ) → ((i : ℕ) → nat_eq i s ≡ false → keys' i ≡ keys i) → (t : Tree) → descend (keys' s) t ≡ s → IsParted keys t → IsParted keys' t
parted_again keys keys' s same (Leaf i) way h = tt
parted_again keys keys' s same (Fork n b l r) way h =
    let apart : (i : ℕ) (t : Tree) → is_on s (leaves t) ≡ false → is_on i (leaves t) ≡ true → nat_eq i s ≡ false = λ i t off on. by_bool (nat_eq i s) (λ yes. true_false (is_on i (leaves t)) on (ap (λ j. is_on j (leaves t)) (equal i s yes) ∙ off)) (λ no. no) in
    let away : (value : ℕ) (t : Tree) → is_on s (leaves t) ≡ false → HaveBit keys b value t → HaveBit keys' b value t = λ value t off k i on. ap (λ x. bit_at x b) (same i (apart i t off on)) ∙ k i on in
    let here : (value : ℕ) (t : Tree) → bit_at (keys' s) b ≡ value → HaveBit keys b value t → HaveBit keys' b value t = λ value t is k i on. by_bool (nat_eq i s) (λ yes. ap (λ j. bit_at (keys' j) b) (equal i s yes) ∙ is) (λ no. ap (λ x. bit_at x b) (same i no) ∙ k i on) in
    by_side (bit_at (keys' s) b) (bit_at-lt (keys' s) b)
    (λ z.
    let down : descend (keys' s) l ≡ s = sym (at_zero _ z (descend (keys' s) l) (descend (keys' s) r)) ∙ way in
    let on : is_on s (leaves l) ≡ true = subst (λ j. is_on j (leaves l) ≡ true) down (descend_on (keys' s) l) in
    let off = not_right keys s n b l r h (h.0 s on) in
    (here 0 l z h.0, away 1 r off h.1, parted_again keys keys' s same l down h.2, parted_frame keys keys' r (λ i there. same i (apart i r off there)) h.3))
    (λ o.
    let down : descend (keys' s) r ≡ s = sym (at_one _ o (descend (keys' s) l) (descend (keys' s) r)) ∙ way in
    let on : is_on s (leaves r) ≡ true = subst (λ j. is_on j (leaves r) ≡ true) down (descend_on (keys' s) r) in
    let off = not_left keys s n b l r h (h.1 s on) in
    (away 0 l off h.0, here 1 r o h.1, parted_frame keys keys' l (λ i there. same i (apart i l off there)) h.2, parted_again keys keys' s same r down h.3))
