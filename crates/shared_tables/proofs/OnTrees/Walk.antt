-- A walk down a tree.
use Rattle.std.proofs.Common.{◌≡◌, ◌≢◌, ℕ, ◌+◌, ◌^◌, ◌<◌, ◌≤◌, true, false, List, length, Option, Some, None, refl, sym, ap, ◌∙◌, subst, arith, length-append}
use Rattle.std.specs.Int.{bit_at}
use Rattle.std.specs.List.{sum_by}
use Rattle.std.proofs.lemmas.Nat.Bits.{bit_at-lt}
use Rattle.shared_tables.specs.declared.trees.Target.{Target}
use Rattle.shared_tables.specs.declared.trees.Target.TheVariants as target
use Rattle.shared_tables.specs.Bucket.{key_of, bucket_of, tree_of}
use Rattle.shared_tables.specs.Pool.{Held, entry_at, IfHeld}
use Rattle.shared_tables.specs.Line.{is_on, weight}
use Rattle.shared_tables.specs.LinkSteps.{IsHeld}
use Rattle.shared_tables.specs.Shared.{tree_key, Lacks, bucket_count}
use Rattle.shared_tables.specs.Tree.{Tree, Leaf, Fork, leaves, IsTree, IsParted, descend}
use Rattle.shared_tables.specs.TreeColumns.{Trees, target_at, child_of}
use Rattle.shared_tables.specs.TreesOfSlots.{keys_of, key_in, leaves_of, IsRooted, AnyParted, IsTreeOf, Belongs, AreTreesOf}
use Rattle.shared_tables.proofs.OnTrees.Buckets.{few_in_tree, tree_small}
use Rattle.shared_tables.proofs.OnTrees.TreeLemmas.{some_leaf, by_side, at_zero, at_one, tree_there, descend_on, descend_own}
use Rattle.shared_tables.proofs.OnTrees.TreesOfLemmas.{key_of_held, some_of_key, fork_there}
use Rattle.shared_tables.proofs.OnEntries.Threaded.{in_entries}
use Rattle.shared_tables.proofs.OnTrees.Ways.{Way, way_starts, way_left, way_right, way_few}

-- what stands at a target is the tree to which a key has led within a whole tree
pub record Reaches (at : ℕ → Target) (keys : ℕ → ℕ) (key was now : ℕ) (here : Target) (whole : Tree) : Type 0 where
  pub tree : Tree
  pub stands : IsTree at here tree
  pub leads : descend key tree ≡ descend key whole
  pub few : now + length (leaves tree) ≤ was + length (leaves whole)
  pub parted : IsParted keys tree
  pub way : Way keys key was now tree

-- the same, if the tree has leaves
abbrev pub Leads : (ℕ → Target) → (ℕ → ℕ) → ℕ → ℕ → ℕ → Target → Option Tree → Type 0
Leads at keys key was now here None = (here ≡ target.Nothing) × (now ≡ was)
Leads at keys key was now here (Some whole) = Reaches at keys key was now here whole

-- the walk has come to a target
pub record Walks (es : List (Option Held)) (w : Trees) (vid : ℕ) (mac : List ℕ) (was now : ℕ) (here : Target) : Type 0 where
  pub leads : (k : IsTreeOf es w.words (tree_of vid mac)) → Leads (target_at w.words) (keys_of es) (key_of vid mac) was now here k.tree
  pub counted : was ≤ now
  pub place : ℕ
  pub stands : here ≡ target_at w.words place

module _ (es : List (Option Held)) (w : Trees) (vid : ℕ) (mac : List ℕ) (was : ℕ) where
  abbrev at : ℕ → Target
  at = target_at w.words

  abbrev key : ℕ
  key = key_of vid mac

  abbrev c : ℕ
  c = tree_of vid mac

  abbrev keys : ℕ → ℕ
  keys = keys_of es

  pub walk_starts : Walks es w vid mac was was (at c)
  walk_starts = record { leads = λ k. from k.tree k.rooted k.parted; counted = omega arith; place = c; stands = refl }
    where
      from : (o : Option Tree) → IsRooted at (at c) o → AnyParted keys o → Leads at keys key was was (at c) o
      from None r p = (r, refl)
      from (Some t) r p = record { tree = t; stands = r; leads = refl; few = omega arith; parted = p; way = way_starts keys key was t }

  -- the walk at a fork, and a step further
  step_on : (keyed : (i : ℕ) → keys i < 2 ^ 60) (now m b : ℕ) (o : Option Tree) → Leads at keys key was now (target.Fork m b) o → Leads at keys key was (now + 1) (at (child_of m (bit_at key b))) o
  step_on keyed now m b None h = let bad : target.Fork m b ≡ target.Nothing = h.0 in cc
  step_on keyed now m b (Some whole) h = from h.tree h.stands h.leads h.few h.parted h.way
    where
      from : (t : Tree) → IsTree at (target.Fork m b) t → descend key t ≡ descend key whole → now + length (leaves t) ≤ was + length (leaves whole) → IsParted keys t → Way keys key was now t
          → Reaches at keys key was (now + 1) (at (child_of m (bit_at key b))) whole
      from (Leaf i) k leads few parted way = let bad : target.Fork m b ≡ target.Leaf i = k in cc
      from (Fork n d l r) k leads few parted way =
          let p : target.Fork m b ≡ target.Fork n d = k.0 in
          let m_is : n ≡ m = cc in
          let b_is : d ≡ b = cc in
          by_side (bit_at key b) (bit_at-lt key b)
          (λ z.
          let zero_d : bit_at key d ≡ 0 = ap (bit_at key) b_is ∙ z in
          record {
            tree = l;
            stands = subst (λ y. IsTree at y l) (ap (λ n. at (child_of n 0)) m_is ∙ ap (λ s. at (child_of m s)) (sym z)) k.1;
            leads = sym (at_zero _ zero_d (descend key l) (descend key r)) ∙ leads;
            few = omega (arith, few, length-append (leaves l) (leaves r), some_leaf r);
            parted = parted.2;
            way = way_left keys keyed key was now n d l r parted way zero_d;
          })
          (λ o.
          let one_d : bit_at key d ≡ 1 = ap (bit_at key) b_is ∙ o in
          record {
            tree = r;
            stands = subst (λ y. IsTree at y r) (ap (λ n. at (child_of n 1)) m_is ∙ ap (λ s. at (child_of m s)) (sym o)) k.2;
            leads = sym (at_one _ one_d (descend key l) (descend key r)) ∙ leads;
            few = omega (arith, few, length-append (leaves l) (leaves r), some_leaf l);
            parted = parted.3;
            way = way_right keys keyed key was now n d l r parted way one_d;
          })

  pub walk_on : (h : AreTreesOf es w) (now m b : ℕ) → Walks es w vid mac was now (target.Fork m b) → Walks es w vid mac was (now + 1) (at (child_of m (bit_at key b)))
  walk_on h now m b walk = record {
    leads = λ k. step_on h.keys now m b k.tree (walk.leads k);
    counted = omega (arith, walk.counted);
    place = child_of m (bit_at key b);
    stands = refl;
  }

  -- a walk that goes on has compared less than the bucket has
  pub walk_few : (now : ℕ) (here : Target) → here ≢ target.Nothing → AreTreesOf es w → Walks es w vid mac was now here → now + 1 ≤ was + bucket_count (bucket_of vid mac) es
  walk_few now here some h k =
      let own = h.numbered c (tree_small vid mac) in
      from own.tree (k.leads own) own.size
    where
      from : (o : Option Tree) → Leads at keys key was now here o → length (leaves_of o) ≡ sum_by (weight (tree_key c)) es → now + 1 ≤ was + bucket_count (bucket_of vid mac) es
      from None l size = absurd (some l.0)
      from (Some whole) l size = omega (arith, l.few, some_leaf l.tree, size, few_in_tree vid mac es)

  -- no walk has more steps than a key has bits
  pub walk_short : (now : ℕ) (here : Target) → AreTreesOf es w → Walks es w vid mac was now here → now ≤ was + 60
  walk_short now here h k =
      let own = h.numbered c (tree_small vid mac) in
      from own.tree (k.leads own)
    where
      from : (o : Option Tree) → Leads at keys key was now here o → now ≤ was + 60
      from None l = omega (arith, l.1)
      from (Some whole) l = way_few keys key was now l.tree l.way

  -- what holds the address is the leaf to which its key leads
  held_leaf : (k : IsTreeOf es w.words c) (i : ℕ) → IfHeld (entry_at es i) vid mac → is_on i (leaves_of k.tree) ≡ true
  held_leaf k i held = k.members i ∙ key_of_held (entry_at es i) vid mac held

  key_held : (o : Option Held) → IfHeld o vid mac → key_in o ≡ key
  key_held None h = absurd h
  key_held (Some e) h = ap (λ v. key_of v e.mac) h.0 ∙ ap (key_of vid) h.1

  -- the walk has come to nothing
  pub walk_none : (now : ℕ) → AreTreesOf es w → Walks es w vid mac was now target.Nothing → Lacks es vid mac × Belongs w.words c key None
  walk_none now h k =
      let own = h.numbered c (tree_small vid mac) in
      from own own.tree refl (k.leads own) own.rooted
    where
      from : (own : IsTreeOf es w.words c) (o : Option Tree) → own.tree ≡ o → Leads at keys key was now target.Nothing o → IsRooted at (at c) o → Lacks es vid mac × Belongs w.words c key None
      from own None is l rooted = (λ i held. let bad : false ≡ true = subst (λ t. is_on i (leaves_of t) ≡ true) is (held_leaf own i held) in cc, record { tree = None; rooted = rooted; leads = tt })
      from own (Some whole) is l rooted = absurd (tree_there at target.Nothing l.tree l.stands refl)

  -- the walk has come to a leaf
  pub record Arrives (slot : ℕ) : Type 0 where
    pub own : IsTreeOf es w.words c
    pub whole : Tree
    pub is : own.tree ≡ Some whole
    pub way : descend key whole ≡ slot

  pub walk_leaf : (now slot : ℕ) → AreTreesOf es w → Walks es w vid mac was now (target.Leaf slot) → Arrives slot
  walk_leaf now slot h k =
      let own = h.numbered c (tree_small vid mac) in
      from own own.tree refl (k.leads own)
    where
      from : (own : IsTreeOf es w.words c) (o : Option Tree) → own.tree ≡ o → Leads at keys key was now (target.Leaf slot) o → Arrives slot
      from own None is l = let bad : target.Leaf slot ≡ target.Nothing = l.0 in cc
      from own (Some whole) is l = record { own = own; whole = whole; is = is; way = sym l.leads ∙ tip l.tree l.stands }
        where
          tip : (t : Tree) → IsTree at (target.Leaf slot) t → descend key t ≡ slot
          tip (Leaf i) q = let p : target.Leaf slot ≡ target.Leaf i = q in cc
          tip (Fork n b l r) q = let p : target.Leaf slot ≡ target.Fork n b = q.0 in cc

  module _ (slot : ℕ) (a : Arrives slot) where
    on_whole : is_on slot (leaves a.whole) ≡ true
    on_whole = subst (λ i. is_on i (leaves a.whole) ≡ true) a.way (descend_on key a.whole)

    slot_key : tree_key c (entry_at es slot) ≡ true
    slot_key = sym (a.own.members slot) ∙ ap (λ o. is_on slot (leaves_of o)) a.is ∙ on_whole

    pub arrives_held : IsHeld es slot
    arrives_held = record { in_pool = in_entries (tree_key c) refl es slot slot_key; held = some_of_key c (entry_at es slot) slot_key }

    -- another slot doesn't hold the address
    pub arrives_lacks : (IfHeld (entry_at es slot) vid mac → ⊥) → Lacks es vid mac
    arrives_lacks differs i held =
        let on : is_on i (leaves a.whole) ≡ true = ap (λ o. is_on i (leaves_of o)) (sym a.is) ∙ held_leaf a.own i held in
        let parted : AnyParted (keys_of es) (Some a.whole) = subst (AnyParted (keys_of es)) a.is a.own.parted in
        let there : slot ≡ i = sym a.way ∙ ap (λ k. descend k a.whole) (sym (key_held (entry_at es i) held)) ∙ descend_own (keys_of es) i a.whole parted on in
        differs (subst (λ j. IfHeld (entry_at es j) vid mac) (sym there) held)

    pub arrives_belongs : Belongs w.words c key (Some slot)
    arrives_belongs = record { tree = Some a.whole; rooted = subst (IsRooted at (at c)) a.is a.own.rooted; leads = a.way }

-- what a step at a fork reads is there
module _ (es : List (Option Held)) (w : Trees) (vid : ℕ) (mac : List ℕ) (was now n b : ℕ) (h : AreTreesOf es w) (k : Walks es w vid mac was now (target.Fork n b)) where
  pub walk_fork : n < length w.forks
  walk_fork = fork_there es w h k.place n b (sym k.stands)

-- a walk to nothing compares nothing
pub walk_still : (es : List (Option Held)) (w : Trees) (vid : ℕ) (mac : List ℕ) (was now : ℕ) → AreTreesOf es w → Walks es w vid mac was now target.Nothing → now ≡ was
walk_still es w vid mac was now h k =
    let own = h.numbered (tree_of vid mac) (tree_small vid mac) in
    from own.tree (k.leads own)
  where
    from : (o : Option Tree) → Leads (target_at w.words) (keys_of es) (key_of vid mac) was now target.Nothing o → now ≡ was
    from None l = l.1
    from (Some whole) l = absurd (tree_there (target_at w.words) target.Nothing l.tree l.stands refl)
