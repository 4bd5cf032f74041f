-- What holds of the trees and the entries together, and what follows.
use Rattle.std.proofs.Common.{inl, inr, ◌⊎◌, ◌≡◌, ◌≢◌, ℕ, zero, suc, ◌+◌, ◌-◌, ◌*◌, ◌/◌, ◌%◌, ◌<◌, ◌≤◌, Bool, true, false, cond, List, [], ◌∷◌, ◌++◌, length, set, Option, Some, None, IsSome, nat_eq, nat_lt, refl, sym, ap, ◌∙◌, subst, arith}
use Rattle.std.proofs.lemmas.List.{get_or-set_same, get_or-set_other, length-set, get_or_past}
use Rattle.std.proofs.lemmas.List.Sums.{sum_by-set}
use Rattle.std.proofs.lemmas.Bool.{cases_lt}
use Rattle.std.proofs.lemmas.Bool.Decides.{nat_tests}
use Rattle.shared_tables.specs.declared.trees.Target.{Target}
use Rattle.shared_tables.specs.declared.trees.Target.TheVariants as target
use Rattle.shared_tables.specs.Bucket.{tree_of, IsKey}
use Rattle.shared_tables.specs.Pool.{Held, entry_at, IfHeld}
use Rattle.std.specs.List.{sum_by, range_with_len}
use Rattle.shared_tables.specs.Line.{is_on, weight}
use Rattle.shared_tables.specs.Shared.{tree_key}
use Rattle.shared_tables.specs.LinkSteps.{IsHeld}
use Rattle.shared_tables.specs.Tree.{Tree, leaves, IsTree, IsParted, descend}
use Rattle.shared_tables.specs.TreeColumns.{Trees, target_in, IsFork, fork_word, target_at, number_at, child_of}
use Rattle.shared_tables.specs.TreesOfSlots.{keys_of, AreKeys, key_in, leaves_of, IsRooted, AnyParted, LeadsTo, IsTreeOf, Belongs, IsBare, StandsAt, AreTreesOf}
use Rattle.shared_tables.proofs.OnEntries.Linked.{by_bool, equal, nat_eq_refl}
use Rattle.shared_tables.proofs.OnTrees.TreeLemmas.{true_false, by_side, same_tree, tree_there, parted_frame}

-- numbers that differ
pub apart : (i s : ℕ) → nat_eq i s ≡ false → i ≢ s
apart i s h q = true_false (nat_eq i s) (subst (λ k. nat_eq i k ≡ true) q (nat_eq_refl i)) h

pub differ : (i s : ℕ) → i ≢ s → nat_eq i s ≡ false
differ i s h = by_bool (nat_eq i s) (λ yes. absurd (h (equal i s yes))) (λ no. no)

-- an entry of the address passes its tree's test
pub key_of_held : (o : Option Held) (vid : ℕ) (mac : List ℕ) → IfHeld o vid mac → tree_key (tree_of vid mac) o ≡ true
key_of_held None vid mac h = absurd h
key_of_held (Some e) vid mac h = subst (λ b. nat_eq (tree_of e.vid e.mac) b ≡ true) (ap (λ v. tree_of v e.mac) h.0 ∙ ap (tree_of vid) h.1) (nat_eq_refl (tree_of e.vid e.mac))

pub some_of_key : (b : ℕ) (o : Option Held) → tree_key b o ≡ true → IsSome o
some_of_key b None h = let bad : true ≡ false = sym h in cc
some_of_key b (Some e) h = refl

-- ---- words

pub nothing_word : target_in 4294967295 ≡ target.Nothing
unfolding target_in
nothing_word = refl

pub leaf_word : (s : ℕ) → s < 1048576 → target_in s ≡ target.Leaf s
unfolding target_in
leaf_word s lt =
    let yes : nat_lt s 1048576 ≡ true = grind (arith, nat_tests, lt) in
    ap (λ b. cond b (target.Leaf s) (cond (nat_eq s 4294967295) target.Nothing (target.Fork ((s - 1048576) / 64) ((s - 1048576) % 64)))) yes

pub fork_is : (n b : ℕ) → n < 1048576 → b < 64 → target_in (fork_word n b) ≡ target.Fork n b
unfolding target_in
fork_is n b p q =
    let w : ℕ = 1048576 + n * 64 + b in
    let no : nat_lt (1048576 + n * 64 + b) 1048576 ≡ false = grind (arith, nat_tests) in
    let nor : nat_eq (1048576 + n * 64 + b) 4294967295 ≡ false = grind (arith, nat_tests, p, q) in
    let fork : (1048576 + n * 64 + b - 1048576) / 64 ≡ n = omega (arith, p, q) in
    let bit : (1048576 + n * 64 + b - 1048576) % 64 ≡ b = omega (arith, p, q) in
    ap (λ c. cond c (target.Leaf (1048576 + n * 64 + b)) (cond (nat_eq (1048576 + n * 64 + b) 4294967295) target.Nothing (target.Fork ((1048576 + n * 64 + b - 1048576) / 64) ((1048576 + n * 64 + b - 1048576) % 64)))) no
    ∙ ap (λ c. cond c target.Nothing (target.Fork ((1048576 + n * 64 + b - 1048576) / 64) ((1048576 + n * 64 + b - 1048576) % 64))) nor
    ∙ ap (λ k. target.Fork k ((1048576 + n * 64 + b - 1048576) % 64)) fork ∙ ap (target.Fork n) bit

pub fork_told : (word : ℕ) → IsFork word → target_in word ≡ target.Fork ((word - 1048576) / 64) ((word - 1048576) % 64)
unfolding target_in
fork_told word f =
    let no : nat_lt word 1048576 ≡ false = grind (arith, nat_tests, f.0) in
    let nor : nat_eq word 4294967295 ≡ false = grind (arith, nat_tests, f.1) in
    ap (λ c. cond c (target.Leaf word) (cond (nat_eq word 4294967295) target.Nothing (target.Fork ((word - 1048576) / 64) ((word - 1048576) % 64)))) no
    ∙ ap (λ c. cond c target.Nothing (target.Fork ((word - 1048576) / 64) ((word - 1048576) % 64))) nor

pub no_fork_told : (word n b : ℕ) → (IsFork word → ⊥) → target_in word ≢ target.Fork n b
unfolding target_in
no_fork_told word n b none = go (nat_lt word 1048576) (nat_eq word 4294967295) refl refl
  where
    go : (x y : Bool) → nat_lt word 1048576 ≡ x → nat_eq word 4294967295 ≡ y → cond x (target.Leaf word) (cond y target.Nothing (target.Fork ((word - 1048576) / 64) ((word - 1048576) % 64))) ≢ target.Fork n b
    go true y p q e = let bad : target.Leaf word ≡ target.Fork n b = e in cc
    go false true p q e = let bad : target.Nothing ≡ target.Fork n b = e in cc
    go false false p q e = absurd (none (grind (arith, nat_tests, p), apart word 4294967295 q))

-- a place where something stands is there
pub in_words : (words : List ℕ) (p : ℕ) → target_at words p ≢ target.Nothing → p < length words
in_words words p some = from (cases_lt p (length words))
  where
    from : (p < length words) ⊎ (length words ≤ p) → p < length words
    from (inl lt) = lt
    from (inr le) = absurd (some (ap target_in (get_or_past words p 4294967295 le) ∙ nothing_word))

pub written_same : (words : List ℕ) (q v : ℕ) → q < length words → target_at (set words q v) q ≡ target_in v
written_same words q v lt = ap target_in (get_or-set_same words q v 4294967295 lt)

pub written_other : (words : List ℕ) (q v p : ℕ) → p ≢ q → target_at (set words q v) p ≡ target_at words p
written_other words q v p ne = ap target_in (get_or-set_other words q p v 4294967295 ne)

pub number_same : (xs : List ℕ) (q v : ℕ) → q < length xs → number_at (set xs q v) q ≡ v
number_same xs q v lt = get_or-set_same xs q v 0 lt

pub number_other : (xs : List ℕ) (q v p : ℕ) → p ≢ q → number_at (set xs q v) p ≡ number_at xs p
number_other xs q v p ne = get_or-set_other xs q p v 0 ne

pub entry_same : (es : List (Option Held)) (s : ℕ) (e : Option Held) → s < length es → entry_at (set es s e) s ≡ e
entry_same es s e lt = get_or-set_same es s e None lt

pub entry_other : (es : List (Option Held)) (s i : ℕ) (e : Option Held) → i ≢ s → entry_at (set es s e) i ≡ entry_at es i
entry_other es s i e ne = get_or-set_other es s i e None ne

-- the keys when a slot holds something else
pub keys_set : (es : List (Option Held)) (s : ℕ) (o : Option Held) → s < length es → IsKey (key_in o) → AreKeys es → AreKeys (set es s o)
keys_set es s o lt own h i = by_bool (nat_eq i s)
    (λ yes. subst (λ (x : Option Held). IsKey (key_in x)) (sym (ap (entry_at (set es s o)) (equal i s yes) ∙ entry_same es s o lt)) own)
    (λ no. subst (λ (x : Option Held). IsKey (key_in x)) (sym (entry_other es s i o (apart i s no))) (h i))

-- where it holds nothing
pub keys_gone : (es : List (Option Held)) (s : ℕ) → s < length es → AreKeys es → AreKeys (set es s None)
keys_gone es s lt h = keys_set es s None lt (omega arith) h

-- what a slot holds stays there when another changes
pub held_beside : (es : List (Option Held)) (s i : ℕ) (e : Option Held) → i ≢ s → IsHeld es i → IsHeld (set es s e) i
held_beside es s i e ne h = record {
  in_pool = subst (λ n. i < n) (sym (length-set es s e)) h.in_pool;
  held = subst (λ (o : Option Held). IsSome o) (sym (entry_other es s i e ne)) h.held;
}

pub held_here : (es : List (Option Held)) (s : ℕ) (e : Held) → s < length es → IsHeld (set es s (Some e)) s
held_here es s e lt = record {
  in_pool = subst (λ n. s < n) (sym (length-set es s (Some e))) lt;
  held = subst (λ (o : Option Held). IsSome o) (sym (entry_same es s (Some e) lt)) refl;
}

-- a free slot holds nothing
pub not_free : (es : List (Option Held)) (i s : ℕ) → IsHeld es i → entry_at es s ≡ None → i ≢ s
not_free es i s h free q =
    let no : false ≡ true = subst (λ (o : Option Held). IsSome o) (ap (entry_at es) q ∙ free) h.held in
    cc

-- ---- what stands where

-- what stands on one side of a bare fork
pub bare_at : (words : List ℕ) (n s : ℕ) → s < 2 → IsBare words n → target_at words (child_of n s) ≡ target.Nothing
bare_at words n s lt h = by_side s lt
    (λ z. subst (λ k. target_at words (child_of n k) ≡ target.Nothing) (sym z) h.0)
    (λ o. subst (λ k. target_at words (child_of n k) ≡ target.Nothing) (sym o) h.1)

-- where something stands is none of the places of a bare fork
pub not_bare : (words : List ℕ) (n s p : ℕ) → s < 2 → IsBare words n → target_at words p ≢ target.Nothing → p ≢ child_of n s
not_bare words n s p lt h some q = some (ap (target_at words) q ∙ bare_at words n s lt h)

pub leaf_there : (t : Target) (i : ℕ) → t ≡ target.Leaf i → t ≢ target.Nothing
leaf_there t i h none = let bad : target.Leaf i ≡ target.Nothing = sym h ∙ none in cc

pub fork_stands : (t : Target) (n b : ℕ) → t ≡ target.Fork n b → t ≢ target.Nothing
fork_stands t n b h none = let bad : target.Fork n b ≡ target.Nothing = sym h ∙ none in cc

-- a tree that has a leaf
pub record HasTree (es : List (Option Held)) (words : List ℕ) (c : ℕ) : Type 0 where
  pub tree : Tree
  pub rooted : IsTree (target_at words) (target_at words c) tree
  pub parted : IsParted (keys_of es) tree
  pub members : (i : ℕ) → is_on i (leaves tree) ≡ tree_key c (entry_at es i)
  pub size : length (leaves tree) ≡ sum_by (weight (tree_key c)) es

-- the tree of what stands at its root
pub some_tree : (es : List (Option Held)) (words : List ℕ) (c : ℕ) → target_at words c ≢ target.Nothing → IsTreeOf es words c → HasTree es words c
some_tree es words c some k = from k.tree k.rooted k.parted k.members k.size
  where
    from : (o : Option Tree) → IsRooted (target_at words) (target_at words c) o → AnyParted (keys_of es) o → ((i : ℕ) → is_on i (leaves_of o) ≡ tree_key c (entry_at es i)) → length (leaves_of o) ≡ sum_by (weight (tree_key c)) es → HasTree es words c
    from None rooted parted members size = absurd (some rooted)
    from (Some t) rooted parted members size = record { tree = t; rooted = rooted; parted = parted; members = members; size = size }

pub of_some_tree : (es : List (Option Held)) (words : List ℕ) (c : ℕ) → HasTree es words c → IsTreeOf es words c
of_some_tree es words c k = record { tree = Some k.tree; rooted = k.rooted; parted = k.parted; members = k.members; size = k.size }

-- where a key belongs beside a leaf, something stands at the root, and the key leads to the leaf
pub belongs_there : (words : List ℕ) (c key leaf : ℕ) → Belongs words c key (Some leaf) → target_at words c ≢ target.Nothing
belongs_there words c key leaf h = from h.tree h.rooted h.leads
  where
    from : (o : Option Tree) → IsRooted (target_at words) (target_at words c) o → LeadsTo key o (Some leaf) → target_at words c ≢ target.Nothing
    from None rooted leads = absurd leads
    from (Some t) rooted leads = tree_there (target_at words) _ t rooted

pub belongs_leads : (es : List (Option Held)) (words : List ℕ) (c key leaf : ℕ) → Belongs words c key (Some leaf) → (k : HasTree es words c) → descend key k.tree ≡ leaf
belongs_leads es words c key leaf h k = from h.tree h.rooted h.leads
  where
    from : (o : Option Tree) → IsRooted (target_at words) (target_at words c) o → LeadsTo key o (Some leaf) → descend key k.tree ≡ leaf
    from None rooted leads = absurd leads
    from (Some t) rooted leads = ap (descend key) (same_tree (target_at words) _ k.tree t k.rooted rooted) ∙ leads

-- the first numbers, and one more
numbers_more : (a n : ℕ) → range_with_len a (suc n) ≡ range_with_len a n ++ (a + n) ∷ []
numbers_more a zero = let p : a ≡ a + 0 = omega arith in ap (λ k. k ∷ []) p
numbers_more a (suc n) =
    let p : (a + 1) + n ≡ a + suc n = omega arith in
    ap (λ xs. a ∷ xs) (numbers_more (a + 1) n ∙ ap (λ k. range_with_len (a + 1) n ++ k ∷ []) p)

pub numbers_push : (n : ℕ) → range_with_len 0 (n + 1) ≡ range_with_len 0 n ++ n ∷ []
numbers_push n =
    let p : n + 1 ≡ suc n = omega arith in
    let q : 0 + n ≡ n = omega arith in
    ap (range_with_len 0) p ∙ numbers_more 0 n ∙ ap (λ k. range_with_len 0 n ++ k ∷ []) q

-- ---- a tree that a change passes by

module _ (es : List (Option Held)) (words words' : List ℕ) (c s : ℕ) (o : Option Held) (lt : s < length es) (was : tree_key c (entry_at es s) ≡ false) (is : tree_key c o ≡ false) where
  parted_beside : (t : Option Tree) → ((i : ℕ) → is_on i (leaves_of t) ≡ tree_key c (entry_at es i)) → AnyParted (keys_of es) t → AnyParted (keys_of (set es s o)) t
  parted_beside None members h = tt
  parted_beside (Some t) members h = parted_frame (keys_of es) (keys_of (set es s o)) t (λ i on. ap key_in (entry_other es s i o (λ q. true_false _ (sym (members i) ∙ on) (ap (λ k. tree_key c (entry_at es k)) q ∙ was)))) h

  pub tree_beside : (k : IsTreeOf es words c) → IsRooted (target_at words') (target_at words' c) k.tree → IsTreeOf (set es s o) words' c
  tree_beside k rooted =
      let none : weight (tree_key c) (entry_at es s) ≡ 0 = ap (λ a. cond a 1 0) was in
      let nor : weight (tree_key c) o ≡ 0 = ap (λ a. cond a 1 0) is in
      record {
        tree = k.tree;
        rooted = rooted;
        parted = parted_beside k.tree k.members k.parted;
        members = λ i. by_bool (nat_eq i s)
            (λ yes. k.members i ∙ ap (λ j. tree_key c (entry_at es j)) (equal i s yes) ∙ was ∙ sym (ap (λ j. tree_key c (entry_at (set es s o) j)) (equal i s yes) ∙ ap (tree_key c) (entry_same es s o lt) ∙ is))
            (λ no. k.members i ∙ sym (ap (tree_key c) (entry_other es s i o (apart i s no))));
        size = omega (arith, k.size, sum_by-set (weight (tree_key c)) es s o None lt, none, nor);
      }

-- ---- the forks that stand somewhere

module _ (es : List (Option Held)) (w : Trees) (h : AreTreesOf es w) (p n b : ℕ) (here : target_at w.words p ≡ target.Fork n b) where
  pub fork_there : n < length w.forks
  fork_there = (subst (StandsAt es w p) here (h.stands p)).1
