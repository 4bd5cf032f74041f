-- The trees of buckets.
use Rattle.std.proofs.Common.{◌≡◌, ℕ, ◌+◌, ◌*◌, ◌/◌, ◌<◌, ◌≤◌, Bool, true, false, cond, List, [], ◌∷◌, Option, Some, None, nat_eq, refl, sym, ap, ◌∙◌, subst, arith}
use Rattle.std.proofs.lemmas.List.Sums.{sum_by-cons}
use Rattle.std.specs.List.{sum_by}
use Rattle.shared_tables.specs.Pool.{Held, IfHeld, tree_in}
use Rattle.shared_tables.specs.Bucket.{bucket_of, key_of, spread, tree_of}
use Rattle.shared_tables.specs.Line.{weight}
use Rattle.shared_tables.specs.Shared.{bucket_key, tree_key, bucket_count}
use Rattle.shared_tables.proofs.OnEntries.Linked.{by_bool, equal, nat_eq_refl}

pub spread_small : (key : ℕ) → spread key < 64
unfolding spread
spread_small key = omega arith

pub tree_there : (vid : ℕ) (mac : List ℕ) → tree_of vid mac < 262144
unfolding tree_of
tree_there vid mac = omega (arith, spread_small (key_of vid mac))

pub tree_small : (vid : ℕ) (mac : List ℕ) → tree_of vid mac < 1048576
tree_small vid mac = omega (arith, tree_there vid mac)

-- the tree of what a key stands for
pub number_is : (key vid : ℕ) (mac : List ℕ) → key_of vid mac ≡ key → bucket_of vid mac * 64 + spread key ≡ tree_of vid mac
unfolding tree_of
number_is key vid mac is = ap (λ k. bucket_of vid mac * 64 + spread k) (sym is)

-- a tree is its bucket's
pub bucket_of_tree : (vid : ℕ) (mac : List ℕ) → tree_of vid mac / 64 ≡ bucket_of vid mac
unfolding tree_of
bucket_of_tree vid mac = omega (arith, spread_small (key_of vid mac))

-- entries of a tree are entries of its bucket
pub few_in_tree : (vid : ℕ) (mac : List ℕ) (es : List (Option Held)) → sum_by (weight (tree_key (tree_of vid mac))) es ≤ bucket_count (bucket_of vid mac) es
few_in_tree vid mac [] = omega arith
few_in_tree vid mac (o ∷ es) =
    omega (arith, few_in_tree vid mac es, one o, sum_by-cons (weight (tree_key (tree_of vid mac))) o es, sum_by-cons (weight (bucket_key (bucket_of vid mac))) o es)
  where
    at_most : (b : Bool) → cond b 1 0 ≤ 1
    at_most true = omega arith
    at_most false = omega arith

    one : (o : Option Held) → weight (tree_key (tree_of vid mac)) o ≤ weight (bucket_key (bucket_of vid mac)) o
    one None = omega arith
    one (Some e) = by_bool (nat_eq (tree_of e.vid e.mac) (tree_of vid mac))
        (λ yes.
        let same : bucket_of e.vid e.mac ≡ bucket_of vid mac = sym (bucket_of_tree e.vid e.mac) ∙ ap (λ c. c / 64) (equal _ _ yes) ∙ bucket_of_tree vid mac in
        let counts : weight (bucket_key (bucket_of vid mac)) (Some e) ≡ 1 = ap (λ b. cond (nat_eq b (bucket_of vid mac)) 1 0) same ∙ ap (λ c. cond c 1 0) (nat_eq_refl (bucket_of vid mac)) in
        omega (arith, counts, at_most (nat_eq (tree_of e.vid e.mac) (tree_of vid mac))))
        (λ no. let none : weight (tree_key (tree_of vid mac)) (Some e) ≡ 0 = ap (λ c. cond c 1 0) no in omega (arith, none))

-- the tree of an address is that of the slot that holds it
pub held_tree : (o : Option Held) (vid : ℕ) (mac : List ℕ) → IfHeld o vid mac → tree_of vid mac ≡ tree_in o
held_tree None vid mac h = absurd h
held_tree (Some e) vid mac h = sym (ap (λ v. tree_of v e.mac) h.0 ∙ ap (tree_of vid) h.1)

-- no entry is in two trees
pub tree_excl : (b c : ℕ) → nat_eq c b ≡ false → (o : Option Held) → tree_key b o ≡ true → tree_key c o ≡ false
tree_excl b c ne None h = refl
tree_excl b c ne (Some e) h =
    by_bool (nat_eq (tree_of e.vid e.mac) c)
    (λ yes. let p : tree_of e.vid e.mac ≡ c = equal _ _ yes in let q : tree_of e.vid e.mac ≡ b = equal _ _ h in let no : nat_eq c b ≡ true = subst (λ k. nat_eq k b ≡ true) p h in let bad : true ≡ false = sym no ∙ ne in cc)
    (λ no. no)

-- so the trees on which one is are the same
pub tree_same : (b c : ℕ) (o : Option Held) → tree_key b o ≡ true → tree_key c o ≡ true → b ≡ c
tree_same b c None h k = let bad : true ≡ false = sym h in cc
tree_same b c (Some e) h k = sym (equal _ _ h) ∙ equal _ _ k
