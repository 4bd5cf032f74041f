-- What holds of the trees and the entries holds when a slot holds another entry of its tree.
use Rattle.std.proofs.Common.{◌≡◌, ◌≢◌, ℕ, ◌<◌, true, false, List, set, Option, Some, None, nat_eq, sym, ap, ◌∙◌, subst, arith}
use Rattle.std.proofs.lemmas.List.{length-set}
use Rattle.shared_tables.specs.declared.trees.Target.{Target}
use Rattle.shared_tables.specs.declared.trees.Target.TheVariants as target
use Rattle.shared_tables.specs.Bucket.{key_of, IsKey, tree_of}
use Rattle.shared_tables.specs.Pool.{Held, entry_at}
use Rattle.shared_tables.specs.Shared.{tree_key}
use Rattle.shared_tables.specs.LinkSteps.{IsHeld}
use Rattle.shared_tables.specs.Tree.{descend}
use Rattle.shared_tables.specs.TreeColumns.{Trees, target_at}
use Rattle.shared_tables.specs.TreesOfSlots.{keys_of, key_in, IsTreeOf, Belongs, StandsAt, AreTreesOf}
use Rattle.shared_tables.proofs.OnEntries.Linked.{by_bool, equal, nat_eq_refl}
use Rattle.shared_tables.proofs.OnTrees.Buckets.{tree_excl}
use Rattle.shared_tables.proofs.OnTrees.Places.{OwnTree, own_tree}
use Rattle.shared_tables.proofs.OnTrees.TreeLemmas.{descend_own, parted_again}
use Rattle.shared_tables.proofs.OnTrees.Grafting.{one_more, weight_is}
use Rattle.shared_tables.proofs.OnTrees.TreesOfLemmas.{apart, entry_same, entry_other, keys_set, held_beside, held_here, tree_beside, of_some_tree, belongs_leads}

module _ (es : List (Option Held)) (w : Trees) (h : AreTreesOf es w) (e f : Held) (s : ℕ) (here : entry_at es s ≡ Some e) (same : tree_of f.vid f.mac ≡ tree_of e.vid e.mac) where
  abbrev c : ℕ
  c = tree_of e.vid e.mac

  abbrev at : ℕ → Target
  at = target_at w.words

  abbrev es' : List (Option Held)
  es' = set es s (Some f)

  own : OwnTree es w c s
  own = own_tree es w h e s here

  keyed_new : tree_key c (Some f) ≡ true
  keyed_new = subst (λ k. nat_eq k c ≡ true) (sym same) (nat_eq_refl c)

  relabels : IsKey (key_of f.vid f.mac) → descend (key_of f.vid f.mac) own.whole.tree ≡ s → AreTreesOf es' w
  relabels key way = record {
    sizes = h.sizes;
    slots = omega (arith, h.slots, length-set es s (Some f));
    keys = keys_set es s (Some f) own.in_pool key h.keys;
    numbered = λ c' clt. by_bool (nat_eq c' c) (λ yes. subst (IsTreeOf es' w.words) (sym (equal c' c yes)) tree_mine) (λ no. tree_other c' clt no);
    stands = λ p. stays p (at p) (h.stands p);
    keeper = h.keeper;
    frees = λ i ilt is.
        let away : i ≢ s = λ q. let bad : Some f ≡ None = sym (entry_same es s (Some f) own.in_pool) ∙ ap (entry_at es') (sym q) ∙ is in cc in
        h.frees i (subst (λ z. i < z) (length-set es s (Some f)) ilt) (sym (entry_other es s i (Some f) away) ∙ is);
    spares = h.spares;
  }
    where
      keys_same : (i : ℕ) → nat_eq i s ≡ false → keys_of es' i ≡ keys_of es i
      keys_same i ne = ap key_in (entry_other es s i (Some f) (apart i s ne))

      key_new : keys_of es' s ≡ key_of f.vid f.mac
      key_new = ap key_in (entry_same es s (Some f) own.in_pool)

      tree_mine : IsTreeOf es' w.words c
      tree_mine = of_some_tree es' w.words c (record {
        tree = own.whole.tree;
        rooted = own.whole.rooted;
        parted = parted_again (keys_of es) (keys_of es') s keys_same own.whole.tree (ap (λ k. descend k own.whole.tree) key_new ∙ way) own.whole.parted;
        members = λ i. own.whole.members i ∙ by_bool (nat_eq i s)
            (λ yes. ap (λ j. tree_key c (entry_at es j)) (equal i s yes) ∙ own.keyed ∙ sym (ap (λ j. tree_key c (entry_at es' j)) (equal i s yes) ∙ ap (tree_key c) (entry_same es s (Some f) own.in_pool) ∙ keyed_new))
            (λ no. sym (ap (tree_key c) (entry_other es s i (Some f) (apart i s no))));
        size = omega (arith, own.whole.size, one_more es c s (Some f) own.in_pool, weight_is c (entry_at es s) true own.keyed, weight_is c (Some f) true keyed_new);
      })

      tree_other : (c' : ℕ) → c' < 1048576 → nat_eq c' c ≡ false → IsTreeOf es' w.words c'
      tree_other c' clt ne = let k = h.numbered c' clt in tree_beside es w.words w.words c' s (Some f) own.in_pool (tree_excl c c' ne (entry_at es s) own.keyed) (tree_excl c c' ne (Some f) keyed_new) k k.rooted

      stays : (p : ℕ) (t : Target) → StandsAt es w p t → StandsAt es' w p t
      stays p target.Nothing k = tt
      stays p (target.Leaf i) k = by_bool (nat_eq i s)
          (λ yes. (k.0, subst (IsHeld es') (sym (equal i s yes)) (held_here es s f own.in_pool)))
          (λ no. (k.0, held_beside es s i (Some f) (apart i s no) k.1))
      stays p (target.Fork m x) k = k

  -- the slot is where the new key belongs
  pub relabel_trees : IsKey (key_of f.vid f.mac) → Belongs w.words c (key_of f.vid f.mac) (Some s) → AreTreesOf es' w
  relabel_trees key b = relabels key (belongs_leads es w.words c (key_of f.vid f.mac) s b own.whole)

  -- the key stays
  pub renew_trees : key_of f.vid f.mac ≡ key_of e.vid e.mac → AreTreesOf es' w
  renew_trees q = relabels (subst IsKey (sym (q ∙ sym (ap key_in here))) (h.keys s)) (ap (λ k. descend k own.whole.tree) (q ∙ sym (ap key_in here)) ∙ descend_own (keys_of es) s own.whole.tree own.whole.parted (own.whole.members s ∙ own.keyed))
