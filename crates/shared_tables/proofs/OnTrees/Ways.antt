-- The bits on a way down a tree.
use Rattle.std.proofs.Common.{◌≡◌, ℕ, ◌+◌, ◌^◌, ◌<◌, ◌≤◌, true, false, ◌||◌, List, [], ◌∷◌, length, nat_eq, nat_lt, sym, ap, ◌∙◌, subst, arith}
use Rattle.std.specs.Int.{bit_at}
use Rattle.std.specs.List.{AllByRecursion, IsDistinct, list_any}
use Rattle.std.proofs.lemmas.Bool.Decides.{nat_tests}
use Rattle.std.proofs.lemmas.Map.Steps.{length-le_from_distinct_below}
use Rattle.std.proofs.lemmas.Nat.Bits.{bit_at_above}
use Rattle.shared_tables.specs.Line.{is_on}
use Rattle.shared_tables.specs.Tree.{Tree, Fork, leaves, HaveBit, IsParted, descend}
use Rattle.shared_tables.proofs.OnEntries.Linked.{by_bool, equal}
use Rattle.shared_tables.proofs.OnTrees.TreeLemmas.{left_false, right_false, on_left, on_right, descend_on}

-- a way has come to a tree: it has passed each of some bits once, and the leaves ahead have there what the key has
pub record Way (keys : ℕ → ℕ) (key was now : ℕ) (t : Tree) : Type 0 where
  pub bits : List ℕ
  pub steps : now ≡ was + length bits
  pub apart : IsDistinct nat_eq bits
  pub small : (b : ℕ) → list_any (nat_eq b) bits ≡ true → b < 60
  pub shared : (b : ℕ) → list_any (nat_eq b) bits ≡ true → HaveBit keys b (bit_at key b) t

distinct_none : IsDistinct {K = ℕ} nat_eq []
unfolding IsDistinct
distinct_none = tt

each_other : (b : ℕ) (bits : List ℕ) → list_any (nat_eq b) bits ≡ false → AllByRecursion (λ c. nat_eq b c ≡ false) bits
each_other b [] h = tt
each_other b (c ∷ bits) h = (left_false (nat_eq b c) _ h, each_other b bits (right_false (nat_eq b c) _ h))

distinct_more : (b : ℕ) (bits : List ℕ) → list_any (nat_eq b) bits ≡ false → IsDistinct nat_eq bits → IsDistinct nat_eq (b ∷ bits)
unfolding IsDistinct
distinct_more b bits h d = (each_other b bits h, d)

pub way_starts : (keys : ℕ → ℕ) (key was : ℕ) (t : Tree) → Way keys key was was t
way_starts keys key was t = record {
  bits = [];
  steps = omega arith;
  apart = distinct_none;
  small = λ b on. let bad : false ≡ true = on in cc;
  shared = λ b on. let bad : false ≡ true = on in cc;
}

module _ (keys : ℕ → ℕ) (keyed : (i : ℕ) → keys i < 2 ^ 60) (key was now n b : ℕ) (l r : Tree) (parted : IsParted keys (Fork n b l r)) (w : Way keys key was now (Fork n b l r)) where
  left_bit : bit_at (keys (descend key l)) b ≡ 0
  left_bit = parted.0 (descend key l) (descend_on key l)

  right_bit : bit_at (keys (descend key r)) b ≡ 1
  right_bit = parted.1 (descend key r) (descend_on key r)

  -- the leaves on both sides differ in the fork's bit: so it wasn't passed before
  new_bit : list_any (nat_eq b) w.bits ≡ false
  new_bit = by_bool (list_any (nat_eq b) w.bits)
      (λ on.
      let left = w.shared b on (descend key l) (on_left _ n b l r (descend_on key l)) in
      let right = w.shared b on (descend key r) (on_right _ n b l r (descend_on key r)) in
      absurd (omega (arith, left_bit, right_bit, left, right)))
      (λ no. no)

  -- and it is a bit of a key
  in_key : b < 60
  in_key = by_bool (nat_lt b 60)
      (λ yes. grind (arith, nat_tests, yes))
      (λ no. let above : 60 ≤ b = grind (arith, nat_tests, no) in absurd (omega (arith, right_bit, bit_at_above (keys (descend key r)) 60 b (keyed (descend key r)) above)))

  the_rest : (c : ℕ) → nat_eq c b ≡ false → list_any (nat_eq c) (b ∷ w.bits) ≡ true → list_any (nat_eq c) w.bits ≡ true
  the_rest c other on = sym (ap (λ x. x || list_any (nat_eq c) w.bits) other) ∙ on

  further : (t : Tree) → ((i : ℕ) → is_on i (leaves t) ≡ true → is_on i (leaves (Fork n b l r)) ≡ true) → HaveBit keys b (bit_at key b) t → Way keys key was (now + 1) t
  further t part mine = record {
    bits = b ∷ w.bits;
    steps = omega (arith, w.steps);
    apart = distinct_more b w.bits new_bit w.apart;
    small = λ c on. by_bool (nat_eq c b) (λ yes. subst (λ k. k < 60) (sym (equal c b yes)) in_key) (λ no. w.small c (the_rest c no on));
    shared = λ c on. by_bool (nat_eq c b) (λ yes. subst (λ k. HaveBit keys k (bit_at key k) t) (sym (equal c b yes)) mine) (λ no i at. w.shared c (the_rest c no on) i (part i at));
  }

  pub way_left : bit_at key b ≡ 0 → Way keys key was (now + 1) l
  way_left z = further l (λ i at. on_left i n b l r at) (subst (λ v. HaveBit keys b v l) (sym z) parted.0)

  pub way_right : bit_at key b ≡ 1 → Way keys key was (now + 1) r
  way_right o = further r (λ i at. on_right i n b l r at) (subst (λ v. HaveBit keys b v r) (sym o) parted.1)

-- it has as many steps as a key has bits, at most
pub way_few : (keys : ℕ → ℕ) (key was now : ℕ) (t : Tree) → Way keys key was now t → now ≤ was + 60
way_few keys key was now t w = omega (arith, w.steps, length-le_from_distinct_below w.bits 60 w.apart w.small)
