-- What holds of each item of a list behind those before it, of the list.
use Rattle.std.proofs.Common.{◌≡◌, ℕ, zero, suc, ◌<◌, ◌++◌, ◌∷◌, [], Bool, true, false, List, length, map, get_or, refl, sym, subst, append_assoc, arith}
use Rattle.std.specs.Prelude.{All, AllPairs}
use Rattle.std.specs.List.{list_any, list_all}
use Rattle.std.proofs.lemmas.Bool.{and_from, or_parts}
use Rattle.std.proofs.lemmas.List.{append-nil, map_push}
use Rattle.std.proofs.lemmas.List.Elements.{All-cons}
use Rattle.std.proofs.lemmas.List.Quantifiers.{all_pairs_push}
use Rattle.overlay.specs.Rules.{EachBehind}

-- of all that are made from them
module _ {A B : Type 0} (f : A → B) (P : List A → A → Type 0) where
  module _ (Q : List B → B → Type 0) (each : (earlier : List A) (x : A) → P earlier x → Q (map f earlier) (f x)) where
    pub each_mapped : (earlier xs : List A) → EachBehind P earlier xs → EachBehind Q (map f earlier) (map f xs)
    each_mapped earlier [] h = tt
    each_mapped earlier (x ∷ xs) h = (each earlier x h.0, subst (λ l. EachBehind Q l (map f xs)) (map_push f earlier x) (each_mapped (earlier ++ x ∷ []) xs h.1))

  module _ (Q : B → Type 0) (each : (earlier : List A) (x : A) → P earlier x → Q (f x)) where
    pub all_mapped : (earlier xs : List A) → EachBehind P earlier xs → All Q (map f xs)
    all_mapped earlier [] h = λ k d lt. absurd (omega (arith, lt))
    all_mapped earlier (x ∷ xs) h = All-cons Q (f x) (map f xs) (each earlier x h.0) (all_mapped (earlier ++ x ∷ []) xs h.1)

  module _ (test : B → Bool) (each : (earlier : List A) (x : A) → P earlier x → test (f x) ≡ true) where
    pub test_mapped : (earlier xs : List A) → EachBehind P earlier xs → list_all test (map f xs) ≡ true
    test_mapped earlier [] h = refl
    test_mapped earlier (x ∷ xs) h = and_from (test (f x)) (list_all test (map f xs)) (each earlier x h.0) (test_mapped (earlier ++ x ∷ []) xs h.1)

-- a test
module _ {A : Type 0} (P : List A → A → Type 0) (test : A → Bool) (each : (earlier : List A) (x : A) → P earlier x → test x ≡ true) where
  pub all_pass : (earlier xs : List A) → EachBehind P earlier xs → list_all test xs ≡ true
  all_pass earlier [] h = refl
  all_pass earlier (x ∷ xs) h = and_from (test x) (list_all test xs) (each earlier x h.0) (all_pass (earlier ++ x ∷ []) xs h.1)

none_is : {A : Type 0} (p : A → Bool) (xs : List A) → list_any p xs ≡ false → (k : ℕ) (d : A) → k < length xs → p (get_or xs k d) ≡ false
none_is p [] h k d lt = absurd (omega (arith, lt))
none_is p (x ∷ xs) h zero d lt = (or_parts (p x) (list_any p xs) h).0
none_is p (x ∷ xs) h (suc k) d lt = none_is p xs (or_parts (p x) (list_any p xs) h).1 k d (omega (arith, lt))

-- a test that fails of each and those before it
module _ {A : Type 0} (test : A → A → Bool) (P : List A → A → Type 0) (apart : (earlier : List A) (x : A) → P earlier x → list_any (λ e. test e x) earlier ≡ false) where
  pairs_behind : (earlier xs : List A) → AllPairs (λ a b. test a b ≡ false) earlier → EachBehind P earlier xs → AllPairs (λ a b. test a b ≡ false) (earlier ++ xs)
  pairs_behind earlier [] pairs h = subst (AllPairs (λ a b. test a b ≡ false)) (sym (append-nil earlier)) pairs
  pairs_behind earlier (x ∷ xs) pairs h =
      let more : AllPairs (λ a b. test a b ≡ false) (earlier ++ x ∷ []) = all_pairs_push (λ a b. test a b ≡ false) earlier x pairs (none_is (λ e. test e x) earlier (apart earlier x h.0)) in
      subst (AllPairs (λ a b. test a b ≡ false)) (append_assoc earlier (x ∷ []) xs) (pairs_behind (earlier ++ x ∷ []) xs more h.1)

  pub pairs_from : (xs : List A) → EachBehind P [] xs → AllPairs (λ a b. test a b ≡ false) xs
  pairs_from xs h = pairs_behind [] xs (λ i j d lt within. absurd (omega (arith, within))) h
