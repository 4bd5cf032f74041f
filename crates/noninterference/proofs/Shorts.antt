-- Finite maps of whose values a part is known.
use Rattle.std.proofs.Common.{◌≡◌, Bool, true, false, cond, ◌&&◌, T, List, [], ◌∷◌, map, Some, refl, sym, ap, ◌∙◌, subst}
use Rattle.std.specs.List.{find as find_where}
use Rattle.std.specs.Option.{option_map}
use Rattle.std.specs.Ordering.{is_lt, eq_by_cmp}
use Rattle.std.specs.declared.cmp.Ordering.{Ordering}
use Rattle.std.specs.Cmp.{IsTotalOrder}
use Rattle.std.specs.FinMap.{FinMap, find, is_sorted, entries, entries_sorted, get, get-entries, from_sorted, entries-from_sorted, get-from_sorted, same_map, IsAntisymmetric}
use Rattle.std.specs.FinMap.Entries.{below_all}

module _ {K X Y : Type 0} (f : X → Y) where
  -- the key and that part
  abbrev pub short : K × X → K × Y
  short e = (e.0, f e.1)

  -- the first whose part passes a test
  pub find_short : (p : Y → Bool) (es : List (K × X)) → option_map short (find_where (λ e. p (f e.1)) es) ≡ find_where (λ e. p e.1) (map short es)
  find_short p [] = refl
  find_short p (e ∷ es) = by (p (f e.1)) (find_short p es)
    where
      by : (b : Bool) → option_map short (find_where (λ e. p (f e.1)) es) ≡ find_where (λ e. p e.1) (map short es) → option_map short (cond b (Some e) (find_where (λ e. p (f e.1)) es)) ≡ cond b (Some (short e)) (find_where (λ e. p e.1) (map short es))
      by true rest = refl
      by false rest = rest

  module _ (R : K → K → Ordering) where
    below-short : (k : K) (es : List (K × X)) → below_all R k (map short es) ≡ below_all R k es
    below-short k [] = refl
    below-short k (e ∷ es) = ap (λ b. is_lt (R k e.0) && b) (below-short k es)

    sorted-short : (es : List (K × X)) → is_sorted R (map short es) ≡ is_sorted R es
    sorted-short [] = refl
    sorted-short (e ∷ es) = λ i. below-short e.0 es i && sorted-short es i

    value-short : (k : K) (es : List (K × X)) → find R k (map short es) ≡ option_map f (find R k es)
    value-short k [] = refl
    value-short k (e ∷ es) = by (eq_by_cmp R k e.0) (value-short k es)
      where
        by : (b : Bool) → find R k (map short es) ≡ option_map f (find R k es) → cond b (Some (f e.1)) (find R k (map short es)) ≡ option_map f (cond b (Some e.1) (find R k es))
        by true rest = refl
        by false rest = rest

    short_is_sorted : (m : FinMap R X) → T (is_sorted R (map short (entries m)))
    short_is_sorted m = subst T (sym (sorted-short (entries m))) (entries_sorted m)

    get-short : (m : FinMap R X) (k : K) → get (from_sorted {R = R} (map short (entries m))) k ≡ option_map f (get m k)
    get-short m k = get-from_sorted R (map short (entries m)) k (short_is_sorted m) ∙ value-short k (entries m) ∙ ap (option_map f) (sym (get-entries m k))

    -- maps whose values agree in that part have the same keys and parts, in the same order
    pub same_shorts : IsTotalOrder R → IsAntisymmetric R → (m n : FinMap R X) → ((k : K) → option_map f (get m k) ≡ option_map f (get n k)) → map short (entries m) ≡ map short (entries n)
    same_shorts o same m n alike =
        sym (entries-from_sorted R (map short (entries m)) (short_is_sorted m))
        ∙ ap entries (same_map o same (from_sorted (map short (entries m))) (from_sorted (map short (entries n))) (λ k. get-short m k ∙ alike k ∙ sym (get-short n k)))
        ∙ entries-from_sorted R (map short (entries n)) (short_is_sorted n)
