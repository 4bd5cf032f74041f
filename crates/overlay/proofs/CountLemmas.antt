-- How many entries of a finite map pass a test, and which is the first that does.
use Rattle.std.proofs.Common.{◌≡◌, ℕ, suc, ◌+◌, ◌≤◌, Bool, true, false, cond, not, ◌&&◌, T, List, [], ◌∷◌, length, Option, None, Some, refl, sym, ap, ◌∙◌, subst, arith}
use Rattle.std.specs.List.{find as find_where}
use Rattle.std.specs.Option.{option_map_or}
use Rattle.std.specs.Ordering.{is_lt, is_eq, eq_by_cmp}
use Rattle.std.specs.declared.cmp.Ordering.{Ordering}
use Rattle.std.specs.declared.cmp.Ordering.TheVariants.{Less, Equal, Greater}
use Rattle.std.specs.Cmp.{IsTotalOrder}
use Rattle.std.proofs.lemmas.Cmp.{tied_back, tied_itself}
use Rattle.std.specs.FinMap.{FinMap, find, put, is_sorted, entries, entries_sorted, get, insert, remove, IsAntisymmetric, get-entries, entries-insert}
use Rattle.std.specs.FinMap.Entries.{where_key, below_all, by_order}
use Rattle.std.proofs.lemmas.Option.{none-some, same_Some}
use Rattle.overlay.specs.Index.{how_many}
use Rattle.overlay.proofs.SearchLemmas.{first_part, second_part, is_less, is_equal, kept_above, entries-remove}

-- 1 where it passes
abbrev pub one_if : Bool → ℕ
one_if b = cond b 1 0

abbrev pub one_at : {X : Type 0} → (X → Bool) → Option X → ℕ
one_at p x = option_map_or (λ v. one_if (p v)) x 0

module _ {K X : Type 0} {R : K → K → Ordering} (o : IsTotalOrder R) where
  -- a key below all keys isn't found
  find_below : (k : K) (es : List (K × X)) → T (below_all R k es) → find R k es ≡ None
  find_below k [] below = refl
  find_below k (e ∷ es) below = ap (λ r. cond (is_eq r) (Some e.1) (find R k es)) (is_less _ (first_part _ _ below)) ∙ find_below k es (second_part _ _ below)

  below_more : (x y : K) (es : List (K × X)) → R x y ≡ Less → T (below_all R y es) → T (below_all R x es)
  below_more x y [] less below = tt
  below_more x y (e ∷ es) less below = subst T (sym (ap (λ r. is_lt r && below_all R x es) (o.trans x y e.0 less (is_less _ (first_part _ _ below))))) (below_more x y es less (second_part _ _ below))

  below_tied : (x y : K) (es : List (K × X)) → R x y ≡ Equal → T (below_all R y es) → T (below_all R x es)
  below_tied x y [] tied below = tt
  below_tied x y (e ∷ es) tied below = subst T (sym (ap (λ r. is_lt r && below_all R x es) (o.congr x y e.0 tied ∙ is_less _ (first_part _ _ below)))) (below_tied x y es tied (second_part _ _ below))

  many-put : (p : X → Bool) (k : K) (v : X) (es : List (K × X)) → T (is_sorted R es) → how_many p (put R k v es) + one_at p (find R k es) ≡ how_many p es + one_if (p v)
  many-put p k v [] sorted = omega arith
  many-put p k v (e ∷ es) sorted = by (many-put p k v es (second_part _ _ sorted)) (R k e.0) refl
    where
      by : how_many p (put R k v es) + one_at p (find R k es) ≡ how_many p es + one_if (p v) → (r : Ordering) → R k e.0 ≡ r → how_many p (by_order (R k e.0) ((k, v) ∷ e ∷ es) ((e.0, v) ∷ es) (e ∷ put R k v es)) + one_at p (cond (is_eq (R k e.0)) (Some e.1) (find R k es)) ≡ one_if (p e.1) + how_many p es + one_if (p v)
      by more Less less =
          let none : one_at p (find R k es) ≡ 0 = ap (one_at p) (find_below k es (below_more k e.0 es less (first_part _ _ sorted))) in
          let h : one_if (p v) + (one_if (p e.1) + how_many p es) + one_at p (find R k es) ≡ one_if (p e.1) + how_many p es + one_if (p v) = omega arith in
          rw less h
      by more Equal tied =
          let h : one_if (p v) + how_many p es + one_if (p e.1) ≡ one_if (p e.1) + how_many p es + one_if (p v) = omega arith in
          rw tied h
      by more Greater greater =
          let h : one_if (p e.1) + how_many p (put R k v es) + one_at p (find R k es) ≡ one_if (p e.1) + how_many p es + one_if (p v) = omega arith in
          rw greater h

  many-where_key : (p : X → Bool) (k : K) (es : List (K × X)) → T (is_sorted R es) → how_many p (where_key R (λ y. not (eq_by_cmp R k y)) es) + one_at p (find R k es) ≡ how_many p es
  many-where_key p k [] sorted = refl
  many-where_key p k (e ∷ es) sorted = by (many-where_key p k es (second_part _ _ sorted)) (eq_by_cmp R k e.0) refl
    where
      by : how_many p (where_key R (λ y. not (eq_by_cmp R k y)) es) + one_at p (find R k es) ≡ how_many p es → (b : Bool) → eq_by_cmp R k e.0 ≡ b → how_many p (cond (not (eq_by_cmp R k e.0)) (e ∷ where_key R (λ y. not (eq_by_cmp R k y)) es) (where_key R (λ y. not (eq_by_cmp R k y)) es)) + one_at p (cond (eq_by_cmp R k e.0) (Some e.1) (find R k es)) ≡ one_if (p e.1) + how_many p es
      by more true tied =
          let same : how_many p (where_key R (λ y. not (eq_by_cmp R k y)) es) ≡ how_many p es = ap (how_many p) (kept_above o k e.0 es (tied_back o k e.0 (is_equal _ (subst T (sym tied) tt))) (first_part _ _ sorted)) in
          let h : how_many p (where_key R (λ y. not (eq_by_cmp R k y)) es) + one_if (p e.1) ≡ one_if (p e.1) + how_many p es = omega arith in
          rw tied h
      by more false apart =
          let h : one_if (p e.1) + how_many p (where_key R (λ y. not (eq_by_cmp R k y)) es) + one_at p (find R k es) ≡ one_if (p e.1) + how_many p es = omega arith in
          rw apart h

  pub many_le : (p : X → Bool) (es : List (K × X)) → how_many p es ≤ length es
  many_le p [] = omega arith
  many_le p (e ∷ es) =
      let more = many_le p es in
      elim (p e.1) as (λ b. one_if b + how_many p es ≤ suc (length es)) [ true ↦ omega arith | false ↦ omega arith ]

  -- ---- the first that passes

  pub found_where : (p : X → Bool) (es : List (K × X)) (e : K × X) → T (is_sorted R es) → find_where (λ e. p e.1) es ≡ Some e → (find R e.0 es ≡ Some e.1) × (p e.1 ≡ true)
  found_where p [] e sorted is = absurd (none-some e is)
  found_where p (f ∷ es) e sorted is = by (found_where p es e (second_part _ _ sorted)) (p f.1) refl
    where
      by : (find_where (λ e. p e.1) es ≡ Some e → (find R e.0 es ≡ Some e.1) × (p e.1 ≡ true)) → (b : Bool) → p f.1 ≡ b → (find R e.0 (f ∷ es) ≡ Some e.1) × (p e.1 ≡ true)
      by later true passes =
          let same : f ≡ e = same_Some f e (sym (ap (λ (b : Bool). cond b (Some f) (find_where (λ e. p e.1) es)) passes) ∙ is) in
          let first : find R f.0 (f ∷ es) ≡ Some f.1 = ap (λ r. cond (is_eq r) (Some f.1) (find R f.0 es)) (tied_itself o f.0) in
          (subst (λ (g : K × X). find R g.0 (f ∷ es) ≡ Some g.1) same first, subst (λ (g : K × X). p g.1 ≡ true) same passes)
      by later false fails =
          let behind = later (sym (ap (λ (b : Bool). cond b (Some f) (find_where (λ e. p e.1) es)) fails) ∙ is) in
          (not_first (eq_by_cmp R e.0 f.0) refl behind.0, behind.1)
        where
          not_first : (b : Bool) → eq_by_cmp R e.0 f.0 ≡ b → find R e.0 es ≡ Some e.1 → find R e.0 (f ∷ es) ≡ Some e.1
          not_first true tied found = absurd (none-some e.1 (sym (find_below e.0 es (below_tied e.0 f.0 es (is_equal _ (subst T (sym tied) tt)) (first_part _ _ sorted))) ∙ found))
          not_first false apart found = ap (λ (b : Bool). cond b (Some f.1) (find R e.0 es)) apart ∙ found

  pub none_where : (p : X → Bool) (es : List (K × X)) (k : K) (v : X) → find_where (λ e. p e.1) es ≡ None → find R k es ≡ Some v → p v ≡ false
  none_where p [] k v none is = absurd (none-some v is)
  none_where p (f ∷ es) k v none is = by (none_where p es k v) (p f.1) refl
    where
      by : (find_where (λ e. p e.1) es ≡ None → find R k es ≡ Some v → p v ≡ false) → (b : Bool) → p f.1 ≡ b → p v ≡ false
      by later true passes = absurd (none-some f (sym none ∙ ap (λ (b : Bool). cond b (Some f) (find_where (λ e. p e.1) es)) passes))
      by later false fails = at (eq_by_cmp R k f.0) refl
        where
          at : (b : Bool) → eq_by_cmp R k f.0 ≡ b → p v ≡ false
          at true tied = subst (λ (w : X). p w ≡ false) (same_Some f.1 v (sym (ap (λ (b : Bool). cond b (Some f.1) (find R k es)) tied) ∙ is)) fails
          at false apart = later (sym (ap (λ (b : Bool). cond b (Some f) (find_where (λ e. p e.1) es)) fails) ∙ none) (sym (ap (λ (b : Bool). cond b (Some f.1) (find R k es)) apart) ∙ is)

  -- ---- maps

  pub many-insert : (p : X → Bool) (m : FinMap R X) (k : K) (v : X) → how_many p (entries (insert m k v)) + one_at p (get m k) ≡ how_many p (entries m) + one_if (p v)
  many-insert p m k v =
      ap (λ (l : List (K × X)). how_many p l + one_at p (get m k)) (entries-insert o m k v)
      ∙ ap (λ (x : Option X). how_many p (put R k v (entries m)) + one_at p x) (get-entries m k)
      ∙ many-put p k v (entries m) (entries_sorted m)

  pub many-remove : IsAntisymmetric R → (p : X → Bool) (m : FinMap R X) (k : K) → how_many p (entries (remove m k)) + one_at p (get m k) ≡ how_many p (entries m)
  many-remove same p m k =
      ap (λ (l : List (K × X)). how_many p l + one_at p (get m k)) (entries-remove o same m k)
      ∙ ap (λ (x : Option X). how_many p (where_key R (λ y. not (eq_by_cmp R k y)) (entries m)) + one_at p x) (get-entries m k)
      ∙ many-where_key p k (entries m) (entries_sorted m)
