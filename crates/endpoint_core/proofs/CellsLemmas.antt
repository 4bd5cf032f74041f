-- What one more leaves of the counts.
use Rattle.std.proofs.Common.{◌≡◌, ◌≢◌, ℕ, zero, suc, ◌+◌, ◌<◌, Bool, true, false, cond, ◌&&◌, refl, sym, ap, subst, ◌∙◌, List, [], ◌∷◌, ◌++◌, length, get_or, set, replicate, Option, Some, None, min, arith, eqb}
use Rattle.std.proofs.Math.Path.{fun_ext}
use Rattle.std.proofs.lemmas.List.{get_or-set_same, get_or-set_other, get_or_default}
use Rattle.std.proofs.lemmas.Bool.Decides.{nat_tests}
use Rattle.endpoint_core.specs.Cells.{Cells, count_in, bumped}
use Rattle.endpoint_core.specs.Counts.{most, one_more, no_counts}

-- ---- no counts

pub index-zeros : (n k : ℕ) → get_or (replicate {A = ℕ} n 0) k 0 ≡ 0
index-zeros zero k = refl
index-zeros (suc n) zero = refl
index-zeros (suc n) (suc k) = index-zeros n k

-- a row of zeros behind the others counts as none
pub zeros-behind : (rows : List (List ℕ)) (row : List ℕ) → ((k : ℕ) → get_or row k 0 ≡ 0) → (v k : ℕ) → get_or (get_or (rows ++ row ∷ []) v []) k 0 ≡ get_or (get_or rows v []) k 0
zeros-behind [] row zeros zero k = zeros k
zeros-behind [] row zeros (suc v) k = refl
zeros-behind (r ∷ rows) row zeros zero k = refl
zeros-behind (r ∷ rows) row zeros (suc v) k = zeros-behind rows row zeros v k

pub none-yet : (c : Cells) → ((k : ℕ) → get_or c.nowhere k 0 ≡ 0) → c.segments ≡ [] → count_in c ≡ no_counts
none-yet c first rest = fun_ext (λ segment. fun_ext (λ k. by segment k))
  where
    by : (segment : Option ℕ) (k : ℕ) → count_in c segment k ≡ 0
    by None k = first k
    by (Some v) k = ap (λ (rows : List (List ℕ)). get_or (get_or rows v []) k 0) rest

-- ---- rows that count the same

pub same-rows : (nowhere : List ℕ) (rows others : List (List ℕ)) → ((v k : ℕ) → get_or (get_or rows v []) k 0 ≡ get_or (get_or others v []) k 0) →
    count_in (record { nowhere = nowhere; segments = rows }) ≡ count_in (record { nowhere = nowhere; segments = others })
same-rows nowhere rows others same = fun_ext (λ segment. fun_ext (λ k. by segment k))
  where
    by : (segment : Option ℕ) (k : ℕ) → count_in (record { nowhere = nowhere; segments = rows }) segment k ≡ count_in (record { nowhere = nowhere; segments = others }) segment k
    by None k = refl
    by (Some v) k = same v k

-- ---- one more

eqb_is : (a b : ℕ) → eqb a b ≡ true → a ≡ b
eqb_is a b e = grind (arith, nat_tests)

eqb_apart : (a b : ℕ) → eqb a b ≡ false → a ≢ b
eqb_apart a b e = grind (arith, nat_tests)

index-bumped : (row : List ℕ) (n k : ℕ) → n < length row → get_or (bumped row n) k 0 ≡ cond (eqb k n) (min most (get_or row k 0 + 1)) (get_or row k 0)
index-bumped row n k h = by (eqb k n) refl
  where
    by : (b : Bool) → eqb k n ≡ b → get_or (bumped row n) k 0 ≡ cond b (min most (get_or row k 0 + 1)) (get_or row k 0)
    by true e =
        ap (λ (i : ℕ). get_or (bumped row n) i 0) (eqb_is k n e) ∙ get_or-set_same row n _ 0 h
        ∙ ap (λ (i : ℕ). min most (get_or row i 0 + 1)) (sym (eqb_is k n e))
    by false e = get_or-set_other row n k _ 0 (eqb_apart k n e)

pub one_more-nowhere : (c d : Cells) (n : ℕ) → n < length c.nowhere → d.nowhere ≡ bumped c.nowhere n → d.segments ≡ c.segments → count_in d ≡ one_more (count_in c) (record { segment = None; number = n })
one_more-nowhere c d n h first rest = fun_ext (λ segment. fun_ext (λ k. by segment k))
  where
    by : (segment : Option ℕ) (k : ℕ) → count_in d segment k ≡ one_more (count_in c) (record { segment = None; number = n }) segment k
    by None k = ap (λ (r : List ℕ). get_or r k 0) first ∙ index-bumped c.nowhere n k h
    by (Some v) k = ap (λ (rows : List (List ℕ)). get_or (get_or rows v []) k 0) rest

pub one_more-segment : (c d : Cells) (vid n : ℕ) → vid < length c.segments → n < length (get_or c.segments vid []) → d.nowhere ≡ c.nowhere → d.segments ≡ set c.segments vid (bumped (get_or c.segments vid []) n) → count_in d ≡ one_more (count_in c) (record { segment = Some vid; number = n })
one_more-segment c d vid n there h first rest = fun_ext (λ segment. fun_ext (λ k. by segment k))
  where
    at : (u k : ℕ) (b : Bool) → eqb u vid ≡ b → get_or (get_or (set c.segments vid (bumped (get_or c.segments vid []) n)) u []) k 0 ≡ cond (b && eqb k n) (min most (get_or (get_or c.segments u []) k 0 + 1)) (get_or (get_or c.segments u []) k 0)
    at u k true e =
        ap (λ (i : ℕ). get_or (get_or (set c.segments vid (bumped (get_or c.segments vid []) n)) i []) k 0) (eqb_is u vid e)
        ∙ ap (λ (r : List ℕ). get_or r k 0) (get_or-set_same c.segments vid _ [] there)
        ∙ index-bumped (get_or c.segments vid []) n k h
        ∙ ap (λ (i : ℕ). cond (eqb k n) (min most (get_or (get_or c.segments i []) k 0 + 1)) (get_or (get_or c.segments i []) k 0)) (sym (eqb_is u vid e))
    at u k false e = ap (λ (r : List ℕ). get_or r k 0) (get_or-set_other c.segments vid u _ [] (eqb_apart u vid e))

    by : (segment : Option ℕ) (k : ℕ) → count_in d segment k ≡ one_more (count_in c) (record { segment = Some vid; number = n }) segment k
    by None k = ap (λ (r : List ℕ). get_or r k 0) first
    by (Some u) k = ap (λ (rows : List (List ℕ)). get_or (get_or rows u []) k 0) rest ∙ at u k (eqb u vid) refl

-- the same with the row as it was read and written
pub one_more-at : (c : Cells) (vid i n : ℕ) (old new other : List ℕ) → i ≡ vid → vid < length c.segments → n < length old → old ≡ get_or c.segments i other → new ≡ bumped old n →
    count_in (record { nowhere = c.nowhere; segments = set c.segments i new }) ≡ one_more (count_in c) (record { segment = Some vid; number = n })
one_more-at c vid i n old new other same there h was is =
    let at : old ≡ get_or c.segments vid [] = was ∙ ap (λ (j : ℕ). get_or c.segments j other) same ∙ get_or_default c.segments vid other [] there in
    one_more-segment c _ vid n there (subst (λ (r : List ℕ). n < length r) at h) refl
    (ap (λ (j : ℕ). set c.segments j new) same ∙ ap (set c.segments vid) (is ∙ ap (λ (r : List ℕ). bumped r n) at))
