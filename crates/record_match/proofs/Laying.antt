-- Records whose octets stand in one row.
use Rattle.std.proofs.Common.{◌≡◌, ℕ, ◌+◌, ◌-◌, ◌<◌, ◌≤◌, List, [], ◌∷◌, ◌++◌, length, get_or, set, take, drop, refl, sym, ap, ◌∙◌, zero, suc, subst, arith, length-append, length-drop, length-take}
use Rattle.std.proofs.lemmas.List.{take-append-le, drop-append-le, take_all}
use Rattle.std.proofs.Math.Seq.{drop-nil}
use Rattle.std.proofs.lemmas.Grind.{common_steps}
use Rattle.record_match.specs.Bucket.{bucket_of}
use Rattle.record_match.specs.Match.{Sent}
use Rattle.record_match.specs.Window.{octets_of}
use Rattle.record_match.specs.Kept.{IsLaid, laid, sent_of}
use Rattle.record_match.specs.declared.kept.Kept.{Kept}

pub laid-length : (ks : List Kept) (row : List ℕ) → length (laid ks row) ≡ length ks
laid-length [] row = refl
laid-length (k ∷ ks) row = ap suc (laid-length ks (drop k.length row))

-- they have the octets of the row
pub laid-octets : (at : ℕ) (ks : List Kept) (row : List ℕ) → IsLaid at ks row → octets_of (laid ks row) ≡ length row
laid-octets at [] row h = rw h refl
laid-octets at (k ∷ ks) row h =
    let rest = laid-octets (at + k.length) ks (drop k.length row) h.1 in
    let within = h.0.within in
    omega (arith, length-append {A = ℕ}, length-take k.length row, length-drop k.length row, rest, within)

-- one more behind them
pub laid-put : (at : ℕ) (ks : List Kept) (row : List ℕ) (k : Kept) (text : List ℕ) → IsLaid at ks row → k.length ≡ length text → laid (ks ++ k ∷ []) (row ++ text) ≡ laid ks row ++ sent_of k text ∷ []
laid-put at [] [] k text h l = grind (arith, common_steps)
laid-put at [] (x ∷ row) k text h l = absurd cc
laid-put at (j ∷ ks) row k text h l =
    let within = h.0.within in
    let rest = laid-put (at + j.length) ks (drop j.length row) k text h.1 l in
    rw (take-append-le j.length row text within, drop-append-le j.length row text within) (ap (λ cs. sent_of j (take j.length row) ∷ cs) rest)

pub is_laid-put : (at : ℕ) (ks : List Kept) (row : List ℕ) (k : Kept) (text : List ℕ) → IsLaid at ks row → k.at ≡ at + length row → k.bucket ≡ bucket_of k.missing text → k.bucket < 262144 → k.length ≡ length text → IsLaid at (ks ++ k ∷ []) (row ++ text)
is_laid-put at [] [] k text h a b f l =
    let all : take k.length text ≡ text = take_all k.length text (omega (arith, l)) in
    (record { at_is = omega (arith, a); bucket_is = b ∙ ap (bucket_of k.missing) (sym all); few = f; within = omega (arith, l) }, grind (arith, common_steps))
is_laid-put at [] (x ∷ row) k text h a b f l = absurd cc
is_laid-put at (j ∷ ks) row k text h a b f l =
    let within = h.0.within in
    let own = h.0.bucket_is in
    let rest = is_laid-put (at + j.length) ks (drop j.length row) k text h.1 (omega (arith, a, within, length-drop j.length row)) b f l in (
      record { at_is = h.0.at_is; bucket_is = own ∙ ap (bucket_of j.missing) (sym (take-append-le j.length row text within)); few = h.0.few; within = omega (arith, within, length-append row text) },
      subst (λ r. IsLaid (at + j.length) (ks ++ k ∷ []) r) (sym (drop-append-le j.length row text within)) rest,
    )

-- one of them, in place of another of as many octets
pub laid-set : (ks : List Kept) (row : List ℕ) (i : ℕ) (k d : Kept) (e : Sent) → i < length ks → k.length ≡ (get_or ks i d).length → laid (set ks i k) row ≡ set (laid ks row) i (sent_of k (get_or (laid ks row) i e).octets)
laid-set [] row i k d e h l = absurd (omega (arith, h))
laid-set (j ∷ ks) row zero k d e h l = grind arith
laid-set (j ∷ ks) row (suc i) k d e h l = ap (λ cs. sent_of j (take j.length row) ∷ cs) (laid-set ks (drop j.length row) i k d e (omega (arith, h)) l)

pub is_laid-set : (at : ℕ) (ks : List Kept) (row : List ℕ) (i : ℕ) (k d : Kept) → IsLaid at ks row → i < length ks → k.at ≡ (get_or ks i d).at → k.bucket ≡ (get_or ks i d).bucket → k.missing ≡ (get_or ks i d).missing → k.length ≡ (get_or ks i d).length → IsLaid at (set ks i k) row
is_laid-set at [] row i k d h lt a b m l = absurd (omega (arith, lt))
is_laid-set at (j ∷ ks) row zero k d h lt a b m l =
    let within = h.0.within in
    let rest = h.1 in (
      record { at_is = a ∙ h.0.at_is; bucket_is = b ∙ h.0.bucket_is ∙ ap (λ n. bucket_of n (take j.length row)) (sym m) ∙ ap (λ n. bucket_of k.missing (take n row)) (sym l); few = subst (λ n. n < 262144) (sym b) h.0.few; within = omega (arith, within, l) },
      subst (λ n. IsLaid (at + n) ks (drop n row)) (sym l) rest,
    )
is_laid-set at (j ∷ ks) row (suc i) k d h lt a b m l = (h.0, is_laid-set (at + j.length) ks (drop j.length row) i k d h.1 (omega (arith, lt)) a b m l)

-- where the octets of one stand
pub begins : (at : ℕ) (ks : List Kept) (row : List ℕ) (i : ℕ) (d : Kept) → IsLaid at ks row → i < length ks → (at ≤ (get_or ks i d).at) × ((get_or ks i d).at + (get_or ks i d).length ≤ at + length row)
begins at [] row i d h lt = absurd (omega (arith, lt))
begins at (j ∷ ks) row zero d h lt = let a = h.0.at_is in let w = h.0.within in (omega (arith, a), omega (arith, a, w))
begins at (j ∷ ks) row (suc i) d h lt =
    let w = h.0.within in
    let rest = begins (at + j.length) ks (drop j.length row) i d h.1 (omega (arith, lt)) in
    (omega (arith, rest.0), omega (arith, rest.1, w, length-drop j.length row))

-- the octets of one
pub laid-at : (at : ℕ) (ks : List Kept) (row : List ℕ) (i : ℕ) (d : Kept) (e : Sent) → IsLaid at ks row → i < length ks → get_or (laid ks row) i e ≡ sent_of (get_or ks i d) (take (get_or ks i d).length (drop ((get_or ks i d).at - at) row))
laid-at at [] row i d e h lt = absurd (omega (arith, lt))
laid-at at (j ∷ ks) row zero d e h lt =
    let a : j.at - at ≡ 0 = let own = h.0.at_is in omega (arith, own) in
    ap (λ n. sent_of j (take j.length (drop n row))) (sym a)
laid-at at (j ∷ ks) row (suc i) d e h lt =
    let rest = begins (at + j.length) ks (drop j.length row) i d h.1 (omega (arith, lt)) in
    let n : j.length + ((get_or ks i d).at - (at + j.length)) ≡ (get_or ks i d).at - at = omega (arith, rest.0) in
    laid-at (at + j.length) ks (drop j.length row) i d e h.1 (omega (arith, lt))
    ∙ ap (λ r. sent_of (get_or ks i d) (take (get_or ks i d).length r)) (twice j.length ((get_or ks i d).at - (at + j.length)) row)
    ∙ ap (λ m. sent_of (get_or ks i d) (take (get_or ks i d).length (drop m row))) n
  where
    twice : (m n : ℕ) (xs : List ℕ) → drop n (drop m xs) ≡ drop (m + n) xs
    twice zero n xs = let e : n ≡ 0 + n = omega arith in ap (λ (m : ℕ). drop m xs) e
    twice (suc m) n [] = drop-nil n ∙ sym (drop-nil (suc m + n))
    twice (suc m) n (x ∷ xs) = let e : suc (m + n) ≡ suc m + n = omega arith in twice m n xs ∙ ap (λ (k : ℕ). drop k (x ∷ xs)) e

-- the bucket of one is that of its octets
pub bucket-at : (at : ℕ) (ks : List Kept) (row : List ℕ) (i : ℕ) (d : Kept) (e : Sent) → IsLaid at ks row → i < length ks → (get_or ks i d).bucket ≡ bucket_of (get_or (laid ks row) i e).missing (get_or (laid ks row) i e).octets
bucket-at at [] row i d e h lt = absurd (omega (arith, lt))
bucket-at at (j ∷ ks) row zero d e h lt = h.0.bucket_is
bucket-at at (j ∷ ks) row (suc i) d e h lt = bucket-at (at + j.length) ks (drop j.length row) i d e h.1 (omega (arith, lt))

pub bucket-few : (at : ℕ) (ks : List Kept) (row : List ℕ) (i : ℕ) (d : Kept) → IsLaid at ks row → i < length ks → (get_or ks i d).bucket < 262144
bucket-few at [] row i d h lt = absurd (omega (arith, lt))
bucket-few at (j ∷ ks) row zero d h lt = h.0.few
bucket-few at (j ∷ ks) row (suc i) d h lt = bucket-few (at + j.length) ks (drop j.length row) i d h.1 (omega (arith, lt))
