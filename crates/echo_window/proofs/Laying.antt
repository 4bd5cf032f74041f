-- Frames whose octets stand in one row.
use Rattle.std.proofs.Common.{◌≡◌, ℕ, ◌+◌, ◌<◌, ◌≤◌, false, List, [], ◌∷◌, ◌++◌, length, get_or, set, take, drop, refl, ap, ◌∙◌, zero, suc, arith, length-append, length-drop, length-take}
use Rattle.std.proofs.lemmas.List.{take-append-le, drop-append-le}
use Rattle.std.proofs.lemmas.Grind.{common_steps}
use Rattle.echo_window.specs.Echo.{Arrival, Record, first_met, met_again, met_at, octets_of}
use Rattle.echo_window.specs.Laid.{came_of, laid, lengths}
use Rattle.echo_window.specs.declared.kept.Kept.{Kept}

pub laid-length : (ks : List Kept) (row : List ℕ) → length (laid ks row) ≡ length ks
laid-length [] row = refl
laid-length (k ∷ ks) row = ap suc (laid-length ks (drop k.length row))

-- they have the octets of the row
pub laid-octets : (ks : List Kept) (row : List ℕ) → lengths ks ≡ length row → octets_of (laid ks row) ≡ length row
laid-octets [] row h = omega (arith, h)
laid-octets (k ∷ ks) row h =
    let rest = laid-octets ks (drop k.length row) (omega (arith, length-drop k.length row, h)) in
    omega (arith, length-append {A = ℕ}, length-take k.length row, length-drop k.length row, rest, h)

-- one more behind them
pub laid-put : (ks : List Kept) (row : List ℕ) (k : Kept) (text : List ℕ) → lengths ks ≡ length row → k.length ≡ length text → laid (ks ++ k ∷ []) (row ++ text) ≡ laid ks row ++ came_of k text ∷ []
laid-put [] [] k text h l = grind (arith, common_steps)
laid-put [] (x ∷ row) k text h l = absurd (omega (arith, h))
laid-put (j ∷ ks) row k text h l =
    let front : j.length ≤ length row = omega (arith, h) in
    let rest = laid-put ks (drop j.length row) k text (omega (arith, length-drop j.length row, h)) l in
    rw (take-append-le j.length row text front, drop-append-le j.length row text front) (ap (λ cs. came_of j (take j.length row) ∷ cs) rest)

-- one of them, in place of another of as many octets
pub laid-set : (ks : List Kept) (row : List ℕ) (i : ℕ) (k d : Kept) (e : Arrival) → i < length ks → k.length ≡ (get_or ks i d).length → laid (set ks i k) row ≡ set (laid ks row) i (came_of k (get_or (laid ks row) i e).frame)
laid-set [] row i k d e h l = absurd (omega (arith, h))
laid-set (j ∷ ks) row zero k d e h l = grind arith
laid-set (j ∷ ks) row (suc i) k d e h l = ap (λ cs. came_of j (take j.length row) ∷ cs) (laid-set ks (drop j.length row) i k d e (omega (arith, h)) l)

-- the octets of one
pub laid-at : (ks : List Kept) (row : List ℕ) (i : ℕ) (d : Kept) (e : Arrival) → i < length ks → get_or (laid ks row) i e ≡ came_of (get_or ks i d) (take (get_or ks i d).length (drop (lengths (take i ks)) row))
laid-at [] row i d e h = absurd (omega (arith, h))
laid-at (j ∷ ks) row zero d e h = refl
laid-at (j ∷ ks) row (suc i) d e h =
    laid-at ks (drop j.length row) i d e (omega (arith, h)) ∙ grind (arith, common_steps)

-- where one ends
pub lengths-next : (ks : List Kept) (i : ℕ) (d : Kept) → i < length ks → lengths (take (suc i) ks) ≡ lengths (take i ks) + (get_or ks i d).length
lengths-next [] i d h = absurd (omega (arith, h))
lengths-next (j ∷ ks) zero d h = omega arith
lengths-next (j ∷ ks) (suc i) d h = omega (arith, lengths-next ks i d (omega (arith, h)))

pub lengths-within : (ks : List Kept) (i : ℕ) → lengths (take i ks) ≤ lengths ks
lengths-within [] zero = omega arith
lengths-within [] (suc i) = omega arith
lengths-within (j ∷ ks) zero = omega arith
lengths-within (j ∷ ks) (suc i) = omega (arith, lengths-within ks i)

-- one of them, met again at a place
pub laid-met : (ks : List Kept) (row : List ℕ) (i : ℕ) (k more : Kept) (m : Record) → i < length ks → k ≡ get_or ks i k
    → more.place ≡ k.place → more.number ≡ k.number → more.moment ≡ k.moment → more.length ≡ k.length → more.awaited ≡ set k.awaited m.place false
    → laid (set ks i more) row ≡ met_again m (laid ks row) i
laid-met ks row i k more m h here p n t l e =
    let at = laid-at ks row i k (first_met m) h in
    let put = laid-set ks row i more k (first_met m) h (l ∙ ap (λ (x : Kept). x.length) here) in
    let own : came_of more (get_or (laid ks row) i (first_met m)).frame ≡ met_at m.place (get_or (laid ks row) i (first_met m)) = rw (at, ← here) cc in
    put ∙ ap (λ c. set (laid ks row) i c) own

-- one in place of another of as many octets
pub lengths-set : (ks : List Kept) (i : ℕ) (more d : Kept) → i < length ks → more.length ≡ (get_or ks i d).length → lengths (set ks i more) ≡ lengths ks
lengths-set [] i more d h l = absurd (omega (arith, h))
lengths-set (j ∷ ks) zero more d h l = omega (arith, l)
lengths-set (j ∷ ks) (suc i) more d h l = omega (arith, lengths-set ks i more d (omega (arith, h)) l)

-- one more behind them
pub lengths-put : (ks : List Kept) (k : Kept) → lengths (ks ++ k ∷ []) ≡ lengths ks + k.length
lengths-put [] k = omega arith
lengths-put (j ∷ ks) k = omega (arith, lengths-put ks k)
