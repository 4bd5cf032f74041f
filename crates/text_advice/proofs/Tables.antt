-- What a path means, by its first two parts.
use Rattle.std.proofs.Common.{Bor, ◌-◌, map, ◌≡◌, ℕ, List, [], ◌∷◌, length, ◌≤◌, take, drop, get_or, true, false, Some, option_and_then, codes, sym, ap, ◌∙◌, arith}
use Rattle.std.proofs.lemmas.Bool.{cond-true, cond-false}
use Rattle.std.proofs.lemmas.List.{take_rest}
use Rattle.text_advice.specs.Search.{Block, table_in}
use Rattle.text_advice.specs.Path.{is_number, joined, target}

-- behind a table of a list, by its number
pub target_numbered : (around : List ℕ) (b : Block) (p q : List ℕ) (ps : List (List ℕ)) (c : Block) → true ≡ is_number q → Some c ≡ table_in around (joined around p) q b → target around b (p ∷ q ∷ ps) ≡ target (joined around p) c ps
target_numbered around b p q ps c is found =
    cond-true _ _ _ (sym is) ∙ ap (option_and_then (λ d. target (joined around p) d ps)) (sym found)

-- behind a table without a number
pub target_named : (around : List ℕ) (b : Block) (p q : List ℕ) (ps : List (List ℕ)) (c : Block) → false ≡ is_number q → Some c ≡ table_in around (joined around p) (codes "1") b → target around b (p ∷ q ∷ ps) ≡ target (joined around p) c (q ∷ ps)
target_named around b p q ps c is found =
    cond-false _ _ _ (sym is) ∙ ap (option_and_then (λ d. target (joined around p) d (q ∷ ps))) (sym found)

-- the same of parts as the code holds them
pub step_numbered : (around : List ℕ) (b : Block) (parts : List (Bor (List ℕ))) (d : Bor (List ℕ)) (c : Block) → 2 ≤ length parts → true ≡ is_number (get_or parts 1 d).now → Some c ≡ table_in around (joined around (get_or parts 0 d).now) (get_or parts 1 d).now b → target around b (map (λ p. p.now) parts) ≡ target (joined around (get_or parts 0 d).now) c (map (λ p. p.now) (take (length parts - 2) (drop 2 parts)))
step_numbered around b [] d c long is found = absurd (omega arith)
step_numbered around b (p ∷ []) d c long is found = absurd (omega arith)
step_numbered around b (p ∷ q ∷ ps) d c long is found = target_numbered around b p.now q.now (map (λ x. x.now) ps) c is found ∙ ap (λ xs. target (joined around p.now) c (map (λ x. x.now) xs)) (sym (take_rest (p ∷ q ∷ ps) 2))

pub step_named : (around : List ℕ) (b : Block) (parts : List (Bor (List ℕ))) (d : Bor (List ℕ)) (c : Block) → 2 ≤ length parts → false ≡ is_number (get_or parts 1 d).now → Some c ≡ table_in around (joined around (get_or parts 0 d).now) (codes "1") b → target around b (map (λ p. p.now) parts) ≡ target (joined around (get_or parts 0 d).now) c (map (λ p. p.now) (take (length parts - 1) (drop 1 parts)))
step_named around b [] d c long is found = absurd (omega arith)
step_named around b (p ∷ []) d c long is found = absurd (omega arith)
step_named around b (p ∷ q ∷ ps) d c long is found = target_named around b p.now q.now (map (λ x. x.now) ps) c is found ∙ ap (λ xs. target (joined around p.now) c (map (λ x. x.now) xs)) (sym (take_rest (p ∷ q ∷ ps) 1))
