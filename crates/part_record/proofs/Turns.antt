-- Lines in turn, with one more of them.
use Rattle.std.proofs.Common.{◌≡◌, ◌∙◌, sym, ap, ℕ, suc, ◌+◌, ◌<◌, List, [], ◌∷◌, ◌++◌, length, get_or, take, arith, add-zero, append_assoc, append-nil}
use Rattle.std.proofs.lemmas.List.{length-take, take_more}
use Rattle.part_record.specs.InTurn.{lines_in_turn}

lines-push : {X : Type 0} (line : ℕ → X → List ℕ) (first : ℕ) (xs : List X) (x : X)
    → lines_in_turn line first (xs ++ x ∷ []) ≡ lines_in_turn line first xs ++ line (first + length xs) x
lines-push line first [] x = rw add-zero (append-nil (line first x))
lines-push line first (y ∷ xs) x =
    let same : first + 1 + length xs ≡ first + suc (length xs) = omega arith in
    ap (λ (l : List ℕ). line first y ++ l) (lines-push line (first + 1) xs x ∙ ap (λ (n : ℕ). lines_in_turn line (first + 1) xs ++ line n x) same)
    ∙ sym (append_assoc (line first y) (lines_in_turn line (first + 1) xs) (line (first + suc (length xs)) x))

-- one more of them was read
pub read_more : {X : Type 0} (line : ℕ → X → List ℕ) (first : ℕ) (text : List ℕ) (xs : List X) (rest : List ℕ) (x : X) (next : List ℕ) (number : ℕ)
    → number ≡ first + length xs → text ≡ lines_in_turn line first xs ++ rest → rest ≡ line number x ++ next
    → text ≡ lines_in_turn line first (xs ++ x ∷ []) ++ next
read_more line first text xs rest x next number at e h =
    e ∙ ap (λ (l : List ℕ). lines_in_turn line first xs ++ l) (h ∙ ap (λ (n : ℕ). line n x ++ next) at)
    ∙ sym (append_assoc (lines_in_turn line first xs) (line (first + length xs) x) next)
    ∙ ap (λ (l : List ℕ). l ++ next) (sym (lines-push line first xs x))

-- one more of them was put
pub put_more : {X : Type 0} (line : ℕ → X → List ℕ) (first : ℕ) (start items new : List ℕ) (xs : List X) (i number : ℕ) (none : X) → i < length xs → number ≡ first + i
    → items ≡ start ++ lines_in_turn line first (take i xs) → new ≡ items ++ line number (get_or xs i none)
    → new ≡ start ++ lines_in_turn line first (take (i + 1) xs)
put_more line first start items new xs i number none less at e h =
    let count : number ≡ first + length (take i xs) = omega (arith, at, length-take i xs, less) in
    h ∙ ap (λ (l : List ℕ). l ++ line number (get_or xs i none)) e
    ∙ append_assoc start (lines_in_turn line first (take i xs)) (line number (get_or xs i none))
    ∙ ap (λ (l : List ℕ). start ++ l)
    (ap (λ (n : ℕ). lines_in_turn line first (take i xs) ++ line n (get_or xs i none)) count
    ∙ sym (lines-push line first (take i xs) (get_or xs i none)) ∙ ap (λ l. lines_in_turn line first l) (sym (take_more xs i none less)))
