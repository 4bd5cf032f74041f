-- The words of a line that were found.
use Rattle.std.proofs.Common.{◌≡◌, ℕ, zero, suc, ◌<◌, ◌≤◌, List, [], ◌∷◌, ◌++◌, length, take, drop, get_or, map, refl, sym, ap, ◌∙◌, arith}
use Rattle.std.proofs.lemmas.List.{length-take, length-map, get_or-map, get_or-take, take_at}
use Rattle.json_lines.specs.Outcomes.{words}
use Rattle.json_lines.specs.Pieces.{piece_of, tails}
use Rattle.json_lines.specs.declared.line.Piece.{Piece}

-- ---- as many as there is room for

pub all_found : (items : List Piece) (rest line : List ℕ) → length items ≡ 19
    → map piece_of items ++ tails (words rest) ≡ tails (words line)
    → map piece_of items ≡ take 19 (tails (words line))
all_found items rest line full before =
    sym (take_at (map piece_of items) (tails (words rest)) 19 (length-map items piece_of ∙ full)) ∙ ap (take 19) before

-- ---- one of them

length-tails : (ws : List (List ℕ)) → length (tails ws) ≡ length ws
length-tails [] = refl
length-tails (w ∷ ws) = ap suc (length-tails ws)

at_tails : (ws : List (List ℕ)) (k : ℕ) (d : List ℕ × List (List ℕ)) → k < length ws → get_or (tails ws) k d ≡ (get_or ws k [], drop k ws)
at_tails [] k d lt = absurd (omega arith)
at_tails (w ∷ ws) zero d lt = refl
at_tails (w ∷ ws) (suc k) d lt = at_tails ws k d (omega arith)

how_many : (items : List Piece) (ws : List (List ℕ)) → map piece_of items ≡ take 19 (tails ws) → (length items ≤ length ws) × (length items ≤ 19) × (length items < 19 → length items ≡ length ws)
how_many items ws found =
    let same = sym (length-map items piece_of) ∙ ap length found ∙ length-take 19 (tails ws) in
    let all = length-tails ws in
    (omega (arith, same, all), omega (arith, same, all), λ lt. omega (arith, same, all, lt))

piece_at : (items : List Piece) (ws : List (List ℕ)) (k : ℕ) (d : Piece) → map piece_of items ≡ take 19 (tails ws) → k < length items
    → piece_of (get_or items k d) ≡ (get_or ws k [], drop k ws)
piece_at items ws k d found inside =
    let many = how_many items ws found in
    sym (get_or-map piece_of items k d (piece_of d) inside) ∙ ap (λ l. get_or l k (piece_of d)) found
    ∙ get_or-take 19 (tails ws) k (piece_of d) (omega (arith, many.1, inside)) ∙ at_tails ws k (piece_of d) (omega (arith, many.0, inside))

pub word_at : (items : List Piece) (ws : List (List ℕ)) (k : ℕ) (d : Piece) → map piece_of items ≡ take 19 (tails ws) → k < length items
    → (get_or items k d).word.now ≡ get_or ws k []
word_at items ws k d found inside = ap (λ q. q.0) (piece_at items ws k d found inside)

pub words_from : (items : List Piece) (ws : List (List ℕ)) (k : ℕ) (d : Piece) → map piece_of items ≡ take 19 (tails ws) → k < length items
    → words (get_or items k d).from.now ≡ drop k ws
words_from items ws k d found inside = ap (λ q. q.1) (piece_at items ws k d found inside)

pub none_at : (items : List Piece) (ws : List (List ℕ)) (k : ℕ) → map piece_of items ≡ take 19 (tails ws) → length items ≤ k → k < 19 → length ws ≤ k
none_at items ws k found past small = let many = how_many items ws found in let same = many.2 (omega (arith, past, small)) in omega (arith, same, past)

-- ---- their words

firsts : (ws : List (List ℕ)) (n : ℕ) → map (λ p. p.0) (take n (tails ws)) ≡ take n ws
firsts [] zero = refl
firsts [] (suc n) = refl
firsts (w ∷ ws) zero = refl
firsts (w ∷ ws) (suc n) = ap (λ l. w ∷ l) (firsts ws n)

seen : (items : List Piece) → map (λ p. p.word.now) items ≡ map (λ p. p.0) (map piece_of items)
seen [] = refl
seen (p ∷ ps) = ap (λ l. p.word.now ∷ l) (seen ps)

pub words_found : (items : List Piece) (ws : List (List ℕ)) → map piece_of items ≡ take 19 (tails ws) → map (λ p. p.word.now) items ≡ take 19 ws
words_found items ws found = seen items ∙ ap (map (λ p. p.0)) found ∙ firsts ws 19
