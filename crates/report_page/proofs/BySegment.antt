-- The first ten talks of each segment, one talk after another.
use Rattle.std.proofs.Common.{◌≡◌, ◌∙◌, ap, sym, refl, ℕ, zero, suc, ◌-◌, nat_lt, Bool, true, false, cond, if◌then◌else◌, arith}
use Rattle.std.proofs.Common.{List, [], ◌∷◌, ◌++◌, take, append_assoc}
use Rattle.std.specs.List.{flat_map}
use Rattle.std.proofs.lemmas.Bool.{lt-ltb}
use Rattle.wire.specs.Octets.{is_same}
use Rattle.report_page.specs.Told.{by_segments, is_beside, largest_of, onto_segments, row_where, rows_of, talk_row, word_at}

-- so many of the first segment, and ten of each other
abbrev first_shown : ℕ → List (List (List ℕ)) → List (List ℕ)
first_shown here [] = []
first_shown here (lines ∷ segments) = take here lines ++ flat_map (take 10) segments

-- so many more of the first segment where it is this one, and ten of each other
abbrev pub shown_of : ℕ → List ℕ → List (List (List ℕ)) → List (List ℕ)
shown_of room before [] = []
shown_of room before ([] ∷ segments) = flat_map (take 10) segments
shown_of room before ((line ∷ lines) ∷ segments) =
    take (cond (is_same before (word_at 1 line)) room 10) (line ∷ lines) ++ flat_map (take 10) segments

-- a line, where there is room for it
abbrev one : ℕ → List ℕ → List (List ℕ)
one zero line = []
one (suc n) line = line ∷ []

abbrev has_room : ℕ → Bool
has_room zero = false
has_room (suc n) = true

some_room : (here : ℕ) → nat_lt 0 here ≡ has_room here
some_room zero = refl
some_room (suc n) = lt-ltb 0 (suc n) (omega arith)

ten_or_ten : (b : Bool) → ◌≡◌ {A = ℕ} (cond b 10 10) 10
ten_or_ten true = refl
ten_or_ten false = refl

shown_at_first : (before : List ℕ) (segments : List (List (List ℕ))) → shown_of 10 before segments ≡ flat_map (take 10) segments
shown_at_first before [] = refl
shown_at_first before ([] ∷ segments) = refl
shown_at_first before ((line ∷ lines) ∷ segments) =
    ap (λ (n : ℕ). take n (line ∷ lines) ++ flat_map (take 10) segments) (ten_or_ten (is_same before (word_at 1 line)))

take_one : (here : ℕ) (line : List ℕ) (lines : List (List ℕ)) → take here (line ∷ lines) ≡ one here line ++ take (here - 1) lines
take_one zero line lines = refl
take_one (suc n) line lines =
    let less : n ≡ suc n - 1 = omega arith in
    ap (λ (k : ℕ). line ∷ take k lines) less

take_none : (n : ℕ) (lines : List (List ℕ)) → lines ≡ [] → take n lines ≡ []
take_none zero [] none = refl
take_none (suc n) [] none = refl
take_none n (line ∷ lines) none = absurd cc

-- of a line alone in its segment
alone : (here : ℕ) (line : List ℕ) (others : List (List ℕ)) → take here (line ∷ []) ++ others ≡ one here line ++ others
alone zero line others = refl
alone (suc n) line others = ap (λ (l : List (List ℕ)). line ∷ l ++ others) (take_none n [] refl)

front_cases : (b : Bool) (room : ℕ) (before line next : List ℕ) (lines : List (List ℕ)) (segments : List (List (List ℕ)))
    → shown_of room before (if b then (line ∷ next ∷ lines) ∷ segments else (line ∷ []) ∷ (next ∷ lines) ∷ segments)
    ≡ first_shown (cond (is_same before (word_at 1 line)) room 10)
    (if b then (line ∷ next ∷ lines) ∷ segments else (line ∷ []) ∷ (next ∷ lines) ∷ segments)
front_cases true room before line next lines segments = refl
front_cases false room before line next lines segments = refl

front : (room : ℕ) (before line : List ℕ) (segments : List (List (List ℕ)))
    → shown_of room before (onto_segments line segments)
    ≡ first_shown (cond (is_same before (word_at 1 line)) room 10) (onto_segments line segments)
front room before line [] = refl
front room before line ([] ∷ segments) = refl
front room before line ((next ∷ lines) ∷ segments) = front_cases (is_beside line next) room before line next lines segments

onto_cases : (b : Bool) (here : ℕ) (line next : List ℕ) (lines : List (List ℕ)) (segments : List (List (List ℕ)))
    → first_shown here (if b then (line ∷ next ∷ lines) ∷ segments else (line ∷ []) ∷ (next ∷ lines) ∷ segments)
    ≡ one here line ++ (take (cond b (here - 1) 10) (next ∷ lines) ++ flat_map (take 10) segments)
onto_cases true here line next lines segments =
    ap (λ (l : List (List ℕ)). l ++ flat_map (take 10) segments) (take_one here line (next ∷ lines))
    ∙ append_assoc (one here line) (take (here - 1) (next ∷ lines)) (flat_map (take 10) segments)
onto_cases false here line next lines segments = alone here line (take 10 (next ∷ lines) ++ flat_map (take 10) segments)

onto : (here : ℕ) (line : List ℕ) (segments : List (List (List ℕ)))
    → first_shown here (onto_segments line segments) ≡ one here line ++ shown_of (here - 1) (word_at 1 line) segments
onto here line [] = alone here line []
onto here line ([] ∷ segments) = alone here line (flat_map (take 10) segments)
onto here line ((next ∷ lines) ∷ segments) = onto_cases (is_beside line next) here line next lines segments

one_row : (here : ℕ) (line : List ℕ) (others : List (List ℕ))
    → rows_of talk_row (one here line ++ others) ≡ row_where (has_room here) line ++ rows_of talk_row others
one_row zero line others = refl
one_row (suc n) line others = refl

-- at first ten are shown of each segment
pub largest_at_first : (talks : List (List ℕ)) → rows_of talk_row (shown_of 10 [] (by_segments talks)) ≡ rows_of talk_row (largest_of talks)
unfolding largest_of
largest_at_first talks = ap (rows_of talk_row) (shown_at_first [] (by_segments talks))

-- and behind a talk one less of its own
pub largest_step : (room here left : ℕ) (before segment line : List ℕ) (talks more : List (List ℕ)) (shown : Bool) → talks ≡ line ∷ more
    → segment ≡ word_at 1 line → here ≡ cond (is_same before segment) room 10 → shown ≡ nat_lt 0 here → left ≡ here - 1
    → rows_of talk_row (shown_of room before (by_segments talks))
    ≡ row_where shown line ++ rows_of talk_row (shown_of left segment (by_segments more))
largest_step room here left before segment line talks more shown split word is so less =
    let now : here ≡ cond (is_same before (word_at 1 line)) room 10 = is ∙ ap (λ (s : List ℕ). cond (is_same before s) room 10) word in
    ap (λ (l : List (List ℕ)). rows_of talk_row (shown_of room before (by_segments l))) split
    ∙ ap (rows_of talk_row) (front room before line (by_segments more))
    ∙ ap (λ (n : ℕ). rows_of talk_row (first_shown n (onto_segments line (by_segments more)))) (sym now)
    ∙ ap (rows_of talk_row) (onto here line (by_segments more))
    ∙ one_row here line (shown_of (here - 1) (word_at 1 line) (by_segments more))
    ∙ ap (λ (b : Bool). row_where b line ++ rows_of talk_row (shown_of (here - 1) (word_at 1 line) (by_segments more)))
    (sym (so ∙ some_room here))
    ∙ ap (λ (n : ℕ). row_where shown line ++ rows_of talk_row (shown_of n (word_at 1 line) (by_segments more))) (sym less)
    ∙ ap (λ (s : List ℕ). row_where shown line ++ rows_of talk_row (shown_of left s (by_segments more))) (sym word)
