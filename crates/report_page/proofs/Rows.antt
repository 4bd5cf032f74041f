-- The lines of a text that pass, with one line less.
use Rattle.std.proofs.Common.{◌≡◌, ◌∙◌, ap, sym, refl, ℕ, zero, suc, ◌-◌, ◌<◌, Bool, true, false, cond, arith}
use Rattle.std.proofs.Common.{List, [], ◌∷◌, ◌++◌, length, take, append-nil, append_assoc}
use Rattle.std.specs.List.{filter}
use Rattle.report_page.specs.Lines.{behind_line, first_line, lines_where}
use Rattle.report_page.specs.Told.{rows_of}
use Rattle.report_page.proofs.FirstLine.{lines_split}

-- those of a text are its first line, where it passes, and those behind it
where_split : (p : List ℕ → Bool) (text : List ℕ) → 0 < length text
    → lines_where p text
    ≡ cond (p (first_line text)) (first_line text ∷ lines_where p (behind_line text)) (lines_where p (behind_line text))
unfolding lines_where
where_split p text some = ap (filter p) (lines_split text some)

-- the same where these are told apart
where_step : (p : List ℕ → Bool) (text line rest : List ℕ) (passes : Bool) → 0 < length text → line ≡ first_line text
    → rest ≡ behind_line text → passes ≡ p line
    → lines_where p text ≡ cond passes (line ∷ lines_where p rest) (lines_where p rest)
where_step p text line rest passes some first behind is =
    let here : passes ≡ p (first_line text) = is ∙ ap p first in
    where_split p text some
    ∙ ap (λ (b : Bool). cond b (first_line text ∷ lines_where p (behind_line text)) (lines_where p (behind_line text))) (sym here)
    ∙ ap (λ (l : List ℕ). cond passes (l ∷ lines_where p (behind_line text)) (lines_where p (behind_line text))) (sym first)
    ∙ ap (λ (l : List ℕ). cond passes (line ∷ lines_where p l) (lines_where p l)) (sym behind)

pub where_passed : (p : List ℕ → Bool) (text line rest : List ℕ) (passes : Bool) → 0 < length text → line ≡ first_line text
    → rest ≡ behind_line text → passes ≡ p line → passes ≡ true → lines_where p text ≡ line ∷ lines_where p rest
where_passed p text line rest passes some first behind is so =
    where_step p text line rest passes some first behind is
    ∙ ap (λ (b : Bool). cond b (line ∷ lines_where p rest) (lines_where p rest)) so

pub where_left_out : (p : List ℕ → Bool) (text line rest : List ℕ) (passes : Bool) → 0 < length text → line ≡ first_line text
    → rest ≡ behind_line text → passes ≡ p line → passes ≡ false → lines_where p text ≡ lines_where p rest
where_left_out p text line rest passes some first behind is so =
    where_step p text line rest passes some first behind is
    ∙ ap (λ (b : Bool). cond b (line ∷ lines_where p rest) (lines_where p rest)) so

-- and none are those of nothing
pub where_none : (p : List ℕ → Bool) (text : List ℕ) → length text ≡ 0 → lines_where p text ≡ []
unfolding lines_where
where_none p [] is = refl
where_none p (c ∷ cs) is = absurd (omega arith)

-- what was written is all rows but those of what is left
pub rows_go_on : (done row more old all : List ℕ) → done ++ old ≡ all → old ≡ row ++ more → (done ++ row) ++ more ≡ all
rows_go_on done row more old all is split = append_assoc done row more ∙ ap (λ (t : List ℕ). done ++ t) (sym split) ∙ is

-- the rows of the first so many lines are that of the first and those of one less
pub rows_step : (row : List ℕ → List ℕ) (room : ℕ) (line : List ℕ) (lines more : List (List ℕ)) → 0 < room → lines ≡ line ∷ more
    → rows_of row (take room lines) ≡ row line ++ rows_of row (take (room - 1) more)
rows_step row zero line lines more some is = absurd (omega arith)
rows_step row (suc n) line lines more some is =
    let less : n ≡ suc n - 1 = omega arith in
    ap (λ (l : List (List ℕ)). rows_of row (take (suc n) l)) is ∙ ap (λ (k : ℕ). row line ++ rows_of row (take k more)) less

-- and none where there is no room
pub rows_full : (row : List ℕ → List ℕ) (room : ℕ) (lines : List (List ℕ)) → room ≡ 0 → rows_of row (take room lines) ≡ []
rows_full row zero lines is = refl
rows_full row (suc n) lines is = absurd (omega arith)

-- all that is written where nothing is left
pub rows_end : (done left all : List ℕ) → left ≡ [] → done ++ left ≡ all → done ≡ all
rows_end done left all none is = sym (append-nil done) ∙ ap (λ (t : List ℕ). done ++ t) (sym none) ∙ is
