-- Lines that are of a form.
use Rattle.std.proofs.Common.{◌≡◌, ℕ, zero, suc, ◌<◌, ◌≤◌, Bool, true, false, cond, eqb, Bor, map, List, [], ◌∷◌, length, take, drop, get_or, Option, Some, sym, refl, ap, ◌∙◌, arith}
use Rattle.std.specs.Prelude.{◌&&◌, nat_le, nat_lt, find}
use Rattle.std.specs.List.{list_all}
use Rattle.std.proofs.lemmas.Bool.{le-leb, leb-true, lt-ltb, ne_eqb}
use Rattle.std.proofs.lemmas.Bool.Decides.{nat_tests}
use Rattle.json_lines.specs.Forms.{end_fits, fits, word_fits, words_fit}
use Rattle.json_lines.specs.declared.forms.Word.{Word}
use Rattle.json_lines.specs.declared.forms.Form.{Form}
use Rattle.json_lines.specs.declared.forms.End.{End}
use Rattle.json_lines.specs.declared.forms.End.TheVariants as ends
use Rattle.json_lines.specs.declared.line.Piece.{Piece}
use Rattle.json_lines.specs.Outcomes.{is_outcome, words}
use Rattle.json_lines.specs.Pieces.{piece_of, tails}
use Rattle.json_lines.specs.Puts.{words_behind}
use Rattle.json_lines.proofs.Escapes.{both}
use Rattle.json_lines.proofs.Pieces.{words_found}
use Rattle.json_lines.proofs.Values.{words_some}

-- of a line's words only as many count
pub few_words : (ks : List Word) (ws : List (List ℕ)) (n : ℕ) → length ks ≤ n → words_fit ks (take n ws) ≡ words_fit ks ws
few_words [] ws n few = refl
few_words (k ∷ ks) ws zero few = absurd (omega arith)
few_words (k ∷ ks) [] (suc n) few = refl
few_words (k ∷ ks) (w ∷ ws) (suc n) few = ap (λ b. word_fits k w && b) (few_words ks ws n (omega arith))

-- a word of a line that is of a form
pub word_fitting : (ks : List Word) (ws : List (List ℕ)) (at : ℕ) (d : Word) → words_fit ks ws ≡ true → at < length ks → word_fits (get_or ks at d) (get_or ws at []) ≡ true
word_fitting [] ws at d h lt = absurd (omega arith)
word_fitting (k ∷ ks) [] at d h lt = absurd cc
word_fitting (k ∷ ks) (w ∷ ws) zero d h lt = (both (word_fits k w) (words_fit ks ws) h).0
word_fitting (k ∷ ks) (w ∷ ws) (suc at) d h lt = word_fitting ks ws at d (both (word_fits k w) (words_fit ks ws) h).1 (omega arith)

-- its parts
pub fits_few : (form : Form) (ws : List (List ℕ)) → fits form ws ≡ true → length form.words.now ≤ 18
unfolding fits
fits_few form ws h = leb-true (length form.words.now) 18 (both _ _ h).0

pub fits_words : (form : Form) (ws : List (List ℕ)) → fits form ws ≡ true → words_fit form.words.now ws ≡ true
unfolding fits
fits_words form ws h = (both _ _ (both _ _ h).1).0

pub fits_end : (form : Form) (ws : List (List ℕ)) → fits form ws ≡ true → end_fits form.end (drop (length form.words.now) ws) ≡ true
unfolding fits
fits_end form ws h = (both _ _ (both _ _ h).1).1

-- what is found passes
pub find_fits : (ws : List (List ℕ)) (forms : List Form) (form : Form) → find (λ f. fits f ws) forms ≡ Some form → fits form ws ≡ true
find_fits ws [] form e = absurd cc
find_fits ws (f ∷ fs) form e = by (fits f ws) refl e (find_fits ws fs form)
  where
    by : (b : Bool) → fits f ws ≡ b → cond b (Some f) (find (λ g. fits g ws) fs) ≡ Some form → (find (λ g. fits g ws) fs ≡ Some form → fits form ws ≡ true) → fits form ws ≡ true
    by true h k more = let same : f ≡ form = cc in ap (λ g. fits g ws) (sym same) ∙ h
    by false h k more = more k

-- ---- whether a line is of a form, by the words that were found

pub fits_long : (form : Form) (ws : List (List ℕ)) → 18 < length form.words.now → false ≡ fits form ws
unfolding fits
fits_long form ws long =
    let e : nat_le (length form.words.now) 18 ≡ false = grind (arith, nat_tests) in
    sym (ap (λ b. b && (words_fit form.words.now ws && end_fits form.end (drop (length form.words.now) ws))) e)

by_words : (form : Form) (ws : List (List ℕ)) (b : Bool) → length form.words.now ≤ 18 → b ≡ words_fit form.words.now (take 19 ws)
    → fits form ws ≡ (b && end_fits form.end (drop (length form.words.now) ws))
unfolding fits
by_words form ws b few found =
    ap (λ q. q && (words_fit form.words.now ws && end_fits form.end (drop (length form.words.now) ws))) (le-leb (length form.words.now) 18 few)
    ∙ ap (λ q. q && end_fits form.end (drop (length form.words.now) ws)) (sym (found ∙ few_words form.words.now ws 19 (omega (arith, few))))

pub fits_both : (form : Form) (ws : List (List ℕ)) (items : List Piece) (behind : List (List ℕ)) (b r : Bool) → length form.words.now ≤ 18
    → map piece_of items ≡ take 19 (tails ws) → b ≡ words_fit form.words.now (map (λ p. p.word.now) items) → b ≡ true
    → behind ≡ drop (length form.words.now) ws → r ≡ end_fits form.end behind → r ≡ fits form ws
fits_both form ws items behind b r few found is right from ends =
    ends ∙ ap (end_fits form.end) from
    ∙ sym (by_words form ws b few (is ∙ ap (words_fit form.words.now) (words_found items ws found)) ∙ ap (λ q. q && end_fits form.end (drop (length form.words.now) ws)) right)

pub fits_not : (form : Form) (ws : List (List ℕ)) (items : List Piece) (b : Bool) → length form.words.now ≤ 18
    → map piece_of items ≡ take 19 (tails ws) → b ≡ words_fit form.words.now (map (λ p. p.word.now) items) → b ≡ false → b ≡ fits form ws
fits_not form ws items b few found is wrong =
    wrong ∙ sym (by_words form ws b few (is ∙ ap (words_fit form.words.now) (words_found items ws found)) ∙ ap (λ q. q && end_fits form.end (drop (length form.words.now) ws)) wrong)

-- ---- what stands behind the words

pub end_here : (end : End) (o : Option (Bor (List ℕ))) (text : Bor (List ℕ)) → o ≡ Some text → end ≡ ends.Here → false ≡ end_fits end (words_behind o)
end_here end o text some is =
    sym (ap (λ e. end_fits e (words_behind o)) is ∙ ap (λ p. eqb (length (words_behind p)) 0) some
    ∙ ne_eqb (length (words text.now)) 0 (λ e. absurd (omega (arith, e, words_some text.now))))

some_words : (text : List ℕ) → nat_lt 0 (length (words text)) ≡ true
some_words text = lt-ltb 0 (length (words text)) (words_some text)

pub end_rest : (end : End) (o : Option (Bor (List ℕ))) (text : Bor (List ℕ)) → o ≡ Some text → end ≡ ends.Rest → true ≡ end_fits end (words_behind o)
end_rest end o text some is =
    sym (ap (λ e. end_fits e (words_behind o)) is ∙ ap (λ p. nat_lt 0 (length (words_behind p))) some ∙ some_words text.now)

pub end_outcomes : (end : End) (o : Option (Bor (List ℕ))) (text : Bor (List ℕ)) (r : Bool) → o ≡ Some text → end ≡ ends.Outcomes
    → r ≡ list_all is_outcome (words text.now) → r ≡ end_fits end (words_behind o)
end_outcomes end o text r some is all =
    all ∙ sym (ap (λ e. end_fits e (words_behind o)) is ∙ ap (λ p. nat_lt 0 (length (words_behind p)) && list_all is_outcome (words_behind p)) some
    ∙ ap (λ b. b && list_all is_outcome (words text.now)) (some_words text.now))
