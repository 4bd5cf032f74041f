-- All parts of a text, one cut after the other.
use Rattle.std.proofs.Common.{◌≡◌, ℕ, List, [], ◌∷◌, ◌++◌, Option, Some, None, option_map, ◌==◌, true, false, if◌then◌else◌, refl, sym, ap, ◌∙◌, append_assoc}
use Rattle.config_text.specs.Address.{cut}
use Rattle.text_advice.specs.Split.{split, onto}

-- all parts, by what stands before the first separator and behind it
abbrev pub parts_of : ℕ → List ℕ → Option (List ℕ × List ℕ) → List (List ℕ)
parts_of s text None = text ∷ []
parts_of s text (Some h) = h.0 ∷ split s h.1

-- one more character in front
pub onto_parts : (s c : ℕ) (cs : List ℕ) (o : Option (List ℕ × List ℕ)) (ps : List (List ℕ)) → ps ≡ parts_of s cs o → onto c ps ≡ parts_of s (c ∷ cs) (option_map (λ h. (c ∷ h.0, h.1)) o)
onto_parts s c cs None ps e = ap (onto c) e
onto_parts s c cs (Some h) ps e = ap (onto c) e

pub split_parts : (s : ℕ) (text : List ℕ) → split s text ≡ parts_of s text (cut s text)
split_parts s [] = refl
split_parts s (c ∷ cs) =
    elim (c == s) as (λ b. (if b then [] ∷ split s cs else onto c (split s cs)) ≡ parts_of s (c ∷ cs) (if b then Some ([], cs) else option_map (λ h. (c ∷ h.0, h.1)) (cut s cs)))
    [ true ↦ refl | false ↦ onto_parts s c cs (cut s cs) (split s cs) (split_parts s cs) ]

-- a part behind which a text begins again
pub split_more : (s : ℕ) (text : List ℕ) (h : List ℕ × List ℕ) → cut s text ≡ Some h → split s text ≡ h.0 ∷ split s h.1
split_more s text h is = split_parts s text ∙ ap (parts_of s text) is

-- the last part
pub split_last : (s : ℕ) (text : List ℕ) → cut s text ≡ None → split s text ≡ text ∷ []
split_last s text is = split_parts s text ∙ ap (parts_of s text) is

-- parts that are done, and one more
pub split_kept : (s : ℕ) (done : List (List ℕ)) (rest whole : List ℕ) (h : List ℕ × List ℕ) → Some h ≡ cut s rest → done ++ split s rest ≡ split s whole → (done ++ h.0 ∷ []) ++ split s h.1 ≡ split s whole
split_kept s done rest whole h is kept = append_assoc done (h.0 ∷ []) (split s h.1) ∙ ap (λ x. done ++ x) (sym (split_more s rest h (sym is))) ∙ kept

-- parts that are done, and the last
pub split_done : (s : ℕ) (done : List (List ℕ)) (rest whole : List ℕ) → None ≡ cut s rest → done ++ split s rest ≡ split s whole → done ++ rest ∷ [] ≡ split s whole
split_done s done rest whole is kept = ap (λ x. done ++ x) (sym (split_last s rest (sym is))) ∙ kept
