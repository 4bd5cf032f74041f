-- A list that is taken item by item.
use Rattle.std.proofs.Common.{◌≡◌, ℕ, ◌≤◌, ◌==◌, nat_lt, Bool, true, false, arith, length, List, [], ◌∷◌, Option, Some, None, Result, Ok, Err, refl, ap, ◌∙◌}
use Rattle.std.specs.List.{after_first, before_first, onto_first, position_or_len, slice_split}
use borrow.Author.Tests.{ltb-true, ltb-false}
use Rattle.std.proofs.lemmas.List.Splits.{slice_split_first, slice_split-cons_no}
use Rattle.segment_set.specs.Segments.{Segments}
use Rattle.segment_set.specs.Lists.{cut, item_in, with_text, with_texts}
use Rattle.segment_set.specs.declared.fault.ListFault.{ListFault}

abbrev comma : ℕ → Bool
comma c = c == 44

-- no comma at all
none_before : (text : List ℕ) → length text ≤ position_or_len comma text → slice_split comma text ≡ text ∷ []
none_before [] h = refl
none_before (c ∷ cs) h = by (comma c) refl (λ later. none_before cs later)
  where
    by : (b : Bool) → comma c ≡ b → (length cs ≤ position_or_len comma cs → slice_split comma cs ≡ cs ∷ []) → slice_split comma (c ∷ cs) ≡ (c ∷ cs) ∷ []
    by true is behind = let never = rw is at h in absurd (omega (arith, never))
    by false is behind = let later = rw is at h in slice_split-cons_no comma c cs is ∙ ap (onto_first c) (behind (omega (arith, later)))

split_some : (text : List ℕ) (parts : List ℕ × List ℕ) → cut 44 text ≡ Some parts → slice_split comma text ≡ parts.0 ∷ slice_split comma parts.1
split_some text parts is = by (nat_lt (position_or_len comma text) (length text)) refl
  where
    by : (b : Bool) → nat_lt (position_or_len comma text) (length text) ≡ b → slice_split comma text ≡ parts.0 ∷ slice_split comma parts.1
    by true lt =
        let here : Some (before_first comma text, after_first comma text) ≡ Some parts = rw lt at is in
        let same : (before_first comma text, after_first comma text) ≡ parts = cc in
        slice_split_first comma text 0 (ltb-true _ _ lt) ∙ ap (λ (p : List ℕ × List ℕ). p.0 ∷ slice_split comma p.1) same
    by false ge = let none : ◌≡◌ {A = Option (List ℕ × List ℕ)} None (Some parts) = rw ge at is in absurd cc

split_none : (text : List ℕ) → cut 44 text ≡ None → slice_split comma text ≡ text ∷ []
split_none text is = by (nat_lt (position_or_len comma text) (length text)) refl
  where
    by : (b : Bool) → nat_lt (position_or_len comma text) (length text) ≡ b → slice_split comma text ≡ text ∷ []
    by true lt = let some : ◌≡◌ {A = Option (List ℕ × List ℕ)} (Some (before_first comma text, after_first comma text)) None = rw lt at is in absurd cc
    by false ge = none_before text (ltb-false _ _ ge)

-- what a step makes of the texts behind it
abbrev behind : List (List ℕ) → Result Segments ListFault → Result Segments ListFault
behind texts (Ok more) = with_texts more texts
behind texts (Err fault) = Err fault

steps : (s : Segments) (text : List ℕ) (texts : List (List ℕ)) → with_texts s (text ∷ texts) ≡ behind texts (with_text s (item_in text))
steps s text texts = by (with_text s (item_in text))
  where
    by : (r : Result Segments ListFault) → (elim r [ Ok more ↦ with_texts more texts | Err fault ↦ Err fault ]) ≡ behind texts r
    by (Ok more) = refl
    by (Err fault) = refl

-- an item, and those behind it
pub one_item : (s : Segments) (rest : List ℕ) (parts : List ℕ × List ℕ) (r : Result Segments ListFault) → cut 44 rest ≡ Some parts → with_text s (item_in parts.0) ≡ r → with_texts s (slice_split comma rest) ≡ behind (slice_split comma parts.1) r
one_item s rest parts r is step = ap (with_texts s) (split_some rest parts is) ∙ steps s parts.0 (slice_split comma parts.1) ∙ ap (behind (slice_split comma parts.1)) step

-- the last item
pub last_item : (s : Segments) (rest : List ℕ) → cut 44 rest ≡ None → with_texts s (slice_split comma rest) ≡ with_text s (item_in rest)
last_item s rest is = ap (with_texts s) (split_none rest is) ∙ steps s rest [] ∙ by (with_text s (item_in rest))
  where
    by : (r : Result Segments ListFault) → behind [] r ≡ r
    by (Ok more) = refl
    by (Err fault) = refl
