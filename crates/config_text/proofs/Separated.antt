-- Parts of a text, one after the other.
use Rattle.std.proofs.Common.{◌≡◌, ℕ, suc, ◌+◌, ◌-◌, ◌<◌, ◌≤◌, List, [], ◌∷◌, ◌++◌, Option, Some, None, option_map, option_and_then, refl, sym, ap, ◌∙◌, append_assoc, arith}
use Rattle.config_text.specs.Address.{joined, cut, parts_in}

-- parts, with more in front of them
abbrev pub after_parts : {A : Type 0} → List A → Option (List A) → Option (List A)
after_parts front o = option_map (λ xs. front ++ xs) o

step : {A : Type 0} (part : List ℕ → Option A) (separator i : ℕ) (rest : List ℕ) → i < 8 → joined part separator (8 - i) rest ≡ parts_in part (joined part separator (8 - (i + 1))) rest (cut separator rest)
unfolding joined
step part separator i rest lt = let k : 8 - i ≡ suc (8 - (i + 1)) = omega arith in rw k refl

regroup : {A : Type 0} (front : List A) (x : A) (o : Option (List A)) → after_parts front (option_map (λ xs. x ∷ xs) o) ≡ after_parts (front ++ x ∷ []) o
regroup front x None = refl
regroup front x (Some xs) = ap (λ ys. Some ys) (sym (append_assoc front (x ∷ []) xs))

module _ {A : Type 0} (part : List ℕ → Option A) (separator : ℕ) (front : List A) (i : ℕ) (rest : List ℕ) (total : Option (List A)) (lt : i < 8) (so_far : after_parts front (joined part separator (8 - i) rest) ≡ total) where
  whole : (o : Option (List ℕ × List ℕ)) → o ≡ cut separator rest → after_parts front (parts_in part (joined part separator (8 - (i + 1))) rest o) ≡ total
  whole o e = ap (λ h. after_parts front (parts_in part (joined part separator (8 - (i + 1))) rest h)) e ∙ ap (after_parts front) (sym (step part separator i rest lt)) ∙ so_far

  pub joined_more : (h : List ℕ × List ℕ) (x : A) → Some h ≡ cut separator rest → part h.0 ≡ Some x → after_parts (front ++ x ∷ []) (joined part separator (8 - (i + 1)) h.1) ≡ total
  joined_more h x e reads = sym (regroup front x (joined part separator (8 - (i + 1)) h.1)) ∙ ap (λ o. after_parts front (option_and_then (λ y. option_map (λ xs. y ∷ xs) (joined part separator (8 - (i + 1)) h.1)) o)) (sym reads) ∙ whole (Some h) e

  pub joined_unread : (h : List ℕ × List ℕ) → Some h ≡ cut separator rest → part h.0 ≡ None → None ≡ total
  joined_unread h e reads = ap (λ o. after_parts front (option_and_then (λ y. option_map (λ xs. y ∷ xs) (joined part separator (8 - (i + 1)) h.1)) o)) (sym reads) ∙ whole (Some h) e

  pub joined_last : (x : A) → None ≡ cut separator rest → part rest ≡ Some x → Some (front ++ x ∷ []) ≡ total
  joined_last x e reads = ap (λ o. after_parts front (option_map (λ y. y ∷ []) o)) (sym reads) ∙ whole None e

  pub joined_last_unread : None ≡ cut separator rest → part rest ≡ None → None ≡ total
  joined_last_unread e reads = ap (λ o. after_parts front (option_map (λ y. y ∷ []) o)) (sym reads) ∙ whole None e

pub joined_too_many : {A : Type 0} (part : List ℕ → Option A) (separator : ℕ) (front : List A) (i : ℕ) (rest : List ℕ) (total : Option (List A)) → 8 ≤ i → after_parts front (joined part separator (8 - i) rest) ≡ total → None ≡ total
unfolding joined
joined_too_many part separator front i rest total le so_far =
    let k : 8 - i ≡ 0 = omega arith in
    let one : after_parts front (joined part separator (8 - i) rest) ≡ None = rw k refl in
    sym one ∙ so_far
