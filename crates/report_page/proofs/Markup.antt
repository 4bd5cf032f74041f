-- What an escaped text has none of.
use Rattle.std.proofs.Common.{◌≡◌, ◌∙◌, ap, refl, ℕ, ◌==◌, ◌&&◌, not, Bool, true, false, List, [], ◌∷◌, codes, inl, inr, if◌then◌else◌}
use Rattle.std.specs.Prelude.{◌⊎◌}
use Rattle.std.specs.List.{list_all}
use Rattle.std.proofs.lemmas.List.Folds.{list_all-append}
use Rattle.report_page.specs.Escaped.{HasNoLooseAmpersand, HasNoMarkup, escaped, escaped_octet, is_entity, is_markup, is_plain, replacement}

plain_cases : (b d e f p : Bool) (c : ℕ) → (c == 60) ≡ b → (c == 62) ≡ d → (c == 34) ≡ e → (c == 39) ≡ f
    → list_all (λ c. not (is_markup c))
    (if b then codes "&lt;" else (if d then codes "&gt;" else (if e then codes "&quot;" else (if f then codes "&#39;" else (if p then c ∷ [] else replacement)))))
    ≡ true
plain_cases true d e f p c lt gt quote single = refl
plain_cases false true e f p c lt gt quote single = refl
plain_cases false false true f p c lt gt quote single = refl
plain_cases false false false true p c lt gt quote single = refl
plain_cases false false false false true c lt gt quote single = rw (lt, gt, quote, single) refl
plain_cases false false false false false c lt gt quote single = refl

octet_cases : (a : Bool) (text : List ℕ) → list_all (λ c. not (is_markup c)) text ≡ true
    → list_all (λ c. not (is_markup c)) (if a then codes "&amp;" else text) ≡ true
octet_cases true text safe = refl
octet_cases false text safe = safe

octet_safe : (c : ℕ) → list_all (λ c. not (is_markup c)) (escaped_octet c) ≡ true
unfolding escaped_octet
octet_safe c =
    octet_cases (c == 38) _ (plain_cases (c == 60) (c == 62) (c == 34) (c == 39) (is_plain c) c refl refl refl refl)

pub no_markup : HasNoMarkup
no_markup [] = refl
no_markup (c ∷ cs) =
    list_all-append (λ c. not (is_markup c)) (escaped_octet c) (escaped cs)
    ∙ ap (λ (b : Bool). b && list_all (λ c. not (is_markup c)) (escaped cs)) (octet_safe c) ∙ no_markup cs

entity_cases : (a b d e f p : Bool) (c : ℕ) → (c == 38) ≡ a
    → let text = if a then codes "&amp;" else (if b then codes "&lt;" else (if d then codes "&gt;" else (if e then codes "&quot;"
    else (if f then codes "&#39;" else (if p then c ∷ [] else replacement))))) in
    is_entity text ⊎ (list_all (λ c. not (c == 38)) text ≡ true)
entity_cases true b d e f p c amp = inl (inl refl)
entity_cases false true d e f p c amp = inl (inr (inl refl))
entity_cases false false true e f p c amp = inl (inr (inr (inl refl)))
entity_cases false false false true f p c amp = inl (inr (inr (inr (inl refl))))
entity_cases false false false false true p c amp = inl (inr (inr (inr (inr refl))))
entity_cases false false false false false true c amp = inr (rw amp refl)
entity_cases false false false false false false c amp = inr refl

pub no_loose_ampersand : HasNoLooseAmpersand
unfolding escaped_octet
no_loose_ampersand c = entity_cases (c == 38) (c == 60) (c == 62) (c == 34) (c == 39) (is_plain c) c refl
