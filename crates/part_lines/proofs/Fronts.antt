-- A text of words that have no space in them.
use Rattle.std.proofs.Common.{◌≡◌, ℕ, ◌+◌, ◌≤◌, Bool, true, false, cond, eqb, List, [], ◌∷◌, ◌++◌, Some, None, option_map, refl, ap, ◌∙◌, arith}
use Rattle.std.specs.Prelude.{◌==◌, ◌&&◌, count_by, is_some}
use Rattle.std.specs.Option.{option_and_then, option_map_or}
use Rattle.std.specs.List.{cons_option}
use Rattle.std.proofs.lemmas.List.Sums.{sum_by-append, sum_by-cons}
use Rattle.line_words.specs.Words.{behind}
use Rattle.line_words.proofs.Decimals.{lacks}
use Rattle.line_words.proofs.Fronts.{behind_front, behind_whole, word_front, word_whole}
use Rattle.part_lines.specs.Words.{before_equals}
use Rattle.part_lines.specs.Sent.{has_places, is_sound, sent_by, sent_in, tap_of}
use Rattle.part_lines.proofs.Splits.{places_step, sent_step}

-- ---- up to a '='

pub equals_front : (w r : List ℕ) → lacks 61 w ≡ true → before_equals (w ++ 61 ∷ r) ≡ Some w
equals_front [] r h = refl
equals_front (c ∷ cs) r h = by (eqb c 61) h (λ k. equals_front cs r k)
  where
    by : (q : Bool) → cond q false (lacks 61 cs) ≡ true → (lacks 61 cs ≡ true → before_equals (cs ++ 61 ∷ r) ≡ Some cs) → cond q (Some []) (option_map (λ w. c ∷ w) (before_equals (cs ++ 61 ∷ r))) ≡ Some (c ∷ cs)
    by true k more = absurd cc
    by false k more = ap (option_map (λ w. c ∷ w)) (more k)

pub equals_none : (w : List ℕ) → lacks 61 w ≡ true → before_equals w ≡ None
equals_none [] h = refl
equals_none (c ∷ cs) h = by (eqb c 61) h (λ k. equals_none cs k)
  where
    by : (q : Bool) → cond q false (lacks 61 cs) ≡ true → (lacks 61 cs ≡ true → before_equals cs ≡ None) → cond q (Some []) (option_map (λ w. c ∷ w) (before_equals cs)) ≡ None
    by true k more = absurd cc
    by false k more = ap (option_map (λ w. c ∷ w)) (more k)

-- nothing was sent by a word without it
pub unsent : (w : List ℕ) → lacks 61 w ≡ true → sent_by w ≡ None
unsent w h = ap (option_and_then tap_of) (equals_none w h)

-- and it is sound
pub unsent_sound : (w : List ℕ) → lacks 61 w ≡ true → is_sound w ≡ true
unsent_sound w h = ap (λ o. option_map_or (λ place. is_some (tap_of place)) o true) (equals_none w h)

-- ---- places of a text

pub sent_front : (w r : List ℕ) → lacks 32 w ≡ true → sent_in (w ++ 32 ∷ r) ≡ cons_option (sent_by w) (sent_in r)
sent_front w r h =
    sent_step (w ++ 32 ∷ r) ∙ ap (λ t. cons_option (sent_by t) (sent_in (behind (w ++ 32 ∷ r)))) (word_front w r h)
    ∙ ap (λ t. cons_option (sent_by w) (sent_in t)) (behind_front w r h)

pub sent_whole : (w : List ℕ) → lacks 32 w ≡ true → sent_in w ≡ cons_option (sent_by w) []
sent_whole w h =
    sent_step w ∙ ap (λ t. cons_option (sent_by t) (sent_in (behind w))) (word_whole w h)
    ∙ ap (λ t. cons_option (sent_by w) (sent_in t)) (behind_whole w h)

pub unsent_front : (w r : List ℕ) → lacks 32 w ≡ true → lacks 61 w ≡ true → sent_in (w ++ 32 ∷ r) ≡ sent_in r
unsent_front w r h k = sent_front w r h ∙ ap (λ o. cons_option o (sent_in r)) (unsent w k)

pub unsent_whole : (w : List ℕ) → lacks 32 w ≡ true → lacks 61 w ≡ true → sent_in w ≡ []
unsent_whole w h k = sent_whole w h ∙ ap (λ o. cons_option o []) (unsent w k)

-- ---- places before a '='

pub places_front : (w r : List ℕ) → lacks 32 w ≡ true → is_sound w ≡ true → has_places (w ++ 32 ∷ r) ≡ has_places r
places_front w r h k =
    places_step (w ++ 32 ∷ r) ∙ ap (λ t. is_sound t && has_places (behind (w ++ 32 ∷ r))) (word_front w r h)
    ∙ ap (λ t. is_sound w && has_places t) (behind_front w r h) ∙ ap (λ b. b && has_places r) k

pub places_whole : (w : List ℕ) → lacks 32 w ≡ true → is_sound w ≡ true → has_places w ≡ true
places_whole w h k =
    places_step w ∙ ap (λ t. is_sound t && has_places (behind w)) (word_whole w h)
    ∙ ap (λ t. is_sound w && has_places t) (behind_whole w h) ∙ ap (λ b. b && true) k

-- ---- spaces

abbrev pub spaces : List ℕ → ℕ
spaces t = count_by (λ c. c == 32) t

pub one_more : (w r : List ℕ) (k : ℕ) → k ≤ spaces r → k + 1 ≤ spaces (w ++ 32 ∷ r)
one_more w r k h =
    let whole = sum_by-append (λ c. cond (c == 32) 1 0) w (32 ∷ r) in
    let first = sum_by-cons (λ c. cond (c == 32) 1 0) 32 r in
    omega (arith, h, whole, first)
