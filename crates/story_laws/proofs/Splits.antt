-- A text in front of the first octet of a kind, and what stands behind it.
use Rattle.std.proofs.Common.{◌≡◌, ℕ, Bool, true, false, cond, eqb, List, [], ◌∷◌, ◌++◌, get_or, append_assoc, refl, sym, ap, ◌∙◌}
use Rattle.std.proofs.lemmas.Bool.{eq-eqb, false≢true}
use Rattle.std.proofs.lemmas.List.{append_cancel_left}
use Rattle.line_words.proofs.Decimals.{lacks}

-- two texts with another octet in the same place are not the same
pub apart : (place : ℕ) (x y : List ℕ) → x ≡ y → eqb (get_or x place 0) (get_or y place 0) ≡ false → ⊥
apart place x y e other =
    let same : eqb (get_or x place 0) (get_or y place 0) ≡ true = eq-eqb _ _ (ap (λ t. get_or t place 0) e) in
    absurd (false≢true (sym other ∙ same))

first_other : (s c : ℕ) (w : List ℕ) → lacks s (c ∷ w) ≡ true → c ≡ s → ⊥
first_other s c w h e = by (eqb c s) (eq-eqb c s e) h
  where
    by : (q : Bool) → q ≡ true → cond q false (lacks s w) ≡ true → ⊥
    by true is k = absurd cc
    by false is k = absurd cc

lacks_behind : (s c : ℕ) (w : List ℕ) → lacks s (c ∷ w) ≡ true → lacks s w ≡ true
lacks_behind s c w h = by (eqb c s) h
  where
    by : (q : Bool) → cond q false (lacks s w) ≡ true → lacks s w ≡ true
    by true k = absurd cc
    by false k = k

-- such a text is the same in two that are the same, and so is what stands behind that octet
pub split_same : (s : ℕ) (w v x y : List ℕ) → lacks s w ≡ true → lacks s v ≡ true → w ++ s ∷ x ≡ v ++ s ∷ y → (w ≡ v) × (x ≡ y)
split_same s [] [] x y hw hv e =
    let more : x ≡ y = cc in
    (refl, more)
split_same s [] (d ∷ v) x y hw hv e =
    let first : d ≡ s = cc in
    absurd (first_other s d v hv first)
split_same s (c ∷ w) [] x y hw hv e =
    let first : c ≡ s = cc in
    absurd (first_other s c w hw first)
split_same s (c ∷ w) (d ∷ v) x y hw hv e =
    let first : c ≡ d = cc in
    let behind : w ++ s ∷ x ≡ v ++ s ∷ y = cc in
    let more = split_same s w v x y (lacks_behind s c w hw) (lacks_behind s d v hv) behind in
    (λ i. first i ∷ more.0 i, more.1)

-- behind a text that both begin with
pub field_same : (p : List ℕ) (s : ℕ) (w v x y : List ℕ) → lacks s w ≡ true → lacks s v ≡ true → p ++ (w ++ s ∷ x) ≡ p ++ (v ++ s ∷ y)
    → (w ≡ v) × (x ≡ y)
field_same p s w v x y hw hv e = split_same s w v x y hw hv (append_cancel_left p (w ++ s ∷ x) (v ++ s ∷ y) e)

-- two such texts, one behind the other
pub pair_same : (p q : List ℕ) (s t : ℕ) (a b c d x y : List ℕ)
    → (lacks s a ≡ true) × (lacks t b ≡ true) → (lacks s c ≡ true) × (lacks t d ≡ true)
    → p ++ (a ++ s ∷ (q ++ (b ++ t ∷ x))) ≡ p ++ (c ++ s ∷ (q ++ (d ++ t ∷ y))) → (a ≡ c) × (b ≡ d) × (x ≡ y)
pair_same p q s t a b c d x y h k e =
    let first = field_same p s a c (q ++ (b ++ t ∷ x)) (q ++ (d ++ t ∷ y)) h.0 k.0 e in
    let second = field_same q t b d x y h.1 k.1 first.1 in
    (first.0, second.0, second.1)

-- five texts one behind another
pub flat_five : (a b c d e : List ℕ) → a ++ b ++ c ++ d ++ e ≡ a ++ (b ++ (c ++ (d ++ e)))
flat_five a b c d e = simp append_assoc refl

-- the same in front of another
flat_front : (a b c d e x : List ℕ) → (a ++ b ++ c ++ d ++ e) ++ x ≡ a ++ (b ++ (c ++ (d ++ (e ++ x))))
flat_front a b c d e x = simp append_assoc refl

-- two such texts with one in front, between them and behind them, and what stands behind these
pub front_same : (p q z : List ℕ) (s t : ℕ) (a b c d x y : List ℕ)
    → (lacks s a ≡ true) × (lacks t b ≡ true) → (lacks s c ≡ true) × (lacks t d ≡ true)
    → (p ++ a ++ (s ∷ q) ++ b ++ (t ∷ z)) ++ x ≡ (p ++ c ++ (s ∷ q) ++ d ++ (t ∷ z)) ++ y → (a ≡ c) × (b ≡ d) × (x ≡ y)
front_same p q z s t a b c d x y h k e =
    let flat = sym (flat_front p a (s ∷ q) b (t ∷ z) x) ∙ e ∙ flat_front p c (s ∷ q) d (t ∷ z) y in
    let same = pair_same p q s t a b c d (z ++ x) (z ++ y) h k flat in
    (same.0, same.1, append_cancel_left z x y same.2)
