-- Outcomes that are told in the same text stand in a line in the same text.
use Rattle.std.proofs.Common.{◌≡◌, ℕ, Bool, List, [], ◌∷◌, ◌++◌, length, append_assoc, Result, Ok, Err, refl, sym, ◌∙◌}
use Rattle.std.proofs.lemmas.List.{append_cancel_left}
use Rattle.std.specs.Prelude.{codes, decimal}
use Rattle.wire.specs.Reason.{name_of}
use Rattle.wire.specs.declared.ether.reason.Reason.{Reason}
use Rattle.filter_db.specs.declared.place.Place.{Place}
use Rattle.encapsulate.specs.Remote.{sizes}
use Rattle.endpoint_core.specs.Decision.{Sent}
use Rattle.endpoint_core.specs.Text as line
use Rattle.endpoint_core.specs.Text.{place_text, sent_text}
use Rattle.decision_objects.specs.Objects as object
use Rattle.decision_objects.specs.Objects.{count_text}
use Rattle.story_laws.proofs.Names.{quote_place, quote_reason}
use Rattle.story_laws.proofs.Numbers.{comma_number}
use Rattle.story_laws.proofs.Splits.{apart, front_same}

-- ---- one outcome

-- what came of a place, in front of a text
result_same : (s t : Result (List ℕ) Reason) (a b : Bool) (p q : Place) (x y : List ℕ)
    → count_text (place_text a p) (sizes s) ++ x ≡ count_text (place_text b q) (sizes t) ++ y
    → (place_text a p ++ sent_text s ≡ place_text b q ++ sent_text t) × (x ≡ y)
result_same (Ok o) (Ok u) a b p q x y e =
    let same = front_same (codes "{\"octets\":") (codes "\"place\":\"") (codes "}") 44 34
    (decimal (length o)) (place_text a p) (decimal (length u)) (place_text b q) x y
    (comma_number (length o), quote_place a p) (comma_number (length u), quote_place b q) e in
    (λ i. same.1 i ++ (codes "=" ++ same.0 i), same.2)
result_same (Err r) (Err k) a b p q x y e =
    let same = front_same (codes "{\"fault\":\"") (codes ",\"place\":\"") (codes "}") 34 34
    (name_of r) (place_text a p) (name_of k) (place_text b q) x y (quote_reason r, quote_place a p) (quote_reason k, quote_place b q) e in
    (λ i. same.1 i ++ (codes "!" ++ same.0 i), same.2)
result_same (Ok o) (Err k) a b p q x y e = absurd (apart 2 _ _ e refl)
result_same (Err r) (Ok u) a b p q x y e = absurd (apart 2 _ _ e refl)

outcome_same : (a b : Bool) (o p : Sent) (x y : List ℕ) → object.outcome_text a o ++ x ≡ object.outcome_text b p ++ y
    → (line.outcome_text a o ≡ line.outcome_text b p) × (x ≡ y)
outcome_same a b o p x y e = result_same o.sent p.sent a b o.place p.place x y e

-- ---- many, with a bracket behind them

further_same : (a b : Bool) (os ps : List Sent) (x y : List ℕ) → object.further_text a os ++ 93 ∷ x ≡ object.further_text b ps ++ 93 ∷ y
    → (line.further_text a os ≡ line.further_text b ps) × (x ≡ y)
further_same a b [] [] x y e =
    let more : x ≡ y = cc in
    (refl, more)
further_same a b [] (p ∷ ps) x y e = absurd (apart 0 _ _ e refl)
further_same a b (o ∷ os) [] x y e = absurd (apart 0 _ _ e refl)
further_same a b (o ∷ os) (p ∷ ps) x y e =
    let u = object.outcome_text a o in
    let v = object.outcome_text b p in
    let us = object.further_text a os in
    let vs = object.further_text b ps in
    let behind : u ++ (us ++ 93 ∷ x) ≡ v ++ (vs ++ 93 ∷ y) =
    sym (append_assoc u us (93 ∷ x)) ∙ append_cancel_left (codes ",") (u ++ us ++ 93 ∷ x) (v ++ vs ++ 93 ∷ y) e
    ∙ append_assoc v vs (93 ∷ y) in
    let first = outcome_same a b o p (us ++ 93 ∷ x) (vs ++ 93 ∷ y) behind in
    let more = further_same a b os ps x y first.1 in
    (λ i. 32 ∷ first.0 i ++ more.0 i, more.1)

-- the text of an outcome begins with a brace
begins : (place : List ℕ) (r : Result ℕ Reason) (x y : List ℕ) → 93 ∷ y ≡ count_text place r ++ x → ⊥
begins place (Ok n) x y e = apart 0 _ _ e refl
begins place (Err r) x y e = apart 0 _ _ e refl

pub outcomes_same : (a b : Bool) (os ps : List Sent) (x y : List ℕ)
    → object.outcomes_text a os ++ 93 ∷ x ≡ object.outcomes_text b ps ++ 93 ∷ y
    → (line.outcomes_text a os ≡ line.outcomes_text b ps) × (x ≡ y)
outcomes_same a b [] [] x y e =
    let more : x ≡ y = cc in
    (refl, more)
outcomes_same a b [] (p ∷ ps) x y e =
    let u = object.outcome_text b p in
    let us = object.further_text b ps in
    absurd (begins (place_text b p.place) (sizes p.sent) (us ++ 93 ∷ y) x (e ∙ append_assoc u us (93 ∷ y)))
outcomes_same a b (o ∷ os) [] x y e =
    let u = object.outcome_text a o in
    let us = object.further_text a os in
    absurd (begins (place_text a o.place) (sizes o.sent) (us ++ 93 ∷ x) y (sym e ∙ append_assoc u us (93 ∷ x)))
outcomes_same a b (o ∷ os) (p ∷ ps) x y e =
    let u = object.outcome_text a o in
    let v = object.outcome_text b p in
    let us = object.further_text a os in
    let vs = object.further_text b ps in
    let whole : u ++ (us ++ 93 ∷ x) ≡ v ++ (vs ++ 93 ∷ y) = sym (append_assoc u us (93 ∷ x)) ∙ e ∙ append_assoc v vs (93 ∷ y) in
    let first = outcome_same a b o p (us ++ 93 ∷ x) (vs ++ 93 ∷ y) whole in
    let more = further_same a b os ps x y first.1 in
    (λ i. first.0 i ++ more.0 i, more.1)
