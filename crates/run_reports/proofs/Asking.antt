-- Names that are looked at one after another.
use Rattle.std.proofs.Common.{◌≡◌, ◌∙◌, ap, sym, refl, ℕ, zero, suc, ◌<◌, Bool, false, ◌||◌, List, [], ◌∷◌, length, slice_index_or, arith}
use Rattle.std.proofs.lemmas.List.{ext_get_or}
use Rattle.timeline.specs.declared.event.Event.{Event}
use Rattle.run_reports.specs.Name.{is_named}
use Rattle.run_reports.specs.Report.{found_behind}

-- ---- which of the names an event had

length_behind : (n : ℕ) (e : Event) (names : List (List ℕ)) (found : List Bool) → length found ≡ length names → length (found_behind n e names found) ≡ length found
length_behind n e [] [] same = refl
length_behind n e [] (b ∷ bs) same = absurd (omega (arith, same))
length_behind n e (name ∷ names) [] same = absurd (omega (arith, same))
length_behind n e (name ∷ names) (b ∷ bs) same = ap (λ k. suc k) (length_behind n e names bs (omega (arith, same)))

at_behind : (n : ℕ) (e : Event) (names : List (List ℕ)) (found : List Bool) (k : ℕ) (d : List ℕ) (b : Bool) → length found ≡ length names → k < length names
    → slice_index_or (found_behind n e names found) k b ≡ (is_named (slice_index_or names k d) n e || slice_index_or found k b)
at_behind n e [] found k d b same l = absurd (omega arith)
at_behind n e (name ∷ names) [] k d b same l = absurd (omega (arith, same))
at_behind n e (name ∷ names) (c ∷ bs) zero d b same l = refl
at_behind n e (name ∷ names) (c ∷ bs) (suc k) d b same l = at_behind n e names bs k d b (omega (arith, same)) (omega arith)

-- where it is so of each
pub found_all : (n : ℕ) (e : Event) (names : List (List ℕ)) (old new : List Bool) → length old ≡ length names → length new ≡ length names
    → ((k : ℕ) (d : List ℕ) (b : Bool) → k < length names → slice_index_or new k b ≡ (is_named (slice_index_or names k d) n e || slice_index_or old k b))
    → new ≡ found_behind n e names old
found_all n e names old new same many each =
    ext_get_or false new (found_behind n e names old) (omega (arith, many, same, length_behind n e names old same))
    (λ k l. each k [] false (omega (arith, many)) ∙ sym (at_behind n e names old k [] false same (omega (arith, many))))
