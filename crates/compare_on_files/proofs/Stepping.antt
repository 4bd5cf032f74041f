-- What a line tells of the records of a place, and of all behind it.
use Rattle.std.proofs.Common.{◌≡◌, ◌∙◌, refl, sym, ap, subst, ℕ, zero, suc, ◌+◌, ◌<◌, Bool, true, false, cond, eqb, leb, List, [], ◌∷◌, Option, Result, Ok, Err}
use Rattle.std.proofs.lemmas.Bool.{leb-false}
use Rattle.timeline.specs.declared.source.Tap.{Tap}
use Rattle.line_stream.specs.Lines.{behind_line, first_line}
use Rattle.part_lines.specs.Facts.{facts_of}
use Rattle.part_lines.specs.declared.fault.LineFault.{LineFault}
use Rattle.part_lines.specs.declared.facts.LineFacts.{LineFacts}
use Rattle.part_lines.specs.declared.facts.LineFacts.TheVariants as facts
use Rattle.compare_on_files.specs.Events.{Told, count_at, event_at, events_at, lines, none_for, or_fault, put_before, told, told_by}
use Rattle.compare_on_files.specs.Finding.{step_by, step_of}
use Rattle.compare_on_files.specs.declared.events.fault.EventFault.{EventFault}
use Rattle.compare_on_files.specs.declared.events.fault.EventFault.TheVariants as faults
use Rattle.compare_on_files.specs.declared.events.telling.Step.{Step}
use Rattle.compare_on_files.proofs.Splits.{get_behind, get_here, lines_split}

pub same-fault : (a b : EventFault) → ◌≡◌ {A = Result Step EventFault} (Err a) (Err b) → a ≡ b
same-fault a b e = cc

same-step : (a b : Step) → ◌≡◌ {A = Result Step EventFault} (Ok a) (Ok b) → a ≡ b
same-step a b e = cc

none-at : (tap : Tap) (i : ℕ) (fault : EventFault) → event_at tap i (none_for fault) ≡ Err fault
none-at tap zero fault = refl
none-at tap (suc i) fault = refl

-- ---- by the facts of a line

fault-by : (tap : Tap) (i last : ℕ) (f : Result LineFacts LineFault) (others : ℕ → Told) (fault : EventFault)
    → step_of tap last f ≡ Err fault → event_at tap i (told_by last f others) ≡ Err fault
fault-by tap i last (Ok (facts.Event number taps)) others fault e = by_order (leb number last) e
  where
    by_order : (b : Bool) → cond {A = Result Step EventFault} b (Err (faults.Falls number)) (Ok (record { number = number; count = count_at tap taps })) ≡ Err fault
        → event_at tap i (cond b (none_for (faults.Falls number)) (put_before number taps (others number))) ≡ Err fault
    by_order true e = none-at tap i (faults.Falls number) ∙ ap (λ (f : EventFault). Err f) (same-fault (faults.Falls number) fault e)
    by_order false e = absurd cc
fault-by tap i last (Ok facts.Cut) others fault e = none-at tap i faults.Few ∙ ap (λ (f : EventFault). Err f) (same-fault faults.Few fault e)
fault-by tap i last (Err f) others fault e = none-at tap i (faults.Line f) ∙ ap (λ (f : EventFault). Err f) (same-fault (faults.Line f) fault e)

-- the event of a step, whose records stand in front of those of the others
pub record IsStep (tap : Tap) (last : ℕ) (s : Step) (t others : Told) : Type 0 where
  pub later : last < s.number
  pub here : (i : ℕ) → i < s.count → event_at tap i t ≡ Ok s.number
  pub behind : (i : ℕ) → event_at tap (s.count + i) t ≡ event_at tap i others

put-step : (tap : Tap) (last number : ℕ) (taps : List Tap) (others : Told) → last < number
    → IsStep tap last (record { number = number; count = count_at tap taps }) (put_before number taps others) others
put-step tap last number taps others later = record {
  later = later;
  here = λ i inside. ap (λ (o : Option ℕ). or_fault o others.end) (get_here (count_at tap taps) i number (events_at tap others.events) inside);
  behind = λ i. ap (λ (o : Option ℕ). or_fault o others.end) (get_behind (count_at tap taps) i number (events_at tap others.events));
}

step-by : (tap : Tap) (last : ℕ) (f : Result LineFacts LineFault) (others : ℕ → Told) (s : Step)
    → step_of tap last f ≡ Ok s → IsStep tap last s (told_by last f others) (others s.number)
step-by tap last (Ok (facts.Event number taps)) others s e = by_order (leb number last) (λ none. leb-false number last none) e
  where
    by_order : (b : Bool) → (b ≡ false → last < number)
        → cond {A = Result Step EventFault} b (Err (faults.Falls number)) (Ok (record { number = number; count = count_at tap taps })) ≡ Ok s
        → IsStep tap last s (cond b (none_for (faults.Falls number)) (put_before number taps (others number))) (others s.number)
    by_order true later e = absurd cc
    by_order false later e =
        subst (λ (x : Step). IsStep tap last x (put_before number taps (others number)) (others x.number)) (same-step _ s e)
        (put-step tap last number taps (others number) (later refl))
step-by tap last (Ok facts.Cut) others s e = absurd cc
step-by tap last (Err f) others s e = absurd cc

-- ---- by the line

first-begins : (c : ℕ) (cs : List ℕ) → first_line (c ∷ cs) ≡ c ∷ cond (eqb c 10) [] (first_line cs)
first-begins c cs = by_end (eqb c 10)
  where
    by_end : (b : Bool) → cond b (c ∷ []) (c ∷ first_line cs) ≡ c ∷ cond b [] (first_line cs)
    by_end true = refl
    by_end false = refl

facts-first : (tap : Tap) (last c : ℕ) (cs : List ℕ) → step_by tap last (first_line (c ∷ cs)) ≡ step_of tap last (facts_of (first_line (c ∷ cs)))
facts-first tap last c cs =
    ap (step_by tap last) (first-begins c cs) ∙ ap (λ (l : List ℕ). step_of tap last (facts_of l)) (sym (first-begins c cs))

pub fault-told : (tap : Tap) (i last : ℕ) (text : List ℕ) (fault : EventFault) → step_by tap last (first_line text) ≡ Err fault
    → event_at tap i (told last (lines text)) ≡ Err fault
fault-told tap i last [] fault e = none-at tap i faults.Few ∙ ap (λ (f : EventFault). Err f) (same-fault faults.Few fault e)
fault-told tap i last (c ∷ cs) fault e =
    ap (λ (ls : List (List ℕ)). event_at tap i (told last ls)) (lines_split c cs)
    ∙ fault-by tap i last (facts_of (first_line (c ∷ cs))) (λ number. told number (lines (behind_line (c ∷ cs)))) fault (sym (facts-first tap last c cs) ∙ e)

pub step-told : (tap : Tap) (last : ℕ) (text : List ℕ) (s : Step) → step_by tap last (first_line text) ≡ Ok s
    → IsStep tap last s (told last (lines text)) (told s.number (lines (behind_line text)))
step-told tap last [] s e = absurd cc
step-told tap last (c ∷ cs) s e =
    subst (λ (ls : List (List ℕ)). IsStep tap last s (told last ls) (told s.number (lines (behind_line (c ∷ cs))))) (sym (lines_split c cs))
    (step-by tap last (facts_of (first_line (c ∷ cs))) (λ number. told number (lines (behind_line (c ∷ cs)))) s (sym (facts-first tap last c cs) ∙ e))
