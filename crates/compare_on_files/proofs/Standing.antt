-- Where it stands in a text, once a line was read.
use Rattle.std.proofs.Common.{◌≡◌, ◌∙◌, sym, ap, subst, ℕ, ◌+◌, List, length, drop, Option, Some, Ok, Err, arith}
use Rattle.std.proofs.lemmas.List.{drop-drop}
use Rattle.std.specs.Prelude.{IfSome}
use Rattle.timeline.specs.declared.source.Tap.{Tap}
use Rattle.line_stream.specs.Lines.{behind_line, first_line}
use Rattle.compare_on_files.specs.Events.{event_at, event_in, lines, told}
use Rattle.compare_on_files.specs.Finding.{Standing, StandsIn, step_by}
use Rattle.compare_on_files.specs.declared.events.fault.EventFault.{EventFault}
use Rattle.compare_on_files.specs.declared.events.telling.Step.{Step}
use Rattle.compare_on_files.proofs.Splits.{behind_is_rest}
use Rattle.compare_on_files.proofs.Stepping.{IsStep, fault-told, step-told}

pub if-some : {A : Type 0} (P : A → Type 0) (o : Option A) (x : A) → o ≡ Some x → IfSome o P → P x
if-some P o x e holds = subst (λ (o : Option _). IfSome o P) e holds

pub begins-so : (text : List ℕ) (e : Standing) → e.passed ≡ 0 → e.number ≡ 0 → e.count ≡ 0 → e.rest ≡ Some text → StandsIn text e
begins-so text e none number count rest = record {
  from = 0;
  rest = rest;
  here = λ i inside. absurd (omega (arith, inside, count));
  behind = λ i.
      ap (λ (k : ℕ). event_in e.tap k text) (omega (arith, none, count))
      ∙ ap (λ (k : ℕ). event_at e.tap i (told k (lines text))) (sym number);
}

-- a line more was read
pub stands-on : (text : List ℕ) (old new : Standing) (s : Step) (stand : StandsIn text old) → step_by old.tap old.number (first_line (drop stand.from text)) ≡ Ok s
    → new.tap ≡ old.tap → new.passed ≡ old.passed + old.count → new.number ≡ s.number → new.count ≡ s.count
    → new.rest ≡ Some (behind_line (drop stand.from text)) → StandsIn text new
stands-on text old new s stand step tap passed number count rest = record {
  from = stand.from + length (first_line left);
  rest = rest ∙ ap (λ (l : List ℕ). Some l) moved;
  here = λ i inside.
      ap₃ new.tap old.tap (new.passed + i) (old.passed + old.count + i) tap (omega (arith, passed))
      ∙ stand.behind i ∙ told-by.here i (omega (arith, inside, count)) ∙ ap (λ (n : ℕ). Ok n) (sym number);
  behind = λ i.
      ap₃ new.tap old.tap (new.passed + new.count + i) (old.passed + old.count + (s.count + i)) tap (omega (arith, passed, count))
      ∙ stand.behind (s.count + i) ∙ told-by.behind i
      ∙ ap (λ (t : Tap). event_at t i (told s.number (lines (behind_line left)))) (sym tap)
      ∙ ap (λ (n : ℕ). event_at new.tap i (told n (lines (behind_line left)))) (sym number)
      ∙ ap (λ (l : List ℕ). event_at new.tap i (told new.number (lines l))) moved;
}
  where
    left : List ℕ
    left = drop stand.from text

    moved : behind_line left ≡ drop (stand.from + length (first_line left)) text
    moved = behind_is_rest left ∙ drop-drop (length (first_line left)) stand.from text

    told-by : IsStep old.tap old.number s (told old.number (lines left)) (told s.number (lines (behind_line left)))
    told-by = step-told old.tap old.number left s step

    ap₃ : (t u : Tap) (j k : ℕ) → t ≡ u → j ≡ k → event_in t j text ≡ event_in u k text
    ap₃ t u j k e f = cc

-- the records behind those of the event have none, where the next line is at fault
pub fault-behind : (text : List ℕ) (old : Standing) (fault : EventFault) (stand : StandsIn text old) → step_by old.tap old.number (first_line (drop stand.from text)) ≡ Err fault
    → (i : ℕ) → event_in old.tap (old.passed + old.count + i) text ≡ Err fault
fault-behind text old fault stand step i = stand.behind i ∙ fault-told old.tap i old.number (drop stand.from text) fault step
