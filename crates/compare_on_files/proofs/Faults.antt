-- Why no line tells an event.
use Rattle.std.proofs.Common.{◌≡◌, ◌∙◌, sym, ap, subst, ℕ, ◌+◌, ◌-◌, ◌<◌, ◌≤◌, Bool, true, false, cond, leb, List, [], ◌∷◌, drop, Some, Result, Ok, Err, arith}
use Rattle.timeline.specs.declared.source.Tap.{Tap}
use Rattle.line_stream.specs.Lines.{IsFetched, Reader, behind_line, first_line}
use Rattle.part_lines.specs.Facts.{facts_of}
use Rattle.part_lines.specs.declared.fault.LineFault.{LineFault}
use Rattle.part_lines.specs.declared.facts.LineFacts.{LineFacts}
use Rattle.part_lines.specs.declared.facts.LineFacts.TheVariants as facts
use Rattle.compare_on_files.specs.Events.{count_at, event_in}
use Rattle.compare_on_files.specs.Finding.{IsFound, IsPassed, Standing, StandsIn, step_by, step_of}
use Rattle.compare_on_files.specs.declared.events.fault.EventFault.{EventFault}
use Rattle.compare_on_files.specs.declared.events.fault.EventFault.TheVariants as faults
use Rattle.compare_on_files.specs.declared.events.telling.Step.{Step}
use Rattle.compare_on_files.proofs.Standing.{fault-behind, if-some, stands-on}
use Rattle.compare_on_files.proofs.Stepping.{same-fault}

-- a line has only these faults
abbrev IsOfLine : EventFault → Type 0
IsOfLine faults.Read = ⊥
IsOfLine faults.LongLine = ⊥
IsOfLine faults.Passed = ⊥
IsOfLine faults.Few = Unit {0}
IsOfLine (faults.Falls number) = Unit {0}
IsOfLine (faults.Line fault) = Unit {0}

of-facts : (tap : Tap) (last : ℕ) (f : Result LineFacts LineFault) (fault : EventFault) → step_of tap last f ≡ Err fault → IsOfLine fault
of-facts tap last (Ok (facts.Event number taps)) fault e = by_order (leb number last) e
  where
    by_order : (b : Bool) → cond {A = Result Step EventFault} b (Err (faults.Falls number)) (Ok (record { number = number; count = count_at tap taps })) ≡ Err fault → IsOfLine fault
    by_order true e = subst IsOfLine (same-fault (faults.Falls number) fault e) tt
    by_order false e = absurd cc
of-facts tap last (Ok facts.Cut) fault e = subst IsOfLine (same-fault faults.Few fault e) tt
of-facts tap last (Err f) fault e = subst IsOfLine (same-fault (faults.Line f) fault e) tt

of-line : (tap : Tap) (last : ℕ) (line : List ℕ) (fault : EventFault) → step_by tap last line ≡ Err fault → IsOfLine fault
of-line tap last [] fault e = subst IsOfLine (same-fault faults.Few fault e) tt
of-line tap last (c ∷ cs) fault e = of-facts tap last (facts_of (c ∷ cs)) fault e

passed-by : (text : List ℕ) (old new : Standing) (fault : EventFault) → IsOfLine fault → ((i : ℕ) → event_in old.tap (old.passed + old.count + i) text ≡ Err fault)
    → IsPassed text old new (Err fault)
passed-by text old new faults.Read none behind = absurd none
passed-by text old new faults.LongLine none behind = absurd none
passed-by text old new faults.Passed none behind = absurd none
passed-by text old new faults.Few of behind = behind
passed-by text old new (faults.Falls number) of behind = behind
passed-by text old new (faults.Line fault) of behind = behind

-- where the next line is at fault
pub passed-fault : (text : List ℕ) (old new : Standing) (fault : EventFault) (stand : StandsIn text old) → step_by old.tap old.number (first_line (drop stand.from text)) ≡ Err fault
    → IsPassed text old new (Err fault)
passed-fault text old new fault stand step =
    passed-by text old new fault (of-line old.tap old.number (first_line (drop stand.from text)) fault step) (fault-behind text old fault stand step)

-- the line that was lent is the first of what wasn't read
lent-line : (text : List ℕ) (old : Standing) (before after : Reader) (stand : StandsIn text old) → before.rest ≡ old.rest → IsFetched before after (Ok tt)
    → (after.line ≡ first_line (drop stand.from text)) × (after.rest ≡ Some (behind_line (drop stand.from text)))
lent-line text old before after stand same fetched =
    if-some (λ (t : List ℕ). (after.line ≡ first_line t) × (after.rest ≡ Some (behind_line t))) before.rest (drop stand.from text) (same ∙ stand.rest) fetched.1

-- where a line was lent that is at fault
pub stopped : (text : List ℕ) (old new : Standing) (before after : Reader) (line : List ℕ) (fault : EventFault) → StandsIn text old → before.rest ≡ old.rest
    → IsFetched before after (Ok tt) → line ≡ after.line → step_by old.tap old.number line ≡ Err fault → IsPassed text old new (Err fault)
stopped text old new before after line fault stand same fetched lent step =
    let first = lent-line text old before after stand same fetched in
    passed-fault text old new fault stand (ap (step_by old.tap old.number) (sym (lent ∙ first.0)) ∙ step)

-- and where it tells an event
pub went-on : (text : List ℕ) (old new : Standing) (before after : Reader) (line : List ℕ) (s : Step) → StandsIn text old → before.rest ≡ old.rest
    → IsFetched before after (Ok tt) → line ≡ after.line → step_by old.tap old.number line ≡ Ok s
    → new.tap ≡ old.tap → new.passed ≡ old.passed + old.count → new.number ≡ s.number → new.count ≡ s.count → new.rest ≡ after.rest → StandsIn text new
went-on text old new before after line s stand same fetched lent step tap passed number count rest =
    let first = lent-line text old before after stand same fetched in
    stands-on text old new s stand (ap (step_by old.tap old.number) (sym (lent ∙ first.0)) ∙ step) tap passed number count (rest ∙ first.1)

-- ---- one record

at-number : (text : List ℕ) (start now : Standing) (k : ℕ) (fault : EventFault) → now.tap ≡ start.tap → now.passed + now.count < k
    → ((i : ℕ) → event_in now.tap (now.passed + now.count + i) text ≡ Err fault) → event_in start.tap (k - 1) text ≡ Err fault
at-number text start now k fault tap far behind =
    let there : now.passed + now.count + (k - 1 - (now.passed + now.count)) ≡ k - 1 = omega (arith, far) in
    ap (λ (t : Tap). event_in t (k - 1) text) (sym tap) ∙ ap (λ (n : ℕ). event_in now.tap n text) (sym there) ∙ behind (k - 1 - (now.passed + now.count))

-- the record is one behind those of the event, and the next line is at fault
pub found-by : (text : List ℕ) (start now new : Standing) (k : ℕ) (fault : EventFault) → now.tap ≡ start.tap → now.passed + now.count < k → IsPassed text now new (Err fault)
    → IsFound text start k (Err fault)
found-by text start now new k faults.Read tap far none = tt
found-by text start now new k faults.LongLine tap far long = long
found-by text start now new k faults.Passed tap far none = absurd none
found-by text start now new k faults.Few tap far behind = at-number text start now k faults.Few tap far behind
found-by text start now new k (faults.Falls number) tap far behind = at-number text start now k (faults.Falls number) tap far behind
found-by text start now new k (faults.Line fault) tap far behind = at-number text start now k (faults.Line fault) tap far behind

-- the record is one of the event
pub found-here : (text : List ℕ) (start now : Standing) (k : ℕ) → now.tap ≡ start.tap → now.passed < k → k ≤ now.passed + now.count → StandsIn text now
    → IsFound text start k (Ok now.number)
found-here text start now k tap behind inside stand =
    let there : now.passed + (k - 1 - now.passed) ≡ k - 1 = omega (arith, behind) in
    ap (λ (t : Tap). event_in t (k - 1) text) (sym tap) ∙ ap (λ (n : ℕ). event_in now.tap n text) (sym there)
    ∙ stand.here (k - 1 - now.passed) (omega (arith, behind, inside))
