-- What the calls answer, by what the code finds next.
use Rattle.std.proofs.Common.{◌≡◌, ◌≢◌, ◌∙◌, refl, sym, ap, subst, ℕ, false, List, [], ◌∷◌, length, arith, Option, Some, None, Result}
use Rattle.std.specs.Prelude.{⊤, IfOk, IfSome}
use Rattle.std.specs.Iterator.{MakesProgress, YieldsFirst, YieldsThen, item_count}
use Rattle.pcap.specs.Next.{End, Whole, Cut, Faulty, next_of}
use Rattle.pcap.specs.Record.{IsWithinLimits, Record}
use Rattle.pcap.specs.Calls.{answers, ends_cut, HasTaken, is_cut, IsNext, left_after, left_by, next_answer, next_by}
use Rattle.pcap.specs.Reading.{Reading, reading_by, records}
use Rattle.pcap.specs.Seen.{next_seen}
use Rattle.pcap.specs.declared.text.record.Next.{Next as Found}
use Rattle.pcap.specs.declared.text.record.Next.TheVariants as found
use Rattle.pcap.specs.declared.text.record.RecordFault.{RecordFault}
use Rattle.pcap.specs.declared.text.style.Style.{Style}
use Rattle.pcap.proofs.Readings.{records-next}

-- what is left of a capture, by what the code finds next
pub left_found : (style : Style) (text : List ℕ) (result found : Found) (now : Reading) → next_seen result ≡ next_of style text → result ≡ found → records style text ≡ now → now ≡ reading_by (records style) (next_seen found)
left_found style text result found now next is view =
    sym view ∙ records-next style text ∙ ap (reading_by (records style)) (sym next ∙ ap next_seen is)

-- what the code finds is no cut rest
pub not_cut : (style : Style) (text : List ℕ) (result : Found) (now : Reading) → next_seen result ≡ next_of style text → result ≢ found.Cut → records style text ≡ now → false ≡ is_cut now
not_cut style text result now next other view = by_found result refl
  where
    by_found : (found : Found) → result ≡ found → false ≡ is_cut now
    by_found found.Cut is = absurd (other is)
    by_found (found.Another r rest) is = sym (ap is_cut (left_found style text result (found.Another r rest) now next is view))
    by_found found.Whole is = sym (ap is_cut (left_found style text result found.Whole now next is view))
    by_found (found.Faulty fault) is = sym (ap is_cut (left_found style text result (found.Faulty fault) now next is view))

turn_by : (rs : List Record) (end : End) → YieldsFirst answers (record { records = rs; end = end }) (next_by rs end) (left_by rs end)
turn_by (r ∷ rs) end = refl
turn_by [] Whole = (refl, refl)
turn_by [] Cut = (refl, refl)
turn_by [] (Faulty fault) = refl

-- all that is handed out comes in turn
in_turn : (old new : Reading) (answer : Option (Result Record RecordFault)) → answer ≡ next_answer old → new ≡ left_after old → YieldsFirst answers old answer new
in_turn old new answer gives leaves = rw (gives, leaves) (turn_by old.records old.end)

-- a call of `next`, by what the code finds next and by what it answers and leaves then
pub IsNext-found : (style : Style) (text : List ℕ) (result found : Found) (old new : Reading) (answer : Option (Result Record RecordFault))
    → next_seen result ≡ next_of style text → result ≡ found → records style text ≡ old
    → answer ≡ next_answer (reading_by (records style) (next_seen found)) → new ≡ left_after (reading_by (records style) (next_seen found))
    → IfSome answer (λ found. IfOk found IsWithinLimits) → IsNext old answer new
IsNext-found style text result found old new answer next is view gives leaves limits =
    let e = left_found style text result found old next is view in
    let given : answer ≡ next_answer old = gives ∙ sym (ap next_answer e) in
    let left : new ≡ left_after old = leaves ∙ sym (ap left_after e) in
    record { gives = given; leaves = left; in_turn = in_turn old new answer given left; limits = limits }

-- the same where nothing changes
pub IsNext-ended : (style : Style) (text : List ℕ) (result found : Found) (old : Reading)
    → next_seen result ≡ next_of style text → result ≡ found → records style text ≡ old
    → None ≡ next_answer (reading_by (records style) (next_seen found)) → reading_by (records style) (next_seen found) ≡ left_after (reading_by (records style) (next_seen found))
    → IsNext old None old
IsNext-ended style text result found old next is view gives leaves =
    IsNext-found style text result found old old None next is view gives (left_found style text result found old next is view ∙ leaves) tt

-- each answer leaves one less
pub goes : (old new : Reading) (answer : Option (Result Record RecordFault)) → YieldsFirst answers old answer new → MakesProgress (λ _. ⊤) (item_count answers) old answer new
goes old new (Some found) turn = let fewer = ap length turn in record { on = λ _. (tt, tt, omega arith); keeps = tt; rests = λ _. tt }
goes old new None turn = record { on = λ _. tt; keeps = tt; rests = λ _. tt }

-- ---- all that is handed out

taken_in : (taken : List (Result Record RecordFault)) (old now : Reading) → YieldsThen IsNext old taken None now → HasTaken old taken now
taken_in [] old now run =
    let here : old ≡ run.0 = run.1 in
    let last : IsNext old None now = subst (λ r. IsNext r None now) (sym here) run.2 in
    record { all = sym last.in_turn.0; end = ended old.records old.end now last.gives last.leaves; nothing_left = last.in_turn.1 }
  where
    ended : (rs : List Record) (end : End) (now : Reading) → None ≡ next_by rs end → now ≡ left_by rs end → is_cut now ≡ ends_cut end
    ended (r ∷ rs) end now gives leaves = absurd cc
    ended [] Whole now gives leaves = ap is_cut leaves
    ended [] Cut now gives leaves = ap is_cut leaves
    ended [] (Faulty fault) now gives leaves = absurd cc
taken_in (x ∷ xs) old now run =
    let left = run.1.0 in
    let first : IsNext old (Some x) left = run.1.1 in
    let later = taken_in xs left now (run.0, run.1.2, run.2) in
    record {
      all = ap (λ taken. x ∷ taken) later.all ∙ sym first.in_turn;
      end = later.end ∙ ap (λ (r : Reading). ends_cut r.end) first.leaves ∙ same_end old.records old.end;
      nothing_left = later.nothing_left;
    }
  where
    same_end : (rs : List Record) (end : End) → ends_cut (left_by rs end).end ≡ ends_cut end
    same_end (r ∷ rs) end = refl
    same_end [] Whole = refl
    same_end [] Cut = refl
    same_end [] (Faulty fault) = refl

pub takes_all_in_turn : (old now : Reading) (taken : List (Result Record RecordFault)) → YieldsThen IsNext old taken None now → HasTaken old taken now
takes_all_in_turn old now taken run = taken_in taken old now run
