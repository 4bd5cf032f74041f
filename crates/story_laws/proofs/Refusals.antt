-- What is told of a table of tests refuses as the first test that holds, where the fact of each test does.
use Rattle.std.proofs.Common.{◌≡◌, ◌∙◌, refl, sym, ap, ℕ, ◌==◌, Bool, true, false, cond, not, ◌&&◌, ◌||◌, List, [], ◌∷◌, ◌++◌, map, Option, Some, None, Result, Ok, Err, option_to_list}
use Rattle.std.specs.List.{list_any}
use Rattle.std.specs.Option.{option_map_or}
use Rattle.std.proofs.lemmas.Bool.{eq-eqb, eqb-true, false≢true, or_right, and_parts, not-true}
use Rattle.wire.specs.First.{first, unless}
use Rattle.wire.specs.Reason.{number_of}
use Rattle.wire.specs.declared.ether.reason.Reason.{Reason}
use Rattle.wire.specs.declared.ether.reason.Refused.{Refused}
use Rattle.endpoint_core.specs.Arrival.{Arrival}
use Rattle.event_story.specs.Tests.{refusal_of, refuses, told}
use Rattle.event_story.specs.declared.fact.Fact.{Fact}
use Rattle.story_laws.specs.Refusing.{NoneRefuses, LastRefuses, RefusesAs}

-- a fact is told, and refuses
abbrev pub tells : (Fact → Bool) → Option Fact → Bool
tells R o = option_map_or R o false

-- up to the test that refuses, each one's fact refuses just where the test does
abbrev pub Agree : (Fact → Bool) → (Reason → Option Fact) → Option Reason → List Reason → Type 0
Agree R saw refusal [] = refusal ≡ None
Agree R saw refusal (t ∷ ts) = (tells R (saw t) ≡ refuses refusal t) × (refuses refusal t ≡ false → Agree R saw refusal ts)

-- ---- from the tests to the facts

none-front : (R : Fact → Bool) (o : Option Fact) (fs : List Fact) → tells R o ≡ false → NoneRefuses R fs → NoneRefuses R (option_to_list o ++ fs)
none-front R None fs quiet rest = rest
none-front R (Some f) fs quiet rest = (quiet, rest)

none-told : (R : Fact → Bool) (saw : Reason → Option Fact) (ts : List Reason) → Agree R saw None ts → NoneRefuses R (told saw None ts)
none-told R saw [] h = tt
none-told R saw (t ∷ ts) h = none-front R (saw t) (told saw None ts) h.0 (none-told R saw ts (h.1 refl))

last-front : (R : Fact → Bool) (o : Option Fact) (here : Bool) (fs : List Fact) → tells R o ≡ here → (here ≡ false → LastRefuses R fs) → LastRefuses R (option_to_list o ++ cond here [] fs)
last-front R None true fs is rest = absurd (false≢true is)
last-front R (Some f) true fs is rest = record { before = []; last = f; facts_are = refl; none_before = tt; last_refuses = is }
last-front R None false fs is rest = rest refl
last-front R (Some f) false fs is rest =
    let behind = rest refl in
    record {
      before = f ∷ behind.before;
      last = behind.last;
      facts_are = ap (λ (l : List Fact). f ∷ l) behind.facts_are;
      none_before = (is, behind.none_before);
      last_refuses = behind.last_refuses;
    }

last-told : (R : Fact → Bool) (saw : Reason → Option Fact) (r : Reason) (ts : List Reason) → Agree R saw (Some r) ts → LastRefuses R (told saw (Some r) ts)
last-told R saw r [] h = absurd cc
last-told R saw r (t ∷ ts) h = last-front R (saw t) (number_of r == number_of t) (told saw (Some r) ts) h.0 (λ fails. last-told R saw r ts (h.1 fails))

pub told-as : (R : Fact → Bool) (saw : Reason → Option Fact) (came : Result Arrival Refused) (ts : List Reason) → Agree R saw (refusal_of came) ts → RefusesAs R came (told saw (refusal_of came) ts)
told-as R saw (Ok x) ts h = none-told R saw ts h
told-as R saw (Err refused) ts h = last-told R saw refused.reason ts h

-- ---- one test more

-- a refusal is for one of these reasons, where there is one
abbrev pub among : Option Reason → List Reason → Bool
among None ts = true
among (Some r) ts = list_any (λ t. number_of r == number_of t) ts

-- a reason is none of these
abbrev pub is_apart : Reason → List Reason → Bool
is_apart t ts = not (list_any (λ u. number_of t == number_of u) ts)

-- no two of them are the same
abbrev pub are_apart : List Reason → Bool
are_apart [] = true
are_apart (t ∷ ts) = is_apart t ts && are_apart ts

-- the facts of these tests refuse as they do, and there is no other refusal
pub record Good (R : Fact → Bool) (saw : Result Arrival Refused → Reason → Option Fact) (came : Result Arrival Refused) (ts : List Reason) : Type 0 where
  pub agree : Agree R (saw came) (refusal_of came) ts
  pub among : among (refusal_of came) ts ≡ true

other-reason : (refusal : Option Reason) (t : Reason) (ts : List Reason) → among refusal ts ≡ true → is_apart t ts ≡ true → refuses refusal t ≡ false
other-reason None t ts among apart = refl
other-reason (Some r) t ts among apart = by (number_of r == number_of t) refl
  where
    by : (q : Bool) → (number_of r == number_of t) ≡ q → q ≡ false
    by false is = refl
    by true is =
        let same = ap (λ (n : ℕ). list_any (λ u. n == number_of u) ts) (eqb-true (number_of r) (number_of t) is) in
        absurd (false≢true (sym (not-true (list_any (λ u. number_of t == number_of u) ts) apart) ∙ sym same ∙ among))

among-more : (refusal : Option Reason) (t : Reason) (ts : List Reason) → among refusal ts ≡ true → among refusal (t ∷ ts) ≡ true
among-more None t ts h = refl
among-more (Some r) t ts h = or_right (number_of r == number_of t) (list_any (λ u. number_of r == number_of u) ts) h

-- a test that doesn't refuse
pub pass : (R : Fact → Bool) (saw : Result Arrival Refused → Reason → Option Fact) (came : Result Arrival Refused) (t : Reason) (ts : List Reason)
    → is_apart t ts ≡ true → (refuses (refusal_of came) t ≡ false → tells R (saw came t) ≡ false) → Good R saw came ts → Good R saw came (t ∷ ts)
pass R saw came t ts apart quiet rest =
    let fails = other-reason (refusal_of came) t ts rest.among apart in
    record { agree = (quiet fails ∙ sym fails, λ _. rest.agree); among = among-more (refusal_of came) t ts rest.among }

-- one that does
pub stop : (R : Fact → Bool) (saw : Result Arrival Refused → Reason → Option Fact) (refused : Refused) (ts : List Reason)
    → tells R (saw (Err refused) refused.reason) ≡ true → Good R saw (Err refused) (refused.reason ∷ ts)
stop R saw refused ts loud =
    let same = eq-eqb (number_of refused.reason) (number_of refused.reason) refl in
    record {
      agree = (loud ∙ sym same, λ fails. absurd (false≢true (sym fails ∙ same)));
      among = ap (λ (q : Bool). q || list_any (λ u. number_of refused.reason == number_of u) ts) same;
    }

-- ---- a table of reasons

-- the reasons of a table
abbrev pub reasons_of : List (Refused × Bool) → List Reason
reasons_of rows = map (λ (row : Refused × Bool). row.0.reason) rows

-- the fact of each row refuses as its test does; behind them others do
abbrev pub Rows : (Fact → Bool) → (Result Arrival Refused → Reason → Option Fact) → List (Refused × Bool) → Result Arrival Refused → List Reason → Type 0
Rows R saw [] rest ts = Good R saw rest ts
Rows R saw (row ∷ rows) rest ts =
    (row.1 ≡ true → tells R (saw (Err row.0) row.0.reason) ≡ true)
    × (
    row.1 ≡ false
    → (refuses (refusal_of (unless (first rows) rest)) row.0.reason ≡ false → tells R (saw (unless (first rows) rest) row.0.reason) ≡ false)
    × Rows R saw rows rest ts
    )

pub rows-good : (R : Fact → Bool) (saw : Result Arrival Refused → Reason → Option Fact) (rows : List (Refused × Bool)) (rest : Result Arrival Refused) (ts : List Reason)
    → are_apart (reasons_of rows ++ ts) ≡ true → Rows R saw rows rest ts → Good R saw (unless (first rows) rest) (reasons_of rows ++ ts)
rows-good R saw [] rest ts apart h = h
rows-good R saw (row ∷ rows) rest ts apart h = by (λ later. rows-good R saw rows rest ts parts.1 later) row.1 refl
  where
    parts : (is_apart row.0.reason (reasons_of rows ++ ts) ≡ true) × (are_apart (reasons_of rows ++ ts) ≡ true)
    parts = and_parts (is_apart row.0.reason (reasons_of rows ++ ts)) (are_apart (reasons_of rows ++ ts)) apart

    by : (Rows R saw rows rest ts → Good R saw (unless (first rows) rest) (reasons_of rows ++ ts)) → (q : Bool) → row.1 ≡ q → Good R saw (unless (cond q (Some row.0) (first rows)) rest) (row.0.reason ∷ reasons_of rows ++ ts)
    by good true is = stop R saw row.0 (reasons_of rows ++ ts) (h.0 is)
    by good false is =
        let behind = h.1 is in
        pass R saw (unless (first rows) rest) row.0.reason (reasons_of rows ++ ts) parts.0 behind.0 (good behind.1)

-- two tables, one behind the other
pub unless-append : (rows others : List (Refused × Bool)) (rest : Result Arrival Refused) → unless (first rows) (unless (first others) rest) ≡ unless (first (rows ++ others)) rest
unless-append [] others rest = refl
unless-append (row ∷ rows) others rest = by (unless-append rows others rest) row.1
  where
    by : unless (first rows) (unless (first others) rest) ≡ unless (first (rows ++ others)) rest → (q : Bool)
        → unless (cond q (Some row.0) (first rows)) (unless (first others) rest) ≡ unless (cond q (Some row.0) (first (rows ++ others))) rest
    by later true = refl
    by later false = later
