-- How often an output in blocks hands on what it holds.
use Rattle.std.proofs.Common.{◌≡◌, ◌∙◌, refl, ap, subst, ℕ, ◌+◌, ◌-◌, ◌*◌, ◌≤◌, nat_le, nat_lt, Bool, true, false, not, ◌&&◌, if◌then◌else◌, MatchBool, List, [], ◌∷◌, ◌++◌, length, length-append, arith, mul-zero, mul-one, mul-add}
use Rattle.std.proofs.lemmas.Bool.{leb-true, leb-false}
use Rattle.std.specs.Io.KnownBytes.{Appends}
use Rattle.pcap.specs.Block.{Block, HoldsBack, may_hold, must_hand_on}
use Rattle.stream_run.specs.HandedOn.{AreSteps, AsksSeldom, GoesOnOnlyThen, HandsOnSeldom, IsHanded, Step, Waits, Wants, Write, asks, hand_overs, octets, wants}

-- ---- one call

written_by : (old new : Block) (text : List ℕ) (b c : Bool) → may_hold old (length text) ≡ b → nat_le (length text) old.size ≡ c
    → MatchBool b ((new.written ≡ old.written) × (new.held ≡ old.held ++ text)) (MatchBool c (Appends old.written new.written old.held × (new.held ≡ text)) (Appends old.written new.written (old.held ++ text) × (new.held ≡ [])))
    → old.size * (if b then 0 else if c then 1 else 2) + length new.held ≤ 2 * length text + length old.held
written_by old new text true c is fits h = omega (arith, mul-zero old.size, ap length h.1, length-append old.held text)
written_by old new text false true is fits h = omega (arith, mul-one old.size, ap length h.1, leb-false _ _ is)
written_by old new text false false is fits h = omega (arith, ap length h.1, leb-false _ _ fits)

one_seldom : (old next : Block) (text : List ℕ) → HoldsBack (length text) old next text → old.size * hand_overs old (Write text) + length next.held ≤ 2 * length text + length old.held
one_seldom old next text h = written_by old next text (may_hold old (length text)) (nat_le (length text) old.size) refl refl h

-- ---- calls one behind another

two_parts : (size size_next a count rest held_next held_new held_old one_octets rest_octets one_asks rest_asks : ℕ) → size_next ≡ size → count ≡ a + rest
    → size * a + held_next ≤ 2 * one_octets + size * one_asks + held_old → size_next * rest + held_new ≤ 2 * rest_octets + size_next * rest_asks + held_next
    → size * count + held_new ≤ 2 * (one_octets + rest_octets) + size * (one_asks + rest_asks) + held_old
two_parts size size_next a count rest held_next held_new held_old one_octets rest_octets one_asks rest_asks same is one behind =
    let behind_here = subst (λ z. z * rest + held_new ≤ 2 * rest_octets + z * rest_asks + held_next) same behind in
    omega (arith, ap (λ n. size * n) is, mul-add size a rest, mul-add size one_asks rest_asks, one, behind_here)

asked : (old next new : Block) (ss : List Step) (count rest : ℕ) → IsHanded old next → count ≡ 1 + rest → next.size * rest + length new.held ≤ 2 * octets ss + next.size * asks ss + length next.held
    → old.size * count + length new.held ≤ 2 * octets ss + old.size * (1 + asks ss) + length old.held
asked old next new ss count rest handed is behind =
    let none : 0 + octets ss ≡ octets ss = omega arith in
    subst (λ n. old.size * count + length new.held ≤ 2 * n + old.size * (1 + asks ss) + length old.held) none
    (two_parts old.size next.size 1 count rest (length next.held) (length new.held) (length old.held) 0 (octets ss) 1 (asks ss) handed.size is (omega (arith, mul-one old.size, ap length handed.out)) behind)

seldom : (old new : Block) (steps : List Step) (count : ℕ) → AreSteps old steps count new → old.size * count + length new.held ≤ 2 * octets steps + old.size * asks steps + length old.held
seldom old new [] count (none, same) = omega (arith, ap (λ n. old.size * n) none, mul-zero old.size, ap (λ (b : Block). length b.held) same)
seldom old new (Write text ∷ ss) count (next, rest, step, is, behind) =
    let none : 0 + asks ss ≡ asks ss = omega arith in
    subst (λ n. old.size * count + length new.held ≤ 2 * (length text + octets ss) + old.size * n + length old.held) none
    (two_parts old.size next.size (hand_overs old (Write text)) count rest (length next.held) (length new.held) (length old.held) (length text) (octets ss) 0 (asks ss) step.0 is
    (omega (arith, mul-zero old.size, one_seldom old next text step.1)) (seldom next new ss rest behind))
seldom old new (Waits ∷ ss) count (next, rest, step, is, behind) =
    asked old next new ss count rest step is (seldom next new ss rest behind)
seldom old new (Wants more ∷ ss) count (next, rest, step, is, behind) =
    asked old next new ss count rest step.0 is (seldom next new ss rest behind)

pub hands_on_seldom : HandsOnSeldom
hands_on_seldom old new steps count are none = omega (arith, seldom old new steps count are, ap length none)

-- ---- for want of room

level_by : (old new : Block) (text : List ℕ) (b c : Bool)
    → MatchBool b ((new.written ≡ old.written) × (new.held ≡ old.held ++ text)) (MatchBool c (Appends old.written new.written old.held × (new.held ≡ text)) (Appends old.written new.written (old.held ++ text) × (new.held ≡ [])))
    → length new.held ≤ length text + length old.held
level_by old new text true c h = omega (arith, ap length h.1, length-append old.held text)
level_by old new text false true h = omega (arith, ap length h.1)
level_by old new text false false h = omega (arith, ap length h.1)

full : (old : Block) (more most : ℕ) → must_hand_on old more ≡ true → more ≤ most → old.size - most ≤ length old.held
full old more most must few = by (may_hold old more) refl must
  where
    by : (b : Bool) → may_hold old more ≡ b → (not b && nat_lt 0 (length old.held)) ≡ true → old.size - most ≤ length old.held
    by true is never = absurd cc
    by false is h = omega (arith, leb-false _ _ is, few)

wanting : (old new : Block) (steps : List Step) (count most : ℕ) → AreSteps old steps count new → (old.size - most) * wants most steps + length new.held ≤ octets steps + length old.held
wanting old new [] count most (none, same) = omega (arith, mul-zero (old.size - most), ap (λ (b : Block). length b.held) same)
wanting old new (Write text ∷ ss) count most (next, rest, step, is, behind) =
    let behind_here = subst (λ z. (z - most) * wants most ss + length new.held ≤ octets ss + length next.held) step.0 (wanting next new ss rest most behind) in
    omega (arith, behind_here, level_by old next text (may_hold old (length text)) (nat_le (length text) old.size) step.1)
wanting old new (Waits ∷ ss) count most (next, rest, step, is, behind) =
    let behind_here = subst (λ z. (z - most) * wants most ss + length new.held ≤ octets ss + length next.held) step.size (wanting next new ss rest most behind) in
    omega (arith, behind_here, ap length step.out)
wanting old new (Wants more ∷ ss) count most (next, rest, step, is, behind) =
    by (nat_le more most) refl (subst (λ z. (z - most) * wants most ss + length new.held ≤ octets ss + length next.held) step.0.size (wanting next new ss rest most behind))
  where
    by : (b : Bool) → nat_le more most ≡ b → (old.size - most) * wants most ss + length new.held ≤ octets ss + length next.held
        → (old.size - most) * (if b then 1 + wants most ss else wants most ss) + length new.held ≤ octets ss + length old.held
    by true few ih =
        omega (arith, mul-add (old.size - most) 1 (wants most ss), mul-one (old.size - most), full old more most step.1 (leb-true _ _ few), ih, ap length step.0.out)
    by false few ih = omega (arith, ih, ap length step.0.out)

pub asks_seldom : AsksSeldom
asks_seldom old new steps count most are none = omega (arith, wanting old new steps count most are, ap length none)

-- ---- nothing goes on else

quiet_by : (old new : Block) (text : List ℕ) (b c : Bool) (rest : ℕ) → 0 ≡ (if b then 0 else if c then 1 else 2) + rest
    → MatchBool b ((new.written ≡ old.written) × (new.held ≡ old.held ++ text)) (MatchBool c (Appends old.written new.written old.held × (new.held ≡ text)) (Appends old.written new.written (old.held ++ text) × (new.held ≡ [])))
    → (new.written ≡ old.written) × (rest ≡ 0)
quiet_by old new text true c rest is h = (h.0, omega (arith, is))
quiet_by old new text false true rest is h = absurd (omega (arith, is))
quiet_by old new text false false rest is h = absurd (omega (arith, is))

pub goes_on_only_then : GoesOnOnlyThen
goes_on_only_then old new [] (none, same) = ap (λ (b : Block). b.written) same
goes_on_only_then old new (Write text ∷ ss) (next, rest, step, is, behind) =
    let quiet = quiet_by old next text (may_hold old (length text)) (nat_le (length text) old.size) rest is step.1 in
    goes_on_only_then next new ss (subst (λ n. AreSteps next ss n new) quiet.1 behind) ∙ quiet.0
goes_on_only_then old new (Waits ∷ ss) (next, rest, step, is, behind) = absurd (omega (arith, is))
goes_on_only_then old new (Wants more ∷ ss) (next, rest, step, is, behind) = absurd (omega (arith, is))
