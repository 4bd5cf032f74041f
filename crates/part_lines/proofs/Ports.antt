-- Words of a result that tell a port.
use Rattle.std.proofs.Common.{◌≡◌, ◌∙◌, ◌+◌, ◌*◌, ◌<◌, ◌≤◌, ◌%◌, ◌/◌, ℕ, true, List, [], ◌∷◌, ◌++◌, length, get_or, Option, Some, None, refl, ap, subst, arith}
use Rattle.std.specs.Fmt.{decimal}
use Rattle.std.specs.Prelude.{is_some}
use Rattle.std.specs.Option.{option_and_then, option_map_or}
use Rattle.std.proofs.lemmas.Fmt.{decimal_digit, decimal_step}
use Rattle.timeline.specs.declared.source.Tap.{Tap}
use Rattle.timeline.specs.declared.source.Tap.TheVariants.{Port}
use Rattle.line_words.proofs.Decimals.{lacks_decimal, number_decimal}
use Rattle.part_lines.specs.Words.{before_equals}
use Rattle.part_lines.specs.Sent.{is_sound, port_at, sent_by, tap_of}
use Rattle.part_lines.proofs.Fronts.{equals_front}
use Rattle.part_lines.proofs.Outcomes.{near, no_equals}

-- a port's number between a 'p' and a '='
sent_near : (port : ℕ) (digits rest : List ℕ) → port < 256 → decimal port ≡ digits → sent_by (112 ∷ (digits ++ 61 ∷ rest)) ≡ Some (Port port)
sent_near port digits rest small is =
    subst (λ (ds : List ℕ). sent_by (112 ∷ (ds ++ 61 ∷ rest)) ≡ Some (Port port)) is
    (ap (option_and_then tap_of) (equals_front (112 ∷ decimal port) rest (lacks_decimal 61 port no_equals (omega (arith, small))))
    ∙ ap (option_and_then port_at) (number_decimal port (omega (arith, small))) ∙ near port small)

pub two_digits : (ten one : ℕ) → 0 < ten → ten < 10 → one < 10 → decimal (ten * 10 + one) ≡ (48 + ten) ∷ (48 + one) ∷ []
two_digits ten one some low small =
    let front : (ten * 10 + one) / 10 ≡ ten = omega arith in
    let last : (ten * 10 + one) % 10 ≡ one = omega arith in
    decimal_step (ten * 10 + one) (omega arith) (omega arith)
    ∙ ap (λ n. decimal n ++ ((48 + (ten * 10 + one) % 10) ∷ [])) front ∙ ap (λ n. decimal ten ++ ((48 + n) ∷ [])) last
    ∙ ap (λ ds. ds ++ ((48 + one) ∷ [])) (decimal_digit ten low)

-- ---- by the octets of a text

pub sent_long : (w : List ℕ) (port c d : ℕ) → 4 ≤ length w → get_or w 0 0 ≡ 112 → get_or w 1 0 ≡ c → get_or w 2 0 ≡ d → get_or w 3 0 ≡ 61 → port < 256 → decimal port ≡ c ∷ d ∷ [] → sent_by w ≡ Some (Port port)
sent_long [] port c d long p ten one equals small is = absurd (omega arith)
sent_long (x ∷ []) port c d long p ten one equals small is = absurd (omega arith)
sent_long (x ∷ y ∷ []) port c d long p ten one equals small is = absurd (omega arith)
sent_long (x ∷ y ∷ z ∷ []) port c d long p ten one equals small is = absurd (omega arith)
sent_long (x ∷ y ∷ z ∷ v ∷ rest) port c d long p ten one equals small is = rw (p, ten, one, equals) (sent_near port (c ∷ d ∷ []) rest small is)

-- ---- what was sent somewhere has a place

by_place : (o : Option (List ℕ)) (tap : Tap) → option_and_then tap_of o ≡ Some tap → option_map_or (λ place. is_some (tap_of place)) o true ≡ true
by_place None tap e = refl
by_place (Some place) tap e = ap is_some e

pub sound_sent : (w : List ℕ) (tap : Tap) → sent_by w ≡ Some tap → is_sound w ≡ true
sound_sent w tap e = by_place (before_equals w) tap e
