-- What is input of rows of events, one behind the other.
use Rattle.std.proofs.Common.{◌≡◌, Bool, true, false, if◌then◌else◌, List, [], ◌∷◌, ◌++◌, refl, ap}
use Rattle.both_ways.specs.Laws.{TakesInTurn}
use Rattle.both_ways.specs.Sieve.{behind, behind_all, is_taken, taken}
use Rattle.timeline.specs.declared.event.Event.{Event}

-- one more in front
in_front : (q : Bool) (e : Event) (a b c : List Event) → a ≡ b ++ c → (if q then e ∷ a else a) ≡ (if q then e ∷ b else b) ++ c
in_front true e a b c h = ap (λ es. e ∷ es) h
in_front false e a b c h = h

pub takes_in_turn : TakesInTurn
takes_in_turn s [] fs = refl
takes_in_turn s (e ∷ es) fs =
    let k = behind s e in
    in_front (is_taken s e) e (taken k (es ++ fs)) (taken k es) (taken (behind_all k es) fs) (takes_in_turn k es fs)
