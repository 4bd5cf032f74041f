-- Which records of the underlay are input.
use Rattle.std.proofs.Common.{◌≡◌, ℕ, Bool, true, false, ◌&&◌, not, if◌then◌else◌, List, [], ◌∷◌, refl, ap, ◌∙◌}
use Rattle.std.specs.List.{filter}
use Rattle.both_ways.specs.Laws.{TakesWhatOthersSent, happens_at_underlay, happens_by_others}
use Rattle.both_ways.specs.Sieve.{Seen, behind, happened, happens_in, is_taken, taken}
use Rattle.both_ways.specs.Told.{is_sent}
use Rattle.both_ways.proofs.Changing.{behind_change}
use Rattle.overlay.specs.declared.underlay.settings.Underlay.{Underlay}
use Rattle.timeline.specs.declared.event.Event.{Event}
use Rattle.timeline.specs.declared.event.Happening.{Happening}
use Rattle.timeline.specs.declared.event.Happening.TheVariants as happenings
use Rattle.timeline.specs.declared.source.Tap.TheVariants.{Port, Underlay as AtUnderlay}

and_false : (q : Bool) → (q && false) ≡ false
and_false true = refl
and_false false = refl

and_true : (q : Bool) → (q && true) ≡ q
and_true true = refl
and_true false = refl

-- what happens
happens_so : (s : Seen) (moment : ℕ) (h : Happening) → (happens_in s moment h && happens_at_underlay h) ≡ happens_by_others s.settings.overlay.underlay h
happens_so s moment (happenings.Change index) = refl
happens_so s moment (happenings.Record (Port port) c) = and_false (happens_in s moment (happenings.Record (Port port) c))
happens_so s moment (happenings.Record AtUnderlay c) = and_true (not (is_sent s.settings.overlay.underlay c.octets))

pub same_underlay : (s : Seen) (moment number : ℕ) (h : Happening) → (happened s moment number h).settings.overlay.underlay ≡ s.settings.overlay.underlay
same_underlay s moment number (happenings.Change index) = behind_change s.changes index s.settings
same_underlay s moment number (happenings.Record tap c) = refl

-- one more in front
in_front : (p : Event → Bool) (q : Bool) (e : Event) (es : List Event) → filter p (if q then e ∷ es else es) ≡ (if q && p e then e ∷ filter p es else filter p es)
in_front p true e es = refl
in_front p false e es = refl

pub takes_what_others_sent : TakesWhatOthersSent
takes_what_others_sent s [] = refl
takes_what_others_sent s (e ∷ es) =
    let at_underlay = λ (x : Event). happens_at_underlay x.happening in
    let rest = filter at_underlay (taken (behind s e) es) in
    in_front at_underlay (is_taken s e) e (taken (behind s e) es)
    ∙ ap (λ (q : Bool). if q then e ∷ rest else rest) (happens_so s e.moment e.happening)
    ∙ ap (λ (r : List Event). if happens_by_others s.settings.overlay.underlay e.happening then e ∷ r else r)
    (takes_what_others_sent (behind s e) es ∙ ap (λ (U : Underlay). filter (λ x. happens_by_others U x.happening) es) (same_underlay s e.moment e.number e.happening))
