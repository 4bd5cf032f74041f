-- Events among which no frame stands at two places.
use Rattle.std.proofs.Common.{◌≡◌, ℕ, zero, suc, ◌+◌, nat_lt, ◌&&◌, not, Bool, true, false, if◌then◌else◌, List, [], ◌∷◌, ◌++◌, Option, Some, None, set, get_or, refl, ap, ◌∙◌}
use Rattle.std.specs.Prelude.{is_some, option_map}
use Rattle.std.specs.List.{filter, find, position}
use Rattle.both_ways.specs.Laws.{IsNew, LeavesWhole, NoneIsLike, StandsOnce, brought_by, is_like, is_of_others, with_one}
use Rattle.both_ways.specs.Sieve.{Seen, asked, behind, fresh, happened, happens_in, is_taken, taken, window_asked, window_with}
use Rattle.both_ways.proofs.Others.{same_underlay}
use Rattle.echo_window.specs.Echo.{Arrival, Record, Window, first_met, fits, is_awaited, is_echo_of, is_elsewhere, is_soon, met_again, met_at, newest, origin_of, recent}
use Rattle.overlay.specs.declared.underlay.settings.Underlay.{Underlay}
use Rattle.timeline.specs.Captured.{Captured}
use Rattle.timeline.specs.declared.event.Event.{Event}
use Rattle.timeline.specs.declared.event.Happening.{Happening}
use Rattle.timeline.specs.declared.event.Happening.TheVariants as happenings
use Rattle.timeline.specs.declared.source.Tap.{Tap}
use Rattle.timeline.specs.declared.source.Tap.TheVariants.{Port, Underlay as AtUnderlay}
use Rattle.wire.specs.Octets.{is_same}

-- no kept frame passes a test, and no frame that came in does
abbrev NoneKept : (ℕ → ℕ → List ℕ → Bool) → List Arrival → Type 0
NoneKept p [] = Unit {0}
NoneKept p (c ∷ cs) = (p c.place c.moment c.frame ≡ false) × NoneKept p cs

abbrev NoneCame : (ℕ → ℕ → List ℕ → Bool) → List Record → Type 0
NoneCame p [] = Unit {0}
NoneCame p (q ∷ qs) = (p q.place q.moment q.frame ≡ false) × NoneCame p qs

-- each kept frame is one that came in: what none of those passes, none that is kept does
abbrev Covers : List Record → List Arrival → Type 0
Covers came kept = (p : ℕ → ℕ → List ℕ → Bool) → NoneCame p came → NoneKept p kept

-- of fewer
either : (p : ℕ → ℕ → List ℕ → Bool) (q : Bool) (xs ys : List Arrival) → NoneKept p xs → NoneKept p ys → NoneKept p (if q then xs else ys)
either p true xs ys h k = h
either p false xs ys h k = k

none-recent : (p : ℕ → ℕ → List ℕ → Bool) (w t : ℕ) (cs : List Arrival) → NoneKept p cs → NoneKept p (recent w t cs)
none-recent p w t [] h = tt
none-recent p w t (c ∷ cs) h = either p (nat_lt (c.moment + w) t) (recent w t cs) (c ∷ cs) (none-recent p w t cs h.1) h

none-newest : (p : ℕ → ℕ → List ℕ → Bool) (cs : List Arrival) → NoneKept p cs → NoneKept p (newest cs)
none-newest p [] h = tt
none-newest p (c ∷ cs) h = either p (fits (c ∷ cs)) (c ∷ cs) (newest cs) h (none-newest p cs h.1)

-- of one more
none-put : (p : ℕ → ℕ → List ℕ → Bool) (cs : List Arrival) (r : Record) → NoneKept p cs → p r.place r.moment r.frame ≡ false → NoneKept p (cs ++ first_met r ∷ [])
none-put p [] r h e = (e, tt)
none-put p (c ∷ cs) r h e = (h.0, none-put p cs r h.1 e)

-- and of one that was met
none-met : (p : ℕ → ℕ → List ℕ → Bool) (cs : List Arrival) (i place : ℕ) (d : Arrival) → NoneKept p cs → NoneKept p (set cs i (met_at place (get_or cs i d)))
none-met p [] zero place d h = tt
none-met p [] (suc i) place d h = tt
none-met p (c ∷ cs) zero place d h = h
none-met p (c ∷ cs) (suc i) place d h = (h.0, none-met p cs i place d h.1)

none-asked : (p : ℕ → ℕ → List ℕ → Bool) (r : Record) (cs : List Arrival) (o : Option ℕ) → NoneKept p cs
    → NoneKept p (elim o [ Some i ↦ met_again r cs i | None ↦ cs ])
none-asked p r cs None h = h
none-asked p r cs (Some i) h = none-met p cs i r.place (first_met r) h

-- so a window covers less than what came
still : (came : List Record) (w : Window) (tap : Tap) (moment : ℕ) (c : Captured) → Covers came w.came → Covers came (window_asked w tap moment c).came
still came w (Port port) moment c covers = λ p none.
    let r = asked port moment c.octets in
    let cs = recent w.within moment w.came in
    none-asked p r cs (position (is_echo_of w.within r) cs) (none-recent p w.within moment w.came (covers p none))
still came w AtUnderlay moment c covers = covers

more : (came : List Record) (w : Window) (r : Record) → Covers came w.came → Covers (r ∷ came) (window_with w (Some r)).came
more came w r covers = λ p none.
    none-newest p (recent w.within r.moment w.came ++ first_met r ∷ [])
    (none-put p (recent w.within r.moment w.came) r (none-recent p w.within r.moment w.came (covers p none.1)) none.0)

-- a record that none is like is no echo
no_echo : (a s w m : Bool) → ((a && s) && m) ≡ false → ((a && (s && w)) && m) ≡ false
no_echo true true true m h = h
no_echo true true false m h = refl
no_echo true false w m h = refl
no_echo false s w m h = refl

none-found : (within : ℕ) (r : Record) (cs : List Arrival) → NoneKept (is_like within r) cs → find (is_echo_of within r) cs ≡ None
none-found within r [] h = refl
none-found within r (c ∷ cs) h =
    let e : is_echo_of within r c ≡ false = no_echo (is_elsewhere r c) (is_soon within r c) (is_awaited r c) (is_same c.frame r.frame) h.0 in
    rw e (none-found within r cs h.1)

as-none : (within : ℕ) (r : Record) (came : List Record) → NoneIsLike within r came → NoneCame (is_like within r) came
as-none within r [] h = tt
as-none within r (q ∷ came) h = (h.0, as-none within r came h.1)

input : (came : List Record) (s : Seen) (moment : ℕ) (h : Happening) → Covers came s.window.came → IsNew s.window.within came moment h
    → happens_in s moment h ≡ is_of_others s.settings.overlay.underlay h
input came s moment (happenings.Change index) covers new = refl
input came s moment (happenings.Record AtUnderlay c) covers new = refl
input came s moment (happenings.Record (Port port) c) covers new =
    let r = asked port moment c.octets in
    ap (λ (o : Option Arrival). not (is_some (option_map origin_of o)))
    (none-found s.window.within r s.window.came (covers (is_like s.window.within r) (as-none s.window.within r came new)))

-- the frames that came in behind what happens
covered_by : (came : List Record) (w : Window) (o : Option Record) → Covers came w.came → Covers (with_one came o) (window_with w o).came
covered_by came w None covers = covers
covered_by came w (Some r) covers = more came w r covers

covered : (came : List Record) (s : Seen) (moment number : ℕ) (h : Happening) → Covers came s.window.came → Covers (with_one came (brought_by s moment number h)) (happened s moment number h).window.came
covered came s moment number (happenings.Change index) covers = covers
covered came s moment number (happenings.Record tap c) covers =
    covered_by came (window_asked s.window tap moment c) (brought_by s moment number (happenings.Record tap c)) (still came s.window tap moment c covers)

-- one event more
in_front : (U : Underlay) (q : Bool) (e : Event) (a es : List Event) → q ≡ is_of_others U e.happening → a ≡ filter (λ x. is_of_others U x.happening) es
    → (if q then e ∷ a else a) ≡ filter (λ x. is_of_others U x.happening) (e ∷ es)
in_front U q e a es h k = rw (h, k) refl

whole : (came : List Record) (s : Seen) (es : List Event) → Covers came s.window.came → StandsOnce came s es
    → taken s es ≡ filter (λ e. is_of_others s.settings.overlay.underlay e.happening) es
whole came s [] covers once = refl
whole came s (e ∷ es) covers once =
    let k = behind s e in
    let rest = whole (with_one came (brought_by s e.moment e.number e.happening)) k es (covered came s e.moment e.number e.happening covers) once.1 in
    in_front s.settings.overlay.underlay (is_taken s e) e (taken k es) es (input came s e.moment e.happening covers once.0)
    (rest ∙ ap (λ (U : Underlay). filter (λ x. is_of_others U x.happening) es) (same_underlay s e.moment e.number e.happening))

pub leaves_whole : LeavesWhole
leaves_whole within S cs es once = whole [] (fresh within S cs) es (λ p none. tt) once
