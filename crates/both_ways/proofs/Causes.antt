-- What isn't input has a cause, and what is has none.
use Rattle.std.proofs.Common.{◌≡◌, ◌∙◌, ℕ, Bool, true, false, not, if◌then◌else◌, List, [], ◌∷◌, ◌++◌, Option, Some, None, refl, ap, sym}
use Rattle.std.specs.Prelude.{is_none, is_some, option_map}
use Rattle.std.proofs.lemmas.Bool.{true≢false}
use Rattle.both_ways.specs.Laws.{TellEach, TellsWhatIsLeftOut, left_out}
use Rattle.both_ways.specs.Sieve.{Seen, asked, behind, cause_at, cause_of, cause_then, happens_in, is_input, is_taken, left_outs, seen_of, taken, told_for}
use Rattle.both_ways.specs.Told.{is_sent}
use Rattle.both_ways.specs.declared.left_out.Cause.{Cause}
use Rattle.both_ways.specs.declared.left_out.Cause.TheVariants.{Echo, Sent}
use Rattle.both_ways.specs.declared.left_out.LeftOut.{LeftOut}
use Rattle.both_ways.specs.declared.sieve.BothWays.{BothWays}
use Rattle.echo_window.specs.Echo.{echo_of}
use Rattle.echo_window.specs.declared.origin.Origin.{Origin}
use Rattle.endpoint_core.specs.Settings.{Settings}
use Rattle.overlay.specs.declared.settings.change.TimedChange.{TimedChange}
use Rattle.stream_run.specs.Sieved.{settings_behind}
use Rattle.timeline.specs.Captured.{Captured}
use Rattle.timeline.specs.declared.event.Event.{Event}
use Rattle.timeline.specs.declared.event.Happening.{Happening}
use Rattle.timeline.specs.declared.event.Happening.TheVariants as happenings
use Rattle.timeline.specs.declared.source.Tap.{Tap}
use Rattle.timeline.specs.declared.source.Tap.TheVariants.{Port, Underlay as AtUnderlay}

echo_cause : (o : Option Origin) → is_none (option_map Echo o) ≡ not (is_some o)
echo_cause None = refl
echo_cause (Some origin) = refl

sent_cause : (q : Bool) → (let o : Option Cause = if q then Some Sent else None in is_none o ≡ not q)
sent_cause true = refl
sent_cause false = refl

pub one : (o : Option Cause) (q : Bool) → q ≡ is_some o → q ≡ true → is_none o ≡ false
one (Some cause) q h k = refl
one None q h k = absurd (true≢false (sym k ∙ h))

pub none : (o : Option Cause) (q : Bool) → q ≡ is_some o → q ≡ false → is_none o ≡ true
none (Some cause) q h k = absurd (true≢false (sym h ∙ k))
none None q h k = refl

pub as_none : (o : Option Cause) (q : Bool) → is_some o ≡ not q → q ≡ is_none o
as_none None true h = refl
as_none None false h = absurd (true≢false (sym h))
as_none (Some cause) true h = absurd (true≢false h)
as_none (Some cause) false h = refl

pub no_origin : (o : Option Origin) → ((origin : Origin) → o ≡ Some origin → ⊥) → is_some o ≡ false
no_origin None h = refl
no_origin (Some origin) h = absurd (h origin refl)

-- of a record, of what happens, and of an event
pub of_record : (s : Seen) (tap : Tap) (moment : ℕ) (c : Captured) → is_none (cause_of s tap moment c) ≡ is_input s tap moment c
of_record s (Port port) moment c = echo_cause (echo_of s.window.within s.window.came (asked port moment c.octets))
of_record s AtUnderlay moment c = sent_cause (is_sent s.settings.overlay.underlay c.octets)

of_what_happens : (s : Seen) (moment : ℕ) (h : Happening) → is_none (cause_then s moment h) ≡ happens_in s moment h
of_what_happens s moment (happenings.Change index) = refl
of_what_happens s moment (happenings.Record tap c) = of_record s tap moment c

pub of_event : (s : Seen) (e : Event) → is_none (cause_at s e) ≡ is_taken s e
of_event s e = of_what_happens s e.moment e.happening

-- so of some events in a row one that has none is taken in, and one that has one isn't
taken_by : (s k : Seen) (e : Event) (q : Bool) (es : List Event) → is_none (cause_at s e) ≡ q → behind s e ≡ k → taken s (e ∷ es) ≡ (if q then e ∷ taken k es else taken k es)
taken_by s k e q es h b =
    ap (λ (x : Bool). if x then e ∷ taken (behind s e) es else taken (behind s e) es) (sym (of_event s e) ∙ h) ∙ ap (λ (x : Seen). if q then e ∷ taken x es else taken x es) b

module _ (b k : BothWays) (S next : Settings) (changes : List TimedChange) (e : Event) (es : List Event) where
  abbrev Behind : Type 0
  Behind = seen_of k (settings_behind changes e.happening S) changes ≡ behind (seen_of b S changes) e

  pub taken_for : (o : Option Cause) → o ≡ cause_at (seen_of b S changes) e → Behind → next ≡ settings_behind changes e.happening S
      → taken (seen_of b S changes) (e ∷ es) ≡ (if is_none o then e ∷ taken (seen_of k next changes) es else taken (seen_of k next changes) es)
  taken_for o answer known is =
      taken_by (seen_of b S changes) (seen_of k next changes) e (is_none o) es (ap is_none (sym answer)) (sym known ∙ ap (λ (x : Settings). seen_of k x changes) (sym is))

  pub input_taken : None ≡ cause_at (seen_of b S changes) e → Behind → next ≡ settings_behind changes e.happening S
      → taken (seen_of b S changes) (e ∷ es) ≡ e ∷ taken (seen_of k next changes) es
  input_taken answer known is = taken_for None answer known is

  pub other_taken : (cause : Cause) → Some cause ≡ cause_at (seen_of b S changes) e → Behind → next ≡ settings_behind changes e.happening S
      → taken (seen_of b S changes) (e ∷ es) ≡ taken (seen_of k next changes) es
  other_taken cause answer known is = taken_for (Some cause) answer known is

pub no_cause : {cause : Cause} → ◌≡◌ {A = Option Cause} (Some cause) None → ⊥
no_cause h = absurd cc

-- what has one is told, and nothing else
told_one : (q : Bool) (cause : Option Cause) (e : Event) (ls : List LeftOut) (es : List Event) → is_none cause ≡ q → TellEach ls es
    → TellEach (told_for e cause ++ ls) (if q then es else e ∷ es)
told_one true None e ls es h k = k
told_one false None e ls es h k = absurd cc
told_one true (Some cause) e ls es h k = absurd cc
told_one false (Some cause) e ls es h k = ((refl, refl, refl), k)

pub tells_what_is_left_out : TellsWhatIsLeftOut
tells_what_is_left_out s [] = tt
tells_what_is_left_out s (e ∷ es) =
    let t = behind s e in
    told_one (is_taken s e) (cause_at s e) e (left_outs t es) (left_out t es) (of_event s e) (tells_what_is_left_out t es)
