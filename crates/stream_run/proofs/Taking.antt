-- An event that is told to some segments, and one that isn't.
use Rattle.std.proofs.Common.{◌≡◌, ◌∙◌, refl, sym, ap, subst, ℕ, true, false, List, Option, None, Result, Ok}
use Rattle.wire.specs.declared.ether.reason.Refused.{Refused}
use Rattle.segment_set.specs.Segments.{Segments}
use Rattle.overlay.specs.declared.settings.change.Change.{Change}
use Rattle.overlay.specs.declared.settings.change.TimedChange.{TimedChange}
use Rattle.timeline.specs.declared.event.Event.{Event}
use Rattle.timeline.specs.declared.event.Happening.{Happening}
use Rattle.timeline.specs.declared.event.Happening.TheVariants as happenings
use Rattle.timeline.specs.declared.source.Tap.TheVariants as taps
use Rattle.endpoint_core.specs.Among.{after_among, after_untold, after_untold_input, is_told, segment_in, segment_of}
use Rattle.endpoint_core.specs.Arrival.{Arrival}
use Rattle.endpoint_core.specs.Event.{Event as Asked}
use Rattle.endpoint_core.specs.State.{aged}
use Rattle.endpoint_core.specs.Step.{Answer, Decided, State, after, after_coming, answer, decided, passed}
use Rattle.capture_run.specs.Among.{with_event_among}
use Rattle.capture_run.specs.Outputs.{Outputs, event_of, input_of, named_by}
use Rattle.capture_run.specs.Writing.{with_event, with_input}
use Rattle.stream_run.specs.Amidst.{PutsInOrder}
use Rattle.stream_run.specs.Sights.{IsBrought, Sight, answered, due, sight_among, untold}
use Rattle.stream_run.specs.Stage.{Drains, Lead, StandAt}
use Rattle.stream_run.specs.Steps.{changes_of}
use Rattle.stream_run.specs.Watched.{IsWatchedTake}
use Rattle.stream_run.specs.declared.fault.Target.{Target}

-- ---- a record

-- what it brings is what the endpoint answers it by
pub record ComesBy (changes : List Change) (s : State) (t : ℕ) (h : Happening) (came : Result Arrival Refused) : Type 0 where
  pub segment : segment_in s.bridges.settings (input_of changes h) ≡ segment_of came
  pub after_is : after s (record { at = t; input = input_of changes h }) ≡ after_coming t came s
  pub answer_is : answer s (record { at = t; input = input_of changes h }) ≡ Decided (decided t (aged t s.bridges) came)
  pub passes : after_untold_input t s (input_of changes h) ≡ passed t s
  pub named : named_by changes h ≡ None

pub comes_by : (changes : List Change) (s : State) (t : ℕ) (h : Happening) (came : Result Arrival Refused) → ((i : ℕ) → h ≡ happenings.Change i → ⊥) → IsBrought s.bridges.settings h came
    → ComesBy changes s t h came
comes_by changes s t (happenings.Change i) came never brought = absurd (never i refl)
comes_by changes s t (happenings.Record (taps.Port port) r) came never brought =
    let is = sym brought.2 in
    record {
      segment = ap segment_of is;
      after_is = ap (λ (x : Result Arrival Refused). after_coming t x s) is;
      answer_is = ap (λ (x : Result Arrival Refused). Decided (decided t (aged t s.bridges) x)) is;
      passes = refl;
      named = refl;
    }
comes_by changes s t (happenings.Record taps.Underlay r) came never brought =
    let is = sym brought in
    record {
      segment = ap segment_of is;
      after_is = ap (λ (x : Result Arrival Refused). after_coming t x s) is;
      answer_is = ap (λ (x : Result Arrival Refused). Decided (decided t (aged t s.bridges) x)) is;
      passes = refl;
      named = refl;
    }

-- ---- any event

module _ (segments : Segments) (s : State) (asked : Asked) where
  after_told : is_told segments s asked ≡ true → after_among segments s asked ≡ after s asked
  after_told told = rw told refl

  after_not_told : is_told segments s asked ≡ false → after_among segments s asked ≡ after_untold s asked
  after_not_told told = rw told refl

module _ (segments : Segments) (cs : List Change) (s : State) (number : ℕ) (e : Event) where
  puts_told : (start new : Drains) (o : Outputs) (result : Result (Unit {0}) Target) → is_told segments s (event_of cs e) ≡ true
      → Lead start new o (with_event cs number o e (answer s (event_of cs e))) result → Lead start new o (with_event_among segments cs number s o e) result
  puts_told start new o result told lead = rw told lead

  puts_nothing : (start new : Drains) (o : Outputs) → is_told segments s (event_of cs e) ≡ false → StandAt start new o → Lead {T = Unit {0}} start new o (with_event_among segments cs number s o e) (Ok tt)
  puts_nothing start new o told at = rw told at

  module _ {T : Type 0} (sees : T → Sight → T → Type 0) (old new : T) where
    seen_told : is_told segments s (event_of cs e) ≡ true → sees old (answered (due s number e) (answer s (event_of cs e))) new → sees old (sight_among segments cs s number e) new
    seen_told told seen = rw told seen

    seen_untold : is_told segments s (event_of cs e) ≡ false → sees old (untold (due s number e)) new → sees old (sight_among segments cs s number e) new
    seen_untold told seen = rw told seen

module _ (segments : Segments) {T : Type 0} (sees : T → Sight → T → Type 0) (changes : List TimedChange) (e : Event) (number : ℕ) (s new : State) (before behind : Drains) (old_watch new_watch : T) where
  -- it isn't told: nothing is put
  pub passed_over : is_told segments s (event_of (changes_of changes) e) ≡ false → new ≡ after_untold s (event_of (changes_of changes) e) → sees old_watch (untold (due s number e)) new_watch
      → IsWatchedTake segments sees changes e number s new before before old_watch new_watch (Ok tt)
  passed_over away is seen = record {
    taken = record {
      state = is ∙ sym (after_not_told segments s (event_of (changes_of changes) e) away);
      outputs = λ start o at. puts_nothing segments (changes_of changes) s number e start before o away at;
      order = λ start o at. tt;
    };
    seen = seen_untold segments (changes_of changes) s number e sees old_watch new_watch away seen;
  }

  -- it is told, with this answer, and names this segment
  pub takes_told : (a : Answer) (named : Option ℕ) (result : Result (Unit {0}) Target) → is_told segments s (event_of (changes_of changes) e) ≡ true → answer s (event_of (changes_of changes) e) ≡ a → named_by (changes_of changes) e.happening ≡ named
      → new ≡ after s (event_of (changes_of changes) e)
      → ((start : Drains) (o : Outputs) → StandAt start before o → Lead start behind o (with_input number named o e a) result)
      → ((start : Drains) (o : Outputs) → StandAt start before o → PutsInOrder start behind number named o e a result)
      → sees old_watch (answered (due s number e) a) new_watch
      → IsWatchedTake segments sees changes e number s new before behind old_watch new_watch result
  takes_told a named result told answers names is put order seen =
      let cs = changes_of changes in
      record {
        taken = record {
          state = is ∙ sym (after_told segments s (event_of cs e) told);
          outputs = λ start o at. puts_told segments cs s number e start behind o result told
              (subst (λ (n : Option ℕ). Lead start behind o (with_input number n o e (answer s (event_of cs e))) result) (sym names)
              (subst (λ (x : Answer). Lead start behind o (with_input number named o e x) result) (sym answers) (put start o at)));
          order = λ start o at.
              subst (λ (n : Option ℕ). PutsInOrder start behind number n o e (answer s (event_of cs e)) result) (sym names)
              (subst (λ (x : Answer). PutsInOrder start behind number named o e x result) (sym answers) (order start o at));
        };
        seen = seen_told segments cs s number e sees old_watch new_watch told
            (subst (λ (x : Answer). sees old_watch (answered (due s number e) x) new_watch) (sym answers) seen);
      }
