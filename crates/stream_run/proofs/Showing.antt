-- What a run shows, by where it stops.
use Rattle.std.proofs.Common.{◌≡◌, ◌∙◌, refl, sym, ap, subst, ◌==◌, Bool, true, false, List, [], ◌++◌, append-nil, length, Result, Ok, Err, inl, inr}
use Rattle.std.specs.List.{FoldsTo}
use Rattle.std.specs.Prelude.{MatchBool}
use Rattle.std.proofs.lemmas.Bool.{eqb-true}
use Rattle.pcap.specs.Source.{Stream}
use Rattle.timeline.specs.declared.event.Event.{Event}
use Rattle.timeline.specs.declared.timeline.Cut.{Cut}
use Rattle.overlay_config.specs.Fault.{Meaning}
use Rattle.overlay.specs.Settings.{Settings}
use Rattle.overlay.specs.declared.settings.change.TimedChange.{TimedChange}
use Rattle.endpoint_core.specs.Opened.{settings_told}
use Rattle.endpoint_core.specs.Step.{State, opened}
use Rattle.capture_run.specs.Writing.{empty_outputs, with_cuts}
use Rattle.capture_run.specs.declared.fault.RunFault.{RunFault}
use Rattle.stream_run.specs.Begun.{OnlyReads}
use Rattle.stream_run.specs.Left.{texts_of}
use Rattle.stream_run.specs.Sights.{Sight, sights}
use Rattle.stream_run.specs.Stage.{Drains, StandAt, StandBetween, no_texts}
use Rattle.stream_run.specs.Steps.{Run, changes_of, texts_behind}
use Rattle.stream_run.specs.Watched.{IsShownSieved, IsWatchedRun, Shows, sights_of, state_behind, state_of_run}
use Rattle.stream_run.specs.declared.fault.StreamFault.{StreamFault}
use Rattle.stream_run.specs.declared.fault.StreamFault.TheVariants as stream
use Rattle.stream_run.specs.declared.fault.Target.{Target}
use Rattle.stream_run.proofs.Framing.{headers_of, none_at}
use Rattle.segment_set.specs.Segments.{Segments}

module _ (taken : List Event → List Event) (nothing : taken [] ≡ []) (segments : Segments) where
  module _ (s : Settings) (changes : List TimedChange) (start new : Drains) {T : Type 0} (sees : T → Sight → T → Type 0) (ends : T → State → T → Type 0) (old_watch : T) where
    pub shows_nothing : (fault : StreamFault) → OnlyReads (Err fault) → StandAt start new (no_texts (length s.ports)) → Shows taken segments sees ends s changes start new old_watch old_watch (Err fault)
    shows_nothing (stream.Run f) only_reads at = inl (at, refl)
    shows_nothing (stream.Read place) only_reads at = inl (at, refl)
    shows_nothing (stream.Write target) only_reads at = absurd only_reads

    -- of no event nothing is seen
    sees_none : FoldsTo sees old_watch (sights_of taken segments s changes []) old_watch
    sees_none = subst (λ l. FoldsTo sees old_watch (sights segments (changes_of changes) (opened (settings_told s)) 0 l) old_watch) (sym nothing) refl

    pub shows_headers : (fault : StreamFault) → OnlyReads (Err fault) → StandAt start new (empty_outputs (length s.ports)) → Shows taken segments sees ends s changes start new old_watch old_watch (Err fault)
    shows_headers (stream.Run f) only_reads at = inr ([], subst (StandAt start new) (sym (headers_of taken nothing segments s changes)) at, sees_none)
    shows_headers (stream.Read place) only_reads at = inr ([], subst (StandAt start new) (sym (headers_of taken nothing segments s changes)) at, sees_none)
    shows_headers (stream.Write target) only_reads at = absurd only_reads

    pub shows_begun : (target : Target) → StandBetween start new (no_texts (length s.ports)) (empty_outputs (length s.ports)) → Shows taken segments sees ends s changes start new old_watch old_watch (Err (stream.Write target))
    shows_begun target between = ([], no_texts (length s.ports), empty_outputs (length s.ports), inl (refl, refl, sym (headers_of taken nothing segments s changes)), between, sees_none)

    -- the texts that stand behind the events, from the settings on
    module _ (old run : Run) (is : old.state ≡ opened (settings_told s)) (at : StandAt start old.drains (empty_outputs (length s.ports))) (new_watch : T) where
      texts_are : (es : List Event) → texts_behind segments changes old.state (empty_outputs (length s.ports)) (taken es) ≡ texts_of taken segments s changes es []
      texts_are es = ap (λ state. texts_behind segments changes state (empty_outputs (length s.ports)) (taken es)) is

      -- what was seen
      sees_from : (es : List Event) → FoldsTo sees old_watch (sights segments (changes_of changes) old.state 0 (taken es)) new_watch → FoldsTo sees old_watch (sights_of taken segments s changes es) new_watch
      sees_from es h = subst (λ state. FoldsTo sees old_watch (sights segments (changes_of changes) state 0 (taken es)) new_watch) is h

      -- where no write failed there is no part of another event
      sees_whole : (es more : List Event) → more ≡ [] → FoldsTo sees old_watch (sights segments (changes_of changes) old.state 0 (taken (es ++ more))) new_watch → FoldsTo sees old_watch (sights_of taken segments s changes es) new_watch
      sees_whole es more none h = subst (λ l. FoldsTo sees old_watch (sights_of taken segments s changes l) new_watch) (ap (λ l. es ++ l) none ∙ append-nil es) (sees_from (es ++ more) h)

      pub shows_events : (fault : StreamFault) → IsWatchedRun taken segments sees changes old run old_watch new_watch (Err fault) → Shows taken segments sees ends s changes start run.drains old_watch new_watch (Err fault)
      shows_events (stream.Run f) on =
          inr (on.run.es, subst (StandAt start run.drains) (texts_are on.run.es) (on.run.outputs start (empty_outputs (length s.ports)) at), sees_whole on.run.es on.run.more on.run.part on.seen)
      shows_events (stream.Read place) on =
          inr (on.run.es, subst (StandAt start run.drains) (texts_are on.run.es) (on.run.outputs start (empty_outputs (length s.ports)) at), sees_whole on.run.es on.run.more on.run.part on.seen)
      shows_events (stream.Write target) on =
          let es = on.run.es in
          let more = on.run.more in
          let between = (on.run.outputs start (empty_outputs (length s.ports)) at).0 in (
            es ++ more,
            texts_of taken segments s changes es [],
            texts_of taken segments s changes (es ++ more) [],
            inr (inl (es, on.run.part.0, ap (λ l. es ++ l) on.run.part.1, refl, refl)),
            subst (λ o. StandBetween start run.drains o (texts_of taken segments s changes (es ++ more) [])) (texts_are es)
                (subst (StandBetween start run.drains (texts_behind segments changes old.state (empty_outputs (length s.ports)) (taken es))) (texts_are (es ++ more)) between),
            sees_from (es ++ more) on.seen,
          )

      pub shows_cuts : (cuts : List Cut) (target : Target) (on : IsWatchedRun taken segments sees changes old run old_watch new_watch (Ok tt))
          → StandBetween start new (texts_behind segments changes old.state (empty_outputs (length s.ports)) (taken on.run.es)) (with_cuts (texts_behind segments changes old.state (empty_outputs (length s.ports)) (taken on.run.es)) cuts)
          → Shows taken segments sees ends s changes start new old_watch new_watch (Err (stream.Write target))
      shows_cuts cuts target on between = (
        on.run.es,
        texts_of taken segments s changes on.run.es [],
        texts_of taken segments s changes on.run.es cuts,
        inr (inr (cuts, refl, refl)),
        subst (λ o. StandBetween start new o (with_cuts o cuts)) (texts_are on.run.es) between,
        sees_whole on.run.es on.run.more on.run.part on.seen,
      )

      pub shows_all : (cuts : List Cut) (last : T) (on : IsWatchedRun taken segments sees changes old run old_watch new_watch (Ok tt))
          → StandAt start new (with_cuts (texts_behind segments changes old.state (empty_outputs (length s.ports)) (taken on.run.es)) cuts) → ends new_watch run.state last
          → Shows taken segments sees ends s changes start new old_watch last (Ok tt)
      shows_all cuts last on stand ended =
          let from : run.state ≡ state_of_run taken segments s changes on.run.es =
          on.state ∙ ap (λ l. state_behind segments changes old.state (taken l)) (ap (λ l. on.run.es ++ l) on.run.part ∙ append-nil on.run.es) ∙ ap (λ state. state_behind segments changes state (taken on.run.es)) is in (
            on.run.es,
            cuts,
            new_watch,
            subst (λ o. StandAt start new (with_cuts o cuts)) (texts_are on.run.es) stand,
            sees_whole on.run.es on.run.more on.run.part on.seen,
            subst (λ state. ends new_watch state last) from ended,
          )

  -- ---- refused before

  module _ (ports : List Stream) (start : Drains) {T : Type 0} (sees : T → Sight → T → Type 0) (ends : T → State → T → Type 0) (watch : T) where
    -- a text or the number of captures is refused, or memory was
    pub shows_refused : (s : Meaning Settings) (c : Meaning (List TimedChange)) (fault : RunFault) → length start.ports ≡ length ports → IsShownSieved taken segments sees ends s c ports start start watch watch (Err (stream.Run fault))
    shows_refused (Err f) c fault many = refl
    shows_refused (Ok s) (Err f) fault many = refl
    shows_refused (Ok s) (Ok changes) fault many = by (length ports == length s.ports) refl
      where
        by : (b : Bool) → (length ports == length s.ports) ≡ b → MatchBool b (Shows taken segments sees ends s changes start start watch watch (Err (stream.Run fault))) (watch ≡ watch)
        by true is = inl (none_at start (length s.ports) (many ∙ eqb-true _ _ is), refl)
        by false is = refl

    -- as many captures as ports
    pub shows_counted : (s : Settings) (changes : List TimedChange) (new : Drains) (new_watch : T) (result : Result (Unit {0}) StreamFault) → (length ports == length s.ports) ≡ true
        → Shows taken segments sees ends s changes start new watch new_watch result → IsShownSieved taken segments sees ends (Ok s) (Ok changes) ports start new watch new_watch result
    shows_counted s changes new new_watch result same shows = rw same shows
