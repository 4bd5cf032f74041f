-- What a run leaves in its outputs, by the calls that it makes.
use Rattle.std.proofs.Common.{◌≡◌, ◌∙◌, refl, sym, ap, subst, ℕ, List, [], ◌++◌, append-nil, length, slice_index_or, arith, Vec, Global, Option, None, Some, Ok, Err}
use Rattle.std.proofs.lemmas.List.{length-map}
use Rattle.std.specs.List.{FoldsTo}
use Rattle.pcap.specs.Record.{Record}
use Rattle.pcap.specs.Source.{Stream}
use Rattle.overlay.specs.Settings.{Settings}
use Rattle.overlay.specs.declared.settings.change.TimedChange.{TimedChange}
use Rattle.endpoint_core.specs.Step.{State, opened}
use Rattle.endpoint_core.specs.Opened.{settings_told}
use Rattle.timeline.specs.declared.event.Event.{Event}
use Rattle.capture_run.specs.Outputs.{Outputs}
use Rattle.capture_run.specs.Among.{cuts_among}
use Rattle.capture_run.specs.Writing.{empty_outputs, with_cuts}
use Rattle.capture_run.specs.declared.fault.RunFault.TheVariants as faults
use Rattle.stream_run.specs.Begun.{AreAtFirst, OpensInTurn, no_turn}
use Rattle.stream_run.specs.Coming.{coming}
use Rattle.stream_run.specs.Cuts.{cuts_at}
use Rattle.stream_run.specs.Over.{CanBeOpened, LeavesSieved, Tells, texts_octets, whole_records}
use Rattle.stream_run.specs.Reached.{ReachesOver}
use Rattle.stream_run.specs.Read.{StandsBehind}
use Rattle.stream_run.specs.Sights.{Sight, sights}
use Rattle.stream_run.specs.Stage.{Drains, Lead, StandAt, StandBetween, no_texts}
use Rattle.stream_run.specs.Steps.{AreRead, AreReadBehind, AreReady, EndsInOrder, IsAt, IsRunOn, LeadsBehind, Run, StopInFront, changes_of, octets_at, run_at, source_at, texts_behind}
use Rattle.stream_run.specs.Watched.{IsWatchedRun, SeesOver, state_behind}
use Rattle.stream_run.specs.declared.fault.StreamFault.{StreamFault}
use Rattle.stream_run.specs.declared.fault.StreamFault.TheVariants as stream
use Rattle.stream_run.specs.declared.fault.Target.{Target}
use Rattle.stream_run.specs.declared.turn.Turn.{Turn}
use Rattle.stream_run.proofs.Overall.{all_opened, one_refused, over_all, over_cuts, over_events, over_refused, over_unopened, reach_cuts, reach_events, reach_unread, seen_all, seen_cuts, seen_events, seen_unread, tells_many}
use Rattle.stream_run.proofs.Wholes.{AllStandAtEnd, IsCapture, all_at_end, all_captures, all_coming}
use Rattle.segment_set.specs.Segments.{Segments}

-- all captures were opened, and tell these octets
pub opened_read : (ports new : List Stream) (underlay new_underlay : Stream) (texts : List (Vec ℕ Global)) (text : List ℕ) → Tells ports underlay texts text → length new ≡ length ports
    → OpensInTurn ports underlay new new_underlay (Ok tt) → AreAtFirst (texts_octets texts) text new new_underlay
opened_read ports new underlay new_underlay texts text tells many opens = record {
  many = tells_many ports underlay texts text tells ∙ sym many;
  each = λ place index at. all_opened ports new underlay new_underlay texts text tells opens place index (subst (λ n. IsAt n index place) many at);
}

-- a source stands behind some records of a capture
opened_behind : (octets : List ℕ) (done : List Record) (next : Option ℕ) (s : Stream) → StandsBehind octets done next s → IsCapture octets
opened_behind octets done (Some moment) s stands = (_, stands.2.reading.records)
opened_behind octets done None s stands = (_, stands.reading)

module _ (taken : List Event → List Event) (nothing : taken [] ≡ []) (segments : Segments) where
  module _ (s : Settings) (changes : List TimedChange) (texts : List (Vec ℕ Global)) (text : List ℕ) (start : Drains) where
    -- a capture can't be opened, or a read failed
    pub over_opening : (new : Drains) (ports new_ports : List Stream) (underlay new_underlay : Stream) (fault : StreamFault) → Tells ports underlay texts text → OpensInTurn ports underlay new_ports new_underlay (Err fault)
        → length texts ≡ length s.ports → StandAt start new (no_texts (length texts)) → LeavesSieved taken segments s changes texts text start new (Err fault)
    over_opening new ports new_ports underlay new_underlay (stream.Run (faults.Capture place f)) tells opens many at =
        over_refused taken nothing segments s changes texts text start new opens.0 place f many (one_refused ports new_ports underlay new_underlay texts text place f tells opens) at
    over_opening new ports new_ports underlay new_underlay (stream.Run (faults.Record place n f)) tells opens many at = absurd opens
    over_opening new ports new_ports underlay new_underlay (stream.Run (faults.Settings f)) tells opens many at = absurd opens
    over_opening new ports new_ports underlay new_underlay (stream.Run (faults.Changes f)) tells opens many at = absurd opens
    over_opening new ports new_ports underlay new_underlay (stream.Run faults.PortCount) tells opens many at = absurd opens
    over_opening new ports new_ports underlay new_underlay (stream.Run faults.OutOfMemory) tells opens many at = absurd opens
    over_opening new ports new_ports underlay new_underlay (stream.Read place) tells opens many at = over_unopened taken nothing segments s changes texts text start new at
    over_opening new ports new_ports underlay new_underlay (stream.Write target) tells opens many at = absurd opens

    pub reach_opening : (new : Drains) (ports new_ports : List Stream) (underlay new_underlay : Stream) (fault : StreamFault) → OpensInTurn ports underlay new_ports new_underlay (Err fault)
        → StandAt start new (no_texts (length texts)) → ReachesOver taken segments s changes texts text start new new_ports new_underlay (Err fault)
    reach_opening new ports new_ports underlay new_underlay (stream.Run (faults.Capture place f)) opens at = tt
    reach_opening new ports new_ports underlay new_underlay (stream.Run (faults.Record place n f)) opens at = absurd opens
    reach_opening new ports new_ports underlay new_underlay (stream.Run (faults.Settings f)) opens at = tt
    reach_opening new ports new_ports underlay new_underlay (stream.Run (faults.Changes f)) opens at = tt
    reach_opening new ports new_ports underlay new_underlay (stream.Run faults.PortCount) opens at = tt
    reach_opening new ports new_ports underlay new_underlay (stream.Run faults.OutOfMemory) opens at = absurd opens
    reach_opening new ports new_ports underlay new_underlay (stream.Read place) opens at = reach_unread taken nothing segments s changes texts text start new new_ports new_underlay place at
    reach_opening new ports new_ports underlay new_underlay (stream.Write target) opens at = absurd opens

    -- so nothing was seen
    pub seen_opening : {T : Type 0} (sees : T → Sight → T → Type 0) (end : T → State → T → Type 0) (watch : T) (new : Drains) (ports new_ports : List Stream) (underlay new_underlay : Stream) (fault : StreamFault)
        → OpensInTurn ports underlay new_ports new_underlay (Err fault) → StandAt start new (no_texts (length texts)) → SeesOver taken segments sees end s changes texts text start new watch watch (Err fault)
    seen_opening sees end watch new ports new_ports underlay new_underlay (stream.Run (faults.Capture place f)) opens at = refl
    seen_opening sees end watch new ports new_ports underlay new_underlay (stream.Run (faults.Record place n f)) opens at = absurd opens
    seen_opening sees end watch new ports new_ports underlay new_underlay (stream.Run (faults.Settings f)) opens at = absurd opens
    seen_opening sees end watch new ports new_ports underlay new_underlay (stream.Run (faults.Changes f)) opens at = absurd opens
    seen_opening sees end watch new ports new_ports underlay new_underlay (stream.Run faults.PortCount) opens at = absurd opens
    seen_opening sees end watch new ports new_ports underlay new_underlay (stream.Run faults.OutOfMemory) opens at = absurd opens
    seen_opening sees end watch new ports new_ports underlay new_underlay (stream.Read place) opens at = seen_unread taken nothing segments s changes texts text start new sees end watch place at
    seen_opening sees end watch new ports new_ports underlay new_underlay (stream.Write target) opens at = absurd opens

    module _ (ports : List Stream) (underlay : Stream) (turns : List Turn) (state : State) (d : Drains) (run : Run) (ready : AreReady changes 0 (run_at ports underlay turns state 0 d))
        (read : AreRead (texts_octets texts) text turns ports underlay) (at : StandAt start d (empty_outputs (length texts))) (is : state ≡ opened (settings_told s)) where
      -- at the begin of the events all are to come
      all_are : (es more rest : List Event) → coming changes (texts_octets texts) text turns ≡ es ++ (more ++ rest) → (whole_records changes texts text).events ≡ es ++ (more ++ rest)
      all_are es more rest first =
          all_coming changes texts text turns (omega (arith, ready.size, read.many, length-map texts (λ (v : Vec ℕ Global). v.items))) (λ t k lt. let none = ready.done t k lt in omega (arith, none)) ∙ first

      -- they are captures
      can : CanBeOpened texts text
      can = all_captures texts text (λ place index at_index. let t = slice_index_or turns index no_turn in
          opened_behind (octets_at (texts_octets texts) text place) _ t.next (source_at ports underlay place) (read.each place index no_turn (subst (λ n. IsAt n index place) many_texts at_index)).stands)
        where
          many_texts : length texts ≡ length ports
          many_texts = sym (length-map texts (λ (v : Vec ℕ Global). v.items)) ∙ read.many

      -- it stops among the events
      pub over_run : (fault : StreamFault) → IsRunOn taken segments changes (run_at ports underlay turns state 0 d) run (Err fault) → LeavesSieved taken segments s changes texts text start run.drains (Err fault)
      over_run fault on =
          let told = on.told (texts_octets texts) text read in
          over_events taken nothing segments s changes texts text start run.drains fault run on.es on.more told.rest (all_are on.es on.more told.rest told.first) told.ends on.part
          (subst (λ st. LeadsBehind {T = Unit {0}} taken segments changes st start run.drains (empty_outputs (length texts)) on.es on.more (Err fault)) is (on.outputs start (empty_outputs (length texts)) at))
          (subst (λ st. EndsInOrder {T = Unit {0}} taken segments changes st start run.drains (empty_outputs (length texts)) on.es on.more (Err fault)) is (on.order start (empty_outputs (length texts)) at))
          told.in_front on.numbered can

      pub reach_run : (fault : StreamFault) → IsRunOn taken segments changes (run_at ports underlay turns state 0 d) run (Err fault) → ReachesOver taken segments s changes texts text start run.drains run.ports run.underlay (Err fault)
      reach_run fault on =
          let told = on.told (texts_octets texts) text read in
          reach_events taken nothing segments s changes texts text start run.drains fault run on.es on.more told.rest (all_are on.es on.more told.rest told.first) told.ends on.part
          (subst (λ st. LeadsBehind {T = Unit {0}} taken segments changes st start run.drains (empty_outputs (length texts)) on.es on.more (Err fault)) is (on.outputs start (empty_outputs (length texts)) at))
          (subst (λ st. EndsInOrder {T = Unit {0}} taken segments changes st start run.drains (empty_outputs (length texts)) on.es on.more (Err fault)) is (on.order start (empty_outputs (length texts)) at))
          told.in_front on.numbered can told.read_on

      -- it goes through all of them
      no_more : (on : IsRunOn taken segments changes (run_at ports underlay turns state 0 d) run (Ok tt)) → (whole_records changes texts text).events ≡ on.es
      no_more on =
          let told = on.told (texts_octets texts) text read in
          all_are on.es on.more told.rest told.first ∙ ap (λ l. on.es ++ (l ++ told.rest)) on.part ∙ ap (λ l. on.es ++ l) told.ends.0 ∙ append-nil on.es

      ends : (on : IsRunOn taken segments changes (run_at ports underlay turns state 0 d) run (Ok tt)) → AllStandAtEnd texts text run.turns run.ports run.underlay
      ends on = all_at_end texts text run.turns run.ports run.underlay (on.told (texts_octets texts) text read).ends.1 on.ready.size on.over

      -- they stop in front of each fault
      stop : (on : IsRunOn taken segments changes (run_at ports underlay turns state 0 d) run (Ok tt)) → StopInFront (texts_octets texts) text on.es
      stop on = subst (StopInFront (texts_octets texts) text) (ap (λ l. on.es ++ l) on.part ∙ append-nil on.es) (on.told (texts_octets texts) text read).in_front

      -- the texts that stand then, and with the lines of the cut captures
      abbrev pub before_lines : IsRunOn taken segments changes (run_at ports underlay turns state 0 d) run (Ok tt) → Outputs
      before_lines on = texts_behind segments changes state (empty_outputs (length texts)) (taken on.es)

      pub over_lines : (new : Drains) (target : Target) (on : IsRunOn taken segments changes (run_at ports underlay turns state 0 d) run (Ok tt))
          → Lead {T = Unit {0}} start new (before_lines on) (with_cuts (before_lines on) (cuts_among segments (cuts_at run.ports run.underlay run.turns))) (Err target) → LeavesSieved taken segments s changes texts text start new (Err (stream.Write target))
      over_lines new target on lead =
          over_cuts taken nothing segments s changes texts text start new target on.es run.turns run.ports run.underlay (no_more on) (ends on) (stop on)
          (subst (λ st. StandBetween start new (texts_behind segments changes st (empty_outputs (length texts)) (taken on.es)) (with_cuts (texts_behind segments changes st (empty_outputs (length texts)) (taken on.es)) (cuts_among segments (cuts_at run.ports run.underlay run.turns)))) is lead.0)

      pub reach_lines : (new : Drains) (target : Target) (on : IsRunOn taken segments changes (run_at ports underlay turns state 0 d) run (Ok tt))
          → Lead {T = Unit {0}} start new (before_lines on) (with_cuts (before_lines on) (cuts_among segments (cuts_at run.ports run.underlay run.turns))) (Err target)
          → ReachesOver taken segments s changes texts text start new run.ports run.underlay (Err (stream.Write target))
      reach_lines new target on lead =
          reach_cuts taken nothing segments s changes texts text start new target on.es run.turns run.ports run.underlay (no_more on) (ends on) (stop on)
          (subst (λ st. StandBetween start new (texts_behind segments changes st (empty_outputs (length texts)) (taken on.es)) (with_cuts (texts_behind segments changes st (empty_outputs (length texts)) (taken on.es)) (cuts_among segments (cuts_at run.ports run.underlay run.turns)))) is lead.0)
          (λ place index at_index other. (on.told (texts_octets texts) text read).read_on place index at_index tt)

      pub reach_whole : (new : Drains) (on : IsRunOn taken segments changes (run_at ports underlay turns state 0 d) run (Ok tt)) → ReachesOver taken segments s changes texts text start new run.ports run.underlay (Ok tt)
      reach_whole new on = subst (λ l. AreReadBehind {T = Unit {0}} (texts_octets texts) text l run.ports run.underlay (Ok tt)) (sym (no_more on)) (on.told (texts_octets texts) text read).read_on

      pub over_whole : (new : Drains) (on : IsRunOn taken segments changes (run_at ports underlay turns state 0 d) run (Ok tt)) → length texts ≡ length s.ports
          → Lead {T = Unit {0}} start new (before_lines on) (with_cuts (before_lines on) (cuts_among segments (cuts_at run.ports run.underlay run.turns))) (Ok tt) → LeavesSieved taken segments s changes texts text start new (Ok tt)
      over_whole new on many lead =
          over_all taken nothing segments s changes texts text start new on.es run.turns run.ports run.underlay many (no_more on) (ends on)
          (subst (λ st. StandAt start new (with_cuts (texts_behind segments changes st (empty_outputs (length texts)) (taken on.es)) (cuts_among segments (cuts_at run.ports run.underlay run.turns)))) is lead)

      -- ---- what was seen

      module _ {T : Type 0} (sees : T → Sight → T → Type 0) (end : T → State → T → Type 0) (old_watch : T) where
        -- the events that came, from the settings on
        sees_all : (es : List Event) (new_watch : T) → FoldsTo sees old_watch (sights segments (changes_of changes) state 0 (taken es)) new_watch → FoldsTo sees old_watch (sights segments (changes_of changes) (opened (settings_told s)) 0 (taken es)) new_watch
        sees_all es new_watch h = subst (λ st. FoldsTo sees old_watch (sights segments (changes_of changes) st 0 (taken es)) new_watch) is h

        -- where no write failed there is no part of another event
        sees_whole : (new_watch : T) (on : IsWatchedRun taken segments sees changes (run_at ports underlay turns state 0 d) run old_watch new_watch (Ok tt)) → on.run.es ++ on.run.more ≡ on.run.es
        sees_whole new_watch on = ap (λ l. on.run.es ++ l) on.run.part ∙ append-nil on.run.es

        pub seen_run : (fault : StreamFault) (new_watch : T) → IsWatchedRun taken segments sees changes (run_at ports underlay turns state 0 d) run old_watch new_watch (Err fault) → SeesOver taken segments sees end s changes texts text start run.drains old_watch new_watch (Err fault)
        seen_run fault new_watch on =
            let told = on.run.told (texts_octets texts) text read in
            seen_events taken nothing segments s changes texts text start run.drains sees end old_watch fault run on.run.es on.run.more told.rest new_watch (all_are on.run.es on.run.more told.rest told.first) told.ends on.run.part
            (subst (λ st. LeadsBehind {T = Unit {0}} taken segments changes st start run.drains (empty_outputs (length texts)) on.run.es on.run.more (Err fault)) is (on.run.outputs start (empty_outputs (length texts)) at))
            (subst (λ st. EndsInOrder {T = Unit {0}} taken segments changes st start run.drains (empty_outputs (length texts)) on.run.es on.run.more (Err fault)) is (on.run.order start (empty_outputs (length texts)) at))
            told.in_front on.run.numbered can
            (sees_all (on.run.es ++ on.run.more) new_watch on.seen)

        pub seen_lines : (new : Drains) (target : Target) (new_watch : T) (on : IsWatchedRun taken segments sees changes (run_at ports underlay turns state 0 d) run old_watch new_watch (Ok tt))
            → Lead {T = Unit {0}} start new (before_lines on.run) (with_cuts (before_lines on.run) (cuts_among segments (cuts_at run.ports run.underlay run.turns))) (Err target) → SeesOver taken segments sees end s changes texts text start new old_watch new_watch (Err (stream.Write target))
        seen_lines new target new_watch on lead =
            seen_cuts taken nothing segments s changes texts text start new sees end old_watch target on.run.es run.turns run.ports run.underlay new_watch (no_more on.run) (ends on.run) (stop on.run)
            (subst (λ st. StandBetween start new (texts_behind segments changes st (empty_outputs (length texts)) (taken on.run.es)) (with_cuts (texts_behind segments changes st (empty_outputs (length texts)) (taken on.run.es)) (cuts_among segments (cuts_at run.ports run.underlay run.turns)))) is lead.0)
            (subst (λ l. FoldsTo sees old_watch (sights segments (changes_of changes) (opened (settings_told s)) 0 (taken l)) new_watch) (sees_whole new_watch on) (sees_all (on.run.es ++ on.run.more) new_watch on.seen))

        pub seen_whole : (new : Drains) (last new_watch : T) (on : IsWatchedRun taken segments sees changes (run_at ports underlay turns state 0 d) run old_watch last (Ok tt)) → end last run.state new_watch → SeesOver taken segments sees end s changes texts text start new old_watch new_watch (Ok tt)
        seen_whole new last new_watch on ended =
            let all = sees_whole last on in
            let from : run.state ≡ state_behind segments changes (opened (settings_told s)) (taken on.run.es) = on.state ∙ ap (λ l. state_behind segments changes state (taken l)) all ∙ ap (λ st. state_behind segments changes st (taken on.run.es)) is in
            seen_all taken nothing segments s changes texts text start new sees end old_watch on.run.es last new_watch (no_more on.run)
            (subst (λ l. FoldsTo sees old_watch (sights segments (changes_of changes) (opened (settings_told s)) 0 (taken l)) last) all (sees_all (on.run.es ++ on.run.more) last on.seen))
            (subst (λ st. end last st new_watch) from ended)

      -- ---- the sieve

      module _ {S : Type 0} (goes : S → Event → S → Type 0) (old_sieve new_sieve : S) where
        -- it was asked about all events
        pub went_whole : (on : IsRunOn taken segments changes (run_at ports underlay turns state 0 d) run (Ok tt)) → FoldsTo goes old_sieve (on.es ++ on.more) new_sieve → FoldsTo goes old_sieve (whole_records changes texts text).events new_sieve
        went_whole on went = subst (λ l. FoldsTo goes old_sieve l new_sieve) (ap (λ l. on.es ++ l) on.part ∙ append-nil on.es ∙ sym (no_more on)) went
