-- Outputs that hand on what they hold back: the same texts stand.
use Rattle.std.proofs.Common.{◌≡◌, ◌∙◌, refl, sym, ap, subst, ℕ, ◌<◌, ◌+◌, Bool, true, false, cond, List, [], length, map, get_or, slice_set, slice_index_or, arith, ◌-◌, Option, Result, Ok, Err, IsErr, MatchBool, inl}
use Rattle.std.proofs.KnownBytes.{Appends-kept}
use Rattle.std.proofs.lemmas.List.{get_or-set_same, set-get_or}
use Rattle.std.specs.Prelude.{take}
use Rattle.std.specs.Io.KnownBytes.{Keeps}
use Rattle.pcap.specs.Counts.{GoesOnBy}
use Rattle.pcap.specs.Sink.{Drain, HandsOn, IsHandedOn}
use Rattle.segment_set.specs.Segments.{Segments}
use Rattle.overlay.specs.declared.settings.change.Change.{Change}
use Rattle.overlay.specs.declared.settings.change.TimedChange.{TimedChange}
use Rattle.timeline.specs.declared.event.Event.{Event}
use Rattle.endpoint_core.specs.Among.{is_told}
use Rattle.endpoint_core.specs.Step.{Answer, State, answer}
use Rattle.capture_run.specs.Among.{with_event_among}
use Rattle.capture_run.specs.Outputs.{Outputs, event_of, named_by}
use Rattle.capture_run.specs.Writing.{with_answer, with_input}
use Rattle.stream_run.specs.Amidst.{PutsInOrder}
use Rattle.stream_run.specs.Sights.{Sight}
use Rattle.stream_run.specs.Stage.{Drains, FailedAt, Lead, PortsBetween, StandAt, StandBetween, StandsBetween, drains, health}
use Rattle.stream_run.specs.Steps.{changes_of}
use Rattle.stream_run.specs.Watched.{IsWatchedTake}
use Rattle.stream_run.specs.declared.fault.Target.{Target}
use Rattle.stream_run.specs.declared.fault.Target.TheVariants as targets
use Rattle.stream_run.proofs.Amidst.{at_none, front_input, put_at_line}
use Rattle.stream_run.proofs.Standing.{AreFronts, PortsLead, SinkLeads, fails_on, front_line, fronts_self, health_set, lead_behind, one_healthy, one_stands, ports_set}

-- ---- one output

pub stands_kept : (start old new : Drain) (o : List ℕ) → StandsBetween start old o o → Keeps old.written new.written → StandsBetween start new o o
stands_kept start old new o at kept = record {
  size = at.size;
  no_less = at.no_less;
  no_more = at.no_more;
  text = Appends-kept start.written old.written new.written (take at.size o) at.text kept;
}

module _ {T E : Type 0} where
  pub sink_handed : (start old new : Drain) (o : List ℕ) (result : Result T E) → StandsBetween start old o o → health old ≡ health start → IsHandedOn old new result
      → SinkLeads start new o o result
  sink_handed start old new o result at same handed = by old.is_failed refl handed
    where
      failed : (result : Result T E) → old.is_failed ≡ true → IsErr result → new ≡ old → SinkLeads start new o o result
      failed (Ok x) gone never still = absurd cc
      failed (Err e) gone is still = (subst (λ (d : Drain). StandsBetween start d o o) (sym still) at, λ sound. absurd (by_health gone sound))
        where
          by_health : old.is_failed ≡ true → start.is_failed ≡ false → ⊥
          by_health gone sound = let also : old.is_failed ≡ start.is_failed = ap (λ h. h.1) same in absurd cc

      went : (result : Result T E) → old.is_failed ≡ false → HandsOn old new result → SinkLeads start new o o result
      went (Ok x) sound h = (stands_kept start old new o at h.2, healthy h.0 h.1)
        where
          healthy : new.is_failed ≡ false → new.failures ≡ old.failures → health new ≡ health start
          healthy a b = rw (a, b) (ap (λ f. (old.failures, f)) (sym sound) ∙ same)
      went (Err e) sound h = (stands_kept start old new o at h.2, fails_on start old new same h.1)

      by : (b : Bool) → old.is_failed ≡ b → MatchBool b (IsErr result × (new ≡ old)) (HandsOn old new result) → SinkLeads start new o o result
      by true is h = failed result is h.0 h.1
      by false is h = went result is h

  -- ---- one of many

  pub ports_handed : (start sinks : List Drain) (i : ℕ) (d new : Drain) (texts : List (List ℕ)) (result : Result T E) → i < length sinks
      → IsHandedOn (slice_index_or sinks i d) new result → PortsBetween start sinks texts texts → map health sinks ≡ map health start
      → PortsLead start (slice_set sinks i new) texts texts i result
  ports_handed start sinks i d new texts result there handed at well =
      by result (λ x. sink_handed (slice_index_or start i x) (get_or sinks i d) new o result
      (one_stands start sinks i d x texts there at) (one_healthy start sinks i d x texts there at well) handed)
    where
      o : List ℕ
      o = slice_index_or texts i []

      set_again : ((x : Drain) → StandsBetween (slice_index_or start i x) new o o) → PortsBetween start (slice_set sinks i new) texts texts
      set_again each = subst (λ l. PortsBetween start (slice_set sinks i new) l l) (set-get_or texts i []) (ports_set start sinks texts i new o o there at each)

      by : (result : Result T E) → ((x : Drain) → SinkLeads (slice_index_or start i x) new o o result) → PortsLead start (slice_set sinks i new) texts texts i result
      by (Ok x) h = (set_again (λ x. (h x).0), health_set sinks i d new there ((h d).1 ∙ sym (one_healthy start sinks i d d texts there at well)) ∙ well)
      by (Err e) h = (set_again (λ x. (h x).0), λ x. rw (get_or-set_same sinks i new x there) ((h x).1))

-- ---- the outputs of a run

module _ (T E : Type 0) (start : Drains) (o : Outputs) where
  module _ (sinks : List Drain) (underlay : Drain) (written : Option (List ℕ)) (failures : ℕ) (held : List ℕ) (i : ℕ) (d new : Drain) (there : i < length sinks) (at : StandAt start (drains sinks underlay written failures held) o) where
    pub port_handed : (x : T) → IsHandedOn {T = T} {E = E} (slice_index_or sinks i d) new (Ok x) → StandAt start (drains (slice_set sinks i new) underlay written failures held) o
    port_handed x handed =
        let put = ports_handed {T = T} {E = E} start.ports sinks i d new o.ports (Ok x) there handed at.between.ports at.well.ports in
        record {
          between = record { ports = put.0; underlay = at.between.underlay; decisions = at.between.decisions; order = inl at.between.decisions };
          well = record { ports = put.1; underlay = at.well.underlay; decisions = at.well.decisions };
        }

    pub port_held : (e : E) → IsHandedOn {T = T} {E = E} (slice_index_or sinks i d) new (Err e)
        → StandBetween start (drains (slice_set sinks i new) underlay written failures held) o o × FailedAt (targets.Port (i + 1)) start (drains (slice_set sinks i new) underlay written failures held)
    port_held e handed =
        let put = ports_handed {T = T} {E = E} start.ports sinks i d new o.ports (Err e) there handed at.between.ports at.well.ports in
        let index : i + 1 - 1 ≡ i = omega arith in (
          record { ports = put.0; underlay = at.between.underlay; decisions = at.between.decisions; order = inl at.between.decisions },
          λ d. (omega arith, omega (arith, there, at.between.ports.many), rw index (put.1 d)),
        )

  module _ (ports : List Drain) (underlay new : Drain) (written : Option (List ℕ)) (failures : ℕ) (held : List ℕ) (at : StandAt start (drains ports underlay written failures held) o) where
    pub underlay_handed : (x : T) → IsHandedOn {T = T} {E = E} underlay new (Ok x) → StandAt start (drains ports new written failures held) o
    underlay_handed x handed =
        let put = sink_handed {T = T} {E = E} start.underlay underlay new o.underlay (Ok x) at.between.underlay at.well.underlay handed in
        record {
          between = record { ports = at.between.ports; underlay = put.0; decisions = at.between.decisions; order = inl at.between.decisions };
          well = record { ports = at.well.ports; underlay = put.1; decisions = at.well.decisions };
        }

    pub underlay_held : (e : E) → IsHandedOn {T = T} {E = E} underlay new (Err e) → StandBetween start (drains ports new written failures held) o o × FailedAt targets.Underlay start (drains ports new written failures held)
    underlay_held e handed =
        let put = sink_handed {T = T} {E = E} start.underlay underlay new o.underlay (Err e) at.between.underlay at.well.underlay handed in
        (record { ports = at.between.ports; underlay = put.0; decisions = at.between.decisions; order = inl at.between.decisions }, put.1)

module _ (start : Drains) (o : Outputs) where
  module _ (ports : List Drain) (underlay : Drain) (written now : Option (List ℕ)) (failures count : ℕ) (held held_now : List ℕ) (at : StandAt start (drains ports underlay written failures held) o) (kept : Keeps written now) where
    abbrev lines_before : Drain
    lines_before = record { written = written; failures = failures; is_failed = false; held = held }

    abbrev lines_behind : Drain
    lines_behind = record { written = now; failures = count; is_failed = false; held = held_now }

    pub lines_handed : count ≡ failures → StandAt start (drains ports underlay now count held_now) o
    lines_handed quiet =
        let stands = stands_kept start.decisions lines_before lines_behind o.decisions at.between.decisions kept in
        record {
          between = record { ports = at.between.ports; underlay = at.between.underlay; decisions = stands; order = inl stands };
          well = record { ports = at.well.ports; underlay = at.well.underlay; decisions = ap (λ (n : ℕ). (n, false)) quiet ∙ at.well.decisions };
        }

    pub lines_held : GoesOnBy 1 failures count → StandBetween start (drains ports underlay now count held_now) o o × FailedAt targets.Decisions start (drains ports underlay now count held_now)
    lines_held cause =
        let stands = stands_kept start.decisions lines_before lines_behind o.decisions at.between.decisions kept in
        (record { ports = at.between.ports; underlay = at.between.underlay; decisions = stands; order = inl stands }, fails_on start.decisions lines_before lines_behind at.well.decisions cause)

-- ---- behind an event

module _ (segments : Segments) (changes : List Change) (number : ℕ) (s : State) (o : Outputs) (e : Event) where
  pub front_event : AreFronts o (with_event_among segments changes number s o e)
  front_event = by (is_told segments s (event_of changes e))
    where
      by : (b : Bool) → AreFronts o (cond b (with_input number (named_by changes e.happening) o e (answer s (event_of changes e))) o)
      by true = front_input number (named_by changes e.happening) o e (answer s (event_of changes e))
      by false = fronts_self o

  module _ {T : Type 0} where
    pub in_order : (start new : Drains) (result : Result T Target)
        → Lead start new (with_event_among segments changes number s o e) (with_event_among segments changes number s o e) result
        → PutsInOrder start new number (named_by changes e.happening) o e (answer s (event_of changes e)) result
    in_order start new result lead = by (is_told segments s (event_of changes e)) result lead
      where
        a : Answer
        a = answer s (event_of changes e)

        named : Option ℕ
        named = named_by changes e.happening

        none : (result : Result T Target) → Lead start new o o result → PutsInOrder start new number named o e a result
        none (Ok x) lead = tt
        none (Err target) lead = at_none number named o e a start new lead.0

        by : (b : Bool) (result : Result T Target) → Lead start new (cond b (with_input number named o e a) o) (cond b (with_input number named o e a) o) result → PutsInOrder start new number named o e a result
        by true result lead =
            put_at_line number named o e a start new result
            (lead_behind start new (with_answer e.moment o a) (with_input number named o e a) (with_input number named o e a) result (front_line (with_answer e.moment o a) _) (record { ports = refl; underlay = refl }) lead)
        by false result lead = none result lead

module _ (segments : Segments) {T : Type 0} (sees : T → Sight → T → Type 0) where
  pub taken_and_handed : (changes : List TimedChange) (e : Event) (number : ℕ) (old new : State) (before mid behind : Drains) (old_watch new_watch : T) (result : Result (Unit {0}) Target)
      → IsWatchedTake segments sees changes e number old new before mid old_watch new_watch (Ok tt)
      → ((start : Drains) (o : Outputs) → StandAt start mid o → Lead start behind o o result)
      → IsWatchedTake segments sees changes e number old new before behind old_watch new_watch result
  taken_and_handed changes e number old new before mid behind old_watch new_watch result take handed = record {
    taken = record {
      state = take.taken.state;
      outputs = λ start o at.
          let next = with_event_among segments (changes_of changes) number old o e in
          lead_behind start behind o next next result (front_event segments (changes_of changes) number old o e) (record { ports = refl; underlay = refl }) (handed start next (take.taken.outputs start o at));
      order = λ start o at.
          let next = with_event_among segments (changes_of changes) number old o e in
          in_order segments (changes_of changes) number old o e start behind result (handed start next (take.taken.outputs start o at));
    };
    seen = take.seen;
  }
