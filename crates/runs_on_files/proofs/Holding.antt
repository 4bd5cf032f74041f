-- What a run left in its outputs, and its outputs handed on, is in its files.
use Rattle.std.proofs.Common.{◌≡◌, ◌<◌, ◌==◌, ℕ, List, [], length, map, get_or, Option, None, Some, Result, Ok, Err, true, false, Bool, Vec, is_ok, sym, ap, ◌∙◌, subst, ⊎_elim, arith}
use Rattle.std.proofs.lemmas.List.{get_or-map, length-map, take_all}
use Rattle.std.proofs.lemmas.List.Elements.{AllZip-get_or, length_all_zip}
use Rattle.std.specs.Io.KnownBytes.{Appends, Keeps}
use Rattle.std.specs.Prelude.{IfOk, IfSome, MatchBool}
use Rattle.std.proofs.lemmas.Bool.{true≢false}
use Rattle.capture_run.specs.declared.fault.RunFault.TheVariants as faults
use Rattle.std.specs.declared.alloc.Global.{Global}
use Rattle.pcap.specs.Sink.{Drain}
use Rattle.pcap.specs.Source.{Stream}
use Rattle.timeline.specs.declared.event.Event.{Event}
use Rattle.overlay.specs.declared.settings.change.TimedChange.{TimedChange}
use Rattle.overlay_config.specs.Fault.{Meaning}
use Rattle.overlay_config.specs.Settings.{Settings}
use Rattle.segment_set.specs.Segments.{Segments}
use Rattle.capture_run.specs.Among.{run_among}
use Rattle.capture_run.specs.Outputs.{Outputs}
use Rattle.stream_run.specs.Left.{AnswersSieved, Ends, Leaves, Refuses, ends, texts_of}
use Rattle.stream_run.specs.Over.{IsRunOverSieved, Tells, texts_at, texts_octets, whole_records}
use Rattle.stream_run.specs.Sieved.{all_taken}
use Rattle.stream_run.specs.Reached.{IsReachedOverSieved}
use Rattle.stream_run.specs.Stage.{Drains, Everything, StandAt, StandsBetween}
use Rattle.stream_run.specs.Steps.{AreReadBehind}
use Rattle.program_files.specs.Held.{AreHandedOn, Held, written}
use Rattle.runs_on_files.specs.Held.{HoldMore, IsRunInto}

appends_kept : (a b c : Option (List ℕ)) (text : List ℕ) → Appends a b text → Keeps b c → Appends a c text
appends_kept None b c text h k = tt
appends_kept (Some x) None c text h k = absurd h
appends_kept (Some x) (Some y) None text h k = absurd k
appends_kept (Some x) (Some y) (Some z) text h k = k ∙ h

-- an output that stands at just this text
appended : (old new : Drain) (text : List ℕ) → StandsBetween old new text text → Appends old.written new.written text
appended old new text h = subst (λ t. Appends old.written new.written t) (take_all h.size text h.no_less) h.text

no_drain : Drain
no_drain = record { written = None; failures = 0; is_failed = false; held = [] }

pub held_more : (old new : Drains) (held : Held) (texts : Outputs) → StandAt old new texts → AreHandedOn (written new) held → HoldMore (written old) held texts
held_more old new held texts h kept =
    let written = λ (d : Drain). d.written in
    let ports = h.between.ports in
    let many_old = length-map old.ports written in
    let many_new = length-map new.ports written in
    let zipped = length_all_zip Keeps (map written new.ports) held.ports kept.ports in
    record {
      many = sym zipped ∙ many_new ∙ ports.many ∙ sym many_old;
      many_texts = ports.many_least ∙ sym many_old;
      ports = λ k low.
          let in_old : k < length old.ports = omega (arith, many_old) in
          let in_new : k < length new.ports = omega (arith, ports.many) in
          let in_written : k < length (map written new.ports) = omega (arith, many_new) in
          appends_kept _ _ _ _
          (subst (λ (a : Option (List ℕ)). Appends a (get_or (map written new.ports) k None) (get_or texts.ports k [])) (sym (get_or-map written old.ports k no_drain None in_old))
          (subst (λ (b : Option (List ℕ)). Appends (get_or old.ports k no_drain).written b (get_or texts.ports k [])) (sym (get_or-map written new.ports k no_drain None in_new))
          (appended (get_or old.ports k no_drain) (get_or new.ports k no_drain) (get_or texts.ports k []) (ports.each no_drain k in_old))))
          (AllZip-get_or Keeps (map written new.ports) held.ports k None None kept.ports in_written);
      underlay = appends_kept _ _ _ _ (appended old.underlay new.underlay texts.underlay h.between.underlay) kept.underlay;
      decisions = appends_kept _ _ _ _ (appended old.decisions new.decisions texts.decisions h.between.decisions) kept.decisions;
    }

module _ (taken : List Event → List Event) (segments : Segments) where
  -- a run that stopped at no fault leaves the texts of some events
  leaves : (s : Settings) (changes : List TimedChange) (m : Meaning Settings) (c : Meaning (List TimedChange)) (old new : Ends) → m ≡ Ok s → c ≡ Ok changes
      → AnswersSieved taken segments m c old new (Ok tt) → Leaves taken segments s changes old new (Ok tt)
  leaves s changes m c old new of_m of_c h = by (length old.ports == length s.ports) (subst (λ k. AnswersSieved taken segments (Ok s) k old new (Ok tt)) of_c (subst (λ k. AnswersSieved taken segments k c old new (Ok tt)) of_m h))
    where
      by : (b : Bool) → MatchBool b (Leaves taken segments s changes old new (Ok tt)) (Refuses faults.PortCount old new (Ok tt)) → Leaves taken segments s changes old new (Ok tt)
      by true k = k
      by false k = absurd (⊎_elim (λ e. true≢false (ap is_ok e)) (λ e. true≢false (ap is_ok e)) k.0)

  -- and where the captures tell their octets, those of the run of all texts
  holds : (s : Settings) (changes : List TimedChange) (m : Meaning Settings) (c : Meaning (List TimedChange)) (texts : List (Vec ℕ Global)) (text : List ℕ) (old new : Drains) → m ≡ Ok s → c ≡ Ok changes
      → IsRunOverSieved taken segments m c texts text old new (Ok tt) → (run_among segments m c texts text ≡ Ok (texts_at all_taken segments s changes texts text Everything)) × StandAt old new (texts_at taken segments s changes texts text Everything)
  holds s changes m c texts text old new of_m of_c =
      let Goal : Meaning Settings → Meaning (List TimedChange) → Type 0 = λ m c. IsRunOverSieved taken segments m c texts text old new (Ok tt) → (run_among segments m c texts text ≡ Ok (texts_at all_taken segments s changes texts text Everything)) × StandAt old new (texts_at taken segments s changes texts text Everything) in
      subst (λ m. Goal m c) (sym of_m) (subst (λ c. Goal (Ok s) c) (sym of_c) (λ h. h))

  -- and each was read to its end
  reaches : (s : Settings) (changes : List TimedChange) (m : Meaning Settings) (c : Meaning (List TimedChange)) (texts : List (Vec ℕ Global)) (text : List ℕ) (old new : Drains) (ports : List Stream) (underlay : Stream)
      → m ≡ Ok s → c ≡ Ok changes → IsReachedOverSieved taken segments m c texts text old new ports underlay (Ok tt)
      → AreReadBehind {T = Unit {0}} (texts_octets texts) text (whole_records changes texts text).events ports underlay (Ok tt)
  reaches s changes m c texts text old new ports underlay of_m of_c h =
      subst (λ k. IsReachedOverSieved taken segments (Ok s) k texts text old new ports underlay (Ok tt)) of_c
      (subst (λ k. IsReachedOverSieved taken segments k c texts text old new ports underlay (Ok tt)) of_m h)

  pub run_into : (m : Meaning Settings) (c : Meaning (List TimedChange)) (asked : Settings) (told : List TimedChange) → m ≡ Ok asked → c ≡ Ok told
      → (ports : List Stream) (underlay : Stream) (new_ports : List Stream) (new_underlay : Stream) (old new : Drains) (held : Held)
      → AnswersSieved taken segments m c (ends ports underlay old) (ends new_ports new_underlay new) (Ok tt)
      → ((texts : List (Vec ℕ Global)) (text : List ℕ) → Tells ports underlay texts text → IsRunOverSieved taken segments m c texts text old new (Ok tt))
      → ((texts : List (Vec ℕ Global)) (text : List ℕ) → Tells ports underlay texts text → IsReachedOverSieved taken segments m c texts text old new new_ports new_underlay (Ok tt))
      → AreHandedOn (written new) held → IsRunInto taken segments m c ports underlay new_ports new_underlay (written old) held
  run_into m c asked told of_m of_c ports underlay new_ports new_underlay old new held run over reached kept =
      let some = leaves asked told m c (ends ports underlay old) (ends new_ports new_underlay new) of_m of_c run in
      record {
        some = record {
          asked = asked;
          told = told;
          settings_are = of_m;
          changes_are = of_c;
          events = some.0;
          cuts = some.1;
          held = held_more old new held (texts_of taken segments asked told some.0 some.1) some.2 kept;
        };
        over = λ texts text tells.
            let found = holds asked told m c texts text old new of_m of_c (over texts text tells) in
            record {
              asked = asked;
              told = told;
              settings_are = of_m;
              changes_are = of_c;
              run_is = found.0;
              held = held_more old new held (texts_at taken segments asked told texts text Everything) found.1 kept;
              read = reaches asked told m c texts text old new new_ports new_underlay of_m of_c (reached texts text tells);
            };
      }

-- what holds of a run where a folder is named
pub where_named : {A B C : Type 0} (folder : Option A) → (B → C) → IfSome folder (λ _. B) → IfSome folder (λ _. C)
where_named None f h = tt
where_named (Some x) f h = f h

-- the same where it stopped at no fault
pub where_done : {T E A B C : Type 0} (result : Result T E) (folder : Option A) → (B → C) → IfOk result (λ _. IfSome folder (λ _. B)) → IfOk result (λ _. IfSome folder (λ _. C))
where_done (Ok x) folder f h = where_named folder f h
where_done (Err e) folder f h = tt

-- what holds anyhow holds where one is named
pub if_some : {A B : Type 0} (folder : Option A) → B → IfSome folder (λ _. B)
if_some None h = tt
if_some (Some x) h = h
