use Rattle.std.proofs.Common.{◌≡◌, ◌∙◌, ◌+◌, ap, length, refl, inl, List, [], Err}
use Rattle.timeline.specs.declared.event.Event.{Event}
use Rattle.pcap.specs.Source.{Stream}
use Rattle.overlay.specs.Settings.{Settings}
use Rattle.overlay.specs.declared.settings.change.TimedChange.{TimedChange}
use Rattle.endpoint_core.specs.Opened.{settings_told}
use Rattle.endpoint_core.specs.Settings.{Settings as InForce}
use Rattle.endpoint_core.specs.Step.{State}
use Rattle.capture_run.specs.declared.fault.RunFault.TheVariants as faults
use Rattle.segment_set.specs.Segments.{Segments}
use Rattle.stream_run.specs.Begun.{first_turns}
use Rattle.stream_run.specs.Done.{IsDone}
use Rattle.stream_run.specs.Sights.{Sight}
use Rattle.stream_run.specs.Stage.{Drains}
use Rattle.stream_run.specs.declared.fault.StreamFault.TheVariants as stream
use Rattle.stream_run.proofs.Framing.{none_at}
use Rattle.stream_run.proofs.Overall.{over_wanting, reach_wanting, seen_wanting, tells_texts}
use Rattle.stream_run.proofs.runs.run_with.Goals as goal

-- nothing was opened, for want of memory
unopened : (segments : Segments) {S T : Type 0} (taken : S → InForce → List TimedChange → List Event → List Event) (nothing : (s : S) (settings : InForce) (changes : List TimedChange) → taken s settings changes [] ≡ []) (goes : S → InForce → List TimedChange → Event → S → Type 0) (sees : T → Sight → T → Type 0) (ends : T → State → T → Type 0) (s : Settings) (changes : List TimedChange) (ports : List Stream) (underlay : Stream) (start : Drains) (sieve : S) (watch : T)
    → length start.ports ≡ length ports → length ports ≡ length s.ports → IsDone segments taken goes sees ends s changes ports underlay ports underlay start start sieve sieve watch watch (Err (stream.Run faults.OutOfMemory))
unopened segments taken nothing goes sees ends s changes ports underlay start sieve watch sinks many = record {
  left = inl refl;
  shown = inl (none_at start (length s.ports) (sinks ∙ many), refl);
  over = λ texts text tells.
      let none = none_at start (length texts) (sinks ∙ tells_texts ports underlay texts text tells) in
      record {
        left = over_wanting (taken sieve (settings_told s) changes) (nothing sieve (settings_told s) changes) segments s changes texts text start start refl none;
        reached = reach_wanting (taken sieve (settings_told s) changes) (nothing sieve (settings_told s) changes) segments s changes texts text start start ports underlay refl none;
        seen = seen_wanting (taken sieve (settings_told s) changes) (nothing sieve (settings_told s) changes) segments s changes texts text start start sees ends watch refl none;
        went = tt;
      };
}

pub returns-in_default-clause-done : goal.returns-in_default-clause-done
returns-in_default-clause-done g c = unopened c.args.job.segments.now g.S.Sieve.taken g.S.Sieve.none g.S.Sieve.goes g.T.Watch.sees g.T.Watch.ends c.args.job.settings c.args.job.changes.now c.args.captures.now.ports.items c.args.captures.now.underlay _ c.args.sieve.now c.args.watch.now c.requires.sinks c.requires.ports

pub returns-in_default-open-clause-done : goal.returns-in_default-open-clause-done
returns-in_default-open-clause-done g c = unopened c.args.job.segments.now g.S.Sieve.taken g.S.Sieve.none g.S.Sieve.goes g.T.Watch.sees g.T.Watch.ends c.args.job.settings c.args.job.changes.now c.args.captures.now.ports.items c.args.captures.now.underlay _ c.args.sieve.now c.args.watch.now c.requires.sinks c.requires.ports

pub returns-clause-done : goal.returns-clause-done
returns-clause-done g c = c.run_on.ensures.done c.args.job.settings (record { state_is = c.in-Ok-open.ensures; many = c.requires.ports })

pub returns-clause-reads : goal.returns-clause-reads
returns-clause-reads g c = c.run_on.ensures.reads

pub run_on-requires-clause-opened : goal.run_on-requires-clause-opened
run_on-requires-clause-opened g c = (c.args.job.settings, record { state_is = c.in-Ok-open.ensures; many = c.requires.ports })

pub run_on-requires-clause-turns : goal.run_on-requires-clause-turns
run_on-requires-clause-turns g c =
    c.in-Ok.ensures ∙ ap (λ n. first_turns c.args.job.changes.now (n + 1)) (c.len.ensures ∙ c.args.captures.now.ports.ok.0)
