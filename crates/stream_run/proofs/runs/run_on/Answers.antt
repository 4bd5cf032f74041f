use Rattle.std.proofs.Common.{rules, ◌≡◌, ◌∙◌, ◌+◌, arith, ap, sym, subst, refl, length, Bool, ℕ, List, Vec, Global, Err}
use Rattle.std.proofs.lemmas.List.{places, with_items_is}
use Rattle.std.specs.Vec.{with_items}
use Rattle.overlay.specs.Settings.{Settings}
use Rattle.timeline.specs.declared.event.Event.{Event}
use Rattle.capture_run.specs.Among.{cuts_among}
use Rattle.capture_run.specs.Outputs.{Outputs}
use Rattle.capture_run.specs.Writing.{empty_outputs, with_cuts}
use Rattle.endpoint_core.specs.Kept.{state_of}
use Rattle.endpoint_core.specs.Opened.{settings_told}
use Rattle.endpoint_core.specs.Step.{State}
use Rattle.stream_run.specs.Begun.{AreAtFirst, first_turns}
use Rattle.stream_run.specs.Cuts.{cuts_at}
use Rattle.stream_run.specs.Left.{IsOpenedWith, ends}
use Rattle.stream_run.specs.Over.{Tells, texts_octets}
use Rattle.stream_run.specs.Sieved.{GoesBy}
use Rattle.stream_run.specs.Stage.{FailedAt, StandAt, StandBetween, no_texts}
use Rattle.stream_run.specs.Steps.{AreRead, AreReady, run_at, texts_behind}
use Rattle.stream_run.specs.declared.turn.Turn.{Turn}
use Rattle.stream_run.proofs.Closing.{opened_read, over_lines, over_opening, over_run, over_whole, reach_lines, reach_opening, reach_run, reach_whole, seen_lines, seen_opening, seen_run, seen_whole, went_whole}
use Rattle.stream_run.proofs.Framing.{leaves_all, leaves_begun, leaves_cuts, leaves_events, leaves_headers, leaves_nothing, none_at, opened_all, opens_only_reads, ready_begun}
use Rattle.stream_run.proofs.Opened.{reads_behind}
use Rattle.stream_run.proofs.Overall.{all_first, over_firsts, over_headers, reach_firsts, reach_headers, seen_firsts, seen_headers, tells_texts}
use Rattle.stream_run.proofs.Running.{quiet_on, with_settings}
use Rattle.stream_run.proofs.Showing.{shows_all, shows_begun, shows_cuts, shows_events, shows_headers, shows_nothing}
use Rattle.stream_run.specs.Waiting.{IsOutAtRead}
use Rattle.stream_run.proofs.Waiting.{out_at_read}
use Rattle.stream_run.proofs.runs.run_on.Given.{Over}
use Rattle.stream_run.proofs.runs.run_on.Goals.{After-fetch_all, After-open_all, After-put_cuts_among, In-Err-begin_all, In-Err-put_cuts_among, In_default-fetch_all}
use Rattle.stream_run.proofs.runs.run_on.Goals as goal

-- ---- how far it has come

-- before anything is written
none_written : (g : Over) (c : After-open_all g) (n : ℕ) → length c.args.captures.now.ports.items ≡ n → let start = c.args.outputs.now in StandAt start start (no_texts n)
none_written g c n many = none_at c.args.outputs.now n (c.requires.sinks ∙ many)

-- where a header failed, they hold a part of the headers
header_failed : (g : Over) (c : In-Err-begin_all g) (n : ℕ) → length c.args.captures.now.ports.items ≡ n
    → let start = c.args.outputs.now in let begun = c.begin_all.new.outputs in
    StandBetween start begun (no_texts n) (empty_outputs n) × FailedAt c.in-Err-begin_all.target start begun
header_failed g c n many =
    let start = c.args.outputs.now in
    let begun = c.begin_all.new.outputs in
    subst (λ n. StandBetween start begun (no_texts n) (empty_outputs n) × FailedAt c.in-Err-begin_all.target start begun) (c.requires.sinks ∙ many)
    (c.in-Err-begin_all.ensures.begun start (none_at start (length c.args.outputs.now.ports) refl))

-- behind the headers
headers_written : (g : Over) (c : After-fetch_all g) (n : ℕ) → length c.args.captures.now.ports.items ≡ n
    → let start = c.args.outputs.now in let begun = c.begin_all.new.outputs in StandAt start begun (empty_outputs n)
headers_written g c n many =
    let start = c.args.outputs.now in
    let begun = c.begin_all.new.outputs in
    subst (λ n. StandAt start begun (empty_outputs n)) (c.requires.sinks ∙ many) (c.in_default-begin_all.ensures.begun start (none_at start (length c.args.outputs.now.ports) refl))

-- the captures are as many as before, and where they tell their octets, they stand at their first records
as_many : (g : Over) (c : After-fetch_all g) → length c.open_all.new.captures.ports.items ≡ length c.args.captures.now.ports.items
as_many g c = omega (arith, c.in_default.ensures.many)

at_first : (g : Over) (c : After-fetch_all g) (texts : List (Vec ℕ Global)) (text : List ℕ) → Tells c.args.captures.now.ports.items c.args.captures.now.underlay texts text
    → AreAtFirst (texts_octets texts) text c.open_all.new.captures.ports.items c.open_all.new.captures.underlay
at_first g c texts text tells = opened_read c.args.captures.now.ports.items c.open_all.new.captures.ports.items c.args.captures.now.underlay c.open_all.new.captures.underlay texts text tells (as_many g c) c.in_default.ensures.opened

-- where the sources stand behind the fetches
abbrev turns_behind : (g : Over) → In_default-fetch_all g → List Turn
turns_behind g c = (with_items c.args.taker.now.turns c.fetch_all.new.turns).items

turns_fetched : (g : Over) (c : In_default-fetch_all g) → turns_behind g c ≡ c.fetch_all.new.turns
turns_fetched g c = with_items_is c.args.taker.now.turns c.fetch_all.new.turns (search (rules, places))

-- the first records were fetched
ready : (g : Over) (c : In_default-fetch_all g) (settings : Settings) → IsOpenedWith settings c.args.captures.now.ports.items (state_of c.args.taker.now.endpoint)
    → AreReady c.args.part.now.changes.now 0 (run_at c.fetch_all.new.captures.ports.items c.fetch_all.new.captures.underlay (turns_behind g c) (state_of c.args.taker.now.endpoint) 0 c.begin_all.new.outputs)
ready g c settings is =
    let begun = c.begin_all.new.outputs in
    let many : length c.open_all.new.captures.ports.items ≡ length c.args.captures.now.ports.items = omega (arith, c.in_default.ensures.many) in
    let turns : c.as_mut_slice-turns.result.now ≡ _ = c.as_mut_slice-turns.ensures.value ∙ c.requires.turns ∙ ap (λ n. first_turns c.args.part.now.changes.now (n + 1)) (sym many) in
    subst (λ ts. AreReady c.args.part.now.changes.now 0 (run_at c.fetch_all.new.captures.ports.items c.fetch_all.new.captures.underlay ts (state_of c.args.taker.now.endpoint) 0 begun)) (sym (turns_fetched g c))
    (c.in_default-fetch_all.ensures.ready (state_of c.args.taker.now.endpoint) begun (ap (λ (s : State). s.moment) is.state_is)
    (ready_begun c.args.part.now.changes.now c.open_all.new.captures.ports.items c.open_all.new.captures.underlay settings (state_of c.args.taker.now.endpoint) begun _ c.requires.timely (omega (arith, many, c.requires.few)) (many ∙ is.many) is.state_is turns))

read : (g : Over) (c : In_default-fetch_all g) (texts : List (Vec ℕ Global)) (text : List ℕ) → AreAtFirst (texts_octets texts) text c.open_all.new.captures.ports.items c.open_all.new.captures.underlay
    → AreRead (texts_octets texts) text (turns_behind g c) c.fetch_all.new.captures.ports.items c.fetch_all.new.captures.underlay
read g c texts text at = subst (λ ts. AreRead (texts_octets texts) text ts c.fetch_all.new.captures.ports.items c.fetch_all.new.captures.underlay) (sym (turns_fetched g c)) (c.in_default-fetch_all.ensures.told (texts_octets texts) text at)

-- behind the events of which these are taken in
abbrev texts_put : (g : Over) → After-put_cuts_among g → ℕ → List Event → Outputs
texts_put g c n es = texts_behind c.args.part.now.segments.now c.args.part.now.changes.now (state_of c.args.taker.now.endpoint) (empty_outputs n) es

-- where a line of a cut capture failed, they hold a part of those lines
lines_failed : (g : Over) (c : In-Err-put_cuts_among g) (n : ℕ) (es : List Event)
    → let start = c.args.outputs.now in let o = texts_behind c.args.part.now.segments.now c.args.part.now.changes.now (state_of c.args.taker.now.endpoint) (empty_outputs n) es in StandAt start c.put_events.new.outputs o
    → let cut = c.put_cuts_among.new.outputs in StandBetween start cut o (with_cuts o (cuts_among c.args.part.now.segments.now (cuts_at c.put_events.new.captures.ports.items c.put_events.new.captures.underlay c.put_events.new.taker.turns.items))) × FailedAt c.in-Err-put_cuts_among.target start cut
lines_failed g c n es put =
    let start = c.args.outputs.now in
    let o = texts_behind c.args.part.now.segments.now c.args.part.now.changes.now (state_of c.args.taker.now.endpoint) (empty_outputs n) es in
    let cut = c.put_cuts_among.new.outputs in
    subst (λ ts. StandBetween start cut o (with_cuts o (cuts_among c.args.part.now.segments.now (cuts_at c.put_events.new.captures.ports.items c.put_events.new.captures.underlay ts))) × FailedAt c.in-Err-put_cuts_among.target start cut) c.as_slice-turns.ensures.value
    (c.in-Err-put_cuts_among.ensures start o put)

-- ---- a capture can't be opened

pub returns-in-Err-clause-done : goal.returns-in-Err-clause-done
returns-in-Err-clause-done g c settings is =
    let w = goal.at.returns-in-Err-clause-done g c in
    let start = c.args.outputs.now in
    let none = none_written g w.After-open_all in
    let only_reads = opens_only_reads c.args.captures.now.ports.items c.args.captures.now.underlay c.open_all.new.captures.ports.items c.open_all.new.captures.underlay c.in-Err.fault c.in-Err.ensures.opened in
    record {
      left = leaves_nothing (g.S.Sieve.taken c.args.sieve.now (settings_told settings) c.args.part.now.changes.now) (g.S.Sieve.none c.args.sieve.now (settings_told settings) c.args.part.now.changes.now) c.args.part.now.segments.now settings c.args.part.now.changes.now (ends c.args.captures.now.ports.items c.args.captures.now.underlay start) (ends c.open_all.new.captures.ports.items c.open_all.new.captures.underlay start) c.in-Err.fault only_reads (none (length settings.ports) is.many);
      shown = shows_nothing (g.S.Sieve.taken c.args.sieve.now (settings_told settings) c.args.part.now.changes.now) (g.S.Sieve.none c.args.sieve.now (settings_told settings) c.args.part.now.changes.now) c.args.part.now.segments.now settings c.args.part.now.changes.now start start g.T.Watch.sees g.T.Watch.ends c.args.watch.now c.in-Err.fault only_reads (none (length settings.ports) is.many);
      over = λ texts text tells.
          let many = tells_texts c.args.captures.now.ports.items c.args.captures.now.underlay texts text tells in
          record {
            left = over_opening (g.S.Sieve.taken c.args.sieve.now (settings_told settings) c.args.part.now.changes.now) (g.S.Sieve.none c.args.sieve.now (settings_told settings) c.args.part.now.changes.now) c.args.part.now.segments.now settings c.args.part.now.changes.now texts text start start c.args.captures.now.ports.items c.open_all.new.captures.ports.items c.args.captures.now.underlay c.open_all.new.captures.underlay c.in-Err.fault tells c.in-Err.ensures.opened (sym many ∙ is.many) (none (length texts) many);
            reached = reach_opening (g.S.Sieve.taken c.args.sieve.now (settings_told settings) c.args.part.now.changes.now) (g.S.Sieve.none c.args.sieve.now (settings_told settings) c.args.part.now.changes.now) c.args.part.now.segments.now settings c.args.part.now.changes.now texts text start start c.args.captures.now.ports.items c.open_all.new.captures.ports.items c.args.captures.now.underlay c.open_all.new.captures.underlay c.in-Err.fault c.in-Err.ensures.opened (none (length texts) many);
            seen = seen_opening (g.S.Sieve.taken c.args.sieve.now (settings_told settings) c.args.part.now.changes.now) (g.S.Sieve.none c.args.sieve.now (settings_told settings) c.args.part.now.changes.now) c.args.part.now.segments.now settings c.args.part.now.changes.now texts text start g.T.Watch.sees g.T.Watch.ends c.args.watch.now start c.args.captures.now.ports.items c.open_all.new.captures.ports.items c.args.captures.now.underlay c.open_all.new.captures.underlay c.in-Err.fault c.in-Err.ensures.opened (none (length texts) many);
            went = tt;
          };
    }

-- ---- a header can't be written

pub returns-in-Err-begin_all-clause-done : goal.returns-in-Err-begin_all-clause-done
returns-in-Err-begin_all-clause-done g c settings is =
    let w = goal.at.returns-in-Err-begin_all-clause-done g c in
    let start = c.args.outputs.now in
    let begun = c.begin_all.new.outputs in
    let failed = header_failed g w.In-Err-begin_all in
    record {
      left = leaves_begun (g.S.Sieve.taken c.args.sieve.now (settings_told settings) c.args.part.now.changes.now) (g.S.Sieve.none c.args.sieve.now (settings_told settings) c.args.part.now.changes.now) c.args.part.now.segments.now settings c.args.part.now.changes.now (ends c.args.captures.now.ports.items c.args.captures.now.underlay start) (ends c.open_all.new.captures.ports.items c.open_all.new.captures.underlay begun) c.in-Err-begin_all.target (failed (length settings.ports) is.many);
      shown = shows_begun (g.S.Sieve.taken c.args.sieve.now (settings_told settings) c.args.part.now.changes.now) (g.S.Sieve.none c.args.sieve.now (settings_told settings) c.args.part.now.changes.now) c.args.part.now.segments.now settings c.args.part.now.changes.now start begun g.T.Watch.sees g.T.Watch.ends c.args.watch.now c.in-Err-begin_all.target (failed (length settings.ports) is.many).0;
      over = λ texts text tells.
          let many = tells_texts c.args.captures.now.ports.items c.args.captures.now.underlay texts text tells in
          let half = (failed (length texts) many).0 in
          let can = all_first texts text c.open_all.new.captures.ports.items c.open_all.new.captures.underlay (opened_read c.args.captures.now.ports.items c.open_all.new.captures.ports.items c.args.captures.now.underlay c.open_all.new.captures.underlay texts text tells (omega (arith, c.in_default.ensures.many)) c.in_default.ensures.opened) in
          record {
            left = over_headers (g.S.Sieve.taken c.args.sieve.now (settings_told settings) c.args.part.now.changes.now) (g.S.Sieve.none c.args.sieve.now (settings_told settings) c.args.part.now.changes.now) c.args.part.now.segments.now settings c.args.part.now.changes.now texts text start begun c.in-Err-begin_all.target can half;
            reached = reach_headers (g.S.Sieve.taken c.args.sieve.now (settings_told settings) c.args.part.now.changes.now) (g.S.Sieve.none c.args.sieve.now (settings_told settings) c.args.part.now.changes.now) c.args.part.now.segments.now settings c.args.part.now.changes.now texts text start begun c.open_all.new.captures.ports.items c.open_all.new.captures.underlay c.in-Err-begin_all.target can half;
            seen = seen_headers (g.S.Sieve.taken c.args.sieve.now (settings_told settings) c.args.part.now.changes.now) (g.S.Sieve.none c.args.sieve.now (settings_told settings) c.args.part.now.changes.now) c.args.part.now.segments.now settings c.args.part.now.changes.now texts text start begun g.T.Watch.sees g.T.Watch.ends c.args.watch.now c.in-Err-begin_all.target can half;
            went = tt;
          };
    }

-- ---- a first record can't be fetched

pub fetch_all-requires-clause-open : goal.fetch_all-requires-clause-open
fetch_all-requires-clause-open g c = opened_all c.args.captures.now.ports.items c.args.captures.now.underlay c.open_all.new.captures.ports.items c.open_all.new.captures.underlay (omega (arith, c.in_default.ensures.many)) c.in_default.ensures.opened

pub returns-in-Err-fetch_all-clause-done : goal.returns-in-Err-fetch_all-clause-done
returns-in-Err-fetch_all-clause-done g c settings is =
    let w = goal.at.returns-in-Err-fetch_all-clause-done g c in
    let start = c.args.outputs.now in
    let begun = c.begin_all.new.outputs in
    let headers = headers_written g w.After-fetch_all in
    record {
      left = leaves_headers (g.S.Sieve.taken c.args.sieve.now (settings_told settings) c.args.part.now.changes.now) (g.S.Sieve.none c.args.sieve.now (settings_told settings) c.args.part.now.changes.now) c.args.part.now.segments.now settings c.args.part.now.changes.now (ends c.args.captures.now.ports.items c.args.captures.now.underlay start) (ends c.fetch_all.new.captures.ports.items c.fetch_all.new.captures.underlay begun) c.in-Err-fetch_all.fault c.in-Err-fetch_all.ensures.only_reads (headers (length settings.ports) is.many);
      shown = shows_headers (g.S.Sieve.taken c.args.sieve.now (settings_told settings) c.args.part.now.changes.now) (g.S.Sieve.none c.args.sieve.now (settings_told settings) c.args.part.now.changes.now) c.args.part.now.segments.now settings c.args.part.now.changes.now start begun g.T.Watch.sees g.T.Watch.ends c.args.watch.now c.in-Err-fetch_all.fault c.in-Err-fetch_all.ensures.only_reads (headers (length settings.ports) is.many);
      over = λ texts text tells.
          let many = tells_texts c.args.captures.now.ports.items c.args.captures.now.underlay texts text tells in
          let at = headers (length texts) many in
          let first = at_first g w.After-fetch_all texts text tells in
          let can = all_first texts text c.open_all.new.captures.ports.items c.open_all.new.captures.underlay first in
          let told = c.in-Err-fetch_all.ensures.told (texts_octets texts) text first in
          record {
            left = over_firsts (g.S.Sieve.taken c.args.sieve.now (settings_told settings) c.args.part.now.changes.now) (g.S.Sieve.none c.args.sieve.now (settings_told settings) c.args.part.now.changes.now) c.args.part.now.segments.now settings c.args.part.now.changes.now texts text start begun c.in-Err-fetch_all.fault c.fetch_all.new.turns c.fetch_all.new.captures.ports.items c.fetch_all.new.captures.underlay told can at;
            reached = reach_firsts (g.S.Sieve.taken c.args.sieve.now (settings_told settings) c.args.part.now.changes.now) (g.S.Sieve.none c.args.sieve.now (settings_told settings) c.args.part.now.changes.now) c.args.part.now.segments.now settings c.args.part.now.changes.now texts text start begun c.in-Err-fetch_all.fault c.fetch_all.new.turns c.fetch_all.new.captures.ports.items c.fetch_all.new.captures.underlay told can at;
            seen = seen_firsts (g.S.Sieve.taken c.args.sieve.now (settings_told settings) c.args.part.now.changes.now) (g.S.Sieve.none c.args.sieve.now (settings_told settings) c.args.part.now.changes.now) c.args.part.now.segments.now settings c.args.part.now.changes.now texts text start begun g.T.Watch.sees g.T.Watch.ends c.args.watch.now c.in-Err-fetch_all.fault c.fetch_all.new.turns c.fetch_all.new.captures.ports.items c.fetch_all.new.captures.underlay told can at;
            went = tt;
          };
    }

pub returns-in-Err-fetch_all-clause-reads : goal.returns-in-Err-fetch_all-clause-reads
returns-in-Err-fetch_all-clause-reads g c =
    reads_behind {T = Unit {0}} c.args.captures.now.ports.items c.open_all.new.captures.ports.items c.fetch_all.new.captures.ports.items c.args.captures.now.underlay c.open_all.new.captures.underlay c.fetch_all.new.captures.underlay (Err c.in-Err-fetch_all.fault) c.in_default.ensures.reads c.in-Err-fetch_all.ensures.reads

-- ---- it stops among the events

pub put_events-requires-clause-ready : goal.put_events-requires-clause-ready
put_events-requires-clause-ready g c = ready g (goal.at.put_events-requires-clause-ready g c).In_default-fetch_all c.requires.opened.0 c.requires.opened.1

pub returns-in-Err-put_events-clause-done : goal.returns-in-Err-put_events-clause-done
returns-in-Err-put_events-clause-done g c settings is =
    let w = goal.at.returns-in-Err-put_events-clause-done g c in
    let start = c.args.outputs.now in
    let begun = c.begin_all.new.outputs in
    let headers = headers_written g w.After-fetch_all in
    let all_ready = ready g w.In_default-fetch_all settings is in
    let on = with_settings c.args.part.now.segments.now g.S.Sieve.taken g.S.Sieve.goes g.T.Watch.sees c.args.part.now.changes.now _ _ c.args.sieve.now _ (settings_told settings) _ c.args.watch.now _ _ (ap (λ (s : State). s.bridges.settings) is.state_is) c.in-Err-put_events.ensures.run in
    let run = on.watched.run in
    let n = length settings.ports in
    record {
      left = leaves_events (g.S.Sieve.taken c.args.sieve.now (settings_told settings) c.args.part.now.changes.now) (g.S.Sieve.none c.args.sieve.now (settings_told settings) c.args.part.now.changes.now) c.args.part.now.segments.now settings c.args.part.now.changes.now (ends c.args.captures.now.ports.items c.args.captures.now.underlay start) (ends c.put_events.new.captures.ports.items c.put_events.new.captures.underlay c.put_events.new.outputs) (state_of c.args.taker.now.endpoint) run.es run.more c.in-Err-put_events.fault is.state_is run.part run.numbered
          (run.outputs start (empty_outputs n) (headers n is.many)) (run.order start (empty_outputs n) (headers n is.many));
      shown = shows_events (g.S.Sieve.taken c.args.sieve.now (settings_told settings) c.args.part.now.changes.now) (g.S.Sieve.none c.args.sieve.now (settings_told settings) c.args.part.now.changes.now) c.args.part.now.segments.now settings c.args.part.now.changes.now start begun g.T.Watch.sees g.T.Watch.ends c.args.watch.now
          (run_at c.fetch_all.new.captures.ports.items c.fetch_all.new.captures.underlay (turns_behind g w.In_default-fetch_all) (state_of c.args.taker.now.endpoint) 0 begun) _ is.state_is (headers n is.many) c.put_events.new.watch c.in-Err-put_events.fault on.watched;
      over = λ texts text tells.
          let many = tells_texts c.args.captures.now.ports.items c.args.captures.now.underlay texts text tells in
          let at = headers (length texts) many in
          let first = read g w.In_default-fetch_all texts text (at_first g w.After-fetch_all texts text tells) in
          record {
            left = over_run (g.S.Sieve.taken c.args.sieve.now (settings_told settings) c.args.part.now.changes.now) (g.S.Sieve.none c.args.sieve.now (settings_told settings) c.args.part.now.changes.now) c.args.part.now.segments.now settings c.args.part.now.changes.now texts text start c.fetch_all.new.captures.ports.items c.fetch_all.new.captures.underlay (turns_behind g w.In_default-fetch_all) (state_of c.args.taker.now.endpoint) begun _ all_ready first at is.state_is c.in-Err-put_events.fault run;
            reached = reach_run (g.S.Sieve.taken c.args.sieve.now (settings_told settings) c.args.part.now.changes.now) (g.S.Sieve.none c.args.sieve.now (settings_told settings) c.args.part.now.changes.now) c.args.part.now.segments.now settings c.args.part.now.changes.now texts text start c.fetch_all.new.captures.ports.items c.fetch_all.new.captures.underlay (turns_behind g w.In_default-fetch_all) (state_of c.args.taker.now.endpoint) begun _ all_ready first at is.state_is c.in-Err-put_events.fault run;
            seen = seen_run (g.S.Sieve.taken c.args.sieve.now (settings_told settings) c.args.part.now.changes.now) (g.S.Sieve.none c.args.sieve.now (settings_told settings) c.args.part.now.changes.now) c.args.part.now.segments.now settings c.args.part.now.changes.now texts text start c.fetch_all.new.captures.ports.items c.fetch_all.new.captures.underlay (turns_behind g w.In_default-fetch_all) (state_of c.args.taker.now.endpoint) begun _ all_ready first at is.state_is
                g.T.Watch.sees g.T.Watch.ends c.args.watch.now c.in-Err-put_events.fault c.put_events.new.watch on.watched;
            went = tt;
          };
    }

pub returns-in-Err-put_events-clause-reads : goal.returns-in-Err-put_events-clause-reads
returns-in-Err-put_events-clause-reads g c =
    reads_behind {T = Unit {0}} c.args.captures.now.ports.items c.fetch_all.new.captures.ports.items c.put_events.new.captures.ports.items c.args.captures.now.underlay c.fetch_all.new.captures.underlay c.put_events.new.captures.underlay (Err c.in-Err-put_events.fault)
    (quiet_on c.args.captures.now.ports.items c.open_all.new.captures.ports.items c.fetch_all.new.captures.ports.items c.args.captures.now.underlay c.open_all.new.captures.underlay c.fetch_all.new.captures.underlay c.in_default.ensures.reads c.in_default-fetch_all.ensures.reads)
    c.in-Err-put_events.ensures.run.watched.run.reads

-- ---- behind the last event

pub returns-in-Ok-clause-done : goal.returns-in-Ok-clause-done
returns-in-Ok-clause-done g c settings is =
    let w = goal.at.returns-in-Ok-clause-done g c in
    let start = c.args.outputs.now in
    let begun = c.begin_all.new.outputs in
    let headers = headers_written g w.After-fetch_all in
    let all_ready = ready g w.In_default-fetch_all settings is in
    let cut = c.put_cuts_among.new.outputs in
    let on = with_settings c.args.part.now.segments.now g.S.Sieve.taken g.S.Sieve.goes g.T.Watch.sees c.args.part.now.changes.now _ _ c.args.sieve.now _ (settings_told settings) _ c.args.watch.now _ _ (ap (λ (s : State). s.bridges.settings) is.state_is) c.in_default-put_events.ensures.run in
    let run = on.watched.run in
    let es = g.S.Sieve.taken c.args.sieve.now (settings_told settings) c.args.part.now.changes.now run.es in
    let put = λ (n : ℕ) (at : StandAt start begun (empty_outputs n)). run.outputs start (empty_outputs n) at in
    let n = length settings.ports in
    let lines = λ (n : ℕ) (at : StandAt start begun (empty_outputs n)).
    subst (λ ts. StandAt start cut (with_cuts (texts_put g w.After-put_cuts_among n es) (cuts_among c.args.part.now.segments.now (cuts_at c.put_events.new.captures.ports.items c.put_events.new.captures.underlay ts)))) c.as_slice-turns.ensures.value
    (c.in-Ok.ensures start (texts_put g w.After-put_cuts_among n es) (put n at)) in
    record {
      left = leaves_all (g.S.Sieve.taken c.args.sieve.now (settings_told settings) c.args.part.now.changes.now) (g.S.Sieve.none c.args.sieve.now (settings_told settings) c.args.part.now.changes.now) c.args.part.now.segments.now settings c.args.part.now.changes.now (ends c.args.captures.now.ports.items c.args.captures.now.underlay start) (ends c.put_events.new.captures.ports.items c.put_events.new.captures.underlay cut) (state_of c.args.taker.now.endpoint) run.es (cuts_among c.args.part.now.segments.now (cuts_at c.put_events.new.captures.ports.items c.put_events.new.captures.underlay c.put_events.new.taker.turns.items)) is.state_is (lines n (headers n is.many));
      shown = shows_all (g.S.Sieve.taken c.args.sieve.now (settings_told settings) c.args.part.now.changes.now) (g.S.Sieve.none c.args.sieve.now (settings_told settings) c.args.part.now.changes.now) c.args.part.now.segments.now settings c.args.part.now.changes.now start cut g.T.Watch.sees g.T.Watch.ends c.args.watch.now
          (run_at c.fetch_all.new.captures.ports.items c.fetch_all.new.captures.underlay (turns_behind g w.In_default-fetch_all) (state_of c.args.taker.now.endpoint) 0 begun) _ is.state_is (headers n is.many) c.put_events.new.watch (cuts_among c.args.part.now.segments.now (cuts_at c.put_events.new.captures.ports.items c.put_events.new.captures.underlay c.put_events.new.taker.turns.items)) c.end.new.self on.watched (lines n (headers n is.many)) c.end.ensures;
      over = λ texts text tells.
          let many = tells_texts c.args.captures.now.ports.items c.args.captures.now.underlay texts text tells in
          let at = headers (length texts) many in
          let first = read g w.In_default-fetch_all texts text (at_first g w.After-fetch_all texts text tells) in
          record {
            left = over_whole (g.S.Sieve.taken c.args.sieve.now (settings_told settings) c.args.part.now.changes.now) (g.S.Sieve.none c.args.sieve.now (settings_told settings) c.args.part.now.changes.now) c.args.part.now.segments.now settings c.args.part.now.changes.now texts text start c.fetch_all.new.captures.ports.items c.fetch_all.new.captures.underlay (turns_behind g w.In_default-fetch_all) (state_of c.args.taker.now.endpoint) begun _ all_ready first at is.state_is cut run (sym many ∙ is.many)
                (lines (length texts) at);
            reached = reach_whole (g.S.Sieve.taken c.args.sieve.now (settings_told settings) c.args.part.now.changes.now) (g.S.Sieve.none c.args.sieve.now (settings_told settings) c.args.part.now.changes.now) c.args.part.now.segments.now settings c.args.part.now.changes.now texts text start c.fetch_all.new.captures.ports.items c.fetch_all.new.captures.underlay (turns_behind g w.In_default-fetch_all) (state_of c.args.taker.now.endpoint) begun _ all_ready first at is.state_is cut run;
            seen = seen_whole (g.S.Sieve.taken c.args.sieve.now (settings_told settings) c.args.part.now.changes.now) (g.S.Sieve.none c.args.sieve.now (settings_told settings) c.args.part.now.changes.now) c.args.part.now.segments.now settings c.args.part.now.changes.now texts text start c.fetch_all.new.captures.ports.items c.fetch_all.new.captures.underlay (turns_behind g w.In_default-fetch_all) (state_of c.args.taker.now.endpoint) begun _ all_ready first at is.state_is
                g.T.Watch.sees g.T.Watch.ends c.args.watch.now cut c.put_events.new.watch c.end.new.self on.watched c.end.ensures;
            went = (
              (state_of c.put_events.new.taker.endpoint).bridges.settings,
              went_whole (g.S.Sieve.taken c.args.sieve.now (settings_told settings) c.args.part.now.changes.now) (g.S.Sieve.none c.args.sieve.now (settings_told settings) c.args.part.now.changes.now) c.args.part.now.segments.now settings c.args.part.now.changes.now texts text start c.fetch_all.new.captures.ports.items c.fetch_all.new.captures.underlay (turns_behind g w.In_default-fetch_all) (state_of c.args.taker.now.endpoint) begun _ all_ready first at is.state_is
                  (GoesBy g.S.Sieve.goes c.args.part.now.changes.now) _ _ run on.went,
            );
          };
    }

-- ---- a line of a cut capture can't be written

pub returns-in-Err-put_cuts_among-clause-done : goal.returns-in-Err-put_cuts_among-clause-done
returns-in-Err-put_cuts_among-clause-done g c settings is =
    let w = goal.at.returns-in-Err-put_cuts_among-clause-done g c in
    let start = c.args.outputs.now in
    let begun = c.begin_all.new.outputs in
    let headers = headers_written g w.After-fetch_all in
    let all_ready = ready g w.In_default-fetch_all settings is in
    let cut = c.put_cuts_among.new.outputs in
    let on = with_settings c.args.part.now.segments.now g.S.Sieve.taken g.S.Sieve.goes g.T.Watch.sees c.args.part.now.changes.now _ _ c.args.sieve.now _ (settings_told settings) _ c.args.watch.now _ _ (ap (λ (s : State). s.bridges.settings) is.state_is) c.in_default-put_events.ensures.run in
    let run = on.watched.run in
    let es = g.S.Sieve.taken c.args.sieve.now (settings_told settings) c.args.part.now.changes.now run.es in
    let put = λ (n : ℕ) (at : StandAt start begun (empty_outputs n)). run.outputs start (empty_outputs n) at in
    let n = length settings.ports in
    let failed = lines_failed g w.In-Err-put_cuts_among n es (put n (headers n is.many)) in
    record {
      left = leaves_cuts (g.S.Sieve.taken c.args.sieve.now (settings_told settings) c.args.part.now.changes.now) (g.S.Sieve.none c.args.sieve.now (settings_told settings) c.args.part.now.changes.now) c.args.part.now.segments.now settings c.args.part.now.changes.now (ends c.args.captures.now.ports.items c.args.captures.now.underlay start) (ends c.put_events.new.captures.ports.items c.put_events.new.captures.underlay cut) (state_of c.args.taker.now.endpoint) run.es (cuts_among c.args.part.now.segments.now (cuts_at c.put_events.new.captures.ports.items c.put_events.new.captures.underlay c.put_events.new.taker.turns.items)) c.in-Err-put_cuts_among.target is.state_is failed;
      shown = shows_cuts (g.S.Sieve.taken c.args.sieve.now (settings_told settings) c.args.part.now.changes.now) (g.S.Sieve.none c.args.sieve.now (settings_told settings) c.args.part.now.changes.now) c.args.part.now.segments.now settings c.args.part.now.changes.now start cut g.T.Watch.sees g.T.Watch.ends c.args.watch.now
          (run_at c.fetch_all.new.captures.ports.items c.fetch_all.new.captures.underlay (turns_behind g w.In_default-fetch_all) (state_of c.args.taker.now.endpoint) 0 begun) _ is.state_is (headers n is.many) c.put_events.new.watch (cuts_among c.args.part.now.segments.now (cuts_at c.put_events.new.captures.ports.items c.put_events.new.captures.underlay c.put_events.new.taker.turns.items)) c.in-Err-put_cuts_among.target on.watched failed.0;
      over = λ texts text tells.
          let many = tells_texts c.args.captures.now.ports.items c.args.captures.now.underlay texts text tells in
          let at = headers (length texts) many in
          let first = read g w.In_default-fetch_all texts text (at_first g w.After-fetch_all texts text tells) in
          let lines = lines_failed g w.In-Err-put_cuts_among (length texts) es (put (length texts) at) in
          record {
            left = over_lines (g.S.Sieve.taken c.args.sieve.now (settings_told settings) c.args.part.now.changes.now) (g.S.Sieve.none c.args.sieve.now (settings_told settings) c.args.part.now.changes.now) c.args.part.now.segments.now settings c.args.part.now.changes.now texts text start c.fetch_all.new.captures.ports.items c.fetch_all.new.captures.underlay (turns_behind g w.In_default-fetch_all) (state_of c.args.taker.now.endpoint) begun _ all_ready first at is.state_is cut c.in-Err-put_cuts_among.target run lines;
            reached = reach_lines (g.S.Sieve.taken c.args.sieve.now (settings_told settings) c.args.part.now.changes.now) (g.S.Sieve.none c.args.sieve.now (settings_told settings) c.args.part.now.changes.now) c.args.part.now.segments.now settings c.args.part.now.changes.now texts text start c.fetch_all.new.captures.ports.items c.fetch_all.new.captures.underlay (turns_behind g w.In_default-fetch_all) (state_of c.args.taker.now.endpoint) begun _ all_ready first at is.state_is cut c.in-Err-put_cuts_among.target run lines;
            seen = seen_lines (g.S.Sieve.taken c.args.sieve.now (settings_told settings) c.args.part.now.changes.now) (g.S.Sieve.none c.args.sieve.now (settings_told settings) c.args.part.now.changes.now) c.args.part.now.segments.now settings c.args.part.now.changes.now texts text start c.fetch_all.new.captures.ports.items c.fetch_all.new.captures.underlay (turns_behind g w.In_default-fetch_all) (state_of c.args.taker.now.endpoint) begun _ all_ready first at is.state_is
                g.T.Watch.sees g.T.Watch.ends c.args.watch.now cut c.in-Err-put_cuts_among.target c.put_events.new.watch on.watched lines;
            went = tt;
          };
    }

-- ---- what is out

pub fetch_all-requires-clause-out : goal.fetch_all-requires-clause-out
fetch_all-requires-clause-out g c = c.in_default-begin_all.ensures.out

pub put_events-requires-clause-out : goal.put_events-requires-clause-out
put_events-requires-clause-out g c some_left waits = c.in_default-begin_all.ensures.out (sym c.in_default-fetch_all.ensures.may_wait ∙ waits)

-- ---- a read that failed

pub returns-in-Err-clause-waits : goal.returns-in-Err-clause-waits
returns-in-Err-clause-waits g c all = out_at_read c.args.captures.now.may_wait c.args.outputs.now c.in-Err.fault (λ waits. all)

pub returns-in-Err-fetch_all-clause-waits : goal.returns-in-Err-fetch_all-clause-waits
returns-in-Err-fetch_all-clause-waits g c all =
    out_at_read c.args.captures.now.may_wait c.begin_all.new.outputs c.in-Err-fetch_all.fault (λ waits. c.in_default-begin_all.ensures.out (c.in_default.ensures.may_wait ∙ waits))

pub returns-in-Err-put_events-clause-waits : goal.returns-in-Err-put_events-clause-waits
returns-in-Err-put_events-clause-waits g c all =
    subst (λ (b : Bool). IsOutAtRead {T = Unit {0}} b c.put_events.new.outputs (Err c.in-Err-put_events.fault))
    (c.in_default-fetch_all.ensures.may_wait ∙ c.in_default.ensures.may_wait) c.in-Err-put_events.ensures.waits
