use Rattle.std.proofs.Common.{◌≡◌, ◌<◌, ◌+◌, ◌-◌, ◌^◌, ◌∙◌, Bool, Err, Global, List, None, Vec, ℕ, ap, arith, length, refl, slice_index_or, subst, sym}
use Rattle.std.proofs.lemmas.List.{get_or_default}
use Rattle.stream_run.specs.Fault.{stopped}
use Rattle.endpoint_core.specs.Kept.{state_of}
use Rattle.stream_run.specs.Fetched.{IsMoment}
use Rattle.stream_run.specs.Sieved.{GoesBy, asked as asks, taken_by}
use Rattle.stream_run.specs.Steps.{IsAt}
use Rattle.stream_run.specs.Turns.{IsFirst}
use Rattle.stream_run.specs.declared.turn.Turn.{Turn}
use Rattle.stream_run.proofs.Running.{none_by, ready_more, shown_begins, shown_breaks, shown_ends, shown_halts, shown_steps}
use Rattle.stream_run.specs.Waiting.{IsOutAtHalt}
use Rattle.stream_run.proofs.Waiting.{out_at_stop}
use Rattle.stream_run.proofs.step.put_events.Given.{Over}
use Rattle.stream_run.proofs.step.put_events.Goals.{In-Some}
use Rattle.stream_run.proofs.step.put_events.Goals as goal

pub loop-count-init : goal.loop-count-init
loop-count-init g c = record { run = rw c.requires.none (shown_begins c.args.part.now.segments.now (taken_by g.S.Sieve.taken c.args.part.now.changes.now) (GoesBy g.S.Sieve.goes c.args.part.now.changes.now) g.T.Watch.sees (none_by g.S.Sieve.taken g.S.Sieve.none c.args.part.now.changes.now) c.args.part.now.changes.now _ (asks c.args.sieve.now (state_of c.args.taker.now.endpoint).bridges.settings) c.args.watch.now refl c.requires.ready); out = c.requires.out; still = refl; many = refl }

pub put_first-requires-clause-few : goal.put_first-requires-clause-few
put_first-requires-clause-few g c =
    let has = c.loop-count.invariant.run.has in
    omega (arith, has.number, has.few, c.loop-count.invariant.run.many, c.loop-count-test.true)

pub put_first-requires-clause-ready : goal.put_first-requires-clause-ready
put_first-requires-clause-ready g c =
    let run = c.loop-count.invariant.run in
    ready_more c.args.part.now.changes.now _ (2 ^ 64 - 3) _ (omega (arith, run.many, c.loop-count-test.true)) run.has.ready

pub find_first-requires : goal.find_first-requires
find_first-requires g c =
    subst (λ (turns : List Turn). (t : Turn) (k : ℕ) → k < length turns → IsMoment (slice_index_or turns k t).next) (sym c.as_slice.ensures.value)
    c.loop-count.invariant.run.has.ready.moments

-- the event that comes first
first : (g : Over) (c : In-Some g) → IsFirst c.loop-count.taker.turns.items (length c.loop-count.taker.turns.items) c.in-Some.first
first g c = subst (λ (turns : List Turn). IsFirst turns (length turns) c.in-Some.first) c.as_slice.ensures.value c.in-Some.ensures

pub put_first-requires-clause-first : goal.put_first-requires-clause-first
put_first-requires-clause-first g c = first g (goal.at.put_first-requires-clause-first g c).In-Some

pub put_first-requires-clause-done : goal.put_first-requires-clause-done
put_first-requires-clause-done g c t =
    let there = (first g (goal.at.put_first-requires-clause-done g c).In-Some).there in
    ap (λ (x : Turn). x.done) (c.index.ensures ∙ get_or_default c.loop-count.taker.turns.items c.in-Some.first.index _ t there)

pub loop-count-preserved : goal.loop-count-preserved
loop-count-preserved g c =
    record {
      run = shown_steps c.args.part.now.segments.now (taken_by g.S.Sieve.taken c.args.part.now.changes.now) (GoesBy g.S.Sieve.goes c.args.part.now.changes.now) g.T.Watch.sees (none_by g.S.Sieve.taken g.S.Sieve.none c.args.part.now.changes.now) c.args.part.now.changes.now _ (asks c.args.sieve.now (state_of c.args.taker.now.endpoint).bridges.settings) c.args.watch.now _ _ c.loop-count._count c.in-Some.first _ _ _ _ c.loop-count.invariant.run c.in_default-put_first.ensures.step;
      out = c.in_default-put_first.ensures.out;
      still = c.in_default-put_first.ensures.may_wait ∙ c.loop-count.invariant.still;
      many = c.in_default-put_first.ensures.many ∙ c.loop-count.invariant.many;
    }

pub returns-in_default-clause-run : goal.returns-in_default-clause-run
returns-in_default-clause-run g c = shown_ends c.args.part.now.segments.now (taken_by g.S.Sieve.taken c.args.part.now.changes.now) (GoesBy g.S.Sieve.goes c.args.part.now.changes.now) g.T.Watch.sees (none_by g.S.Sieve.taken g.S.Sieve.none c.args.part.now.changes.now) c.args.part.now.changes.now _ (asks c.args.sieve.now (state_of c.args.taker.now.endpoint).bridges.settings) c.args.watch.now _ c.loop-count._count _ _ c.loop-count.invariant.run
    (subst (λ (turns : List Turn). (t : Turn) (k : ℕ) → k < length turns → (slice_index_or turns k t).next ≡ None) c.as_slice.ensures.value c.in_default.ensures)

pub returns-in-Err-clause-run : goal.returns-in-Err-clause-run
returns-in-Err-clause-run g c =
    let t = c.index.result.now in
    let there = (first g (goal.at.returns-in-Err-clause-run g c).In-Some).there in
    let same : t.done ≡ (slice_index_or c.loop-count.taker.turns.items c.in-Some.first.index t).done = ap (λ (x : Turn). x.done) c.index.ensures in
    let many : c.len.result - 2 ≡ length c.loop-count.captures.ports.items =
    omega (arith, c.len.ensures, c.put_first.new.taker.turns.ok.0, ap (λ (v : Vec Turn Global). length v.items) c.in-Err.ensures.turns, c.loop-count.invariant.run.has.ready.size) in
    shown_halts c.args.part.now.segments.now (taken_by g.S.Sieve.taken c.args.part.now.changes.now) (GoesBy g.S.Sieve.goes c.args.part.now.changes.now) g.T.Watch.sees (none_by g.S.Sieve.taken g.S.Sieve.none c.args.part.now.changes.now) c.args.part.now.changes.now _ (asks c.args.sieve.now (state_of c.args.taker.now.endpoint).bridges.settings) c.args.watch.now _ _ c.loop-count._count _ _ _ _ _ c.in-Err.halt c.stopped_at.result c.tap_at-tap.result t c.loop-count.invariant.run c.in-Err.ensures.step
    (λ there. subst (λ (n : ℕ). IsAt n c.in-Some.first.index c.tap_at-tap.result) many (c.tap_at-tap.ensures there))
    (c.stopped_at.ensures ∙ ap (λ (n : ℕ). stopped c.tap_at-tap.result n c.in-Err.halt) (omega (arith, same)))

pub returns-clause-run : goal.returns-clause-run
returns-clause-run g c =
    shown_breaks c.args.part.now.segments.now (taken_by g.S.Sieve.taken c.args.part.now.changes.now) (GoesBy g.S.Sieve.goes c.args.part.now.changes.now) g.T.Watch.sees (none_by g.S.Sieve.taken g.S.Sieve.none c.args.part.now.changes.now) c.args.part.now.changes.now _ (asks c.args.sieve.now (state_of c.args.taker.now.endpoint).bridges.settings) c.args.watch.now _ c.loop-count._count _ _ c.loop-count.invariant.run
    (omega (arith, c.loop-count-test.false, c.loop-count.auto._count-end))

pub returns-in-Err-clause-waits : goal.returns-in-Err-clause-waits
returns-in-Err-clause-waits g c =
    out_at_stop c.args.captures.now.may_wait c.put_first.new.outputs c.tap_at-tap.result _ c.in-Err.halt c.stopped_at.result c.stopped_at.ensures
    (subst (λ (b : Bool). IsOutAtHalt {T = Unit {0}} b c.put_first.new.outputs (Err c.in-Err.halt)) c.loop-count.invariant.still c.in-Err.ensures.waits)
