use Rattle.std.proofs.Common.{◌≡◌, ◌∙◌, ◌+◌, ◌-◌, ◌^◌, ℕ, ap, arith, length, refl, slice_index_or, subst, sym, None, Some}
use Rattle.endpoint_core.specs.Kept.{state_of}
use Rattle.stream_run.specs.Fault.{fault_of}
use Rattle.stream_run.specs.Sieved.{GoesBy, asked as asks, taken_by}
use Rattle.stream_run.specs.Steps.{moment_at}
use Rattle.stream_run.specs.Turns.{first_of}
use Rattle.stream_run.specs.declared.turn.Turn.{Turn}
use Rattle.stream_run.proofs.Reading.{fault_from}
use Rattle.stream_run.proofs.Readying.{asked, fetched_to, next_up}
use Rattle.stream_run.proofs.Stepping.{shown_fault, shown_put, shown_turn}
use Rattle.stream_run.proofs.Waiting.{out_at_halt}
use Rattle.stream_run.proofs.step.put_first.Goals as goal

-- what stands for a turn that isn't there
no_turn : Turn
no_turn = record { done = 0; next = None }

pub let_in-requires-clause-time : goal.let_in-requires-clause-time
let_in-requires-clause-time g c = (next_up c.args.coming.part.now.changes.now (2 ^ 64 - 3) c.args.captures.now.ports.items c.args.captures.now.underlay c.args.taker.now.turns.items (state_of c.args.taker.now.endpoint) c.args.taker.now.scratch.number _ (first_of c.args.coming.next) no_turn c.requires.ready c.requires.first).time

pub let_in-requires-clause-moment : goal.let_in-requires-clause-moment
let_in-requires-clause-moment g c = (next_up c.args.coming.part.now.changes.now (2 ^ 64 - 3) c.args.captures.now.ports.items c.args.captures.now.underlay c.args.taker.now.turns.items (state_of c.args.taker.now.endpoint) c.args.taker.now.scratch.number _ (first_of c.args.coming.next) no_turn c.requires.ready c.requires.first).moment

pub let_in-requires-clause-count : goal.let_in-requires-clause-count
let_in-requires-clause-count g c =
    let up = next_up c.args.coming.part.now.changes.now (2 ^ 64 - 3) c.args.captures.now.ports.items c.args.captures.now.underlay c.args.taker.now.turns.items (state_of c.args.taker.now.endpoint) c.args.taker.now.scratch.number _ (first_of c.args.coming.next) no_turn c.requires.ready c.requires.first in
    omega (arith, c.requires.done no_turn, up.count)

pub let_in-requires-clause-change : goal.let_in-requires-clause-change
let_in-requires-clause-change g c zero =
    let up = next_up c.args.coming.part.now.changes.now (2 ^ 64 - 3) c.args.captures.now.ports.items c.args.captures.now.underlay c.args.taker.now.turns.items (state_of c.args.taker.now.endpoint) c.args.taker.now.scratch.number _ (first_of c.args.coming.next) no_turn c.requires.ready c.requires.first in
    subst (λ n. moment_at c.args.coming.part.now.changes.now n ≡ Some c.args.coming.next.moment) (sym (c.requires.done no_turn)) (up.change zero)

pub overflow_add-next : goal.overflow_add-next
overflow_add-next g c =
    let up = next_up c.args.coming.part.now.changes.now (2 ^ 64 - 3) c.args.captures.now.ports.items c.args.captures.now.underlay c.args.taker.now.turns.items (state_of c.args.taker.now.endpoint) c.args.taker.now.scratch.number _ (first_of c.args.coming.next) no_turn c.requires.ready c.requires.first in
    omega (arith, c.requires.done no_turn, up.count)

pub let_in-requires-clause-lent : goal.let_in-requires-clause-lent
let_in-requires-clause-lent g c = (next_up c.args.coming.part.now.changes.now (2 ^ 64 - 3) c.args.captures.now.ports.items c.args.captures.now.underlay c.args.taker.now.turns.items (state_of c.args.taker.now.endpoint) c.args.taker.now.scratch.number _ (first_of c.args.coming.next) no_turn c.requires.ready c.requires.first).lends

pub fetch_at-requires-clause-open : goal.fetch_at-requires-clause-open
fetch_at-requires-clause-open g c = (next_up c.args.coming.part.now.changes.now (2 ^ 64 - 3) c.args.captures.now.ports.items c.args.captures.now.underlay c.args.taker.now.turns.items (state_of c.args.taker.now.endpoint) c.args.taker.now.scratch.number _ (first_of c.args.coming.next) no_turn c.requires.ready c.requires.first).open_

pub returns-in-Err-clause-step : goal.returns-in-Err-clause-step
returns-in-Err-clause-step g c tap t at =
    rw c.in-Err.ensures.turns (shown_put c.args.coming.part.now.segments.now (taken_by g.S.Sieve.taken c.args.coming.part.now.changes.now) (GoesBy g.S.Sieve.goes c.args.coming.part.now.changes.now) g.T.Watch.sees c.args.coming.part.now.changes.now c.args.captures.now.ports.items c.args.captures.now.underlay c.args.taker.now.turns.items (state_of c.args.taker.now.endpoint) c.args.taker.now.scratch.number _ (first_of c.args.coming.next) _ c.let_in.new.taker.scratch.number (state_of c.let_in.new.taker.endpoint) _ (asks c.args.sieve.now (state_of c.args.taker.now.endpoint).bridges.settings) (asks c.let_in.new.sieve (state_of c.let_in.new.taker.endpoint).bridges.settings) c.args.watch.now c.let_in.new.watch (2 ^ 64 - 3) c.in-Err.target
    no_turn c.requires.ready c.requires.first c.requires.done c.in-Err.ensures.sieved)

pub returns-in-Err-fetch_at-clause-step : goal.returns-in-Err-fetch_at-clause-step
returns-in-Err-fetch_at-clause-step g c tap t at =
    rw c.in_default.ensures.turns (shown_fault c.args.coming.part.now.segments.now (taken_by g.S.Sieve.taken c.args.coming.part.now.changes.now) (GoesBy g.S.Sieve.goes c.args.coming.part.now.changes.now) g.T.Watch.sees c.args.coming.part.now.changes.now c.args.captures.now.ports.items c.args.captures.now.underlay c.args.taker.now.turns.items (state_of c.args.taker.now.endpoint) c.args.taker.now.scratch.number _ (first_of c.args.coming.next) _ c.let_in.new.taker.scratch.number (state_of c.let_in.new.taker.endpoint) _ (asks c.args.sieve.now (state_of c.args.taker.now.endpoint).bridges.settings) (asks c.let_in.new.sieve (state_of c.let_in.new.taker.endpoint).bridges.settings) c.args.watch.now c.let_in.new.watch (2 ^ 64 - 3)
    c.fetch_at.new.captures.ports.items c.fetch_at.new.captures.underlay (fault_of tap ((slice_index_or c.args.taker.now.turns.items c.args.coming.next.index t).done + 1 + 1) c.in-Err-fetch_at.fault) no_turn c.requires.ready c.requires.first
    c.requires.done c.in_default.ensures.sieved
    (fault_from c.args.coming.part.now.changes.now c.args.coming.next.index _ c.args.coming.next.moment c.args.captures.now.ports.items c.args.captures.now.underlay c.fetch_at.new.captures.ports.items c.fetch_at.new.captures.underlay c.fetch_at.new.when c.in-Err-fetch_at.fault tap _ (length c.args.captures.now.ports.items) (sym (ap (λ (d : ℕ). fault_of tap (d + 1 + 1) c.in-Err-fetch_at.fault) (c.requires.done t))) at refl c.in-Err-fetch_at.ensures.fetched))

pub at-requires : goal.at-requires
at-requires g c =
    let up = next_up c.args.coming.part.now.changes.now (2 ^ 64 - 3) c.args.captures.now.ports.items c.args.captures.now.underlay c.args.taker.now.turns.items (state_of c.args.taker.now.endpoint) c.args.taker.now.scratch.number _ (first_of c.args.coming.next) no_turn c.requires.ready c.requires.first in
    (asked c.args.coming.part.now.changes.now c.args.coming.next.index _ c.args.coming.next.moment c.args.captures.now.ports.items c.args.captures.now.underlay c.fetch_at.new.captures.ports.items c.fetch_at.new.captures.underlay _ c.requires.ready.timely up.moment
    (λ zero. subst (λ n. moment_at c.args.coming.part.now.changes.now n ≡ Some c.args.coming.next.moment) (sym (c.requires.done no_turn)) (up.change zero)) c.in_default-fetch_at.ensures.fetched).moment

pub returns-clause-step : goal.returns-clause-step
returns-clause-step g c =
    rw c.in_default.ensures.turns (shown_turn c.args.coming.part.now.segments.now (taken_by g.S.Sieve.taken c.args.coming.part.now.changes.now) (GoesBy g.S.Sieve.goes c.args.coming.part.now.changes.now) g.T.Watch.sees c.args.coming.part.now.changes.now c.args.captures.now.ports.items c.args.captures.now.underlay c.args.taker.now.turns.items (state_of c.args.taker.now.endpoint) c.args.taker.now.scratch.number _ (first_of c.args.coming.next) _ c.let_in.new.taker.scratch.number (state_of c.let_in.new.taker.endpoint) _ (asks c.args.sieve.now (state_of c.args.taker.now.endpoint).bridges.settings) (asks c.let_in.new.sieve (state_of c.let_in.new.taker.endpoint).bridges.settings) c.args.watch.now c.let_in.new.watch (2 ^ 64 - 3)
    c.fetch_at.new.captures.ports.items c.fetch_at.new.captures.underlay _ no_turn c.requires.ready c.requires.first
    c.requires.done c.in_default.ensures.sieved
    (fetched_to c.args.coming.part.now.changes.now c.args.coming.next.index _ c.args.coming.next.moment c.args.captures.now.ports.items c.args.captures.now.underlay c.fetch_at.new.captures.ports.items c.fetch_at.new.captures.underlay c.fetch_at.new.when c.at.result c.at.ensures c.in_default-fetch_at.ensures.fetched))

pub returns-clause-out : goal.returns-clause-out
returns-clause-out g c some_left waits = c.in_default.ensures.behind some_left (sym c.in_default-fetch_at.ensures.may_wait ∙ waits)

pub returns-in-Err-fetch_at-clause-waits : goal.returns-in-Err-fetch_at-clause-waits
returns-in-Err-fetch_at-clause-waits g c =
    out_at_halt c.args.captures.now.may_wait c.args.captures.now.ports.items c.args.captures.now.underlay c.args.coming.next.index _ c.in-Err-fetch_at.fault c.in_default.ensures.before c.in-Err-fetch_at.ensures.lacked
