use Rattle.std.proofs.Common.{◌∙◌, Err, ap}
use Rattle.endpoint_core.specs.Kept.{state_of}
use Rattle.endpoint_core.specs.Step.{State}
use Rattle.stream_run.specs.Sieved.{GoesBy, asked, taken_by}
use Rattle.stream_run.proofs.Handing.{taken_and_handed}
use Rattle.stream_run.proofs.Sieving.{index_there, leaves_out, lets_in, settings_among, settings_left}
use Rattle.stream_run.proofs.letting.let_in.Goals as goal

pub returns-then-not-takes-clause-sieved : goal.returns-then-not-takes-clause-sieved
returns-then-not-takes-clause-sieved g c =
    let changes = c.args.coming.part.now.changes.now in
    let settings = (state_of c.args.taker.now.endpoint).bridges.settings in
    let same = settings_left changes _ c.takes.result settings c.takes.ensures.change c.if-not-takes.true in
    leaves_out c.args.coming.part.now.segments.now (taken_by g.S.Sieve.taken changes) (GoesBy g.S.Sieve.goes changes) g.T.Watch.sees changes c.args.captures.now.ports.items c.args.captures.now.underlay c.args.coming.next.index c.args.coming.next.done c.args.coming.next.moment c.args.taker.now.scratch.number (state_of c.args.taker.now.endpoint) c.args.outputs.now
    (asked c.args.sieve.now settings) (asked c.takes.new.self settings) _ c.takes.result c.next_event-event.ensures (λ es. c.takes.ensures.taken changes settings es same) (c.takes.ensures.goes changes, same) c.args.watch.now c.if-not-takes.true

pub take_event-requires-clause-change : goal.take_event-requires-clause-change
take_event-requires-clause-change g c index is = index_there c.args.coming.part.now.changes.now c.args.captures.now.ports.items c.args.captures.now.underlay c.args.coming.next.index c.args.coming.next.done c.args.coming.next.moment _ c.next_event-event.ensures c.requires.change index is

pub returns-in-Err-clause-sieved : goal.returns-in-Err-clause-sieved
returns-in-Err-clause-sieved g c =
    let changes = c.args.coming.part.now.changes.now in
    let s = (state_of c.args.taker.now.endpoint) in
    let new = state_of c.take_event.new.taker.endpoint in
    let take = c.in-Err.ensures.taken in
    let same = ap (λ (x : State). x.bridges.settings) take.taken.state ∙ settings_among c.args.coming.part.now.segments.now changes s c.next_event-event.result in
    lets_in c.args.coming.part.now.segments.now (taken_by g.S.Sieve.taken changes) (GoesBy g.S.Sieve.goes changes) g.T.Watch.sees changes c.args.captures.now.ports.items c.args.captures.now.underlay c.args.coming.next.index c.args.coming.next.done c.args.coming.next.moment c.args.taker.now.scratch.number s c.args.outputs.now
    (asked c.args.sieve.now s.bridges.settings) (asked c.takes.new.self new.bridges.settings) _ c.takes.result c.next_event-event.ensures (λ es. c.takes.ensures.taken changes new.bridges.settings es same) (c.takes.ensures.goes changes, same)
    c.add_one.new.self c.take_event.new.taker.scratch.number new c.take_event.new.outputs c.args.watch.now c.take_event.new.watch (Err c.in-Err.target) c.if-not-takes.false c.add_one.ensures c.in-Err.ensures.number take

pub returns-clause-sieved : goal.returns-clause-sieved
returns-clause-sieved g c =
    let changes = c.args.coming.part.now.changes.now in
    let s = (state_of c.args.taker.now.endpoint) in
    let new = state_of c.take_event.new.taker.endpoint in
    let take = c.in_default.ensures.taken in
    let same = ap (λ (x : State). x.bridges.settings) take.taken.state ∙ settings_among c.args.coming.part.now.segments.now changes s c.next_event-event.result in
    lets_in c.args.coming.part.now.segments.now (taken_by g.S.Sieve.taken changes) (GoesBy g.S.Sieve.goes changes) g.T.Watch.sees changes c.args.captures.now.ports.items c.args.captures.now.underlay c.args.coming.next.index c.args.coming.next.done c.args.coming.next.moment c.args.taker.now.scratch.number s c.args.outputs.now
    (asked c.args.sieve.now s.bridges.settings) (asked c.takes.new.self new.bridges.settings) _ c.takes.result c.next_event-event.ensures (λ es. c.takes.ensures.taken changes new.bridges.settings es same) (c.takes.ensures.goes changes, same)
    c.add_one.new.self c.take_event.new.taker.scratch.number new c.hand_on_behind.new.outputs c.args.watch.now c.take_event.new.watch c.hand_on_behind.result c.if-not-takes.false c.add_one.ensures c.in_default.ensures.number
    (taken_and_handed c.args.coming.part.now.segments.now g.T.Watch.sees changes _ _ s new c.args.outputs.now c.take_event.new.outputs c.hand_on_behind.new.outputs c.args.watch.now c.take_event.new.watch c.hand_on_behind.result take c.hand_on_behind.ensures.handed)
