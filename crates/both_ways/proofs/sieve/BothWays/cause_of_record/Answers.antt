use Rattle.std.proofs.Common.{◌≡◌, ◌∙◌, ap, subst, sym}
use Rattle.std.specs.Prelude.{is_none}
use Rattle.endpoint_core.specs.Kept.{state_of}
use Rattle.timeline.specs.declared.source.Tap.{Tap}
use Rattle.timeline.specs.declared.source.Tap.TheVariants.{Port, Underlay as AtUnderlay}
use Rattle.both_ways.specs.Sieve.{cause_of, counted, record_behind, seen_of}
use Rattle.both_ways.specs.Told.{place_of}
use Rattle.both_ways.specs.declared.sieve.BothWays.{BothWays}
use Rattle.both_ways.proofs.Bringing.{none_counted, one_counted}
use Rattle.both_ways.proofs.Causes.{none, of_record, one}
use Rattle.both_ways.proofs.sieve.BothWays.cause_of_record.Goals.{in-Port, in-Underlay}
use Rattle.both_ways.proofs.sieve.BothWays.cause_of_record.Goals as goal

pub returns-then-is_some-clause-answer : goal.returns-then-is_some-clause-answer
returns-then-is_some-clause-answer c = λ changes.
    let s = seen_of c.args.self.now (state_of c.args.endpoint.now).bridges.settings changes in
    elim c.match-tap.branch [
      | in-Port w ↦ w.cause-is ∙ w.cause_of_frame-cause.ensures.answer changes ∙ ap (λ (t : Tap). cause_of s t c.args.event.now.moment c.args.captured.now) (sym w.in-Port.is)
      | in-Underlay w ↦ w.cause-is ∙ w.cause_of_packet-cause.ensures.answer changes ∙ ap (λ (t : Tap). cause_of s t c.args.event.now.moment c.args.captured.now) (sym w.in-Underlay.is)
    ]

pub returns-else-is_some-clause-answer : goal.returns-else-is_some-clause-answer
returns-else-is_some-clause-answer c = λ changes.
    let s = seen_of c.args.self.now (state_of c.args.endpoint.now).bridges.settings changes in
    elim c.match-tap.branch [
      | in-Port w ↦ w.cause-is ∙ w.cause_of_frame-cause.ensures.answer changes ∙ ap (λ (t : Tap). cause_of s t c.args.event.now.moment c.args.captured.now) (sym w.in-Port.is)
      | in-Underlay w ↦ w.cause-is ∙ w.cause_of_packet-cause.ensures.answer changes ∙ ap (λ (t : Tap). cause_of s t c.args.event.now.moment c.args.captured.now) (sym w.in-Underlay.is)
    ]

pub returns-else-is_some-clause-behind : goal.returns-else-is_some-clause-behind
returns-else-is_some-clause-behind c = λ changes.
    let settings = (state_of c.args.endpoint.now).bridges.settings in
    let b = c.args.self.now in
    let s = seen_of b settings changes in
    let Known = λ (k : BothWays) (t : Tap). seen_of k settings changes ≡ record (record_behind s t c.args.event.now.moment c.args.event.now.number c.args.captured.now) { counts = b.left_out } in
    let known : Known c.match-tap.self c.args.tap = elim c.match-tap.branch [
      | in-Port w ↦ subst (λ (t : Tap). Known c.match-tap.self t) (sym w.in-Port.is) (subst (λ (k : BothWays). Known k (Port w.in-Port.port)) (sym w.self-is) (w.cause_of_frame-cause.ensures.behind changes))
      | in-Underlay w ↦ subst (λ (t : Tap). Known c.match-tap.self t) (sym w.in-Underlay.is) (subst (λ (k : BothWays). Known k AtUnderlay) (sym w.self-is) (w.cause_of_packet-cause.ensures.behind changes))
    ] in
    let answer : c.match-tap.cause ≡ cause_of s c.args.tap c.args.event.now.moment c.args.captured.now = elim c.match-tap.branch [
      | in-Port w ↦ w.cause-is ∙ w.cause_of_frame-cause.ensures.answer changes ∙ ap (λ (t : Tap). cause_of s t c.args.event.now.moment c.args.captured.now) (sym w.in-Port.is)
      | in-Underlay w ↦ w.cause-is ∙ w.cause_of_packet-cause.ensures.answer changes ∙ ap (λ (t : Tap). cause_of s t c.args.event.now.moment c.args.captured.now) (sym w.in-Underlay.is)
    ] in
    none_counted b c.match-tap.self settings changes c.args.tap c.args.event.now.moment c.args.event.now.number c.args.captured.now known (sym (of_record s c.args.tap c.args.event.now.moment c.args.captured.now) ∙ ap is_none (sym answer) ∙ none c.match-tap.cause c.is_some.result c.is_some.ensures c.if-is_some.false)

pub returns-then-is_some-clause-behind : goal.returns-then-is_some-clause-behind
returns-then-is_some-clause-behind c = λ changes.
    let settings = (state_of c.args.endpoint.now).bridges.settings in
    let b = c.args.self.now in
    let s = seen_of b settings changes in
    let Known = λ (k : BothWays) (t : Tap). seen_of k settings changes ≡ record (record_behind s t c.args.event.now.moment c.args.event.now.number c.args.captured.now) { counts = b.left_out } in
    let known : Known c.match-tap.self c.args.tap = elim c.match-tap.branch [
      | in-Port w ↦ subst (λ (t : Tap). Known c.match-tap.self t) (sym w.in-Port.is) (subst (λ (k : BothWays). Known k (Port w.in-Port.port)) (sym w.self-is) (w.cause_of_frame-cause.ensures.behind changes))
      | in-Underlay w ↦ subst (λ (t : Tap). Known c.match-tap.self t) (sym w.in-Underlay.is) (subst (λ (k : BothWays). Known k AtUnderlay) (sym w.self-is) (w.cause_of_packet-cause.ensures.behind changes))
    ] in
    let answer : c.match-tap.cause ≡ cause_of s c.args.tap c.args.event.now.moment c.args.captured.now = elim c.match-tap.branch [
      | in-Port w ↦ w.cause-is ∙ w.cause_of_frame-cause.ensures.answer changes ∙ ap (λ (t : Tap). cause_of s t c.args.event.now.moment c.args.captured.now) (sym w.in-Port.is)
      | in-Underlay w ↦ w.cause-is ∙ w.cause_of_packet-cause.ensures.answer changes ∙ ap (λ (t : Tap). cause_of s t c.args.event.now.moment c.args.captured.now) (sym w.in-Underlay.is)
    ] in
    let here : c.match-tap.tap ≡ c.args.tap = elim c.match-tap.branch [ in-Port w ↦ w.tap-is ∙ sym w.in-Port.is | in-Underlay w ↦ w.tap-is ] in
    one_counted b c.match-tap.self settings changes c.args.tap c.args.event.now.moment c.args.event.now.number c.args.captured.now known c.count.new.counts (sym (of_record s c.args.tap c.args.event.now.moment c.args.captured.now) ∙ ap is_none (sym answer) ∙ one c.match-tap.cause c.is_some.result c.is_some.ensures c.if-is_some.true)
    (c.count.ensures ∙ ap (counted c.match-tap.self.left_out) (c.place_of.ensures ∙ ap place_of here))
