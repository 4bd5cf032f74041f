use Rattle.std.proofs.Common.{◌≡◌, ◌∙◌, ◌-◌, ◌<◌, ap, sym, subst, refl, arith, length, inl, inr}
use Rattle.std.specs.Prelude.{IsSome}
use Rattle.std.proofs.lemmas.List.{get_or_default}
use Rattle.pcap.specs.Source.{Stream, lent}
use Rattle.timeline.specs.declared.source.Tap.TheVariants.{Port, Underlay}
use Rattle.stream_run.specs.Steps.{source_at}
use Rattle.stream_run.proofs.Readying.{the_record}
use Rattle.stream_run.proofs.letting.next_event.Goals as goal

pub event_of-requires-clause-lent : goal.event_of-requires-clause-lent
event_of-requires-clause-lent g c =
    let many : c.len.result ≡ length c.args.captures.now.ports.items = c.len.ensures ∙ c.args.captures.now.ports.ok.0 in
    let there : c.args.next.index - 1 < length c.args.captures.now.ports.items = omega (arith, many, c.if-next-len.true, c.if-next-eq0.false) in
    subst (λ (s : Stream). IsSome (lent s.standing)) (get_or_default c.args.captures.now.ports.items (c.args.next.index - 1) c.args.captures.now.underlay c.index.result.now there ∙ sym c.index.ensures) (c.requires.lent (Port c.args.next.index) (refl, omega (arith, many, c.if-next-len.true, c.if-next-eq0.false), omega (arith, many, c.if-next-len.true)))

pub event_of-requires-2-clause-lent : goal.event_of-requires-2-clause-lent
event_of-requires-2-clause-lent g c =
    let many : c.len.result ≡ length c.args.captures.now.ports.items = c.len.ensures ∙ c.args.captures.now.ports.ok.0 in
    c.requires.lent Underlay (omega (arith, c.if-next-len.false, c.requires.index, many))

pub returns-then-next-eq0 : goal.returns-then-next-eq0
returns-then-next-eq0 g c = inl (c.if-next-eq0.true, refl)

pub returns-then-next-len : goal.returns-then-next-len
returns-then-next-len g c =
    let many : c.len.result ≡ length c.args.captures.now.ports.items = c.len.ensures ∙ c.args.captures.now.ports.ok.0 in
    let there : c.args.next.index - 1 < length c.args.captures.now.ports.items = omega (arith, many, c.if-next-len.true, c.if-next-eq0.false) in
    let same = get_or_default c.args.captures.now.ports.items (c.args.next.index - 1) c.index.result.now c.args.captures.now.underlay there in
    let found = the_record (lent (source_at c.args.captures.now.ports.items c.args.captures.now.underlay (Port c.args.next.index)).standing) (c.requires.lent (Port c.args.next.index) (refl, omega (arith, many, c.if-next-len.true, c.if-next-eq0.false), omega (arith, many, c.if-next-len.true))) in
    let told = ap (λ (s : Stream). lent s.standing) (c.index.ensures ∙ same) ∙ found.1 in
    inr (Port c.args.next.index, found.0, (refl, omega (arith, many, c.if-next-len.true, c.if-next-eq0.false), omega (arith, many, c.if-next-len.true)), found.1, c.event_of.ensures found.0 told)

pub returns : goal.returns
returns g c =
    let many : c.len.result ≡ length c.args.captures.now.ports.items = c.len.ensures ∙ c.args.captures.now.ports.ok.0 in
    let found = the_record (lent c.args.captures.now.underlay.standing) (c.requires.lent Underlay (omega (arith, c.if-next-len.false, c.requires.index, many))) in
    inr (Underlay, found.0, omega (arith, c.if-next-len.false, c.requires.index, many), found.1, c.event_of-2.ensures found.0 found.1)
