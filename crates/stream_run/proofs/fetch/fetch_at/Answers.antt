use Rattle.std.proofs.Common.{◌≡◌, ◌-◌, ◌<◌, ◌∙◌, ap, sym, subst, refl, arith, length}
use Rattle.std.proofs.lemmas.List.{get_or_default}
use Rattle.pcap.specs.Source.{Stream, holds_next}
use Rattle.timeline.specs.declared.source.Tap.TheVariants.{Port, Underlay}
use Rattle.stream_run.specs.Fetched.{IsFetch, IsOpen, fetched}
use Rattle.stream_run.specs.Steps.{IsAt}
use Rattle.stream_run.specs.Waiting.{TakesRead}
use Rattle.stream_run.proofs.Reading.{fetches_from}
use Rattle.stream_run.proofs.Waiting.{where_read}
use Rattle.stream_run.proofs.fetch.fetch_at.Goals as goal

pub fetch-requires : goal.fetch-requires
fetch-requires g c =
    let many : c.len.result ≡ length c.args.captures.now.ports.items = c.len.ensures ∙ c.args.captures.now.ports.ok.0 in
    let there : c.args.next.index - 1 < length c.args.captures.now.ports.items = omega (arith, many, c.if-next-len.true, c.if-next-eq0.false) in
    subst (λ (s : Stream). IsOpen s.standing) (get_or_default c.args.captures.now.ports.items (c.args.next.index - 1) c.args.captures.now.underlay _ there ∙ sym c.index_mut.ensures.value) (c.requires.open (Port c.args.next.index) (refl, omega (arith, many, c.if-next-len.true, c.if-next-eq0.false), omega (arith, many, c.if-next-len.true)))

pub fetch-requires-2 : goal.fetch-requires-2
fetch-requires-2 g c = c.requires.open Underlay (omega (arith, c.if-next-len.false, c.requires.index, c.len.ensures, c.args.captures.now.ports.ok.0))

pub returns-then-next-len-clause-fetched : goal.returns-then-next-len-clause-fetched
returns-then-next-len-clause-fetched g c =
    let many : c.len.result ≡ length c.args.captures.now.ports.items = c.len.ensures ∙ c.args.captures.now.ports.ok.0 in
    let there : c.args.next.index - 1 < length c.args.captures.now.ports.items = omega (arith, many, c.if-next-len.true, c.if-next-eq0.false) in
    let here : IsAt (length c.args.captures.now.ports.items) c.args.next.index (Port c.args.next.index) = (refl, omega (arith, many, c.if-next-len.true, c.if-next-eq0.false), omega (arith, many, c.if-next-len.true)) in
    fetches_from c.args.changes.now c.args.next.index c.args.next.done c.args.next.moment c.args.captures.now.ports.items c.args.captures.now.underlay _ _ (Port c.args.next.index) c.fetch.new.source c.fetch.new.next c.fetch.result here (refl, refl)
    (subst (λ (s : Stream). IsFetch s c.fetch.new.source (Port c.args.next.index) c.args.next.done c.args.next.moment (fetched (Port c.args.next.index) c.args.next.done c.fetch.new.next c.fetch.result)) (c.index_mut.ensures.value ∙ get_or_default c.args.captures.now.ports.items (c.args.next.index - 1) _ c.args.captures.now.underlay there) (c.fetch.ensures.fetched (Port c.args.next.index) c.args.next.done))

pub returns-clause-fetched : goal.returns-clause-fetched
returns-clause-fetched g c =
    fetches_from c.args.changes.now c.args.next.index c.args.next.done c.args.next.moment c.args.captures.now.ports.items c.args.captures.now.underlay _ _ Underlay c.fetch-2.new.source c.fetch-2.new.next c.fetch-2.result (omega (arith, c.if-next-len.false, c.requires.index, c.len.ensures, c.args.captures.now.ports.ok.0)) (refl, refl)
    (c.fetch-2.ensures.fetched Underlay c.args.next.done)

-- ---- what a failed read was made for

pub returns-then-next-len-clause-lacked : goal.returns-then-next-len-clause-lacked
returns-then-next-len-clause-lacked g c =
    let many : c.len.result ≡ length c.args.captures.now.ports.items = c.len.ensures ∙ c.args.captures.now.ports.ok.0 in
    let there : c.args.next.index - 1 < length c.args.captures.now.ports.items = omega (arith, many, c.if-next-len.true, c.if-next-eq0.false) in
    let one = c.index_mut.ensures.value ∙ get_or_default c.args.captures.now.ports.items (c.args.next.index - 1) _ c.args.captures.now.underlay there in
    where_read _ (TakesRead c.args.captures.now.ports.items c.args.captures.now.underlay c.args.next.index) c.fetch.result (λ lacks. record {
      place = Port c.args.next.index;
      at = (refl, omega (arith, many, c.if-next-len.true, c.if-next-eq0.false), omega (arith, many, c.if-next-len.true));
      lacks = sym (ap holds_next one) ∙ lacks;
    }) c.fetch.ensures.lacked

pub returns-clause-lacked : goal.returns-clause-lacked
returns-clause-lacked g c =
    where_read _ (TakesRead c.args.captures.now.ports.items c.args.captures.now.underlay c.args.next.index) c.fetch-2.result (λ lacks. record {
      place = Underlay;
      at = omega (arith, c.if-next-len.false, c.requires.index, c.len.ensures, c.args.captures.now.ports.ok.0);
      lacks = lacks;
    }) c.fetch-2.ensures.lacked
