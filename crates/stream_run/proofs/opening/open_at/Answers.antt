use Rattle.std.proofs.Common.{◌≡◌, ◌-◌, ◌<◌, ◌∙◌, sym, subst, refl, arith, length}
use Rattle.std.proofs.lemmas.List.{get_or_default}
use Rattle.pcap.specs.Source.{Stream}
use Rattle.timeline.specs.declared.source.Tap.TheVariants.{Port, Underlay}
use Rattle.stream_run.specs.Begun.{IsUnread, IsOpening}
use Rattle.stream_run.proofs.opening.open_at.Goals as goal

pub open_capture-requires : goal.open_capture-requires
open_capture-requires g c =
    let many : c.len.result ≡ length c.args.captures.now.ports.items = c.len.ensures ∙ c.args.captures.now.ports.ok.0 in
    let there : c.args.index - 1 < length c.args.captures.now.ports.items = omega (arith, many, c.if-index-len.true, c.requires.first) in
    subst IsUnread (get_or_default c.args.captures.now.ports.items (c.args.index - 1) c.args.captures.now.underlay _ there ∙ sym c.index_mut.ensures.value) (c.requires.new (Port c.args.index) (refl, omega (arith, many, c.if-index-len.true, c.requires.first), omega (arith, many, c.if-index-len.true)))

pub open_capture-requires-2 : goal.open_capture-requires-2
open_capture-requires-2 g c = c.requires.new Underlay (omega (arith, c.if-index-len.false, c.requires.index, c.len.ensures, c.args.captures.now.ports.ok.0))

pub returns-then-index-len-clause-opened : goal.returns-then-index-len-clause-opened
returns-then-index-len-clause-opened g c =
    let many : c.len.result ≡ length c.args.captures.now.ports.items = c.len.ensures ∙ c.args.captures.now.ports.ok.0 in
    let there : c.args.index - 1 < length c.args.captures.now.ports.items = omega (arith, many, c.if-index-len.true, c.requires.first) in
    record {
      place = Port c.args.index;
      source = c.open_capture.new.source;
      at = (refl, omega (arith, many, c.if-index-len.true, c.requires.first), omega (arith, many, c.if-index-len.true));
      changed = (refl, refl);
      opening = subst (λ (s : Stream). IsOpening (Port c.args.index) s c.open_capture.new.source c.open_capture.result) (c.index_mut.ensures.value ∙ get_or_default c.args.captures.now.ports.items (c.args.index - 1) _ c.args.captures.now.underlay there)
          (record { open_ = c.open_capture.ensures.open; reads = c.open_capture.ensures.reads; header = c.open_capture.ensures.header });
    }

pub returns-clause-opened : goal.returns-clause-opened
returns-clause-opened g c = record {
  place = Underlay;
  source = c.open_capture-2.new.source;
  at = omega (arith, c.if-index-len.false, c.requires.index, c.len.ensures, c.args.captures.now.ports.ok.0);
  changed = (refl, refl);
  opening = record { open_ = c.open_capture-2.ensures.open; reads = c.open_capture-2.ensures.reads; header = c.open_capture-2.ensures.header };
}
