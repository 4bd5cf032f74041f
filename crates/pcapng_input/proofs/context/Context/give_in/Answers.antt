use Rattle.std.proofs.Common.{◌≡◌, ◌∙◌, ◌-◌, ap, arith, drop, length, length-drop, take}
use Rattle.std.proofs.lemmas.List.{take_all}
use Rattle.pcap.specs.Record.{Record}
use Rattle.pcapng_input.proofs.Fronts.{behind_packet, front_as, gives_other, gives_packet}
use Rattle.pcapng_input.specs.Front.{IsFrontPacket}
use Rattle.pcapng_input.specs.Reading.{Context}
use Rattle.pcapng_input.specs.declared.front.FrontPacket.TheVariants as front
use Rattle.pcapng_input.proofs.context.Context.give_in.Goals as goal

pub loop-size-preserved-in-Other : goal.loop-size-preserved-in-Other
loop-size-preserved-in-Other c =
    let loop = c.loop-size.invariant in
    let text = c.args.text.now in
    let mid = c.loop-size.self in
    let used = c.loop-size.done.used in
    let size = c.in-Other.size in
    let behind : take (length text - used) (drop used text) ≡ drop used text = take_all (length text - used) (drop used text) (omega (arith, length-drop used text)) in
    let is : IsFrontPacket c.args.order mid.interfaces mid.last (drop used text) (front.Other size) =
    front_as c.args.order c.as_slice.result.now mid.interfaces c.self.inside.last mid.last (take (length text - used) (drop used text)) (drop used text) (front.Other size)
    (c.as_slice.ensures.value ∙ ap (λ (x : Context). x.interfaces) c.self.view_is) (ap (λ (x : Context). x.last) c.self.view_is) behind c.in-Other.ensures in
    let whole = is.0 in
    record {
      used = omega (arith, whole.fits, length-drop used text, loop.used);
      given = loop.given;
      gives = gives_other c.args.self.now mid c.skip.new.self text (take c.loop-size.done.given c.loop-size.room) c.args.order used size loop.gives loop.order whole is.1 c.skip.ensures;
      order = ap (λ (x : Context). x.order) c.skip.ensures ∙ loop.order;
    }

pub loop-size-preserved : goal.loop-size-preserved
loop-size-preserved c =
    let loop = c.loop-size.invariant in
    let text = c.args.text.now in
    let mid = c.loop-size.self in
    let used = c.loop-size.done.used in
    let size = c.in-Selected.size in
    let packet = c.in-Selected.packet in
    let behind : take (length text - used) (drop used text) ≡ drop used text = take_all (length text - used) (drop used text) (omega (arith, length-drop used text)) in
    let is : IsFrontPacket c.args.order mid.interfaces mid.last (drop used text) (front.Selected size packet) =
    front_as c.args.order c.as_slice.result.now mid.interfaces c.self.inside.last mid.last (take (length text - used) (drop used text)) (drop used text)
    (front.Selected size packet) (c.as_slice.ensures.value ∙ ap (λ (x : Context). x.interfaces) c.self.view_is)
    (ap (λ (x : Context). x.last) c.self.view_is) behind c.in-Selected.ensures in
    let whole = is.0 in
    let moment = ap (λ (r : Record). r.moment) c.packet.view_is in
    let after : c.skip-in-Selected.new.self ≡ behind_packet mid size packet.moment =
    c.skip-in-Selected.ensures ∙ ap (λ (x : Context). behind_packet x size c.packet.inside.moment) c.self.view_is ∙ ap (behind_packet mid size) moment in
    record {
      used = omega (arith, whole.fits, length-drop used text, loop.used);
      given = c.in-Some.ensures.fits;
      gives = gives_packet c.args.self.now mid c.skip-in-Selected.new.self text (take c.loop-size.done.given c.loop-size.room) (take c.in-Some.end c.put_record.new.room)
          c.args.order used size packet loop.gives loop.order whole is.1 is.3 after c.in-Some.ensures.text;
      order = ap (λ (x : Context). x.order) after ∙ loop.order;
    }
