use Rattle.std.proofs.Common.{◌≡◌, ◌≤◌, ◌∙◌, ap, arith, length, refl, sym}
use Rattle.pcap.specs.Style.{number_of}
use Rattle.pcapng_input.proofs.Leads.{closed_placed, end_faulty, end_more, end_whole}
use Rattle.pcapng_input.proofs.reading.pass_end.Goals as goal

pub returns-then-held-lt-SECOND_LENGTH-clause-leads : goal.returns-then-held-lt-SECOND_LENGTH-clause-leads
returns-then-held-lt-SECOND_LENGTH-clause-leads g c = λ selection.
    end_more selection c.args.context.now c.args.context.now c.args.gathered.now c.fetch.new.self 4 c.in_ok-is_more.is_more c.args.ready.now c.args.order c.args.size
    c.in_ok-is_more.ensures.fetched c.requires.empty refl

pub returns-then-number4-size-clause-leads : goal.returns-then-number4-size-clause-leads
returns-then-number4-size-clause-leads g c =
    let same = c.held-held.ensures.octets in
    let four : 4 ≤ length c.fetch.new.self.held = omega (arith, c.if-held-lt-SECOND_LENGTH.false, ap length same) in
    λ selection.
    end_faulty selection c.args.context.now c.args.context.now c.args.gathered.now c.fetch.new.self 4 c.in_ok-is_more.is_more c.args.ready.now c.args.order c.args.size c.fault.result
    refl c.in_ok-is_more.ensures.fetched c.requires.empty four (λ e. c.if-number4-size.true (c.number4.ensures ∙ ap (number_of c.args.order 4) same ∙ e)) c.fault.ensures

pub returns-clause-leads : goal.returns-clause-leads
returns-clause-leads g c =
    let same = c.held-held.ensures.octets in
    let fetched = c.in_ok-is_more.ensures.fetched in
    let four : length c.fetch.new.self.held ≡ 4 = omega (arith, c.if-held-lt-SECOND_LENGTH.false, ap length same, fetched.fits) in
    λ selection.
    end_whole selection c.args.context.now c.skip.new.self c.args.gathered.now c.fetch.new.self c.clear.new.self 4 c.in_ok-is_more.is_more c.args.ready.now c.args.order c.args.size
    fetched c.clear.ensures c.requires.empty four (sym (ap (number_of c.args.order 4) same) ∙ sym c.number4.ensures ∙ c.if-number4-size.false) c.skip.ensures

pub returns-clause-sound : goal.returns-clause-sound
returns-clause-sound g c =
    closed_placed c.args.context.now c.skip.new.self c.args.size c.args.gathered.now c.fetch.new.self c.clear.new.self c.requires.sound c.in_ok-is_more.ensures.fewer c.clear.ensures
    c.skip.ensures
