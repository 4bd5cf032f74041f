use Rattle.std.proofs.Common.{◌∙◌, ℕ, ap}
use Rattle.pcap.specs.Record.{Record}
use Rattle.capture_survey.specs.Tally.{is_too_long, one_if}
use Rattle.capture_survey.proofs.Counting.{tally_more}
use Rattle.capture_survey.proofs.tally.Tally.add.Goals as goal

pub returns : goal.returns
returns c =
    λ rs is.
    tally_more c.args.tap rs c.args.next.now c.args.self.now c.next.inside.moment c.first_of.result c.last_of.result c.one_if.result c.one_if-2.result c.one_if-4.result c.one_if-3.result is
    (ap (λ (r : Record). r.moment) c.next.view_is) c.first_of.ensures c.last_of.ensures (c.one_if.ensures ∙ ap one_if c.is_cut_short.ensures)
    (c.one_if-2.ensures ∙ ap one_if (c.is_too_long.ensures ∙ ap (λ (n : ℕ). is_too_long n c.args.next.now) c.longest_at.ensures)) (c.one_if-4.ensures ∙ ap one_if c.is_below.ensures)
    (c.one_if-3.ensures ∙ ap one_if c.is_left_to_card.ensures)
