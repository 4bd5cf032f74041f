use Rattle.std.proofs.Common.{◌∙◌, refl, ap}
use Rattle.record_match.specs.Compared.{Counted}
use Rattle.capture_compare.specs.Counts.{counts_of}
use Rattle.compare_reports.proofs.Comparing.{ends}
use Rattle.compare_reports.proofs.paired.compare_pair.Goals as goal

pub returns : goal.returns
returns g c = record {
  told = ends g.W.Onlooker.sees c.args.manner.now c.args.clock c.args.sent.now c.args.received.now c.compare_captures-end.new.comparison
      c.compare_captures-end.new.aside c.compare_captures-end.result _ c.args.onlooker.now c.compare_captures-end.new.onlooker c.finish.new.onlooker
      c.compare_captures-end.ensures.told c.finish.ensures.seen refl (c.of.ensures ∙ ap counts_of c.finish.ensures.comparison)
      (c.cut.ensures ∙ ap (λ (x : Counted). x.cut) c.finish.ensures.comparison) refl;
}
