use Rattle.std.proofs.Common.{refl, []}
use Rattle.capture_compare.proofs.Fetching.{has_begun}
use Rattle.capture_compare.proofs.coming.Coming.open.Goals as goal

pub returns : goal.returns
returns g c = record {
  fetched = λ manner. c.fetch.ensures.fetched manner c.args.source.now []
      (has_begun c.args.source.now c.open.new.self c.args.self.now.fetched c.requires.none c.in_default.ensures.opened c.in_default.ensures.answer c.in_default.ensures.begun c.in_default.ensures.most) refl;
}
