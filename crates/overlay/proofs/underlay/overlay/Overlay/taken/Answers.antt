use Rattle.std.proofs.Common.{◌∙◌, ap}
use Rattle.std.specs.Prelude.{is_some}
use Rattle.overlay.proofs.IndexLemmas.{taken_by}
use Rattle.overlay.proofs.underlay.overlay.Overlay.taken.Goals as goal

pub returns : goal.returns
returns c = c.is_some.ensures ∙ ap is_some c.get.ensures ∙ taken_by c.args.kind c.args.self.now.segments c.index.result.now.vids c.args.vni c.index.ensures
