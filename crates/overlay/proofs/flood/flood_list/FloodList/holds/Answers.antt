use Rattle.std.proofs.Common.{◌∙◌, ap}
use Rattle.std.specs.Prelude.{is_some}
use Rattle.overlay.proofs.FloodLemmas.{holds-place}
use Rattle.overlay.proofs.flood.flood_list.FloodList.holds.Goals as goal

pub returns : goal.returns
returns c = c.is_some.ensures ∙ ap is_some c.place.ensures ∙ holds-place c.args.self.now c.args.tunnel c.args.addr
