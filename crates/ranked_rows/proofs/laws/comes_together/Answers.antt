use Rattle.ranked_rows.proofs.Merging.{shown_together}
use Rattle.ranked_rows.proofs.laws.comes_together.Goals as goal

pub returns : goal.returns
returns g c =
    shown_together g.K.Ranked.rank g.C.Counts.joined g.C.Counts.none (record { grouped = g.met.C.Counts.grouped; turned = g.met.C.Counts.turned; whole = g.met.C.Counts.whole; nothing = g.met.C.Counts.nothing })
