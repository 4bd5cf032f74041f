use Rattle.ranked_rows.proofs.Shown.{all_shown, shown_more}
use Rattle.ranked_rows.proofs.laws.shows_the_first.Goals as goal

pub returns-clause-one : goal.returns-clause-one
returns-clause-one g c =
    shown_more g.K.Ranked.rank g.C.Counts.joined g.C.Counts.none (record { grouped = g.met.C.Counts.grouped; turned = g.met.C.Counts.turned; whole = g.met.C.Counts.whole; nothing = g.met.C.Counts.nothing })

pub returns-clause-all : goal.returns-clause-all
returns-clause-all g c =
    all_shown g.K.Ranked.rank g.C.Counts.joined g.C.Counts.none (record { grouped = g.met.C.Counts.grouped; turned = g.met.C.Counts.turned; whole = g.met.C.Counts.whole; nothing = g.met.C.Counts.nothing })
