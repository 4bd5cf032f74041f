use Rattle.shared_tables.proofs.share.open_share.Goals as goal

pub returns-clause-items : goal.returns-clause-items
returns-clause-items c = c.set_share.ensures.items
