use Rattle.stream_run.proofs.take.take_change.Goals as goal

pub see-requires : goal.see-requires
see-requires g c = c.requires.kind c.nothing_came.result
