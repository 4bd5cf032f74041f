use Rattle.std.proofs.Common.{◌∙◌}
use Rattle.endpoint_core.specs.Kept.{state_of}
use Rattle.talkers.proofs.Brought.{brought}
use Rattle.talkers.proofs.coming.keep_coming.Goals as goal

pub returns-in-Record : goal.returns-in-Record
returns-in-Record c =
    c.keep_by.ensures ∙ brought (state_of c.args.endpoint.now).bridges.settings c.args.moment _ c.args.came.now c.args.happening.now _ c.in-Record.is c.requires
