use Rattle.std.proofs.Common.{◌∙◌, sym}
use Rattle.endpoint_core.proofs.RoomLemmas.{count-asked}
use Rattle.endpoint_core.proofs.state.parts.Parts.segment_count.Goals as goal

pub returns-clause-settings : goal.returns-clause-settings
returns-clause-settings g c =
    let parts = c.args.self.now in
    c.segment_count.ensures ∙ sym (count-asked parts.ports parts.under parts.learning (g.T.Tables.pool parts.tables) (g.T.Tables.segments parts.tables))
