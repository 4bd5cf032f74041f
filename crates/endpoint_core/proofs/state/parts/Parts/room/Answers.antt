use Rattle.std.proofs.Common.{ℕ, ◌+◌, ◌∙◌, ap}
use Rattle.endpoint_core.proofs.RoomLemmas.{sum-asked}
use Rattle.endpoint_core.proofs.state.parts.Parts.room.Goals as goal

pub returns-clause-settings : goal.returns-clause-settings
returns-clause-settings g c =
    let parts = c.args.self.now in
    ap (λ (n : ℕ). c.room.result + n) (sum-asked parts.ports parts.under parts.learning (g.T.Tables.pool parts.tables) (g.T.Tables.segments parts.tables)) ∙ c.room.ensures
