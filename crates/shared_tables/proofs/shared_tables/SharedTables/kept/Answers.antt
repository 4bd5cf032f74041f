use Rattle.std.proofs.Common.{◌∙◌, ap}
use Rattle.shared_tables.specs.Shared.{kept_count, Shared}
use Rattle.shared_tables.proofs.OnEntries.SoundLemmas.{kept_is, share_read}
use Rattle.shared_tables.proofs.shared_tables.SharedTables.kept.Goals as goal

pub returns : goal.returns
returns c =
    let i = c.self.inside in
    kept_is i.slots.entries i.slots.lines c.args.vid c.in-Some.share i.moment (c.self.invariant.sound.lined c.args.vid c.in-Some.share (share_read _ _ c.args.vid c.share_at.result c.in-Some.share c.deref.ensures.value c.share_at.ensures c.in-Some.is))
    ∙ ap (λ (s : Shared). kept_count c.args.vid s.entries) c.self.view_is
