use Rattle.shared_tables.specs.Shared.{NoneAges, IsOldest}
use Rattle.shared_tables.proofs.OnEntries.SoundLemmas.{share_read, first_seen}
use Rattle.shared_tables.proofs.OnEntries.Sweeping.{oldest_if_none, oldest_if_some}
use Rattle.shared_tables.proofs.shared_tables.SharedTables.oldest.Goals as goal

pub returns : goal.returns
returns c =
    let i = c.self.inside in let v = c.args.vid in let share = c.in-Some.share in let es = i.slots.entries in let ls = i.slots.lines in
    let lines = c.self.invariant.sound.lined v share (share_read _ _ v c.share_at.result share c.deref.ensures.value c.share_at.ensures c.in-Some.is) in
    let k = first_seen (λ xs. NoneAges xs v) (λ xs. IsOldest xs v) i c.args.self.now share.queue.first _ c.self.view_is c.slot.ensures (oldest_if_none es ls v share i.moment lines) (oldest_if_some es ls v share i.moment lines) in record { none = k.0; some = k.1 }
