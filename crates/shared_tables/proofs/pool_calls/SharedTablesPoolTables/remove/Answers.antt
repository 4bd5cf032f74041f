use Rattle.std.proofs.Common.{ap, ◌∙◌}
use Rattle.filter_db.specs.Standing.{removed}
use Rattle.shared_tables.specs.Segments.{segments_of}
use Rattle.shared_tables.proofs.OnCalls.CallLemmas.{Begins, begins_plain}
use Rattle.shared_tables.proofs.OnCalls.SegmentsLemmas.{begun}
use Rattle.shared_tables.proofs.OnCalls.StandingLemmas.{cleared, empty_segments, emptied_none, removed-adjusted}
use Rattle.shared_tables.proofs.OnCalls.Steps.{leaves, drop_step, ruled_step}
use Rattle.shared_tables.proofs.pool_calls.SharedTablesPoolTables.remove.Goals as goal

pub end_share-requires : goal.end_share-requires
end_share-requires c = record { none = emptied_none c.begin.new.self c.empty.new.tables c.args.vid c.empty.ensures }

pub returns-clause-after : goal.returns-clause-after
returns-clause-after c =
    let old = c.args.self.now in let f = c.begin.new.self in let v = c.args.vid in let now = c.args.now in
    let k : Begins old f now = begins_plain old f now c.begin.ensures.after c.begin.ensures.orderly in
    c.end_share.ensures.segments
    ∙ ap (removed v) (empty_segments f c.empty.new.tables v k.orderly.unique c.empty.ensures)
    ∙ removed-adjusted v cleared (segments_of f)
    ∙ ap (removed v) (begun old f now c.requires.time k.entries k.rules k.moment)

pub returns-clause-paid : goal.returns-clause-paid
returns-clause-paid c =
    let old = c.args.self.now in let f = c.begin.new.self in let now = c.args.now in
    let k : Begins old f now = begins_plain old f now c.begin.ensures.after c.begin.ensures.orderly in
    (leaves old f c.end_share.new.self now k (ruled_step f c.empty.new.tables c.end_share.new.self _ (drop_step f c.empty.new.tables _ c.empty.ensures.some) c.end_share.ensures.same)).paid
