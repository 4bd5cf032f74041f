use Rattle.std.proofs.Common.{length, ap, ◌∙◌, arith}
use Rattle.filter_db.specs.Standing.{added}
use Rattle.shared_tables.proofs.OnCalls.CallLemmas.{Begins, begins_plain}
use Rattle.shared_tables.proofs.OnCalls.SegmentsLemmas.{begun}
use Rattle.shared_tables.proofs.OnCalls.StandingLemmas.{rules_limits}
use Rattle.shared_tables.proofs.pool_calls.SharedTablesPoolTables.add.Goals as goal

pub begin_share-requires-clause-room : goal.begin_share-requires-clause-room
begin_share-requires-clause-room c =
    let old = c.args.self.now in let f = c.begin.new.self in let now = c.args.now in
    let k : Begins old f now = begins_plain old f now c.begin.ensures.after c.begin.ensures.orderly in
    omega (arith, c.requires.room, rules_limits f old k.rules, ap length k.entries)

pub returns-clause-after : goal.returns-clause-after
returns-clause-after c =
    let old = c.args.self.now in let f = c.begin.new.self in let now = c.args.now in
    let k : Begins old f now = begins_plain old f now c.begin.ensures.after c.begin.ensures.orderly in
    c.begin_share.ensures.segments ∙ ap (added c.args.rule) (begun old f now c.requires.time k.entries k.rules k.moment)
