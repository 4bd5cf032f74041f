use Rattle.std.proofs.Common.{sym, subst}
use Rattle.shared_tables.specs.Pool.{Pool}
use Rattle.shared_tables.specs.LinkSteps.{HoldsAny}
use Rattle.shared_tables.specs.SlotsOfSegments.{share_at, last_in}
use Rattle.shared_tables.proofs.OnEntries.SoundLemmas.{none_is}
use Rattle.shared_tables.proofs.OnEntries.Admitting.{enter_frees, number_lt, counts_more, has_ends, lasts, may_attach, enter_whole, enters}
use Rattle.shared_tables.proofs.admission.enter_in.Goals as goal

pub take-slot-requires : goal.take-slot-requires
take-slot-requires c = enter_frees c.args.slots.now c.args.trees.now c.args.shares.now.items c.args.moment c.requires.whole c.args.newcomer.now c.requires.room c.requires.may_come

pub attach-requires-clause-tree : goal.attach-requires-clause-tree
attach-requires-clause-tree c = number_lt c.args.slots.now c.args.trees.now c.args.shares.now.items c.args.moment c.requires.whole c.args.newcomer.now c.requires.room c.requires.may_come

pub attach-requires-clause-beside : goal.attach-requires-clause-beside
attach-requires-clause-beside c =
    let n = c.args.newcomer.now in
    may_attach c.args.slots.now c.args.trees.now c.args.shares.now.items c.args.moment c.requires.whole n c.requires.room c.requires.may_come c.take-slot.result c.take-slot.ensures.free.0 c.take-slot.ensures.free.1 n.beside c.requires.may_come.beside

pub join_share-requires-clause-room : goal.join_share-requires-clause-room
join_share-requires-clause-room c = counts_more c.args.slots.now c.args.trees.now c.args.shares.now.items c.args.moment c.requires.whole c.args.newcomer.now c.requires.room c.requires.may_come

pub join_share-requires-clause-last : goal.join_share-requires-clause-last
join_share-requires-clause-last c =
    let n = c.args.newcomer.now in let s = c.take-slot.result in
    subst (λ (p : Pool). HoldsAny p.entries (last_in (share_at c.args.shares.now.items n.vid) c.is_none.result)) (sym c.take-slot.ensures.pool)
    (lasts c.args.slots.now c.args.trees.now c.args.shares.now.items c.args.moment c.requires.whole n c.requires.room c.requires.may_come s c.take-slot.ensures.free.0 c.take-slot.ensures.free.1 c.is_none.result)

pub join_share-requires-clause-ends : goal.join_share-requires-clause-ends
join_share-requires-clause-ends c = has_ends c.args.slots.now c.args.trees.now c.args.shares.now.items c.args.moment c.requires.whole c.args.newcomer.now c.requires.room c.requires.may_come c.is_none.result

pub returns-clause-whole : goal.returns-clause-whole
returns-clause-whole c =
    let n = c.args.newcomer.now in
    enter_whole c.args.slots.now c.args.trees.now c.args.shares.now.items c.args.moment c.requires.whole n c.requires.room c.requires.may_come c.take-slot.result c.take-slot.ensures.free.0 c.take-slot.ensures.free.1
    c.join_share.new.slots c.attach.new.trees c.join_share.new.shares.items c.is_none.result (none_is n.last c.is_none.result c.is_none.ensures) c.take-slot.ensures.pool c.join_share.ensures.pool c.join_share.ensures.shares c.attach.ensures

pub returns-clause-enters : goal.returns-clause-enters
returns-clause-enters c =
    let n = c.args.newcomer.now in
    enters c.args.slots.now c.args.trees.now c.args.shares.now.items c.args.moment c.requires.whole n c.requires.room c.requires.may_come c.take-slot.result c.take-slot.ensures.free.0 c.take-slot.ensures.free.1
    c.join_share.new.slots c.attach.new.trees c.join_share.new.shares.items c.is_none.result (none_is n.last c.is_none.result c.is_none.ensures) c.take-slot.ensures.pool c.join_share.ensures.pool c.join_share.ensures.shares c.attach.ensures
