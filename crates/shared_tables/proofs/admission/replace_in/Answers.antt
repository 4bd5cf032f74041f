use Rattle.std.proofs.Common.{◌≡◌, ◌≢◌, true, false, Some, sym, ◌∙◌}
use Rattle.shared_tables.specs.TreesOfSlots.{leaf_of}
use Rattle.shared_tables.proofs.OnEntries.Replacing.{may_drop, may_leave, dropped_whole, dropped_room, dropped_may_come, dropped_replaces, again_threaded, again_last, again_ends, again_whole, again_replaces}
use Rattle.shared_tables.proofs.admission.replace_in.Goals as goal

pub renew_entry-requires-clause-previous : goal.renew_entry-requires-clause-previous
renew_entry-requires-clause-previous c = (again_threaded c.args.slots.now c.args.trees.now c.args.shares.now.items c.args.moment c.requires.whole c.args.newcomer.now c.args.slot c.requires.held c.requires.rule c.requires.may_come c.readdress.new.self c.readdress.ensures).line_previous

pub renew_entry-requires-clause-next : goal.renew_entry-requires-clause-next
renew_entry-requires-clause-next c = (again_threaded c.args.slots.now c.args.trees.now c.args.shares.now.items c.args.moment c.requires.whole c.args.newcomer.now c.args.slot c.requires.held c.requires.rule c.requires.may_come c.readdress.new.self c.readdress.ensures).line_next

pub renew_entry-requires-clause-last : goal.renew_entry-requires-clause-last
renew_entry-requires-clause-last c = again_last c.args.slots.now c.args.trees.now c.args.shares.now.items c.args.moment c.requires.whole c.args.newcomer.now c.args.slot c.requires.held c.requires.rule c.requires.may_come c.readdress.new.self c.readdress.ensures

pub renew_entry-requires-clause-ends : goal.renew_entry-requires-clause-ends
renew_entry-requires-clause-ends c = again_ends c.args.slots.now c.args.trees.now c.args.shares.now.items c.args.moment c.requires.whole c.args.newcomer.now c.args.slot c.requires.held c.requires.rule c.requires.may_come c.readdress.new.self c.readdress.ensures

pub drop_entry-requires-clause-line_previous : goal.drop_entry-requires-clause-line_previous
drop_entry-requires-clause-line_previous c = (may_drop c.args.slots.now c.args.trees.now c.args.shares.now.items c.args.moment c.requires.whole c.args.newcomer.now c.args.slot c.requires.held c.requires.rule c.requires.may_come).line_previous

pub drop_entry-requires-clause-line_next : goal.drop_entry-requires-clause-line_next
drop_entry-requires-clause-line_next c = (may_drop c.args.slots.now c.args.trees.now c.args.shares.now.items c.args.moment c.requires.whole c.args.newcomer.now c.args.slot c.requires.held c.requires.rule c.requires.may_come).line_next

pub drop_entry-requires-clause-may_go : goal.drop_entry-requires-clause-may_go
drop_entry-requires-clause-may_go c = may_leave c.args.slots.now c.args.trees.now c.args.shares.now.items c.args.moment c.requires.whole c.args.newcomer.now c.args.slot c.requires.held c.requires.rule c.requires.may_come

pub drop_entry-requires-clause-counted : goal.drop_entry-requires-clause-counted
drop_entry-requires-clause-counted c = (may_drop c.args.slots.now c.args.trees.now c.args.shares.now.items c.args.moment c.requires.whole c.args.newcomer.now c.args.slot c.requires.held c.requires.rule c.requires.may_come).counted

pub enter_in-requires-clause-whole : goal.enter_in-requires-clause-whole
enter_in-requires-clause-whole c = dropped_whole c.args.slots.now c.args.trees.now c.args.shares.now.items c.args.moment c.requires.whole c.args.newcomer.now c.args.slot c.requires.held c.requires.rule c.requires.may_come
    c.drop_entry.new.slots c.drop_entry.new.trees c.drop_entry.new.shares.items c.drop_entry.ensures.pool c.drop_entry.ensures.trees c.drop_entry.ensures.shares

pub enter_in-requires-clause-room : goal.enter_in-requires-clause-room
enter_in-requires-clause-room c = dropped_room c.args.slots.now c.args.trees.now c.args.shares.now.items c.args.moment c.requires.whole c.args.newcomer.now c.args.slot c.requires.held c.requires.rule c.requires.may_come
    c.drop_entry.new.slots c.drop_entry.new.trees c.drop_entry.new.shares.items c.drop_entry.ensures.pool c.drop_entry.ensures.trees c.drop_entry.ensures.shares

pub enter_in-requires-clause-may_come : goal.enter_in-requires-clause-may_come
enter_in-requires-clause-may_come c =
    let other : leaf_of c.args.newcomer.now.beside ≢ Some c.args.slot = λ q. let yes : c.is_leaf.result ≡ true = c.is_leaf.ensures.1 q in let bad : true ≡ false = sym yes ∙ c.if-is_leaf.false in cc in
    dropped_may_come c.args.slots.now c.args.trees.now c.args.shares.now.items c.args.moment c.requires.whole c.args.newcomer.now c.args.slot c.requires.held c.requires.rule c.requires.may_come
    c.drop_entry.new.slots c.drop_entry.new.trees c.drop_entry.new.shares.items c.drop_entry.ensures.pool c.drop_entry.ensures.trees c.drop_entry.ensures.shares other

pub returns-then-is_leaf-clause-whole : goal.returns-then-is_leaf-clause-whole
returns-then-is_leaf-clause-whole c = again_whole c.args.slots.now c.args.trees.now c.args.shares.now.items c.args.moment c.requires.whole c.args.newcomer.now c.args.slot c.requires.held c.requires.rule c.requires.may_come c.readdress.new.self c.readdress.ensures
    (c.is_leaf.ensures.0 c.if-is_leaf.true) c.renew_entry.new.slots c.renew_entry.new.shares.items c.renew_entry.ensures.pool c.renew_entry.ensures.shares

pub returns-then-is_leaf-clause-replaces : goal.returns-then-is_leaf-clause-replaces
returns-then-is_leaf-clause-replaces c = λ calls compared. again_replaces c.args.slots.now c.args.trees.now c.args.shares.now.items c.args.moment c.requires.whole c.args.newcomer.now c.args.slot c.requires.held c.requires.rule c.requires.may_come c.readdress.new.self c.readdress.ensures
    (c.is_leaf.ensures.0 c.if-is_leaf.true) c.renew_entry.new.slots c.renew_entry.new.shares.items c.renew_entry.ensures.pool c.renew_entry.ensures.shares calls compared

pub returns-else-is_leaf-clause-replaces : goal.returns-else-is_leaf-clause-replaces
returns-else-is_leaf-clause-replaces c = λ calls compared. dropped_replaces c.args.slots.now c.args.trees.now c.args.shares.now.items c.args.moment c.requires.whole c.args.newcomer.now c.args.slot c.requires.held c.requires.rule c.requires.may_come
    c.drop_entry.new.slots c.drop_entry.new.trees c.drop_entry.new.shares.items c.drop_entry.ensures.pool c.drop_entry.ensures.trees c.drop_entry.ensures.shares _ calls compared (c.enter_in.ensures.enters calls compared)
