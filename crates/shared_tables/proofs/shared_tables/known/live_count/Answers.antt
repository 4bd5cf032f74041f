use Rattle.std.proofs.Common.{ℕ, ◌-◌, is_some, Option, sym, ap, ◌∙◌, subst, arith}
use Rattle.shared_tables.specs.declared.links.Links.{Links}
use Rattle.shared_tables.specs.Listing.{CountsLive}
use Rattle.shared_tables.proofs.OnCalls.Counting.{Counts, count_starts, count_on, count_some, count_all, count_ends, count_lives, walk_held}
use Rattle.shared_tables.proofs.shared_tables.known.live_count.Goals as goal

pub loop-entry-init : goal.loop-entry-init
loop-entry-init c = count_starts c.args.slots.now.entries c.args.slots.now.lines c.args.vid _ c.args.now c.args.share.now c.requires.0 c.requires.1

pub live_row-requires : goal.live_row-requires
live_row-requires c =
    let w = subst (λ (o : Option ℕ). Counts c.args.slots.now.entries c.args.slots.now.lines c.args.vid c.span_of-ageing.result c.args.now c.args.share.now o c.loop-entry._entry c.loop-entry.count) (sym c.slot.ensures ∙ c.in-Some.is) c.loop-entry.invariant in
    let h = walk_held _ _ c.args.vid _ c.args.share.now c.in-Some.slot _ w.walk in
    record { in_pool = h.in_pool; held = h.held }

pub links-cursor-requires : goal.links-cursor-requires
links-cursor-requires c =
    let w = subst (λ (o : Option ℕ). Counts c.args.slots.now.entries c.args.slots.now.lines c.args.vid c.span_of-ageing.result c.args.now c.args.share.now o c.loop-entry._entry c.loop-entry.count) (sym c.slot.ensures ∙ c.in-Some.is) c.loop-entry.invariant in
    let h = walk_held _ _ c.args.vid _ c.args.share.now c.in-Some.slot _ w.walk in
    record { in_pool = h.in_pool; held = h.held }

pub overflow_sub-count : goal.overflow_sub-count
overflow_sub-count c =
    let w = subst (λ (o : Option ℕ). Counts c.args.slots.now.entries c.args.slots.now.lines c.args.vid c.span_of-ageing.result c.args.now c.args.share.now o c.loop-entry._entry c.loop-entry.count) (sym c.slot.ensures ∙ c.in-Some.is) c.loop-entry.invariant in
    omega (arith, count_some _ _ _ _ _ _ _ _ _ w)

pub loop-entry-preserved : goal.loop-entry-preserved
loop-entry-preserved c =
    let w = subst (λ (o : Option ℕ). Counts c.args.slots.now.entries c.args.slots.now.lines c.args.vid c.span_of-ageing.result c.args.now c.args.share.now o c.loop-entry._entry c.loop-entry.count) (sym c.slot.ensures ∙ c.in-Some.is) c.loop-entry.invariant in
    count_on _ _ _ _ _ _ c.in-Some.slot _ c.loop-entry.count (c.loop-entry.count - 1) w _ (sym (c.is_some.ensures ∙ ap is_some c.live_row.ensures) ∙ c.if-is_some.false) (ap (λ (l : Links). l.next) c.links-cursor.ensures) (omega (arith, count_some _ _ _ _ _ _ _ _ _ w))

pub returns-then-is_some : goal.returns-then-is_some
returns-then-is_some c =
    let w = subst (λ (o : Option ℕ). Counts c.args.slots.now.entries c.args.slots.now.lines c.args.vid c.span_of-ageing.result c.args.now c.args.share.now o c.loop-entry._entry c.loop-entry.count) (sym c.slot.ensures ∙ c.in-Some.is) c.loop-entry.invariant in
    subst (λ (a : ℕ). CountsLive c.args.slots.now.entries c.args.vid a c.args.now c.loop-entry.count) c.span_of-ageing.ensures
    (count_lives _ _ _ _ _ _ c.in-Some.slot _ _ w (sym (c.is_some.ensures ∙ ap is_some c.live_row.ensures) ∙ c.if-is_some.true))

pub returns-in_default : goal.returns-in_default
returns-in_default c =
    let w = subst (λ (o : Option ℕ). Counts c.args.slots.now.entries c.args.slots.now.lines c.args.vid c.span_of-ageing.result c.args.now c.args.share.now o c.loop-entry._entry c.loop-entry.count) (sym c.slot.ensures ∙ c.in_default.is) c.loop-entry.invariant in
    subst (λ (a : ℕ). CountsLive c.args.slots.now.entries c.args.vid a c.args.now c.loop-entry.count) c.span_of-ageing.ensures (count_ends _ _ _ _ _ _ _ _ w)

pub returns : goal.returns
returns c =
    subst (λ (a : ℕ). CountsLive c.args.slots.now.entries c.args.vid a c.args.now c.loop-entry.count) c.span_of-ageing.ensures
    (count_all _ _ _ _ _ _ _ _ _ c.loop-entry.invariant (omega arith))
