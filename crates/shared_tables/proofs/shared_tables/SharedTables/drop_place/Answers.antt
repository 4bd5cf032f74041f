use Rattle.std.proofs.Common.{refl, sym, ap, ◌∙◌, subst, arith}
use Rattle.shared_tables.specs.declared.links.Links.{Links}
use Rattle.shared_tables.specs.declared.shared_tables.SharedTables.TheInside.{Inside}
use Rattle.shared_tables.specs.Shared.{Shared, DropsAll}
use Rattle.shared_tables.specs.SharedFromFields.{shared_of}
use Rattle.shared_tables.proofs.OnEntries.Dropping.{threaded}
use Rattle.shared_tables.proofs.OnTrees.Uprooting.{may_go}
use Rattle.shared_tables.proofs.OnEntries.Passing.{seen_there, pass_starts, pass_held, pass_stays, pass_keep, pass_drop, pass_none, pass_ends, pass_at, pass_stands, pass_to}
use Rattle.shared_tables.proofs.OnEntries.SoundLemmas.{share_read}
use Rattle.shared_tables.proofs.shared_tables.SharedTables.drop_place.Goals as goal
use Rattle.shared_tables.proofs.shared_tables.SharedTables.drop_place.Goals.{in-Some-slot+then-is_same, in-Some-slot+else-is_same, in_default-slot}

pub loop-entry-init : goal.loop-entry-init
loop-entry-init c =
    let i = c.self.inside in
    record {
      passes = pass_starts i.slots i.trees i.shares.items i.moment c.args.vid c.args.place c.in-Some.share c.self.invariant.sound c.self.invariant.trees (share_read _ _ c.args.vid c.share_at.result c.in-Some.share c.deref.ensures.value c.share_at.ensures c.in-Some.is);
      moment = refl;
      calls = refl;
      compared = refl;
    }

pub links-cursor-requires : goal.links-cursor-requires
links-cursor-requires c =
    let held = pass_held (pass_to (sym c.slot.ensures ∙ c.in-Some-slot.is) c.loop-entry.invariant.passes) in
    record { in_pool = held.in_pool; held = held.held }

pub place-requires : goal.place-requires
place-requires c =
    let held = pass_held (pass_to (sym c.slot.ensures ∙ c.in-Some-slot.is) c.loop-entry.invariant.passes) in
    record { in_pool = held.in_pool; held = held.held }

pub drop_entry-requires : goal.drop_entry-requires
drop_entry-requires c =
    let now = c.loop-entry.self-inside in
    let w = pass_to (sym c.slot.ensures ∙ c.in-Some-slot.is) c.loop-entry.invariant.passes in
    let own = pass_stays w in
    let k = threaded now.slots.entries now.slots.lines now.shares.items now.moment w.sound c.args.vid c.in-Some-slot.slot own in
    record { held = k.held; line_previous = k.line_previous; line_next = k.line_next; sizes = w.grown.sizes; may_go = may_go now.slots.entries now.trees w.grown own.entry c.in-Some-slot.slot own.at_slot; shares = omega (arith, w.sound.shares_length, now.shares.ok.0); counted = k.counted }

pub loop-entry-preserved : goal.loop-entry-preserved
loop-entry-preserved c = elim c.match-slot.branch [
  | in-Some-slot+then-is_same w ↦
      let p = pass_to (sym c.slot.ensures ∙ w.in-Some-slot.is) c.loop-entry.invariant.passes in
      let stands = pass_stands p w.place.result w.is_same.result w.place.ensures w.is_same.ensures in
      record {
        passes = pass_at c.self.inside.slots c.self.inside.shares.items c.args.vid c.args.place c.match-slot.self-inside _ _ _ _ c.in-Some.share.count (w.cursor-is ∙ ap (λ (l : Links). l.next) w.links-cursor.ensures) w.self-inside-is (pass_drop p (stands ∙ w.if-is_same.true) w.drop_entry.new.slots w.drop_entry.new.trees w.drop_entry.new.shares.items w.drop_entry.ensures.pool w.drop_entry.ensures.trees w.drop_entry.ensures.shares);
        moment = ap (λ (i : Inside). i.moment) w.self-inside-is ∙ c.loop-entry.invariant.moment;
        calls = ap (λ (i : Inside). i.calls.total) w.self-inside-is ∙ c.loop-entry.invariant.calls;
        compared = ap (λ (i : Inside). i.compared.total) w.self-inside-is ∙ c.loop-entry.invariant.compared;
      }
  | in-Some-slot+else-is_same w ↦
      let p = pass_to (sym c.slot.ensures ∙ w.in-Some-slot.is) c.loop-entry.invariant.passes in
      let stands = pass_stands p w.place.result w.is_same.result w.place.ensures w.is_same.ensures in
      record {
        passes = pass_at c.self.inside.slots c.self.inside.shares.items c.args.vid c.args.place c.match-slot.self-inside _ _ _ _ c.in-Some.share.count (w.cursor-is ∙ ap (λ (l : Links). l.next) w.links-cursor.ensures) w.self-inside-is (pass_keep p (stands ∙ w.if-is_same.false));
        moment = ap (λ (i : Inside). i.moment) w.self-inside-is ∙ c.loop-entry.invariant.moment;
        calls = ap (λ (i : Inside). i.calls.total) w.self-inside-is ∙ c.loop-entry.invariant.calls;
        compared = ap (λ (i : Inside). i.compared.total) w.self-inside-is ∙ c.loop-entry.invariant.compared;
      }
  | in_default-slot w ↦
      let now = c.loop-entry.self-inside in
      let p = pass_to (sym c.slot.ensures ∙ w.in_default-slot.is) c.loop-entry.invariant.passes in
      record {
        passes = pass_at c.self.inside.slots c.self.inside.shares.items c.args.vid c.args.place c.match-slot.self-inside _ _ _ _ c.in-Some.share.count (w.cursor-is ∙ sym c.slot.ensures ∙ w.in_default-slot.is) w.self-inside-is (pass_none c.self.inside.slots now.slots now.trees c.self.inside.shares.items now.shares.items now.moment c.args.vid c.args.place c.loop-entry._entry c.in-Some.share.count c.loop-entry-test.true p);
        moment = ap (λ (i : Inside). i.moment) w.self-inside-is ∙ c.loop-entry.invariant.moment;
        calls = ap (λ (i : Inside). i.calls.total) w.self-inside-is ∙ c.loop-entry.invariant.calls;
        compared = ap (λ (i : Inside). i.compared.total) w.self-inside-is ∙ c.loop-entry.invariant.compared;
      }
]

pub invariant_of-self : goal.invariant_of-self
invariant_of-self c = record { sound = c.loop-entry.invariant.passes.sound; trees = c.loop-entry.invariant.passes.grown }

pub returns : goal.returns
returns c =
    let now = c.loop-entry.self-inside in let w = c.loop-entry.invariant.passes in
    let all = pass_ends c.self.inside.slots now.slots now.trees c.self.inside.shares.items now.shares.items now.moment c.args.vid c.args.place c.loop-entry.cursor c.loop-entry._entry c.in-Some.share.count (omega arith) w in
    subst (λ (o : Shared). DropsAll o (shared_of now) (seen_there c.args.vid c.args.place)) c.self.view_is (record {
      some = record {
        same = λ i. record { entries = now.slots.entries; rules = w.rules i; moment = c.loop-entry.invariant.moment i; calls = c.loop-entry.invariant.calls i; compared = c.loop-entry.invariant.compared i; visited = w.visited i };
        size = w.size;
        each = w.each;
      };
      all = all;
    })
