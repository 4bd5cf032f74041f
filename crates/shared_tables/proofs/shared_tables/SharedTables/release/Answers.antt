use Rattle.std.proofs.Common.{◌≡◌, map, set, None, refl, sym, ap, ◌∙◌, subst, arith}
use Rattle.std.specs.Option.{option_map}
use Rattle.shared_tables.specs.Pool.{Pool, entry_at, IfHeld}
use Rattle.shared_tables.specs.Shared.{Shared, HasRoom, rule_at, kept_count, Lacks}
use Rattle.shared_tables.specs.SlotsOfSegments.{rule_of}
use Rattle.shared_tables.proofs.OnEntries.SoundLemmas.{sound_at, same_shared}
use Rattle.shared_tables.specs.TreesOfSlots.{AreTreesOf}
use Rattle.shared_tables.proofs.OnTrees.Uprooting.{may_go, uproot_trees}
use Rattle.shared_tables.proofs.OnEntries.Dropping.{stays_inside, threaded, drop_sound, drop_rules, drop_room, drop_lacks}
use Rattle.shared_tables.proofs.shared_tables.SharedTables.release.Goals as goal

pub drop_entry-requires : goal.drop_entry-requires
drop_entry-requires c =
    let i = c.self.inside in let h = c.self.invariant in let s = c.args.slot in let v = c.args.vid in
    let k = threaded i.slots.entries i.slots.lines i.shares.items i.moment h.sound v s (stays_inside i c.args.self.now v s c.self.view_is c.requires.held c.requires.rule) in
    let own = stays_inside i c.args.self.now v s c.self.view_is c.requires.held c.requires.rule in
    record { held = k.held; line_previous = k.line_previous; line_next = k.line_next; sizes = h.trees.sizes; may_go = may_go i.slots.entries i.trees h.trees own.entry s own.at_slot; shares = omega (arith, h.sound.shares_length, i.shares.ok.0); counted = k.counted }

pub invariant_of-self : goal.invariant_of-self
invariant_of-self c =
    let i = c.self.inside in let s = c.args.slot in let v = c.args.vid in let pool = c.drop_entry.ensures.pool in
    let own = stays_inside i c.args.self.now v s c.self.view_is c.requires.held c.requires.rule in
    let es : c.drop_entry.new.slots.entries ≡ set i.slots.entries s None = ap (λ (p : Pool). p.entries) pool in
    record {
      sound = sound_at i.moment es (ap (λ (p : Pool). p.lines) pool) c.drop_entry.ensures.shares (drop_sound i.slots.entries i.slots.lines i.shares.items i.moment c.self.invariant.sound v s own);
      trees = subst (λ xs. AreTreesOf xs c.drop_entry.new.trees) (sym es) (uproot_trees i.slots.entries i.trees c.drop_entry.new.trees c.self.invariant.trees own.entry s own.at_slot c.drop_entry.ensures.trees);
    }

pub returns : goal.returns
returns c =
    let i = c.self.inside in let s = c.args.slot in let v = c.args.vid in let pool = c.drop_entry.ensures.pool in
    let k = stays_inside i c.args.self.now v s c.self.view_is c.requires.held c.requires.rule in
    let es : c.drop_entry.new.slots.entries ≡ set i.slots.entries s None = ap (λ (p : Pool). p.entries) pool in
    let left : Shared → Shared = λ w. record w { entries = set w.entries s None } in
    record {
      same = same_shared i.moment i.calls.total es
          (ap (map (option_map rule_of)) c.drop_entry.ensures.shares ∙ drop_rules i.slots.entries i.slots.lines i.shares.items i.moment c.self.invariant.sound v s k)
          refl (ap (λ (p : Pool). p.visited) pool)
          ∙ ap left c.self.view_is;
      room = subst (λ es'. HasRoom (rule_at c.args.self.now.rules v) (kept_count v es')) (sym es)
          (subst (λ (w : Shared). HasRoom (rule_at w.rules v) (kept_count v (set i.slots.entries s None))) c.self.view_is (drop_room i.slots.entries i.slots.lines i.shares.items i.moment c.self.invariant.sound v s k));
      alone = λ mac held.
          subst (λ es'. Lacks es' v mac) (sym es)
          (drop_lacks i.slots.entries i.slots.lines i.shares.items i.moment c.self.invariant.sound v s k mac (subst (λ (w : Shared). IfHeld (entry_at w.entries s) v mac) (sym c.self.view_is) held));
    }
