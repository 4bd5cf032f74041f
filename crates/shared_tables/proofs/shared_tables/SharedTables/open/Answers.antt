use Rattle.std.proofs.Common.{◌∙◌, arith, map, refl, ap, subst, sym, replicate, None}
use Rattle.std.specs.Option.{option_map}
use Rattle.shared_tables.specs.Pool.{Pool}
use Rattle.shared_tables.specs.Shared.{held_count}
use Rattle.shared_tables.specs.Segments.{segments_of}
use Rattle.shared_tables.specs.SlotsOfSegments.{rule_of}
use Rattle.shared_tables.proofs.OnEntries.SoundLemmas.{sound_at}
use Rattle.shared_tables.proofs.OnEntries.OpenedLemmas.{open_sound, segments_of_opened, none_held}
use Rattle.shared_tables.specs.TreesOfSlots.{AreTreesOf}
use Rattle.shared_tables.proofs.OnTrees.Bare.{bare_trees_of}
use Rattle.shared_tables.proofs.shared_tables.SharedTables.open.Goals as goal

pub invariant_of-result : goal.invariant_of-result
invariant_of-result c =
    let pool = c.in_ok-new.ensures in let shares = c.in_ok-open_shares.field-0.items in
    record {
      sound = sound_at 0 (ap (λ (p : Pool). p.entries) pool) (ap (λ (p : Pool). p.lines) pool) refl (open_sound c.args.pool c.args.rules.now shares c.in_ok-open_shares.ensures c.requires.room);
      trees = subst (λ es. AreTreesOf es c.in_ok-new-2.field-0) (sym (ap (λ (p : Pool). p.entries) pool)) (subst (λ w. AreTreesOf (replicate c.args.pool None) w) (sym c.in_ok-new-2.ensures) (bare_trees_of c.args.pool c.requires.size));
    }

pub returns : goal.returns
returns c =
    let pool = c.in_ok-new.ensures in let shares = c.in_ok-open_shares.field-0.items in
    record {
      segments = ap (λ (p : Pool). segments_of (record { entries = p.entries; rules = map (option_map rule_of) shares; moment = 0; calls = c.zero.result.total; compared = c.zero-2.result.total; visited = p.visited })) pool
          ∙ segments_of_opened c.args.pool c.args.rules.now shares c.zero.result.total c.zero-2.result.total 0 c.in_ok-open_shares.ensures;
      moment = refl;
      slots = ap (λ (p : Pool). p.entries) pool;
      calls = c.zero.ensures;
      compared = c.zero-2.ensures;
      visited = ap (λ (p : Pool). p.visited) pool;
      paid = omega (arith, ap (λ (p : Pool). p.visited) pool, ap (λ (p : Pool). held_count p.entries) pool, none_held c.args.pool);
    }
