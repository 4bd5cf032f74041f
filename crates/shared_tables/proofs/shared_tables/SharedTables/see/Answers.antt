use Rattle.std.proofs.Common.{◌≡◌, ℕ, List, Option, set, Some, false, sym, ap, ◌∙◌, subst, arith}
use Rattle.shared_tables.specs.declared.share.Share.{Share}
use Rattle.shared_tables.specs.declared.shared_tables.SharedTables.TheInside.{Inside}
use Rattle.shared_tables.specs.Pool.{Pool, entry_at, links_at, is_fixed_in, place_in, renewed}
use Rattle.shared_tables.specs.LinkSteps.{HoldsAny, moved}
use Rattle.shared_tables.specs.Shared.{Shared}
use Rattle.shared_tables.specs.SharedFromFields.{shared_of}
use Rattle.shared_tables.specs.SlotsOfSegments.{share_at, shares_moved, last_left, HasEndsLeft}
use Rattle.shared_tables.proofs.OnEntries.Renewing.{renewable, renewed_whole, renewed_seen}
use Rattle.shared_tables.proofs.shared_tables.SharedTables.see.Goals as goal

-- the entry was learned
learned_inside : (i : Inside) (now : Shared) (s : ℕ) → shared_of i ≡ now → is_fixed_in (entry_at now.entries s) ≡ false → is_fixed_in (entry_at i.slots.entries s) ≡ false
learned_inside i now s e learned = subst (λ (w : Shared). is_fixed_in (entry_at w.entries s) ≡ false) (sym e) learned

pub see_entry-requires : goal.see_entry-requires
see_entry-requires c =
    let i = c.self.inside in let s = c.args.slot in let v = c.args.vid in
    let place = place_in (entry_at i.slots.entries s) in let own = links_at i.slots.lines s in
    let learned = learned_inside i c.args.self.now s c.self.view_is c.requires.learned in
    let k = renewable i c.args.self.now c.self.view_is c.self.invariant v s c.requires.held c.requires.rule place (Some i.moment) (ap (λ (w : Shared). w.moment) c.self.view_is) in
    record {
      held = k.held;
      learned = learned;
      previous = k.previous;
      next = k.next;
      shares = omega (arith, c.self.invariant.sound.shares_length, i.shares.ok.0);
      there = k.there;
      last = subst (λ b. HoldsAny (set i.slots.entries s (renewed (entry_at i.slots.entries s) place (Some i.moment))) (last_left (share_at i.shares.items v) b false own)) learned k.behind;
      ends = subst (λ b. HasEndsLeft (share_at i.shares.items v) b false own) learned k.ends;
    }

-- what it does is what renewing the entry does
pool_seen : (i : Inside) (v s : ℕ) (pool : Pool) → is_fixed_in (entry_at i.slots.entries s) ≡ false
    → pool ≡ moved i.slots s (place_in (entry_at i.slots.entries s)) (Some i.moment) (last_left (share_at i.shares.items v) false false (links_at i.slots.lines s))
    → pool ≡ moved i.slots s (place_in (entry_at i.slots.entries s)) (Some i.moment) (last_left (share_at i.shares.items v) (is_fixed_in (entry_at i.slots.entries s)) false (links_at i.slots.lines s))
pool_seen i v s pool learned e = e ∙ ap (λ b. moved i.slots s (place_in (entry_at i.slots.entries s)) (Some i.moment) (last_left (share_at i.shares.items v) b false (links_at i.slots.lines s))) (sym learned)

shares_seen : (i : Inside) (v s : ℕ) (shares : List (Option Share)) → is_fixed_in (entry_at i.slots.entries s) ≡ false
    → shares ≡ shares_moved i.shares.items v false false (links_at i.slots.lines s) s → shares ≡ shares_moved i.shares.items v (is_fixed_in (entry_at i.slots.entries s)) false (links_at i.slots.lines s) s
shares_seen i v s shares learned e = e ∙ ap (λ b. shares_moved i.shares.items v b false (links_at i.slots.lines s) s) (sym learned)

pub invariant_of-self : goal.invariant_of-self
invariant_of-self c =
    let i = c.self.inside in let s = c.args.slot in let v = c.args.vid in
    let learned = learned_inside i c.args.self.now s c.self.view_is c.requires.learned in
    renewed_whole i c.args.self.now c.self.view_is c.self.invariant v s c.requires.held c.requires.rule (place_in (entry_at i.slots.entries s)) (Some i.moment) (ap (λ (w : Shared). w.moment) c.self.view_is)
    c.see_entry.new.slots c.see_entry.new.shares.items (pool_seen i v s _ learned c.see_entry.ensures.pool) (shares_seen i v s _ learned c.see_entry.ensures.shares)

pub returns : goal.returns
returns c =
    let i = c.self.inside in let s = c.args.slot in let v = c.args.vid in let now = c.args.self.now in
    let learned = learned_inside i now s c.self.view_is c.requires.learned in
    renewed_seen i now c.self.view_is c.self.invariant v s c.requires.held c.requires.rule (place_in (entry_at i.slots.entries s)) (Some i.moment) (ap (λ (w : Shared). w.moment) c.self.view_is)
    c.see_entry.new.slots c.see_entry.new.shares.items (pool_seen i v s _ learned c.see_entry.ensures.pool) (shares_seen i v s _ learned c.see_entry.ensures.shares)
    ∙ ap (λ (w : Shared). record now { entries = set now.entries s (renewed (entry_at now.entries s) (place_in (entry_at w.entries s)) (Some w.moment)) }) c.self.view_is
