use Rattle.std.proofs.Common.{inl, inr, ◌≡◌, ℕ, ◌*◌, List, false, Option, Some, sym, ap, ◌∙◌, subst}
use Rattle.shared_tables.specs.declared.share.Share.{Share}
use Rattle.shared_tables.specs.Pool.{Pool, entry_at, is_dead_in}
use Rattle.shared_tables.specs.Shared.{rule_at, span_of, IsOf}
use Rattle.shared_tables.specs.SlotsOfSegments.{IsSound, share_at}
use Rattle.shared_tables.specs.WholePool.{seen, Replaces}
use Rattle.shared_tables.specs.Admission.{held_of}
use Rattle.shared_tables.proofs.OnEntries.SoundLemmas.{share_read, has_share}
use Rattle.shared_tables.proofs.OnEntries.Sweeping.{of_ages}
use Rattle.shared_tables.proofs.OnEntries.Dropping.{stays, drop_room}
use Rattle.shared_tables.proofs.OnEntries.Admissions.{has_room, span_here, refuses_none, refuses_live, is_oldest, oldest_held}
use Rattle.shared_tables.proofs.admission.admit_in.Goals as goal

here : (shares now : List (Option Share)) (v : ℕ) (o : Option Share) (share : Share) → now ≡ shares → o ≡ share_at now v → o ≡ Some share → share_at shares v ≡ Some share
here shares now v o share same read is = share_read now shares v o share same read is

-- the ageing in nanoseconds
in_span : (pool : Pool) (shares : List (Option Share)) (moment v : ℕ) (h : IsSound pool.entries pool.lines shares moment) (share : Share) (at : share_at shares v ≡ Some share) (ageing : ℕ) → ageing ≡ share.ageing
    → ageing * 1000000000 ≡ span_of (rule_at (seen pool shares moment 0 0).rules v)
in_span pool shares moment v h share at ageing e = ap (λ n. n * 1000000000) e ∙ sym (span_here pool shares moment v h share at)

pub enter_in-requires-clause-room : goal.enter_in-requires-clause-room
enter_in-requires-clause-room c =
    let v = c.args.newcomer.now.vid in let shares = c.args.shares.now.items in
    has_room c.args.slots.now shares c.args.moment v c.requires.whole.sound c.in-Some.share (here shares _ v c.share_at.result c.in-Some.share c.deref.ensures.value c.share_at.ensures c.in-Some.is) c.if-share.true

pub returns-then-share-clause-comes : goal.returns-then-share-clause-comes
returns-then-share-clause-comes c = λ calls compared.
    let v = c.args.newcomer.now.vid in let shares = c.args.shares.now.items in
    inl (has_room c.args.slots.now shares c.args.moment v c.requires.whole.sound c.in-Some.share (here shares _ v c.share_at.result c.in-Some.share c.deref.ensures.value c.share_at.ensures c.in-Some.is) c.if-share.true, c.enter_in.ensures.enters calls compared)

pub returns-in_default-slot-clause-comes : goal.returns-in_default-slot-clause-comes
returns-in_default-slot-clause-comes c = λ calls compared.
    let v = c.args.newcomer.now.vid in let shares = c.args.shares.now.items in
    refuses_none c.args.slots.now shares c.args.moment v c.requires.whole.sound c.in-Some.share (here shares _ v c.share_at.result c.in-Some.share c.deref.ensures.value c.share_at.ensures c.in-Some.is) calls compared _ c.if-share.false (sym c.slot.ensures ∙ c.in_default-slot.is)

pub dead-requires : goal.dead-requires
dead-requires c =
    let v = c.args.newcomer.now.vid in let shares = c.args.shares.now.items in
    let held = oldest_held c.args.slots.now shares c.args.moment v c.requires.whole.sound c.in-Some.share (here shares _ v c.share_at.result c.in-Some.share c.deref.ensures.value c.share_at.ensures c.in-Some.is) c.in-Some-slot.oldest (sym c.slot.ensures ∙ c.in-Some-slot.is) in record { in_pool = held.in_pool; held = held.held }

pub returns-then-not-dead-clause-comes : goal.returns-then-not-dead-clause-comes
returns-then-not-dead-clause-comes c = λ calls compared.
    let v = c.args.newcomer.now.vid in let shares = c.args.shares.now.items in let pool = c.args.slots.now in let s = c.in-Some-slot.oldest in
    let at = here shares _ v c.share_at.result c.in-Some.share c.deref.ensures.value c.share_at.ensures c.in-Some.is in
    let span = in_span pool shares c.args.moment v c.requires.whole.sound c.in-Some.share at c.from.result c.from.ensures in
    let lives : is_dead_in (entry_at pool.entries s) (span_of (rule_at (seen pool shares c.args.moment 0 0).rules v)) c.args.moment ≡ false =
    ap (λ n. is_dead_in (entry_at pool.entries s) n c.args.moment) (sym span) ∙ sym c.dead.ensures.dead ∙ c.if-not-dead.true in
    refuses_live pool shares c.args.moment v c.requires.whole.sound c.in-Some.share at calls compared _ s c.dead.new.self c.if-share.false (sym c.slot.ensures ∙ c.in-Some-slot.is) lives c.dead.ensures.pool

pub replace_in-requires-clause-held : goal.replace_in-requires-clause-held
replace_in-requires-clause-held c =
    let v = c.args.newcomer.now.vid in let shares = c.args.shares.now.items in let pool = c.args.slots.now in let s = c.in-Some-slot.oldest in
    let at = here shares _ v c.share_at.result c.in-Some.share c.deref.ensures.value c.share_at.ensures c.in-Some.is in
    subst (λ (p : Pool). IsOf (entry_at p.entries s) v) (sym c.dead.ensures.pool) (of_ages v (entry_at pool.entries s) (is_oldest pool shares c.args.moment v c.requires.whole.sound c.in-Some.share at s (sym c.slot.ensures ∙ c.in-Some-slot.is)).ages)

pub returns-clause-comes : goal.returns-clause-comes
returns-clause-comes c = λ calls compared.
    let v = c.args.newcomer.now.vid in let shares = c.args.shares.now.items in let pool = c.args.slots.now in let s = c.in-Some-slot.oldest in
    let at = here shares _ v c.share_at.result c.in-Some.share c.deref.ensures.value c.share_at.ensures c.in-Some.is in
    let span = in_span pool shares c.args.moment v c.requires.whole.sound c.in-Some.share at c.from.result c.from.ensures in
    let oldest = is_oldest pool shares c.args.moment v c.requires.whole.sound c.in-Some.share at s (sym c.slot.ensures ∙ c.in-Some-slot.is) in
    let of = of_ages v (entry_at pool.entries s) oldest.ages in
    inr (record {
      slot = s;
      oldest = oldest;
      dead = ap (λ n. is_dead_in (entry_at pool.entries s) n c.args.moment) (sym span) ∙ sym c.dead.ensures.dead ∙ c.if-not-dead.false;
      room = drop_room pool.entries pool.lines shares c.args.moment c.requires.whole.sound v s (stays pool.entries shares v s of (has_share shares v c.requires.rule));
      comes = subst (λ (p : Pool). Replaces (seen p shares c.args.moment calls compared) (seen c.replace_in.new.slots c.replace_in.new.shares.items c.args.moment calls compared) s (held_of c.args.newcomer.now)) c.dead.ensures.pool (c.replace_in.ensures.replaces calls compared);
    })
