use Rattle.std.proofs.Common.{◌≡◌, List, Option, None, Some, sym, ap, ◌∙◌, subst}
use Rattle.std.proofs.Math.ListN.{get_or-map}
use Rattle.std.specs.Option.{option_map}
use Rattle.filter_db.specs.Table.{nanoseconds}
use Rattle.shared_tables.specs.declared.share.Share.{Share}
use Rattle.shared_tables.specs.Listing.{CountsLive}
use Rattle.shared_tables.specs.Shared.{IsUnique, Shared, rule_at}
use Rattle.shared_tables.specs.SlotsOfSegments.{rule_of, share_at}
use Rattle.shared_tables.proofs.OnCalls.Knowing.{count_nowhere, known_count}
use Rattle.shared_tables.proofs.OnEntries.SoundLemmas.{rule_is, share_read}
use Rattle.shared_tables.proofs.shared_tables.SharedTables.entry_count.Goals as goal

pub live_count-requires : goal.live_count-requires
live_count-requires c =
    (c.self.inside.moment, c.self.invariant.sound.lined c.args.vid c.in-Some.share (share_read _ _ c.args.vid c.share_at.result c.in-Some.share c.deref.ensures.value c.share_at.ensures c.in-Some.is))

pub returns-in-Some : goal.returns-in-Some
returns-in-Some c =
    let i = c.self.inside in let v = c.args.vid in let share = c.in-Some.share in
    let here = subst (λ (s : Shared). rule_at s.rules v ≡ Some (rule_of share)) c.self.view_is (rule_is i.shares.items v share (share_read _ _ v c.share_at.result share c.deref.ensures.value c.share_at.ensures c.in-Some.is)) in
    let unique = subst (λ (s : Shared). IsUnique s.entries) c.self.view_is c.self.invariant.sound.unique in
    known_count c.args.self.now v c.args.now (rule_of share) here unique c.requires c.live_count.result
    (subst (λ (s : Shared). CountsLive s.entries v (nanoseconds share.ageing) c.args.now c.live_count.result) c.self.view_is c.live_count.ensures)

pub returns-in-None : goal.returns-in-None
returns-in-None c =
    let i = c.self.inside in let v = c.args.vid in
    let none = sym (c.share_at.ensures ∙ ap (λ (shares : List (Option Share)). share_at shares v) c.deref.ensures.value) ∙ c.in-None.is in
    count_nowhere c.args.self.now v c.args.now (subst (λ (s : Shared). rule_at s.rules v ≡ None) c.self.view_is (get_or-map (option_map rule_of) i.shares.items v None ∙ ap (option_map rule_of) none))
