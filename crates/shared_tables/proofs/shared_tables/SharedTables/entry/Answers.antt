use Rattle.std.proofs.Common.{◌≡◌, ℕ, List, Option, None, Some, sym, ap, ◌∙◌, subst}
use Rattle.std.proofs.Math.ListN.{get_or-map}
use Rattle.std.specs.Option.{option_map}
use Rattle.shared_tables.specs.declared.share.Share.{Share}
use Rattle.shared_tables.specs.Listing.{live_entry}
use Rattle.shared_tables.specs.Pool.{entry_at}
use Rattle.shared_tables.specs.Shared.{IsUnique, Shared, rule_at}
use Rattle.shared_tables.specs.SlotsOfSegments.{rule_of, share_at}
use Rattle.shared_tables.proofs.OnCalls.Knowing.{known_none, known_nowhere, known_some}
use Rattle.shared_tables.proofs.OnEntries.SoundLemmas.{rule_is, share_read}
use Rattle.shared_tables.proofs.shared_tables.SharedTables.entry.Goals as goal

pub returns-in_err-share : goal.returns-in_err-share
returns-in_err-share c =
    let i = c.self.inside in let v = c.args.vid in
    let none = sym (c.share_at.ensures ∙ ap (λ (shares : List (Option Share)). share_at shares v) c.deref.ensures.value) ∙ c.in_err-share.was in
    c.from_residual.ensures
    ∙ known_nowhere c.args.self.now v c.args.now c.args.mac (subst (λ (s : Shared). rule_at s.rules v ≡ None) c.self.view_is (get_or-map (option_map rule_of) i.shares.items v None ∙ ap (option_map rule_of) none))

pub returns-in_err-slot : goal.returns-in_err-slot
returns-in_err-slot c =
    let i = c.self.inside in let v = c.args.vid in let share = c.in_ok-share.share in
    let here = subst (λ (s : Shared). rule_at s.rules v ≡ Some (rule_of share)) c.self.view_is (rule_is i.shares.items v share (share_read _ _ v c.share_at.result share c.deref.ensures.value c.share_at.ensures c.in_ok-share.was)) in
    let unique = subst (λ (s : Shared). IsUnique s.entries) c.self.view_is c.self.invariant.sound.unique in
    c.from_residual-in_err-slot.ensures ∙ known_none c.args.self.now v c.args.now (rule_of share) here unique c.requires c.args.mac c.in_err-slot.ensures.none

pub returns : goal.returns
returns c =
    let i = c.self.inside in let v = c.args.vid in let share = c.in_ok-share.share in let slot = c.in_ok-slot.slot in
    let here = subst (λ (s : Shared). rule_at s.rules v ≡ Some (rule_of share)) c.self.view_is (rule_is i.shares.items v share (share_read _ _ v c.share_at.result share c.deref.ensures.value c.share_at.ensures c.in_ok-share.was)) in
    let unique = subst (λ (s : Shared). IsUnique s.entries) c.self.view_is c.self.invariant.sound.unique in
    c.live_entry.ensures
    ∙ ap (λ (a : ℕ). live_entry v a c.args.now (entry_at c.args.self.now.entries slot)) c.span_of.ensures
    ∙ known_some c.args.self.now v c.args.now (rule_of share) here unique c.requires c.args.mac slot c.in_ok-slot.ensures.found
