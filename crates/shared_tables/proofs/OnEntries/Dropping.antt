-- What holds when an entry has gone, told by what its slot held.
use Rattle.std.proofs.Common.{◌≡◌, ℕ, ◌-◌, List, map, set, Option, Some, None, IsSome, Bool, true, false, is_none, refl, sym, ap, ◌∙◌, subst}
use Rattle.std.proofs.lemmas.List.{get_or-set_same}
use Rattle.std.specs.Option.{option_map}
use Rattle.shared_tables.specs.Pool.{Held}
use Rattle.shared_tables.specs.declared.links.Links.{Links}
use Rattle.shared_tables.specs.declared.share.Share.{Share}
use Rattle.shared_tables.specs.declared.shared_tables.SharedTables.TheInside.{Inside}
use Rattle.shared_tables.specs.Pool.{entry_at, links_at, alone, is_fixed_in, IfHeld}
use Rattle.shared_tables.specs.LinkSteps.{IsHeld, HoldsAny, unlinked, ends_without}
use Rattle.shared_tables.specs.SharedFromFields.{shared_of}
use Rattle.shared_tables.specs.Shared.{Shared, rule_at, HasRoom, kept_count, Lacks, IsOf, line_key}
use Rattle.shared_tables.specs.SlotsOfSegments.{share_at, shares_without, share_without, share_written, CountsSome, rule_of, line_at, IsSound}
use Rattle.shared_tables.proofs.OnEntries.SoundLemmas.{holds_previous, holds_next, rules_stay, rule_of-with_line, HoldsOf, holds_of, has_share, share_in_range, rule_is}
use Rattle.shared_tables.proofs.OnEntries.Leaving.{leave_lt, leave_count, leave_sound, leave_lacks, leave_few, line_on}

-- a slot that holds an entry of a segment
pub record Stays (es : List (Option Held)) (shares : List (Option Share)) (v s : ℕ) : Type 0 where
  pub share : Share
  pub here : share_at shares v ≡ Some share
  pub entry : Held
  pub at_slot : entry_at es s ≡ Some entry
  pub is_of : entry.vid ≡ v

pub stays : (es : List (Option Held)) (shares : List (Option Share)) (v s : ℕ) → IsOf (entry_at es s) v → IsSome (share_at shares v) → Stays es shares v s
stays es shares v s of some = from (share_at shares v) refl some
  where
    own : HoldsOf (entry_at es s) v
    own = holds_of (entry_at es s) v of

    from : (o : Option Share) → share_at shares v ≡ o → IsSome o → Stays es shares v s
    from None e h = let bad : false ≡ true = h in cc
    from (Some share) e h = record { share = share; here = e; entry = own.entry; at_slot = own.here; is_of = own.is_of }

-- the same of what a method sees of the tables
pub stays_inside : (i : Inside) (now : Shared) (v s : ℕ) → shared_of i ≡ now → IsOf (entry_at now.entries s) v → IsSome (rule_at now.rules v) → Stays i.slots.entries i.shares.items v s
stays_inside i now v s e of ruled =
    stays i.slots.entries i.shares.items v s (subst (λ (w : Shared). IsOf (entry_at w.entries s) v) (sym e) of)
    (has_share i.shares.items v (subst (λ (w : Shared). IsSome (rule_at w.rules v)) (sym e) ruled))

-- its entry can leave its line: its neighbours there hold entries, and its segment counts it
pub record IsThreaded (es : List (Option Held)) (ls : List Links) (shares : List (Option Share)) (v s : ℕ) : Type 0 where
  pub held : IsHeld es s
  pub line_previous : HoldsAny es (links_at ls s).previous
  pub line_next : HoldsAny es (links_at ls s).next
  pub counted : CountsSome (share_at shares v)

module _ (es : List (Option Held)) (ls : List Links) (shares : List (Option Share)) (moment : ℕ) (h : IsSound es ls shares moment)
    (v s : ℕ) (k : Stays es shares v s) where
  drop_held : IsHeld es s
  drop_held = record { in_pool = leave_lt es ls shares moment h v k.share k.here k.entry k.is_of s k.at_slot; held = subst (λ (o : Option Held). IsSome o) (sym k.at_slot) refl }

  abbrev fixed : Bool
  fixed = is_none k.entry.last

  drop_line_previous : HoldsAny es (links_at ls s).previous
  drop_line_previous =
      let lines = h.lined v k.share k.here in
      holds_previous (line_key v fixed) refl ls es _ _ s (lines.list fixed) (lines.thread fixed) (line_on es ls shares moment h v k.share k.here k.entry k.is_of s k.at_slot)

  drop_line_next : HoldsAny es (links_at ls s).next
  drop_line_next =
      let lines = h.lined v k.share k.here in
      holds_next (line_key v fixed) refl ls es _ _ s (lines.list fixed) (lines.thread fixed) (line_on es ls shares moment h v k.share k.here k.entry k.is_of s k.at_slot)

  drop_counted : CountsSome (share_at shares v)
  drop_counted = subst CountsSome (sym k.here) (leave_count es ls shares moment h v k.share k.here k.entry k.is_of s k.at_slot)

  pub threaded : IsThreaded es ls shares v s
  threaded = record { held = drop_held; line_previous = drop_line_previous; line_next = drop_line_next; counted = drop_counted }

  -- the shares when it has left
  shares_are : shares_without shares v (is_fixed_in (entry_at es s)) (links_at ls s) ≡ set shares v (Some (share_without fixed (links_at ls s) k.share))
  shares_are =
      ap (λ o. shares_without shares v (is_fixed_in o) (links_at ls s)) k.at_slot
      ∙ ap (λ o. share_written shares v (option_map (share_without fixed (links_at ls s)) o)) k.here

  pub drop_sound : IsSound (set es s None) (set (unlinked ls s) s alone) (shares_without shares v (is_fixed_in (entry_at es s)) (links_at ls s)) moment
  drop_sound =
      subst (λ x. IsSound (set es s None) (set (unlinked ls s) s alone) x moment) (sym shares_are)
      (subst (λ o. IsSound (set es s None) (set (unlinked ls s) s alone) (set shares v (Some (share_without fixed (links_at ls s) k.share))) moment) (sym k.at_slot)
      (leave_sound es ls shares moment h v k.share k.here k.entry k.is_of s k.at_slot))

  pub drop_rules : map (option_map rule_of) (shares_without shares v (is_fixed_in (entry_at es s)) (links_at ls s)) ≡ map (option_map rule_of) shares
  drop_rules =
      ap (map (option_map rule_of)) shares_are
      ∙ rules_stay shares v k.share (share_without fixed (links_at ls s) k.share) k.here (rule_of-with_line k.share fixed (ends_without (line_at k.share fixed) (links_at ls s)) (k.share.count - 1))

  pub drop_room : HasRoom (rule_at (map (option_map rule_of) shares) v) (kept_count v (set es s None))
  drop_room = subst (λ o. HasRoom o (kept_count v (set es s None))) (sym (rule_is shares v k.share k.here)) (leave_few es ls shares moment h v k.share k.here k.entry k.is_of s k.at_slot)

  pub drop_lacks : (mac : List ℕ) → IfHeld (entry_at es s) v mac → Lacks (set es s None) v mac
  drop_lacks mac held = leave_lacks es ls shares moment h v k.share k.here k.entry k.is_of s k.at_slot mac (subst (λ o. IfHeld o v mac) k.at_slot held).1

  -- the segment keeps its share
  pub drop_share : IsSome (share_at (shares_without shares v (is_fixed_in (entry_at es s)) (links_at ls s)) v)
  drop_share = subst (λ xs. IsSome (share_at xs v)) (sym shares_are) (subst (λ (o : Option Share). IsSome o) (sym (get_or-set_same shares v (Some (share_without fixed (links_at ls s) k.share)) None (share_in_range shares v k.share k.here))) refl)
