-- What holds of the slots and the segments together holds when an entry has been renewed in its slot: it leaves its line
-- and comes behind the last of a line, and in its tree it stays.
use Rattle.std.proofs.Common.{◌≡◌, ℕ, ◌+◌, ◌-◌, ◌<◌, Bool, true, false, List, length, map, set, Option, Some, None, IsSome, is_none, refl, sym, ap, ◌∙◌, subst, arith}
use Rattle.std.proofs.lemmas.List.{get_or-set_same, length-set, set-set}
use Rattle.std.specs.Option.{option_map}
use Rattle.filter_db.specs.declared.place.Place.{Place}
use Rattle.shared_tables.specs.declared.links.Links.{Links}
use Rattle.shared_tables.specs.declared.threads.Ends.{Ends}
use Rattle.shared_tables.specs.declared.shared_tables.SharedTables.TheInside.{Inside}
use Rattle.shared_tables.specs.Pool.{Held}
use Rattle.shared_tables.specs.declared.share.Share.{Share}
use Rattle.shared_tables.specs.Pool.{Pool, links_at, entry_at, alone, is_fixed_in, renewed}
use Rattle.shared_tables.specs.LinkSteps.{IsHeld, HoldsAny, moved, AreEnds, unlinked, pushed_back, ends_without, ends_with}
use Rattle.shared_tables.specs.Shared.{Shared, rule_at, line_key, IsNow, IsOf}
use Rattle.shared_tables.specs.SharedFromFields.{shared_of, IsSoundInside}
use Rattle.shared_tables.specs.SlotsOfSegments.{IsSound, share_at, line_at, with_line, share_moved, shares_moved, share_written, last_left, HasEndsLeft, rule_of}
use Rattle.shared_tables.specs.WholePool.{IsWhole}
use Rattle.shared_tables.specs.TreesOfSlots.{AreTreesOf}
use Rattle.shared_tables.proofs.OnTrees.Relabeling.{renew_trees}
use Rattle.shared_tables.proofs.OnEntries.Threaded.{back_over}
use Rattle.shared_tables.proofs.OnEntries.SoundLemmas.{sound_at, same_shared, thread_ends, holds_last, holds_more, rules_stay, share_in_range}
use Rattle.shared_tables.proofs.OnEntries.Entering.{enter_sound}
use Rattle.shared_tables.proofs.OnEntries.Leaving.{leave_sound, leave_lacks, leave_lt, leave_count}
use Rattle.shared_tables.proofs.OnEntries.Dropping.{Stays, stays_inside, IsThreaded, threaded}

-- a share whose line loses an entry and gains it again
abbrev without : Share → Bool → Links → Share
without share was own = record (with_line share was (ends_without (line_at share was) own)) { count = share.count - 1 }

abbrev again : Share → Bool → ℕ → Share
again share fixed s = record (with_line share fixed (ends_with (line_at share fixed) s)) { count = share.count + 1 }

moved_is : (share : Share) (was fixed : Bool) (own : Links) (s : ℕ) → 0 < share.count → again (without share was own) fixed s ≡ share_moved was fixed own s share
moved_is share was fixed own s some = by was fixed (omega (arith, some))
  where
    by : (was fixed : Bool) → share.count - 1 + 1 ≡ share.count → again (without share was own) fixed s ≡ share_moved was fixed own s share
    by true true e = ap (λ n. record (share_moved true true own s share) { count = n }) e
    by true false e = ap (λ n. record (share_moved true false own s share) { count = n }) e
    by false true e = ap (λ n. record (share_moved false true own s share) { count = n }) e
    by false false e = ap (λ n. record (share_moved false false own s share) { count = n }) e

limit_is : (share : Share) (was : Bool) (own : Links) → (without share was own).limit ≡ share.limit
limit_is share true own = refl
limit_is share false own = refl

last_is : (share : Share) (was fixed : Bool) (own : Links) → (line_at (without share was own) fixed).last ≡ last_left (Some share) was fixed own
last_is share true true own = refl
last_is share true false own = refl
last_is share false true own = refl
last_is share false false own = refl

line_is : (share : Share) (was fixed : Bool) (own : Links) → line_at (without share was own) fixed ≡ line_at (with_line share was (ends_without (line_at share was) own)) fixed
line_is share true true own = refl
line_is share true false own = refl
line_is share false true own = refl
line_is share false false own = refl

rule_is : (share : Share) (was fixed : Bool) (own : Links) (s : ℕ) → rule_of (share_moved was fixed own s share) ≡ rule_of share
rule_is share true true own s = refl
rule_is share true false own s = refl
rule_is share false true own s = refl
rule_is share false false own s = refl

module _ (es : List (Option Held)) (ls : List Links) (shares : List (Option Share)) (moment : ℕ) (h : IsSound es ls shares moment)
    (v s : ℕ) (k : Stays es shares v s) (place : Place) (last : Option ℕ) (now : IsNow last moment) where
  abbrev was : Bool
  was = is_none k.entry.last

  abbrev fixed : Bool
  fixed = is_none last

  abbrev own : Links
  own = links_at ls s

  abbrev entry' : Held
  entry' = record k.entry { place = place; last = last }

  abbrev gone : List (Option Held)
  gone = set es s None

  abbrev share' : Share
  share' = without k.share was own

  abbrev shares' : List (Option Share)
  shares' = set shares v (Some share')

  abbrev lines' : List Links
  lines' = set (unlinked ls s) s alone

  lt : s < length es
  lt = leave_lt es ls shares moment h v k.share k.here k.entry k.is_of s k.at_slot

  share_lt : v < length shares
  share_lt = share_in_range shares v k.share k.here

  some : 0 < k.share.count
  some = leave_count es ls shares moment h v k.share k.here k.entry k.is_of s k.at_slot

  abbrev left : IsSound gone lines' shares' moment
  left = leave_sound es ls shares moment h v k.share k.here k.entry k.is_of s k.at_slot

  here' : share_at (set shares v (Some share')) v ≡ Some share'
  here' = get_or-set_same shares v (Some share') None share_lt

  lt' : s < length gone
  lt' = subst (λ n. s < n) (sym (length-set es s None)) lt

  room : share'.count < share'.limit
  room = let limit = (h.lined v k.share k.here).limit in omega (arith, some, limit, limit_is k.share was own)

  -- it leaves, and comes again
  abbrev joined : IsSound (set gone s (Some entry')) (pushed_back (set lines' s alone) (line_at share' fixed).last s) (set shares' v (Some (again share' fixed s))) moment
  joined =
      enter_sound gone lines' shares' moment left v share' here' room entry' k.is_of
      (leave_lacks es ls shares moment h v k.share k.here k.entry k.is_of s k.at_slot k.entry.mac refl) now s lt' (get_or-set_same es s None None lt)

  entries_are : set es s (renewed (entry_at es s) place last) ≡ set gone s (Some entry')
  entries_are = ap (λ o. set es s (renewed o place last)) k.at_slot ∙ sym (set-set es s None (Some entry'))

  last_left_is : last_left (share_at shares v) (is_fixed_in (entry_at es s)) fixed own ≡ (line_at share' fixed).last
  last_left_is = ap (λ o. last_left (share_at shares v) (is_fixed_in o) fixed own) k.at_slot ∙ ap (λ o. last_left o was fixed own) k.here ∙ sym (last_is k.share was fixed own)

  moved_shares : shares_moved shares v (is_fixed_in (entry_at es s)) fixed own s ≡ set shares v (Some (share_moved was fixed own s k.share))
  moved_shares = ap (λ o. shares_moved shares v (is_fixed_in o) fixed own s) k.at_slot ∙ ap (λ o. share_written shares v (option_map (share_moved was fixed own s) o)) k.here

  shares_are : shares_moved shares v (is_fixed_in (entry_at es s)) fixed own s ≡ set (set shares v (Some share')) v (Some (again share' fixed s))
  shares_are = moved_shares ∙ ap (λ x. set shares v (Some x)) (sym (moved_is k.share was fixed own s some)) ∙ sym (set-set shares v (Some share') (Some (again share' fixed s)))

  lines_are : (l : Option ℕ) (x : Links) → l ≡ (line_at share' fixed).last → pushed_back (unlinked ls s) l s ≡ pushed_back (set (set (unlinked ls s) s x) s x) (line_at share' fixed).last s
  lines_are l x e =
      ap (λ l. pushed_back (unlinked ls s) l s) e ∙ sym (back_over (unlinked ls s) s (line_at share' fixed).last x) ∙ sym (back_over (set (unlinked ls s) s x) s (line_at share' fixed).last x)

  pub renew_sound : IsSound (set es s (renewed (entry_at es s) place last)) (pushed_back (unlinked ls s) (last_left (share_at shares v) (is_fixed_in (entry_at es s)) fixed own) s) (shares_moved shares v (is_fixed_in (entry_at es s)) fixed own s) moment
  renew_sound = sound_at moment entries_are (lines_are (last_left (share_at shares v) (is_fixed_in (entry_at es s)) fixed own) alone last_left_is) shares_are joined

  -- the line that it comes to ends with an entry
  pub renew_last : HoldsAny (set es s (renewed (entry_at es s) place last)) (last_left (share_at shares v) (is_fixed_in (entry_at es s)) fixed own)
  renew_last =
      let lines = left.lined v share' here' in
      subst (λ o. HoldsAny (set es s (renewed (entry_at es s) place last)) o) (sym last_left_is)
      (subst (λ xs. HoldsAny xs (line_at share' fixed).last) (sym entries_are)
      (holds_more gone s entry' (line_at share' fixed).last lt' (holds_last (line_key v fixed) refl lines' gone _ _ (lines.list fixed) (lines.thread fixed))))

  -- and has both its ends, or neither
  pub renew_ends : HasEndsLeft (share_at shares v) (is_fixed_in (entry_at es s)) fixed own
  renew_ends =
      let lines = left.lined v share' here' in
      subst (λ (o : Option Held). HasEndsLeft (share_at shares v) (is_fixed_in o) fixed own) (sym k.at_slot)
      (subst (λ (o : Option Share). HasEndsLeft o was fixed own) (sym k.here)
      (subst (λ (x : Ends). AreEnds x) (line_is k.share was fixed own) (thread_ends lines' gone (line_key v fixed) _ _ (lines.list fixed) (lines.thread fixed))))

  pub renew_rules : map (option_map rule_of) (shares_moved shares v (is_fixed_in (entry_at es s)) fixed own s) ≡ map (option_map rule_of) shares
  renew_rules = ap (map (option_map rule_of)) moved_shares ∙ rules_stay shares v k.share (share_moved was fixed own s k.share) k.here (rule_is k.share was fixed own s)

-- an entry can leave its line for the end of a line of its segment
pub record IsRenewable (es : List (Option Held)) (ls : List Links) (shares : List (Option Share)) (v s : ℕ) (place : Place) (last : Option ℕ) : Type 0 where
  pub held : IsHeld es s
  pub previous : HoldsAny es (links_at ls s).previous
  pub next : HoldsAny es (links_at ls s).next
  pub there : IsSome (share_at shares v)
  pub behind : HoldsAny (set es s (renewed (entry_at es s) place last)) (last_left (share_at shares v) (is_fixed_in (entry_at es s)) (is_none last) (links_at ls s))
  pub ends : HasEndsLeft (share_at shares v) (is_fixed_in (entry_at es s)) (is_none last) (links_at ls s)

-- a method that renews an entry, by what it sees of the tables
module _ (i : Inside) (now : Shared) (e : shared_of i ≡ now) (h : IsSoundInside i) (v s : ℕ) (of : IsOf (entry_at now.entries s) v) (ruled : IsSome (rule_at now.rules v))
    (place : Place) (last : Option ℕ) (when : IsNow last now.moment) where
  abbrev k : Stays i.slots.entries i.shares.items v s
  k = stays_inside i now v s e of ruled

  at : IsNow last i.moment
  at = subst (λ (w : Shared). IsNow last w.moment) (sym e) when

  pub renewable : IsRenewable i.slots.entries i.slots.lines i.shares.items v s place last
  renewable =
      let t : IsThreaded i.slots.entries i.slots.lines i.shares.items v s = threaded i.slots.entries i.slots.lines i.shares.items i.moment h.sound v s k in
      record {
        held = t.held;
        previous = t.line_previous;
        next = t.line_next;
        there = subst (λ (o : Option Share). IsSome o) (sym k.here) refl;
        behind = renew_last i.slots.entries i.slots.lines i.shares.items i.moment h.sound v s k place last at;
        ends = renew_ends i.slots.entries i.slots.lines i.shares.items i.moment h.sound v s k place last at;
      }

  module _ (pool : Pool) (shares : List (Option Share))
      (pool_is : pool ≡ moved i.slots s place last (last_left (share_at i.shares.items v) (is_fixed_in (entry_at i.slots.entries s)) (is_none last) (links_at i.slots.lines s)))
      (shares_is : shares ≡ shares_moved i.shares.items v (is_fixed_in (entry_at i.slots.entries s)) (is_none last) (links_at i.slots.lines s) s) where
    renewed_inside : IsSound pool.entries pool.lines shares i.moment
    renewed_inside =
        sound_at i.moment (ap (λ (p : Pool). p.entries) pool_is) (ap (λ (p : Pool). p.lines) pool_is) shares_is
        (renew_sound i.slots.entries i.slots.lines i.shares.items i.moment h.sound v s k place last at)

    pub renewed_whole : IsWhole pool i.trees shares i.moment
    renewed_whole = record {
      sound = renewed_inside;
      trees = subst (λ es. AreTreesOf es i.trees) (sym (ap (λ (p : Pool). p.entries) pool_is ∙ ap (λ o. set i.slots.entries s (renewed o place last)) k.at_slot))
          (renew_trees i.slots.entries i.trees h.trees k.entry (record k.entry { place = place; last = last }) s k.at_slot refl refl);
    }

    pub renewed_seen : ◌≡◌ {A = Shared} (record { entries = pool.entries; rules = map (option_map rule_of) shares; moment = i.moment; calls = i.calls.total; compared = i.compared.total; visited = pool.visited })
        (record now { entries = set now.entries s (renewed (entry_at now.entries s) place last) })
    renewed_seen =
        same_shared i.moment i.calls.total (ap (λ (p : Pool). p.entries) pool_is)
        (ap (map (option_map rule_of)) shares_is ∙ renew_rules i.slots.entries i.slots.lines i.shares.items i.moment h.sound v s k place last at)
        refl (ap (λ (p : Pool). p.visited) pool_is)
        ∙ ap (λ (w : Shared). record w { entries = set w.entries s (renewed (entry_at w.entries s) place last) }) e
