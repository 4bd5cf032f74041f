-- What holds of the slots, the trees and the segments together holds when an entry has come.
use Rattle.std.proofs.Common.{◌≡◌, ℕ, ◌+◌, ◌<◌, Bool, List, length, map, set, Option, Some, None, is_none, refl, sym, ap, ◌∙◌, subst}
use Rattle.std.specs.Option.{option_map}
use Rattle.std.specs.Int.{bit_at}
use Rattle.shared_tables.specs.declared.share.Share.{Share}
use Rattle.shared_tables.specs.declared.admission.Newcomer.{Newcomer}
use Rattle.shared_tables.specs.declared.look_up.Beside.{Beside}
use Rattle.shared_tables.specs.declared.trees.Target.TheVariants as target
use Rattle.shared_tables.specs.Bucket.{key_of, tree_of}
use Rattle.shared_tables.specs.Pool.{Pool, Held, entry_at, alone, free_count, taken}
use Rattle.shared_tables.specs.LinkSteps.{HoldsAny, pushed_back, ends_with}
use Rattle.shared_tables.specs.Shared.{rule_at, kept_count, HasRoom, Enters, line_key}
use Rattle.shared_tables.specs.SlotsOfSegments.{share_at, share_with, share_written, shares_with, line_at, last_in, rule_of, CountsMore, HasEnds}
use Rattle.shared_tables.specs.TreeColumns.{Trees, target_at, number_at, place_by, planted, grafted}
use Rattle.shared_tables.specs.Tree.{Tree}
use Rattle.shared_tables.specs.TreesOfSlots.{IsRooted, LeadsTo, Belongs, BelongsBeside, AreTreesOf}
use Rattle.shared_tables.specs.WholePool.{IsWhole, seen}
use Rattle.shared_tables.specs.Admission.{held_of, MayCome, MayAttach, Attaches}
use Rattle.shared_tables.proofs.OnTrees.Buckets.{tree_there}
use Rattle.shared_tables.proofs.OnEntries.SoundLemmas.{IsShare, share_with_room, room_is, holds_last, holds_more, thread_ends, sound_at, same_shared, rules_stay, rule_of-with_line}
use Rattle.shared_tables.proofs.OnEntries.Entering.{enter_free, enter_sound}
use Rattle.shared_tables.proofs.OnTrees.Grafting.{leaf_lt, place_lt, fork_lt, graft_trees}
use Rattle.shared_tables.proofs.OnTrees.Planting.{plant_trees}

module _ (pool : Pool) (w : Trees) (shares : List (Option Share)) (moment : ℕ) (h : IsWhole pool w shares moment) (n : Newcomer)
    (room : HasRoom (rule_at (map (option_map rule_of) shares) n.vid) (kept_count n.vid pool.entries)) (m : MayCome pool.entries w moment n) where
  abbrev es : List (Option Held)
  es = pool.entries

  abbrev e : Held
  e = held_of n

  abbrev own : IsShare shares n.vid
  own = share_with_room shares n.vid (kept_count n.vid es) room

  pub below : own.share.count < own.share.limit
  below = room_is es pool.lines shares moment n.vid own.share h.sound own.here room

  pub enter_frees : 0 < free_count es
  enter_frees = enter_free es pool.lines shares moment n.vid own.share h.sound own.here below

  pub number_lt : n.tree < 262144
  number_lt = subst (λ c. c < 262144) (sym m.tree) (tree_there n.vid n.mac)

  pub counts_more : CountsMore (share_at shares n.vid)
  counts_more = subst (λ (o : Option Share). CountsMore o) (sym own.here) below

  pub has_ends : (fixed : Bool) → HasEnds (share_at shares n.vid) fixed
  has_ends fixed =
      let lines = h.sound.lined n.vid own.share own.here in
      subst (λ (o : Option Share). HasEnds o fixed) (sym own.here) (thread_ends pool.lines es (line_key n.vid fixed) _ _ (lines.list fixed) (lines.thread fixed))

  module _ (s : ℕ) (lt : s < length es) (free : entry_at es s ≡ None) where
    pub lasts : (fixed : Bool) → HoldsAny (set es s (Some e)) (last_in (share_at shares n.vid) fixed)
    lasts fixed =
        let lines = h.sound.lined n.vid own.share own.here in
        subst (λ (o : Option Share). HoldsAny (set es s (Some e)) (last_in o fixed)) (sym own.here)
        (holds_more es s e (line_at own.share fixed).last lt (holds_last (line_key n.vid fixed) refl pool.lines es _ _ (lines.list fixed) (lines.thread fixed)))

    -- the leaf beside which it belongs is there
    pub may_attach : (o : Option Beside) → BelongsBeside es w.words (tree_of n.vid n.mac) (key_of n.vid n.mac) o → MayAttach w n.tree o s
    may_attach None b = tt
    may_attach (Some at) b = (
      leaf_lt es w h.trees e s lt free at.leaf b.0,
      subst (λ c. place_by c (number_at w.leaves at.leaf) < length w.words) (sym m.tree) (place_lt es w h.trees e s lt free at.leaf b.0),
      fork_lt es w h.trees e s lt free at.leaf b.0,
      b.1.0,
    )

    -- a tree beside none of whose leaves it belongs has none
    no_leaves : (b : Belongs w.words (tree_of n.vid n.mac) (key_of n.vid n.mac) None) → target_at w.words (tree_of n.vid n.mac) ≡ target.Nothing
    no_leaves b = from b.tree b.rooted b.leads
      where
        from : (t : Option Tree) → IsRooted (target_at w.words) (target_at w.words (tree_of n.vid n.mac)) t → LeadsTo (key_of n.vid n.mac) t None → target_at w.words (tree_of n.vid n.mac) ≡ target.Nothing
        from None r l = r
        from (Some t) r l = absurd l

    attached : (w' : Trees) (o : Option Beside) → BelongsBeside es w.words (tree_of n.vid n.mac) (key_of n.vid n.mac) o → Attaches w w' n o s
        → AreTreesOf (set es s (Some e)) w'
    attached w' None b a = subst (AreTreesOf (set es s (Some e))) (sym (a ∙ ap (λ c. planted w c s) m.tree)) (plant_trees es w h.trees e s lt free (no_leaves b) m.fits)
    attached w' (Some at) b a =
        subst (AreTreesOf (set es s (Some e))) (sym (a ∙ ap (λ c. grafted w c at.leaf s at.bit (bit_at (key_of n.vid n.mac) at.bit)) m.tree))
        (graft_trees es w h.trees e s lt free at.leaf b.0 at.bit b.1.0 b.1.1 m.fits)

    module _ (pool' : Pool) (w' : Trees) (shares' : List (Option Share)) (fixed : Bool) (is_fixed : fixed ≡ is_none n.last)
        {took : Pool} (took_is : took ≡ taken pool s e) (joined : pool' ≡ record took { lines = pushed_back took.lines (last_in (share_at shares n.vid) fixed) s })
        (shares_is : shares' ≡ shares_with shares n.vid fixed s) (a : Attaches w w' n n.beside s) where
      entries_is : pool'.entries ≡ set es s (Some e)
      entries_is = ap (λ (p : Pool). p.entries) joined ∙ ap (λ (p : Pool). p.entries) took_is

      lines_is : pool'.lines ≡ pushed_back (set pool.lines s alone) (last_in (share_at shares n.vid) fixed) s
      lines_is = ap (λ (p : Pool). p.lines) joined ∙ ap (λ (p : Pool). pushed_back p.lines (last_in (share_at shares n.vid) fixed) s) took_is

      lines_are : pool'.lines ≡ pushed_back (set pool.lines s alone) (line_at own.share (is_none n.last)).last s
      lines_are = lines_is ∙ ap (λ (o : Option Share). pushed_back (set pool.lines s alone) (last_in o fixed) s) own.here ∙ ap (λ f. pushed_back (set pool.lines s alone) (line_at own.share f).last s) is_fixed

      shares_are : shares' ≡ set shares n.vid (Some (share_with (is_none n.last) s own.share))
      shares_are = shares_is ∙ ap (λ (o : Option Share). share_written shares n.vid (option_map (share_with fixed s) o)) own.here ∙ ap (λ f. set shares n.vid (Some (share_with f s own.share))) is_fixed

      pub enter_whole : IsWhole pool' w' shares' moment
      enter_whole = record {
        sound = sound_at moment entries_is lines_are shares_are (enter_sound es pool.lines shares moment h.sound n.vid own.share own.here below e refl m.absent m.now s lt free);
        trees = subst (λ xs. AreTreesOf xs w') (sym entries_is) (attached w' n.beside m.beside a);
      }

      pub enters : (calls compared : ℕ) → Enters (seen pool shares moment calls compared) (seen pool' shares' moment calls compared) e
      enters calls compared = record {
        slot = s;
        in_pool = lt;
        free = free;
        same = same_shared moment calls entries_is
            (ap (map (option_map rule_of)) shares_are ∙ rules_stay shares n.vid own.share (share_with (is_none n.last) s own.share) own.here (rule_of-with_line own.share (is_none n.last) (ends_with (line_at own.share (is_none n.last)) s) (own.share.count + 1)))
            refl (ap (λ (p : Pool). p.visited) joined ∙ ap (λ (p : Pool). p.visited) took_is);
      }
