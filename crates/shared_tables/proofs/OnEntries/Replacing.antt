-- What holds of the slots, the trees and the segments together holds when an entry has come in place of another.
use Rattle.std.proofs.Common.{inl, inr, ◌⊎◌, ◌≡◌, ◌≢◌, ℕ, ◌<◌, ◌≤◌, Bool, true, false, ◌&&◌, List, [], ◌∷◌, length, map, set, Option, Some, None, IsSome, is_none, nat_eq, refl, sym, ap, ◌∙◌, subst, arith}
use Rattle.std.proofs.lemmas.List.{length-set, set-set}
use Rattle.std.proofs.lemmas.List.Sums.{sum_by-set}
use Rattle.std.specs.Option.{option_map}
use Rattle.shared_tables.specs.declared.share.Share.{Share}
use Rattle.shared_tables.specs.declared.links.Links.{Links}
use Rattle.shared_tables.specs.declared.admission.Newcomer.{Newcomer}
use Rattle.shared_tables.specs.declared.look_up.Beside.{Beside}
use Rattle.shared_tables.specs.Bucket.{key_of, tree_of}
use Rattle.shared_tables.specs.Pool.{Pool, Held, tree_in, entry_at, links_at, IfHeld, is_fixed_in, renewed, readdressed, vacancy}
use Rattle.shared_tables.specs.Line.{is_on}
use Rattle.shared_tables.specs.LinkSteps.{HoldsAny, dropped, moved}
use Rattle.shared_tables.specs.Shared.{Shared, rule_at, kept_count, tree_key, HasRoom, Lacks, IsOf, Enters, line_key, same_bool, last_at, last_in_entry}
use Rattle.shared_tables.specs.SlotsOfSegments.{IsSound, IsLines, IsAged, share_at, shares_without, shares_moved, last_left, HasEndsLeft, line_at, rule_of}
use Rattle.shared_tables.specs.TreeColumns.{Trees, Uproots, MayGo}
use Rattle.shared_tables.specs.Tree.{leaves}
use Rattle.shared_tables.specs.TreesOfSlots.{leaf_of, Belongs, BelongsBeside, PartedAt, AreTreesOf}
use Rattle.shared_tables.specs.WholePool.{IsWhole, seen, Replaces}
use Rattle.shared_tables.specs.Admission.{held_of, MayCome}
use Rattle.shared_tables.proofs.OnEntries.Linked.{by_bool, equal}
use Rattle.shared_tables.proofs.OnEntries.Threaded.{thread_same}
use Rattle.shared_tables.proofs.OnTrees.Buckets.{tree_small}
use Rattle.shared_tables.proofs.OnEntries.SoundLemmas.{has_share, sound_at, same_shared}
use Rattle.shared_tables.proofs.OnEntries.Leaving.{leave_lt}
use Rattle.shared_tables.proofs.OnEntries.Dropping.{Stays, stays, IsThreaded, threaded, drop_sound, drop_rules, drop_room}
use Rattle.shared_tables.proofs.OnEntries.Renewing.{renew_sound, renew_last, renew_ends, renew_rules}
use Rattle.shared_tables.proofs.OnTrees.TreeLemmas.{descend_on}
use Rattle.shared_tables.proofs.OnTrees.TreesOfLemmas.{apart, entry_same, entry_other, some_tree, belongs_there, belongs_leads}
use Rattle.shared_tables.proofs.OnTrees.Uprooting.{uproot_trees, uproot_belongs, may_go}
use Rattle.shared_tables.proofs.OnTrees.Relabeling.{relabel_trees}

-- ---- an entry gets another address of its segment

module _ (es : List (Option Held)) (ls : List Links) (shares : List (Option Share)) (moment : ℕ) (h : IsSound es ls shares moment) (s : ℕ) (lt : s < length es) (x : Held) (here : entry_at es s ≡ Some x)
    (v : ℕ) (of : x.vid ≡ v) (mac : List ℕ) (absent : Lacks es v mac) where
  abbrev other : Held
  other = record x { vid = v; mac = mac }

  abbrev es' : List (Option Held)
  es' = set es s (Some other)

  lines_same : (w : ℕ) (g : Bool) → line_key w g (Some other) ≡ line_key w g (entry_at es s)
  lines_same w g = ap (λ u. nat_eq u w && same_bool g (is_none x.last)) (sym of) ∙ sym (ap (line_key w g) here)

  last_same : (i : ℕ) → last_at es' i ≡ last_at es i
  last_same i = by_bool (nat_eq i s)
      (λ yes. ap (λ k. last_at es' k) (equal i s yes) ∙ ap last_in_entry (entry_same es s (Some other) lt) ∙ sym (ap last_in_entry here) ∙ sym (ap (λ k. last_at es k) (equal i s yes)))
      (λ no. ap last_in_entry (entry_other es s i (Some other) (apart i s no)))

  aged_same : (is : List ℕ) (low high : ℕ) → IsAged es low is high → IsAged es' low is high
  aged_same [] low high k = k
  aged_same (i ∷ is) low high k = (subst (λ n. low ≤ n) (sym (last_same i)) k.0, subst (λ n. IsAged es' n is high) (sym (last_same i)) (aged_same is (last_at es i) high k.1))

  lined : (w : ℕ) (share : Share) → share_at shares w ≡ Some share → IsLines es' ls w share moment
  lined w share at =
      let k = h.lined w share at in
      record {
        list = k.list;
        thread = λ g. thread_same (line_key w g) refl ls es (line_at share g).first (line_at share g).last s (Some other) h.line_links lt (k.list g) (k.thread g) (lines_same w g);
        aged = aged_same (k.list false) 0 moment k.aged;
        count = k.count;
        limit = k.limit;
        some_time = k.some_time;
      }

  -- what a slot holds now is the other one, or what it held
  was : (i : ℕ) (a : Held) → entry_at es' i ≡ Some a → ((nat_eq i s ≡ true) × (a ≡ other)) ⊎ ((nat_eq i s ≡ false) × (entry_at es i ≡ Some a))
  was i a e = by_bool (nat_eq i s)
      (λ yes. let p : Some other ≡ Some a = sym (entry_same es s (Some other) lt) ∙ ap (entry_at es') (sym (equal i s yes)) ∙ e in let q : other ≡ a = cc in inl (yes, sym q))
      (λ no. inr (no, sym (entry_other es s i (Some other) (apart i s no)) ∙ e))

  held : (i : ℕ) (a : Held) → entry_at es i ≡ Some a → a.vid ≡ v → a.mac ≡ mac → ⊥
  held i a e p q = absent i (subst (λ o. IfHeld o v mac) (sym e) (p, q))

  unique : (i j : ℕ) (a b : Held) → entry_at es' i ≡ Some a → entry_at es' j ≡ Some b → a.vid ≡ b.vid → a.mac ≡ b.mac → i ≡ j
  unique i j a b p q vids macs = from (was i a p) (was j b q)
    where
      from : ((nat_eq i s ≡ true) × (a ≡ other)) ⊎ ((nat_eq i s ≡ false) × (entry_at es i ≡ Some a)) → ((nat_eq j s ≡ true) × (b ≡ other)) ⊎ ((nat_eq j s ≡ false) × (entry_at es j ≡ Some b)) → i ≡ j
      from (inl m) (inl n) = equal i s m.0 ∙ sym (equal j s n.0)
      from (inl m) (inr n) = absurd (held j b n.1 (sym vids ∙ ap (λ (z : Held). z.vid) m.1) (sym macs ∙ ap (λ (z : Held). z.mac) m.1))
      from (inr m) (inl n) = absurd (held i a m.1 (vids ∙ ap (λ (z : Held). z.vid) n.1) (macs ∙ ap (λ (z : Held). z.mac) n.1))
      from (inr m) (inr n) = h.unique i j a b m.1 n.1 vids macs

  pub readdress_sound : IsSound es' ls shares moment
  readdress_sound = record {
    line_links = h.line_links ∙ sym (length-set es s (Some other));
    shares_length = h.shares_length;
    lined = lined;
    unique = unique;
    free = omega (arith, h.free, sum_by-set vacancy es s (Some other) None lt, ap vacancy here, length-set es s (Some other));
    room = omega (arith, h.room, length-set es s (Some other));
  }

module _ (pool : Pool) (w : Trees) (shares : List (Option Share)) (moment : ℕ) (h : IsWhole pool w shares moment) (n : Newcomer) (s : ℕ)
    (of : IsOf (entry_at pool.entries s) n.vid) (ruled : IsSome (rule_at (map (option_map rule_of) shares) n.vid)) (m : MayCome pool.entries w moment n) where
  abbrev es : List (Option Held)
  es = pool.entries

  abbrev ls : List Links
  ls = pool.lines

  abbrev v : ℕ
  v = n.vid

  abbrev e : Held
  e = held_of n

  abbrev k : Stays es shares v s
  k = stays es shares v s of (has_share shares v ruled)

  s_lt : s < length es
  s_lt = leave_lt es ls shares moment h.sound v k.share k.here k.entry k.is_of s k.at_slot

  -- ---- an entry goes, and then the other comes

  pub may_drop : IsThreaded es ls shares v s
  may_drop = threaded es ls shares moment h.sound v s k

  pub may_leave : MayGo w (tree_in (entry_at es s)) s
  may_leave = may_go es w h.trees k.entry s k.at_slot

  module _ (pool' : Pool) (w' : Trees) (shares' : List (Option Share)) (pool_is : pool' ≡ dropped pool s) (uproots : Uproots w w' (tree_in (entry_at es s)) s) (shares_is : shares' ≡ shares_without shares v (is_fixed_in (entry_at es s)) (links_at ls s)) where
    abbrev entries_are : pool'.entries ≡ set es s None
    entries_are = ap (λ (p : Pool). p.entries) pool_is

    pub dropped_whole : IsWhole pool' w' shares' moment
    dropped_whole = record {
      sound = sound_at moment entries_are (ap (λ (p : Pool). p.lines) pool_is) shares_is (drop_sound es ls shares moment h.sound v s k);
      trees = subst (λ xs. AreTreesOf xs w') (sym entries_are) (uproot_trees es w w' h.trees k.entry s k.at_slot uproots);
    }

    rules_are : map (option_map rule_of) shares' ≡ map (option_map rule_of) shares
    rules_are = ap (map (option_map rule_of)) shares_is ∙ drop_rules es ls shares moment h.sound v s k

    pub dropped_room : HasRoom (rule_at (map (option_map rule_of) shares') v) (kept_count v pool'.entries)
    dropped_room =
        subst (λ xs. HasRoom (rule_at xs v) (kept_count v pool'.entries)) (sym rules_are)
        (subst (λ xs. HasRoom (rule_at (map (option_map rule_of) shares) v) (kept_count v xs)) (sym entries_are) (drop_room es ls shares moment h.sound v s k))

    lacks : Lacks (set es s None) v n.mac
    lacks i held = by_bool (nat_eq i s)
        (λ yes. subst (λ o. IfHeld o v n.mac) (ap (entry_at (set es s None)) (equal i s yes) ∙ entry_same es s None s_lt) held)
        (λ no. m.absent i (subst (λ o. IfHeld o v n.mac) (entry_other es s i None (apart i s no)) held))

    -- another leaf keeps its key
    still_beside : (o : Option Beside) → leaf_of o ≢ Some s → BelongsBeside es w.words (tree_of v n.mac) (key_of v n.mac) o → BelongsBeside (set es s None) w'.words (tree_of v n.mac) (key_of v n.mac) o
    still_beside None ne b = uproot_belongs es w w' h.trees k.entry s k.at_slot uproots (tree_of v n.mac) (key_of v n.mac) (tree_small v n.mac) None ne b
    still_beside (Some at) ne b = (
      uproot_belongs es w w' h.trees k.entry s k.at_slot uproots (tree_of v n.mac) (key_of v n.mac) (tree_small v n.mac) (Some at.leaf) ne b.0,
      subst (λ (x : Option Held). PartedAt x (key_of v n.mac) at.bit) (sym (entry_other es s at.leaf None (λ q. ne (ap (λ i. Some i) q)))) b.1,
    )

    pub dropped_may_come : leaf_of n.beside ≢ Some s → MayCome pool'.entries w' moment n
    dropped_may_come ne = record {
      tree = m.tree;
      fits = m.fits;
      absent = subst (λ xs. Lacks xs v n.mac) (sym entries_are) lacks;
      now = m.now;
      beside = subst (λ xs. BelongsBeside xs w'.words (tree_of v n.mac) (key_of v n.mac) n.beside) (sym entries_are) (still_beside n.beside ne m.beside);
    }

    pub dropped_replaces : (new : Shared) (calls compared : ℕ) → Enters (seen pool' shares' moment calls compared) new e → Replaces (seen pool shares moment calls compared) new s e
    dropped_replaces new calls compared enters = subst (λ x. Enters x new e) (same_shared moment calls entries_are rules_are refl (ap (λ (p : Pool). p.visited) pool_is)) enters

  -- ---- an entry's slot is used again

  module _ (pool' : Pool) (pool_is : pool' ≡ record pool { entries = set es s (readdressed (entry_at es s) v n.mac) }) where
    abbrev x : Held
    x = record k.entry { vid = v; mac = n.mac }

    entries_is : pool'.entries ≡ set es s (Some x)
    entries_is = ap (λ (p : Pool). p.entries) pool_is ∙ ap (λ o. set es s (readdressed o v n.mac)) k.at_slot

    lines_is : pool'.lines ≡ ls
    lines_is = ap (λ (p : Pool). p.lines) pool_is

    sound' : IsSound pool'.entries pool'.lines shares moment
    sound' = sound_at moment entries_is lines_is refl (readdress_sound es ls shares moment h.sound s s_lt k.entry k.at_slot v k.is_of n.mac m.absent)

    abbrev k' : Stays pool'.entries shares v s
    k' = record { share = k.share; here = k.here; entry = x; at_slot = ap (λ xs. entry_at xs s) entries_is ∙ entry_same es s (Some x) s_lt; is_of = refl }

    pub again_threaded : IsThreaded pool'.entries pool'.lines shares v s
    again_threaded = threaded pool'.entries pool'.lines shares moment sound' v s k'

    pub again_there : IsSome (share_at shares v)
    again_there = subst (λ (o : Option Share). IsSome o) (sym k.here) refl

    pub again_last : HoldsAny (set pool'.entries s (renewed (entry_at pool'.entries s) n.place n.last)) (last_left (share_at shares v) (is_fixed_in (entry_at pool'.entries s)) (is_none n.last) (links_at pool'.lines s))
    again_last = renew_last pool'.entries pool'.lines shares moment sound' v s k' n.place n.last m.now

    pub again_ends : HasEndsLeft (share_at shares v) (is_fixed_in (entry_at pool'.entries s)) (is_none n.last) (links_at pool'.lines s)
    again_ends = renew_ends pool'.entries pool'.lines shares moment sound' v s k' n.place n.last m.now

    module _ (beside : leaf_of n.beside ≡ Some s) (pool'' : Pool) (shares'' : List (Option Share))
        (moved_is : pool'' ≡ moved pool' s n.place n.last (last_left (share_at shares v) (is_fixed_in (entry_at pool'.entries s)) (is_none n.last) (links_at pool'.lines s)))
        (shares_is : shares'' ≡ shares_moved shares v (is_fixed_in (entry_at pool'.entries s)) (is_none n.last) (links_at pool'.lines s) s) where
      final : pool''.entries ≡ set es s (Some e)
      final =
          ap (λ (p : Pool). p.entries) moved_is ∙ ap (λ o. set pool'.entries s (renewed o n.place n.last)) k'.at_slot
          ∙ ap (λ xs. set xs s (Some e)) entries_is ∙ set-set es s (Some x) (Some e)

      abbrev c : ℕ
      c = tree_of v n.mac

      at_home : Belongs w.words c (key_of v n.mac) (Some s)
      at_home = from n.beside beside m.beside
        where
          from : (o : Option Beside) → leaf_of o ≡ Some s → BelongsBeside es w.words c (key_of v n.mac) o → Belongs w.words c (key_of v n.mac) (Some s)
          from None q b = let bad : None ≡ Some s = q in cc
          from (Some at) q b = subst (Belongs w.words c (key_of v n.mac)) q b.0

      same_number : tree_of k.entry.vid k.entry.mac ≡ c
      same_number =
          let t = some_tree es w.words c (belongs_there w.words c (key_of v n.mac) s at_home) (h.trees.numbered c (tree_small v n.mac)) in
          let way = belongs_leads es w.words c (key_of v n.mac) s at_home t in
          let on : is_on s (leaves t.tree) ≡ true = subst (λ i. is_on i (leaves t.tree) ≡ true) way (descend_on (key_of v n.mac) t.tree) in
          equal (tree_of k.entry.vid k.entry.mac) c (sym (ap (tree_key c) k.at_slot) ∙ sym (t.members s) ∙ on)

      pub again_whole : IsWhole pool'' w shares'' moment
      again_whole = record {
        sound = sound_at moment (ap (λ (p : Pool). p.entries) moved_is) (ap (λ (p : Pool). p.lines) moved_is) shares_is (renew_sound pool'.entries pool'.lines shares moment sound' v s k' n.place n.last m.now);
        trees = subst (λ xs. AreTreesOf xs w) (sym final)
            (relabel_trees es w h.trees k.entry e s k.at_slot (sym same_number) m.fits (subst (λ b. Belongs w.words b (key_of v n.mac) (Some s)) (sym same_number) at_home));
      }

      pub again_replaces : (calls compared : ℕ) → Replaces (seen pool shares moment calls compared) (seen pool'' shares'' moment calls compared) s e
      again_replaces calls compared = record {
        slot = s;
        in_pool = subst (λ z. s < z) (sym (length-set es s None)) s_lt;
        free = entry_same es s None s_lt;
        same = same_shared moment calls (final ∙ sym (set-set es s None (Some e)))
            (ap (map (option_map rule_of)) shares_is ∙ renew_rules pool'.entries pool'.lines shares moment sound' v s k' n.place n.last m.now)
            refl (ap (λ (p : Pool). p.visited) moved_is ∙ ap (λ (p : Pool). p.visited) pool_is);
      }
