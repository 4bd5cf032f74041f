-- What holds of the slots and the segments together holds when an entry has gone.
use Rattle.std.proofs.Common.{◌≡◌, ℕ, ◌+◌, ◌-◌, ◌<◌, ◌≤◌, Bool, true, false, cond, ◌&&◌, List, [], ◌∷◌, ◌++◌, length, set, Option, Some, None, is_none, nat_eq, refl, sym, ap, ◌∙◌, subst, arith, length-append}
use Rattle.std.proofs.lemmas.List.{get_or-set_same, get_or-set_other, length-set}
use Rattle.std.proofs.lemmas.List.Sums.{sum_by-set}
use Rattle.shared_tables.specs.Bucket.{tree_of}
use Rattle.shared_tables.specs.declared.links.Links.{Links}
use Rattle.shared_tables.specs.Pool.{Held}
use Rattle.shared_tables.specs.declared.share.Share.{Share}
use Rattle.shared_tables.specs.Pool.{links_at, entry_at, alone, vacancy, IfHeld}
use Rattle.shared_tables.specs.LinkSteps.{unlinked, ends_without}
use Rattle.shared_tables.specs.Line.{is_on, IsThread}
use Rattle.shared_tables.specs.Shared.{tree_key, line_key, kept_count, same_bool, last_at, Lacks}
use Rattle.shared_tables.specs.SlotsOfSegments.{IsLines, IsSound, IsAged, share_at, line_at, with_line, share_count, share_limit}
use Rattle.shared_tables.proofs.OnEntries.Linked.{by_bool, equal, nat_eq_refl, length-unlinked, Around, around, off_without, unlinked_frame, linked_frame}
use Rattle.shared_tables.proofs.OnEntries.Threaded.{thread_without, thread_same, thread_links, apart_by_keys, in_entries}
use Rattle.shared_tables.proofs.OnEntries.SoundLemmas.{kept_is, share_in_range}
use Rattle.shared_tables.proofs.OnEntries.Entering.{line_excl_kind, line_excl_vid, same_bool_refl, aged_frame}

-- the order of a queue without one of its slots
aged_from : (es : List (Option Held)) (is : List ℕ) (low low' high : ℕ) → low ≤ low' → IsAged es low' is high → IsAged es low is high
aged_from es [] low low' high le h = omega (arith, le, h)
aged_from es (i ∷ is) low low' high le h = (omega (arith, le, h.0), h.1)

aged_without : (es : List (Option Held)) (s : ℕ) (xs ys : List ℕ) (low high : ℕ) → IsAged es low (xs ++ s ∷ ys) high → IsAged es low (xs ++ ys) high
aged_without es s [] ys low high h = aged_from es ys low (last_at es s) high h.0 h.1
aged_without es s (x ∷ xs) ys low high h = (h.0, aged_without es s xs ys (last_at es x) high h.1)

module _ (es : List (Option Held)) (ls : List Links) (shares : List (Option Share)) (moment : ℕ) (h : IsSound es ls shares moment)
    (v : ℕ) (share : Share) (here : share_at shares v ≡ Some share) (e : Held) (of : e.vid ≡ v) (s : ℕ) (at : entry_at es s ≡ Some e) where
  abbrev fixed : Bool
  fixed = is_none e.last

  abbrev b : ℕ
  b = tree_of e.vid e.mac

  abbrev es' : List (Option Held)
  es' = set es s None

  abbrev ls' : List Links
  ls' = set (unlinked ls s) s alone

  abbrev share' : Share
  share' = record (with_line share fixed (ends_without (line_at share fixed) (links_at ls s))) { count = share.count - 1 }

  abbrev shares' : List (Option Share)
  shares' = set shares v (Some share')

  is_of : (key : Option Held → Bool) → key (Some e) ≡ true → key (entry_at es s) ≡ true
  is_of key k = ap key at ∙ k

  isn't_of : (key : Option Held → Bool) → key (Some e) ≡ false → key (entry_at es s) ≡ false
  isn't_of key k = ap key at ∙ k

  pub leave_lt : s < length es
  leave_lt = in_entries (tree_key b) refl es s (is_of (tree_key b) (nat_eq_refl b))

  abbrev lines_here : IsLines es ls v share moment
  lines_here = h.lined v share here

  keyed : line_key v fixed (Some e) ≡ true
  keyed = ap (λ c. c && same_bool fixed fixed) (subst (λ k. nat_eq e.vid k ≡ true) of (nat_eq_refl e.vid)) ∙ same_bool_refl fixed

  on_line : is_on s (lines_here.list fixed) ≡ true
  on_line = (lines_here.thread fixed).members s ∙ is_of (line_key v fixed) keyed

  pub line_on : is_on s ((h.lined v share here).list fixed) ≡ true
  line_on = on_line

  apart : Around s (lines_here.list fixed)
  apart = around s (lines_here.list fixed) on_line

  abbrev rest : List ℕ
  rest = apart.before ++ apart.behind

  line_whole : IsThread ls es (line_key v fixed) (line_at share fixed).first (line_at share fixed).last (apart.before ++ s ∷ apart.behind)
  line_whole = subst (λ is. IsThread ls es (line_key v fixed) (line_at share fixed).first (line_at share fixed).last is) apart.whole (lines_here.thread fixed)

  line_mine : IsThread ls' es' (line_key v fixed) (ends_without (line_at share fixed) (links_at ls s)).first (ends_without (line_at share fixed) (links_at ls s)).last rest
  line_mine =
      let t = thread_without (line_key v fixed) refl ls es (line_at share fixed).first (line_at share fixed).last s None h.line_links leave_lt apart.before apart.behind line_whole refl in
      thread_links (line_key v fixed) refl (unlinked ls s) ls' es' _ _ rest t (linked_frame (unlinked ls s) s alone rest None None (off_without s apart.before apart.behind line_whole.apart) t.linked)

  -- another line keeps its slots
  line_other : (w : ℕ) (g : Bool) (f l : Option ℕ) (js : List ℕ) → IsThread ls es (line_key w g) f l js → ((o : Option Held) → line_key v fixed o ≡ true → line_key w g o ≡ false) → IsThread ls' es' (line_key w g) f l js
  line_other w g f l js t excl =
      let off : line_key w g (Some e) ≡ false = excl (Some e) keyed in
      thread_links (line_key w g) refl ls ls' es' f l js
      (thread_same (line_key w g) refl ls es f l s None h.line_links leave_lt js t (sym (isn't_of (line_key w g) off)))
      (linked_frame (unlinked ls s) s alone js None None (t.members s ∙ isn't_of (line_key w g) off)
      (unlinked_frame ls s apart.before apart.behind line_whole.apart line_whole.linked (λ i on. subst (λ k. i < k) (sym h.line_links) (in_entries (line_key v fixed) refl es i (sym (line_whole.members i) ∙ on))) js
      (apart_by_keys (line_key v fixed) (line_key w g) ls ls es _ _ _ _ (apart.before ++ s ∷ apart.behind) js line_whole t excl) t.linked))

  lines_other : (w : ℕ) (old : Share) → nat_eq w v ≡ false → IsLines es ls w old moment → IsLines es' ls' w old moment
  lines_other w old ne k = record {
    list = k.list;
    thread = λ g. line_other w g (line_at old g).first (line_at old g).last (k.list g) (k.thread g) (line_excl_vid v w fixed g ne);
    aged = aged_frame es s None (k.list false) 0 moment ((k.thread false).members s ∙ isn't_of (line_key w false) (line_excl_vid v w fixed false ne (Some e) keyed)) k.aged;
    count = k.count;
    limit = k.limit;
    some_time = k.some_time;
  }

  mine_at : (f : Bool) → fixed ≡ f → IsThread ls' es' (line_key v f) (ends_without (line_at share f) (links_at ls s)).first (ends_without (line_at share f) (links_at ls s)).last rest
  mine_at f q = subst (λ g. IsThread ls' es' (line_key v g) (ends_without (line_at share g) (links_at ls s)).first (ends_without (line_at share g) (links_at ls s)).last rest) q line_mine

  other_at : (f g : Bool) → fixed ≡ f → same_bool f g ≡ false → IsThread ls' es' (line_key v g) (line_at share g).first (line_at share g).last (lines_here.list g)
  other_at f g q ne = line_other v g (line_at share g).first (line_at share g).last (lines_here.list g) (lines_here.thread g) (line_excl_kind v v fixed g (subst (λ c. same_bool c g ≡ false) (sym q) ne))

  lengths : (f : Bool) → fixed ≡ f → length (lines_here.list f) ≡ length rest + 1
  lengths f q =
      let p : length (lines_here.list fixed) ≡ length (apart.before ++ s ∷ apart.behind) = ap length apart.whole in
      let n : length (lines_here.list fixed) ≡ length rest + 1 = omega (arith, p, length-append apart.before (s ∷ apart.behind), length-append apart.before apart.behind) in
      subst (λ g. length (lines_here.list g) ≡ length rest + 1) q n

  lines_mine : IsLines es' ls' v share' moment
  lines_mine = go fixed refl
    where
      fixed_thread : fixed ≡ true → (g : Bool) → IsThread ls' es' (line_key v g) (line_at (record (with_line share true (ends_without (line_at share true) (links_at ls s))) { count = share.count - 1 }) g).first (line_at (record (with_line share true (ends_without (line_at share true) (links_at ls s))) { count = share.count - 1 }) g).last (cond g rest (lines_here.list false))
      fixed_thread q true = mine_at true q
      fixed_thread q false = other_at true false q refl

      queue_thread : fixed ≡ false → (g : Bool) → IsThread ls' es' (line_key v g) (line_at (record (with_line share false (ends_without (line_at share false) (links_at ls s))) { count = share.count - 1 }) g).first (line_at (record (with_line share false (ends_without (line_at share false) (links_at ls s))) { count = share.count - 1 }) g).last (cond g (lines_here.list true) rest)
      queue_thread q true = other_at false true q refl
      queue_thread q false = mine_at false q

      go : (f : Bool) → fixed ≡ f → IsLines es' ls' v (record (with_line share f (ends_without (line_at share f) (links_at ls s))) { count = share.count - 1 }) moment
      go true q = record {
        list = λ g. cond g rest (lines_here.list false);
        thread = fixed_thread q;
        aged = aged_frame es s None (lines_here.list false) 0 moment ((lines_here.thread false).members s ∙ isn't_of (line_key v false) (line_excl_kind v v fixed false (ap (λ c. same_bool c false) q) (Some e) keyed)) lines_here.aged;
        count = omega (arith, lines_here.count, lengths true q);
        limit = omega (arith, lines_here.limit);
        some_time = lines_here.some_time;
      }
      go false q = record {
        list = λ g. cond g (lines_here.list true) rest;
        thread = queue_thread q;
        aged = aged_frame es s None rest 0 moment (off_without s apart.before apart.behind line_whole.apart)
            (aged_without es s apart.before apart.behind 0 moment (subst (λ is. IsAged es 0 is moment) (subst (λ g. lines_here.list g ≡ apart.before ++ s ∷ apart.behind) q apart.whole) lines_here.aged));
        count = omega (arith, lines_here.count, lengths false q);
        limit = omega (arith, lines_here.limit);
        some_time = lines_here.some_time;
      }

  share_lt : v < length shares
  share_lt = share_in_range shares v share here

  -- the segment counts the entry
  pub leave_count : 0 < share.count
  leave_count = go fixed refl
    where
      go : (f : Bool) → fixed ≡ f → 0 < share.count
      go true q = omega (arith, lines_here.count, lengths true q)
      go false q = omega (arith, lines_here.count, lengths false q)

  -- the segment has room then
  pub leave_few : kept_count v es' < share.limit
  leave_few = omega (arith, kept_is es' ls' v share' moment lines_mine, leave_count, lines_here.limit)

  lined : (w : ℕ) (old : Share) → share_at shares' w ≡ Some old → IsLines es' ls' w old moment
  lined w old at' = by_bool (nat_eq w v) (λ yes. this (equal w v yes)) (λ ne. lines_other w old ne (h.lined w old (sym (get_or-set_other shares v w (Some share') None (λ q. let yes : nat_eq w v ≡ true = subst (λ k. nat_eq w k ≡ true) q (nat_eq_refl w) in let bad : true ≡ false = sym yes ∙ ne in cc)) ∙ at')))
    where
      this : w ≡ v → IsLines es' ls' w old moment
      this q =
          let is : share' ≡ old = (let p : Some share' ≡ Some old = sym (get_or-set_same shares v (Some share') None share_lt) ∙ subst (λ k. share_at shares' k ≡ Some old) q at' in cc) in
          subst (λ k. IsLines es' ls' k old moment) (sym q) (subst (λ x. IsLines es' ls' v x moment) is lines_mine)

  -- what is left stood there before
  before : (k : ℕ) (z : Held) → entry_at es' k ≡ Some z → (nat_eq k s ≡ false) × (entry_at es k ≡ Some z)
  before k z q = by_bool (nat_eq k s)
      (λ yes. let bad : None ≡ Some z = sym (get_or-set_same es s None None leave_lt) ∙ subst (λ n. entry_at es' n ≡ Some z) (equal k s yes) q in cc)
      (λ ne. (ne, sym (get_or-set_other es s k None None (λ p. let yes : nat_eq k s ≡ true = subst (λ n. nat_eq k n ≡ true) p (nat_eq_refl k) in let bad : true ≡ false = sym yes ∙ ne in cc)) ∙ q))

  -- the address is no longer there
  pub leave_lacks : (mac : List ℕ) → e.mac ≡ mac → Lacks es' v mac
  leave_lacks mac macs k held = go (entry_at es' k) refl held
    where
      go : (o : Option Held) → entry_at es' k ≡ o → IfHeld o v mac → ⊥
      go None q x = x
      go (Some z) q x =
          let was = before k z q in
          let same : k ≡ s = h.unique k s z e was.1 at (x.0 ∙ sym of) (x.1 ∙ sym macs) in
          let bad : true ≡ false = sym (subst (λ n. nat_eq k n ≡ true) same (nat_eq_refl k)) ∙ was.0 in cc

  pub leave_sound : IsSound es' ls' shares' moment
  leave_sound = record {
    line_links = length-set (unlinked ls s) s alone ∙ length-unlinked ls s ∙ h.line_links ∙ sym (length-set es s None);
    shares_length = length-set shares v (Some share') ∙ h.shares_length;
    lined = lined;
    unique = λ i j x y ix jy vids macs. h.unique i j x y (before i x ix).1 (before j y jy).1 vids macs;
    free = omega (arith, h.free, leave_count, sum_by-set vacancy es s None None leave_lt, ap vacancy at, sum_by-set share_count shares v (Some share') None share_lt, ap share_count here, length-set es s None);
    room = omega (arith, h.room, sum_by-set share_limit shares v (Some share') None share_lt, ap share_limit here, kept_limit fixed, length-set es s None);
  }
    where
      kept_limit : (f : Bool) → (with_line share f (ends_without (line_at share f) (links_at ls s))).limit ≡ share.limit
      kept_limit true = refl
      kept_limit false = refl
