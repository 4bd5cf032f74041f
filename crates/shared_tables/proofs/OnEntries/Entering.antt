-- What holds of the slots and the segments together holds when an entry has come.
use Rattle.std.proofs.Common.{suc, ◌≡◌, ◌≢◌, ℕ, ◌+◌, ◌<◌, ◌≤◌, Bool, true, false, cond, not, ◌||◌, ◌&&◌, List, [], ◌∷◌, ◌++◌, length, set, Option, Some, None, is_none, nat_eq, refl, sym, ap, ◌∙◌, subst, arith, length-append}
use Rattle.std.proofs.lemmas.List.{get_or-set_same, get_or-set_other, length-set}
use Rattle.std.proofs.lemmas.List.Sums.{sum_by-set, sum_by-cons}
use Rattle.std.specs.List.{sum_by}
use Rattle.shared_tables.specs.declared.links.Links.{Links}
use Rattle.shared_tables.specs.Pool.{Held}
use Rattle.shared_tables.specs.declared.share.Share.{Share}
use Rattle.shared_tables.specs.Pool.{entry_at, alone, vacancy, free_count, IfHeld}
use Rattle.shared_tables.specs.LinkSteps.{pushed_back, ends_with}
use Rattle.shared_tables.specs.Line.{IsLinked, is_on, IsThread}
use Rattle.shared_tables.specs.Shared.{line_key, same_bool, last_at, last_in_entry, last_seen, IsNow, Lacks, IsUnique}
use Rattle.shared_tables.specs.SlotsOfSegments.{IsLines, IsSound, IsAged, share_at, line_at, with_line, share_count, share_limit}
use Rattle.shared_tables.proofs.OnEntries.Linked.{by_bool, equal, nat_eq_refl, nat_eq_sym, length-pushed_back}
use Rattle.shared_tables.proofs.OnEntries.Threaded.{thread_back, thread_same, thread_links, apart_by_keys, back_frame, back_over}
use Rattle.shared_tables.proofs.OnEntries.SoundLemmas.{share_in_range}

-- no entry is on two lines

pub and_right : (a b : Bool) → b ≡ false → a && b ≡ false
and_right true b h = h
and_right false b h = refl

pub and_first : (a b : Bool) → a && b ≡ true → a ≡ true
and_first true b h = refl
and_first false b h = h

pub and_second : (a b : Bool) → a && b ≡ true → b ≡ true
and_second true b h = h
and_second false b h = let bad : false ≡ true = h in cc

flip : (f g b : Bool) → same_bool f b ≡ true → same_bool f g ≡ false → same_bool g b ≡ false
flip true true b h k = let bad : true ≡ false = k in cc
flip true false b h k = ap not h
flip false true true h k = let bad : false ≡ true = h in cc
flip false true false h k = refl
flip false false b h k = let bad : true ≡ false = k in cc

pub line_excl_kind : (v w : ℕ) (f g : Bool) → same_bool f g ≡ false → (o : Option Held) → line_key v f o ≡ true → line_key w g o ≡ false
line_excl_kind v w f g ne None h = refl
line_excl_kind v w f g ne (Some e) h = and_right (nat_eq e.vid w) (same_bool g (is_none e.last)) (flip f g (is_none e.last) (and_second (nat_eq e.vid v) _ h) ne)

pub line_excl_vid : (v w : ℕ) (f g : Bool) → nat_eq w v ≡ false → (o : Option Held) → line_key v f o ≡ true → line_key w g o ≡ false
line_excl_vid v w f g ne None h = refl
line_excl_vid v w f g ne (Some e) h =
    by_bool (nat_eq e.vid w)
    (λ yes. let p : e.vid ≡ w = equal _ _ yes in let first = and_first (nat_eq e.vid v) (same_bool f (is_none e.last)) h in let no : nat_eq w v ≡ true = subst (λ k. nat_eq k v ≡ true) p first in let bad : true ≡ false = sym no ∙ ne in cc)
    (λ no. ap (λ b. b && same_bool g (is_none e.last)) no)

pub same_bool_refl : (b : Bool) → same_bool b b ≡ true
same_bool_refl true = refl
same_bool_refl false = refl

pub same_is : (b c : Bool) → same_bool b c ≡ true → b ≡ c
same_is true true h = refl
same_is true false h = let bad : false ≡ true = h in cc
same_is false true h = let bad : false ≡ true = h in cc
same_is false false h = refl

-- the order of a queue, under a write elsewhere and with one more behind
pub aged_frame : (es : List (Option Held)) (s : ℕ) (e : Option Held) (is : List ℕ) (low high : ℕ) → is_on s is ≡ false → IsAged es low is high → IsAged (set es s e) low is high
aged_frame es s e [] low high off h = h
aged_frame es s e (i ∷ is) low high off h =
    let ne : i ≢ s = λ q. (let no : nat_eq s i ≡ true = subst (λ k. nat_eq s k ≡ true) (sym q) (nat_eq_refl s) in let bad : true ≡ false = sym (ap (λ b. b || is_on s is) no) ∙ off in cc) in
    let as_was : last_at (set es s e) i ≡ last_at es i = ap last_in_entry (get_or-set_other es s i e None ne) in (
      subst (λ k. low ≤ k) (sym as_was) h.0,
      subst (λ k. IsAged (set es s e) k is high) (sym as_was) (aged_frame es s e is (last_at es i) high (rest (nat_eq s i) (is_on s is) off) h.1),
    )
  where
    rest : (a b : Bool) → a || b ≡ false → b ≡ false
    rest true b h = let bad : true ≡ false = h in cc
    rest false b h = h

pub aged_push : (es : List (Option Held)) (s : ℕ) (is : List ℕ) (low high : ℕ) → IsAged es low is high → last_at es s ≡ high → IsAged es low (is ++ s ∷ []) high
aged_push es s [] low high h e = (subst (λ k. low ≤ k) (sym e) h, omega (arith, e))
aged_push es s (i ∷ is) low high h e = (h.0, aged_push es s is (last_at es i) high h.1 e)

-- no segment counts more than its limit: nor do all together
few : (xs : List (Option Share)) → ((w : ℕ) (sh : Share) → share_at xs w ≡ Some sh → sh.count ≤ sh.limit) → sum_by share_count xs ≤ sum_by share_limit xs
few [] k = omega arith
few (x ∷ xs) k =
    let rest : sum_by share_count xs ≤ sum_by share_limit xs = few xs (λ w sh at. k (suc w) sh at) in
    omega (arith, sum_by-cons share_count x xs, sum_by-cons share_limit x xs, rest, one x (λ sh q. k 0 sh q))
  where
    one : (x : Option Share) → ((sh : Share) → x ≡ Some sh → sh.count ≤ sh.limit) → share_count x ≤ share_limit x
    one None f = omega arith
    one (Some sh) f = f sh refl

-- a segment below its limit finds a free slot
pub enter_free : (es : List (Option Held)) (ls : List Links) (shares : List (Option Share)) (moment v : ℕ) (share : Share)
    → IsSound es ls shares moment → share_at shares v ≡ Some share → share.count < share.limit → 0 < free_count es
enter_free es ls shares moment v share h here room =
    let more : Option Share = Some (record share { count = share.count + 1 }) in
    let lt = share_in_range shares v share here in
    let sums : sum_by share_count (set shares v more) ≤ sum_by share_limit (set shares v more) = few (set shares v more) (λ w sh at. by_bool (nat_eq w v)
    (λ yes. (let p : more ≡ Some sh = sym (get_or-set_same shares v more None lt) ∙ subst (λ k. share_at (set shares v more) k ≡ Some sh) (equal w v yes) at in let q : record share { count = share.count + 1 } ≡ sh = cc in subst (λ (x : Share). x.count ≤ x.limit) q (omega (arith, room))))
    (λ apart. (h.lined w sh (sym (get_or-set_other shares v w more None (λ q. let yes : nat_eq w v ≡ true = subst (λ k. nat_eq w k ≡ true) q (nat_eq_refl w) in let bad : true ≡ false = sym yes ∙ apart in cc)) ∙ at)).limit)) in
    omega (arith, sums, h.free, h.room, sum_by-set share_count shares v more None lt, sum_by-set share_limit shares v more None lt, ap share_count here, ap share_limit here)

module _ (es : List (Option Held)) (ls : List Links) (shares : List (Option Share)) (moment : ℕ) (h : IsSound es ls shares moment)
    (v : ℕ) (share : Share) (here : share_at shares v ≡ Some share) (room : share.count < share.limit)
    (e : Held) (of : e.vid ≡ v) (absent : Lacks es v e.mac) (now : IsNow e.last moment)
    (s : ℕ) (lt : s < length es) (free : entry_at es s ≡ None) where
  abbrev fixed : Bool
  fixed = is_none e.last

  abbrev es' : List (Option Held)
  es' = set es s (Some e)

  abbrev ls' : List Links
  ls' = pushed_back (set ls s alone) (line_at share fixed).last s

  abbrev share' : Share
  share' = record (with_line share fixed (ends_with (line_at share fixed) s)) { count = share.count + 1 }

  abbrev shares' : List (Option Share)
  shares' = set shares v (Some share')

  was_none : (key : Option Held → Bool) → key None ≡ false → key (entry_at es s) ≡ false
  was_none key none = ap key free ∙ none

  lines_here : IsLines es ls v share moment
  lines_here = h.lined v share here

  -- another line keeps its slots
  line_other : (w : ℕ) (g : Bool) (f l : Option ℕ) (js : List ℕ) → IsThread ls es (line_key w g) f l js → ((o : Option Held) → line_key v fixed o ≡ true → line_key w g o ≡ false) → line_key w g (Some e) ≡ false → IsThread ls' es' (line_key w g) f l js
  line_other w g f l js t excl off =
      thread_links (line_key w g) refl ls ls' es' f l js
      (thread_same (line_key w g) refl ls es f l s (Some e) h.line_links lt js t (off ∙ sym (was_none (line_key w g) refl)))
      (subst (λ x. IsLinked x None js None) (sym (back_over ls s (line_at share fixed).last alone))
      (back_frame ls s (line_at share fixed).last (lines_here.list fixed) js (lines_here.thread fixed).ends (t.members s ∙ was_none (line_key w g) refl)
      (apart_by_keys (line_key v fixed) (line_key w g) ls ls es _ _ _ _ (lines_here.list fixed) js (lines_here.thread fixed) t excl) t.linked))

  line_mine : IsThread ls' es' (line_key v fixed) (ends_with (line_at share fixed) s).first (ends_with (line_at share fixed) s).last (lines_here.list fixed ++ s ∷ [])
  line_mine =
      subst (λ x. IsThread x es' (line_key v fixed) (ends_with (line_at share fixed) s).first (ends_with (line_at share fixed) s).last (lines_here.list fixed ++ s ∷ [])) (sym (back_over ls s (line_at share fixed).last alone))
      (thread_back (line_key v fixed) refl ls es (line_at share fixed).first (line_at share fixed).last s (Some e) h.line_links lt (lines_here.list fixed) (lines_here.thread fixed) (was_none (line_key v fixed) refl) keyed)
    where
      keyed : line_key v fixed (Some e) ≡ true
      keyed = ap (λ c. c && same_bool fixed fixed) (subst (λ k. nat_eq e.vid k ≡ true) of (nat_eq_refl e.vid)) ∙ same_bool_refl fixed

  -- another segment
  lines_other : (w : ℕ) (old : Share) → nat_eq w v ≡ false → IsLines es ls w old moment → IsLines es' ls' w old moment
  lines_other w old ne k = record {
    list = k.list;
    thread = λ g. line_other w g (line_at old g).first (line_at old g).last (k.list g) (k.thread g) (line_excl_vid v w fixed g ne)
        (ap (λ c. c && same_bool g fixed) (subst (λ x. nat_eq x w ≡ false) (sym of) (nat_eq_sym w v ne)));
    aged = aged_frame es s (Some e) (k.list false) 0 moment ((k.thread false).members s ∙ was_none (line_key w false) refl) k.aged;
    count = k.count;
    limit = k.limit;
    some_time = k.some_time;
  }

  -- what the last says of the entry that came
  last_is : last_at es' s ≡ last_in_entry (Some e)
  last_is = ap last_in_entry (get_or-set_same es s (Some e) None lt)

  mine_at : (f : Bool) → fixed ≡ f → IsThread ls' es' (line_key v f) (ends_with (line_at share f) s).first (ends_with (line_at share f) s).last (lines_here.list f ++ s ∷ [])
  mine_at f q = subst (λ g. IsThread ls' es' (line_key v g) (ends_with (line_at share g) s).first (ends_with (line_at share g) s).last (lines_here.list g ++ s ∷ [])) q line_mine

  other_at : (f g : Bool) → fixed ≡ f → same_bool f g ≡ false → IsThread ls' es' (line_key v g) (line_at share g).first (line_at share g).last (lines_here.list g)
  other_at f g q ne =
      line_other v g (line_at share g).first (line_at share g).last (lines_here.list g) (lines_here.thread g)
      (λ o k. line_excl_kind v v fixed g (subst (λ c. same_bool c g ≡ false) (sym q) ne) o k)
      (and_right (nat_eq e.vid v) (same_bool g fixed) (turned g fixed (subst (λ c. same_bool c g ≡ false) (sym q) ne)))
    where
      turned : (a b : Bool) → same_bool b a ≡ false → same_bool a b ≡ false
      turned true true k = k
      turned true false k = refl
      turned false true k = refl
      turned false false k = k

  still_aged : IsAged es' 0 (lines_here.list false) moment
  still_aged = aged_frame es s (Some e) (lines_here.list false) 0 moment ((lines_here.thread false).members s ∙ was_none (line_key v false) refl) lines_here.aged

  seen_now : fixed ≡ false → last_at es' s ≡ moment
  seen_now q = last_is ∙ seen e.last q now
    where
      seen : (last : Option ℕ) → is_none last ≡ false → IsNow last moment → last_seen last ≡ moment
      seen None k n = let bad : true ≡ false = k in cc
      seen (Some last) k n = n

  lines_mine : IsLines es' ls' v share' moment
  lines_mine = go fixed refl
    where
      fixed_thread : fixed ≡ true → (g : Bool) → IsThread ls' es' (line_key v g) (line_at (record (with_line share true (ends_with (line_at share true) s)) { count = share.count + 1 }) g).first (line_at (record (with_line share true (ends_with (line_at share true) s)) { count = share.count + 1 }) g).last (cond g (lines_here.list true ++ s ∷ []) (lines_here.list false))
      fixed_thread q true = mine_at true q
      fixed_thread q false = other_at true false q refl

      queue_thread : fixed ≡ false → (g : Bool) → IsThread ls' es' (line_key v g) (line_at (record (with_line share false (ends_with (line_at share false) s)) { count = share.count + 1 }) g).first (line_at (record (with_line share false (ends_with (line_at share false) s)) { count = share.count + 1 }) g).last (cond g (lines_here.list true) (lines_here.list false ++ s ∷ []))
      queue_thread q true = other_at false true q refl
      queue_thread q false = mine_at false q

      go : (f : Bool) → fixed ≡ f → IsLines es' ls' v (record (with_line share f (ends_with (line_at share f) s)) { count = share.count + 1 }) moment
      go true q = record {
        list = λ g. cond g (lines_here.list true ++ s ∷ []) (lines_here.list false);
        thread = fixed_thread q;
        aged = still_aged;
        count = omega (arith, lines_here.count, length-append (lines_here.list true) (s ∷ []));
        limit = omega (arith, room);
        some_time = lines_here.some_time;
      }
      go false q = record {
        list = λ g. cond g (lines_here.list true) (lines_here.list false ++ s ∷ []);
        thread = queue_thread q;
        aged = aged_push es' s (lines_here.list false) 0 moment still_aged (seen_now q);
        count = omega (arith, lines_here.count, length-append (lines_here.list false) (s ∷ []));
        limit = omega (arith, room);
        some_time = lines_here.some_time;
      }

  share_lt : v < length shares
  share_lt = share_in_range shares v share here

  lined : (w : ℕ) (old : Share) → share_at shares' w ≡ Some old → IsLines es' ls' w old moment
  lined w old at = by_bool (nat_eq w v) (λ yes. mine (equal w v yes)) (λ apart. lines_other w old apart (h.lined w old (sym (get_or-set_other shares v w (Some share') None (λ q. let yes : nat_eq w v ≡ true = subst (λ k. nat_eq w k ≡ true) q (nat_eq_refl w) in let bad : true ≡ false = sym yes ∙ apart in cc)) ∙ at)))
    where
      mine : w ≡ v → IsLines es' ls' w old moment
      mine q =
          let is : share' ≡ old = (let p : Some share' ≡ Some old = sym (get_or-set_same shares v (Some share') None share_lt) ∙ subst (λ k. share_at shares' k ≡ Some old) q at in cc) in
          subst (λ k. IsLines es' ls' k old moment) (sym q) (subst (λ x. IsLines es' ls' v x moment) is lines_mine)

  unique : IsUnique es'
  unique i j x y ix jy vids macs = by_bool (nat_eq i s)
      (λ is. by_bool (nat_eq j s)
      (λ js. equal i s is ∙ sym (equal j s js))
      (λ js. absurd (absent j (held j y (other j js jy) (sym vids ∙ ap (λ (z : Held). z.vid) (at_s i x is ix) ∙ of) (sym macs ∙ ap (λ (z : Held). z.mac) (at_s i x is ix))))))
      (λ is. by_bool (nat_eq j s)
      (λ js. absurd (absent i (held i x (other i is ix) (vids ∙ ap (λ (z : Held). z.vid) (at_s j y js jy) ∙ of) (macs ∙ ap (λ (z : Held). z.mac) (at_s j y js jy)))))
      (λ js. h.unique i j x y (other i is ix) (other j js jy) vids macs))
    where
      other : (k : ℕ) → nat_eq k s ≡ false → {z : Held} → entry_at es' k ≡ Some z → entry_at es k ≡ Some z
      other k apart {z} q = sym (get_or-set_other es s k (Some e) None (λ p. let yes : nat_eq k s ≡ true = subst (λ n. nat_eq k n ≡ true) p (nat_eq_refl k) in let bad : true ≡ false = sym yes ∙ apart in cc)) ∙ q

      at_s : (k : ℕ) (z : Held) → nat_eq k s ≡ true → entry_at es' k ≡ Some z → z ≡ e
      at_s k z is q =
          let p : Some e ≡ Some z = sym (get_or-set_same es s (Some e) None lt) ∙ subst (λ n. entry_at es' n ≡ Some z) (equal k s is) q in cc

      held : (k : ℕ) (z : Held) → entry_at es k ≡ Some z → z.vid ≡ v → z.mac ≡ e.mac → IfHeld (entry_at es k) v e.mac
      held k z q a b = subst (λ o. IfHeld o v e.mac) (sym q) (a, b)

  pub enter_sound : IsSound es' ls' shares' moment
  enter_sound = record {
    line_links = length-pushed_back (set ls s alone) (line_at share fixed).last s ∙ length-set ls s alone ∙ h.line_links ∙ sym (length-set es s (Some e));
    shares_length = length-set shares v (Some share') ∙ h.shares_length;
    lined = lined;
    unique = unique;
    free = omega (arith, h.free, sum_by-set vacancy es s (Some e) None lt, ap vacancy free, sum_by-set share_count shares v (Some share') None share_lt, ap share_count here, length-set es s (Some e));
    room = omega (arith, h.room, sum_by-set share_limit shares v (Some share') None share_lt, ap share_limit here, kept_limit fixed, length-set es s (Some e));
  }
    where
      kept_limit : (f : Bool) → (with_line share f (ends_with (line_at share f) s)).limit ≡ share.limit
      kept_limit true = refl
      kept_limit false = refl
