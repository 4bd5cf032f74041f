-- Segments that come, go and get other limits: what becomes of the slots, the shares and the segments.
use Rattle.std.proofs.Common.{inl, inr, ◌⊎◌, ◌≡◌, ◌≢◌, ℕ, ◌+◌, ◌<◌, ◌≤◌, ◌==◌, ◌&&◌, Bool, true, false, cond, zero, suc, List, [], ◌∷◌, length, ◌++◌, map, set, take, get_or, Option, Some, None, IsSome, IfNone, IfSome, is_some, is_none, nat_eq, nat_lt, refl, sym, ap, ◌∙◌, subst, arith}
use Rattle.std.proofs.Math.Path.{fun_ext}
use Rattle.std.proofs.Math.ListN.{get_or-map}
use Rattle.std.proofs.lemmas.Bool.{cases_lt, lt-ltb, le-ltb, eqb-true, eq-eqb, false≢true}
use Rattle.std.proofs.lemmas.Bool.Decides.{nat_tests}
use Rattle.std.proofs.lemmas.List.{get_or-set_same, get_or-set_other, length-set, take_more, take_all}
use Rattle.std.proofs.lemmas.List.Sums.{sum_by-set, sum_by-cons, sum_by_push}
use Rattle.std.specs.Option.{option_map, unwrap_or}
use Rattle.std.specs.List.{sum_by, range_with_len}
use Rattle.std.specs.FinMap.{empty, from_entries, get, len}
use Rattle.filter_db.specs.declared.entry.Entry.{Entry}
use Rattle.filter_db.specs.declared.tables.TableRule.{TableRule}
use Rattle.filter_db.specs.Table.{Table, kept, is_live, nanoseconds}
use Rattle.filter_db.specs.Segment.{Segment, Segments, aged, adjusted, new_segment, segment_at, no_segment}
use Rattle.filter_db.specs.Standing.{limit_in, sum_of_limits, segment_count, numbers_of_12_bits, added, removed, set_limit_in}
use Rattle.filter_db.specs.Ageing.{same_table, sifted, get-kept}
use Rattle.filter_db.proofs.TableLemmas.{get-none, kept-empty}
use Rattle.filter_db.proofs.StandingLemmas.{sum_of_limits-same}
use Rattle.shared_tables.specs.declared.links.Links.{Links}
use Rattle.shared_tables.specs.declared.share.Share.{Share}
use Rattle.shared_tables.specs.Pool.{Held, entry_at, vacancy, free_count}
use Rattle.shared_tables.specs.Line.{weight, IsThread, first_of, is_on}
use Rattle.shared_tables.specs.Shared.{Shared, Rule, rule_at, vid_key, line_key, same_bool, kept_count, IsOf, NoneAges, Drops, Flushes, KeepsOrDrops, IsUnique, is_held, held_count}
use Rattle.shared_tables.specs.Work.{is_dead, dead_count}
use Rattle.shared_tables.specs.LinkSteps.{IsHeld}
use Rattle.shared_tables.specs.SlotsOfSegments.{IsSound, IsLines, share_at, share_count, share_limit, rule_of, line_at}
use Rattle.shared_tables.specs.Opened.{new_share}
use Rattle.shared_tables.specs.Segments.{rows_of, kept_table, kept_segment, segments_of}
use Rattle.shared_tables.specs.Standing.{one_there, with_limit, NoneFixed, IsFixedOf, Empties}
use Rattle.shared_tables.proofs.OnEntries.Linked.{by_bool, equal, nat_eq_refl, first_on}
use Rattle.shared_tables.proofs.OnEntries.SoundLemmas.{kept_is}
use Rattle.shared_tables.proofs.OnEntries.Entering.{and_first}
use Rattle.shared_tables.proofs.OnEntries.Threaded.{in_entries}
use Rattle.shared_tables.proofs.OnEntries.Sweeping.{drop_on}
use Rattle.shared_tables.proofs.OnCalls.SegmentsLemmas.{drop_segments}
use Rattle.shared_tables.proofs.OnCalls.CallLemmas.{alike}

-- ---- sums over the shares are sums over the segments

-- a sum over numbers from a on, and over what stands at their places
places : (f : ℕ → ℕ) (g : Option Share → ℕ) (xs : List (Option Share)) (a : ℕ) → ((i : ℕ) → f (a + i) ≡ g (share_at xs i)) → sum_by f (range_with_len a (length xs)) ≡ sum_by g xs
places f g [] a same = refl
places f g (x ∷ xs) a same =
    let rest = places f g xs (a + 1) (λ i. ap f (omega arith) ∙ same (suc i)) in
    let first : f a ≡ g x = ap f (omega arith) ∙ same 0 in
    omega (arith, rest, first, sum_by-cons f a (range_with_len (a + 1) (length xs)), sum_by-cons g x xs)

-- what contracts see of these parts
abbrev pub shared_by : List (Option Held) → List (Option Share) → ℕ → ℕ → ℕ → ℕ → Shared
shared_by es shares m k c v = record { entries = es; rules = map (option_map rule_of) shares; moment = m; calls = k; compared = c; visited = v }

-- the segment of a share
abbrev pub look : List (Option Held) → ℕ → ℕ → Option Share → Option Segment
look es m w o = option_map (aged m) (option_map (kept_segment w es) (option_map rule_of o))

module _ (es : List (Option Held)) (shares : List (Option Share)) (m k c v : ℕ) where
  pub read : (w : ℕ) → segments_of (shared_by es shares m k c v) w ≡ look es m w (share_at shares w)
  read w = ap (λ o. option_map (aged m) (option_map (kept_segment w es) o)) (get_or-map (option_map rule_of) shares w None)

  limit_read : (w : ℕ) → limit_in (segments_of (shared_by es shares m k c v) w) ≡ share_limit (share_at shares w)
  limit_read w = ap limit_in (read w) ∙ at (share_at shares w)
    where
      at : (o : Option Share) → limit_in (look es m w o) ≡ share_limit o
      at None = refl
      at (Some share) = refl

  there_read : (w : ℕ) → cond (is_some (segments_of (shared_by es shares m k c v) w)) 1 0 ≡ one_there (share_at shares w)
  there_read w = ap (λ (o : Option Segment). let r : ℕ = cond (is_some o) 1 0 in r) (read w) ∙ at (share_at shares w)
    where
      at : (o : Option Share) → cond (is_some (look es m w o)) 1 0 ≡ one_there o
      at None = refl
      at (Some share) = refl

  -- the limit of a segment that is there
  pub limit_at : (w : ℕ) (share : Share) → share_at shares w ≡ Some share → (segment_at w (segments_of (shared_by es shares m k c v))).limit ≡ share.limit
  limit_at w share here = ap (λ (o : Option Segment). (unwrap_or o no_segment).limit) (read w ∙ ap (look es m w) here)

  pub limits_are : length shares ≡ 4096 → sum_of_limits (segments_of (shared_by es shares m k c v)) ≡ sum_by share_limit shares
  unfolding sum_of_limits numbers_of_12_bits
  limits_are size =
      subst (λ n. sum_by (λ w. limit_in (segments_of (shared_by es shares m k c v) w)) (range_with_len 0 n) ≡ sum_by share_limit shares) size
      (places (λ w. limit_in (segments_of (shared_by es shares m k c v) w)) share_limit shares 0 (λ i. ap (λ w. limit_in (segments_of (shared_by es shares m k c v) w)) (omega arith) ∙ limit_read i))

  pub count_is : length shares ≡ 4096 → segment_count (segments_of (shared_by es shares m k c v)) ≡ sum_by one_there shares
  unfolding segment_count numbers_of_12_bits
  count_is size =
      subst (λ n. sum_by (λ w. cond (is_some (segments_of (shared_by es shares m k c v) w)) 1 0) (range_with_len 0 n) ≡ sum_by one_there shares) size
      (places (λ w. cond (is_some (segments_of (shared_by es shares m k c v) w)) 1 0) one_there shares 0 (λ i. ap (λ w. cond (is_some (segments_of (shared_by es shares m k c v) w)) 1 0) (omega arith) ∙ there_read i))

-- a segment that isn't there has no share
pub no_share : (shares : List (Option Share)) (v : ℕ) → rule_at (map (option_map rule_of) shares) v ≡ None → share_at shares v ≡ None
no_share shares v h = from (share_at shares v) (sym (get_or-map (option_map rule_of) shares v None) ∙ h)
  where
    from : (o : Option Share) → option_map rule_of o ≡ None → o ≡ None
    from None q = refl
    from (Some share) q = let bad : Some (rule_of share) ≡ None = q in cc

-- ---- the first of the fixed entries

pub fixed_if_none : (es : List (Option Held)) (ls : List Links) (v : ℕ) (share : Share) (moment : ℕ) → IsLines es ls v share moment → IfNone share.fixed.first (NoneFixed es v)
fixed_if_none es ls v share moment h = at share.fixed.first (λ e i. sym ((h.thread true).members i) ∙ nowhere (h.list true) (sym (h.thread true).begins ∙ e) i)
  where
    nowhere : (is : List ℕ) → first_of is None ≡ None → (i : ℕ) → is_on i is ≡ false
    nowhere [] q i = refl
    nowhere (k ∷ is) q i = let bad : Some k ≡ None = q in cc

    at : (o : Option ℕ) → (o ≡ None → NoneFixed es v) → IfNone o (NoneFixed es v)
    at None k = k refl
    at (Some s) k = tt

pub fixed_if_some : (es : List (Option Held)) (ls : List Links) (v : ℕ) (share : Share) (moment : ℕ) → IsLines es ls v share moment → IfSome share.fixed.first (IsFixedOf es v)
fixed_if_some es ls v share moment h = at share.fixed.first (λ s e. sym ((h.thread true).members s) ∙ first (h.list true) s (sym (h.thread true).begins ∙ e))
  where
    first : (is : List ℕ) (s : ℕ) → first_of is None ≡ Some s → is_on s is ≡ true
    first [] s q = let bad : None ≡ Some s = q in cc
    first (k ∷ is) s q = let same : k ≡ s = (let p : Some k ≡ Some s = q in cc) in subst (λ n. is_on n (k ∷ is) ≡ true) same (first_on k is)

    at : (o : Option ℕ) → ((s : ℕ) → o ≡ Some s → IsFixedOf es v s) → IfSome o (IsFixedOf es v)
    at None k = tt
    at (Some s) k = k s refl

-- there are no more segments than places
pub few_there : (shares : List (Option Share)) → sum_by one_there shares ≤ length shares
few_there [] = omega arith
few_there (o ∷ shares) = omega (arith, few_there shares, sum_by-cons one_there o shares, one o)
  where
    one : (o : Option Share) → one_there o ≤ 1
    one None = omega arith
    one (Some share) = omega arith

-- ---- segments without entries

-- a test that no entry passes
pub none_weighs : (key : Option Held → Bool) (es : List (Option Held)) → ((i : ℕ) → key (entry_at es i) ≡ false) → sum_by (weight key) es ≡ 0
none_weighs key [] none = refl
none_weighs key (o ∷ es) none =
    let first : weight key o ≡ 0 = ap (λ (b : Bool). let r : ℕ = cond b 1 0 in r) (none 0) in
    omega (arith, first, none_weighs key es (λ i. none (suc i)), sum_by-cons (weight key) o es)

-- where none is counted there is none
pub none_kept : (v : ℕ) (es : List (Option Held)) → kept_count v es ≡ 0 → (i : ℕ) → vid_key v (entry_at es i) ≡ false
none_kept v [] e i = refl
none_kept v (o ∷ es) e zero = by_bool (vid_key v o)
    (λ yes. let one : weight (vid_key v) o ≡ 1 = ap (λ (b : Bool). let r : ℕ = cond b 1 0 in r) yes in absurd (omega (arith, one, e, sum_by-cons (weight (vid_key v)) o es)))
    (λ no. no)
none_kept v (o ∷ es) e (suc i) = none_kept v es (omega (arith, e, sum_by-cons (weight (vid_key v)) o es)) i

pub none_lined : (v : ℕ) (g : Bool) (o : Option Held) → vid_key v o ≡ false → line_key v g o ≡ false
none_lined v g None off = refl
none_lined v g (Some e) off = ap (λ b. b && same_bool g (is_none e.last)) off

rows_none : (v : ℕ) (es : List (Option Held)) → ((i : ℕ) → vid_key v (entry_at es i) ≡ false) → rows_of v es ≡ []
rows_none v [] none = refl
rows_none v (None ∷ es) none = rows_none v es (λ i. none (suc i))
rows_none v (Some e ∷ es) none = from (nat_eq e.vid v) (none 0) (rows_none v es (λ i. none (suc i)))
  where
    from : (b : Bool) → b ≡ false → rows_of v es ≡ [] → cond b ((e.mac, record { place = e.place; last = e.last }) ∷ rows_of v es) (rows_of v es) ≡ []
    from true off rest = absurd (false≢true (sym off))
    from false off rest = rest

pub table_none : (v : ℕ) (es : List (Option Held)) → kept_count v es ≡ 0 → kept_table v es ≡ empty
table_none v es none = ap from_entries (rows_none v es (none_kept v es none))

-- ---- each entry's segment is there

additive : (p q r : Option Held → ℕ) → ((o : Option Held) → p o ≡ q o + r o) → (es : List (Option Held)) → sum_by p es ≡ sum_by q es + sum_by r es
additive p q r same [] = refl
additive p q r same (o ∷ es) = omega (arith, additive p q r same es, same o, sum_by-cons p o es, sum_by-cons q o es, sum_by-cons r o es)

at_most_one : (p : Option Held → ℕ) → ((o : Option Held) → p o ≤ 1) → (es : List (Option Held)) → sum_by p es ≤ length es
at_most_one p few [] = omega arith
at_most_one p few (o ∷ es) = omega (arith, at_most_one p few es, few o, sum_by-cons p o es)

lt_more : (a n : ℕ) → nat_eq a n ≡ false → nat_lt a (suc n) ≡ nat_lt a n
lt_more a n ne = by_bool (nat_lt a n)
    (λ yes. let k : nat_lt a (suc n) ≡ true = grind (arith, nat_tests) in k ∙ sym yes)
    (λ no. let k : nat_lt a (suc n) ≡ false = grind (arith, nat_tests) in k ∙ sym no)

lt_self : (a n : ℕ) → nat_eq a n ≡ true → nat_lt a (suc n) ≡ true
lt_self a n e = grind (arith, nat_tests)

not_lt_self : (a n : ℕ) → nat_eq a n ≡ true → nat_lt a n ≡ false
not_lt_self a n e = grind (arith, nat_tests)

zero_either : (b : Bool) → ◌≡◌ {A = ℕ} (cond b 0 0) 0
zero_either true = refl
zero_either false = refl

never : (a : Bool) → ◌≡◌ {A = ℕ} (cond (a && false) 1 0) 0
never true = refl
never false = refl

at_most : (b : Bool) → ◌≤◌ (cond b 1 0) 1
at_most true = omega arith
at_most false = omega arith

module _ (shares : List (Option Share)) (es : List (Option Held)) (counts : (v : ℕ) (share : Share) → share_at shares v ≡ Some share → share.count ≡ kept_count v es) where
  -- 1 for an entry of a segment below n that is there
  own : ℕ → Option Held → ℕ
  own n None = 0
  own n (Some e) = cond (nat_lt e.vid n && is_some (share_at shares e.vid)) 1 0

  -- 1 for an entry of segment n, if that is there
  of : ℕ → Option Held → ℕ
  of n o = cond (is_some (share_at shares n)) (weight (vid_key n) o) 0

  step : (n : ℕ) (o : Option Held) → own (suc n) o ≡ own n o + of n o
  unfolding own of
  step n None =
      let new : own (suc n) None ≡ 0 = refl in let old : own n None ≡ 0 = refl in let here : of n None ≡ 0 = zero_either (is_some (share_at shares n)) in
      omega (arith, new, old, here)
  step n (Some e) = by_bool (nat_eq e.vid n)
      (λ yes.
      let new : own (suc n) (Some e) ≡ cond (is_some (share_at shares e.vid)) 1 0 = ap (λ b. cond (b && is_some (share_at shares e.vid)) 1 0) (lt_self e.vid n yes) in
      let old : own n (Some e) ≡ 0 = ap (λ b. cond (b && is_some (share_at shares e.vid)) 1 0) (not_lt_self e.vid n yes) in
      let here : of n (Some e) ≡ cond (is_some (share_at shares e.vid)) 1 0 = ap (λ b. cond (is_some (share_at shares n)) (cond b 1 0) 0) yes ∙ ap (λ w. cond (is_some (share_at shares w)) 1 0) (sym (equal e.vid n yes)) in
      omega (arith, new, old, here))
      (λ no.
      let new : own (suc n) (Some e) ≡ own n (Some e) = ap (λ b. cond (b && is_some (share_at shares e.vid)) 1 0) (lt_more e.vid n no) in
      let here : of n (Some e) ≡ 0 = ap (λ b. cond (is_some (share_at shares n)) (cond b 1 0) 0) no ∙ zero_either (is_some (share_at shares n)) in
      omega (arith, new, here))

  of_is : (n : ℕ) → sum_by (of n) es ≡ share_count (share_at shares n)
  unfolding of
  of_is n = from (share_at shares n) refl
    where
      from : (o : Option Share) → share_at shares n ≡ o → sum_by (λ e. cond (is_some (share_at shares n)) (weight (vid_key n) e) 0) es ≡ share_count (share_at shares n)
      from None is = ap (λ o. sum_by (λ e. cond (is_some o) (weight (vid_key n) e) 0) es) is ∙ none_weighs (λ e. false) es (λ i. refl) ∙ sym (ap share_count is)
      from (Some share) is = ap (λ o. sum_by (λ e. cond (is_some o) (weight (vid_key n) e) 0) es) is ∙ sym (counts n share is) ∙ sym (ap share_count is)

  none_below : (es : List (Option Held)) → sum_by (own 0) es ≡ 0
  unfolding own
  none_below [] = refl
  none_below (None ∷ es) = omega (arith, none_below es, sum_by-cons (own 0) None es)
  none_below (Some e ∷ es) =
      let no : nat_lt e.vid 0 ≡ false = grind (arith, nat_tests) in
      let first : own 0 (Some e) ≡ 0 = ap (λ b. cond (b && is_some (share_at shares e.vid)) 1 0) no in
      omega (arith, none_below es, first, sum_by-cons (own 0) (Some e) es)

  counted_below : (n : ℕ) → n ≤ length shares → sum_by share_count (take n shares) ≡ sum_by (own n) es
  counted_below zero le = sym (none_below es)
  counted_below (suc n) le =
      let next : suc n ≡ n + 1 = omega arith in
      let more : take (suc n) shares ≡ take n shares ++ get_or shares n None ∷ [] = ap (λ k. take k shares) next ∙ take_more shares n None (omega (arith, le)) in
      omega (arith, counted_below n (omega (arith, le)), ap (sum_by share_count) more, sum_by_push share_count (take n shares) (get_or shares n None), additive (own (suc n)) (own n) (of n) (step n) es, of_is n)

  abbrev all : ℕ
  all = length shares

  one_way : (v : ℕ) → share_at shares v ≡ None → (o : Option Held) → vacancy o + (own all o + weight (vid_key v) o) ≤ 1
  unfolding own
  one_way v absent None = omega arith
  one_way v absent (Some e) = by_bool (nat_eq e.vid v)
      (λ yes.
      let gone : is_some (share_at shares e.vid) ≡ false = ap (λ w. is_some (share_at shares w)) (equal e.vid v yes) ∙ ap is_some absent in
      let none : own all (Some e) ≡ 0 = ap (λ b. cond (nat_lt e.vid all && b) 1 0) gone ∙ never (nat_lt e.vid all) in
      omega (arith, none, at_most (nat_eq e.vid v)))
      (λ no.
      let none : weight (vid_key v) (Some e) ≡ 0 = ap (λ (b : Bool). let r : ℕ = cond b 1 0 in r) no in
      omega (arith, none, at_most (nat_lt e.vid all && is_some (share_at shares e.vid))))

  pub unowned : (v : ℕ) → share_at shares v ≡ None → free_count es + sum_by share_count shares ≡ length es → kept_count v es ≡ 0
  unowned v absent full =
      omega (
        arith,
        full,
        counted_below all (omega arith),
        ap (sum_by share_count) (take_all all shares (omega arith)),
        additive (λ o. vacancy o + (own all o + weight (vid_key v) o)) vacancy (λ o. own all o + weight (vid_key v) o) (λ o. refl) es,
        additive (λ o. own all o + weight (vid_key v) o) (own all) (weight (vid_key v)) (λ o. refl) es,
        at_most_one (λ o. vacancy o + (own all o + weight (vid_key v) o)) (one_way v absent) es,
      )

-- no entry is kept of a segment that isn't there
pub absent_none : (es : List (Option Held)) (ls : List Links) (shares : List (Option Share)) (moment v : ℕ) → IsSound es ls shares moment → share_at shares v ≡ None → kept_count v es ≡ 0
absent_none es ls shares moment v h absent = unowned shares es (λ w share at. kept_is es ls w share moment (h.lined w share at)) v absent h.free

-- ---- a segment comes, goes, or gets another limit: the slots stay sound

module _ (es : List (Option Held)) (ls : List Links) (shares : List (Option Share)) (moment v : ℕ) (lt : v < length shares) (h : IsSound es ls shares moment) where
  -- the others keep their lines
  others : (o : Option Share) (w : ℕ) (was : Share) → nat_eq w v ≡ false → share_at (set shares v o) w ≡ Some was → IsLines es ls w was moment
  others o w was ne at_w = h.lined w was (sym (get_or-set_other shares v w o None (λ q. let yes : nat_eq w v ≡ true = subst (λ k. nat_eq w k ≡ true) q (nat_eq_refl w) in let bad : true ≡ false = sym yes ∙ ne in cc)) ∙ at_w)

  -- and this one has the lines of its share
  mine : (other : Share) → IsLines es ls v other moment → (w : ℕ) (was : Share) → nat_eq w v ≡ true → share_at (set shares v (Some other)) w ≡ Some was → IsLines es ls w was moment
  mine other lines w was is at_w =
      let p : Some other ≡ Some was = sym (get_or-set_same shares v (Some other) None lt) ∙ subst (λ k. share_at (set shares v (Some other)) k ≡ Some was) (equal w v is) at_w in
      let q : other ≡ was = cc in
      subst (λ n. IsLines es ls n was moment) (sym (equal w v is)) (subst (λ x. IsLines es ls v x moment) q lines)

  pub put_sound : (other : Share) → IsLines es ls v other moment → other.count ≡ share_count (share_at shares v) → sum_by share_limit shares + other.limit ≤ length es + share_limit (share_at shares v)
      → IsSound es ls (set shares v (Some other)) moment
  put_sound other lines same room = record {
    line_links = h.line_links;
    shares_length = length-set shares v (Some other) ∙ h.shares_length;
    lined = λ w was at_w. by_bool (nat_eq w v) (λ yes. mine other lines w was yes at_w) (λ ne. others (Some other) w was ne at_w);
    unique = h.unique;
    free = omega (arith, h.free, same, sum_by-set share_count shares v (Some other) None lt);
    room = omega (arith, room, sum_by-set share_limit shares v (Some other) None lt);
  }

  no_count : kept_count v es ≡ 0 → (o : Option Share) → share_at shares v ≡ o → share_count o ≡ 0
  no_count none None at = refl
  no_count none (Some share) at = kept_is es ls v share moment (h.lined v share at) ∙ none

  pub strike_sound : kept_count v es ≡ 0 → IsSound es ls (set shares v None) moment
  strike_sound none = record {
    line_links = h.line_links;
    shares_length = length-set shares v None ∙ h.shares_length;
    lined = λ w was at_w. by_bool (nat_eq w v)
        (λ yes. let bad : None ≡ Some was = sym (get_or-set_same shares v None None lt) ∙ subst (λ k. share_at (set shares v None) k ≡ Some was) (equal w v yes) at_w in cc)
        (λ ne. others None w was ne at_w);
    unique = h.unique;
    free = omega (arith, h.free, no_count none (share_at shares v) refl, sum_by-set share_count shares v None None lt);
    room = omega (arith, h.room, sum_by-set share_limit shares v None None lt);
  }

  -- a new segment has empty lines
  new_lines : (rule : TableRule) → 1 ≤ rule.ageing → kept_count v es ≡ 0 → IsLines es ls v (new_share rule) moment
  new_lines rule some_time none = record {
    list = λ g. [];
    thread = λ g. record {
      linked = tt;
      apart = tt;
      members = λ i. sym (off g i);
      size = sym (none_weighs (line_key v g) es (off g));
      begins = firsts g;
      ends = lasts g;
    };
    aged = omega arith;
    count = omega arith;
    limit = omega arith;
    some_time = omega (arith, some_time);
  }
    where
      off : (g : Bool) (i : ℕ) → line_key v g (entry_at es i) ≡ false
      off g i = none_lined v g (entry_at es i) (none_kept v es none i)

      firsts : (g : Bool) → (line_at (new_share rule) g).first ≡ None
      firsts true = refl
      firsts false = refl

      lasts : (g : Bool) → (line_at (new_share rule) g).last ≡ None
      lasts true = refl
      lasts false = refl

  pub begin_sound : (rule : TableRule) → 1 ≤ rule.ageing → share_at shares v ≡ None → sum_by share_limit shares + rule.limit ≤ length es → IsSound es ls (set shares v (Some (new_share rule))) moment
  begin_sound rule some_time absent room =
      put_sound (new_share rule) (new_lines rule some_time (absent_none es ls shares moment v h absent)) (sym (ap share_count absent)) (omega (arith, room))

  -- a segment with another limit keeps its lines
  limited_lines : (share : Share) (limit : ℕ) → share.count ≤ limit → IsLines es ls v share moment → IsLines es ls v (record share { limit = limit }) moment
  limited_lines share limit few k = record {
    list = k.list;
    thread = λ g. by g (k.thread g);
    aged = k.aged;
    count = k.count;
    limit = few;
    some_time = k.some_time;
  }
    where
      by : (g : Bool) → IsThread ls es (line_key v g) (line_at share g).first (line_at share g).last (k.list g) → IsThread ls es (line_key v g) (line_at (record share { limit = limit }) g).first (line_at (record share { limit = limit }) g).last (k.list g)
      by true t = t
      by false t = t

  pub limit_sound : (share : Share) (limit : ℕ) → share_at shares v ≡ Some share → kept_count v es ≤ limit → sum_by share_limit shares + limit ≤ length es + share.limit
      → IsSound es ls (set shares v (Some (record share { limit = limit }))) moment
  limit_sound share limit here few room =
      let lines = h.lined v share here in
      put_sound (record share { limit = limit }) (limited_lines share limit (omega (arith, few, kept_is es ls v share moment lines)) lines) (sym (ap share_count here)) (omega (arith, room, ap share_limit here))

-- ---- and the segments are as they should be

-- the segment of a rule, with these entries
abbrev with_entries : TableRule → Table → Option Segment
with_entries rule t = Some (record { limit = rule.limit; ageing = rule.ageing; entries = t })

module _ (es : List (Option Held)) (shares : List (Option Share)) (m k c n v : ℕ) (lt : v < length shares) where
  -- the segment of a VID whose share was written
  pub read_own : (o : Option Share) → segments_of (shared_by es (set shares v o) m k c n) v ≡ look es m v o
  read_own o = read es (set shares v o) m k c n v ∙ ap (look es m v) (get_or-set_same shares v o None lt)

  pub read_other : (o : Option Share) (w : ℕ) → w ≢ v → segments_of (shared_by es (set shares v o) m k c n) w ≡ segments_of (shared_by es shares m k c n) w
  read_other o w ne = read es (set shares v o) m k c n w ∙ ap (look es m w) (get_or-set_other shares v w o None ne) ∙ sym (read es shares m k c n w)

  apart : (a b : ℕ) → (a == b) ≡ false → a ≢ b
  apart a b q = λ same. false≢true (sym q ∙ eq-eqb a b same)

  pub begun_share : (rule : TableRule) → rule.vid ≡ v → kept_count v es ≡ 0 → segments_of (shared_by es (set shares v (Some (new_share rule))) m k c n) ≡ added rule (segments_of (shared_by es shares m k c n))
  begun_share rule is none = subst (λ (u : ℕ). segments_of (shared_by es (set shares v (Some (new_share rule))) m k c n) ≡ (λ w. cond (w == u) (Some (new_segment rule)) (segments_of (shared_by es shares m k c n) w))) (sym is) (fun_ext (λ w.
      elim (w == v) as (λ b. (w == v) ≡ b → segments_of (shared_by es (set shares v (Some (new_share rule))) m k c n) w ≡ cond b (Some (new_segment rule)) (segments_of (shared_by es shares m k c n) w)) [
        | true ↦ λ same. subst (λ x. segments_of (shared_by es (set shares v (Some (new_share rule))) m k c n) x ≡ Some (new_segment rule)) (sym (eqb-true w v same)) fresh
        | false ↦ λ other. read_other (Some (new_share rule)) w (apart w v other)
      ] refl))
    where
      fresh : segments_of (shared_by es (set shares v (Some (new_share rule))) m k c n) v ≡ Some (new_segment rule)
      fresh =
          read_own (Some (new_share rule))
          ∙ ap (λ (t : Table). option_map (aged m) (with_entries rule t)) (table_none v es none)
          ∙ ap (with_entries rule) (kept-empty (is_live (nanoseconds rule.ageing) m))

  pub ended_share : segments_of (shared_by es (set shares v None) m k c n) ≡ removed v (segments_of (shared_by es shares m k c n))
  ended_share = fun_ext (λ w.
      elim (w == v) as (λ b. (w == v) ≡ b → segments_of (shared_by es (set shares v None) m k c n) w ≡ cond b None (segments_of (shared_by es shares m k c n) w)) [
        | true ↦ λ same. subst (λ x. segments_of (shared_by es (set shares v None) m k c n) x ≡ None) (sym (eqb-true w v same)) (read_own None)
        | false ↦ λ other. read_other None w (apart w v other)
      ] refl)

  pub limited_share : (share : Share) (limit : ℕ) → share_at shares v ≡ Some share → segments_of (shared_by es (set shares v (Some (record share { limit = limit }))) m k c n) ≡ adjusted v (with_limit limit) (segments_of (shared_by es shares m k c n))
  limited_share share limit here = fun_ext (λ w.
      elim (w == v) as (λ b. (w == v) ≡ b → segments_of (shared_by es (set shares v (Some (record share { limit = limit }))) m k c n) w ≡ cond b (option_map (with_limit limit) (segments_of (shared_by es shares m k c n) w)) (segments_of (shared_by es shares m k c n) w)) [
        | true ↦ λ same. subst (λ x. segments_of (shared_by es (set shares v (Some (record share { limit = limit }))) m k c n) x ≡ option_map (with_limit limit) (segments_of (shared_by es shares m k c n) x)) (sym (eqb-true w v same))
            (read_own (Some (record share { limit = limit })) ∙ sym (ap (option_map (with_limit limit)) (read es shares m k c n v ∙ ap (look es m v) here)))
        | false ↦ λ other. read_other (Some (record share { limit = limit })) w (apart w v other)
      ] refl)

-- ---- all entries of a segment go

-- some of its entries have gone, and all learned ones
pub record Emptying (old now : Shared) (v : ℕ) : Type 0 where
  pub some : Drops old now (vid_key v)
  pub fixed_left : NoneAges now.entries v

line_vid : (v : ℕ) (g : Bool) (o : Option Held) → line_key v g o ≡ true → vid_key v o ≡ true
line_vid v g None h = let bad : false ≡ true = h in cc
line_vid v g (Some e) h = and_first (nat_eq e.vid v) _ h

-- a fixed entry is of its segment
pub of_fixed : (es : List (Option Held)) (v s : ℕ) → IsFixedOf es v s → IsOf (entry_at es s) v
of_fixed es v s h = at (entry_at es s) (line_vid v true (entry_at es s) h)
  where
    at : (o : Option Held) → vid_key v o ≡ true → IsOf o v
    at None k = let bad : false ≡ true = k in cc
    at (Some e) k = equal e.vid v k

pub fixed_held : (es : List (Option Held)) (v s : ℕ) → IsFixedOf es v s → IsHeld es s
fixed_held es v s h = record { in_pool = in_entries (line_key v true) refl es s h; held = at (entry_at es s) h }
  where
    at : (o : Option Held) → line_key v true o ≡ true → IsSome o
    at None k = let bad : false ≡ true = k in cc
    at (Some e) k = refl

pub empty_starts : (old mid : Shared) (v : ℕ) → Flushes old mid v → Emptying old mid v
empty_starts old mid v h = record {
  some = record { same = h.some.same; size = h.some.size; each = λ i. wider (entry_at old.entries i) (entry_at mid.entries i) (h.some.each i) };
  fixed_left = h.all;
}
  where
    wider : (o n : Option Held) → KeepsOrDrops (line_key v false) o n → KeepsOrDrops (vid_key v) o n
    wider o n (inl e) = inl e
    wider o n (inr k) = inr (k.0, line_vid v false o k.1)

pub empty_on : (old now : Shared) (v s : ℕ) → Emptying old now v → IsFixedOf now.entries v s → (new : Shared) → new ≡ record now { entries = set now.entries s None } → Emptying old new v
empty_on old now v s h fixed new e = record {
  some = drop_on old now (vid_key v) s h.some refl (line_vid v true (entry_at now.entries s) fixed) new e;
  fixed_left = λ i. ap (λ (w : Shared). line_key v false (entry_at w.entries i)) e ∙ by_bool (nat_eq i s)
      (λ yes. subst (λ n. line_key v false (entry_at (set now.entries s None) n) ≡ false) (sym (equal i s yes)) (ap (line_key v false) (get_or-set_same now.entries s None None (in_entries (line_key v true) refl now.entries s fixed))))
      (λ ne. ap (line_key v false) (get_or-set_other now.entries s i None None (λ q. let yes : nat_eq i s ≡ true = subst (λ n. nat_eq i n ≡ true) q (nat_eq_refl i) in let bad : true ≡ false = sym yes ∙ ne in cc)) ∙ h.fixed_left i);
}

pub empty_ends : (old now : Shared) (v : ℕ) → Emptying old now v → NoneFixed now.entries v → Empties old now v
empty_ends old now v h none = record { some = h.some; all = λ i. both (entry_at now.entries i) (none i) (h.fixed_left i) }
  where
    both : (o : Option Held) → line_key v true o ≡ false → line_key v false o ≡ false → vid_key v o ≡ false
    both None a b = refl
    both (Some e) a b = from (nat_eq e.vid v) (is_none e.last) a b
      where
        from : (x y : Bool) → x && same_bool true y ≡ false → x && same_bool false y ≡ false → x ≡ false
        from true true a b = a
        from true false a b = b
        from false y a b = refl

-- then none is kept
pub emptied_none : (old new : Shared) (v : ℕ) → Empties old new v → kept_count v new.entries ≡ 0
emptied_none old new v h = none_weighs (vid_key v) new.entries h.all

-- a segment without its entries
abbrev pub cleared : Segment → Segment
cleared s = record s { entries = empty }

kept_nothing : (m : Table) → kept (λ e. false) m ≡ empty
kept_nothing m = same_table _ _ (λ mac. get-kept (λ e. false) m mac ∙ nothing (get m mac) ∙ sym (get-none mac))
  where
    nothing : (o : Option Entry) → sifted (λ e. false) o ≡ None
    nothing None = refl
    nothing (Some e) = refl

pub empty_segments : (old new : Shared) (v : ℕ) → IsUnique old.entries → Empties old new v → segments_of new ≡ adjusted v cleared (segments_of old)
empty_segments old new v unique h =
    drop_segments old new v (vid_key v) (λ e. false) unique (λ e of. subst (λ n. nat_eq e.vid n ≡ true) of (nat_eq_refl e.vid)) (λ w e ne of. by_bool (nat_eq e.vid v) (λ yes. absurd (ne (sym of ∙ equal e.vid v yes))) (λ off. off)) h
    ∙ ap (λ (f : Segment → Segment). adjusted v f (segments_of old)) (fun_ext (λ s. ap (λ (t : Table). let left : Segment = record { limit = s.limit; ageing = s.ageing; entries = t } in left) (kept_nothing s.entries)))

-- a segment that goes may be changed first
pub removed-adjusted : (v : ℕ) (change : Segment → Segment) (segments : Segments) → removed v (adjusted v change segments) ≡ removed v segments
removed-adjusted v change segments = fun_ext (λ w. by (w == v) (segments w))
  where
    by : (b : Bool) (o : Option Segment) → cond b None (cond b (option_map change o) o) ≡ cond b None o
    by true o = refl
    by false o = refl

-- two changes, one behind the other
pub adjusted-adjusted : (v : ℕ) (later change : Segment → Segment) (segments : Segments) → adjusted v later (adjusted v change segments) ≡ adjusted v (λ s. later (change s)) segments
adjusted-adjusted v later change segments = fun_ext (λ w. by (w == v) (segments w))
  where
    by : (b : Bool) (o : Option Segment) → cond b (option_map later (cond b (option_map change o) o)) (cond b (option_map change o) o) ≡ cond b (option_map (λ s. later (change s)) o) o
    by true None = refl
    by true (Some s) = refl
    by false o = refl

-- ---- the calls

-- the limits stand with the rules
pub rules_limits : (a b : Shared) → a.rules ≡ b.rules → sum_of_limits (segments_of a) ≡ sum_of_limits (segments_of b)
rules_limits a b e =
    ap (λ rules. sum_of_limits (λ w. option_map (aged a.moment) (option_map (kept_segment w a.entries) (rule_at rules w)))) e
    ∙ sum_of_limits-same (λ w. option_map (aged a.moment) (option_map (kept_segment w a.entries) (rule_at b.rules w))) (segments_of b) (λ w. at w (rule_at b.rules w))
  where
    at : (w : ℕ) (o : Option Rule) → limit_in (option_map (aged a.moment) (option_map (kept_segment w a.entries) o)) ≡ limit_in (option_map (aged b.moment) (option_map (kept_segment w b.entries) o))
    at w None = refl
    at w (Some rule) = refl

pub rules_limit : (a b : Shared) (v : ℕ) → a.rules ≡ b.rules → (segment_at v (segments_of a)).limit ≡ (segment_at v (segments_of b)).limit
rules_limit a b v e = ap (λ rules. (unwrap_or (option_map (aged a.moment) (option_map (kept_segment v a.entries) (rule_at rules v))) no_segment).limit) e ∙ at (rule_at b.rules v)
  where
    at : (o : Option Rule) → (unwrap_or (option_map (aged a.moment) (option_map (kept_segment v a.entries) o)) no_segment).limit ≡ (unwrap_or (option_map (aged b.moment) (option_map (kept_segment v b.entries) o)) no_segment).limit
    at None = refl
    at (Some rule) = refl

-- entries that go are fewer, whatever is counted
fewer : (key : Option Held → Bool) → key None ≡ false → (test : Option Held → Bool) (es es' : List (Option Held)) → length es' ≡ length es → ((i : ℕ) → KeepsOrDrops test (entry_at es i) (entry_at es' i)) → sum_by (weight key) es' ≤ sum_by (weight key) es
fewer key none test [] [] n k = omega arith
fewer key none test [] (o' ∷ es') n k = absurd (omega (arith, n))
fewer key none test (o ∷ es) [] n k = absurd (omega (arith, n))
fewer key none test (o ∷ es) (o' ∷ es') n k =
    let rest = fewer key none test es es' (omega (arith, n)) (λ i. k (suc i)) in
    let first = one (k 0) in
    omega (arith, rest, first, sum_by-cons (weight key) o es, sum_by-cons (weight key) o' es')
  where
    one : KeepsOrDrops test o o' → weight key o' ≤ weight key o
    one (inl e) = omega (arith, ap (weight key) e)
    one (inr h) = let went : weight key o' ≡ 0 = ap (weight key) h.0 ∙ ap (λ (b : Bool). let r : ℕ = cond b 1 0 in r) none in omega (arith, went)

pub dead_fewer : (rules : List (Option Rule)) (now : ℕ) (old new : Shared) (test : Option Held → Bool) → Drops old new test → dead_count rules now new.entries ≤ dead_count rules now old.entries
dead_fewer rules now old new test h = fewer (is_dead rules now) refl test old.entries new.entries h.size h.each

pub held_fewer : (old new : Shared) (test : Option Held → Bool) → Drops old new test → held_count new.entries ≤ held_count old.entries
held_fewer old new test h = fewer is_held refl test old.entries new.entries h.size h.each

-- ---- another limit

-- the entries of a segment have gone if there were more than the limit, and nothing changed otherwise
pub record Fits_in (old new : Shared) (v limit : ℕ) : Type 0 where
  pub within : kept_count v old.entries ≤ limit → new ≡ old
  pub above : limit < kept_count v old.entries → Empties old new v

module _ (old new : Shared) (v limit : ℕ) (h : Fits_in old new v limit) where
  pub fit_cases : (P : Shared → Type 0) → (kept_count v old.entries ≤ limit → P old) → (limit < kept_count v old.entries → Empties old new v → P new) → P new
  fit_cases P stays goes = from (cases_lt limit (kept_count v old.entries))
    where
      from : (limit < kept_count v old.entries) ⊎ (kept_count v old.entries ≤ limit) → P new
      from (inl over) = goes over (h.above over)
      from (inr few) = subst P (sym (h.within few)) (stays few)

  pub fit_few : kept_count v new.entries ≤ limit
  fit_few = fit_cases (λ w. kept_count v w.entries ≤ limit) (λ few. few) (λ over e. omega (arith, emptied_none old new v e))

  pub fit_rules : new.rules ≡ old.rules
  fit_rules = fit_cases (λ w. w.rules ≡ old.rules) (λ few. refl) (λ over e. ap (λ (w : Shared). w.rules) e.some.same)

  pub fit_visited : new.visited ≡ old.visited
  fit_visited = fit_cases (λ w. w.visited ≡ old.visited) (λ few. refl) (λ over e. ap (λ (w : Shared). w.visited) e.some.same)

  pub fit_size : length new.entries ≡ length old.entries
  fit_size = fit_cases (λ w. length w.entries ≡ length old.entries) (λ few. refl) (λ over e. e.some.size)

  pub fit_dead : (rules : List (Option Rule)) (now : ℕ) → dead_count rules now new.entries ≤ dead_count rules now old.entries
  fit_dead rules now = fit_cases (λ w. dead_count rules now w.entries ≤ dead_count rules now old.entries) (λ few. omega arith) (λ over e. dead_fewer rules now old new (vid_key v) e.some)

  abbrev mine_now : Segment
  mine_now = segment_at v (segments_of old)

  abbrev limited_to : Table → Segment
  limited_to t = record { limit = limit; ageing = mine_now.ageing; entries = t }

  -- the segment with the other limit, where its table has as many as are kept
  pub fit_segments : IsUnique old.entries → len (segment_at v (segments_of old)).entries ≡ kept_count v old.entries → adjusted v (with_limit limit) (segments_of new) ≡ adjusted v (set_limit_in limit) (segments_of old)
  fit_segments unique kept_is_len = fit_cases (λ w. adjusted v (with_limit limit) (segments_of w) ≡ adjusted v (set_limit_in limit) (segments_of old))
      (λ few. alike v (with_limit limit) (set_limit_in limit) (segments_of old)
      (sym (ap (λ b. limited_to (cond b empty mine_now.entries)) (le-ltb limit (len mine_now.entries) (omega (arith, few, kept_is_len))))))
      (λ over e.
      ap (adjusted v (with_limit limit)) (empty_segments old new v unique e) ∙ adjusted-adjusted v (with_limit limit) cleared (segments_of old)
      ∙ alike v (λ s. with_limit limit (cleared s)) (set_limit_in limit) (segments_of old) (sym (ap (λ b. limited_to (cond b empty mine_now.entries)) (lt-ltb limit (len mine_now.entries) (omega (arith, over, kept_is_len))))))
