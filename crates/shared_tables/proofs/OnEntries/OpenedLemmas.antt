-- New tables.
use Rattle.std.proofs.Common.{zero, suc, inl, inr, ◌⊎◌, ◌≡◌, ℕ, ◌+◌, ◌*◌, ◌<◌, ◌≤◌, Bool, true, false, cond, List, [], ◌∷◌, length, map, get_or, set, take, replicate, Option, Some, None, nat_eq, refl, sym, ap, ◌∙◌, subst, arith}
use Rattle.std.proofs.lemmas.Bool.{cases_lt}
use Rattle.std.proofs.lemmas.List.{get_or-set_same, get_or-set_other, get_or-replicate, get_or_past, length-replicate, length-set, length-map, map-set, take_more}
use Rattle.std.proofs.lemmas.List.Sums.{sum_by-set, sum_by-cons, sum_by_push}
use Rattle.std.proofs.lemmas.List.Folds.{sum_by-replicate}
use Rattle.std.proofs.Math.ListN.{get_or-map}
use Rattle.std.proofs.Math.Path.{fun_ext}
use Rattle.std.specs.List.{sum_by}
use Rattle.std.specs.Option.{option_map}
use Rattle.std.specs.FinMap.{from_entries}
use Rattle.filter_db.specs.declared.tables.TableRule.{TableRule}
use Rattle.filter_db.specs.Segment.{Segment, AreForDistinctVids, new_segments, aged}
use Rattle.filter_db.specs.Database.{slot}
use Rattle.filter_db.proofs.DatabaseLemmas.{slot-new, aged-new}
use Rattle.shared_tables.specs.Pool.{Held}
use Rattle.shared_tables.specs.declared.links.Links.{Links}
use Rattle.shared_tables.specs.declared.share.Share.{Share}
use Rattle.shared_tables.specs.Pool.{alone, vacancy}
use Rattle.shared_tables.specs.Line.{weight, IsThread}
use Rattle.shared_tables.specs.Shared.{line_key, is_held, held_count}
use Rattle.shared_tables.specs.SlotsOfSegments.{IsSound, IsLines, share_at, share_count, share_limit, rule_of, line_at}
use Rattle.shared_tables.specs.Opened.{IsNew, AreOpened, new_share, segment_of_new}
use Rattle.shared_tables.specs.Segments.{rows_of, kept_segment, segments_of}
use Rattle.shared_tables.proofs.OnEntries.Linked.{by_bool, equal, nat_eq_refl}

-- a place of an empty list of places
none_at : {A : Type 0} (n i : ℕ) → get_or {A = Option A} (replicate n None) i None ≡ None
none_at {A = A} n i = from (cases_lt i n)
  where
    from : (i < n) ⊎ (n ≤ i) → get_or {A = Option A} (replicate n None) i None ≡ None
    from (inl k) = get_or-replicate n i None None k
    from (inr k) = get_or_past (replicate n None) i None (omega (arith, k, length-replicate {A = Option A} n None))

-- a thread through nothing
no_thread : (n : ℕ) (links : List Links) (key : Option Held → Bool) → key None ≡ false → (first last : Option ℕ) → first ≡ None → last ≡ None → IsThread links (replicate n None) key first last []
no_thread n links key none first last f l = record {
  linked = tt;
  apart = tt;
  members = λ i. sym none ∙ ap key (sym (none_at n i));
  size = let zero_each : weight key None ≡ 0 = ap (λ (c : Bool). let r : ℕ = cond c 1 0 in r) none in sym (sum_by-replicate (weight key) n None ∙ ap (λ (k : ℕ). n * k) zero_each ∙ omega arith);
  begins = f;
  ends = l;
}

-- no share counts an entry
none_counted : (shares : List (Option Share)) → ((vid : ℕ) (share : Share) → share_at shares vid ≡ Some share → IsNew share) → sum_by share_count shares ≡ 0
none_counted [] k = refl
none_counted (o ∷ shares) k = omega (arith, sum_by-cons share_count o shares, none_counted shares (λ vid. k (suc vid)), one o (k 0))
  where
    one : (o : Option Share) → ((share : Share) → o ≡ Some share → IsNew share) → share_count o ≡ 0
    one None f = refl
    one (Some share) f = (f share refl).count

pub open_sound : (n : ℕ) (rules : List TableRule) (shares : List (Option Share)) → AreOpened rules shares → sum_by (λ (rule : TableRule). rule.limit) rules ≤ n → IsSound (replicate n None) (replicate n alone) shares 0
open_sound n rules shares o room = record {
  line_links = length-replicate n alone ∙ sym (length-replicate {A = Option Held} n None);
  shares_length = o.size;
  lined = lined;
  unique = λ i j e f at_i. let bad : None ≡ Some e = sym (none_at n i) ∙ at_i in cc;
  free = omega (arith, sum_by-replicate vacancy n None, none_counted shares o.new, length-replicate {A = Option Held} n None);
  room = omega (arith, o.limits, room, length-replicate {A = Option Held} n None);
}
  where
    firsts : (share : Share) → IsNew share → (g : Bool) → (line_at share g).first ≡ None
    firsts share k true = k.fixed_first
    firsts share k false = k.queue_first

    lasts : (share : Share) → IsNew share → (g : Bool) → (line_at share g).last ≡ None
    lasts share k true = k.fixed_last
    lasts share k false = k.queue_last

    lined : (vid : ℕ) (share : Share) → share_at shares vid ≡ Some share → IsLines (replicate n None) (replicate n alone) vid share 0
    lined vid share at_vid =
        let k = o.new vid share at_vid in
        record {
          list = λ g. [];
          thread = λ g. no_thread n (replicate n alone) (line_key vid g) refl (line_at share g).first (line_at share g).last (firsts share k g) (lasts share k g);
          aged = omega arith;
          count = omega (arith, k.count);
          limit = omega (arith, k.count);
          some_time = k.some_time;
        }

-- what no slot holds
no_rows : (vid n : ℕ) → rows_of vid (replicate n None) ≡ []
no_rows vid zero = refl
no_rows vid (suc n) = no_rows vid n

slot_at : (segments : List (Option Segment)) (i : ℕ) → slot segments i ≡ get_or segments i None
slot_at [] i = refl
slot_at (x ∷ xs) zero = refl
slot_at (x ∷ xs) (suc i) = slot_at xs i

-- the segments of new tables
pub segments_of_opened : (n : ℕ) (rules : List TableRule) (shares : List (Option Share)) (calls compared visited : ℕ) → AreOpened rules shares
    → segments_of (record { entries = replicate n None; rules = map (option_map rule_of) shares; moment = 0; calls = calls; compared = compared; visited = visited }) ≡ new_segments rules
segments_of_opened n rules shares calls compared visited o = fun_ext (λ vid.
    ap (λ q. option_map (aged 0) (option_map (kept_segment vid (replicate n None)) q)) (get_or-map (option_map rule_of) shares vid None)
    ∙ ap (option_map (aged 0)) (same vid (share_at shares vid) ∙ sym (get_or-map (option_map segment_of_new) shares vid None) ∙ sym (slot_at (map (option_map segment_of_new) shares) vid) ∙ o.segments vid)
    ∙ aged-new 0 rules vid)
  where
    same : (vid : ℕ) (q : Option Share) → option_map (kept_segment vid (replicate n None)) (option_map rule_of q) ≡ option_map segment_of_new q
    same vid None = refl
    same vid (Some share) = ap (λ rs. let s : Segment = record { limit = share.limit; ageing = share.ageing; entries = from_entries rs } in Some s) (no_rows vid n)

-- ---- one rule more

pub opened_none : AreOpened [] (replicate 4096 None)
opened_none = record {
  size = length-replicate {A = Option Share} 4096 None;
  segments = λ vid. slot_at (map (option_map segment_of_new) (replicate 4096 None)) vid ∙ get_or-map (option_map segment_of_new) (replicate 4096 None) vid None ∙ ap (option_map segment_of_new) (none_at 4096 vid);
  new = λ vid share at_vid. let bad : None ≡ Some share = sym (none_at 4096 vid) ∙ at_vid in cc;
  limits = omega (arith, sum_by-replicate share_limit 4096 None);
}

pub opened_more : (rules : List TableRule) (i : ℕ) (rule : TableRule) (shares after : List (Option Share)) → AreForDistinctVids rules → i < length rules → rule ≡ get_or rules i rule → rule.vid < 4096 → 0 < rule.ageing
    → after ≡ set shares rule.vid (Some (new_share rule)) → AreOpened (take i rules) shares → AreOpened (take (i + 1) rules) after
opened_more rules i rule shares after distinct below is in_range some_time e o =
    let lt : rule.vid < length shares = omega (arith, in_range, o.size) in
    subst (AreOpened (take (i + 1) rules)) (sym e) (record {
      size = length-set shares rule.vid (Some (new_share rule)) ∙ o.size;
      segments = λ w.
          ap (λ xs. slot xs w) (map-set (option_map segment_of_new) shares rule.vid (Some (new_share rule)))
          ∙ slot-new rules i rule (map (option_map segment_of_new) shares) rule.vid w distinct below is refl (omega (arith, lt, length-map shares (option_map segment_of_new))) (o.segments w);
      new = λ w share at_w. by_bool (nat_eq w rule.vid)
          (λ yes. let p : Some (new_share rule) ≡ Some share = sym (get_or-set_same shares rule.vid (Some (new_share rule)) None lt) ∙ subst (λ k. share_at (set shares rule.vid (Some (new_share rule))) k ≡ Some share) (equal w rule.vid yes) at_w in
          let q : new_share rule ≡ share = cc in subst IsNew q (record { count = refl; queue_first = refl; queue_last = refl; fixed_first = refl; fixed_last = refl; some_time = some_time }))
          (λ ne. o.new w share (sym (get_or-set_other shares rule.vid w (Some (new_share rule)) None (λ q. let yes : nat_eq w rule.vid ≡ true = subst (λ k. nat_eq w k ≡ true) q (nat_eq_refl w) in let bad : true ≡ false = sym yes ∙ ne in cc)) ∙ at_w));
      limits = omega (arith, o.limits, sum_by-set share_limit shares rule.vid (Some (new_share rule)) None lt, ap (sum_by limit) (take_more rules i rule below), sum_by_push limit (take i rules) (get_or rules i rule), ap limit is);
    })
  where
    limit : TableRule → ℕ
    limit r = r.limit

-- ---- another ageing

pub seconds_sound : (es : List (Option Held)) (ls : List Links) (shares : List (Option Share)) (moment v seconds : ℕ) (share : Share) → share_at shares v ≡ Some share → 0 < seconds
    → IsSound es ls shares moment → IsSound es ls (set shares v (Some (record share { ageing = seconds }))) moment
seconds_sound es ls shares moment v seconds share here some_time h =
    let other : Share = record share { ageing = seconds } in
    let lt : v < length shares = from (cases_lt v (length shares)) in
    record {
      line_links = h.line_links;
      shares_length = length-set shares v (Some other) ∙ h.shares_length;
      lined = λ w was at_w. by_bool (nat_eq w v)
          (λ yes. let p : Some other ≡ Some was = sym (get_or-set_same shares v (Some other) None lt) ∙ subst (λ k. share_at (set shares v (Some other)) k ≡ Some was) (equal w v yes) at_w in
          let q : other ≡ was = cc in subst (λ k. IsLines es ls k was moment) (sym (equal w v yes)) (subst (λ x. IsLines es ls v x moment) q (mine (h.lined v share here))))
          (λ ne. h.lined w was (sym (get_or-set_other shares v w (Some other) None (λ q. let yes : nat_eq w v ≡ true = subst (λ k. nat_eq w k ≡ true) q (nat_eq_refl w) in let bad : true ≡ false = sym yes ∙ ne in cc)) ∙ at_w));
      unique = h.unique;
      free = omega (arith, h.free, sum_by-set share_count shares v (Some other) None lt, ap share_count here);
      room = omega (arith, h.room, sum_by-set share_limit shares v (Some other) None lt, ap share_limit here);
    }
  where
    from : (v < length shares) ⊎ (length shares ≤ v) → v < length shares
    from (inl k) = k
    from (inr k) = let bad : None ≡ Some share = sym (get_or_past shares v None k) ∙ here in cc

    mine : IsLines es ls v share moment → IsLines es ls v (record share { ageing = seconds }) moment
    mine k = record {
      list = k.list;
      thread = λ g. by g (k.thread g);
      aged = k.aged;
      count = k.count;
      limit = k.limit;
      some_time = some_time;
    }
      where
        by : (g : Bool) → IsThread ls es (line_key v g) (line_at share g).first (line_at share g).last (k.list g) → IsThread ls es (line_key v g) (line_at (record share { ageing = seconds }) g).first (line_at (record share { ageing = seconds }) g).last (k.list g)
        by true t = t
        by false t = t

-- ---- no work yet

pub none_held : (n : ℕ) → held_count (replicate n None) ≡ 0
none_held n = sum_by-replicate (weight is_held) n None ∙ omega arith
