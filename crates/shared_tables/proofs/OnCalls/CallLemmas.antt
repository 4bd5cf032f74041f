-- What each call answers, and what it makes of the segments.
use Rattle.std.proofs.Common.{inl, inr, ◌⊎◌, ◌≡◌, ℕ, ◌+◌, ◌-◌, ◌<◌, ◌≤◌, Bool, true, false, cond, not, ◌&&◌, ◌==◌, List, set, Option, Some, None, IsSome, is_none, nat_eq, nat_le, refl, sym, ap, ◌∙◌, subst, arith}
use Rattle.std.proofs.Math.Path.{fun_ext}
use Rattle.std.proofs.lemmas.Bool.{lt-ltb, le-ltb, eqb-true}
use Rattle.std.proofs.lemmas.Bool.Decides.{nat_tests}
use Rattle.std.specs.Option.{option_map, unwrap_or}
use Rattle.std.specs.FinMap.{get, insert, remove, len}
use Rattle.filter_db.specs.declared.entry.Entry.{Entry}
use Rattle.filter_db.specs.declared.place.Place.{Place}
use Rattle.filter_db.specs.declared.tables.Learned.{Learned}
use Rattle.filter_db.specs.declared.tables.Learned.TheVariants as learned
use Rattle.filter_db.specs.Place.{same_place}
use Rattle.filter_db.specs.Table.{Table, is_live, is_young, is_fixed, nanoseconds, stands, passes, learned_as, learned_over, is_learned, is_full, has_fixed}
use Rattle.filter_db.specs.Segment.{Segment, Segments, aged_all, segment_at, adjusted, no_segment, learn_in, fix_in, unfix_in}
use Rattle.filter_db.specs.Ageing.{sifted}
use Rattle.shared_tables.specs.Pool.{Held}
use Rattle.shared_tables.specs.Pool.{entry_at, IfHeld, is_dead_in, is_fixed_in}
use Rattle.shared_tables.specs.LinkSteps.{IsHeld}
use Rattle.shared_tables.specs.Shared.{Shared, Rule, rule_at, span_of, bucket_count, vid_key, kept_count, Lacks, IsOrderly, IsAtLimit, HasRoom, Sweeps, Admits, Relearns, Refreshes, Enters, answer_of, live_place}
use Rattle.shared_tables.specs.Bucket.{bucket_of}
use Rattle.shared_tables.specs.Work.{ComparesFew, ComparesByBits}
use Rattle.shared_tables.specs.Segments.{entry_of, segments_of}
use Rattle.shared_tables.proofs.OnEntries.Linked.{nat_eq_refl}
use Rattle.shared_tables.proofs.OnCalls.SegmentsLemmas.{begun, own_segment, HasRule, has_rule, ruled, adjusted_same, own_table, get_found, get_lacks, dead_room, sweep_segments, swept_len, swept_lacks, swept_rules, swept_moment, enter_segments, refresh_segments, release_segments, put, taken_out}

-- a call has begun: what it finds
pub record Begins (old f : Shared) (now : ℕ) : Type 0 where
  pub entries : f.entries ≡ old.entries
  pub rules : f.rules ≡ old.rules
  pub moment : f.moment ≡ now
  pub calls : f.calls ≡ old.calls + 1
  pub visited : f.visited ≡ old.visited
  pub orderly : IsOrderly f

pub begins : (old b f : Shared) (now compared : ℕ) → b ≡ record old { calls = old.calls + 1; moment = now } → IsOrderly b → f ≡ record b { compared = compared } → Begins old f now
begins old b f now compared e orderly k =
    subst (λ (w : Shared). Begins old w now) (sym k) (record {
      entries = ap (λ (w : Shared). w.entries) e;
      rules = ap (λ (w : Shared). w.rules) e;
      moment = ap (λ (w : Shared). w.moment) e;
      calls = ap (λ (w : Shared). w.calls) e;
      visited = ap (λ (w : Shared). w.visited) e;
      orderly = record { unique = orderly.unique; some_time = orderly.some_time; few = orderly.few };
    })

-- the same where no address is looked for
pub begins_plain : (old b : Shared) (now : ℕ) → b ≡ record old { calls = old.calls + 1; moment = now } → IsOrderly b → Begins old b now
begins_plain old b now e orderly = begins old b b now b.compared e orderly refl

-- a look at a moment leaves the tables at theirs
pub looks : (old b f : Shared) (now compared : ℕ) → b ≡ record old { calls = old.calls + 1 } → IsOrderly b → f ≡ record b { compared = compared } → Begins old (record f { moment = now }) now
looks old b f now compared e orderly k =
    begins old (record b { moment = now }) (record f { moment = now }) now compared (ap (λ (w : Shared). record w { moment = now }) e)
    (record { unique = orderly.unique; some_time = orderly.some_time; few = orderly.few }) (ap (λ (w : Shared). record w { moment = now }) k)

-- a call has looked for an address, and compared few
pub record Searches (old f : Shared) (now v : ℕ) (mac : List ℕ) : Type 0 where
  pub begun : Begins old f now
  pub compared : ComparesFew old f v mac
  pub bits : ComparesByBits old f
  pub counted : old.compared ≤ f.compared

searches : (old b f : Shared) (now v : ℕ) (mac : List ℕ) (compared : ℕ) → b ≡ record old { calls = old.calls + 1; moment = now } → IsOrderly b → f ≡ record b { compared = compared }
    → b.compared ≤ f.compared → f.compared ≤ b.compared + bucket_count (bucket_of v mac) b.entries → ComparesByBits b f → Searches old f now v mac
searches old b f now v mac compared e orderly k more few bits = record {
  begun = begins old b f now compared e orderly k;
  compared = subst (λ (w : Shared). f.compared ≤ w.compared + bucket_count (bucket_of v mac) w.entries) e few;
  bits = subst (λ (w : Shared). ComparesByBits w f) e bits;
  counted = subst (λ (w : Shared). w.compared ≤ f.compared) e more;
}

-- it found the address in a slot
pub record Finds (old f : Shared) (now v : ℕ) (mac : List ℕ) (slot : ℕ) : Type 0 where
  pub search : Searches old f now v mac
  pub held : IfHeld (entry_at f.entries slot) v mac
  pub in_pool : IsHeld f.entries slot

pub finds : (old b f : Shared) (now v : ℕ) (mac : List ℕ) (slot compared : ℕ) → b ≡ record old { calls = old.calls + 1; moment = now } → IsOrderly b → f ≡ record b { compared = compared }
    → b.compared ≤ f.compared → f.compared ≤ b.compared + bucket_count (bucket_of v mac) b.entries → ComparesByBits b f → IfHeld (entry_at b.entries slot) v mac → IsHeld b.entries slot → Finds old f now v mac slot
finds old b f now v mac slot compared e orderly k more few bits held in_pool = record {
  search = searches old b f now v mac compared e orderly k more few bits;
  held = subst (λ (w : Shared). IfHeld (entry_at w.entries slot) v mac) (sym k) held;
  in_pool = subst (λ (w : Shared). IsHeld w.entries slot) (sym k) in_pool;
}

-- it found it in no slot
pub record Misses (old f : Shared) (now v : ℕ) (mac : List ℕ) : Type 0 where
  pub search : Searches old f now v mac
  pub lacks : Lacks f.entries v mac

pub misses : (old b f : Shared) (now v : ℕ) (mac : List ℕ) (compared : ℕ) → b ≡ record old { calls = old.calls + 1; moment = now } → IsOrderly b → f ≡ record b { compared = compared }
    → b.compared ≤ f.compared → f.compared ≤ b.compared + bucket_count (bucket_of v mac) b.entries → ComparesByBits b f → Lacks b.entries v mac → Misses old f now v mac
misses old b f now v mac compared e orderly k more few bits lacks = record { search = searches old b f now v mac compared e orderly k more few bits; lacks = subst (λ (w : Shared). Lacks w.entries v mac) (sym k) lacks }

-- two changes that do the same to the segment
pub alike : (v : ℕ) (change other : Segment → Segment) (segments : Segments) → change (segment_at v segments) ≡ other (segment_at v segments) → adjusted v change segments ≡ adjusted v other segments
alike v change other segments e = fun_ext (λ w.
    elim (w == v) as (λ b. (w == v) ≡ b → cond b (option_map change (segments w)) (segments w) ≡ cond b (option_map other (segments w)) (segments w)) [
      | true ↦ λ same. from (segments w) (subst (λ x. change (unwrap_or (segments x) no_segment) ≡ other (unwrap_or (segments x) no_segment)) (sym (eqb-true w v same)) e)
      | false ↦ λ different. refl
    ] refl)
  where
    from : (o : Option Segment) → change (unwrap_or o no_segment) ≡ other (unwrap_or o no_segment) → option_map change o ≡ option_map other o
    from None k = refl
    from (Some s) k = ap Some k

pub unchanged : (v : ℕ) (change : Segment → Segment) (segments : Segments) → change (segment_at v segments) ≡ segment_at v segments → segments ≡ adjusted v change segments
unchanged v change segments e = sym (alike v change (λ s. s) segments e ∙ adjusted_same v segments)

-- ---- one call

module _ (old f : Shared) (now v : ℕ) (k : Begins old f now) (le : old.moment ≤ now) (has : IsSome (segments_of old v)) where
  pub found_segments : segments_of f ≡ aged_all now (segments_of old)
  found_segments = begun old f now le k.entries k.rules k.moment

  pub rule_there : HasRule f.rules v
  rule_there = has_rule f.rules v (subst (λ rs. IsSome (rule_at rs v)) (sym k.rules) (ruled old v has))

  abbrev pub rule : Rule
  rule = rule_there.rule

  abbrev pub table : Table
  table = own_table f v rule

  abbrev pub own : Segment
  own = record { limit = rule.limit; ageing = rule.ageing; entries = table }

  pub own_is : segment_at v (aged_all now (segments_of old)) ≡ own
  own_is = ap (segment_at v) (sym found_segments) ∙ own_segment f v rule rule_there.here

  own_f : segment_at v (segments_of f) ≡ own
  own_f = own_segment f v rule rule_there.here

  abbrev pub span : ℕ
  span = nanoseconds rule.ageing

  pub span_is : span_of (rule_at f.rules v) ≡ span
  span_is = ap span_of rule_there.here

  few : kept_count v f.entries ≤ rule.limit
  few = k.orderly.few v rule rule_there.here

  pub some_time : 0 < span
  some_time = omega (arith, k.orderly.some_time v rule rule_there.here)

  -- what is seen now, or fixed, is live
  pub lives_now : (place : Place) (r : Rule) → rule_at f.rules v ≡ Some r → is_live (nanoseconds r.ageing) f.moment (record { place = place; last = Some f.moment }) ≡ true
  lives_now place r here = lt-ltb (f.moment - f.moment) (nanoseconds r.ageing) (omega (arith, k.orderly.some_time v r here))

  pub fixed_lives : (place : Place) (r : Rule) → rule_at f.rules v ≡ Some r → is_live (nanoseconds r.ageing) f.moment (record { place = place; last = None }) ≡ true
  fixed_lives place r here = refl

  -- a change that fits the segment
  fits : (new : Shared) (change other : Segment → Segment) → change own ≡ other own → segments_of new ≡ adjusted v change (segments_of f) → segments_of new ≡ adjusted v other (aged_all now (segments_of old))
  fits new change other e is =
      is ∙ alike v change other (segments_of f) (ap change own_f ∙ e ∙ sym (ap other own_f)) ∙ ap (adjusted v other) found_segments

  stays : (new : Shared) (change : Segment → Segment) → change own ≡ own → segments_of new ≡ segments_of f → segments_of new ≡ adjusted v change (aged_all now (segments_of old))
  stays new change e is = is ∙ unchanged v change (segments_of f) (ap change own_f ∙ e ∙ sym own_f) ∙ ap (adjusted v change) found_segments

  -- the segments at the moment of the call
  pub stays_all : (new : Shared) → segments_of new ≡ segments_of f → segments_of new ≡ aged_all now (segments_of old)
  stays_all new is = is ∙ found_segments

  pub changes : (new : Shared) (change : Segment → Segment) → segments_of new ≡ adjusted v change (segments_of f) → segments_of new ≡ adjusted v change (aged_all now (segments_of old))
  changes new change is = is ∙ ap (adjusted v change) found_segments

  module _ (mac : List ℕ) where
    -- ---- no slot holds the address
    module _ (lacks : Lacks f.entries v mac) where
      nothing : get table mac ≡ None
      nothing = get_lacks f v rule mac lacks

      module _ (place : Place) (last : Option ℕ) (new : Shared) (answer : Bool) (h : Admits f new v (span_of (rule_at f.rules v)) (record { vid = v; mac = mac; place = place; last = last }) answer) where
        swept : Sweeps f h.mid v span
        swept = subst (Sweeps f h.mid v) span_is h.swept

        counted : len table ≡ kept_count v h.mid.entries
        counted = swept_len f h.mid v rule k.orderly.unique swept

        mid_rule : rule_at h.mid.rules v ≡ Some rule
        mid_rule = ap (λ rs. rule_at rs v) (swept_rules f h.mid v span swept) ∙ rule_there.here

        mid_segments : segments_of h.mid ≡ segments_of f
        mid_segments = sweep_segments f h.mid v rule rule_there.here k.orderly.unique swept

        pub has_room : answer ≡ true → len table < rule.limit
        has_room so = from h.done
          where
            from : ((answer ≡ false) × (new ≡ h.mid) × IsAtLimit (rule_at h.mid.rules v) (kept_count v h.mid.entries)) ⊎ ((answer ≡ true) × HasRoom (rule_at h.mid.rules v) (kept_count v h.mid.entries) × Enters h.mid new (record { vid = v; mac = mac; place = place; last = last })) → len table < rule.limit
            from (inl d) = let bad : true ≡ false = sym so ∙ d.0 in cc
            from (inr d) = omega (arith, counted, subst (λ o. HasRoom o (kept_count v h.mid.entries)) mid_rule d.1)

        pub no_room : answer ≡ false → rule.limit ≤ len table
        no_room not_so = from h.done
          where
            from : ((answer ≡ false) × (new ≡ h.mid) × IsAtLimit (rule_at h.mid.rules v) (kept_count v h.mid.entries)) ⊎ ((answer ≡ true) × HasRoom (rule_at h.mid.rules v) (kept_count v h.mid.entries) × Enters h.mid new (record { vid = v; mac = mac; place = place; last = last })) → rule.limit ≤ len table
            from (inl d) = omega (arith, counted, subst (λ o. IsAtLimit o (kept_count v h.mid.entries)) mid_rule d.2)
            from (inr d) = let bad : true ≡ false = sym d.0 ∙ not_so in cc

        admitted : answer ≡ true → ((r : Rule) → rule_at f.rules v ≡ Some r → is_live (nanoseconds r.ageing) f.moment (record { place = place; last = last }) ≡ true) → segments_of new ≡ adjusted v (put mac (record { place = place; last = last })) (segments_of f)
        admitted so lives = from h.done
          where
            from : ((answer ≡ false) × (new ≡ h.mid) × IsAtLimit (rule_at h.mid.rules v) (kept_count v h.mid.entries)) ⊎ ((answer ≡ true) × HasRoom (rule_at h.mid.rules v) (kept_count v h.mid.entries) × Enters h.mid new (record { vid = v; mac = mac; place = place; last = last })) → segments_of new ≡ adjusted v (put mac (record { place = place; last = last })) (segments_of f)
            from (inl d) = let bad : true ≡ false = sym so ∙ d.0 in cc
            from (inr d) =
                enter_segments h.mid new v (record { vid = v; mac = mac; place = place; last = last }) refl (swept_lacks f h.mid v span mac swept lacks)
                (λ r here. ap (λ t. is_live (nanoseconds r.ageing) t (record { place = place; last = last })) (swept_moment f h.mid v span swept) ∙ lives r (sym (ap (λ rs. rule_at rs v) (swept_rules f h.mid v span swept)) ∙ here)) d.2
                ∙ ap (adjusted v (put mac (record { place = place; last = last }))) mid_segments

        refused : answer ≡ false → segments_of new ≡ segments_of f
        refused not_so = from h.done
          where
            from : ((answer ≡ false) × (new ≡ h.mid) × IsAtLimit (rule_at h.mid.rules v) (kept_count v h.mid.entries)) ⊎ ((answer ≡ true) × HasRoom (rule_at h.mid.rules v) (kept_count v h.mid.entries) × Enters h.mid new (record { vid = v; mac = mac; place = place; last = last })) → segments_of new ≡ segments_of f
            from (inl d) = ap segments_of d.1 ∙ mid_segments
            from (inr d) = let bad : true ≡ false = sym d.0 ∙ not_so in cc

      -- learning
      pub learn_new : (place : Place) (new : Shared) (h : Admits f new v (span_of (rule_at f.rules v)) (record { vid = v; mac = mac; place = place; last = Some now }) true)
          → (learned.New ≡ learned_as own.limit place mac own.entries) × (segments_of new ≡ adjusted v (learn_in now place mac) (aged_all now (segments_of old)))
      learn_new place new h =
          let room = lt-ltb (len table) rule.limit (has_room place (Some now) new true h refl) in (
            sym (ap (learned_over rule.limit (len table) place) nothing ∙ ap (λ b. cond b learned.New learned.Full) room),
            fits new (put mac (record { place = place; last = Some now })) (learn_in now place mac)
                (sym (ap (λ o. let s : Segment = record { limit = rule.limit; ageing = rule.ageing; entries = cond (is_learned rule.limit (len table) o) (insert table mac (record { place = place; last = Some now })) table } in s) nothing
                ∙ ap (λ b. let s : Segment = record { limit = rule.limit; ageing = rule.ageing; entries = cond b (insert table mac (record { place = place; last = Some now })) table } in s) room))
                (admitted place (Some now) new true h refl (λ r here. subst (λ t. is_live (nanoseconds r.ageing) f.moment (record { place = place; last = Some t }) ≡ true) k.moment (lives_now place r here))),
          )

      pub learn_full : (place : Place) (new : Shared) (h : Admits f new v (span_of (rule_at f.rules v)) (record { vid = v; mac = mac; place = place; last = Some now }) false)
          → (learned.Full ≡ learned_as own.limit place mac own.entries) × (segments_of new ≡ adjusted v (learn_in now place mac) (aged_all now (segments_of old)))
      learn_full place new h =
          let room = le-ltb (len table) rule.limit (no_room place (Some now) new false h refl) in (
            sym (ap (learned_over rule.limit (len table) place) nothing ∙ ap (λ b. cond b learned.New learned.Full) room),
            stays new (learn_in now place mac)
                (ap (λ o. let s : Segment = record { limit = rule.limit; ageing = rule.ageing; entries = cond (is_learned rule.limit (len table) o) (insert table mac (record { place = place; last = Some now })) table } in s) nothing
                ∙ ap (λ b. let s : Segment = record { limit = rule.limit; ageing = rule.ageing; entries = cond b (insert table mac (record { place = place; last = Some now })) table } in s) room)
                (refused place (Some now) new false h refl),
          )

      -- fixing
      full_is : is_full rule.limit mac table ≡ nat_le rule.limit (len table)
      full_is = ap (λ o. is_none o && nat_le rule.limit (len table)) nothing

      abbrev fixed_over : Place → Bool → Segment
      fixed_over place b = record { limit = rule.limit; ageing = rule.ageing; entries = cond b table (insert table mac (record { place = place; last = None })) }

      pub fix_new : (place : Place) (new : Shared) (h : Admits f new v (span_of (rule_at f.rules v)) (record { vid = v; mac = mac; place = place; last = None }) true)
          → (is_full own.limit mac own.entries ≡ false) × (segments_of new ≡ adjusted v (fix_in place mac) (aged_all now (segments_of old)))
      fix_new place new h =
          let below = has_room place None new true h refl in
          let room : is_full rule.limit mac table ≡ false = full_is ∙ above (len table) rule.limit below in (
            room,
            fits new (put mac (record { place = place; last = None })) (fix_in place mac) (sym (ap (fixed_over place) room)) (admitted place None new true h refl (fixed_lives place)),
          )
        where
          above : (a b : ℕ) → a < b → nat_le b a ≡ false
          above a b lt = grind (arith, nat_tests)

      pub fix_full : (place : Place) (new : Shared) (h : Admits f new v (span_of (rule_at f.rules v)) (record { vid = v; mac = mac; place = place; last = None }) false)
          → (is_full own.limit mac own.entries ≡ true) × (segments_of new ≡ adjusted v (fix_in place mac) (aged_all now (segments_of old)))
      fix_full place new h =
          let over = no_room place None new false h refl in
          let room : is_full rule.limit mac table ≡ true = full_is ∙ within (len table) rule.limit over in
          (room, stays new (fix_in place mac) (ap (fixed_over place) room) (refused place None new false h refl))
        where
          within : (a b : ℕ) → b ≤ a → nat_le b a ≡ true
          within a b le = grind (arith, nat_tests)

      -- looking
      pub look_none : None ≡ stands mac own.entries
      look_none = sym (ap (option_map (λ (e : Entry). e.place)) nothing)

      -- taking a fixed entry out
      pub unfix_none : (new : Shared) → segments_of new ≡ segments_of f → (has_fixed mac own.entries ≡ false) × (segments_of new ≡ adjusted v (unfix_in mac) (aged_all now (segments_of old)))
      unfix_none new is =
          let none : has_fixed mac table ≡ false = ap (passes is_fixed) nothing in
          (none, stays new (unfix_in mac) (ap (λ b. let s : Segment = record { limit = rule.limit; ageing = rule.ageing; entries = cond b (remove table mac) table } in s) none) is)

    -- ---- a slot holds the address
    module _ (slot : ℕ) (held : IfHeld (entry_at f.entries slot) v mac) (in_pool : IsHeld f.entries slot) where
      abbrev live : Entry → Bool
      live = is_live span f.moment

      there : get table mac ≡ sifted live (option_map entry_of (entry_at f.entries slot))
      there = get_found f v rule mac slot k.orderly.unique held

      -- it is fixed: it is in the table
      there_fixed : is_fixed_in (entry_at f.entries slot) ≡ true → passes is_fixed (get table mac) ≡ true
      there_fixed fixed = ap (passes is_fixed) there ∙ from (entry_at f.entries slot) fixed
        where
          from : (o : Option Held) → is_fixed_in o ≡ true → passes is_fixed (sifted live (option_map entry_of o)) ≡ true
          from None x = let bad : false ≡ true = x in cc
          from (Some e) x = ap (λ b. passes is_fixed (cond b (Some (entry_of e)) None)) (lasts e.last x) ∙ x
            where
              lasts : (last : Option ℕ) → is_none last ≡ true → is_young span f.moment last ≡ true
              lasts None y = refl
              lasts (Some t) y = let bad : false ≡ true = y in cc

      -- it was learned: no fixed entry is in the table
      there_learned : is_fixed_in (entry_at f.entries slot) ≡ false → passes is_fixed (get table mac) ≡ false
      there_learned learned_one = ap (passes is_fixed) there ∙ from (entry_at f.entries slot) learned_one
        where
          from : (o : Option Held) → is_fixed_in o ≡ false → passes is_fixed (sifted live (option_map entry_of o)) ≡ false
          from None x = refl
          from (Some e) x = by (live (entry_of e))
            where
              by : (b : Bool) → passes is_fixed (cond b (Some (entry_of e)) None) ≡ false
              by true = x
              by false = refl

      of_segment : vid_key v (entry_at f.entries slot) ≡ true
      of_segment = from (entry_at f.entries slot) held
        where
          from : (o : Option Held) → IfHeld o v mac → vid_key v o ≡ true
          from None x = absurd x
          from (Some e) x = subst (λ n. nat_eq e.vid n ≡ true) x.0 (nat_eq_refl e.vid)

      -- a dead one leaves room
      dead_below : is_dead_in (entry_at f.entries slot) span f.moment ≡ true → len table < rule.limit
      dead_below dead = dead_room f v rule slot k.orderly.unique few of_segment dead

      -- what the table has: the entry where it lives, nothing where it is dead
      pub record Found : Type 0 where
        pub entry : Held
        pub at_slot : entry_at f.entries slot ≡ Some entry
        pub got : get table mac ≡ cond (live (entry_of entry)) (Some (entry_of entry)) None

      pub found : Found
      found = from (entry_at f.entries slot) refl held
        where
          from : (o : Option Held) → entry_at f.entries slot ≡ o → IfHeld o v mac → Found
          from None e x = absurd x
          from (Some z) e x = record { entry = z; at_slot = e; got = there ∙ ap (λ o. sifted live (option_map entry_of o)) e }

      -- looking
      pub look_found : live_place (entry_at f.entries slot) span f.moment ≡ stands mac own.entries
      look_found = ap (λ o. live_place o span f.moment) found.at_slot ∙ by (live (entry_of found.entry)) ∙ sym (ap (option_map (λ (e : Entry). e.place)) found.got)
        where
          by : (b : Bool) → cond (not b) None (Some found.entry.place) ≡ option_map (λ (e : Entry). e.place) (cond b (Some (entry_of found.entry)) None)
          by true = refl
          by false = refl

      not_full : is_full rule.limit mac table ≡ false
      not_full = by (live (entry_of found.entry)) refl
        where
          by : (b : Bool) → live (entry_of found.entry) ≡ b → is_full rule.limit mac table ≡ false
          by true y = ap (λ o. is_none o && nat_le rule.limit (len table)) (found.got ∙ ap (λ c. cond c (Some (entry_of found.entry)) None) y)
          by false y =
              let below = dead_below (ap (λ o. is_dead_in o span f.moment) found.at_slot ∙ ap not y) in
              ap (λ o. is_none o && nat_le rule.limit (len table)) (found.got ∙ ap (λ c. cond c (Some (entry_of found.entry)) None) y) ∙ above (len table) rule.limit below
            where
              above : (a b : ℕ) → a < b → nat_le b a ≡ false
              above a b lt = grind (arith, nat_tests)

      learns : is_fixed_in (entry_at f.entries slot) ≡ false → is_learned rule.limit (len table) (get table mac) ≡ true
      learns learned_one = by (live (entry_of found.entry)) refl
        where
          by : (b : Bool) → live (entry_of found.entry) ≡ b → is_learned rule.limit (len table) (get table mac) ≡ true
          by true y = ap (is_learned rule.limit (len table)) (found.got ∙ ap (λ c. cond c (Some (entry_of found.entry)) None) y) ∙ ap not (sym (ap is_fixed_in found.at_slot) ∙ learned_one)
          by false y =
              let below = dead_below (ap (λ o. is_dead_in o span f.moment) found.at_slot ∙ ap not y) in
              ap (is_learned rule.limit (len table)) (found.got ∙ ap (λ c. cond c (Some (entry_of found.entry)) None) y) ∙ lt-ltb (len table) rule.limit below

      -- learning
      abbrev learned_seg : Place → Bool → Segment
      learned_seg place b = record { limit = rule.limit; ageing = rule.ageing; entries = cond b (insert table mac (record { place = place; last = Some now })) table }

      pub learn_again : (place : Place) (new : Shared) (answer : Learned) → Relearns f new slot (span_of (rule_at f.rules v)) place answer
          → (answer ≡ learned_as own.limit place mac own.entries) × (segments_of new ≡ adjusted v (learn_in now place mac) (aged_all now (segments_of old)))
      learn_again place new answer h = by (is_fixed_in (entry_at f.entries slot)) refl
        where
          fixed_answer : (o : Option Entry) → passes is_fixed o ≡ true → learned.Fixed ≡ learned_over rule.limit (len table) place o
          fixed_answer None x = let bad : false ≡ true = x in cc
          fixed_answer (Some e) x = sym (ap (λ b. cond b learned.Fixed (cond (same_place e.place place) learned.Refreshed learned.Moved)) x)

          not_learned : (o : Option Entry) → passes is_fixed o ≡ true → is_learned rule.limit (len table) o ≡ false
          not_learned None x = let bad : false ≡ true = x in cc
          not_learned (Some e) x = ap not x

          ages : is_fixed_in (entry_at f.entries slot) ≡ false → answer ≡ learned_over rule.limit (len table) place (get table mac)
          ages learned_one =
              h.answers learned_one ∙ ap (λ n. answer_of (entry_at f.entries slot) n f.moment place) span_is ∙ ap (λ o. answer_of o span f.moment place) found.at_slot
              ∙ live_or_not (live (entry_of found.entry)) refl
            where
              live_or_not : (b : Bool) → live (entry_of found.entry) ≡ b → answer_of (Some found.entry) span f.moment place ≡ learned_over rule.limit (len table) place (get table mac)
              live_or_not true y =
                  ap (λ c. cond (not c) learned.New (cond (same_place found.entry.place place) learned.Refreshed learned.Moved)) y
                  ∙ sym (ap (learned_over rule.limit (len table) place) (found.got ∙ ap (λ c. cond c (Some (entry_of found.entry)) None) y)
                  ∙ ap (λ b. cond b learned.Fixed (cond (same_place found.entry.place place) learned.Refreshed learned.Moved)) (sym (ap is_fixed_in found.at_slot) ∙ learned_one))
              live_or_not false y =
                  let below = dead_below (ap (λ o. is_dead_in o span f.moment) found.at_slot ∙ ap not y) in
                  ap (λ c. cond (not c) learned.New (cond (same_place found.entry.place place) learned.Refreshed learned.Moved)) y
                  ∙ sym (ap (learned_over rule.limit (len table) place) (found.got ∙ ap (λ c. cond c (Some (entry_of found.entry)) None) y)
                  ∙ ap (λ b. cond b learned.New learned.Full) (lt-ltb (len table) rule.limit below))

          by : (b : Bool) → is_fixed_in (entry_at f.entries slot) ≡ b → (answer ≡ learned_over rule.limit (len table) place (get table mac)) × (segments_of new ≡ adjusted v (learn_in now place mac) (aged_all now (segments_of old)))
          by true fixed = (
            (h.stays fixed).0 ∙ fixed_answer (get table mac) (there_fixed fixed),
            stays new (learn_in now place mac) (ap (learned_seg place) (not_learned (get table mac) (there_fixed fixed))) (ap segments_of (h.stays fixed).1),
          )
          by false learned_one = (
            ages learned_one,
            fits new (put mac (record { place = place; last = Some f.moment })) (learn_in now place mac)
                (ap (λ t. let s : Segment = record { limit = rule.limit; ageing = rule.ageing; entries = insert table mac (record { place = place; last = Some t }) } in s) k.moment ∙ sym (ap (learned_seg place) (learns learned_one)))
                (refresh_segments (record f { visited = f.visited + 1 }) new v slot mac place (Some f.moment) in_pool.in_pool k.orderly.unique held (lives_now place) (h.moves learned_one)),
          )

      -- fixing
      pub fix_again : (place : Place) (new : Shared) → Refreshes f new slot place None
          → (is_full own.limit mac own.entries ≡ false) × (segments_of new ≡ adjusted v (fix_in place mac) (aged_all now (segments_of old)))
      fix_again place new h = (
        not_full,
        fits new (put mac (record { place = place; last = None })) (fix_in place mac)
            (sym (ap (λ b. let s : Segment = record { limit = rule.limit; ageing = rule.ageing; entries = cond b table (insert table mac (record { place = place; last = None })) } in s) not_full))
            (refresh_segments f new v slot mac place None in_pool.in_pool k.orderly.unique held (fixed_lives place) h),
      )

      -- taking a fixed entry out
      abbrev unfixed_seg : Bool → Segment
      unfixed_seg b = record { limit = rule.limit; ageing = rule.ageing; entries = cond b (remove table mac) table }

      pub unfix_fixed : (new : Shared) → is_fixed_in (entry_at f.entries slot) ≡ true → new ≡ record f { entries = set f.entries slot None }
          → (has_fixed mac own.entries ≡ true) × (segments_of new ≡ adjusted v (unfix_in mac) (aged_all now (segments_of old)))
      unfix_fixed new fixed e =
          (there_fixed fixed, fits new (taken_out mac) (unfix_in mac) (sym (ap unfixed_seg (there_fixed fixed))) (release_segments f new v slot mac in_pool.in_pool k.orderly.unique held e))

      pub unfix_learned : (new : Shared) → is_fixed_in (entry_at f.entries slot) ≡ false → segments_of new ≡ segments_of f
          → (has_fixed mac own.entries ≡ false) × (segments_of new ≡ adjusted v (unfix_in mac) (aged_all now (segments_of old)))
      unfix_learned new learned_one is = (there_learned learned_one, stays new (unfix_in mac) (ap unfixed_seg (there_learned learned_one)) is)
