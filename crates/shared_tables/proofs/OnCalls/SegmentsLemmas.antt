-- What the steps over the slots make of the segments.
use Rattle.std.proofs.Common.{inl, inr, ◌⊎◌, ◌≡◌, ◌≢◌, ℕ, ◌<◌, ◌≤◌, Bool, true, false, cond, not, ◌&&◌, ◌==◌, List, length, set, Option, Some, None, IsSome, is_none, nat_eq, refl, sym, ap, ◌∙◌, subst, arith}
use Rattle.std.proofs.Math.Path.{fun_ext}
use Rattle.std.proofs.Math.Nat.{le_refl}
use Rattle.std.proofs.lemmas.Bool.{cases_lt, eqb-true, eq-eqb, false≢true}
use Rattle.std.proofs.lemmas.List.{get_or-set_same, get_or-set_other, length-set, get_or_past, set-set}
use Rattle.std.specs.Option.{option_map, unwrap_or}
use Rattle.std.specs.Ordering.{eq_by_cmp}
use Rattle.std.specs.FinMap.{get, insert, remove, len, get-remove}
use Rattle.filter_db.specs.declared.entry.Entry.{Entry}
use Rattle.filter_db.specs.declared.place.Place.{Place}
use Rattle.filter_db.specs.Place.{same_place}
use Rattle.filter_db.specs.Table.{Table, mac_cmp, kept, live, is_live, is_young, is_fixed, is_seen_at, nanoseconds}
use Rattle.filter_db.specs.Segment.{Segment, Segments, aged, aged_all, segment_at, adjusted, no_segment, set_ageing_in, flush_in, flush_place_in}
use Rattle.filter_db.specs.Ageing.{mac_total, same_table, sifted, get-kept, live-live, aged_all-aged_all}
use Rattle.filter_db.proofs.TableLemmas.{get-set, kept_turned}
use Rattle.shared_tables.specs.Pool.{Held}
use Rattle.shared_tables.specs.Pool.{entry_at, IfHeld, is_dead_in}
use Rattle.shared_tables.specs.Shared.{Shared, Rule, rule_at, vid_key, line_key, same_bool, kept_count, Lacks, IsUnique, Enters, Refreshes, Sweeps, KeepsOrFrees, KeepsOrDrops, DropsAll, stands_at, with_ageing}
use Rattle.shared_tables.specs.Segments.{entry_of, kept_table, kept_segment, kept_segments, segments_of}
use Rattle.shared_tables.proofs.OnEntries.Linked.{by_bool, equal, nat_eq_refl}
use Rattle.shared_tables.proofs.OnEntries.Entering.{and_right}
use Rattle.shared_tables.proofs.OnCalls.Tabled.{hit, held_hit, get-raw, raw_found, raw_lacks, Sifts, table_sifted, table_other, set_none, table_gone, other_gone, table_entered, other_entered, len-kept_table, sifted_slots, sifts_slots, sifted_unique, kept_less, renewed_is}

-- ---- segments by their parts

abbrev seen : List (Option Held) → List (Option Rule) → ℕ → Segments
seen es rules t = λ vid. option_map (aged t) (option_map (kept_segment vid es) (rule_at rules vid))

-- a call finds all segments as they are at its moment
pub begun : (old f : Shared) (now : ℕ) → old.moment ≤ now → f.entries ≡ old.entries → f.rules ≡ old.rules → f.moment ≡ now → segments_of f ≡ aged_all now (segments_of old)
begun old f now le es rules t =
    ap (λ x. seen x f.rules f.moment) es ∙ ap (λ x. seen old.entries x f.moment) rules ∙ ap (seen old.entries old.rules) t ∙ sym (aged_all-aged_all old.moment now (kept_segments old) le)

-- its own segment
pub own_segment : (s : Shared) (v : ℕ) (rule : Rule) → rule_at s.rules v ≡ Some rule → segment_at v (segments_of s) ≡ aged s.moment (kept_segment v s.entries rule)
own_segment s v rule here = ap (λ o. unwrap_or (option_map (aged s.moment) (option_map (kept_segment v s.entries) o)) no_segment) here

-- a rule that is there
pub record HasRule (rules : List (Option Rule)) (v : ℕ) : Type 0 where
  pub rule : Rule
  pub here : rule_at rules v ≡ Some rule

pub has_rule : (rules : List (Option Rule)) (v : ℕ) → IsSome (rule_at rules v) → HasRule rules v
has_rule rules v h = from (rule_at rules v) refl h
  where
    from : (o : Option Rule) → rule_at rules v ≡ o → IsSome o → HasRule rules v
    from None e x = let bad : false ≡ true = x in cc
    from (Some rule) e x = record { rule = rule; here = e }

-- a segment of the tables has a rule
pub ruled : (s : Shared) (v : ℕ) → IsSome (segments_of s v) → IsSome (rule_at s.rules v)
ruled s v h = from (rule_at s.rules v) h
  where
    from : (o : Option Rule) → IsSome (option_map (aged s.moment) (option_map (kept_segment v s.entries) o)) → IsSome o
    from None x = let bad : false ≡ true = x in cc
    from (Some rule) x = refl

pub has_segment : (s : Shared) (v : ℕ) → IsSome (rule_at s.rules v) → IsSome (segments_of s v)
has_segment s v h = from (rule_at s.rules v) h
  where
    from : (o : Option Rule) → IsSome o → IsSome (option_map (aged s.moment) (option_map (kept_segment v s.entries) o))
    from None x = let bad : false ≡ true = x in cc
    from (Some rule) x = refl

apart : (a b : ℕ) → (a == b) ≡ false → a ≢ b
apart a b h = λ same. false≢true (sym h ∙ eq-eqb a b same)

-- one segment changes, and the others keep their tables
pub adjusts : (old new : Shared) (v : ℕ) (change : Segment → Segment) → new.moment ≡ old.moment → new.rules ≡ old.rules
    → ((w : ℕ) → w ≢ v → kept_table w new.entries ≡ kept_table w old.entries)
    → ((rule : Rule) → rule_at old.rules v ≡ Some rule → aged old.moment (kept_segment v new.entries rule) ≡ change (aged old.moment (kept_segment v old.entries rule)))
    → segments_of new ≡ adjusted v change (segments_of old)
adjusts old new v change t rules others own =
    ap (λ x. seen new.entries x new.moment) rules ∙ ap (seen new.entries old.rules) t ∙ fun_ext (λ w.
    elim (w == v) as (λ b. (w == v) ≡ b → seen new.entries old.rules old.moment w ≡ cond b (option_map change (segments_of old w)) (segments_of old w)) [
      | true ↦ λ same. subst (λ x. seen new.entries old.rules old.moment x ≡ option_map change (segments_of old x)) (sym (eqb-true w v same)) (mine (rule_at old.rules v) refl)
      | false ↦ λ other. theirs w (others w (apart w v other)) (rule_at old.rules w)
    ] refl)
  where
    mine : (o : Option Rule) → rule_at old.rules v ≡ o → option_map (aged old.moment) (option_map (kept_segment v new.entries) (rule_at old.rules v)) ≡ option_map change (option_map (aged old.moment) (option_map (kept_segment v old.entries) (rule_at old.rules v)))
    mine o e = ap (λ q. option_map (aged old.moment) (option_map (kept_segment v new.entries) q)) e ∙ at_rule o e ∙ sym (ap (λ q. option_map change (option_map (aged old.moment) (option_map (kept_segment v old.entries) q))) e)
      where
        at_rule : (o : Option Rule) → rule_at old.rules v ≡ o → option_map (aged old.moment) (option_map (kept_segment v new.entries) o) ≡ option_map change (option_map (aged old.moment) (option_map (kept_segment v old.entries) o))
        at_rule None q = refl
        at_rule (Some rule) q = ap Some (own rule q)

    theirs : (w : ℕ) → kept_table w new.entries ≡ kept_table w old.entries → (o : Option Rule) → option_map (aged old.moment) (option_map (kept_segment w new.entries) o) ≡ option_map (aged old.moment) (option_map (kept_segment w old.entries) o)
    theirs w e None = refl
    theirs w e (Some rule) = ap (λ (m : Table). let s : Segment = record { limit = rule.limit; ageing = rule.ageing; entries = m } in Some (aged old.moment s)) e

same_change : (o : Option Segment) (b : Bool) → cond b (option_map (λ s. s) o) o ≡ o
same_change None true = refl
same_change (Some s) true = refl
same_change o false = refl

pub adjusted_same : (v : ℕ) (segments : Segments) → adjusted v (λ s. s) segments ≡ segments
adjusted_same v segments = fun_ext (λ w. same_change (segments w) (w == v))

-- ---- a segment's table at the moment

abbrev pub own_table : Shared → ℕ → Rule → Table
own_table s v rule = live (nanoseconds rule.ageing) s.moment (kept_table v s.entries)

abbrev with_table : Rule → Table → Segment
with_table rule m = record { limit = rule.limit; ageing = rule.ageing; entries = m }

-- what it has of an address that a slot holds
pub get_found : (s : Shared) (v : ℕ) (rule : Rule) (mac : List ℕ) (slot : ℕ) → IsUnique s.entries → IfHeld (entry_at s.entries slot) v mac
    → get (own_table s v rule) mac ≡ sifted (is_live (nanoseconds rule.ageing) s.moment) (option_map entry_of (entry_at s.entries slot))
get_found s v rule mac slot unique held =
    get-kept (is_live (nanoseconds rule.ageing) s.moment) (kept_table v s.entries) mac ∙ ap (sifted (is_live (nanoseconds rule.ageing) s.moment)) (get-raw v s.entries mac ∙ raw_found v mac s.entries slot unique held)

-- and of one that none holds
pub get_lacks : (s : Shared) (v : ℕ) (rule : Rule) (mac : List ℕ) → Lacks s.entries v mac → get (own_table s v rule) mac ≡ None
get_lacks s v rule mac lacks =
    get-kept (is_live (nanoseconds rule.ageing) s.moment) (kept_table v s.entries) mac ∙ ap (sifted (is_live (nanoseconds rule.ageing) s.moment)) (get-raw v s.entries mac ∙ raw_lacks v mac s.entries lacks)

-- a segment that keeps a dead entry has room
pub dead_room : (s : Shared) (v : ℕ) (rule : Rule) (slot : ℕ) → IsUnique s.entries → kept_count v s.entries ≤ rule.limit → vid_key v (entry_at s.entries slot) ≡ true
    → is_dead_in (entry_at s.entries slot) (nanoseconds rule.ageing) s.moment ≡ true → len (own_table s v rule) < rule.limit
dead_room s v rule slot unique few of dead =
    let test : Option Held → Bool = λ o. is_dead_in o (nanoseconds rule.ageing) s.moment in
    let left = sifted_slots test s.entries in
    let table : kept_table v left ≡ own_table s v rule = table_sifted v test (is_live (nanoseconds rule.ageing) s.moment) s.entries left (sifts_slots test s.entries) unique (λ e is. refl) in
    let counted : len (kept_table v left) ≡ kept_count v left = len-kept_table v left (sifted_unique test s.entries left (sifts_slots test s.entries) unique) in
    omega (arith, ap len table, counted, kept_less v test s.entries slot of dead, few)

-- ---- a sweep

abbrev swept_test : ℕ → ℕ → ℕ → Option Held → Bool
swept_test v ageing now o = line_key v false o && is_dead_in o ageing now

sweep_sifts : (old mid : Shared) (v ageing : ℕ) → Sweeps old mid v ageing → Sifts (swept_test v ageing old.moment) old.entries mid.entries
sweep_sifts old mid v ageing h = record { size = h.size; each = λ i. from i (h.each i) }
  where
    left : (i : ℕ) → swept_test v ageing old.moment (entry_at mid.entries i) ≡ false
    left i = by_bool (line_key v false (entry_at mid.entries i)) (λ yes. and_right _ _ (h.live i yes)) (λ off. ap (λ b. b && is_dead_in (entry_at mid.entries i) ageing old.moment) off)

    from : (i : ℕ) → KeepsOrFrees (entry_at old.entries i) (entry_at mid.entries i) v ageing old.moment → entry_at mid.entries i ≡ cond (swept_test v ageing old.moment (entry_at old.entries i)) None (entry_at old.entries i)
    from i (inl e) = e ∙ sym (ap (λ b. cond b None (entry_at old.entries i)) (subst (λ o. swept_test v ageing old.moment o ≡ false) e (left i)))
    from i (inr k) = k.0 ∙ sym (ap (λ b. cond b None (entry_at old.entries i)) (ap (λ b. b && is_dead_in (entry_at old.entries i) ageing old.moment) k.1 ∙ k.2))

-- a segment's learned entry that is dead
swept_own : (v ageing now : ℕ) (e : Held) → e.vid ≡ v → swept_test v ageing now (Some e) ≡ not (is_live ageing now (entry_of e))
swept_own v ageing now e of =
    ap (λ b. (b && same_bool false (is_none e.last)) && not (is_young ageing now e.last)) (subst (λ k. nat_eq e.vid k ≡ true) of (nat_eq_refl e.vid)) ∙ by e.last
  where
    by : (last : Option ℕ) → same_bool false (is_none last) && not (is_young ageing now last) ≡ not (is_young ageing now last)
    by None = refl
    by (Some t) = refl

miss : (v w : ℕ) (e : Held) → w ≢ v → e.vid ≡ w → nat_eq e.vid v ≡ false
miss v w e ne of = by_bool (nat_eq e.vid v) (λ yes. absurd (ne (sym of ∙ equal e.vid v yes))) (λ off. off)

swept_other : (v w ageing now : ℕ) (e : Held) → w ≢ v → e.vid ≡ w → swept_test v ageing now (Some e) ≡ false
swept_other v w ageing now e ne of = ap (λ b. (b && same_bool false (is_none e.last)) && not (is_young ageing now e.last)) (miss v w e ne of)

-- what is left is what is live
pub swept_table : (old mid : Shared) (v : ℕ) (rule : Rule) → IsUnique old.entries → Sweeps old mid v (nanoseconds rule.ageing) → kept_table v mid.entries ≡ own_table old v rule
swept_table old mid v rule unique h =
    table_sifted v (swept_test v (nanoseconds rule.ageing) old.moment) (is_live (nanoseconds rule.ageing) old.moment) old.entries mid.entries (sweep_sifts old mid v (nanoseconds rule.ageing) h) unique (λ e of. swept_own v (nanoseconds rule.ageing) old.moment e of)

pub swept_others : (old mid : Shared) (v ageing w : ℕ) → IsUnique old.entries → Sweeps old mid v ageing → w ≢ v → kept_table w mid.entries ≡ kept_table w old.entries
swept_others old mid v ageing w unique h ne = table_other w (swept_test v ageing old.moment) old.entries mid.entries (sweep_sifts old mid v ageing h) unique (λ e of. swept_other v w ageing old.moment e ne of)

pub swept_unique : (old mid : Shared) (v ageing : ℕ) → IsUnique old.entries → Sweeps old mid v ageing → IsUnique mid.entries
swept_unique old mid v ageing unique h = sifted_unique (swept_test v ageing old.moment) old.entries mid.entries (sweep_sifts old mid v ageing h) unique

-- how many live entries there are
pub swept_len : (old mid : Shared) (v : ℕ) (rule : Rule) → IsUnique old.entries → Sweeps old mid v (nanoseconds rule.ageing) → len (own_table old v rule) ≡ kept_count v mid.entries
swept_len old mid v rule unique h = sym (ap len (swept_table old mid v rule unique h)) ∙ len-kept_table v mid.entries (swept_unique old mid v (nanoseconds rule.ageing) unique h)

-- the address is as absent as it was
pub swept_lacks : (old mid : Shared) (v ageing : ℕ) (mac : List ℕ) → Sweeps old mid v ageing → Lacks old.entries v mac → Lacks mid.entries v mac
swept_lacks old mid v ageing mac h lacks i held = from (swept_test v ageing old.moment (entry_at old.entries i)) (subst (λ o. IfHeld o v mac) ((sweep_sifts old mid v ageing h).each i) held)
  where
    from : (b : Bool) → IfHeld (cond b None (entry_at old.entries i)) v mac → ⊥
    from true x = x
    from false x = lacks i x

pub swept_moment : (old mid : Shared) (v ageing : ℕ) → Sweeps old mid v ageing → mid.moment ≡ old.moment
swept_moment old mid v ageing h = ap (λ (w : Shared). w.moment) h.same

pub swept_rules : (old mid : Shared) (v ageing : ℕ) → Sweeps old mid v ageing → mid.rules ≡ old.rules
swept_rules old mid v ageing h = ap (λ (w : Shared). w.rules) h.same

-- no segment changes
pub sweep_segments : (old mid : Shared) (v : ℕ) (rule : Rule) → rule_at old.rules v ≡ Some rule → IsUnique old.entries → Sweeps old mid v (nanoseconds rule.ageing) → segments_of mid ≡ segments_of old
sweep_segments old mid v rule here unique h =
    adjusts old mid v (λ s. s) (swept_moment old mid v (nanoseconds rule.ageing) h) (swept_rules old mid v (nanoseconds rule.ageing) h) (λ w ne. swept_others old mid v (nanoseconds rule.ageing) w unique h ne) own
    ∙ adjusted_same v (segments_of old)
  where
    own : (r : Rule) → rule_at old.rules v ≡ Some r → aged old.moment (kept_segment v mid.entries r) ≡ aged old.moment (kept_segment v old.entries r)
    own r is =
        let same : rule ≡ r = (let p : Some rule ≡ Some r = sym here ∙ is in cc) in
        subst (λ (r : Rule). aged old.moment (kept_segment v mid.entries r) ≡ aged old.moment (kept_segment v old.entries r)) same
        (ap (λ (m : Table). aged old.moment (with_table rule m)) (swept_table old mid v rule unique h) ∙ ap (with_table rule) (live-live (nanoseconds rule.ageing) old.moment old.moment (kept_table v old.entries) (le_refl old.moment)))

-- ---- an entry comes, goes, or stands in place of another

abbrev pub put : List ℕ → Entry → Segment → Segment
put mac e s = record s { entries = insert s.entries mac e }

abbrev pub taken_out : List ℕ → Segment → Segment
taken_out mac s = record s { entries = remove s.entries mac }

over : (p : Entry → Bool) (b : Bool) (e : Entry) (o : Option Entry) → p e ≡ true → sifted p (cond b (Some e) o) ≡ cond b (Some e) (sifted p o)
over p true e o is = ap (λ x. cond x (Some e) None) is
over p false e o is = refl

without : (p : Entry → Bool) (b : Bool) (o : Option Entry) → sifted p (cond b None o) ≡ cond b None (sifted p o)
without p true o = refl
without p false o = refl

-- what is live with an entry that is live
live_put : (p : Entry → Bool) (m : Table) (k : List ℕ) (e : Entry) → p e ≡ true → kept p (insert m k e) ≡ insert (kept p m) k e
live_put p m k e is = same_table _ _ (λ q.
    get-kept p (insert m k e) q ∙ ap (sifted p) (get-set m k e q) ∙ over p (eq_by_cmp mac_cmp q k) e (get m q) is
    ∙ ap (cond (eq_by_cmp mac_cmp q k) (Some e)) (sym (get-kept p m q)) ∙ sym (get-set (kept p m) k e q))

live_out : (p : Entry → Bool) (m : Table) (k : List ℕ) → kept p (remove m k) ≡ remove (kept p m) k
live_out p m k = same_table _ _ (λ q.
    get-kept p (remove m k) q ∙ ap (sifted p) (get-remove mac_total m k q) ∙ without p (eq_by_cmp mac_cmp q k) (get m q)
    ∙ ap (cond (eq_by_cmp mac_cmp q k) None) (sym (get-kept p m q)) ∙ sym (get-remove mac_total (kept p m) k q))

-- an entry in place of another
put_over : (m : Table) (k : List ℕ) (e : Entry) → insert (remove m k) k e ≡ insert m k e
put_over m k e = same_table _ _ (λ q.
    get-set (remove m k) k e q ∙ ap (cond (eq_by_cmp mac_cmp q k) (Some e)) (get-remove mac_total m k q) ∙ by (eq_by_cmp mac_cmp q k) (get m q) ∙ sym (get-set m k e q))
  where
    by : (b : Bool) (o : Option Entry) → cond b (Some e) (cond b None o) ≡ cond b (Some e) o
    by true o = refl
    by false o = refl

pub enter_segments : (old new : Shared) (v : ℕ) (e : Held) → e.vid ≡ v → Lacks old.entries v e.mac → ((rule : Rule) → rule_at old.rules v ≡ Some rule → is_live (nanoseconds rule.ageing) old.moment (entry_of e) ≡ true)
    → Enters old new e → segments_of new ≡ adjusted v (put e.mac (entry_of e)) (segments_of old)
enter_segments old new v e of lacks lives h =
    adjusts old new v (put e.mac (entry_of e)) (ap (λ (w : Shared). w.moment) h.same) (ap (λ (w : Shared). w.rules) h.same)
    (λ w ne. ap (λ (x : Shared). kept_table w x.entries) h.same ∙ other_entered w v old.entries h.slot e h.in_pool h.free of ne)
    (λ rule here.
    ap (λ (m : Table). aged old.moment (with_table rule m)) (ap (λ (x : Shared). kept_table v x.entries) h.same ∙ table_entered v old.entries h.slot e h.in_pool h.free of lacks)
    ∙ ap (with_table rule) (live_put (is_live (nanoseconds rule.ageing) old.moment) (kept_table v old.entries) e.mac (entry_of e) (lives rule here)))

-- an address whose slot was freed is absent
gone_lacks : (es : List (Option Held)) (v : ℕ) (mac : List ℕ) (s : ℕ) → s < length es → IsUnique es → IfHeld (entry_at es s) v mac → Lacks (set es s None) v mac
gone_lacks es v mac s lt unique held i x = by_bool (hit v mac (entry_at es i))
    (λ yes. subst (λ o. IfHeld o v mac) ((set_none v mac es s lt unique held).each i ∙ ap (λ b. cond b None (entry_at es i)) yes) x)
    (λ off. let still = subst (λ o. IfHeld o v mac) ((set_none v mac es s lt unique held).each i ∙ ap (λ b. cond b None (entry_at es i)) off) x in
    let bad : true ≡ false = sym (held_hit v mac (entry_at es i) still) ∙ off in cc)

pub refresh_segments : (old new : Shared) (v slot : ℕ) (mac : List ℕ) (place : Place) (last : Option ℕ) → slot < length old.entries → IsUnique old.entries → IfHeld (entry_at old.entries slot) v mac
    → ((rule : Rule) → rule_at old.rules v ≡ Some rule → is_live (nanoseconds rule.ageing) old.moment (record { place = place; last = last }) ≡ true) → Refreshes old new slot place last
    → segments_of new ≡ adjusted v (put mac (record { place = place; last = last })) (segments_of old)
refresh_segments old new v slot mac place last lt unique held lives h =
    let e : Held = record { vid = v; mac = mac; place = place; last = last } in
    let gone : List (Option Held) = set old.entries slot None in
    let to_lt : slot < length gone = subst (λ n. slot < n) (sym (length-set old.entries slot None)) lt in
    let free : entry_at gone slot ≡ None = get_or-set_same old.entries slot None None lt in
    let same : new ≡ record old { entries = set gone slot (Some e) } =
    h ∙ ap (λ o. record old { entries = set old.entries slot o }) (renewed_is (entry_at old.entries slot) v mac place last held) ∙ ap (λ es. record old { entries = es }) (sym (set-set old.entries slot None (Some e))) in
    adjusts old new v (put mac (entry_of e)) (ap (λ (w : Shared). w.moment) same) (ap (λ (w : Shared). w.rules) same)
    (λ w ne. ap (λ (x : Shared). kept_table w x.entries) same ∙ other_entered w v gone slot e to_lt free refl ne ∙ other_gone w v mac old.entries slot lt unique held ne)
    (λ rule here.
    ap (λ (m : Table). aged old.moment (with_table rule m))
    (ap (λ (x : Shared). kept_table v x.entries) same ∙ table_entered v gone slot e to_lt free refl (gone_lacks old.entries v mac slot lt unique held)
    ∙ ap (λ (m : Table). insert m mac (entry_of e)) (table_gone v mac old.entries slot lt unique held) ∙ put_over (kept_table v old.entries) mac (entry_of e))
    ∙ ap (with_table rule) (live_put (is_live (nanoseconds rule.ageing) old.moment) (kept_table v old.entries) mac (entry_of e) (lives rule here)))

pub release_segments : (old new : Shared) (v slot : ℕ) (mac : List ℕ) → slot < length old.entries → IsUnique old.entries → IfHeld (entry_at old.entries slot) v mac → new ≡ record old { entries = set old.entries slot None }
    → segments_of new ≡ adjusted v (taken_out mac) (segments_of old)
release_segments old new v slot mac lt unique held e =
    adjusts old new v (taken_out mac) (ap (λ (w : Shared). w.moment) e) (ap (λ (w : Shared). w.rules) e)
    (λ w ne. ap (λ (x : Shared). kept_table w x.entries) e ∙ other_gone w v mac old.entries slot lt unique held ne)
    (λ rule here.
    ap (λ (m : Table). aged old.moment (with_table rule m)) (ap (λ (x : Shared). kept_table v x.entries) e ∙ table_gone v mac old.entries slot lt unique held)
    ∙ ap (with_table rule) (live_out (is_live (nanoseconds rule.ageing) old.moment) (kept_table v old.entries) mac))

-- ---- entries that pass a test go

drop_sifts : (old new : Shared) (test : Option Held → Bool) → DropsAll old new test → Sifts test old.entries new.entries
drop_sifts old new test h = record { size = h.some.size; each = λ i. from i (h.some.each i) }
  where
    from : (i : ℕ) → KeepsOrDrops test (entry_at old.entries i) (entry_at new.entries i) → entry_at new.entries i ≡ cond (test (entry_at old.entries i)) None (entry_at old.entries i)
    from i (inl e) = e ∙ sym (ap (λ b. cond b None (entry_at old.entries i)) (subst (λ o. test o ≡ false) e (h.all i)))
    from i (inr k) = k.0 ∙ sym (ap (λ b. cond b None (entry_at old.entries i)) k.1)

pub drop_segments : (old new : Shared) (v : ℕ) (test : Option Held → Bool) (p : Entry → Bool) → IsUnique old.entries → ((e : Held) → e.vid ≡ v → test (Some e) ≡ not (p (entry_of e))) → ((w : ℕ) (e : Held) → w ≢ v → e.vid ≡ w → test (Some e) ≡ false)
    → DropsAll old new test → segments_of new ≡ adjusted v (λ s. record s { entries = kept p s.entries }) (segments_of old)
drop_segments old new v test p unique own others h =
    adjusts old new v (λ s. record s { entries = kept p s.entries }) (ap (λ (w : Shared). w.moment) h.some.same) (ap (λ (w : Shared). w.rules) h.some.same)
    (λ w ne. table_other w test old.entries new.entries (drop_sifts old new test h) unique (λ e of. others w e ne of))
    (λ rule here.
    ap (λ (m : Table). aged old.moment (with_table rule m)) (table_sifted v test p old.entries new.entries (drop_sifts old new test h) unique own)
    ∙ ap (with_table rule) (kept_turned (is_live (nanoseconds rule.ageing) old.moment) p (kept_table v old.entries)))

own_line : (v : ℕ) (e : Held) → e.vid ≡ v → line_key v false (Some e) ≡ not (is_fixed (entry_of e))
own_line v e of = ap (λ b. b && same_bool false (is_none e.last)) (subst (λ k. nat_eq e.vid k ≡ true) of (nat_eq_refl e.vid))

other_line : (v w : ℕ) (e : Held) → w ≢ v → e.vid ≡ w → line_key v false (Some e) ≡ false
other_line v w e ne of = ap (λ b. b && same_bool false (is_none e.last)) (miss v w e ne of)

not_not : (b : Bool) → b ≡ not (not b)
not_not true = refl
not_not false = refl

pub flush_segments : (old new : Shared) (v : ℕ) → IsUnique old.entries → DropsAll old new (line_key v false) → segments_of new ≡ adjusted v flush_in (segments_of old)
flush_segments old new v unique h = drop_segments old new v (line_key v false) is_fixed unique (λ e of. own_line v e of) (λ w e ne of. other_line v w e ne of) h

pub flush_place_segments : (old new : Shared) (v : ℕ) (place : Place) → IsUnique old.entries → DropsAll old new (λ e. line_key v false e && stands_at place e) → segments_of new ≡ adjusted v (flush_place_in place) (segments_of old)
flush_place_segments old new v place unique h =
    drop_segments old new v (λ e. line_key v false e && stands_at place e) (λ e. not (is_seen_at place e)) unique
    (λ e of. ap (λ b. b && same_place e.place place) (own_line v e of) ∙ not_not (is_seen_at place (entry_of e)))
    (λ w e ne of. ap (λ b. b && same_place e.place place) (other_line v w e ne of)) h

-- ---- another ageing

pub seconds_segments : (old mid new : Shared) (v seconds : ℕ) (rule : Rule) → rule_at old.rules v ≡ Some rule → IsUnique old.entries → Sweeps old mid v (nanoseconds rule.ageing) → new ≡ record mid { rules = with_ageing mid.rules v seconds }
    → segments_of new ≡ adjusted v (set_ageing_in old.moment seconds) (segments_of old)
seconds_segments old mid new v seconds rule here unique h e =
    let rules : new.rules ≡ with_ageing old.rules v seconds = ap (λ (w : Shared). w.rules) e ∙ ap (λ rs. with_ageing rs v seconds) (swept_rules old mid v (nanoseconds rule.ageing) h) in
    let t : new.moment ≡ old.moment = ap (λ (w : Shared). w.moment) e ∙ swept_moment old mid v (nanoseconds rule.ageing) h in
    let es : new.entries ≡ mid.entries = ap (λ (w : Shared). w.entries) e in
    ap (λ x. seen x new.rules new.moment) es ∙ ap (λ x. seen mid.entries x new.moment) rules ∙ ap (seen mid.entries (with_ageing old.rules v seconds)) t ∙ fun_ext (λ w.
    elim (w == v) as (λ b. (w == v) ≡ b → seen mid.entries (with_ageing old.rules v seconds) old.moment w ≡ cond b (option_map (set_ageing_in old.moment seconds) (segments_of old w)) (segments_of old w)) [
      | true ↦ λ same. subst (λ x. seen mid.entries (with_ageing old.rules v seconds) old.moment x ≡ option_map (set_ageing_in old.moment seconds) (segments_of old x)) (sym (eqb-true w v same)) mine
      | false ↦ λ other.
          ap (λ o. option_map (aged old.moment) (option_map (kept_segment w mid.entries) o)) (get_or-set_other old.rules v w _ None (apart w v other))
          ∙ theirs w (swept_others old mid v (nanoseconds rule.ageing) w unique h (apart w v other)) (rule_at old.rules w)
    ] refl)
  where
    lt : v < length old.rules
    lt = from (cases_lt v (length old.rules))
      where
        from : (v < length old.rules) ⊎ (length old.rules ≤ v) → v < length old.rules
        from (inl k) = k
        from (inr k) = let bad : None ≡ Some rule = sym (get_or_past old.rules v None k) ∙ here in cc

    changed : rule_at (with_ageing old.rules v seconds) v ≡ Some (record rule { ageing = seconds })
    changed = get_or-set_same old.rules v _ None lt ∙ ap (option_map (λ (r : Rule). record r { ageing = seconds })) here

    mine : seen mid.entries (with_ageing old.rules v seconds) old.moment v ≡ option_map (set_ageing_in old.moment seconds) (segments_of old v)
    mine =
        ap (λ o. option_map (aged old.moment) (option_map (kept_segment v mid.entries) o)) changed
        ∙ ap (λ (m : Table). let s : Segment = record { limit = rule.limit; ageing = seconds; entries = m } in Some (aged old.moment s)) (swept_table old mid v rule unique h)
        ∙ sym (ap (λ o. option_map (set_ageing_in old.moment seconds) (option_map (aged old.moment) (option_map (kept_segment v old.entries) o))) here)

    theirs : (w : ℕ) → kept_table w mid.entries ≡ kept_table w old.entries → (o : Option Rule) → option_map (aged old.moment) (option_map (kept_segment w mid.entries) o) ≡ option_map (aged old.moment) (option_map (kept_segment w old.entries) o)
    theirs w k None = refl
    theirs w k (Some r) = ap (λ (m : Table). aged_some r m) k
      where
        aged_some : Rule → Table → Option Segment
        aged_some r m = Some (aged old.moment (with_table r m))
