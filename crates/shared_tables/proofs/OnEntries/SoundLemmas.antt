-- What holds of the slots and the segments together, and what follows.
use Rattle.std.proofs.Common.{inl, inr, ◌⊎◌, ◌≡◌, ℕ, ◌+◌, ◌<◌, ◌≤◌, Bool, true, false, cond, not, ◌&&◌, List, [], ◌∷◌, ◌++◌, length, map, set, Option, Some, None, IsSome, IfNone, IfSome, is_some, is_none, nat_eq, refl, sym, ap, ◌∙◌, subst, arith}
use Rattle.std.proofs.lemmas.List.Sums.{sum_by-cons}
use Rattle.std.proofs.Math.ListN.{get_or-map}
use Rattle.std.proofs.lemmas.Bool.{cases_lt}
use Rattle.std.proofs.lemmas.List.{get_or-set_same, get_or-set_other, get_or_past, length-set}
use Rattle.std.specs.Option.{option_map}
use Rattle.std.specs.List.{sum_by}
use Rattle.shared_tables.specs.declared.links.Links.{Links}
use Rattle.shared_tables.specs.Pool.{Held}
use Rattle.shared_tables.specs.declared.share.Share.{Share}
use Rattle.shared_tables.specs.Pool.{links_at, entry_at}
use Rattle.shared_tables.specs.Line.{weight}
use Rattle.shared_tables.specs.Shared.{vid_key, line_key, kept_count, same_bool, last_at}
use Rattle.shared_tables.specs.LinkSteps.{IsHeld, HoldsAny}
use Rattle.shared_tables.specs.Line.{first_of, last_of, is_on, IsThread}
use Rattle.shared_tables.specs.Shared.{Rule, Shared, HasRoom, rule_at, IsOf, IsOrderly}
use Rattle.shared_tables.specs.declared.shared_tables.SharedTables.TheInside.{Inside}
use Rattle.shared_tables.specs.SharedFromFields.{shared_of, IsSoundInside}
use Rattle.shared_tables.specs.SlotsOfSegments.{with_line, IsAged}
use Rattle.std.proofs.Math.Seq.{map-set_same}
use Rattle.shared_tables.specs.declared.threads.Ends.{Ends}
use Rattle.shared_tables.specs.SlotsOfSegments.{IsLines, IsSound, share_at, rule_of}
use Rattle.shared_tables.proofs.OnEntries.Linked.{by_bool, equal, nat_eq_refl, last_in, last_of-cons, last_on, first_on, Around, around, own_links, on_before, on_behind, or_is_true}
use Rattle.shared_tables.proofs.OnEntries.Threaded.{in_entries}

-- an entry of a segment is on one of its two lines
weight_split : (vid : ℕ) (o : Option Held) → weight (vid_key vid) o ≡ weight (line_key vid true) o + weight (line_key vid false) o
weight_split vid None = omega arith
weight_split vid (Some e) = from (nat_eq e.vid vid) (is_none e.last)
  where
    from : (b c : Bool) → cond b 1 0 ≡ cond (b && same_bool true c) 1 0 + cond (b && same_bool false c) 1 0
    from true true = omega arith
    from true false = omega arith
    from false c = omega arith

count_split : (vid : ℕ) (es : List (Option Held)) → kept_count vid es ≡ sum_by (weight (line_key vid true)) es + sum_by (weight (line_key vid false)) es
count_split vid [] = omega arith
count_split vid (o ∷ es) =
    omega (arith, sum_by-cons (weight (vid_key vid)) o es, sum_by-cons (weight (line_key vid true)) o es, sum_by-cons (weight (line_key vid false)) o es, weight_split vid o, count_split vid es)

-- a segment's count is the number of its entries
pub kept_is : (es : List (Option Held)) (lines : List Links) (vid : ℕ) (share : Share) (moment : ℕ) → IsLines es lines vid share moment → share.count ≡ kept_count vid es
kept_is es lines vid share moment h = omega (arith, h.count, (h.thread true).size, (h.thread false).size, count_split vid es)

-- the rule of a segment that is there
pub rule_is : (shares : List (Option Share)) (v : ℕ) (share : Share) → share_at shares v ≡ Some share → rule_at (map (option_map rule_of) shares) v ≡ Some (rule_of share)
rule_is shares v share here = get_or-map (option_map rule_of) shares v None ∙ ap (option_map rule_of) here

-- the VID of a segment that is there
pub share_in_range : (shares : List (Option Share)) (v : ℕ) (share : Share) → share_at shares v ≡ Some share → v < length shares
share_in_range shares v share here = from (cases_lt v (length shares))
  where
    from : (v < length shares) ⊎ (length shares ≤ v) → v < length shares
    from (inl lt) = lt
    from (inr le) = let bad : None ≡ Some share = sym (get_or_past shares v None le) ∙ here in cc

-- the share that was read in the same shares
pub share_read : (xs ys : List (Option Share)) (v : ℕ) (o : Option Share) (share : Share) → xs ≡ ys → o ≡ share_at xs v → o ≡ Some share → share_at ys v ≡ Some share
share_read xs ys v o share same read is = sym (read ∙ ap (λ (zs : List (Option Share)). share_at zs v) same) ∙ is

-- what is said of the first slot of a line is said of the slot that a method answers
pub first_seen : (P : List (Option Held) → Type 0) (Q : List (Option Held) → ℕ → Type 0) (i : Inside) (now : Shared) (first result : Option ℕ) → shared_of i ≡ now → result ≡ first
    → IfNone first (P i.slots.entries) → IfSome first (Q i.slots.entries) → IfNone result (P now.entries) × IfSome result (Q now.entries)
first_seen P Q i now first result e is none some =
    subst (λ (o : Option ℕ). IfNone o (P now.entries) × IfSome o (Q now.entries)) (sym is)
    (subst (λ (w : Shared). IfNone first (P w.entries) × IfSome first (Q w.entries)) e (none, some))

-- a segment that has room counts less than its limit
pub room_is : (es : List (Option Held)) (ls : List Links) (shares : List (Option Share)) (moment v : ℕ) (share : Share)
    → IsSound es ls shares moment → share_at shares v ≡ Some share → HasRoom (rule_at (map (option_map rule_of) shares) v) (kept_count v es) → share.count < share.limit
room_is es ls shares moment v share h here room =
    let below : kept_count v es < share.limit = subst (λ o. HasRoom o (kept_count v es)) (rule_is shares v share here) room in
    omega (arith, below, kept_is es ls v share moment (h.lined v share here))

-- a slot whose entry passes a test holds an entry
some_passes : (key : Option Held → Bool) → key None ≡ false → (o : Option Held) → key o ≡ true → IsSome o
some_passes key none None h = let bad : true ≡ false = sym h ∙ none in cc
some_passes key none (Some e) h = refl

module _ (key : Option Held → Bool) (none : key None ≡ false) (links : List Links) (es : List (Option Held)) (f l : Option ℕ) where
  pub holds : (is : List ℕ) → IsThread links es key f l is → (i : ℕ) → is_on i is ≡ true → IsHeld es i
  holds is h i on =
      let passes : key (entry_at es i) ≡ true = sym (h.members i) ∙ on in
      record { in_pool = in_entries key none es i passes; held = some_passes key none (entry_at es i) passes }

  -- the ends of a thread hold entries
  pub holds_first : (is : List ℕ) → IsThread links es key f l is → HoldsAny es f
  holds_first is h = subst (HoldsAny es) (sym h.begins) (at is (holds is h)) where
    at : (is : List ℕ) → ((i : ℕ) → is_on i is ≡ true → IsHeld es i) → HoldsAny es (first_of is None)
    at [] k = tt
    at (i ∷ is) k = k i (first_on i is)

  pub holds_last : (is : List ℕ) → IsThread links es key f l is → HoldsAny es l
  holds_last is h = subst (HoldsAny es) (sym h.ends) (at is (holds is h)) where
    at : (is : List ℕ) → ((i : ℕ) → is_on i is ≡ true → IsHeld es i) → HoldsAny es (last_of is None)
    at [] k = tt
    at (i ∷ is) k = subst (HoldsAny es) (sym (last_of-cons is i)) (k (last_in is i) (last_on i is))

-- and so do the neighbours of a slot
module _ (key : Option Held → Bool) (none : key None ≡ false) (links : List Links) (es : List (Option Held)) (f l : Option ℕ) (s : ℕ) (is : List ℕ) (h : IsThread links es key f l is) (on : is_on s is ≡ true) where
  parts : Around s is
  parts = around s is on

  whole : IsThread links es key f l (parts.before ++ s ∷ parts.behind)
  whole = subst (λ js. IsThread links es key f l js) parts.whole h

  own : links_at links s ≡ record { previous = last_of parts.before None; next = first_of parts.behind None }
  own = own_links links s parts.before parts.behind whole.linked

  pub holds_previous : HoldsAny es (links_at links s).previous
  holds_previous = subst (λ (x : Links). HoldsAny es x.previous) (sym own) (at parts.before (λ i q. holds key none links es f l (parts.before ++ s ∷ parts.behind) whole i (on_before i parts.before (s ∷ parts.behind) q))) where
    at : (is : List ℕ) → ((i : ℕ) → is_on i is ≡ true → IsHeld es i) → HoldsAny es (last_of is None)
    at [] k = tt
    at (i ∷ is) k = subst (HoldsAny es) (sym (last_of-cons is i)) (k (last_in is i) (last_on i is))

  pub holds_next : HoldsAny es (links_at links s).next
  holds_next = subst (λ (x : Links). HoldsAny es x.next) (sym own) (at parts.behind (λ i q. holds key none links es f l (parts.before ++ s ∷ parts.behind) whole i (on_behind i parts.before (s ∷ parts.behind) (or_is_true (nat_eq i s) (is_on i parts.behind) q)))) where
    at : (is : List ℕ) → ((i : ℕ) → is_on i is ≡ true → IsHeld es i) → HoldsAny es (first_of is None)
    at [] k = tt
    at (i ∷ is) k = k i (first_on i is)

-- both its ends are there, or neither is
pub thread_ends : (links : List Links) (es : List (Option Held)) (key : Option Held → Bool) (f l : Option ℕ) (is : List ℕ) → IsThread links es key f l is → is_none f ≡ is_none l
thread_ends links es key f l is h = ap is_none h.begins ∙ at is ∙ sym (ap is_none h.ends) where
  at : (is : List ℕ) → is_none (first_of is None) ≡ is_none (last_of is None)
  at [] = refl
  at (i ∷ is) = sym (ap is_none (last_of-cons is i))

-- and do so when one more has come
pub holds_more : (es : List (Option Held)) (s : ℕ) (e : Held) (o : Option ℕ) → s < length es → HoldsAny es o → HoldsAny (set es s (Some e)) o
holds_more es s e None lt h = tt
holds_more es s e (Some i) lt h = record {
  in_pool = subst (λ n. i < n) (sym (length-set es s (Some e))) h.in_pool;
  held = by_bool (nat_eq i s)
      (λ yes. subst (λ k. IsSome (entry_at (set es s (Some e)) k)) (sym (equal i s yes)) (subst (λ (o : Option Held). IsSome o) (sym (get_or-set_same es s (Some e) None lt)) refl))
      (λ apart. subst (λ (o : Option Held). IsSome o) (sym (get_or-set_other es s i (Some e) None (λ q. let yes : nat_eq i s ≡ true = subst (λ k. nat_eq i k ≡ true) q (nat_eq_refl i) in let bad : true ≡ false = sym yes ∙ apart in cc))) h.held);
}

pub sound_at : {es es' : List (Option Held)} {ls ls' : List Links} {shares shares' : List (Option Share)} (moment : ℕ) → es' ≡ es → ls' ≡ ls → shares' ≡ shares → IsSound es ls shares moment → IsSound es' ls' shares' moment
sound_at {es} {es'} {ls} {ls'} {shares} {shares'} moment p r w h =
    subst (λ x. IsSound x ls' shares' moment) (sym p) (subst (λ x. IsSound es x shares' moment) (sym r) (subst (λ x. IsSound es ls x moment) (sym w) h))

-- what contracts see, part by part
pub same_shared : {es es' : List (Option Held)} {rs rs' : List (Option Rule)} {n n' v v' : ℕ} (m k : ℕ) → es ≡ es' → rs ≡ rs' → n ≡ n' → v ≡ v'
    → ◌≡◌ {A = Shared} (record { entries = es; rules = rs; moment = m; calls = k; compared = n; visited = v }) (record { entries = es'; rules = rs'; moment = m; calls = k; compared = n'; visited = v' })
same_shared m k p q r t = λ i. record { entries = p i; rules = q i; moment = m; calls = k; compared = r i; visited = t i }

-- other lines and another count leave the rules
pub rules_stay : (shares : List (Option Share)) (v : ℕ) (share new : Share) → share_at shares v ≡ Some share → rule_of new ≡ rule_of share → map (option_map rule_of) (set shares v (Some new)) ≡ map (option_map rule_of) shares
rules_stay shares v share new here same = map-set_same (option_map rule_of) shares v (Some new) None (ap Some same ∙ sym (ap (option_map rule_of) here))

pub rule_of-with_line : (share : Share) (f : Bool) (ends : Ends) (n : ℕ) → rule_of (record (with_line share f ends) { count = n }) ≡ rule_of share
rule_of-with_line share true ends n = refl
rule_of-with_line share false ends n = refl

-- the entry of a segment that a slot holds
pub record HoldsOf (o : Option Held) (vid : ℕ) : Type 0 where
  pub entry : Held
  pub here : o ≡ Some entry
  pub is_of : entry.vid ≡ vid

pub holds_of : (o : Option Held) (vid : ℕ) → IsOf o vid → HoldsOf o vid
holds_of None vid h = absurd h
holds_of (Some e) vid h = record { entry = e; here = refl; is_of = h }

-- what holds now holds later
aged_later : (es : List (Option Held)) (is : List ℕ) (low high high' : ℕ) → high ≤ high' → IsAged es low is high → IsAged es low is high'
aged_later es [] low high high' le h = omega (arith, le, h)
aged_later es (i ∷ is) low high high' le h = (h.0, aged_later es is (last_at es i) high high' le h.1)

pub sound_later : (es : List (Option Held)) (ls : List Links) (shares : List (Option Share)) (past now : ℕ) → past ≤ now → IsSound es ls shares past → IsSound es ls shares now
sound_later es ls shares past now le h = record {
  line_links = h.line_links;
  shares_length = h.shares_length;
  lined = λ v share at. let k = h.lined v share at in record { list = k.list; thread = k.thread; aged = aged_later es (k.list false) 0 past now le k.aged; count = k.count; limit = k.limit; some_time = k.some_time };
  unique = h.unique;
  free = h.free;
  room = h.room;
}

-- a segment that has a rule has a share
pub has_share : (shares : List (Option Share)) (v : ℕ) → IsSome (rule_at (map (option_map rule_of) shares) v) → IsSome (share_at shares v)
has_share shares v h = from (share_at shares v) (subst (λ (o : Option Rule). IsSome o) (get_or-map (option_map rule_of) shares v None) h)
  where
    from : (o : Option Share) → IsSome (option_map rule_of o) → IsSome o
    from None h = let bad : false ≡ true = h in cc
    from (Some share) h = refl

-- the share of a segment that has room
pub record IsShare (shares : List (Option Share)) (v : ℕ) : Type 0 where
  pub share : Share
  pub here : share_at shares v ≡ Some share

pub share_with_room : (shares : List (Option Share)) (v n : ℕ) → HasRoom (rule_at (map (option_map rule_of) shares) v) n → IsShare shares v
share_with_room shares v n room = from (share_at shares v) refl (subst (λ (o : Option Rule). HasRoom o n) (get_or-map (option_map rule_of) shares v None) room)
  where
    from : (o : Option Share) → share_at shares v ≡ o → HasRoom (option_map rule_of o) n → IsShare shares v
    from None e h = absurd h
    from (Some share) e h = record { share = share; here = e }

-- the same of what a method sees of the tables
pub record HasPlace (i : Inside) (v : ℕ) : Type 0 where
  pub share : Share
  pub here : share_at i.shares.items v ≡ Some share
  pub below : share.count < share.limit

pub has_place : (i : Inside) (now : Shared) (v : ℕ) → shared_of i ≡ now → IsSoundInside i → HasRoom (rule_at now.rules v) (kept_count v now.entries) → HasPlace i v
has_place i now v e h room =
    let inside = subst (λ (s : Shared). HasRoom (rule_at s.rules v) (kept_count v s.entries)) (sym e) room in
    let k = share_with_room i.shares.items v _ inside in
    record { share = k.share; here = k.here; below = room_is i.slots.entries i.slots.lines i.shares.items i.moment v k.share h.sound k.here inside }

-- the share of a rule
pub record HasShare (shares : List (Option Share)) (v : ℕ) (rule : Rule) : Type 0 where
  pub share : Share
  pub here : share_at shares v ≡ Some share
  pub same : rule_of share ≡ rule

pub share_of : (shares : List (Option Share)) (v : ℕ) (rule : Rule) → rule_at (map (option_map rule_of) shares) v ≡ Some rule → HasShare shares v rule
share_of shares v rule h = from (share_at shares v) refl (sym (get_or-map (option_map rule_of) shares v None) ∙ h)
  where
    from : (o : Option Share) → share_at shares v ≡ o → option_map rule_of o ≡ Some rule → HasShare shares v rule
    from None e h = let bad : None ≡ Some rule = h in cc
    from (Some share) e h = record { share = share; here = e; same = (let p : Some (rule_of share) ≡ Some rule = h in cc) }

-- what holds in every state
pub orderly : (es : List (Option Held)) (ls : List Links) (shares : List (Option Share)) (moment calls compared visited : ℕ) → IsSound es ls shares moment
    → IsOrderly (record { entries = es; rules = map (option_map rule_of) shares; moment = moment; calls = calls; compared = compared; visited = visited })
orderly es ls shares moment calls compared visited h = record {
  unique = h.unique;
  some_time = λ v rule at. let k = share_of shares v rule at in subst (λ (r : Rule). 0 < r.ageing) k.same (h.lined v k.share k.here).some_time;
  few = λ v rule at.
      let k = share_of shares v rule at in
      let lines = h.lined v k.share k.here in
      subst (λ (r : Rule). kept_count v es ≤ r.limit) k.same (omega (arith, lines.limit, kept_is es ls v k.share moment lines));
}

-- a moment that isn't there
pub none_is : (o : Option ℕ) (b : Bool) → is_some o ≡ not b → b ≡ is_none o
none_is None true h = refl
none_is None false h = let bad : false ≡ true = h in cc
none_is (Some n) true h = let bad : true ≡ false = h in cc
none_is (Some n) false h = refl
