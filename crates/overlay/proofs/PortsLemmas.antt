-- The member set and the segments as they are told.
use Rattle.std.proofs.Common.{◌≡◌, ℕ, ◌<◌, ◌≤◌, Bool, true, false, ◌&&◌, ◌||◌, cond, eqb, leb, List, [], ◌∷◌, ◌++◌, length, map, get_or, Option, None, Some, refl, sym, ap, ◌∙◌, arith, inl, inr}
use Rattle.std.specs.List.{list_all}
use Rattle.std.proofs.lemmas.Bool.{cases_Bool, cond-true, cond-false, eqb-true, false≢true, and_parts, and_from, leb-true, le-leb}
use Rattle.std.proofs.lemmas.List.{map_push}
use Rattle.std.proofs.lemmas.List.Folds.{list_all_at}
use Rattle.std.specs.FinMap.{FinMap, empty, get, insert, from_entries, get-empty}
use Rattle.std.specs.Ordering.{nat_cmp}
use Rattle.std.specs.Prelude.{unwrap_or, is_some}
use Rattle.std.specs.Option.{option_and_then}
use Rattle.overlay.specs.Bits.{egress_in, segment_in, segments_in, stands_in}
use Rattle.overlay.specs.Row.{Row, row_at}
use Rattle.overlay.specs.PortsRules.{members_or_none, with_members}
use Rattle.overlay.specs.Ports.{Ports, Members, Segments, members_at, has_segment, egress_at, with_segment, with_each, with_member, without_segment, with_rule, told, members_of, is_port, are_ports, lists_ports}
use Rattle.overlay.specs.declared.ports.member.Egress.{Egress}
use Rattle.overlay.specs.declared.ports.member.Egress.TheVariants.{Tagged, Untagged}
use Rattle.overlay.specs.declared.ports.member.MemberRule.{MemberRule}
use Rattle.overlay.specs.declared.ports.port.PortRule.{PortRule}
use Rattle.overlay.proofs.PlacesLemmas.{get-insert_at, get-insert_same, same_maps}
use Rattle.overlay.proofs.SegmentLemmas.{get-segments, is_some-segment, egress-segment, segments-put, segments-added, segments-removed}

-- ---- the segments, from their words

-- the ports and segments that these ports and words are
abbrev pub shown : List PortRule → List ℕ → Ports
shown ports words = record { ports = ports; segments = segments_in (length ports) words }

module _ (ports : List PortRule) (words : List ℕ) (s : Ports) (vid : ℕ) (is : shown ports words ≡ s) (small : vid < 4096) where
  -- what is read of a segment
  pub read-members : segment_in (length ports) words vid ≡ members_at s vid
  read-members = sym (get-segments (length ports) words vid small) ∙ ap (λ (t : Ports). members_at t vid) is

  pub read-has : stands_in words vid ≡ has_segment s vid
  read-has = sym (is_some-segment (length ports) words vid) ∙ ap is_some read-members

  pub read-egress : (port : ℕ) → 1 ≤ port → port ≤ length s.ports → has_segment s vid ≡ true → egress_in words vid port ≡ egress_at s vid port
  read-egress port low high there =
      let within : port ≤ length ports = omega (arith, high, ap (λ (t : Ports). length t.ports) is) in
      sym (egress-segment (length ports) words vid port low within (read-has ∙ there)) ∙ ap (option_and_then (λ (m : Members). get m port)) read-members

  -- as a row shows it
  pub read-row : (p : List PortRule) (w : List ℕ) → p ≡ ports → w ≡ words → ◌≡◌ {A = Row} (record { ports = p; members = segment_in (length p) w vid }) (row_at s vid)
  read-row p w same alike =
      (λ i. let r : Row = record { ports = same i; members = segment_in (length (same i)) (alike i) vid } in r)
      ∙ (λ i. let r : Row = record { ports = (is i).ports; members = read-members i } in r)

  -- what a write leaves: one with a port changed, one more, or one less
  pub shown-put : (now : List ℕ) (port : ℕ) (egress : Option Egress) → 1 ≤ port → port ≤ length s.ports → has_segment s vid ≡ true
      → ((v p : ℕ) → v < 4096 → egress_in now v p ≡ cond (eqb v vid && eqb p port) egress (egress_in words v p))
      → ((v : ℕ) → v < 4096 → stands_in now v ≡ stands_in words v) → shown ports now ≡ with_member s vid port egress
  shown-put now port egress low high there put stood =
      let within : port ≤ length ports = omega (arith, high, ap (λ (t : Ports). length t.ports) is) in
      ap (λ (m : Segments). let t : Ports = record { ports = ports; segments = m } in t)
      (segments-put (length ports) now words vid small port egress low within (read-has ∙ there) put stood)
      ∙ ap (λ (t : Ports). with_member t vid port egress) is

  pub shown-added : (now : List ℕ)
      → ((v p : ℕ) → v < 4096 → 1 ≤ p → p ≤ length ports → egress_in now v p ≡ cond (eqb v vid) None (egress_in words v p))
      → ((v : ℕ) → v < 4096 → stands_in now v ≡ (eqb v vid || stands_in words v)) → shown ports now ≡ with_segment s vid
  shown-added now put stood =
      ap (λ (m : Segments). let t : Ports = record { ports = ports; segments = m } in t) (segments-added (length ports) now words vid small put stood)
      ∙ ap (λ (t : Ports). with_segment t vid) is

  pub shown-removed : (now : List ℕ)
      → ((v p : ℕ) → v < 4096 → 1 ≤ p → egress_in now v p ≡ egress_in words v p)
      → ((v : ℕ) → v < 4096 → stands_in now v ≡ cond (eqb v vid) false (stands_in words v)) → shown ports now ≡ without_segment s vid
  shown-removed now kept stood =
      ap (λ (m : Segments). let t : Ports = record { ports = ports; segments = m } in t) (segments-removed (length ports) now words vid small kept stood)
      ∙ ap (λ (t : Ports). without_segment t vid) is

-- ---- members put one after another

insert-insert : {X : Type 0} (m : FinMap nat_cmp X) (k : ℕ) (x y : X) → insert (insert m k x) k y ≡ insert m k y
insert-insert m k x y = same_maps _ _ (λ q. get-insert_at (insert m k x) k y q ∙ ap (cond (eqb q k) (Some y)) (get-insert_at m k x q) ∙ again (eqb q k) q ∙ sym (get-insert_at m k y q))
  where
    again : (b : Bool) (q : ℕ) → cond b (Some y) (cond b (Some x) (get m q)) ≡ cond b (Some y) (get m q)
    again true q = refl
    again false q = refl

-- the members of a segment that has just been written
pub members-with : (s : Ports) (vid : ℕ) (m : Members) → members_or_none (with_members s vid m) vid ≡ m
members-with s vid m = ap (λ (o : Option Members). unwrap_or o empty) (get-insert_same s.segments vid m)

pub with-with : (s : Ports) (vid : ℕ) (m n : Members) → with_members (with_members s vid m) vid n ≡ with_members s vid n
with-with s vid m n = ap (λ (z : Segments). let t : Ports = record { ports = s.ports; segments = z } in t) (insert-insert s.segments vid m n)

pub has-with : (s : Ports) (vid : ℕ) (m : Members) → has_segment (with_members s vid m) vid ≡ true
has-with s vid m = ap is_some (get-insert_same s.segments vid m)

-- its own members written again change nothing
pub with-own : (s : Ports) (vid : ℕ) → has_segment s vid ≡ true → with_members s vid (members_or_none s vid) ≡ s
with-own s vid there = ap (λ (z : Segments). let t : Ports = record { ports = s.ports; segments = z } in t) (same_maps _ _ alike)
  where
    own : (o : Option Members) → is_some o ≡ true → Some (unwrap_or o empty) ≡ o
    own (Some m) h = refl
    own None h = absurd (false≢true h)

    alike : (q : ℕ) → get (insert s.segments vid (members_or_none s vid)) q ≡ get s.segments q
    alike q = elim (cases_Bool (eqb q vid)) [
      | inl is ↦
          get-insert_at s.segments vid (members_or_none s vid) q ∙ cond-true (eqb q vid) _ (get s.segments q) is ∙ own (members_at s vid) there
          ∙ ap (get s.segments) (sym (eqb-true q vid is))
      | inr ne ↦ get-insert_at s.segments vid (members_or_none s vid) q ∙ cond-false (eqb q vid) _ (get s.segments q) ne
    ]

-- ---- the numbers of ports

-- a test that holds of all holds of each
pub list_all-get_or : {X : Type 0} (p : X → Bool) (xs : List X) (i : ℕ) (d : X) → i < length xs → list_all p xs ≡ true → p (get_or xs i d) ≡ true
list_all-get_or p xs i d lt all = elim (cases_Bool (p (get_or xs i d))) [
  | inl holds ↦ holds
  | inr fails ↦ absurd (false≢true (sym (list_all_at p xs i d lt fails) ∙ all))
]

pub is_port-bounds : (count port : ℕ) → is_port count port ≡ true → (1 ≤ port) × (port ≤ count)
is_port-bounds count port h =
    let both = and_parts (leb 1 port) (leb port count) h in
    (leb-true 1 port both.0, leb-true port count both.1)

is_port-more : (m n port : ℕ) → m ≤ n → is_port m port ≡ true → is_port n port ≡ true
is_port-more m n port le h =
    let bounds = is_port-bounds m port h in
    and_from (leb 1 port) (leb port n) (le-leb 1 port bounds.0) (le-leb port n (omega (arith, bounds.1)))

are_ports-more : (m n : ℕ) (ports : List ℕ) → m ≤ n → are_ports m ports ≡ true → are_ports n ports ≡ true
are_ports-more m n [] le h = refl
are_ports-more m n (port ∷ ports) le h =
    let both = and_parts (is_port m port) (are_ports m ports) h in
    and_from (is_port n port) (are_ports n ports) (is_port-more m n port le both.0) (are_ports-more m n ports le both.1)

-- where there are more ports
pub lists_ports-more : (m n : ℕ) (rule : MemberRule) → m ≤ n → lists_ports m rule ≡ true → lists_ports n rule ≡ true
lists_ports-more m n rule le h =
    let both = and_parts (are_ports m rule.untagged) (are_ports m rule.tagged) h in
    and_from (are_ports n rule.untagged) (are_ports n rule.tagged) (are_ports-more m n rule.untagged le both.0) (are_ports-more m n rule.tagged le both.1)

-- ---- rules one after another

-- the first of two
abbrev or_else : Option Members → Option Members → Option Members
or_else (Some m) next = Some m
or_else None next = next

-- what a map of entries has, with one entry put behind them
get-push : (es : List (ℕ × Members)) (k : ℕ) (m : Members) (q : ℕ) → get (from_entries {R = nat_cmp} (es ++ (k, m) ∷ [])) q ≡ or_else (get (from_entries {R = nat_cmp} es) q) (cond (eqb q k) (Some m) None)
get-push [] k m q =
    let none_there = get-empty {X = Members} nat_cmp q in
    get-insert_at empty k m q ∙ ap (λ (o : Option Members). cond (eqb q k) (Some m) o) none_there
    ∙ sym (ap (λ (o : Option Members). or_else o (cond (eqb q k) (Some m) None)) none_there)
get-push (e ∷ es) k m q =
    get-insert_at (from_entries {R = nat_cmp} (es ++ (k, m) ∷ [])) e.0 e.1 q
    ∙ ap (λ (o : Option Members). cond (eqb q e.0) (Some e.1) o) (get-push es k m q)
    ∙ passed (eqb q e.0) e.1 (get (from_entries {R = nat_cmp} es) q) (cond (eqb q k) (Some m) None)
    ∙ ap (λ (o : Option Members). or_else o (cond (eqb q k) (Some m) None)) (sym (get-insert_at (from_entries {R = nat_cmp} es) e.0 e.1 q))
  where
    passed : (b : Bool) (x : Members) (o next : Option Members) → cond b (Some x) (or_else o next) ≡ or_else (cond b (Some x) o) next
    passed true x o next = refl
    passed false x o next = refl

there : (o : Option Members) (b : Bool) (m : Members) → (b ≡ true → is_some o ≡ true) → or_else o (cond b (Some m) None) ≡ o
there (Some x) b m h = refl
there None true m h = absurd (false≢true (h refl))
there None false m h = refl

not_there : (o : Option Members) (b : Bool) (m : Members) → (b ≡ true → is_some o ≡ false) → or_else o (cond b (Some m) None) ≡ cond b (Some m) o
not_there (Some x) true m h = absurd (false≢true (sym (h refl)))
not_there (Some x) false m h = refl
not_there None true m h = refl
not_there None false m h = refl

-- it counts where its key isn't among theirs
from_entries-push : (es : List (ℕ × Members)) (k : ℕ) (m : Members) → from_entries {R = nat_cmp} (es ++ (k, m) ∷ []) ≡ cond (is_some (get (from_entries {R = nat_cmp} es) k)) (from_entries {R = nat_cmp} es) (insert (from_entries {R = nat_cmp} es) k m)
from_entries-push es k m =
    let before = from_entries {R = nat_cmp} es in
    elim (cases_Bool (is_some (get before k))) [
      | inl has ↦
          same_maps _ _ (λ q. get-push es k m q ∙ there (get before q) (eqb q k) m (λ e. ap (λ (i : ℕ). is_some (get before i)) (eqb-true q k e) ∙ has))
          ∙ sym (cond-true (is_some (get before k)) before (insert before k m) has)
      | inr lacks ↦
          same_maps _ _ (λ q. get-push es k m q ∙ not_there (get before q) (eqb q k) m (λ e. ap (λ (i : ℕ). is_some (get before i)) (eqb-true q k e) ∙ lacks) ∙ sym (get-insert_at before k m q))
          ∙ sym (cond-false (is_some (get before k)) before (insert before k m) lacks)
    ]

pub told-push : (ports : List PortRule) (rules : List MemberRule) (rule : MemberRule) → with_rule (told ports rules) rule ≡ told ports (rules ++ rule ∷ [])
told-push ports rules rule =
    let entry : MemberRule → ℕ × Members = λ r. (r.vid, members_of r) in
    let before = from_entries {R = nat_cmp} (map entry rules) in
    let within = λ (m : Segments). let t : Ports = record { ports = ports; segments = m } in t in
    let last = insert before rule.vid (members_of rule) in
    into (is_some (get before rule.vid)) before last
    ∙ ap within (sym (from_entries-push (map entry rules) rule.vid (members_of rule)) ∙ ap (from_entries {R = nat_cmp}) (sym (map_push entry rules rule)))
  where
    into : (b : Bool) (m n : Segments) → ◌≡◌ {A = Ports} (cond b (record { ports = ports; segments = m }) (record { ports = ports; segments = n })) (record { ports = ports; segments = cond b m n })
    into true m n = refl
    into false m n = refl

-- a port of no segment
pub no_egress : (s : Ports) (vid port : ℕ) → has_segment s vid ≡ false → None ≡ egress_at s vid port
no_egress s vid port lacks = at (members_at s vid) lacks
  where
    at : (o : Option Members) → is_some o ≡ false → None ≡ option_and_then (λ (m : Members). get m port) o
    at (Some m) h = absurd (false≢true (sym h))
    at None h = refl

-- a segment that was added, and its members put in by both lists of a rule
module _ (s s1 s2 s3 : Ports) (rule : MemberRule) (tagged untagged : List ℕ) (with_tag : tagged ≡ rule.tagged) (without_tag : untagged ≡ rule.untagged)
    (added : s1 ≡ with_segment s rule.vid)
    (first : s2 ≡ with_members s1 rule.vid (with_each tagged Tagged (members_or_none s1 rule.vid)))
    (second : s3 ≡ with_members s2 rule.vid (with_each untagged Untagged (members_or_none s2 rule.vid))) where
  some-is : with_each tagged Tagged (members_or_none s1 rule.vid) ≡ with_each rule.tagged Tagged empty
  some-is = let none : members_or_none s1 rule.vid ≡ empty = ap (λ (t : Ports). members_or_none t rule.vid) added ∙ members-with s rule.vid empty in λ i. with_each (with_tag i) Tagged (none i)

  two : s2 ≡ with_members s rule.vid (with_each tagged Tagged (members_or_none s1 rule.vid))
  two =
      let m : Members = with_each tagged Tagged (members_or_none s1 rule.vid) in
      first ∙ ap (λ (t : Ports). with_members t rule.vid m) added ∙ with-with s rule.vid empty m

  all-is : with_each untagged Untagged (members_or_none s2 rule.vid) ≡ members_of rule
  all-is =
      let m : Members = with_each tagged Tagged (members_or_none s1 rule.vid) in
      let before : members_or_none s2 rule.vid ≡ with_each rule.tagged Tagged empty = ap (λ (t : Ports). members_or_none t rule.vid) two ∙ members-with s rule.vid m ∙ some-is in
      λ i. with_each (without_tag i) Untagged (before i)

  pub ruled : s3 ≡ with_members s rule.vid (members_of rule)
  ruled =
      let m : Members = with_each tagged Tagged (members_or_none s1 rule.vid) in
      let n : Members = with_each untagged Untagged (members_or_none s2 rule.vid) in
      second ∙ ap (λ (t : Ports). with_members t rule.vid n) two ∙ with-with s rule.vid m n ∙ ap (with_members s rule.vid) all-is
