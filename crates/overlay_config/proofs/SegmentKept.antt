-- A segment of version 1 means the same in version 2.
use Rattle.std.proofs.Common.{◌≡◌, ℕ, ◌-◌, min, codes, Bool, true, false, ◌&&◌, ◌||◌, nat_eq, nat_lt, List, [], ◌∷◌, ◌++◌, length, Option, Some, None, Ok, Err, nat_cmp, is_eq, Ordering, Less, Equal, Greater, refl, sym, ap, subst, ◌∙◌, inl, inr, arith}
use Rattle.std.proofs.lemmas.Bool.{cases_Bool, and_parts, false≢true}
use Rattle.std.proofs.lemmas.Cmp.{nat_list_cmp_total}
use Rattle.std.specs.Cmp.{tied_itself}
use Rattle.std.specs.List.{list_any}
use Rattle.std.specs.Ordering.{match_ordering}
use Rattle.std.specs.Cmp.Lexicographic.{pointwise, slice_cmp, bytes_decides}
use Rattle.toml.specs.Data.{Data, array, table, no_items, item, Members, no_members, member, same_key, get_member}
use Rattle.wire.specs.declared.ip_udp.addr.Tunnel.{Tunnel}
use Rattle.overlay.specs.declared.flood.own.Own.{Own}
use Rattle.overlay.specs.Flood.{Entries}
use Rattle.overlay.specs.declared.underlay.segment.PeerRule.TheVariants.{Any}
use Rattle.overlay.specs.declared.underlay.segment.TagRule.TheVariants.{Drop}
use Rattle.overlay.specs.declared.underlay.limits.Limits.{Limits}
use Rattle.overlay.specs.declared.underlay.tunnels.SegmentTunnel.{SegmentTunnel}
use Rattle.overlay.specs.UnderlaySettings.{own}
use Rattle.config_text.specs.declared.fault.SettingsFault.{SettingsFault}
use Rattle.config_text.specs.declared.fault.SettingsFault.TheVariants.{BadValue, OverLimit}
use Rattle.config_text.specs.Fault.{Meaning, ◌>>=◌}
use Rattle.config_text.specs.Column.{range, truth, one_of, gathered}
use Rattle.config_text.specs.Table.{Place, path, fits, required_value, required, default_value, defaulted, all_known, only, items_value, limited, some_items, required_items, listed, each, numbered}
use Rattle.overlay.specs.declared.settings.segment.SegmentRule.{SegmentRule}
use Rattle.overlay_config.specs.declared.local_rules.LocalRules.{LocalRules}
use Rattle.overlay_config.specs.declared.version.Version.TheVariants.{One, Two}
use Rattle.overlay_config.specs.declared.tunnel.TunnelTable.{TunnelTable}
use Rattle.overlay_config.specs.CommonRules.{common_of, peer_words, tag_words}
use Rattle.overlay_config.specs.LocalRules.{local_of, members_of}
use Rattle.overlay_config.specs.Members.{put_member}
use Rattle.overlay_config.specs.Flood.{put_remote}
use Rattle.overlay_config.specs.Tunnel.{tunnel_words, vni_number, group_number, tunnel_of, flood_of, TunnelRules, tunnel_keys, tunnel_table_of, tunnels_of}
use Rattle.overlay_config.specs.Segment.{local_keys, segment_keys, rules_of, segment_of}
use Rattle.overlay_config.specs.Migrate.{with_value, with_option, without, tunnel_table, migrated_segment}
use Rattle.overlay_config.proofs.Rewrites.{get_without, get_here, get_other, option_here, option_other}
use Rattle.overlay_config.proofs.Readings.{bind_then, ok_is}

-- ---- steps

pub gives : {A B : Type 0} (m : Meaning A) (f : A → Meaning B) (x : A) (y : B) → m ≡ Ok x → f x ≡ Ok y → (m >>= f) ≡ Ok y
gives (Ok z) f x y e h = rw (ok_is z x e) h
gives (Err d) f x y e h = absurd cc

abbrev done : {A : Type 0} → A → Meaning A
done x = Ok x

pub ok_not_err : {A : Type 0} (x : A) (f : SettingsFault) → done x ≡ Err f → ⊥
ok_not_err x f e = cc

same_then : {A B : Type 0} (m : Meaning A) (f g : A → Meaning B) → ((x : A) → f x ≡ g x) → (m >>= f) ≡ (m >>= g)
same_then (Ok x) f g h = h x
same_then (Err d) f g h = refl

same_bind : {A B : Type 0} (m n : Meaning A) (f g : A → Meaning B) → m ≡ n → ((x : A) → f x ≡ g x) → (m >>= f) ≡ (n >>= g)
same_bind m n f g e h = ap (λ o. o >>= f) e ∙ same_then n f g h

-- a fault apart, the path of a key doesn't matter
fits_at : {A : Type 0} (p q : List ℕ) (o : Option A) (x : A) → fits p o ≡ Ok x → fits q o ≡ Ok x
fits_at p q (Some y) x e = e
fits_at p q None x e = absurd cc

required_at : {A : Type 0} (p q : List ℕ) (column : Data → Option A) (o : Option Data) (x : A) → required_value p column o ≡ Ok x → required_value q column o ≡ Ok x
required_at p q column None x e = absurd cc
required_at p q column (Some d) x e = fits_at p q (column d) x e

items_at : (p q : List ℕ) (o : Option Data) (ds : List Data) → items_value p o ≡ Ok ds → items_value q o ≡ Ok ds
items_at p q None ds e = e
items_at p q (Some d) ds e = fits_at p q _ ds e

limited_at : (p q : List ℕ) (limit : ℕ) (ds es : List Data) → limited p limit ds ≡ Ok es → limited q limit ds ≡ Ok es
limited_at p q limit ds es e =
    elim (cases_Bool (nat_lt limit (length ds))) [
      | inl over ↦ absurd (ok_not_err es (OverLimit p) (sym e ∙ rw over refl))
      | inr within ↦ rw within (rw within at e)
    ]

-- the list of a key, gathered
abbrev listed_in : {L : Type 0} → List ℕ → Option Data → ℕ → (L → Data → Option L) → L → Meaning L
listed_in p o limit put empty = (items_value p o >>= limited p limit) >>= λ ds. fits p (gathered put empty ds)

listed_at : {L : Type 0} (p q : List ℕ) (o : Option Data) (limit : ℕ) (put : L → Data → Option L) (empty all : L) → listed_in p o limit put empty ≡ Ok all → listed_in q o limit put empty ≡ Ok all
listed_at p q o limit put empty all e =
    bind_then (items_value p o >>= limited p limit) _ all e (λ ds ds-is e0.
    bind_then (items_value p o) (limited p limit) ds ds-is (λ es es-is e1.
    gives (items_value q o >>= limited q limit) _ ds all (gives (items_value q o) (limited q limit) es ds (items_at p q o es es-is) (limited_at p q limit es ds e1)) (fits_at p q (gathered put empty ds) all e0)))

-- ---- the names of keys

abbrev pub is_known : List (List ℕ) → List ℕ → Bool
is_known keys k = list_any (pointwise nat_eq k) keys

pub apart_back : (k l : List ℕ) → same_key k l ≡ false → pointwise nat_eq l k ≡ false
apart_back k l apart =
    elim (cases_Bool (pointwise nat_eq l k)) [
      | inl same ↦
          let here : same_key k k ≡ false = subst (λ y. same_key k y ≡ false) ((bytes_decides l k).0 same) apart in
          absurd (false≢true (sym here ∙ ap is_eq (tied_itself nat_list_cmp_total k)))
      | inr other ↦ other
    ]

pub any_but : (test : List ℕ → Bool) (xs : List (List ℕ)) (k : List ℕ) (ys : List (List ℕ)) → test k ≡ false → list_any test (xs ++ k ∷ ys) ≡ list_any test (xs ++ ys)
any_but test [] k ys fails = rw fails
any_but test (x ∷ xs) k ys fails = ap (λ b. test x || b) (any_but test xs k ys fails)

both : (a b : Bool) → a ≡ true → b ≡ true → (a && b) ≡ true
both a b x y = rw (x, y)

-- a key that goes needn't be known
known_but : (xs : List (List ℕ)) (k : List ℕ) (ys : List (List ℕ)) (ms : Members) → all_known (xs ++ k ∷ ys) ms ≡ true → all_known (xs ++ ys) (without k ms) ≡ true
known_but xs k ys no_members all = refl
known_but xs k ys (member l d ms) all =
    let (here, more) = and_parts (is_known (xs ++ k ∷ ys) l) (all_known (xs ++ k ∷ ys) ms) all in
    elim (cases_Bool (same_key k l)) [
      | inl same ↦ rw same (known_but xs k ys ms more)
      | inr other ↦ rw other (both _ _ (sym (any_but (pointwise nat_eq l) xs k ys (apart_back k l other)) ∙ here) (known_but xs k ys ms more))
    ]

pub known_fewer : (keys : List (List ℕ)) (k : List ℕ) (ms : Members) → all_known keys ms ≡ true → all_known keys (without k ms) ≡ true
known_fewer keys k no_members all = refl
known_fewer keys k (member l d ms) all =
    let (here, more) = and_parts (is_known keys l) (all_known keys ms) all in
    elim (cases_Bool (same_key k l)) [
      | inl same ↦ rw same (known_fewer keys k ms more)
      | inr other ↦ rw other (both _ _ here (known_fewer keys k ms more))
    ]

known_at : (o : Ordering) (keys : List (List ℕ)) (k : List ℕ) (d : Data) (l : List ℕ) (e : Data) (ms : Members) → is_known keys k ≡ true → is_known keys l ≡ true → all_known keys ms ≡ true → all_known keys (with_value k d ms) ≡ true
    → all_known keys (match_ordering o (member k d (member l e ms)) (member l d ms) (member l e (with_value k d ms))) ≡ true
known_at Less keys k d l e ms new here rest more = rw (new, here, rest)
known_at Equal keys k d l e ms new here rest more = rw (here, rest)
known_at Greater keys k d l e ms new here rest more = rw (here, more)

pub known_with : (keys : List (List ℕ)) (k : List ℕ) (d : Data) (ms : Members) → is_known keys k ≡ true → all_known keys ms ≡ true → all_known keys (with_value k d ms) ≡ true
known_with keys k d no_members new all = rw new
known_with keys k d (member l e ms) new all =
    let (here, more) = and_parts (is_known keys l) (all_known keys ms) all in
    known_at (slice_cmp nat_cmp k l) keys k d l e ms new here more (known_with keys k d ms new more)

pub known_option : (keys : List (List ℕ)) (k : List ℕ) (o : Option Data) (ms : Members) → is_known keys k ≡ true → all_known keys ms ≡ true → all_known keys (with_option k o ms) ≡ true
known_option keys k None ms new all = all
known_option keys k (Some d) ms new all = known_with keys k d ms new all

pub only_known : (at : Place) (keys : List (List ℕ)) (x : Unit {0}) → only at keys ≡ Ok x → all_known keys at.members ≡ true
only_known at keys x e =
    elim (cases_Bool (all_known keys at.members)) [
      | inl all ↦ all
      | inr other ↦ absurd (ok_not_err x (BadValue (path at (codes "*"))) (sym e ∙ rw other refl))
    ]

pub known_only : (at : Place) (keys : List (List ℕ)) (x : Unit {0}) → all_known keys at.members ≡ true → only at keys ≡ Ok x
known_only at keys x all = rw all

-- ---- a segment

abbrev pub place : List ℕ → Members → Place
place prefix members = record { prefix = prefix; members = members }

-- the steps of a migrated segment
abbrev with_vni : Members → Members
with_vni m = with_option (codes "vni") (get_member (codes "vni") m) no_members

abbrev with_kind : Members → Members
with_kind m = with_option (codes "kind") (get_member (codes "tunnel") m) (with_vni m)

abbrev less_vni : Members → Members
less_vni m = without (codes "vni") m

abbrev less_tunnel : Members → Members
less_tunnel m = without (codes "tunnel") (less_vni m)

abbrev less_flood : Members → Members
less_flood m = without (codes "flood") (less_tunnel m)

abbrev one_tunnel : Members → Data
one_tunnel m = array (item (table (tunnel_table m)) no_items)

-- a key that stays
segment_key : (k : List ℕ) (m : Members) → same_key k (codes "tunnel") ≡ false → same_key k (codes "vni") ≡ false → same_key k (codes "flood") ≡ false → get_member k (migrated_segment m) ≡ get_member k m
segment_key k m tunnel vni flood =
    get_other k (codes "tunnel") (one_tunnel m) (less_flood m) tunnel ∙ get_without k (codes "flood") (less_tunnel m) flood ∙ get_without k (codes "tunnel") (less_vni m) tunnel ∙ get_without k (codes "vni") m vni

-- the keys of its tunnel's table
kind_there : (m : Members) → get_member (codes "kind") (tunnel_table m) ≡ get_member (codes "tunnel") m
kind_there m =
    option_other (codes "kind") (codes "flood") (get_member (codes "flood") m) (with_kind m) refl
    ∙ option_here (codes "kind") (get_member (codes "tunnel") m) (with_vni m) (option_other (codes "kind") (codes "vni") (get_member (codes "vni") m) no_members refl)

vni_there : (m : Members) → get_member (codes "vni") (tunnel_table m) ≡ get_member (codes "vni") m
vni_there m =
    option_other (codes "vni") (codes "flood") (get_member (codes "flood") m) (with_kind m) refl
    ∙ option_other (codes "vni") (codes "kind") (get_member (codes "tunnel") m) (with_vni m) refl
    ∙ option_here (codes "vni") (get_member (codes "vni") m) no_members refl

flood_there : (m : Members) → get_member (codes "flood") (tunnel_table m) ≡ get_member (codes "flood") m
flood_there m =
    option_here (codes "flood") (get_member (codes "flood") m) (with_kind m)
    (option_other (codes "flood") (codes "kind") (get_member (codes "tunnel") m) (with_vni m) refl ∙ option_other (codes "flood") (codes "vni") (get_member (codes "vni") m) no_members refl)

group_absent : (m : Members) → get_member (codes "group") (tunnel_table m) ≡ None
group_absent m =
    option_other (codes "group") (codes "flood") (get_member (codes "flood") m) (with_kind m) refl
    ∙ option_other (codes "group") (codes "kind") (get_member (codes "tunnel") m) (with_vni m) refl
    ∙ option_other (codes "group") (codes "vni") (get_member (codes "vni") m) no_members refl

tunnel_known : (m : Members) → all_known tunnel_keys (tunnel_table m) ≡ true
tunnel_known m =
    known_option tunnel_keys (codes "flood") (get_member (codes "flood") m) (with_kind m) refl
    (known_option tunnel_keys (codes "kind") (get_member (codes "tunnel") m) (with_vni m) refl
    (known_option tunnel_keys (codes "vni") (get_member (codes "vni") m) no_members refl refl))

segment_known : (m : Members) → all_known (segment_keys One) m ≡ true → all_known (segment_keys Two) (migrated_segment m) ≡ true
segment_known m all =
    let keys : List (List ℕ) = codes "tunnel" ∷ local_keys ++ codes "flood" ∷ [] in
    let a : all_known (codes "vid" ∷ keys) (less_vni m) ≡ true = known_but (codes "vid" ∷ []) (codes "vni") keys m all in
    let b : all_known (codes "vid" ∷ keys) (less_tunnel m) ≡ true = known_fewer (codes "vid" ∷ keys) (codes "tunnel") (less_vni m) a in
    let c : all_known (segment_keys Two) (less_flood m) ≡ true = known_but (segment_keys Two) (codes "flood") [] (less_tunnel m) b in
    known_with (segment_keys Two) (codes "tunnel") (one_tunnel m) (less_flood m) refl c

-- the table of a tunnel, as what the segment said
abbrev tunnel_as : Tunnel → ℕ → SegmentTunnel
tunnel_as kind vni = record { kind = kind; vni = vni; group = 0 }

abbrev table_as : Tunnel → ℕ → Entries → TunnelTable
table_as kind vni flood = record { tunnel = tunnel_as kind vni; flood = flood }

-- before any remote there is room for all
no_less : (most : ℕ) → most - 0 ≡ most
no_less most = omega arith

table_kept : (own : Own) (most : ℕ) (p q : List ℕ) (m : Members) (kind : Tunnel) (vni : ℕ) (flood : Entries)
    → required (place p m) (codes "vni") vni_number ≡ Ok vni → required (place p m) (codes "tunnel") (one_of tunnel_words) ≡ Ok kind → flood_of own most kind (place p m) ≡ Ok flood
    → tunnel_table_of own most [] (place q (tunnel_table m)) ≡ Ok (table_as kind vni flood)
unfolding tunnel_table_of
table_kept own most p q m kind vni flood vni-is kind-is flood-is =
    let at : Place = place q (tunnel_table m) in
    let all : TunnelTable = table_as kind vni flood in
    gives (only at tunnel_keys) _ tt all (known_only at tunnel_keys tt (tunnel_known m))
    (gives (required at (codes "kind") (one_of tunnel_words)) _ kind all
    (ap (required_value (q ++ codes "kind") (one_of tunnel_words)) (kind_there m) ∙ required_at (p ++ codes "tunnel") (q ++ codes "kind") (one_of tunnel_words) (get_member (codes "tunnel") m) kind kind-is)
    (gives (required at (codes "vni") vni_number) _ vni all
    (ap (required_value (q ++ codes "vni") vni_number) (vni_there m) ∙ required_at (p ++ codes "vni") (q ++ codes "vni") vni_number (get_member (codes "vni") m) vni vni-is)
    (gives (defaulted at (codes "group") group_number 0) _ 0 all (ap (default_value (q ++ codes "group") group_number 0) (group_absent m))
    (gives (listed at (codes "flood") (most - 0) (put_remote own most kind) []) _ flood all
    (ap (λ n. listed at (codes "flood") n (put_remote own most kind) []) (no_less most)
    ∙ ap (λ o. listed_in (q ++ codes "flood") o most (put_remote own most kind) []) (flood_there m) ∙ listed_at (p ++ codes "flood") (q ++ codes "flood") (get_member (codes "flood") m) most (put_remote own most kind) [] flood flood-is)
    refl))))

-- the list under a key, of so many items at most and of one at least
abbrev pub required_from : List ℕ → ℕ → Option Data → Meaning (List Data)
required_from p limit o = (items_value p o >>= limited p limit) >>= some_items p

tunnels_kept : (own : Own) (most : ℕ) (p : List ℕ) (m : Members) (kind : Tunnel) (vni : ℕ) (flood : Entries)
    → required (place p m) (codes "vni") vni_number ≡ Ok vni → required (place p m) (codes "tunnel") (one_of tunnel_words) ≡ Ok kind → flood_of own most kind (place p m) ≡ Ok flood
    → tunnels_of own most (place p (migrated_segment m)) ≡ Ok (tunnel_as kind vni ∷ [], flood)
unfolding tunnels_of
tunnels_kept own most p m kind vni flood vni-is kind-is flood-is =
    let at : Place = place p (migrated_segment m) in
    let name : List ℕ = path at (codes "tunnel") in
    let q : List ℕ = numbered name 1 ++ codes "." in
    let t : TunnelTable = table_as kind vni flood in
    gives (required_items at (codes "tunnel") 2) _ (table (tunnel_table m) ∷ []) (tunnel_as kind vni ∷ [], flood)
    (ap (required_from (p ++ codes "tunnel") 2) (get_here (codes "tunnel") (one_tunnel m) (less_flood m)))
    (gives (each (tunnel_table_of own most) name [] (table (tunnel_table m) ∷ [])) _ (t ∷ []) (tunnel_as kind vni ∷ [], flood)
    (gives (tunnel_table_of own most [] (place q (tunnel_table m))) (λ x. Ok (x ∷ [])) t (t ∷ []) (table_kept own most p q m kind vni flood vni-is kind-is flood-is) refl)
    refl)

-- keys that stay read the same
default_kept : {A : Type 0} (p : List ℕ) (m : Members) (k : List ℕ) (column : Data → Option A) (default : A) → get_member k (migrated_segment m) ≡ get_member k m
    → defaulted (place p (migrated_segment m)) k column default ≡ defaulted (place p m) k column default
default_kept p m k column default same = ap (default_value (p ++ k) column default) same

common_kept : (usual : ℕ) (limits ageings : Data → Option ℕ) (p : List ℕ) (m : Members) → common_of false usual limits ageings (place p (migrated_segment m)) ≡ common_of false usual limits ageings (place p m)
unfolding common_of
common_kept usual limits ageings p m =
    let at : Place = place p (migrated_segment m) in
    let old : Place = place p m in
    same_bind (defaulted at (codes "limit") limits usual) (defaulted old (codes "limit") limits usual) _ _ (default_kept p m (codes "limit") limits usual (segment_key (codes "limit") m refl refl refl)) (λ a.
    same_bind (defaulted at (codes "ageing") ageings 300) (defaulted old (codes "ageing") ageings 300) _ _ (default_kept p m (codes "ageing") ageings 300 (segment_key (codes "ageing") m refl refl refl)) (λ b.
    same_bind (defaulted at (codes "learn") truth true) (defaulted old (codes "learn") truth true) _ _ (default_kept p m (codes "learn") truth true (segment_key (codes "learn") m refl refl refl)) (λ c.
    same_bind (defaulted at (codes "peers") (one_of peer_words) Any) (defaulted old (codes "peers") (one_of peer_words) Any) _ _ (default_kept p m (codes "peers") (one_of peer_words) Any (segment_key (codes "peers") m refl refl refl)) (λ d.
    same_bind (defaulted at (codes "tags") (one_of tag_words) Drop) (defaulted old (codes "tags") (one_of tag_words) Drop) _ _ (default_kept p m (codes "tags") (one_of tag_words) Drop (segment_key (codes "tags") m refl refl refl)) (λ f. refl)))))

members_kept : (p : List ℕ) (m : Members) (k : List ℕ) (ports : ℕ) (other : List ℕ) → get_member k (migrated_segment m) ≡ get_member k m
    → members_of (place p (migrated_segment m)) k ports other ≡ members_of (place p m) k ports other
unfolding members_of
members_kept p m k ports other same = ap (λ o. items_value (p ++ k) o >>= λ ds. fits (p ++ k) (gathered (put_member ports other) [] ds)) same

local_kept : (entries ports : ℕ) (p : List ℕ) (m : Members) → local_of false entries ports (place p (migrated_segment m)) ≡ local_of false entries ports (place p m)
unfolding local_of
local_kept entries ports p m =
    let at : Place = place p (migrated_segment m) in
    let old : Place = place p m in
    same_bind (common_of false (min 256 entries) (range 1 entries) (range 10 1000000) at) (common_of false (min 256 entries) (range 1 entries) (range 10 1000000) old) _ _ (common_kept (min 256 entries) (range 1 entries) (range 10 1000000) p m) (λ c.
    same_bind (members_of at (codes "untagged") ports []) (members_of old (codes "untagged") ports []) _ _ (members_kept p m (codes "untagged") ports [] (segment_key (codes "untagged") m refl refl refl)) (λ untagged.
    same_bind (members_of at (codes "tagged") ports untagged) (members_of old (codes "tagged") ports untagged) _ _ (members_kept p m (codes "tagged") ports untagged (segment_key (codes "tagged") m refl refl refl)) (λ tagged. refl)))

rules_kept : (own : Own) (limits : Limits) (ports : ℕ) (p : List ℕ) (m : Members) (rules : TunnelRules × LocalRules) → rules_of One own limits ports (place p m) ≡ Ok rules → rules_of Two own limits ports (place p (migrated_segment m)) ≡ Ok rules
unfolding rules_of tunnel_of
rules_kept own limits ports p m rules e =
    let old : Place = place p m in
    let at : Place = place p (migrated_segment m) in
    bind_then (tunnel_of old) _ rules e (λ tunnel tunnel-is e0.
    bind_then (required old (codes "vni") vni_number) _ tunnel tunnel-is (λ vni vni-is t0.
    bind_then (required old (codes "tunnel") (one_of tunnel_words)) _ tunnel t0 (λ kind kind-is t1.
    bind_then (local_of false limits.entries ports old) _ rules e0 (λ local local-is e1.
    bind_then (flood_of own limits.flood tunnel.kind old) _ rules e1 (λ flood flood-is e2.
    let is : tunnel_as kind vni ≡ tunnel = ok_is (tunnel_as kind vni) tunnel t1 in
    let flood-of : flood_of own limits.flood kind old ≡ Ok flood = subst (λ t. flood_of own limits.flood t.kind old ≡ Ok flood) (sym is) flood-is in
    gives (tunnels_of own limits.flood at) _ (tunnel_as kind vni ∷ [], flood) rules (tunnels_kept own limits.flood p m kind vni flood vni-is kind-is flood-of)
    (gives (local_of false limits.entries ports at) _ local rules (local_kept limits.entries ports p m ∙ local-is)
    (ap (λ t. Ok ((t ∷ [], flood), local)) is ∙ e2)))))))

pub segment_kept : (own : Own) (limits : Limits) (ports : ℕ) (earlier : List SegmentRule) (p : List ℕ) (m : Members) (x : SegmentRule) → segment_of One own limits ports earlier (place p m) ≡ Ok x → segment_of Two own limits ports earlier (place p (migrated_segment m)) ≡ Ok x
unfolding segment_of
segment_kept own limits ports earlier p m x e =
    let old : Place = place p m in
    let at : Place = place p (migrated_segment m) in
    bind_then (only old (segment_keys One)) _ x e (λ known known-is e0.
    bind_then (required old (codes "vid") (range 1 4094)) _ x e0 (λ vid vid-is e1.
    bind_then (rules_of One own limits ports old) _ x e1 (λ rules rules-is e2.
    gives (only at (segment_keys Two)) _ known x (known_only at (segment_keys Two) known (segment_known m (only_known old (segment_keys One) known known-is)))
    (gives (required at (codes "vid") (range 1 4094)) _ vid x (ap (required_value (p ++ codes "vid") (range 1 4094)) (segment_key (codes "vid") m refl refl refl) ∙ vid-is)
    (gives (rules_of Two own limits ports at) _ rules x (rules_kept own limits ports p m rules rules-is) e2)))))
