-- Limits that nobody asks for change nothing: what settings meant before, they mean.
use Rattle.std.proofs.Common.{◌≡◌, ℕ, zero, suc, codes, ◌≤◌, Bool, true, false, cond, ◌&&◌, nat_le, nat_eq, List, [], ◌∷◌, ◌++◌, length, Option, Some, None, option_and_then, is_some, Ok, Err, ℤ, pos, negsuc, nat_cmp, refl, sym, ap, subst, ◌∙◌, inl, inr, arith}
use Rattle.std.proofs.lemmas.Bool.{cases_Bool, and_parts, leb-true, false≢true}
use Rattle.std.specs.Cmp.Lexicographic.{pointwise, slice_cmp}
use Rattle.toml.specs.Data.{Data, integer, Members, no_members, member, same_key, get_member, as_integer}
use Rattle.overlay.specs.declared.flood.own.Own.{Own}
use Rattle.overlay.specs.declared.underlay.limits.Limits.{Limits}
use Rattle.overlay.specs.declared.underlay.settings.Underlay.{Underlay}
use Rattle.overlay.specs.UnderlaySettings.{own}
use Rattle.config_text.specs.declared.fault.SettingsFault.TheVariants.{BadValue}
use Rattle.config_text.specs.Fault.{Meaning, ◌>>=◌}
use Rattle.config_text.specs.Column.{in_range, range, truth}
use Rattle.config_text.specs.Table.{Place, top, path, required_value, required, default_value, optional_value, all_known, only, table_value, subtable, required_items, each}
use Rattle.overlay.specs.Settings.{Settings}
use Rattle.overlay_config.specs.declared.version.Version.{Version}
use Rattle.overlay_config.specs.declared.version.Version.TheVariants.{One, Two, Three}
use Rattle.overlay_config.specs.Version.{version_named}
use Rattle.overlay_config.specs.Limits.{addresses_in, usual_limits, limits_in, limits_of}
use Rattle.overlay_config.specs.Port.{port_of}
use Rattle.overlay_config.specs.Underlay.{underlay_of, underlay_keys, partial_of}
use Rattle.overlay_config.specs.Settings.{is_third, top_keys, segments_of, version_of, given_pool_of, pool_for, settings_of}
use Rattle.overlay_config.specs.Before as before
use Rattle.overlay_config.specs.Migrate.{with_value}
use Rattle.overlay_config.proofs.Rewrites.{get_here, get_other, is_equal, same_is, pass}
use Rattle.overlay_config.proofs.Readings.{bind_then, ok_is, fits_ok, when_ok}
use Rattle.overlay_config.proofs.Steps.{steps_of}
use Rattle.overlay_config.proofs.Third.{segments_from, segments_third}
use Rattle.overlay_config.proofs.SegmentKept.{gives, is_known, any_but, apart_back, required_from, known_with, only_known, known_only}

-- ---- the names of keys

some_none : {A : Type 0} (x : A) → Some x ≡ None → ⊥
some_none x e = cc

-- a key that isn't there is none of those that are
gone_here : (k l : List ℕ) (d : Data) (ms : Members) → get_member k (member l d ms) ≡ None → (same_key k l ≡ false) × (get_member k ms ≡ None)
gone_here k l d ms none =
    elim (cases_Bool (same_key k l)) [
      | inl same ↦ absurd (some_none d (sym (rw (is_equal (slice_cmp nat_cmp k l) same) refl) ∙ none))
      | inr other ↦ (other, sym (pass (slice_cmp nat_cmp k l) (get_member k ms) (Some d) other) ∙ none)
    ]

-- whether a key that isn't there is known doesn't matter
pub known_same : (xs : List (List ℕ)) (k : List ℕ) (ys : List (List ℕ)) (ms : Members) → get_member k ms ≡ None → all_known (xs ++ k ∷ ys) ms ≡ all_known (xs ++ ys) ms
known_same xs k ys no_members none = refl
known_same xs k ys (member l d ms) none =
    let g = gone_here k l d ms none in
    rw (any_but (pointwise nat_eq l) xs k ys (apart_back k l g.0), known_same xs k ys ms g.1) refl

-- a key that isn't known isn't there
pub unknown_gone : (keys : List (List ℕ)) (k : List ℕ) (ms : Members) → is_known keys k ≡ false → all_known keys ms ≡ true → get_member k ms ≡ None
unknown_gone keys k no_members unknown all = refl
unknown_gone keys k (member l d ms) unknown all =
    let (here, more) = and_parts (is_known keys l) (all_known keys ms) all in
    elim (cases_Bool (same_key k l)) [
      | inl same ↦ absurd (false≢true (sym unknown ∙ ap (is_known keys) (same_is k l same) ∙ here))
      | inr other ↦ pass (slice_cmp nat_cmp k l) (get_member k ms) (Some d) other ∙ unknown_gone keys k ms unknown more
    ]

-- ---- the version

-- this is version 3
abbrev pub is_three : Version → Bool
is_three One = false
is_three Two = false
is_three Three = true

number_within : (m : ℕ) → 1 ≤ m → m ≤ 3 → is_some (in_range 3 3 (pos m)) ≡ is_three (version_named m)
number_within zero low high = absurd (omega (arith, low))
number_within (suc zero) low high = refl
number_within (suc (suc zero)) low high = refl
number_within (suc (suc (suc zero))) low high = refl
number_within (suc (suc (suc (suc m)))) low high = absurd (omega (arith, high))

from_integer : (o : Option ℤ) (n : ℕ) → option_and_then (in_range 1 3) o ≡ Some n → is_some (option_and_then (in_range 3 3) o) ≡ is_three (version_named n)
from_integer None n e = absurd cc
from_integer (Some (negsuc m)) n e = absurd cc
from_integer (Some (pos m)) n e =
    let k = when_ok (nat_le 1 m && nat_le m 3) m n e in
    let p = and_parts (nat_le 1 m) (nat_le m 3) k.0 in
    subst (λ (x : ℕ). is_some (in_range 3 3 (pos m)) ≡ is_three (version_named x)) k.1 (number_within m (leb-true 1 m p.0) (leb-true m 3 p.1))

from_required : (p : List ℕ) (o : Option Data) (n : ℕ) → required_value p (range 1 3) o ≡ Ok n → is_some (option_and_then (range 3 3) o) ≡ is_three (version_named n)
from_required p None n e = absurd cc
from_required p (Some d) n e = from_integer (as_integer d) n (fits_ok p (range 1 3 d) n e)

-- it's the third version just where its value says so
pub third_is : (at : Place) (v : Version) → version_of at ≡ Ok v → is_third at ≡ is_three v
unfolding version_of
third_is at v e =
    bind_then (only at (top_keys (is_third at))) _ v e (λ known known-is e0.
    bind_then (required at (codes "version") (range 1 3)) _ v e0 (λ n n-is e1.
    subst (λ (w : Version). is_third at ≡ is_three w) (ok_is (version_named n) v e1) (from_required (path at (codes "version")) (get_member (codes "version") at.members) n n-is)))

-- the keys of a version are known, and its number is there
pub version_by : (at : Place) (third : Bool) (n : ℕ) → is_third at ≡ third → all_known (top_keys third) at.members ≡ true → required at (codes "version") (range 1 3) ≡ Ok n → version_of at ≡ Ok (version_named n)
unfolding version_of
version_by at third n is all number =
    gives (only at (top_keys (is_third at))) _ tt (version_named n) (known_only at (top_keys (is_third at)) tt (subst (λ (b : Bool). all_known (top_keys b) at.members ≡ true) (sym is) all))
    (gives (required at (codes "version") (range 1 3)) _ n (version_named n) number refl)

-- the keys of a version that was read are known
pub keys_of : (at : Place) (v : Version) → version_of at ≡ Ok v → all_known (top_keys (is_three v)) at.members ≡ true
unfolding version_of
keys_of at v e =
    bind_then (only at (top_keys (is_third at))) _ v e (λ known known-is e0.
    subst (λ (b : Bool). all_known (top_keys b) at.members ≡ true) (third_is at v e) (only_known at (top_keys (is_third at)) known known-is))

-- ---- settings that ask for no limits

abbrev gone : Members → Type 0
gone ms = get_member (codes "limits") ms ≡ None

more_known : (third : Bool) (ms : Members) → gone ms → all_known (top_keys third) ms ≡ all_known before.top_keys ms
more_known false ms none = refl
more_known true ms none = known_same (codes "version" ∷ codes "pool" ∷ []) (codes "limits") (codes "underlay" ∷ codes "port" ∷ codes "segment" ∷ []) ms none

-- the version, where all keys are known or not
abbrev pub known_by : Place → Bool → Meaning (Unit {0})
known_by at all = cond all (Ok tt) (Err (BadValue (path at (codes "*"))))

abbrev version_behind : Place → Bool → Meaning Version
version_behind at all = known_by at all >>= λ known. required at (codes "version") (range 1 3) >>= λ number. Ok (version_named number)

same_version : (ms : Members) → all_known (top_keys (is_third (top ms))) ms ≡ all_known before.top_keys ms → version_of (top ms) ≡ before.version_of (top ms)
unfolding version_of before.version_of
same_version ms e = ap (version_behind (top ms)) e

usual_of : (v : Version) (at : Place) → is_three v ≡ false → limits_of v at ≡ Ok usual_limits
usual_of One at e = refl
usual_of Two at e = refl
usual_of Three at e = absurd (false≢true (sym e))

abbrev limits_from : Option Data → Meaning Limits
limits_from o = (table_value (codes "limits") o >>= λ members. Ok (record { prefix = codes "limits" ++ codes "."; members = members })) >>= limits_in

-- an absent table means the usual limits
pub absent_limits : (v : Version) (ms : Members) → gone ms → limits_of v (top ms) ≡ Ok usual_limits
unfolding limits_in
absent_limits One ms none = refl
absent_limits Two ms none = refl
absent_limits Three ms none = ap limits_from none

-- what stands behind the version, by the limits
abbrev behind : Members → Version → Meaning Limits → Meaning Settings
behind ms v m =
    given_pool_of (addresses_in m) (top ms) >>= λ given. m >>= λ limits. subtable (top ms) (codes "underlay") >>= λ below.
    underlay_of v limits below >>= λ underlay. required_items (top ms) (codes "port") limits.ports >>= λ tables.
    each (λ earlier at. port_of at) (codes "port") [] tables >>= λ ports.
    segments_of v limits (own underlay) (length ports) (top ms) >>= λ segments. pool_for given segments >>= λ pool.
    Ok (record { underlay = underlay; ports = ports; segments = segments; pool = pool })

bind_same : {A B : Type 0} (m : Meaning A) (f g : A → Meaning B) → ((x : A) → m ≡ Ok x → f x ≡ g x) → (m >>= f) ≡ (m >>= g)
bind_same (Ok x) f g h = h x refl
bind_same (Err d) f g h = refl

by_limits : (ms : Members) → settings_of ms ≡ (version_of (top ms) >>= λ v. behind ms v (limits_of v (top ms)))
unfolding settings_of
by_limits ms = refl

by_usual : (ms : Members) → before.settings_of ms ≡ (before.version_of (top ms) >>= λ v. behind ms v (Ok usual_limits))
unfolding before.settings_of before.segments_of segments_of
by_usual ms = refl

same_settings : (ms : Members) → version_of (top ms) ≡ before.version_of (top ms) → ((v : Version) → version_of (top ms) ≡ Ok v → limits_of v (top ms) ≡ Ok usual_limits) → settings_of ms ≡ before.settings_of ms
same_settings ms versions usual =
    by_limits ms
    ∙ bind_same (version_of (top ms)) (λ v. behind ms v (limits_of v (top ms))) (λ v. behind ms v (Ok usual_limits)) (λ v v-is. ap (behind ms v) (usual v v-is))
    ∙ ap (λ m. m >>= λ v. behind ms v (Ok usual_limits)) versions
    ∙ sym (by_usual ms)

-- where the version isn't the third
pub others_same : (ms : Members) → is_third (top ms) ≡ false → settings_of ms ≡ before.settings_of ms
others_same ms other =
    same_settings ms (same_version ms (ap (λ b. all_known (top_keys b) ms) other)) (λ v v-is. usual_of v (top ms) (sym (third_is (top ms) v v-is) ∙ other))

-- where there is no table of limits
pub absent_same : (ms : Members) → gone ms → settings_of ms ≡ before.settings_of ms
absent_same ms none = same_settings ms (same_version ms (more_known (is_third (top ms)) ms none)) (λ v v-is. absent_limits v ms none)

-- ---- version 2 as version 3

-- with 3 in place of the version
abbrev version_3 : Members → Members
version_3 ms = with_value (codes "version") (integer (pos 3)) ms

version_three : (ms : Members) → version_of (top ms) ≡ Ok Two → version_of (top (version_3 ms)) ≡ Ok Three
version_three ms two =
    let all = keys_of (top ms) Two two in
    let none = unknown_gone (top_keys false) (codes "limits") ms refl all in
    let here = get_here (codes "version") (integer (pos 3)) ms in
    version_by (top (version_3 ms)) true 3 (ap (λ o. is_some (option_and_then (range 3 3) o)) here)
    (known_with (top_keys true) (codes "version") (integer (pos 3)) ms refl (more_known true ms none ∙ all))
    (ap (required_value (codes "version") (range 1 3)) here)

-- the keys up to `partial`, and behind it
abbrev keys_up : List (List ℕ)
keys_up =
    codes "mac" ∷ codes "next_hop" ∷ codes "ip4" ∷ codes "ip6" ∷ codes "mtu" ∷ codes "ttl" ∷ codes "vxlan_port" ∷ codes "geneve_port" ∷ codes "sum4" ∷ codes "sum6" ∷ codes "zero6" ∷ []

abbrev keys_on : List (List ℕ)
keys_on = codes "known" ∷ codes "hop" ∷ []

underlay_third : (limits : Limits) (below : Place) (u : Underlay) → underlay_of Two limits below ≡ Ok u → underlay_of Three limits below ≡ Ok u
unfolding underlay_of
underlay_third limits below u e =
    bind_then (only below (underlay_keys Two)) _ u e (λ known known-is e0.
    let all = only_known below (underlay_keys Two) known known-is in
    let none : get_member (codes "partial") below.members ≡ None = unknown_gone (underlay_keys Two) (codes "partial") below.members refl all in
    let partial : partial_of Three below ≡ Ok false = ap (default_value (path below (codes "partial")) truth false) none in
    gives (only below (underlay_keys Three)) _ known u (known_only below (underlay_keys Three) known (known_same keys_up (codes "partial") keys_on below.members none ∙ all))
    (rw partial e0))

segments_same : (v : Version) (limits : Limits) (own : Own) (ports : ℕ) (ms : Members) → segments_of v limits own ports (top ms) ≡ segments_from v limits own ports (get_member (codes "segment") ms)
unfolding segments_of
segments_same v limits own ports ms = refl

abbrev subtable_from : List ℕ → Option Data → Meaning Place
subtable_from p o = table_value p o >>= λ members. Ok (record { prefix = p ++ codes "."; members = members })

-- settings of version 2 mean the same with 3 in its place
pub third_means : (ms : Members) (s : Settings) → version_of (top ms) ≡ Ok Two → settings_of ms ≡ Ok s → settings_of (version_3 ms) ≡ Ok s
unfolding settings_of
third_means ms s two e =
    let new : Place = top (version_3 ms) in
    let other : (k : List ℕ) → same_key k (codes "version") ≡ false → get_member k (version_3 ms) ≡ get_member k ms = λ k apart. get_other k (codes "version") (integer (pos 3)) ms apart in
    let none = unknown_gone (top_keys false) (codes "limits") ms refl (keys_of (top ms) Two two) in
    steps_of ms s e (λ version version-is given given-is limits limits-is below below-is underlay underlay-is tables tables-is ports ports-is segments segments-is e0.
    let is : version ≡ Two = ok_is version Two (sym version-is ∙ two) in
    let underlay-two : underlay_of Two limits below ≡ Ok underlay = subst (λ (v : Version). underlay_of v limits below ≡ Ok underlay) is underlay-is in
    let segments-two : segments_of Two limits (own underlay) (length ports) (top ms) ≡ Ok segments =
    subst (λ (v : Version). segments_of v limits (own underlay) (length ports) (top ms) ≡ Ok segments) is segments-is in
    let same-limits : limits_of Three new ≡ limits_of version (top ms) = absent_limits Three (version_3 ms) (other (codes "limits") refl ∙ none) ∙ sym (absent_limits version ms none) in
    gives (version_of new) _ Three s (version_three ms two)
    (gives (given_pool_of (addresses_in (limits_of Three new)) new) _ given s
    (ap (λ (m : Meaning Limits). given_pool_of (addresses_in m) new) same-limits
    ∙ ap (optional_value (codes "pool") (range 1 (addresses_in (limits_of version (top ms))))) (other (codes "pool") refl) ∙ given-is)
    (gives (limits_of Three new) _ limits s (same-limits ∙ limits-is)
    (gives (subtable new (codes "underlay")) _ below s (ap (subtable_from (codes "underlay")) (other (codes "underlay") refl) ∙ below-is)
    (gives (underlay_of Three limits below) _ underlay s (underlay_third limits below underlay underlay-two)
    (gives (required_items new (codes "port") limits.ports) _ tables s (ap (required_from (codes "port") limits.ports) (other (codes "port") refl) ∙ tables-is)
    (gives (each (λ earlier at. port_of at) (codes "port") [] tables) _ ports s ports-is
    (gives (segments_of Three limits (own underlay) (length ports) new) _ segments s
    (segments_same Three limits (own underlay) (length ports) (version_3 ms) ∙ ap (segments_from Three limits (own underlay) (length ports)) (other (codes "segment") refl)
    ∙ segments_third limits (own underlay) (length ports) (get_member (codes "segment") ms) segments (sym (segments_same Two limits (own underlay) (length ports) ms) ∙ segments-two)) e0))))))))
