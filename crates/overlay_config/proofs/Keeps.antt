-- Settings of version 1 mean the same in version 2.
use Rattle.std.proofs.Common.{◌≡◌, ℕ, codes, pos, true, false, nat_lt, ◌+◌, List, [], ◌∷◌, ◌++◌, length, map, Option, Some, None, option_map, Ok, Err, refl, sym, ap, subst, ◌∙◌, inl, inr}
use Rattle.std.specs.Prelude.{IfOk, IsOk, IsUtf8, Vec, is_some, option_and_then}
use Rattle.std.specs.declared.alloc.Global.{Global}
use Rattle.std.proofs.lemmas.Bool.{cases_Bool, false≢true}
use Rattle.std.proofs.lemmas.List.{length-map}
use Rattle.std.proofs.lemmas.Str.{is_utf8-from_IsUtf8}
use Rattle.toml.specs.Data.{Data, string, integer, float, boolean, datetime, array, table, Items, no_items, item, Members, same_key, get_member}
use Rattle.overlay.specs.declared.flood.own.Own.{Own}
use Rattle.overlay.specs.declared.underlay.limits.Limits.{Limits}
use Rattle.overlay.specs.UnderlaySettings.{own}
use Rattle.config_text.specs.declared.fault.SettingsFault.TheVariants.{OverLimit}
use Rattle.config_text.specs.Fault.{Meaning, ◌>>=◌, GivesAs, seen}
use Rattle.config_text.specs.Column.{range}
use Rattle.config_text.specs.Table.{Place, top, required_value, optional_value, all_known, table_value, subtable, list_of, items_value, limited, some_items, required_items, row_place, each, numbered}
use Rattle.overlay.specs.declared.settings.segment.SegmentRule.{SegmentRule}
use Rattle.overlay.specs.Settings.{Settings}
use Rattle.overlay_config.specs.declared.version.Version.{Version}
use Rattle.overlay_config.specs.declared.version.Version.TheVariants.{One, Two, Three}
use Rattle.overlay_config.specs.Port.{port_of}
use Rattle.overlay_config.specs.Limits.{addresses_in, usual_limits, limits_of}
use Rattle.overlay_config.specs.Underlay.{underlay_of}
use Rattle.overlay_config.specs.Segment.{segment_of}
use Rattle.overlay_config.specs.Settings.{top_keys, segments_of, version_of, given_pool_of, settings_of, settings_in}
use Rattle.overlay_config.specs.Document.{document, read_members}
use Rattle.toml.specs.Parse.{parse_document}
use Rattle.overlay_config.specs.Migrate.{without, migrated_segment, migrated_item, migrated_items, migrated_list, migrated_segments, version_2, is_one, migrated}
use Rattle.overlay_config.proofs.Rewrites.{get_without, get_here, get_other, get_gone, option_here, option_other}
use Rattle.overlay_config.proofs.Readings.{bind_then, ok_is}
use Rattle.overlay_config.proofs.SegmentKept.{gives, ok_not_err, place, required_from, known_with, known_option, known_fewer, segment_kept}
use Rattle.overlay_config.proofs.Steps.{steps_of}
use Rattle.overlay_config.proofs.Asked.{version_by, keys_of}

-- ---- all segments

row_table : (name : List ℕ) (k : ℕ) (d : Data) (at : Place) → row_place name k d ≡ Ok at → (m : Members) × (d ≡ table m) × (at ≡ place (numbered name k ++ codes ".") m)
row_table name k (string x) at e = absurd cc
row_table name k (integer x) at e = absurd cc
row_table name k (float x) at e = absurd cc
row_table name k (boolean x) at e = absurd cc
row_table name k (datetime x) at e = absurd cc
row_table name k (array x) at e = absurd cc
row_table name k (table m) at e = (m, refl, sym (ok_is (place (numbered name k ++ codes ".") m) at e))

each_kept : (own : Own) (limits : Limits) (ports : ℕ) (name : List ℕ) (earlier : List SegmentRule) (ds : List Data) (all : List SegmentRule) → each (segment_of One own limits ports) name earlier ds ≡ Ok all → each (segment_of Two own limits ports) name earlier (map migrated_item ds) ≡ Ok all
each_kept own limits ports name earlier [] all e = e
each_kept own limits ports name earlier (d ∷ ds) all e =
    let n : ℕ = length earlier + 1 in
    let q : List ℕ = numbered name n ++ codes "." in
    bind_then (row_place name n d) _ all e (λ at at-is e0.
    bind_then (segment_of One own limits ports earlier at) _ all e0 (λ x x-is e1.
    let r = row_table name n d at at-is in
    gives (row_place name n (migrated_item d)) _ (place q (migrated_segment r.0)) all (ap (λ y. row_place name n (migrated_item y)) r.1)
    (gives (segment_of Two own limits ports earlier (place q (migrated_segment r.0))) _ x all (segment_kept own limits ports earlier q r.0 x (subst (λ a. segment_of One own limits ports earlier a ≡ Ok x) r.2 x-is))
    (each_kept own limits ports name (earlier ++ x ∷ []) ds all e1))))

list_of_migrated : (ds : Items) → list_of (migrated_items ds) ≡ map migrated_item (list_of ds)
list_of_migrated no_items = refl
list_of_migrated (item d ds) = ap (λ l. migrated_item d ∷ l) (list_of_migrated ds)

items_kept : (p : List ℕ) (o : Option Data) (ds : List Data) → items_value p o ≡ Ok ds → items_value p (option_map migrated_list o) ≡ Ok (map migrated_item ds)
items_kept p None ds e = ap (λ l. Ok (map migrated_item l)) (ok_is [] ds e)
items_kept p (Some (array xs)) ds e = ap Ok (list_of_migrated xs ∙ ap (map migrated_item) (ok_is (list_of xs) ds e))
items_kept p (Some (string x)) ds e = absurd cc
items_kept p (Some (integer x)) ds e = absurd cc
items_kept p (Some (float x)) ds e = absurd cc
items_kept p (Some (boolean x)) ds e = absurd cc
items_kept p (Some (datetime x)) ds e = absurd cc
items_kept p (Some (table x)) ds e = absurd cc

limited_kept : (p : List ℕ) (limit : ℕ) (ds es : List Data) → limited p limit ds ≡ Ok es → limited p limit (map migrated_item ds) ≡ Ok (map migrated_item es)
limited_kept p limit ds es e =
    elim (cases_Bool (nat_lt limit (length ds))) [
      | inl over ↦ absurd (ok_not_err es (OverLimit p) (sym e ∙ rw over refl))
      | inr within ↦ rw (length-map ds migrated_item, within) (ap (λ l. Ok (map migrated_item l)) (ok_is ds es (rw within at e)))
    ]

some_kept : (p : List ℕ) (ds es : List Data) → some_items p ds ≡ Ok es → some_items p (map migrated_item ds) ≡ Ok (map migrated_item es)
some_kept p [] es e = absurd cc
some_kept p (d ∷ ds) es e = ap (λ l. Ok (map migrated_item l)) (ok_is (d ∷ ds) es e)

list_kept : (p : List ℕ) (limit : ℕ) (o : Option Data) (es : List Data) → required_from p limit o ≡ Ok es → required_from p limit (option_map migrated_list o) ≡ Ok (map migrated_item es)
list_kept p limit o es e =
    bind_then (items_value p o >>= limited p limit) (some_items p) es e (λ few few-is e0.
    bind_then (items_value p o) (limited p limit) few few-is (λ ds ds-is e1.
    gives (items_value p (option_map migrated_list o) >>= limited p limit) (some_items p) (map migrated_item few) (map migrated_item es)
    (gives (items_value p (option_map migrated_list o)) (limited p limit) (map migrated_item ds) (map migrated_item few) (items_kept p o ds ds-is) (limited_kept p limit ds few e1))
    (some_kept p few es e0)))

-- ---- all settings

abbrev less_segment : Members → Members
less_segment ms = without (codes "segment") ms

abbrev new_list : Members → Option Data
new_list ms = option_map migrated_list (get_member (codes "segment") ms)

-- a key that stays
top_key : (k : List ℕ) (ms : Members) → same_key k (codes "version") ≡ false → same_key k (codes "segment") ≡ false → get_member k (version_2 ms) ≡ get_member k ms
top_key k ms version segment =
    get_other k (codes "version") (integer (pos 2)) (migrated_segments ms) version ∙ option_other k (codes "segment") (new_list ms) (less_segment ms) segment ∙ get_without k (codes "segment") ms segment

segment_there : (ms : Members) → get_member (codes "segment") (version_2 ms) ≡ option_map migrated_list (get_member (codes "segment") ms)
segment_there ms =
    get_other (codes "segment") (codes "version") (integer (pos 2)) (migrated_segments ms) refl ∙ option_here (codes "segment") (new_list ms) (less_segment ms) (get_gone (codes "segment") ms)

segments_kept : (limits : Limits) (own : Own) (ports : ℕ) (ms : Members) (segments : List SegmentRule) → segments_of One limits own ports (top ms) ≡ Ok segments → segments_of Two limits own ports (top (version_2 ms)) ≡ Ok segments
unfolding segments_of
segments_kept limits own ports ms segments e =
    bind_then (required_items (top ms) (codes "segment") limits.segments) _ segments e (λ tables tables-is e0.
    bind_then (each (segment_of One own limits ports) (codes "segment") [] tables) _ segments e0 (λ rows rows-is e1.
    gives (required_items (top (version_2 ms)) (codes "segment") limits.segments) _ (map migrated_item tables) segments
    (ap (required_from (codes "segment") limits.segments) (segment_there ms) ∙ list_kept (codes "segment") limits.segments (get_member (codes "segment") ms) tables tables-is)
    (gives (each (segment_of Two own limits ports) (codes "segment") [] (map migrated_item tables)) _ rows segments (each_kept own limits ports (codes "segment") [] tables rows rows-is) e1)))

top_known : (ms : Members) → all_known (top_keys false) ms ≡ true → all_known (top_keys false) (version_2 ms) ≡ true
top_known ms all =
    known_with (top_keys false) (codes "version") (integer (pos 2)) (migrated_segments ms) refl
    (known_option (top_keys false) (codes "segment") (new_list ms) (less_segment ms) refl (known_fewer (top_keys false) (codes "segment") ms all))

version_two : (ms : Members) → version_of (top ms) ≡ Ok One → version_of (top (version_2 ms)) ≡ Ok Two
version_two ms e =
    let here = get_here (codes "version") (integer (pos 2)) (migrated_segments ms) in
    version_by (top (version_2 ms)) false 2 (ap (λ o. is_some (option_and_then (range 3 3) o)) here)
    (top_known ms (keys_of (top ms) One e))
    (ap (required_value (codes "version") (range 1 3)) here)

abbrev subtable_from : List ℕ → Option Data → Meaning Place
subtable_from p o = table_value p o >>= λ members. Ok (record { prefix = p ++ codes "."; members = members })

-- the underlay of version 2 means what it means in version 1
underlay_kept : (limits : Limits) (below : Place) → underlay_of Two limits below ≡ underlay_of One limits below
unfolding underlay_of
underlay_kept limits below = refl

version_2_means : (ms : Members) (s : Settings) → version_of (top ms) ≡ Ok One → settings_of ms ≡ Ok s → settings_of (version_2 ms) ≡ Ok s
unfolding settings_of
version_2_means ms s one e =
    let new : Place = top (version_2 ms) in
    steps_of ms s e (λ version version-is given given-is limits limits-is below below-is underlay underlay-is tables tables-is ports ports-is segments segments-is e0.
    let is : version ≡ One = ok_is version One (sym version-is ∙ one) in
    let usual : limits ≡ usual_limits = ok_is limits usual_limits (sym (subst (λ v. limits_of v (top ms) ≡ Ok limits) is limits-is)) in
    let tables-usual : required_items (top ms) (codes "port") 16 ≡ Ok tables = subst (λ l. required_items (top ms) (codes "port") l.ports ≡ Ok tables) usual tables-is in
    let segments-one : segments_of One usual_limits (own underlay) (length ports) (top ms) ≡ Ok segments =
    subst (λ l. segments_of One l (own underlay) (length ports) (top ms) ≡ Ok segments) usual
    (subst (λ v. segments_of v limits (own underlay) (length ports) (top ms) ≡ Ok segments) is segments-is) in
    let underlay-one : underlay_of One usual_limits below ≡ Ok underlay =
    subst (λ l. underlay_of One l below ≡ Ok underlay) usual (subst (λ v. underlay_of v limits below ≡ Ok underlay) is underlay-is) in
    let given-usual : given_pool_of 65536 (top ms) ≡ Ok given = subst (λ v. given_pool_of (addresses_in (limits_of v (top ms))) (top ms) ≡ Ok given) is given-is in
    gives (version_of new) _ Two s (version_two ms one)
    (gives (given_pool_of 65536 new) _ given s (ap (optional_value (codes "pool") (range 1 65536)) (top_key (codes "pool") ms refl refl) ∙ given-usual)
    (gives (subtable new (codes "underlay")) _ below s (ap (subtable_from (codes "underlay")) (top_key (codes "underlay") ms refl refl) ∙ below-is)
    (gives (underlay_of Two usual_limits below) _ underlay s (underlay_kept usual_limits below ∙ underlay-one)
    (gives (required_items new (codes "port") 16) _ tables s (ap (required_from (codes "port") 16) (top_key (codes "port") ms refl refl) ∙ tables-usual)
    (gives (each (λ earlier at. port_of at) (codes "port") [] tables) _ ports s ports-is
    (gives (segments_of Two usual_limits (own underlay) (length ports) new) _ segments s (segments_kept usual_limits (own underlay) (length ports) ms segments segments-one) e0)))))))

is_one_ok : (v : Meaning Version) → is_one v ≡ true → v ≡ Ok One
is_one_ok (Ok One) e = refl
is_one_ok (Ok Two) e = absurd (false≢true e)
is_one_ok (Ok Three) e = absurd (false≢true e)
is_one_ok (Err f) e = absurd (false≢true e)

migrated_one : (ms : Members) → is_one (version_of (top ms)) ≡ true → migrated ms ≡ version_2 ms
migrated_one ms one = rw one

migrated_other : (ms : Members) → is_one (version_of (top ms)) ≡ false → migrated ms ≡ ms
migrated_other ms other = rw other

-- migrated settings mean the same
pub migrated_means : (ms : Members) (s : Settings) → settings_of ms ≡ Ok s → settings_of (migrated ms) ≡ Ok s
migrated_means ms s e =
    elim (cases_Bool (is_one (version_of (top ms)))) [
      | inl one ↦ subst (λ x. settings_of x ≡ Ok s) (sym (migrated_one ms one)) (version_2_means ms s (is_one_ok _ one) e)
      | inr other ↦ subst (λ x. settings_of x ≡ Ok s) (sym (migrated_other ms other)) e
    ]

-- settings that are migrated stay as they are
pub migrated_twice : (ms : Members) → migrated (migrated ms) ≡ migrated ms
migrated_twice ms =
    elim (cases_Bool (is_one (version_of (top ms)))) [
      | inl one ↦ ap migrated (migrated_one ms one) ∙ migrated_other (version_2 ms) (ap is_one (version_two ms (is_one_ok _ one))) ∙ sym (migrated_one ms one)
      | inr other ↦ ap migrated (migrated_other ms other)
    ]

-- what is read of a text in UTF-8 is its document
document_read : (text : List ℕ) (ms : Members) → IsUtf8 text → parse_document text ≡ Some ms → document text ≡ Ok ms
document_read text ms utf8 e = rw (is_utf8-from_IsUtf8 text utf8) (ap read_members e)

-- what was written is read as these members, and is in UTF-8
abbrev Reads : Members → Meaning (Vec ℕ Global) → Type 0
Reads ms r = GivesAs (λ t. parse_document t.items) r (Ok (Some ms)) × IfOk r (λ t. IsUtf8 t.items)

whole_document : (t : Vec ℕ Global) (ms : Members) → Reads ms (Ok t) → document t.items ≡ Ok ms
whole_document t ms written = document_read t.items ms written.1 (sym (ok_is (Some ms) (parse_document t.items) written.0))

-- a text of migrated settings is read as the migrated table
pub same_table : (text : List ℕ) (r : Meaning (Vec ℕ Global)) (ms ns : Members) → document text ≡ Ok ms → migrated ms ≡ ns → Reads ns r → IfOk r (λ t. document t.items ≡ seen migrated (document text))
same_table text (Err f) ms ns document-is migrated-is written = tt
same_table text (Ok t) ms ns document-is migrated-is written = whole_document t ns written ∙ ap Ok (sym migrated-is) ∙ ap (seen migrated) (sym document-is)

-- a text of migrated settings means the same
pub same_settings : (text : List ℕ) (r : Meaning (Vec ℕ Global)) (ms ns : Members) (s : Settings) → document text ≡ Ok ms → settings_of ms ≡ Ok s → migrated ms ≡ ns → Reads ns r
    → IfOk r (λ t. (settings_in t.items ≡ settings_in text) × IsOk (settings_in text))
same_settings text (Err f) ms ns s document-is settings-is migrated-is written = tt
same_settings text (Ok t) ms ns s document-is settings-is migrated-is written =
    let old : settings_in text ≡ Ok s = gives (document text) settings_of ms s document-is settings-is in
    let new : settings_in t.items ≡ Ok s =
    gives (document t.items) settings_of ns s (whole_document t ns written) (subst (λ x. settings_of x ≡ Ok s) migrated-is (migrated_means ms s settings-is)) in
    (new ∙ sym old, subst (λ m. IsOk m) (sym old) refl)
