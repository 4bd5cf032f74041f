-- Tables with a value at a key, and without a key: what they hold, and how the map of a table makes them.
use Rattle.std.proofs.Common.{◌≡◌, ℕ, codes, true, false, List, [], ◌∷◌, Option, Some, None, Result, Ok, Err, String, Global, string_bytes, nat_cmp, is_eq, Ordering, Less, Equal, Greater, refl, sym, ap, subst, ◌∙◌, inl, inr}
use Rattle.std.specs.Prelude.{OnOk}
use Rattle.std.proofs.lemmas.Bool.{cases_Bool, false≢true}
use Rattle.std.proofs.lemmas.Cmp.{nat_list_cmp_total}
use Rattle.std.proofs.lemmas.Map.Lookups.{exact_bytes}
use Rattle.std.specs.Cmp.{tied_itself}
use Rattle.std.specs.String.{string_cmp}
use Rattle.std.specs.Map.{lookup, remove_entry}
use Rattle.std.specs.Ordering.{match_ordering}
use Rattle.std.specs.Cmp.Lexicographic.{slice_cmp}
use Rattle.std.specs.BTreeMap.{insert_entry, is_at}
use Rattle.toml.specs.Data.{Data, array, table, Members, no_members, member, Items, no_items, item, same_key, get_member, push_item}
use Rattle.toml.specs.declared.value.Value.{Value}
use Rattle.toml.specs.View.{view, members_view}
use Rattle.toml.proofs.Views.{Entry}
use Rattle.config_text.specs.Fault.{Meaning}
use Rattle.overlay_config.specs.Migrate.{with_value, with_option, without, migrated_item, migrated_items, migrated_segment}

-- ---- what the map of a table does

match_members : (o : Ordering) (a b c : List Entry) → members_view (match_ordering o a b c) ≡ match_ordering o (members_view a) (members_view b) (members_view c)
match_members Less a b c = refl
match_members Equal a b c = refl
match_members Greater a b c = refl

pub view-insert : (es : List Entry) (k : String Global) (v : Value) → members_view (insert_entry string_cmp es k v) ≡ with_value (string_bytes k) (view v) (members_view es)
view-insert [] k v = refl
view-insert (e ∷ es) k v = match_members (string_cmp k e.0) _ _ _ ∙ rw (view-insert es k v)

-- how the map compares a text to its keys
abbrev at_text : List ℕ → String Global → Ordering
at_text k x = slice_cmp nat_cmp k (string_bytes x)

some_none : {A : Type 0} (x : A) → Some x ≡ None → ⊥
some_none x e = cc

-- a key that isn't there
without_absent : (k : List ℕ) (es : List Entry) → lookup (is_at (at_text k)) es ≡ None → without k (members_view es) ≡ members_view es
without_absent k [] none = refl
without_absent k (e ∷ es) none =
    elim (cases_Bool (is_eq (at_text k e.0))) [
      | inl same ↦ absurd (some_none e.1 (rw same at none))
      | inr other ↦ rw (other, without_absent k es (rw other at none))
    ]

view_remove : (k : List ℕ) (es : List Entry) → lookup (is_at (at_text k)) (remove_entry (is_at (at_text k)) es) ≡ None → members_view (remove_entry (is_at (at_text k)) es) ≡ without k (members_view es)
view_remove k [] none = refl
view_remove k (e ∷ es) none =
    elim (cases_Bool (is_eq (at_text k e.0))) [
      | inl same ↦ let gone : lookup (is_at (at_text k)) es ≡ None = rw same at none in rw same (sym (without_absent k es gone))
      | inr other ↦
          let more : lookup (is_at (at_text k)) (remove_entry (is_at (at_text k)) es) ≡ None = rw (other, other) at none in
          rw other (ap (member (string_bytes e.0) (view e.1)) (view_remove k es more))
    ]

pub view-remove : (k : List ℕ) (es fs : List Entry) → fs ≡ remove_entry (is_at (at_text k)) es → lookup (is_at (at_text k)) fs ≡ None → members_view fs ≡ without k (members_view es)
view-remove k es fs e none = ap members_view e ∙ view_remove k es (subst (λ x. lookup (is_at (at_text k)) x ≡ None) e none)

pub on_ok : {A E : Type 0} {P : Type 0} (r : Result A E) → P → OnOk r P
on_ok (Ok x) p = p
on_ok (Err e) p = tt

-- ---- what a key holds

pub is_equal : (o : Ordering) → is_eq o ≡ true → o ≡ Equal
is_equal Less e = absurd (false≢true e)
is_equal Equal e = refl
is_equal Greater e = absurd (false≢true e)

pub same_is : (k l : List ℕ) → same_key k l ≡ true → k ≡ l
same_is k l e = exact_bytes k l (is_equal _ e)

pub pass : (o : Ordering) (r s : Option Data) → is_eq o ≡ false → match_ordering o r s r ≡ r
pass Less r s h = refl
pass Equal r s h = absurd (false≢true (sym h))
pass Greater r s h = refl

-- another key than the one that is taken out
pub get_without : (k l : List ℕ) (ms : Members) → same_key k l ≡ false → get_member k (without l ms) ≡ get_member k ms
get_without k l no_members apart = refl
get_without k l (member x d ms) apart =
    elim (cases_Bool (same_key l x)) [
      | inl same ↦ rw same (get_without k l ms apart ∙ sym (pass _ _ _ (subst (λ y. same_key k y ≡ false) (same_is l x same) apart)))
      | inr other ↦ rw (other, get_without k l ms apart)
    ]

here_at : (o : Ordering) (k : List ℕ) (d : Data) (l : List ℕ) (e : Data) (ms : Members) → o ≡ slice_cmp nat_cmp k l → get_member k (with_value k d ms) ≡ Some d
    → get_member k (match_ordering o (member k d (member l e ms)) (member l d ms) (member l e (with_value k d ms))) ≡ Some d
here_at Less k d l e ms is more = rw (tied_itself nat_list_cmp_total k)
here_at Equal k d l e ms is more = rw (← is)
here_at Greater k d l e ms is more = rw (← is) more

-- the key that a value was put at
pub get_here : (k : List ℕ) (d : Data) (ms : Members) → get_member k (with_value k d ms) ≡ Some d
get_here k d no_members = rw (tied_itself nat_list_cmp_total k)
get_here k d (member l e ms) = here_at (slice_cmp nat_cmp k l) k d l e ms refl (get_here k d ms)

other_at : (o : Ordering) (k l : List ℕ) (d : Data) (x : List ℕ) (e : Data) (ms : Members) → o ≡ slice_cmp nat_cmp l x → same_key k l ≡ false → get_member k (with_value l d ms) ≡ get_member k ms
    → get_member k (match_ordering o (member l d (member x e ms)) (member x d ms) (member x e (with_value l d ms))) ≡ get_member k (member x e ms)
other_at Less k l d x e ms is apart more = pass _ _ _ apart
other_at Equal k l d x e ms is apart more =
    let far : same_key k x ≡ false = subst (λ y. same_key k y ≡ false) (exact_bytes l x (sym is)) apart in
    pass _ _ _ far ∙ sym (pass _ _ _ far)
other_at Greater k l d x e ms is apart more = rw more

-- another key
pub get_other : (k l : List ℕ) (d : Data) (ms : Members) → same_key k l ≡ false → get_member k (with_value l d ms) ≡ get_member k ms
get_other k l d no_members apart = pass _ _ _ apart
get_other k l d (member x e ms) apart = other_at (slice_cmp nat_cmp l x) k l d x e ms refl apart (get_other k l d ms apart)

-- a key that was taken out
pub get_gone : (k : List ℕ) (ms : Members) → get_member k (without k ms) ≡ None
get_gone k no_members = refl
get_gone k (member l d ms) =
    elim (cases_Bool (same_key k l)) [
      | inl same ↦ rw same (get_gone k ms)
      | inr other ↦ rw other (pass _ _ _ other ∙ get_gone k ms)
    ]

-- where a value was put only if there was one
pub option_here : (k : List ℕ) (o : Option Data) (ms : Members) → get_member k ms ≡ None → get_member k (with_option k o ms) ≡ o
option_here k None ms none = none
option_here k (Some d) ms none = get_here k d ms

pub option_other : (k l : List ℕ) (o : Option Data) (ms : Members) → same_key k l ≡ false → get_member k (with_option l o ms) ≡ get_member k ms
option_other k l None ms apart = refl
option_other k l (Some d) ms apart = get_other k l d ms apart

-- ---- segments

abbrev pub done : {A : Type 0} → A → Meaning A
done x = Ok x

pub ok_inside : {A : Type 0} (x y : A) → done x ≡ done y → x ≡ y
ok_inside x y e = cc

pub migrated_items-push : (ds : Items) (d : Data) → migrated_items (push_item ds d) ≡ push_item (migrated_items ds) (migrated_item d)
migrated_items-push no_items d = refl
migrated_items-push (item e ds) d = ap (item (migrated_item e)) (migrated_items-push ds d)

pub segment_steps : (s t0 s1 t1 s2 t2 s3 t3 s4 : Members) (d : Data) → t0 ≡ no_members
    → s1 ≡ without (codes "vni") s → t1 ≡ with_option (codes "vni") (get_member (codes "vni") s) t0
    → s2 ≡ without (codes "tunnel") s1 → t2 ≡ with_option (codes "kind") (get_member (codes "tunnel") s1) t1
    → s3 ≡ without (codes "flood") s2 → t3 ≡ with_option (codes "flood") (get_member (codes "flood") s2) t2
    → d ≡ array (item (table t3) no_items) → s4 ≡ with_value (codes "tunnel") d s3 → migrated_segment s ≡ s4
segment_steps s t0 s1 t1 s2 t2 s3 t3 s4 d e0 e1 f1 e2 f2 e3 f3 e4 e5 =
    let kind : get_member (codes "tunnel") (without (codes "vni") s) ≡ get_member (codes "tunnel") s = get_without (codes "tunnel") (codes "vni") s refl in
    let flood : get_member (codes "flood") (without (codes "tunnel") (without (codes "vni") s)) ≡ get_member (codes "flood") s =
    get_without (codes "flood") (codes "tunnel") (without (codes "vni") s) refl ∙ get_without (codes "flood") (codes "vni") s refl in
    rw (e5, e4, f3, e3, f2, e2, f1, e1, e0, kind, flood)
