-- Tables as finite maps: what `get` and `len` give.
use Rattle.std.proofs.Common.{◌≡◌, ℕ, ◌+◌, ◌-◌, ◌<◌, is_some, Bool, true, false, cond, refl, sym, ap, ◌∙◌, List, Option, Some, None, arith}
use Rattle.std.specs.Bool.{then_some}
use Rattle.std.specs.Option.{option_map}
use Rattle.std.specs.Ordering.{eq_by_cmp}
use Rattle.std.specs.Cmp.Lexicographic.{same_text, texts_ties}
use Rattle.std.specs.FinMap.{get, empty, get-empty, insert, remove, get-insert, get-remove, len, len-empty, len-insert}
use Rattle.std.proofs.lemmas.Bool.{lt-ltb}
use Rattle.filter_db.specs.declared.entry.Entry.{Entry}
use Rattle.filter_db.specs.declared.place.Place.{Place}
use Rattle.filter_db.specs.Table.{Table, mac_cmp, kept, stands, live, is_live, learn, is_learned, fix, is_full, unfix, has_fixed}
use Rattle.filter_db.specs.Ageing.{mac_total, same_table, sifted, get-kept}

-- addresses that tie are one
pub same_mac : (q k : List ℕ) → eq_by_cmp mac_cmp q k ≡ true → q ≡ k
same_mac q k h = same_text q k (sym (texts_ties q k ∙ h))

pub get-none : (mac : List ℕ) → get {X = Entry} {R = mac_cmp} empty mac ≡ None
get-none mac = get-empty mac_cmp mac

pub get-set : (m : Table) (k : List ℕ) (e : Entry) (mac : List ℕ) → get (insert m k e) mac ≡ cond (eq_by_cmp mac_cmp mac k) (Some e) (get m mac)
get-set m k e mac = get-insert mac_total m k e mac

pub len-none : len {X = Entry} {R = mac_cmp} empty ≡ 0
len-none = len-empty mac_cmp Entry

pub len-set : (m : Table) (k : List ℕ) (e : Entry) → len (insert m k e) ≡ cond (is_some (get m k)) (len m) (len m + 1)
len-set m k e = len-insert mac_total m k e

-- ---- the entries that pass a test

either_order : (e : Entry) (a b : Bool) (p q : Entry → Bool) → p e ≡ a → q e ≡ b → sifted p (cond b (Some e) None) ≡ sifted q (cond a (Some e) None)
either_order e true true p q is_p is_q = ap (λ x. cond x (Some e) None) (is_p ∙ sym is_q)
either_order e true false p q is_p is_q = ap (λ x. cond x (Some e) None) (sym is_q)
either_order e false true p q is_p is_q = ap (λ x. cond x (Some e) None) is_p
either_order e false false p q is_p is_q = refl

sifted_turned : (p q : Entry → Bool) (o : Option Entry) → sifted p (sifted q o) ≡ sifted q (sifted p o)
sifted_turned p q None = refl
sifted_turned p q (Some e) = either_order e (p e) (q e) p q refl refl

pub kept_turned : (p q : Entry → Bool) (m : Table) → kept p (kept q m) ≡ kept q (kept p m)
kept_turned p q m = same_table _ _ (λ mac.
    get-kept p (kept q m) mac ∙ ap (sifted p) (get-kept q m mac) ∙ sifted_turned p q (get m mac)
    ∙ ap (sifted q) (sym (get-kept p m mac)) ∙ sym (get-kept q (kept p m) mac))

pub kept-empty : (p : Entry → Bool) → kept p empty ≡ empty
kept-empty p = same_table _ _ (λ mac. get-kept p empty mac ∙ ap (sifted p) (get-empty mac_cmp mac) ∙ sym (get-empty mac_cmp mac))

-- ---- tables all of whose entries pass a test

get_all : (p : Entry → Bool) (m : Table) → kept p m ≡ m → (mac : List ℕ) → sifted p (get m mac) ≡ get m mac
get_all p m all mac = sym (get-kept p m mac) ∙ ap (λ (n : Table). get n mac) all

sifted_set : (p : Entry → Bool) (b : Bool) (e : Entry) (o : Option Entry) → p e ≡ true → sifted p o ≡ o → sifted p (cond b (Some e) o) ≡ cond b (Some e) o
sifted_set p true e o is all = ap (λ x. cond x (Some e) None) is
sifted_set p false e o is all = all

pub kept-insert : (p : Entry → Bool) (m : Table) (k : List ℕ) (e : Entry) → p e ≡ true → kept p m ≡ m → kept p (insert m k e) ≡ insert m k e
kept-insert p m k e is all = same_table _ _ (λ mac.
    get-kept p (insert m k e) mac ∙ ap (sifted p) (get-set m k e mac)
    ∙ sifted_set p (eq_by_cmp mac_cmp mac k) e (get m mac) is (get_all p m all mac) ∙ sym (get-set m k e mac))

sifted_without : (p : Entry → Bool) (b : Bool) (o : Option Entry) → sifted p o ≡ o → sifted p (cond b None o) ≡ cond b None o
sifted_without p true o all = refl
sifted_without p false o all = all

pub kept-remove : (p : Entry → Bool) (m : Table) (k : List ℕ) → kept p m ≡ m → kept p (remove m k) ≡ remove m k
kept-remove p m k all = same_table _ _ (λ mac.
    get-kept p (remove m k) mac ∙ ap (sifted p) (get-remove mac_total m k mac)
    ∙ sifted_without p (eq_by_cmp mac_cmp mac k) (get m mac) (get_all p m all mac) ∙ sym (get-remove mac_total m k mac))

-- ---- where an address stands among what passes

placed : (b : Bool) (e : Entry) → option_map (λ (x : Entry). x.place) (cond b (Some e) None) ≡ then_some b e.place
placed true e = refl
placed false e = refl

stands_sifted : (p : Entry → Bool) (m : Table) (mac : List ℕ) (o : Option Entry) → get m mac ≡ o → stands mac (kept p m) ≡ option_map (λ (e : Entry). e.place) (sifted p o)
stands_sifted p m mac o is = ap (option_map (λ (e : Entry). e.place)) (get-kept p m mac ∙ ap (sifted p) is)

pub stands-Some : (p : Entry → Bool) (m : Table) (mac : List ℕ) (e : Entry) → get m mac ≡ Some e → stands mac (kept p m) ≡ then_some (p e) e.place
stands-Some p m mac e is = stands_sifted p m mac (Some e) is ∙ placed (p e) e

pub stands-None : (p : Entry → Bool) (m : Table) (mac : List ℕ) → get m mac ≡ None → stands mac (kept p m) ≡ None
stands-None p m mac is = stands_sifted p m mac None is

-- ---- what is live stays live in a change

live_set : (b : Bool) (p : Entry → Bool) (m : Table) (mac : List ℕ) (e : Entry) → p e ≡ true → kept p m ≡ m → kept p (cond b (insert m mac e) m) ≡ cond b (insert m mac e) m
live_set true p m mac e is all = kept-insert p m mac e is all
live_set false p m mac e is all = all

pub live-learn : (ageing t limit : ℕ) (place : Place) (mac : List ℕ) (m : Table) → 0 < ageing → live ageing t m ≡ m → live ageing t (learn limit t place mac m) ≡ learn limit t place mac m
live-learn ageing t limit place mac m some_time all =
    live_set (is_learned limit (len m) (get m mac)) (is_live ageing t) m mac (record { place = place; last = Some t }) (lt-ltb (t - t) ageing (omega arith)) all

pub live-fix : (ageing t limit : ℕ) (place : Place) (mac : List ℕ) (m : Table) → live ageing t m ≡ m → live ageing t (fix limit place mac m) ≡ fix limit place mac m
live-fix ageing t limit place mac m all =
    elim (is_full limit mac m) as (λ b. live ageing t (cond b m (insert m mac (record { place = place; last = None }))) ≡ cond b m (insert m mac (record { place = place; last = None }))) [
      | true ↦ all
      | false ↦ kept-insert (is_live ageing t) m mac (record { place = place; last = None }) refl all
    ]

pub live-unfix : (ageing t : ℕ) (mac : List ℕ) (m : Table) → live ageing t m ≡ m → live ageing t (unfix mac m) ≡ unfix mac m
live-unfix ageing t mac m all =
    elim (has_fixed mac m) as (λ b. live ageing t (cond b (remove m mac) m) ≡ cond b (remove m mac) m) [
      | true ↦ kept-remove (is_live ageing t) m mac all
      | false ↦ all
    ]

pub live-kept : (ageing t : ℕ) (p : Entry → Bool) (m : Table) → live ageing t m ≡ m → live ageing t (kept p m) ≡ kept p m
live-kept ageing t p m all = kept_turned (is_live ageing t) p m ∙ ap (kept p) all
