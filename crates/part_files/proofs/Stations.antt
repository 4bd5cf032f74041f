-- Where the stations of a table stand.
use Rattle.std.proofs.Common.{ℕ, Bool, true, false, cond, List, Option, Some, None, sym, subst}
use Rattle.std.specs.Prelude.{IfSome}
use Rattle.std.specs.Option.{option_map}
use Rattle.std.specs.Ordering.{eq_by_cmp}
use Rattle.std.specs.FinMap.{get, insert, remove, empty, len, get-remove}
use Rattle.filter_db.specs.Ageing.{get-kept, mac_total, sifted}
use Rattle.filter_db.specs.declared.entry.Entry.{Entry}
use Rattle.filter_db.specs.declared.place.Place.{Place}
use Rattle.filter_db.specs.Table.{Table, mac_cmp, fix, has_fixed, is_full, is_learned, kept, learn, stands, unfix}
use Rattle.filter_db.proofs.TableLemmas.{get-none, get-set}

module _ (P : Place → Type 0) where
  -- all stations of a table stand at such places
  abbrev pub Stand : Table → Type 0
  Stand m = (mac : List ℕ) → IfSome (get m mac) (λ (e : Entry). P e.place)

  pub stand-empty : Stand empty
  stand-empty mac = subst (λ (o : Option Entry). IfSome o (λ (e : Entry). P e.place)) (sym (get-none mac)) tt

  sifted-stand : (p : Entry → Bool) (o : Option Entry) → IfSome o (λ (e : Entry). P e.place) → IfSome (sifted p o) (λ (e : Entry). P e.place)
  sifted-stand p None h = tt
  sifted-stand p (Some e) h = by (p e)
    where
      by : (b : Bool) → IfSome (cond b (Some e) None) (λ (x : Entry). P x.place)
      by true = h
      by false = tt

  -- fewer entries
  pub stand-kept : (p : Entry → Bool) (m : Table) → Stand m → Stand (kept p m)
  stand-kept p m h mac = subst (λ (o : Option Entry). IfSome o (λ (e : Entry). P e.place)) (sym (get-kept p m mac)) (sifted-stand p (get m mac) (h mac))

  set-stand : (b : Bool) (e : Entry) (o : Option Entry) → P e.place → IfSome o (λ (x : Entry). P x.place) → IfSome (cond b (Some e) o) (λ (x : Entry). P x.place)
  set-stand true e o own h = own
  set-stand false e o own h = h

  -- one more
  stand-insert : (mac : List ℕ) (e : Entry) (m : Table) → P e.place → Stand m → Stand (insert m mac e)
  stand-insert mac e m own h q = subst (λ (o : Option Entry). IfSome o (λ (x : Entry). P x.place)) (sym (get-set m mac e q)) (set-stand (eq_by_cmp mac_cmp q mac) e (get m q) own (h q))

  without-stand : (b : Bool) (o : Option Entry) → IfSome o (λ (x : Entry). P x.place) → IfSome (cond b None o) (λ (x : Entry). P x.place)
  without-stand true o h = tt
  without-stand false o h = h

  stand-remove : (mac : List ℕ) (m : Table) → Stand m → Stand (remove m mac)
  stand-remove mac m h q = subst (λ (o : Option Entry). IfSome o (λ (x : Entry). P x.place)) (sym (get-remove mac_total m mac q)) (without-stand (eq_by_cmp mac_cmp q mac) (get m q) (h q))

  pub stand-either : (b : Bool) (m n : Table) → Stand m → Stand n → Stand (cond b m n)
  stand-either true m n hm hn = hm
  stand-either false m n hm hn = hn

  pub stand-learn : (limit t : ℕ) (place : Place) (mac : List ℕ) (m : Table) → P place → Stand m → Stand (learn limit t place mac m)
  stand-learn limit t place mac m own h =
      stand-either (is_learned limit (len m) (get m mac)) (insert m mac (record { place = place; last = Some t })) m (stand-insert mac (record { place = place; last = Some t }) m own h) h

  pub stand-fix : (limit : ℕ) (place : Place) (mac : List ℕ) (m : Table) → P place → Stand m → Stand (fix limit place mac m)
  stand-fix limit place mac m own h =
      stand-either (is_full limit mac m) m (insert m mac (record { place = place; last = None })) h (stand-insert mac (record { place = place; last = None }) m own h)

  pub stand-unfix : (mac : List ℕ) (m : Table) → Stand m → Stand (unfix mac m)
  stand-unfix mac m h = stand-either (has_fixed mac m) (remove m mac) m (stand-remove mac m h) h

  -- where one stands
  pub stands-at : (mac : List ℕ) (m : Table) → Stand m → IfSome (stands mac m) P
  stands-at mac m h = by (get m mac) (h mac)
    where
      by : (o : Option Entry) → IfSome o (λ (e : Entry). P e.place) → IfSome (option_map (λ (e : Entry). e.place) o) P
      by None own = tt
      by (Some e) own = own
