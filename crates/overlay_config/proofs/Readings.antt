-- What reading without a fault says of the values that were read.
use Rattle.std.proofs.Common.{◌≡◌, ℕ, suc, ◌≤◌, ◌+◌, ◌++◌, ◌∷◌, [], Bool, true, false, cond, ◌&&◌, ◌||◌, nat_le, nat_lt, List, length, Option, Some, None, option_and_then, Ok, Err, ℤ, pos, negsuc, refl, sym, ap, subst, ◌∙◌, append_assoc, inl, inr, arith}
use Rattle.std.specs.Prelude.{IfSome}
use Rattle.std.proofs.lemmas.Bool.{leb-true, ltb-false, and_parts, cases_Bool}
use Rattle.std.proofs.lemmas.List.{append-nil}
use Rattle.toml.specs.Data.{Data, get_member, as_integer}
use Rattle.config_text.specs.declared.fault.SettingsFault.{SettingsFault}
use Rattle.config_text.specs.declared.fault.SettingsFault.TheVariants.{OverLimit}
use Rattle.config_text.specs.Fault.{Meaning, ◌>>=◌}
use Rattle.config_text.specs.Column.{in_range, range, gathered}
use Rattle.config_text.specs.Table.{Place, path, fits, required_value, required, default_value, defaulted, optional_value, optional, items, limited, limited_items, some_items, required_items, listed, each, row_place, refuse_if}
use Rattle.config_text.proofs.Addresses.{then_some}
use Rattle.overlay.specs.Rules.{IsWithin, EachBehind}

-- ---- steps

-- the value of a step that did not fail
pub bind_then : {A B P : Type 0} (m : Meaning A) (f : A → Meaning B) (y : B) → (m >>= f) ≡ Ok y → ((x : A) → m ≡ Ok x → f x ≡ Ok y → P) → P
bind_then (Ok x) f y e next = next x refl e
bind_then (Err d) f y e next = absurd cc

pub bind_ok : {A B : Type 0} (m : Meaning A) (f : A → Meaning B) (y : B) → (m >>= f) ≡ Ok y → (x : A) × (m ≡ Ok x) × (f x ≡ Ok y)
bind_ok (Ok x) f y e = (x, refl, e)
bind_ok (Err d) f y e = absurd cc

abbrev done : {A : Type 0} → A → Meaning A
done x = Ok x

pub ok_is : {A : Type 0} (x y : A) → done x ≡ done y → x ≡ y
ok_is x y e = cc

pub fits_ok : {A : Type 0} (path : List ℕ) (o : Option A) (x : A) → fits path o ≡ Ok x → o ≡ Some x
fits_ok path None x e = absurd cc
fits_ok path (Some y) x e = ap Some (ok_is y x e)

pub refuse_ok : (b : Bool) (f : SettingsFault) (x : Unit {0}) → refuse_if b f ≡ Ok x → b ≡ false
refuse_ok true f x e = absurd cc
refuse_ok false f x e = refl

-- ---- columns

kept_ok : {A : Type 0} (b : Bool) (n x : A) → cond b (Some n) None ≡ Some x → (b ≡ true) × (n ≡ x)
kept_ok true n x e = (refl, cc)
kept_ok false n x e = absurd cc

-- the two sides of a test
pub when_ok : {A : Type 0} (b : Bool) (x y : A) → cond b (Some x) None ≡ Some y → (b ≡ true) × (x ≡ y)
when_ok b x y e = kept_ok b x y e

pub unless_ok : {A : Type 0} (b : Bool) (o : Option A) (y : A) → cond b None o ≡ Some y → (b ≡ false) × (o ≡ Some y)
unless_ok true o y e = absurd cc
unless_ok false o y e = (refl, e)

pub or_left : (a b : Bool) → a ≡ true → (a || b) ≡ true
or_left true b e = refl
or_left false b e = absurd cc

in_range_ok : (low high : ℕ) (z : ℤ) (x : ℕ) → in_range low high z ≡ Some x → IsWithin low high x
in_range_ok low high (pos n) x e =
    let k = kept_ok (nat_le low n && nat_le n high) n x e in
    let p = and_parts (nat_le low n) (nat_le n high) k.0 in
    (omega (arith, leb-true low n p.0), omega (arith, leb-true n high p.1))
in_range_ok low high (negsuc n) x e = absurd cc

integer_ok : (low high : ℕ) (o : Option ℤ) (x : ℕ) → option_and_then (in_range low high) o ≡ Some x → IsWithin low high x
integer_ok low high None x e = absurd cc
integer_ok low high (Some z) x e = in_range_ok low high z x e

pub range_meets : (low high : ℕ) (d : Data) (x : ℕ) → range low high d ≡ Some x → IsWithin low high x
range_meets low high d x e = integer_ok low high (as_integer d) x e

-- ---- keys

module _ {A : Type 0} (P : A → Type 0) (column : Data → Option A) (meets : (d : Data) (x : A) → column d ≡ Some x → P x) where
  value_meets : (path : List ℕ) (d : Data) (x : A) → fits path (column d) ≡ Ok x → P x
  value_meets path d x e = meets d x (fits_ok path (column d) x e)

  required_value_meets : (path : List ℕ) (o : Option Data) (x : A) → required_value path column o ≡ Ok x → P x
  required_value_meets path None x e = absurd cc
  required_value_meets path (Some d) x e = value_meets path d x e

  pub required_meets : (at : Place) (key : List ℕ) (x : A) → required at key column ≡ Ok x → P x
  required_meets at key x e = required_value_meets (path at key) (get_member key at.members) x e

  default_value_meets : (path : List ℕ) (default : A) (o : Option Data) (x : A) → P default → default_value path column default o ≡ Ok x → P x
  default_value_meets path default None x h e = subst P (ok_is default x e) h
  default_value_meets path default (Some d) x h e = value_meets path d x e

  pub defaulted_meets : (at : Place) (key : List ℕ) (default x : A) → P default → defaulted at key column default ≡ Ok x → P x
  defaulted_meets at key default x h e = default_value_meets (path at key) default (get_member key at.members) x h e

  optional_value_meets : (path : List ℕ) (o : Option Data) (x : Option A) → optional_value path column o ≡ Ok x → IfSome x P
  optional_value_meets path None x e = let same : None ≡ x = ok_is None x e in subst (λ y. IfSome y P) same tt
  optional_value_meets path (Some d) x e =
      let a = bind_ok (fits path (column d)) (λ y. Ok (Some y)) x e in
      subst (λ y. IfSome y P) (ok_is (Some a.0) x a.2) (value_meets path d a.0 a.1)

  pub optional_meets : (at : Place) (key : List ℕ) (x : Option A) → optional at key column ≡ Ok x → IfSome x P
  optional_meets at key x e = optional_value_meets (path at key) (get_member key at.members) x e

pub required_range : (at : Place) (key : List ℕ) (low high x : ℕ) → required at key (range low high) ≡ Ok x → IsWithin low high x
required_range at key low high x e = required_meets (IsWithin low high) (range low high) (range_meets low high) at key x e

pub defaulted_range : (at : Place) (key : List ℕ) (low high default x : ℕ) → IsWithin low high default → defaulted at key (range low high) default ≡ Ok x → IsWithin low high x
defaulted_range at key low high default x h e = defaulted_meets (IsWithin low high) (range low high) (range_meets low high) at key default x h e

-- ---- lists

pub limited_ok : (path : List ℕ) (limit : ℕ) (ds es : List Data) → limited path limit ds ≡ Ok es → (ds ≡ es) × (length es ≤ limit)
limited_ok path limit ds es e = elim (cases_Bool (nat_lt limit (length ds))) [
  | inl over ↦ let bad : done es ≡ Err (OverLimit path) = sym e ∙ rw over refl in absurd cc
  | inr within ↦ let good : done ds ≡ done es = sym (rw within refl) ∙ e in let same : ds ≡ es = ok_is ds es good in (same, rw (← same) (ltb-false limit (length ds) within))
]

pub limited_items_ok : (at : Place) (key : List ℕ) (limit : ℕ) (es : List Data) → limited_items at key limit ≡ Ok es → length es ≤ limit
limited_items_ok at key limit es e =
    let a = bind_ok (items at key) (limited (path at key) limit) es e in
    (limited_ok (path at key) limit a.0 es a.2).1

some_items_ok : (path : List ℕ) (ds es : List Data) → some_items path ds ≡ Ok es → (ds ≡ es) × (1 ≤ length es)
some_items_ok path [] es e = absurd cc
some_items_ok path (d ∷ ds) es e = let same : d ∷ ds ≡ es = ok_is (d ∷ ds) es e in (same, rw (← same) (omega arith))

pub required_items_ok : (at : Place) (key : List ℕ) (limit : ℕ) (es : List Data) → required_items at key limit ≡ Ok es → IsWithin 1 limit (length es)
required_items_ok at key limit es e =
    let a = bind_ok (limited_items at key limit) (some_items (path at key)) es e in
    let b = some_items_ok (path at key) a.0 es a.2 in
    (b.1, rw (← b.0) (limited_items_ok at key limit a.0 a.1))

-- a list with one item more, which stands behind those before it
pub record Longer {A : Type 0} (P : List A → A → Type 0) (earlier longer : List A) : Type 0 where
  pub last : A
  pub is : longer ≡ earlier ++ last ∷ []
  pub meets : P earlier last

-- a list behind another one
pub record Behind {A : Type 0} (P : List A → A → Type 0) (earlier : List A) (count : ℕ) (all : List A) : Type 0 where
  pub list : List A
  pub is : all ≡ earlier ++ list
  pub meets : EachBehind P earlier list
  pub same_count : length list ≡ count

module _ {A : Type 0} (P : List A → A → Type 0) where
  none_behind : (earlier all : List A) → earlier ≡ all → Behind P earlier 0 all
  none_behind earlier all e = record { list = []; is = sym e ∙ sym (append-nil earlier); meets = tt; same_count = refl }

  one_behind : (earlier : List A) (x : A) (count : ℕ) (all : List A) → P earlier x → Behind P (earlier ++ x ∷ []) count all → Behind P earlier (suc count) all
  one_behind earlier x count all h b =
      record { list = x ∷ b.list; is = b.is ∙ append_assoc earlier (x ∷ []) b.list; meets = (h, b.meets); same_count = ap suc b.same_count }

  -- from an empty list
  pub from_none : (count : ℕ) (all : List A) → Behind P [] count all → EachBehind P [] all × (length all ≡ count)
  from_none count all b = (subst (EachBehind P []) (sym b.is) b.meets, ap length b.is ∙ b.same_count)

module _ {A : Type 0} (P : List A → A → Type 0) (row : List A → Place → Meaning A) (name : List ℕ) (meets : (earlier : List A) (at : Place) (x : A) → row earlier at ≡ Ok x → P earlier x) where
  pub each_meets : (earlier : List A) (ds : List Data) (all : List A) → each row name earlier ds ≡ Ok all → Behind P earlier (length ds) all
  each_meets earlier [] all e = none_behind P earlier all (ok_is earlier all e)
  each_meets earlier (d ∷ ds) all e =
      let a = bind_ok (row_place name (length earlier + 1) d) _ all e in
      let b = bind_ok (row earlier a.0) _ all a.2 in
      one_behind P earlier b.0 (length ds) all (meets earlier a.0 b.0 b.1) (each_meets (earlier ++ b.0 ∷ []) ds all b.2)

pub some_is : {A : Type 0} (x y : A) → Some x ≡ Some y → x ≡ y
some_is x y e = cc

module _ {A : Type 0} (P : List A → A → Type 0) (put : List A → Data → Option (List A)) (meets : (earlier : List A) (d : Data) (longer : List A) → put earlier d ≡ Some longer → Longer P earlier longer) where
  pub gathered_meets : (earlier : List A) (ds : List Data) (all : List A) → gathered put earlier ds ≡ Some all → Behind P earlier (length ds) all
  gathered_meets earlier [] all e = none_behind P earlier all (some_is earlier all e)
  gathered_meets earlier (d ∷ ds) all e =
      let a = then_some (λ longer. gathered put longer ds) (put earlier d) all e in
      let b = meets earlier d a.0 a.1 in
      let rest : Behind P (earlier ++ b.last ∷ []) (length ds) all = subst (λ l. Behind P l (length ds) all) b.is (gathered_meets a.0 ds all a.2) in
      one_behind P earlier b.last (length ds) all b.meets rest

pub listed_ok : {L : Type 0} (at : Place) (key : List ℕ) (limit : ℕ) (put : L → Data → Option L) (empty all : L) → listed at key limit put empty ≡ Ok all → (ds : List Data) × (length ds ≤ limit) × (gathered put empty ds ≡ Some all)
listed_ok at key limit put empty all e =
    bind_then (limited_items at key limit) _ all e (λ ds ds-is e0.
    (ds, limited_items_ok at key limit ds ds-is, fits_ok (path at key) (gathered put empty ds) all e0))

module _ {A : Type 0} (P : List A → A → Type 0) (put : List A → Data → Option (List A)) (meets : (earlier : List A) (d : Data) (longer : List A) → put earlier d ≡ Some longer → Longer P earlier longer) where
  pub listed_meets : (at : Place) (key : List ℕ) (limit : ℕ) (all : List A) → listed at key limit put [] ≡ Ok all → (length all ≤ limit) × EachBehind P [] all
  listed_meets at key limit all e =
      let a = listed_ok at key limit put [] all e in
      let b = from_none P (length a.0) all (gathered_meets P put meets [] a.0 all a.2) in
      (omega (arith, a.1, b.1), b.0)
