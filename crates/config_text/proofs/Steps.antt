-- Steps that answered: each reading behind them did, and this is what it gave.
use Rattle.std.proofs.Common.{◌≡◌, Bool, true, false, cond, Option, Some, None, option_map, option_and_then, refl, sym, ap, ◌∙◌}
use Rattle.config_text.specs.Address.{kept_if}

pub same_Some : {X : Type 0} (x y : X) → Some x ≡ Some y → x ≡ y
same_Some x y h = cc

pub cond_some : {X : Type 0} (b : Bool) (x y : X) → cond b (Some x) None ≡ Some y → (b ≡ true) × (x ≡ y)
cond_some true x y e = (refl, same_Some x y e)
cond_some false x y e = absurd cc

pub cond_kept : {X : Type 0} (b : Bool) (o : Option X) (y : X) → cond b o None ≡ Some y → (b ≡ true) × (o ≡ Some y)
cond_kept true o y e = (refl, e)
cond_kept false o y e = absurd cc

pub cond_other : {X : Type 0} (b : Bool) (o : Option X) (y : X) → cond b None o ≡ Some y → (b ≡ false) × (o ≡ Some y)
cond_other true o y e = absurd cc
cond_other false o y e = (refl, e)

pub kept_some : {A : Type 0} (test : A → Bool) (o : Option A) (x : A) → kept_if test o ≡ Some x → (o ≡ Some x) × (test x ≡ true)
kept_some test None x e = absurd cc
kept_some test (Some y) x e = let k = cond_some (test y) y x e in (ap Some k.1, ap test (sym k.1) ∙ k.0)

pub then_some : {A B : Type 0} (f : A → Option B) (o : Option A) (x : B) → option_and_then f o ≡ Some x → (y : A) × (o ≡ Some y) × (f y ≡ Some x)
then_some f None x e = absurd cc
then_some f (Some y) x e = (y, refl, e)

pub map_some : {A B : Type 0} (f : A → B) (o : Option A) (x : B) → option_map f o ≡ Some x → (y : A) × (o ≡ Some y) × (f y ≡ x)
map_some f None x e = absurd cc
map_some f (Some y) x e = (y, refl, same_Some (f y) x e)
