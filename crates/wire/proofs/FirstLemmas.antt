-- Laws of the first that holds.
use Rattle.std.proofs.Common.{◌≡◌, Bool, true, false, List, [], ◌∷◌, ◌++◌, Option, Some, None, Result, Ok, refl, ◌∙◌}
use Rattle.std.specs.List.{AllByRecursion}
use Rattle.wire.specs.First.{first, unless}

-- a row whose test fails is passed over
pub first-skip : {A : Type 0} (x : A) (b : Bool) (rows : List (A × Bool)) → b ≡ false → first ((x, b) ∷ rows) ≡ first rows
first-skip x true rows h = absurd cc
first-skip x false rows h = refl

-- where nothing holds, the first row doesn't, and none behind it
pub first-none : {A : Type 0} (x : A) (b : Bool) (rows : List (A × Bool)) → first ((x, b) ∷ rows) ≡ None → (b ≡ false) × (first rows ≡ None)
first-none x true rows h = absurd cc
first-none x false rows h = (refl, h)

-- a row whose test holds is the answer
pub first-here : {A : Type 0} (x : A) (b : Bool) (rows : List (A × Bool)) → b ≡ true → first ((x, b) ∷ rows) ≡ Some x
first-here x true rows h = refl
first-here x false rows h = absurd cc

pub first-append : {A : Type 0} (rows others : List (A × Bool)) → first rows ≡ None → first (rows ++ others) ≡ first others
first-append [] others h = refl
first-append (a ∷ rows) others h =
    let p = first-none a.0 a.1 rows h in
    first-skip a.0 a.1 (rows ++ others) p.0 ∙ first-append rows others p.1

-- every test fails, one fact for each row
abbrev pub NothingHolds : {A : Type 0} → List (A × Bool) → Type 0
NothingHolds rows = AllByRecursion (λ row. row.1 ≡ false) rows

pub NothingHolds-from : {A : Type 0} (rows : List (A × Bool)) → first rows ≡ None → NothingHolds rows
NothingHolds-from [] h = tt
NothingHolds-from (row ∷ rows) h =
    let p = first-none row.0 row.1 rows h in
    (p.0, NothingHolds-from rows p.1)

pub first-nothing : {A : Type 0} (rows : List (A × Bool)) → NothingHolds rows → first rows ≡ None
first-nothing [] h = refl
first-nothing (row ∷ rows) h = first-skip row.0 row.1 rows h.0 ∙ first-nothing rows h.1

-- where something is told, there is no fault
pub unless-ok : {A E : Type 0} (o : Option E) (r : Result A E) (x : A) → unless o r ≡ Ok x → (o ≡ None) × (r ≡ Ok x)
unless-ok (Some fault) r x h = absurd cc
unless-ok None r x h = (refl, h)

pub same_Ok : {A E : Type 0} (x y : A) → ◌≡◌ {A = Result A E} (Ok x) (Ok y) → x ≡ y
same_Ok x y h = cc
