-- The first fault of a text, and steps that stop at one. It states no standard.
use Rattle.std.specs.Prelude.{◌≡◌, Result, Ok, Err}
use Rattle.config_text.specs.declared.fault.SettingsFault.{SettingsFault}
use Rattle.config_text.specs.declared.fault.SettingsFault.TheVariants as faults

-- what a text or a part of it means, or its first fault
abbrev pub Meaning : Type 0 → Type 0
Meaning A = Result A SettingsFault

-- one step after the other, up to the first fault
infixl 10 ◌>>=◌
-- what a meaning is used for, or its fault
abbrev pub ◌>>=◌ : {A B : Type 0} → Meaning A → (A → Meaning B) → Meaning B
(Ok x) >>= f = f x
(Err e) >>= f = Err e

-- what a function returned, its value seen by view
abbrev pub seen : {A B : Type 0} → (A → B) → Meaning A → Meaning B
seen view (Ok x) = Ok (view x)
seen view (Err e) = Err e

-- what a function returned, seen by view, is the meaning, unless memory was refused
abbrev pub GivesAs : {A B : Type 0} → (A → B) → Meaning A → Meaning B → Type 0
GivesAs view (Ok x) meaning = meaning ≡ Ok (view x)
GivesAs view (Err faults.OutOfMemory) meaning = Unit {0}
GivesAs view (Err e) meaning = meaning ≡ Err e

-- what a function returned is the meaning, unless memory was refused
abbrev pub Gives : {A : Type 0} → Meaning A → Meaning A → Type 0
Gives result meaning = GivesAs (λ x. x) result meaning
