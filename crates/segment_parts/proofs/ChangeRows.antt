-- What each kind of change is read to, each change of a text is.
use Rattle.std.proofs.Common.{◌≡◌, ℕ, ◌+◌, ◌≤◌, Bool, true, false, cond, ◌&&◌, nat_le, nat_lt, List, [], ◌∷◌, ◌++◌, length, map, Option, Some, None, Ok, Err, IfOk, ℤ, pos, negsuc, refl, subst, codes}
use Rattle.std.specs.Prelude.{IfSome, nat_eq}
use Rattle.std.specs.Cmp.Lexicographic.{pointwise}
use Rattle.std.specs.List.{AllByRecursion}
use Rattle.std.proofs.lemmas.Bool.{leb-true, and_parts}
use Rattle.timeline.proofs.KnownEvents.{all-append}
use Rattle.toml.specs.Data.{Data, Members, get_member, as_integer, as_str}
use Rattle.config_text.specs.declared.fault.SettingsFault.TheVariants.{NotRising}
use Rattle.config_text.specs.Fault.{Meaning, ◌>>=◌}
use Rattle.config_text.specs.Column.{in_range, one_of, range, word_in}
use Rattle.config_text.specs.Table.{Place, each, fits, limited_items, numbered, only, optional, optional_value, path, refuse_if, required, required_value, row_place, top}
use Rattle.config_text.proofs.Addresses.{then_some}
use Rattle.overlay.specs.declared.settings.change.Change.{Change}
use Rattle.overlay.specs.declared.settings.change.TimedChange.{TimedChange}
use Rattle.overlay_config.specs.Document.{document}
use Rattle.overlay_config.specs.Change.{change_in, change_of, changes_in, changes_of, keys_of, kind_words, moment_before, most_changes}
use Rattle.noninterference.proofs.Lists.{all-map}

-- ---- steps

pub then-so : {A B : Type 0} (Q : B → Type 0) (m : Meaning A) (f : A → Meaning B) → ((x : A) → IfOk (f x) Q) → IfOk (m >>= f) Q
then-so Q (Ok x) f next = next x
then-so Q (Err fault) f next = tt

pub then-if : {A B : Type 0} (P : A → Type 0) (Q : B → Type 0) (m : Meaning A) (f : A → Meaning B) → IfOk m P → ((x : A) → P x → IfOk (f x) Q) → IfOk (m >>= f) Q
then-if P Q (Ok x) f own next = next x own
then-if P Q (Err fault) f own next = tt

-- ---- columns

module _ {A : Type 0} (P : A → Type 0) (column : Data → Option A) (meets : (d : Data) (x : A) → column d ≡ Some x → P x) where
  fits-if : (at : List ℕ) (d : Data) (o : Option A) → column d ≡ o → IfOk (fits at o) P
  fits-if at d None is = tt
  fits-if at d (Some x) is = meets d x is

  pub value-if : (at : List ℕ) (o : Option Data) → IfOk (required_value at column o) P
  value-if at None = tt
  value-if at (Some d) = fits-if at d (column d) refl

  pub optional-if : (at : List ℕ) (o : Option Data) → IfOk (optional_value at column o) (λ o. IfSome o P)
  optional-if at None = tt
  optional-if at (Some d) = then-if P (λ o. IfSome o P) (fits at (column d)) (λ x. Ok (Some x)) (fits-if at d (column d) refl) (λ x own. own)

pub in_range-is : (low high : ℕ) (z : ℤ) (x : ℕ) → in_range low high z ≡ Some x → (nat_le low x ≡ true) × (nat_le x high ≡ true)
in_range-is low high (pos n) x e = by (nat_le low n && nat_le n high) refl e
  where
    by : (b : Bool) → (nat_le low n && nat_le n high) ≡ b → cond b (Some n) None ≡ Some x → (nat_le low x ≡ true) × (nat_le x high ≡ true)
    by true is h = let same : n ≡ x = cc in subst (λ y. (nat_le low y ≡ true) × (nat_le y high ≡ true)) same (and_parts (nat_le low n) (nat_le n high) is)
    by false is h = absurd cc
in_range-is low high (negsuc n) x e = absurd cc

abbrev IsTold : ℕ → Type 0
IsTold moment = moment ≤ 4294967295999999999

moment-is : (d : Data) (x : ℕ) → range 0 4294967295999999999 d ≡ Some x → IsTold x
moment-is d x e =
    let a = then_some (in_range 0 4294967295999999999) (as_integer d) x e in
    leb-true x 4294967295999999999 (in_range-is 0 4294967295999999999 a.0 x a.2).1

-- ---- a change of each kind

-- of some words each stands for something of which this holds
word-if : {K : Type 0} (P : K → Type 0) (ws : List (List ℕ × K)) (s : List ℕ) (k : K) → AllByRecursion (λ w. P w.1) ws → word_in ws s ≡ Some k → P k
word-if P [] s k all e = absurd cc
word-if P (w ∷ ws) s k all e = by (pointwise nat_eq s w.0) e (λ h. word-if P ws s k all.1 h)
  where
    by : (b : Bool) → cond b (Some w.1) (word_in ws s) ≡ Some k → (word_in ws s ≡ Some k → P k) → P k
    by true h rest = let same : w.1 ≡ k = cc in subst P same all.0
    by false h rest = rest h

kind-is : {K : Type 0} (P : K → Type 0) (ws : List (List ℕ × K)) → AllByRecursion (λ w. P w.1) ws → (d : Data) (k : K) → one_of ws d ≡ Some k → P k
kind-is P ws all d k e = let a = then_some (word_in ws) (as_str d) k e in word-if P ws a.0 k all a.2

-- a change of this kind is so, wherever it stands
abbrev pub Reads : {K : Type 0} → (Change → Type 0) → (K → Place → Meaning Change) → K → Type 0
Reads Q change k = (at : Place) → IfOk (change k at) Q

-- ---- all changes

-- a change of which this holds, at a moment that a record can tell
abbrev pub IsTimed : (Change → Type 0) → TimedChange → Type 0
IsTimed Q c = Q c.change × (c.at ≤ 4294967295999999999)

module _ (Q : Change → Type 0) (kinds : AllByRecursion (λ w. Reads Q change_in w.1) kind_words) where
  row-if : (earlier : List TimedChange) (at : Place) → IfOk (change_of earlier at) (IsTimed Q)
  unfolding change_of
  row-if earlier at =
      then-if (Reads Q change_in) (IsTimed Q) (required at (codes "kind") (one_of kind_words)) _
      (value-if (Reads Q change_in) (one_of kind_words) (kind-is (Reads Q change_in) kind_words kinds) (path at (codes "kind")) (get_member (codes "kind") at.members))
      (λ kind reads.
      then-so (IsTimed Q) (only at (keys_of kind)) _ (λ known.
      then-if IsTold (IsTimed Q) (required at (codes "at") (range 0 4294967295999999999)) _
      (value-if IsTold (range 0 4294967295999999999) moment-is (path at (codes "at")) (get_member (codes "at") at.members))
      (λ moment early.
      then-if Q (IsTimed Q) (change_in kind at) _ (reads at) (λ change own.
      then-so (IsTimed Q) (refuse_if (nat_lt moment (moment_before earlier)) (NotRising (numbered (codes "change") (length earlier + 1)))) (λ rising. Ok (record { at = moment; change = change })) (λ rising. (own, early))))))

  each-if : (name : List ℕ) (earlier : List TimedChange) (ds : List Data) → AllByRecursion (IsTimed Q) earlier → IfOk (each change_of name earlier ds) (AllByRecursion (IsTimed Q))
  each-if name earlier [] all = all
  each-if name earlier (d ∷ ds) all =
      then-so (AllByRecursion (IsTimed Q)) (row_place name (length earlier + 1) d) _ (λ at.
      then-if (IsTimed Q) (AllByRecursion (IsTimed Q)) (change_of earlier at) _ (row-if earlier at) (λ x own.
      each-if name (earlier ++ x ∷ []) ds (all-append (IsTimed Q) earlier (x ∷ []) all (own, tt))))

  list-if : (members : Members) → IfOk (changes_of members) (AllByRecursion (IsTimed Q))
  unfolding changes_of
  list-if members =
      then-so (AllByRecursion (IsTimed Q)) (only (top members) (codes "version" ∷ codes "change" ∷ [])) _ (λ known.
      then-so (AllByRecursion (IsTimed Q)) (optional (top members) (codes "version") (range 2 2)) _ (λ version.
      then-so (AllByRecursion (IsTimed Q)) (limited_items (top members) (codes "change") (most_changes version)) (λ tables. each change_of (codes "change") [] tables) (λ tables. each-if (codes "change") [] tables tt)))

  given : (m : Meaning (List TimedChange)) (cs : List TimedChange) → IfOk m (AllByRecursion (IsTimed Q)) → m ≡ Ok cs → AllByRecursion (IsTimed Q) cs
  given m cs all is = subst (λ (r : Meaning (List TimedChange)). IfOk r (AllByRecursion (IsTimed Q))) is all

  -- so is each change of a text
  pub text-timed : (text : List ℕ) (cs : List TimedChange) → changes_in text ≡ Ok cs → AllByRecursion (IsTimed Q) cs
  text-timed text cs is = given (changes_in text) cs (then-so (AllByRecursion (IsTimed Q)) (document text) changes_of (λ members. list-if members)) is

-- and so without the moments
pub all-changes : (Q : Change → Type 0) (cs : List TimedChange) → AllByRecursion (IsTimed Q) cs → AllByRecursion Q (map (λ c. c.change) cs)
all-changes Q = all-map (IsTimed Q) Q (λ (c : TimedChange). c.change) (λ c timed. timed.0)
