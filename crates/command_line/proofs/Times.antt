-- Texts of a number and a unit.
use Rattle.std.proofs.Common.{◌≡◌, ◌∙◌, ℕ, ◌*◌, ◌<◌, ◌++◌, List, Option, Some, None, sym, ap, subst}
use Rattle.std.specs.Prelude.{MatchOption}
use Rattle.std.specs.Option.{SomeIff}
use Rattle.std.proofs.lemmas.List.{append_cancel_right}
use Rattle.line_words.specs.Numbers.{number_of}
use Rattle.command_line.specs.Time.{IsIn, IsTime, size_of, word_of}
use Rattle.command_line.specs.declared.time.Unit.{Unit}
use Rattle.command_line.specs.declared.time.Unit.TheVariants as units

-- the digits of a text in a unit
same_digits : (unit : Unit) (text digits : List ℕ) (t : ℕ) → text ≡ digits ++ word_of unit → (is : IsIn unit text t) → number_of digits ≡ Some is.count
same_digits unit text digits t whole is =
    ap number_of (append_cancel_right digits is.digits (word_of unit) (sym whole ∙ is.text_is)) ∙ is.digits_are

-- digits that are no number
pub no_number : (unit : Unit) (text digits : List ℕ) → text ≡ digits ++ word_of unit → number_of digits ≡ None → (t : ℕ) → IsIn unit text t → ⊥
no_number unit text digits whole none t is = let read = same_digits unit text digits t whole is in absurd cc

-- digits that are one
pub counted : (unit : Unit) (text digits : List ℕ) (count : ℕ) (r : Option ℕ) → text ≡ digits ++ word_of unit → number_of digits ≡ Some count
    → SomeIff r (count * size_of unit < 18446744073709551616) (count * size_of unit) → MatchOption r ((t : ℕ) → IsIn unit text t → ⊥) (λ t. IsIn unit text t)
counted unit text digits count None whole some told = λ t is.
    let read = same_digits unit text digits t whole is in
    let same : is.count ≡ count = cc in
    told (subst (λ n. n < 18446744073709551616) (is.time_is ∙ ap (λ n. n * size_of unit) same) is.small)
counted unit text digits count (Some t) whole some told =
    record { digits = digits; count = count; text_is = whole; digits_are = some; time_is = told.1; small = subst (λ n. n < 18446744073709551616) (sym told.1) told.0 }

-- none is a time in any unit but the last, so it is one in that or none
pub none_of : (text : List ℕ) (r : Option ℕ) → ((t : ℕ) → IsIn units.Nanosecond text t → ⊥) → ((t : ℕ) → IsIn units.Microsecond text t → ⊥) → ((t : ℕ) → IsIn units.Millisecond text t → ⊥)
    → MatchOption r ((t : ℕ) → IsIn units.Second text t → ⊥) (λ t. IsIn units.Second text t) → MatchOption r ((t : ℕ) → IsTime text t → ⊥) (λ t. IsTime text t)
none_of text None nano micro milli second = λ t is. by t is.0 is.1
  where
    by : (t : ℕ) (unit : Unit) → IsIn unit text t → ⊥
    by t units.Nanosecond is = nano t is
    by t units.Microsecond is = micro t is
    by t units.Millisecond is = milli t is
    by t units.Second is = second t is
none_of text (Some t) nano micro milli second = (units.Second, second)
