-- The moment that the code reads is the moment that the matches mean.
use Rattle.std.proofs.Common.{◌≡◌, ap, refl, true, false, ℕ, List, Option, Some, None, arith, ◌^◌, ◌-◌}
use Rattle.std.specs.Prelude.{Result, Ok, Err, codes}
use Rattle.std.specs.Str.Parse.{ParsesUnsigned}
use Rattle.clap.specs.Matches.{ReadsOne, one_text}
use Rattle.clap.specs.ValueTests.{is_unsigned_in}
use Rattle.clap.specs.Words.{rows_of}
use Rattle.clap.specs.declared.parser.matches.Found.{Found}
use Rattle.clap.specs.declared.builder.ValueParser.TheVariants as vp
use Rattle.clap.proofs.ValueTestLemmas.{Accepts-accepts, accepts-Accepts}
use Rattle.command_line.specs.Meaning.{moment_in, moment_of}
use Rattle.command_line.proofs.Reading.{value_read}
use Rattle.command_line.proofs.Simple.{not_true}

module _ {E : Type 0} (G : List ℕ → Result ℕ E → Type 0) (only : (t : List ℕ) (r : Result ℕ E) → G t r → ParsesUnsigned 64 10 t r) where
  read : (t : List ℕ) (r : Option ℕ) → ReadsOne G t r → r ≡ moment_of t
  read t (Some n) h =
      let parsed = only t (Ok n) h in
      let is : is_unsigned_in 0 (2 ^ 64 - 1) t ≡ true = Accepts-accepts false (vp.Unsigned 0 (2 ^ 64 - 1)) t (parsed.0.0, omega arith, omega arith, omega arith) in
      rw is (ap Some parsed.1)
  read t None h =
      let no = only t (Err h.0) h.1 in
      let not : is_unsigned_in 0 (2 ^ 64 - 1) t ≡ false = not_true _ (λ yes.
      let a = accepts-Accepts false (vp.Unsigned 0 (2 ^ 64 - 1)) t yes in
      no (a.0, omega arith)) in
      rw not refl

  pub moment_read : (f : Found) (r : Option ℕ) → (one_text f (codes "tables-at") ≡ None → r ≡ None)
      → ((t : List ℕ) → one_text f (codes "tables-at") ≡ Some t → ReadsOne G t r)
      → r ≡ moment_in (rows_of f)
  moment_read f r none some = value_read moment_of (codes "tables-at") f r none (λ t e. read t r (some t e))
