-- The depth that the code reads is the depth that the matches mean.
use Rattle.std.proofs.Common.{◌≡◌, ap, refl, ℕ, Bool, true, false, List, Option, Some, None, arith, ◌&&◌, ◌≤◌}
use Rattle.std.specs.Prelude.{Result, Ok, Err, option_and_then, codes, nat_le}
use Rattle.std.specs.Str.Parse.{ParsesUnsigned}
use Rattle.std.proofs.lemmas.Bool.{leb-true, le-leb}
use Rattle.clap.specs.Matches.{ReadsOne, one_text}
use Rattle.clap.specs.ValueTests.{is_unsigned_in}
use Rattle.clap.specs.Words.{rows_of}
use Rattle.clap.specs.declared.parser.matches.Found.{Found}
use Rattle.clap.specs.declared.builder.ValueParser.TheVariants as vp
use Rattle.clap.proofs.ValueTestLemmas.{Accepts-accepts, accepts-Accepts}
use Rattle.clap.proofs.WalkLemmas.{both}
use Rattle.command_line.specs.Meaning.{depth_in, depth_of, small_depth}
use Rattle.command_line.proofs.Reading.{value_read}
use Rattle.command_line.proofs.Simple.{not_true}

module _ {E : Type 0} (G : List ℕ → Result ℕ E → Type 0) (only : (t : List ℕ) (r : Result ℕ E) → G t r → ParsesUnsigned 8 10 t r) where
  read : (t : List ℕ) (r : Option ℕ) → ReadsOne G t r → option_and_then small_depth r ≡ depth_of t
  read t (Some n) h =
      let parsed = only t (Ok n) h in
      go (nat_le 1 n && nat_le n 4) refl
    where
      go : (b : Bool) → (nat_le 1 n && nat_le n 4) ≡ b → small_depth n ≡ depth_of t
      go true e =
          let parts = both (nat_le 1 n) (nat_le n 4) e in
          let parsed = only t (Ok n) h in
          let low : 1 ≤ n = leb-true _ _ parts.0 in
          let high : n ≤ 4 = leb-true _ _ parts.1 in
          let is : is_unsigned_in 1 4 t ≡ true = Accepts-accepts false (vp.Unsigned 1 4) t (parsed.0.0, omega arith, omega arith, omega arith) in
          rw (e, is) (ap Some parsed.1)
      go false e =
          let parsed = only t (Ok n) h in
          let not : is_unsigned_in 1 4 t ≡ false = not_true _ (λ yes.
          let a = accepts-Accepts false (vp.Unsigned 1 4) t yes in
          let low : 1 ≤ n = omega arith in
          let high : n ≤ 4 = omega arith in
          let is : (nat_le 1 n && nat_le n 4) ≡ true = rw (le-leb 1 n low, le-leb n 4 high) refl in
          let bad : false ≡ true = rw e at is in cc) in
          rw (e, not) refl
  read t None h =
      let no = only t (Err h.0) h.1 in
      let not : is_unsigned_in 1 4 t ≡ false = not_true _ (λ yes.
      let a = accepts-Accepts false (vp.Unsigned 1 4) t yes in
      no (a.0, omega arith)) in
      rw not refl

  pub depth_read : (f : Found) (r : Option ℕ) → (one_text f (codes "depth") ≡ None → r ≡ None)
      → ((t : List ℕ) → one_text f (codes "depth") ≡ Some t → ReadsOne G t r)
      → option_and_then small_depth r ≡ depth_in (rows_of f)
  depth_read f r none some =
      value_read depth_of (codes "depth") f (option_and_then small_depth r) (λ e. ap (option_and_then small_depth) (none e)) (λ t e. read t r (some t e))
