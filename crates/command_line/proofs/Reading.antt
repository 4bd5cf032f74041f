-- What the code reads of the one value of an argument is what the matches mean.
use Rattle.std.proofs.Common.{◌≡◌, ◌∙◌, sym, refl, ℕ, List, Option, Some, None}
use Rattle.std.specs.Prelude.{option_and_then}
use Rattle.clap.specs.Matches.{one_text}
use Rattle.clap.specs.Words.{one_of, rows_of}
use Rattle.clap.specs.declared.parser.matches.Found.{Found}
use Rattle.clap.proofs.WalkLemmas.{one_text-rows}

pub value_read : (of : List ℕ → Option ℕ) (id : List ℕ) (f : Found) (r : Option ℕ) → (one_text f id ≡ None → r ≡ None)
    → ((t : List ℕ) → one_text f id ≡ Some t → r ≡ of t) → r ≡ option_and_then of (one_of id (rows_of f))
value_read of id f r none some = go (one_text f id) refl
  where
    go : (o : Option (List ℕ)) → one_text f id ≡ o → r ≡ option_and_then of (one_of id (rows_of f))
    go None e =
        let row : one_of id (rows_of f) ≡ None = sym (one_text-rows f id) ∙ e in
        rw (none e, row) refl
    go (Some t) e =
        let row : one_of id (rows_of f) ≡ Some t = sym (one_text-rows f id) ∙ e in
        rw row (some t e)
